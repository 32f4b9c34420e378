-- What calls that write answer and leave: what keeps their promise, what a kept promise says, and "given exactly when".
-- Assumes nothing.
use Prim.Native.Nat.{ℕ, ◌≤◌, ◌<◌}
use native.Mathlib.Omega.{arith}
use mathlib.Core.Path.{◌≡◌, refl, sym, ap, ◌∙◌}
use mathlib.Core.Bool.{Bool, true, false, not, cond}
use mathlib.Core.List.{List, [], ◌∷◌, ◌++◌}
use mathlib.Core.Logic.Iff
use mathlib.Core.Logic.{◌↔◌}
use lib.ListN.{length, take, drop}
use lib.Seq.{take_at, drop_at}
use lib.Dec.{leb}
use borrow.Author.Tests.{le-leb, lt-leb}
use Rattle.rule.specs.Refusals.{among, Numbered, refuse_if, or_else}
use Rattle.rule.specs.Given.{Table, NoRow, NoRows, Given, done, refused, Ends}
use Rattle.rule.specs.Putting.{settled_by, output_by, PutPromise, OneWritten, Put, put_order, written_told}
use Rattle.rule.specs.declared.Refusal.{Refusal}
use Rattle.rule.specs.declared.Refusal.TheVariants.{Room}
use Rattle.rule.proofs.BoolLaws.{fails_say, le_fails}
use Rattle.rule.proofs.NumberLaws.{Gives, among_ahead, among_last}
use Rattle.rule.proofs.RefusalLaws.{not_both}
use Rattle.rule.proofs.TableLaws.{Within, Answers, end, sound_exactly, after_within, after}
use Rattle.rule.specs.Verdict.{Verdict, Written}
use Rattle.std.specs.Prelude.{Ok, Err}

-- what keeps the promise: refused as the verdict is, refused for room, or done

module _ {v : Verdict} {bytes out : List ℕ} where
  pub keeps_refused : {r : Refusal} → v ≡ Err r → PutPromise v bytes out (Err r) out
  keeps_refused e = record { answer = rw e; output = rw e }

  module _ (e : v ≡ Ok tt) where
    pub keeps_no_room : length out < length bytes → PutPromise v bytes out (Err Room) out
    keeps_no_room h = record { answer = rw (e, lt-leb (length bytes) (length out) h); output = rw (e, lt-leb (length bytes) (length out) h) }

    pub keeps_done : {n : ℕ} {out' : List ℕ} → n ≡ length bytes → n ≤ length out → out' ≡ bytes ++ drop n out → PutPromise v bytes out (Ok n) out'
    keeps_done q h o =
        let fits = le-leb (length bytes) (length out) (rw q at h) in
        record { answer = rw (e, fits, q); output = rw (e, fits, ← q) o }

-- what a kept promise says: a refusal has one of the numbers, and leaves the output as it was
pub put_numbered : {order : List ℕ} (v : Verdict) → Gives order v → (size room : ℕ) (x : Refusal) → settled_by v size room ≡ Err x
    → Numbered (put_order order) x
put_numbered {order} (Ok _) g size room x p = by (leb size room) p
  where
    by : (b : Bool) → cond b (Ok size) (Err Room) ≡ Err x → Numbered (put_order order) x
    by true q = absurd (let z : ◌≡◌ {A = ℕ} 0 1 = cc in omega arith)
    by false q = let e : Room ≡ x = cc in record { one_of = rw (← e) (among_last 16 order) }
put_numbered {order} (Err y) g size room x p =
    record { one_of = among_ahead _ order (16 ∷ []) (g x (let e : y ≡ x = cc in ap Err e)).one_of }

pub put_kept : (v : Verdict) (bytes out : List ℕ) (x : Refusal) (out' : List ℕ) → PutPromise v bytes out (Err x) out' → out' ≡ out
put_kept v bytes out x out' p = p.output ∙ ap (λ (w : Written). output_by w bytes out) (sym p.answer)

pub put_one : (v : Verdict) (bytes out : List ℕ) → OneWritten (PutPromise v bytes out)
put_one v bytes out =
    record {
      answer = settled_by v (length bytes) (length out);
      output = output_by (settled_by v (length bytes) (length out)) bytes out;
      kept = record { answer = refl; output = refl };
      only = λ w out' p. (p.answer, p.output);
    }

-- bytes that were put: the verdict is sound, and they stand at the front
pub record WasPut (v : Verdict) (bytes out : List ℕ) (n : ℕ) (out' : List ℕ) : Type 0 where
  pub sound : v ≡ Ok tt
  pub size : n ≡ length bytes
  pub front : take n out' ≡ bytes
  pub others : drop n out' ≡ drop n out

settled_done : (v : Verdict) (size room n : ℕ) → Ok n ≡ settled_by v size room → (v ≡ Ok tt) × (n ≡ size)
settled_done (Ok _) size room n p = (refl, by (leb size room) p)
  where
    by : (b : Bool) → Ok n ≡ cond b (Ok size) (Err Room) → n ≡ size
    by true q = cc
    by false q = absurd (let z : ◌≡◌ {A = ℕ} 0 1 = cc in omega arith)
settled_done (Err y) size room n p = absurd (let z : ◌≡◌ {A = ℕ} 0 1 = cc in omega arith)

pub put_done : (v : Verdict) (bytes out : List ℕ) (n : ℕ) (out' : List ℕ) → PutPromise v bytes out (Ok n) out' → WasPut v bytes out n out'
put_done v bytes out n out' p =
    let s = settled_done v (length bytes) (length out) n p.answer in
    let o : out' ≡ bytes ++ drop n out = p.output ∙ ap (λ (w : Written). output_by w bytes out) (sym p.answer) in
    record {
      sound = s.0;
      size = s.1;
      front = ap (take n) o ∙ take_at bytes (drop n out) n (sym s.1);
      others = ap (drop n) o ∙ drop_at bytes (drop n out) n (sym s.1);
    }

-- where the verdict is sound and there is room, they are put
pub put_room : (v : Verdict) (bytes out : List ℕ) (w : Written) (out' : List ℕ) → v ≡ Ok tt → length bytes ≤ length out → PutPromise v bytes out w out'
    → (w ≡ Ok (length bytes)) × (out' ≡ bytes ++ drop (length bytes) out)
put_room v bytes out w out' s h p =
    let e : settled_by v (length bytes) (length out) ≡ Ok (length bytes) = rw (s, le-leb (length bytes) (length out) h) in
    (p.answer ∙ e, p.output ∙ ap (λ (x : Written). output_by x bytes out) e)

-- "given exactly when": of any table that the verdict answers, and then 16

-- a verdict as the answer of such a call
abbrev spoken : ℕ → Verdict → Written
spoken size (Ok _) = Ok size
spoken size (Err x) = Err x

settled_spoken : (v : Verdict) (size room : ℕ) → settled_by v size room ≡ spoken size (or_else v (refuse_if (not (leb size room)) Room))
settled_spoken (Ok _) size room = by (leb size room)
  where
    by : (b : Bool) → cond b (Ok size) (Err Room) ≡ spoken size (refuse_if (not b) Room)
    by true = refl
    by false = refl
settled_spoken (Err x) size room = refl

spoken_refused : (size : ℕ) (v : Verdict) (x : Refusal) → (spoken size v ≡ Err x) ↔ (v ≡ Err x)
spoken_refused size (Ok _) x = (λ p. absurd (let z : ◌≡◌ {A = ℕ} 0 1 = cc in omega arith), not_both refl)
spoken_refused size (Err y) x = (λ p. cc, λ p. cc)

spoken_done : (size : ℕ) (v : Verdict) (n : ℕ) → (spoken size v ≡ Ok n) ↔ ((v ≡ Ok tt) × (n ≡ size))
spoken_done size (Ok _) n = (λ p. (refl, cc), λ p. cc)
spoken_done size (Err y) n = (λ p. absurd (let z : ◌≡◌ {A = ℕ} 0 1 = cc in omega arith), λ p. not_both p.0 refl)

module _ {T : Table} {order : List ℕ} {v : Verdict} {bytes out : List ℕ} {w : Written} {out' : List ℕ} (within : Within order T)
    (new : among 16 order ≡ false) (a : Answers T order v) (kept : PutPromise v bytes out w out') where
  abbrev call : Table
  call = Put T (length bytes) (length out)

  call_within : Within (put_order order) call
  call_within = after_within order within 16 Room new (length out < length bytes) refl

  all : Answers call (put_order order) (or_else v (refuse_if (not (leb (length bytes) (length out))) Room))
  all = after order within 16 Room new (length out < length bytes) v (fails_say (le_fails (length bytes) (length out))) a

  said : w ≡ spoken (length bytes) (or_else v (refuse_if (not (leb (length bytes) (length out))) Room))
  said = kept.answer ∙ settled_spoken v (length bytes) (length out)

  pub put_gives : (x : Refusal) → (w ≡ Err x) ↔ Given call x (put_order order)
  put_gives x = rw said (Iff.trans (spoken_refused (length bytes) _ x) (all.gives x))

  pub put_does : (n : ℕ) → (w ≡ Ok n) ↔ (NoRow call × (n ≡ length bytes))
  put_does n = rw said (Iff.trans (spoken_done (length bytes) _ n) (Iff.and (sound_exactly call_within all) Iff.rfl))

  -- how such a call ends: a refused one leaves the output as it was
  pub put_ends : Ends call (put_order order) (written_told w) (out' ≡ out)
  put_ends = by w kept put_gives put_does
    where
      by : (w : Written) → PutPromise v bytes out w out' → ((x : Refusal) → (w ≡ Err x) ↔ Given call x (put_order order))
          → ((n : ℕ) → (w ≡ Ok n) ↔ (NoRow call × (n ≡ length bytes))) → Ends call (put_order order) (written_told w) (out' ≡ out)
      by (Ok n) kept gives does = record { tells = done ((does n).0 refl).0; rest = λ n. absurd (n refl) }
      by (Err x) kept gives does = record { tells = refused ((gives x).0 refl); rest = λ n. put_kept v bytes out x out' kept }

-- bytes that are put unchecked: 16 where they do not fit, and nothing else

none_within : Within [] NoRows
none_within n x r = elim r [ ]

module _ {bytes out : List ℕ} {w : Written} {out' : List ℕ} (kept : PutPromise (Ok tt) bytes out w out') where
  abbrev filled : Table
  filled = Put NoRows (length bytes) (length out)

  pub only_room_gives : (x : Refusal) → (w ≡ Err x) ↔ Given filled x (put_order [])
  only_room_gives = put_gives none_within refl end kept

  pub only_room_does : (n : ℕ) → (w ≡ Ok n) ↔ (NoRow filled × (n ≡ length bytes))
  only_room_does = put_does none_within refl end kept

  pub only_room_ends : Ends filled (put_order []) (written_told w) (out' ≡ out)
  only_room_ends = put_ends none_within refl end kept
