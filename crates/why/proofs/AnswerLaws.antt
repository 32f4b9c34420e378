-- What an answer says, in the request's words: the promise keeps it.
-- Assumes nothing.
use Prim.Native.Nat.{ℕ, ◌≤◌, ◌<◌}
use native.Mathlib.Omega.{arith}
use mathlib.Core.Path.{subst, ◌≡◌, refl, sym, ap, ◌∙◌}
use mathlib.Core.List.{List, [], ◌++◌}
use lib.ListN.{length, drop}
use borrow.Author.Tests.{leb-false}
use Rattle.rule.specs.Drawing.{Drawing, states, events, next}
use Rattle.rule.specs.Operations.{operation_at}
use Rattle.rule.specs.Putting.{output_by, PutPromise}
use Rattle.rule.specs.WellDrawn.{WellDrawn}
use Rattle.rule.specs.declared.Operation.{Operation}
use Rattle.rule.specs.declared.Operation.TheVariants.{Halt, Store, Dump}
use Rattle.rule.specs.declared.Refusal.{Refusal}
use Rattle.rule.specs.declared.Refusal.TheVariants.{Run, Code, Room}
use Rattle.rule.proofs.BoolLaws.{clash}
use Rattle.rule.proofs.PutLaws.{put_done, put_room}
use Rattle.rule.proofs.RefusalLaws.{first_sound, refuse_sound, sound_or}
use Rattle.rule.proofs.TableLaws.{numbers}
use Rattle.rulefile.specs.Layout.{drawing_in}
use Rattle.rulefile.specs.Reading.{verdict_on}
use Rattle.rulefile.proofs.PartsLaws.{sound_file}
use Rattle.rulefile.proofs.WellLaws.{file_well}
use Rattle.why.specs.Grounds.{lost_pair, wanted_pair, way_for, way_told}
use Rattle.why.specs.Why.{Names, halt, store, dump, Says, halted, held, released, why_verdict, ground_by, WhyPromise}
use Rattle.why.specs.declared.Ground.{Ground}
use Rattle.why.proofs.GivenLaws.{why_within, why_answers, refused_as}
use Rattle.why.proofs.GroundLaws.{halt_ground, store_ground, store_none, dump_met, way_few}
use Rattle.rule.specs.Verdict.{Verdict, Written}
use Rattle.std.specs.Prelude.{Ok, Err, Result}

-- a call that is not refused is about a sound file, one of its states and one of its events
pub record Accepted (f : List ℕ) (s e : ℕ) : Type 0 where
  pub sound : verdict_on f ≡ Ok tt
  pub well : WellDrawn (drawing_in f)
  pub state_in : s < states (drawing_in f)
  pub event_in : e < events (drawing_in f)

pub accepted : (f : List ℕ) (s e : ℕ) → why_verdict f s e ≡ Ok tt → Accepted f s e
unfolding why_verdict
accepted f s e q =
    let a = (first_sound _ _).0 q in
    let b = (first_sound _ _).0 a.1 in
    let c = (first_sound _ _).0 b.1 in
    record {
      sound = a.0;
      well = file_well f (sound_file f a.0);
      state_in = leb-false _ s ((refuse_sound _ Run).0 b.0);
      event_in = leb-false _ e ((refuse_sound _ Code).0 c.0);
    }

ok_one : {g h : Ground} → ◌≡◌ {A = Result Ground Refusal} (Ok g) (Ok h) → h ≡ g
ok_one e = cc

module _ (d : Drawing) (well : WellDrawn d) (t : ℕ) (h : t < states d) (v : Verdict) (out : List ℕ) (out' : List ℕ) where
  module _ (n : ℕ) (p : PutPromise v (way_told d t) out (Ok n) out') where
    whole : out' ≡ way_told d t ++ drop n out
    whole = p.output ∙ ap (λ (w : Written). output_by w (way_told d t) out) (sym p.answer)

    size : n ≡ length (way_told d t)
    size = (put_done v (way_told d t) out n out' p).size

    nothing : way_told d t ≡ [] → out' ≡ out
    nothing q = let z : n ≡ 0 = size ∙ rw q in whole ∙ rw (q, z)

  says_by : (g : Ground) (w : Written) (o : Operation) → operation_at d t ≡ o → PutPromise v (way_told d t) out w out' → {g : Ground} → Ok g ≡ ground_by w o (lost_pair d t) (wanted_pair d t) → Says d t out out' g
  unfolding way_told
  says_by g (Err r) o q p is = absurd (let z : ◌≡◌ {A = ℕ} 0 1 = cc in omega arith)
  says_by g (Ok n) Halt q p is = subst (Says d t out out') (ok_one is) (halted (halt_ground d well t h q) (nothing n p (rw q)))
  says_by g (Ok n) Store q p is =
      let e : way_told d t ≡ way_for d t = rw q in
      subst (Says d t out out') (ok_one is) (held (way_for d t) (store_none d well t h q) (store_ground d well t h q) (size n p ∙ ap length e) (whole n p ∙ rw e))
  says_by g (Ok n) Dump q p is = subst (Says d t out out') (ok_one is) (released (dump_met d well t h q) (nothing n p (rw q)))

names_by : {g : Ground} (w : Written) (o : Operation) (lost wanted : ℕ) → Ok g ≡ ground_by w o lost wanted → Names g o
names_by (Err r) o lost wanted is = absurd (let z : ◌≡◌ {A = ℕ} 0 1 = cc in omega arith)
names_by {g} (Ok n) Halt lost wanted is = subst (λ g. Names g Halt) (ok_one is) halt
names_by {g} (Ok n) Store lost wanted is = subst (λ g. Names g Store) (ok_one is) store
names_by {g} (Ok n) Dump lost wanted is = subst (λ g. Names g Dump) (ok_one is) dump

module _ (f : List ℕ) (s e : ℕ) (out : List ℕ) (g : Ground) (out' : List ℕ) (kept : WhyPromise f s e out (Ok g) out') where
  pub was_accepted : Accepted f s e
  was_accepted = accepted f s e (by kept.written kept.put kept.answer)
    where
      by : (w : Written) → PutPromise (why_verdict f s e) (way_told (drawing_in f) (next (drawing_in f) s e)) out w out'
          → Ok g ≡ ground_by w (operation_at (drawing_in f) (next (drawing_in f) s e)) (lost_pair (drawing_in f) (next (drawing_in f) s e))
          (wanted_pair (drawing_in f) (next (drawing_in f) s e)) → why_verdict f s e ≡ Ok tt
      by (Ok n) p i = (put_done _ _ out n out' p).sound
      by (Err x) p i = absurd (let z : ◌≡◌ {A = ℕ} 0 1 = cc in omega arith)

  pub why_says : Says (drawing_in f) (next (drawing_in f) s e) out out' g
  why_says =
      let a = was_accepted in
      says_by (drawing_in f) a.well (next (drawing_in f) s e) (a.well.closed s e a.state_in a.event_in) _ out out'
      g kept.written _ refl kept.put kept.answer

  -- the operation that it names is that of the move
  pub why_names : Names g (operation_at (drawing_in f) (next (drawing_in f) s e))
  why_names = names_by kept.written _ _ _ kept.answer

-- 63 bytes of room are always enough
told_few : (d : Drawing) (well : WellDrawn d) (t : ℕ) (h : t < states d) (o : Operation) → operation_at d t ≡ o → length (way_told d t) ≤ 63
unfolding way_told
told_few d well t h Halt o = rw o (omega arith)
told_few d well t h Store o = rw o (omega (arith, way_few d well t h (store_ground d well t h o), well.few_states))
told_few d well t h Dump o = rw o (omega arith)

pub why_room : (f : List ℕ) (s e : ℕ) (out : List ℕ) (g : Result Ground Refusal) (out' : List ℕ) → WhyPromise f s e out g out' → 63 ≤ length out → g ≡ Err Room → ⊥
why_room f s e out g out' kept long q =
    let d = drawing_in f in
    let t = next d s e in
    let w : kept.written ≡ Err Room = (refused_as kept.written _ _ _ Room).0 (sym kept.answer ∙ q) in
    sound_or (why_verdict f s e)
    (λ v.
    let a = accepted f s e v in
    let few = told_few d a.well t (a.well.closed s e a.state_in a.event_in) (operation_at d t) refl in
    let r = (put_room (why_verdict f s e) (way_told d t) out kept.written out' v (omega arith) kept.put).0 in
    let z : ◌≡◌ {A = ℕ} 0 1 = cc in
    absurd (omega arith))
    (λ r v.
    let k : Err Room ≡ Err r = sym w ∙ kept.put.answer ∙ rw v in
    let same : r ≡ Room = cc in
    clash (numbers (why_within f s e) (why_answers f s e) Room (v ∙ ap Err same)).one_of refl)
