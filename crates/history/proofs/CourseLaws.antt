-- Every course of a machine that has the laws keeps demand 3: proved once, for any way to choose the operation.
-- Assumes nothing.
use Prim.Native.Nat.{ℕ, ◌<◌, ◌≤◌}
use native.Mathlib.Omega.{arith}
use native.Mathlib.Decide.{dec_le}
use mathlib.Core.Path.{◌≡◌, refl, sym, ap, ◌∙◌}
use mathlib.Core.Bool.{true}
use mathlib.Core.List.{List, [], ◌∷◌, ◌++◌, append_assoc, append-nil}
use mathlib.Core.Logic.{◌⊎◌, inl, inr, ⊎_elim}
use lib.ListN.{length, take, length-append}
use lib.Seq.{take_all, take-append-le, take-append_seam}
use Rattle.rule.specs.Reach.{after}
use Rattle.rule.specs.Machine.{Machine, accepts_by, Laws, Sharp}
use Rattle.rule.specs.declared.Operation.{Operation}
use Rattle.rule.specs.declared.Operation.TheVariants.{Halt, Store, Dump}
use Rattle.history.specs.Course.{Entry, codes, until_halt, before_halt, released_by, held_by, Course, start, step, Longest, Kept, KeptSharp}

pub codes_append : (a b : List Entry) → codes (a ++ b) ≡ codes a ++ codes b
codes_append [] b = refl
codes_append (x ∷ a) b = ap (λ (l : List ℕ). x.code ∷ l) (codes_append a b)

-- no two operations are equal
pub halt_store : {o : Operation} → o ≡ Halt → o ≡ Store → ⊥
halt_store p q = cc

pub halt_dump : {o : Operation} → o ≡ Halt → o ≡ Dump → ⊥
halt_dump p q = cc

pub store_dump : {o : Operation} → o ≡ Store → o ≡ Dump → ⊥
store_dump p q = cc

-- before the first halt: `Quiet`, no entry so far was a halt; `Stopped`, one was, and w is what was taken before the first
Quiet : List Entry → Type 0
Quiet log = (xs : List Entry) → before_halt (log ++ xs) ≡ codes log ++ before_halt xs

Stopped : List Entry → List ℕ → Type 0
Stopped log w = (xs : List Entry) → before_halt (log ++ xs) ≡ w

quiet_more : (log : List Entry) (x : Entry) → Quiet log → ((es : List ℕ) → until_halt x.operation x.code es ≡ x.code ∷ es) → Quiet (log ++ x ∷ [])
unfolding Quiet
quiet_more log x quiet goes_on xs =
    ap before_halt (append_assoc log (x ∷ []) xs)
    ∙ quiet (x ∷ xs)
    ∙ ap (λ (l : List ℕ). codes log ++ l) (goes_on (before_halt xs))
    ∙ sym (append_assoc (codes log) (x.code ∷ []) (before_halt xs))
    ∙ ap (λ (l : List ℕ). l ++ before_halt xs) (sym (codes_append log (x ∷ [])))

quiet_stops : (log : List Entry) (x : Entry) → Quiet log → x.operation ≡ Halt → Stopped (log ++ x ∷ []) (codes log)
unfolding Quiet Stopped
quiet_stops log x quiet halts xs =
    ap before_halt (append_assoc log (x ∷ []) xs)
    ∙ quiet (x ∷ xs)
    ∙ ap (λ (o : Operation). codes log ++ until_halt o x.code (before_halt xs)) halts
    ∙ append-nil (codes log)

stopped_more : (log : List Entry) (x : Entry) (w : List ℕ) → Stopped log w → Stopped (log ++ x ∷ []) w
unfolding Stopped
stopped_more log x w stopped xs = ap before_halt (append_assoc log (x ∷ []) xs) ∙ stopped (x ∷ xs)

module _ (m : Machine) where
  after_append : (q : ℕ) (a b : List ℕ) → after m.next q (a ++ b) ≡ after m.next (after m.next q a) b
  after_append q [] b = refl
  after_append q (e ∷ a) b = after_append (m.next q e) a b

  -- a sequence that is not empty is accepted by the state after it
  accepts_more : (w v : List ℕ) (e : ℕ) → accepts_by m ((w ++ e ∷ []) ++ v) ≡ m.accepting (after m.next (m.next (after m.next m.initial w) e) v)
  accepts_more [] v e = refl
  accepts_more (x ∷ w) v e =
      ap m.accepting (after_append (m.next m.initial x) (w ++ e ∷ []) v)
      ∙ ap (λ (q : ℕ). m.accepting (after m.next q v)) (after_append (m.next m.initial x) w (e ∷ []))

  accepts_last : (w : List ℕ) (e : ℕ) → accepts_by m (w ++ e ∷ []) ≡ m.accepting (m.next (after m.next m.initial w) e)
  accepts_last w e = ap (accepts_by m) (sym (append-nil (w ++ e ∷ []))) ∙ accepts_more w [] e

  -- every entry has the operation of the state that its code leads to
  abbrev Right : ℕ → List Entry → Type 0
  Right q [] = Unit {0}
  Right q (x ∷ xs) = (x.operation ≡ m.operation (m.next q x.code)) × (x.code < m.events) × Right (m.next q x.code) xs

  right_more : (q : ℕ) (l : List Entry) (x : Entry) → Right q l → x.operation ≡ m.operation (m.next (after m.next q (codes l)) x.code)
      → x.code < m.events → Right q (l ++ x ∷ [])
  right_more q [] x r o k = (o, k, tt)
  right_more q (y ∷ l) x r o k = (r.0, r.1, right_more (m.next q y.code) l x r.2 o k)

  right_at : (q : ℕ) (before rest : List Entry) (x : Entry) → Right q (before ++ x ∷ rest)
      → x.operation ≡ m.operation (m.next (after m.next q (codes before)) x.code)
  right_at q [] rest x r = r.0
  right_at q (y ∷ before) rest x r = right_at (m.next q y.code) before rest x r.2

  -- the longest beginning, by its length
  record Best (taken released : List ℕ) : Type 0 where
    left_over : List ℕ
    front : taken ≡ released ++ left_over
    good : accepts_by m released ≡ true
    best : (n : ℕ) → n ≤ length taken → accepts_by m (take n taken) ≡ true → n ≤ length released

  -- a code more after which nothing is accepted changes nothing of the longest beginning
  best_kept : (taken released : List ℕ) (e : ℕ) → Best taken released → (accepts_by m (taken ++ e ∷ []) ≡ true → ⊥) → Best (taken ++ e ∷ []) released
  best_kept taken released e b un =
      record {
        left_over = b.left_over ++ e ∷ [];
        front = ap (λ (l : List ℕ). l ++ e ∷ []) b.front ∙ append_assoc released b.left_over (e ∷ []);
        good = b.good;
        best = λ n h a. go n h a (dec_le n (length taken));
      }
    where
      go : (n : ℕ) → n ≤ length (taken ++ e ∷ []) → accepts_by m (take n (taken ++ e ∷ [])) ≡ true → Dec (n ≤ length taken) → n ≤ length released
      go n h a (yes k) = b.best n k (ap (accepts_by m) (sym (take-append-le n taken (e ∷ []) k)) ∙ a)
      go n h a (no k) = absurd (un (ap (accepts_by m) (sym (take_all n (taken ++ e ∷ []) (omega (arith, length-append taken (e ∷ []))))) ∙ a))

  best_all : (taken : List ℕ) → accepts_by m taken ≡ true → Best taken taken
  best_all taken a = record { left_over = []; front = sym (append-nil taken); good = a; best = λ n h b. h }

  to_longest : (taken released : List ℕ) → Best taken released → Longest m taken released
  to_longest taken released b =
      record {
        rest = b.left_over;
        beginning = b.front;
        accepted = b.good;
        longest = λ p s h a.
            b.best (length p) (omega (arith, length-append p s, ap length h))
            (ap (λ (l : List ℕ). accepts_by m (take (length p) l)) h ∙ ap (accepts_by m) (take-append_seam p s) ∙ a);
      }

  -- what holds of a course after each code
  record Sound (log : List Entry) (r h : List ℕ) (q : ℕ) : Type 0 where
    at : q ≡ after m.next m.initial (codes log)
    valid : q < m.states
    right : Right m.initial log
    best : Best (codes log) r
    going : (Quiet log × (r ++ h ≡ codes log)) ⊎ (Stopped log (r ++ h) × (m.operation q ≡ Halt))

  abbrev entry : ℕ → Operation → Entry
  entry e o = record { code = e; operation = o }

  module _ (L : Laws m) (log : List Entry) (r h : List ℕ) (q : ℕ) (z : Sound log r h q) (e : ℕ) (k : e < m.events) where
    more_codes : (o : Operation) → codes (log ++ entry e o ∷ []) ≡ codes log ++ e ∷ []
    more_codes o = codes_append log (entry e o ∷ [])

    next_at : (o : Operation) → m.next q e ≡ after m.next m.initial (codes (log ++ entry e o ∷ []))
    next_at o =
        ap (λ (s : ℕ). m.next s e) z.at
        ∙ sym (after_append m.initial (codes log) (e ∷ []))
        ∙ ap (after m.next m.initial) (sym (more_codes o))

    next_valid : m.next q e < m.states
    next_valid = L.next_in q e z.valid k

    next_right : (o : Operation) → m.operation (m.next q e) ≡ o → Right m.initial (log ++ entry e o ∷ [])
    next_right o p = right_more m.initial log (entry e o) z.right (sym p ∙ ap (λ (s : ℕ). m.operation (m.next s e)) z.at) k

    accepts_next : accepts_by m (codes log ++ e ∷ []) ≡ m.accepting (m.next q e)
    accepts_next = accepts_last (codes log) e ∙ ap (λ (s : ℕ). m.accepting (m.next s e)) (sym z.at)

    next_kept : (o : Operation) → (m.operation (m.next q e) ≡ Dump → ⊥) → Best (codes (log ++ entry e o ∷ [])) r
    next_kept o n = rw (more_codes o) (best_kept (codes log) r e z.best (λ a. n (L.accepts_dump _ next_valid (sym accepts_next ∙ a))))

    -- what is released and held, with one code more
    joined : (o : Operation) → r ++ h ≡ codes log → r ++ (h ++ e ∷ []) ≡ codes (log ++ entry e o ∷ [])
    joined o all = sym (append_assoc r h (e ∷ [])) ∙ ap (λ (l : List ℕ). l ++ e ∷ []) all ∙ sym (more_codes o)

    step_sound : (o : Operation) → m.operation (m.next q e) ≡ o → Sound (log ++ entry e o ∷ []) (released_by o r h e) (held_by o h e) (m.next q e)
    step_sound Halt p =
        record {
          at = next_at Halt;
          valid = next_valid;
          right = next_right Halt p;
          best = next_kept Halt (halt_dump p);
          going = inr (
            ⊎_elim (λ w. rw w.1 (quiet_stops log (entry e Halt) w.0 refl)) (λ w. stopped_more log (entry e Halt) (r ++ h) w.0) z.going,
            p,
          );
        }
    step_sound Store p =
        record {
          at = next_at Store;
          valid = next_valid;
          right = next_right Store p;
          best = next_kept Store (store_dump p);
          going = ⊎_elim
              (λ w. inl (quiet_more log (entry e Store) w.0 (λ es. refl), joined Store w.1))
              (λ w. absurd (halt_store (L.halt_stays q e z.valid k w.1) p))
              z.going;
        }
    step_sound Dump p =
        let quiet : Quiet log × (r ++ h ≡ codes log) = ⊎_elim (λ w. w) (λ w. absurd (halt_dump (L.halt_stays q e z.valid k w.1) p)) z.going in
        let all : r ++ (h ++ e ∷ []) ≡ codes (log ++ entry e Dump ∷ []) = joined Dump quiet.1 in
        record {
          at = next_at Dump;
          valid = next_valid;
          right = next_right Dump p;
          best = rw all (best_all _ (ap (accepts_by m) (more_codes Dump) ∙ accepts_next ∙ L.dump_accepts _ next_valid p));
          going = inl (quiet_more log (entry e Dump) quiet.0 (λ es. refl), append-nil _ ∙ all);
        }

  sound : {log : List Entry} {r h : List ℕ} {q : ℕ} → Laws m → Course m log r h q → Sound log r h q
  unfolding Quiet
  sound L start = record { at = refl; valid = L.initial_in; right = tt; best = best_all [] refl; going = inl (λ xs. refl, refl) }
  sound L (step {log = log} {released = r} {held = h} {q = q} c e k) = step_sound L log r h q (sound L c) e k (m.operation (m.next q e)) refl

  -- the state after each code that was taken is one of the machine's
  right_valid : Laws m → (q : ℕ) (before rest : List Entry) (x : Entry) → q < m.states → Right q (before ++ x ∷ rest)
      → m.next (after m.next q (codes before)) x.code < m.states
  right_valid L q [] rest x v r = L.next_in q x.code v r.1
  right_valid L q (y ∷ before) rest x v r = right_valid L (m.next q y.code) before rest x (L.next_in q y.code v r.1) r.2

  -- what comes after an entry is right too
  right_rest : (q : ℕ) (before rest : List Entry) (x : Entry) → Right q (before ++ x ∷ rest) → Right (m.next (after m.next q (codes before)) x.code) rest
  right_rest q [] rest x r = r.2
  right_rest q (y ∷ before) rest x r = right_rest (m.next q y.code) before rest x r.2

  -- from a halting state every entry leads to halting states
  stays_halted : Laws m → (q : ℕ) (l : List Entry) → q < m.states → m.operation q ≡ Halt → Right q l → m.operation (after m.next q (codes l)) ≡ Halt
  stays_halted L q [] v p r = p
  stays_halted L q (x ∷ l) v p r =
      stays_halted L (m.next q x.code) l (L.next_in q x.code v r.1) (L.halt_stays q x.code v r.1 p) r.2

  module _ (L : Laws m) {log : List Entry} {r h : List ℕ} {q : ℕ} (c : Course m log r h q) where
    -- the entry x of the log, at the state that its code leads to
    right_here : (before rest : List Entry) (x : Entry) → log ≡ before ++ x ∷ rest → Right m.initial (before ++ x ∷ rest)
    right_here before rest x p = rw p at (sound L c).right

    -- demand 3
    pub course_kept : Kept m log r h
    unfolding Quiet Stopped
    course_kept =
        let z = sound L c in
        record {
          longest = to_longest (codes log) r z.best;
          whole = ⊎_elim
              (λ w. w.1 ∙ sym (append-nil (codes log)) ∙ sym (w.0 []) ∙ ap before_halt (append-nil log))
              (λ w. sym (w.0 []) ∙ ap before_halt (append-nil log))
              z.going;
          halts_only = λ before rest e p v w a.
              let right = right_here before rest (entry e Halt) p in
              L.halt_never _ (right_valid L m.initial before rest (entry e Halt) L.initial_in right)
              (sym (right_at m.initial before rest (entry e Halt) right)) v w (sym (accepts_more (codes before) v e) ∙ a);
        }

    -- its last sentence, where the machine halts wherever it may
    pub course_sharp : Sharp m → KeptSharp m log
    course_sharp S =
        record {
          halts_at_each = λ before rest x p hopeless.
              let right = right_here before rest x p in
              right_at m.initial before rest x right
              ∙ S.never_halts _ (right_valid L m.initial before rest x L.initial_in right)
              (λ v w a. hopeless v w (accepts_more (codes before) v x.code ∙ a));
        }

    -- once it has halted, the operation of its state is halt
    pub halted : (before rest : List Entry) (e : ℕ) → log ≡ before ++ entry e Halt ∷ rest → m.operation q ≡ Halt
    halted before rest e p =
        let right = right_here before rest (entry e Halt) p in
        ap m.operation (
        (sound L c).at
        ∙ ap (λ (l : List Entry). after m.next m.initial (codes l)) p
        ∙ ap (after m.next m.initial) (codes_append before (entry e Halt ∷ rest))
        ∙ after_append m.initial (codes before) (e ∷ codes rest)
        )
        ∙ stays_halted L _ rest (right_valid L m.initial before rest (entry e Halt) L.initial_in right)
        (sym (right_at m.initial before rest (entry e Halt) right)) (right_rest m.initial before rest (entry e Halt) right)

    -- its state is the one after the codes that were taken
    pub course_at : q ≡ after m.next m.initial (codes log)
    course_at = (sound L c).at

    -- where that does not halt, released then held is everything taken
    pub course_all : (m.operation q ≡ Halt → ⊥) → r ++ h ≡ codes log
    course_all n = ⊎_elim (λ w. w.1) (λ w. absurd (n w.1)) (sound L c).going

    -- and where that is accepting the last event was answered dump, and nothing is held
    pub course_out : (before : List Entry) (x : Entry) → log ≡ before ++ x ∷ [] → m.accepting q ≡ true
        → (x.operation ≡ Dump) × (r ≡ codes log) × (h ≡ [])
    course_out before x p a =
        let z = sound L c in
        let o : m.operation q ≡ Dump = L.accepts_dump q z.valid a in
        let taken : codes log ≡ codes before ++ x.code ∷ [] = ap codes p ∙ codes_append before (x ∷ []) in
        let there : q ≡ m.next (after m.next m.initial (codes before)) x.code =
        z.at ∙ ap (after m.next m.initial) taken ∙ after_append m.initial (codes before) (x.code ∷ []) in
        let all = course_all (λ p. halt_dump p o) in
        let good : accepts_by m (take (length (codes log)) (codes log)) ≡ true =
        ap (accepts_by m) (take_all (length (codes log)) (codes log) (omega arith) ∙ taken) ∙ accepts_last (codes before) x.code
        ∙ ap m.accepting (sym there) ∙ a in
        let long = z.best.best (length (codes log)) (omega arith) good in
        let none : h ≡ [] = nothing h (omega (arith, long, length-append r h, ap length all)) in (
          right_at m.initial before [] x (right_here before [] x p) ∙ ap m.operation (sym there) ∙ o,
          sym (append-nil r) ∙ ap (λ (l : List ℕ). r ++ l) (sym none) ∙ all,
          none,
        )
      where
        nothing : (l : List ℕ) → length l ≤ 0 → l ≡ []
        nothing [] s = refl
        nothing (y ∷ l) s = absurd (omega arith)
