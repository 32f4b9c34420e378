-- The two modes compared: with one pair they give the same operations; a halt of mode 0 is a halt of joint mode; two rules of different mode are not the same.
-- Assumes nothing.
use Prim.Native.Nat.{ℕ, ◌<◌}
use mathlib.Core.Path.{◌≡◌, refl, sym, ap, ◌∙◌}
use mathlib.Core.Logic.{inl, inr, ◌↔◌}
use lib.ListN.{length}
use Rattle.rule.specs.Range.{Shaped}
use Rattle.rule.specs.Drawing.{Drawing, states, count, initial, in_mode, drawn, Same}
use Rattle.rule.specs.Operations.{operation_at}
use Rattle.rule.specs.Stopping.{stopping}
use Rattle.rule.specs.Published.{ObligationStop}
use Rattle.rule.specs.Joint.{JointStop}
use Rattle.rule.specs.Refusals.{first_of, entries, members, exceeds, excess, moves, stopped, conditions}
use Rattle.rule.specs.Given.{Stops, by_pair, jointly}
use Rattle.rule.specs.Machine.{machine_by, Laws, Sharp}
use Rattle.rule.specs.WellDrawn.{WellDrawn}
use Rattle.rule.specs.declared.Rule.{Rule}
use Rattle.rule.specs.declared.Operation.{Operation}
use Rattle.rule.specs.declared.Operation.TheVariants.{Halt, Store, Dump}
use Rattle.rule.proofs.BoolLaws.{Says, eq_says, eq_fails, in_words}
use Rattle.rule.proofs.RefusalLaws.{first_sound, first_none}
use Rattle.rule.proofs.GivenLaws.{stopped_sound, conditions_sound}
use Rattle.rule.proofs.ClassLaws.{well_drawn}
use Rattle.rule.proofs.StoppingLaws.{joint_stops}
use Rattle.rule.proofs.PairwiseLaws.{stop_says}
use Rattle.rule.proofs.OperationLaws.{by_mode, operation_halt, laws, sharp}
use Rattle.std.specs.Prelude.{Ok}

-- two operations that dump together and halt together are equal
same_operation : (a b : Operation) → (a ≡ Dump) ↔ (b ≡ Dump) → (a ≡ Halt) ↔ (b ≡ Halt) → a ≡ b
same_operation Halt b dump halt = sym (halt.0 refl)
same_operation Dump b dump halt = sym (dump.0 refl)
same_operation Store Store dump halt = refl
same_operation Store Halt dump halt = halt.1 refl
same_operation Store Dump dump halt = dump.1 refl

-- over the same drawing there is one choice of the operation that keeps the laws and halts wherever no accepting state is reached
pub one_operation : (d : Drawing) (a b : ℕ → Operation) → Laws (machine_by d a) → Sharp (machine_by d a) → Laws (machine_by d b) → Sharp (machine_by d b)
    → (t : ℕ) → t < states d → a t ≡ b t
one_operation d a b la sa lb sb t h =
    same_operation (a t) (b t)
    (λ p. lb.accepts_dump t h (la.dump_accepts t h p), λ p. la.accepts_dump t h (lb.dump_accepts t h p))
    (λ p. sb.never_halts t h (la.halt_never t h p), λ p. sa.never_halts t h (lb.halt_never t h p))

module _ (d : Drawing) (well : WellDrawn d) where
  -- what the operations rest on does not speak of the mode
  pub well_in : (mode : ℕ) → WellDrawn (in_mode mode d)
  well_in mode = record {
    few_states = well.few_states;
    initial_in = well.initial_in;
    closed = well.closed;
    whole = well.whole;
    R_in = well.R_in;
    P_in = well.P_in;
    none_into = well.none_into;
  }

  -- with one pair every mode gives the same operation at every state
  pub one_pair_same : count d ≡ 1 → (mode t : ℕ) → t < states d → operation_at (in_mode mode d) t ≡ operation_at d t
  one_pair_same one mode =
      one_operation d (operation_at (in_mode mode d)) (operation_at d)
      (laws (in_mode mode d) (well_in mode)) (sharp (in_mode mode d) (well_in mode) (inr one)) (laws d well) (sharp d well (inr one))

  -- a halt of mode 0 is a halt of joint mode
  pub halts_jointly : (t : ℕ) → t < states d → operation_at (in_mode 0 d) t ≡ Halt → operation_at (in_mode 1 d) t ≡ Halt
  halts_jointly t h p = (sharp (in_mode 1 d) (well_in 1) (inl refl)).never_halts t h ((laws (in_mode 0 d) (well_in 0)).halt_never t h p)

-- a drawing in its own mode is the drawing
pub in_its_mode : (d : Drawing) (mode : ℕ) → d.shape.mode ≡ mode → in_mode mode d ≡ d
in_its_mode d mode e = rw (← e)

-- row 9 and the stopping states say the same, in both modes
pub stops_in : (d : Drawing) → WellDrawn d → (q : ℕ) → q < states d → Says (stopping d q) (Stops d q)
stops_in d well q h =
    by_mode d (λ o s. Says (s q) (Stops d q))
    (λ m. let n = (eq_fails d.shape.mode 1).0 m in in_words (stop_says d well q h)
    (λ s. by_pair n s.pair s.used (record { outside = s.outside; reaches_none = s.reaches_none })) (alone n))
    (λ m. let j = (eq_says d.shape.mode 1).0 m in in_words (joint_stops d well.closed well.few_states well.whole q h) (jointly j) (together j))
  where
    alone : (d.shape.mode ≡ 1 → ⊥) → Stops d q → ObligationStop d q
    alone n (by_pair m i k s) = record { pair = i; used = k; outside = s.outside; reaches_none = s.reaches_none }
    alone n (jointly j s) = absurd (n j)

    together : d.shape.mode ≡ 1 → Stops d q → JointStop d q
    together j (by_pair n i k s) = absurd (n j)
    together j (jointly m s) = s

-- 9 is given where a move into the initial state would halt
halts_at_start : (d : Drawing) (well : WellDrawn d) → (stopped d ≡ Ok tt) ↔ (operation_at d (initial d) ≡ Halt → ⊥)
halts_at_start d well =
    let start = well.initial_in in
    let sound = stopped_sound d well.closed well.few_states start well.whole in
    let stops = stops_in d well (initial d) start in
    let halt = operation_halt d well (initial d) start in
    (λ p o. sound.0 p (stops.0 (halt.0 o)), λ n. sound.1 (λ s. n (halt.1 (stops.1 s))))

-- a rule that passes the checks passes them in the other mode too where that does not halt at the start
module _ (d : Drawing) (whole : length d.pairs ≡ count d) (shaped : Shaped d.shape) (sound : first_of (conditions d) ≡ Ok tt) where
  abbrev W : WellDrawn d
  W = well_drawn d whole shaped sound

  passes_in : (mode : ℕ) → (operation_at (in_mode mode d) (initial d) ≡ Halt → operation_at d (initial d) ≡ Halt)
      → first_of (conditions (in_mode mode d)) ≡ Ok tt
  unfolding entries members exceeds excess moves
  passes_in mode halts =
      let g = conditions_sound d sound in
      let nine = (halts_at_start (in_mode mode d) (well_in d W mode)).1 (λ h. (halts_at_start d W).0 g.4 (halts h)) in
      (first_sound _ _).1 (g.0, (first_sound _ _).1 (g.1, (first_sound _ _).1 (g.2, (first_sound _ _).1 (g.3, (first_sound _ _).1 (nine, first_none)))))

  -- so with one pair, and with any number from joint mode to mode 0
  pub one_pair_passes : count d ≡ 1 → (mode : ℕ) → first_of (conditions (in_mode mode d)) ≡ Ok tt
  one_pair_passes one mode = passes_in mode (λ h. sym (one_pair_same d W one mode (initial d) W.initial_in) ∙ h)

  pub joint_passes : d.shape.mode ≡ 1 → first_of (conditions (in_mode 0 d)) ≡ Ok tt
  joint_passes j =
      passes_in 0 (λ h. ap (λ (x : Drawing). operation_at x (initial d)) (sym (in_its_mode d 1 j)) ∙ halts_jointly d W (initial d) W.initial_in h)

-- the mode belongs to the rule when two are compared
pub same_mode : (a b : Rule) → Same a b → a.shape.mode ≡ b.shape.mode
unfolding drawn
same_mode a b = ap (λ d. d.shape.mode)
