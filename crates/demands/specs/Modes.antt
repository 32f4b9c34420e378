-- The two modes compared (M-105), of a rule file that is not refused: with one pair they are the same monitor; with several joint mode halts no later, and
-- rule O of document 01, which held codes all night, is refused in it.
-- Assumes nothing: these are statements. proofs/Modes proves them.
use Rattle.std.specs.Prelude.{ℕ, ◌≤◌, ◌<◌, ◌≡◌, ◌↔◌, List, Result, Ok, Err}
use Rattle.rule.specs.Drawing.{states, events, count, in_mode}
use Rattle.rule.specs.Operations.{operation}
use Rattle.rule.specs.Range.{last_mode}
use Rattle.rule.specs.Refusals.{tell, verdict_told}
use Rattle.rule.specs.declared.Operation.TheVariants.{Halt, Store, Dump}
use Rattle.rule.specs.declared.Refusal.{Refusal}
use Rattle.rulefile.specs.Layout.{drawing_in, file_of}
use Rattle.rulefile.specs.Reading.{verdict_on}
use Rattle.sheet.specs.Layout.{sheet_of}
use Rattle.why.specs.Why.{WhyPromise}
use Rattle.why.specs.declared.Ground.{Ground}
use Rattle.why.specs.declared.Ground.TheVariants.{Halted, Held, Released}
use Rattle.demands.specs.Marked.{O}

-- the file of the same rule in another mode
abbrev pub file_in : ℕ → List ℕ → List ℕ
file_in mode f = file_of (in_mode mode (drawing_in f))

-- two answers to why are alike: the same, but for the pair that a store names
pub data Alike : Result Ground Refusal → Result Ground Refusal → Type 0 where
  halted : {i : ℕ} → Alike (Ok (Halted i)) (Ok (Halted i))
  held : {i j n : ℕ} → Alike (Ok (Held i n)) (Ok (Held j n))
  released : Alike (Ok Released) (Ok Released)
  refused : {r : Refusal} → Alike (Err r) (Err r)

pub record Modes (f : List ℕ) : Type 0 where
  -- with one pair it is not refused in the other mode, and has the same sheet there
  pub one_pair_sound : count (drawing_in f) ≡ 1 → (mode : ℕ) → mode ≤ last_mode → verdict_on (file_in mode f) ≡ Ok tt
  pub one_pair_sheet : count (drawing_in f) ≡ 1 → (mode : ℕ) → mode ≤ last_mode → sheet_of (drawing_in (file_in mode f)) ≡ sheet_of (drawing_in f)
  -- and the same answers to why, but for the pair that a store names, with the same bytes
  pub one_pair_why : count (drawing_in f) ≡ 1 → (mode : ℕ) → mode ≤ last_mode → (s e : ℕ) (out : List ℕ)
      → (g g' : Result Ground Refusal) (out' out'' : List ℕ) → WhyPromise f s e out g out'
      → WhyPromise (file_in mode f) s e out g' out'' → Alike g g' × (out' ≡ out'')
  -- with any number of pairs: a joint rule is not refused in mode 0
  pub joint_sound : (drawing_in f).shape.mode ≡ 1 → verdict_on (file_in 0 f) ≡ Ok tt
  -- the two modes dump together, and a halt of mode 0 is a halt of joint mode
  pub dumps : (q e : ℕ) → q < states (drawing_in f) → e < events (drawing_in f)
      → (operation (in_mode 0 (drawing_in f)) q e ≡ Dump) ↔ (operation (in_mode 1 (drawing_in f)) q e ≡ Dump)
  pub halts : (q e : ℕ) → q < states (drawing_in f) → e < events (drawing_in f)
      → operation (in_mode 0 (drawing_in f)) q e ≡ Halt → operation (in_mode 1 (drawing_in f)) q e ≡ Halt

-- not the other way round: in O event 2 at the start is stored in mode 0, where each pair has hope, and halts in joint mode, where there is none together;
-- so O is refused 9 in joint mode, with A 2, as no single pair is at fault
pub record NotBack : Type 0 where
  pub stored : operation (in_mode 0 O) 0 2 ≡ Store
  pub halted : operation (in_mode 1 O) 0 2 ≡ Halt
  pub refused : verdict_told (verdict_on (file_of (in_mode 1 O))) ≡ tell 9 2 0
