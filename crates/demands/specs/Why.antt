-- M-102. Why an event is answered as it is. Each operation has its ground (crate why, specs/Grounds), judged at the state after the event: the answer names it,
-- and it is the only one. And the way that a store is given works: on a sheet that `make` made, the events of the way, taken after the event, meet the pair,
-- and with one pair, or in joint mode, the last of them is answered dump and everything held goes out.
-- Assumes nothing: this is a statement. proofs/Why proves it.
use Rattle.std.specs.Prelude.{ℕ, suc, ◌+◌, ◌/◌, ◌≤◌, ◌<◌, ◌≡◌, true, ◌⊎◌, ◌↔◌, List, [], ◌∷◌, ◌++◌, length, get_or, take, Result, Ok, Err}
use Rattle.rule.specs.Drawing.{Drawing, states, events, count, next}
use Rattle.rule.specs.Given.{NoPair}
use Rattle.rule.specs.Operations.{operation_at}
use Rattle.rule.specs.Reach.{place_of}
use Rattle.rule.specs.WellDrawn.{WellDrawn}
use Rattle.rule.specs.declared.Operation.TheVariants.{Halt, Store, Dump}
use Rattle.rule.specs.declared.Refusal.{Refusal}
use Rattle.rule.specs.declared.Refusal.TheVariants.{Room}
use Rattle.rulefile.specs.Layout.{drawing_in}
use Rattle.sheet.specs.Layout.{operation_of}
use Rattle.effects.specs.declared.Run.{Run}
use Rattle.monitor.specs.Evening.{EveningPromise}
use Rattle.monitor.specs.declared.Evening.{Evening}
use Rattle.history.specs.Course.{Entry, codes}
use Rattle.history.specs.History.{History}
use Rattle.why.specs.Grounds.{Unmet, Lost, HaltGround, goal, StoreGround}
use Rattle.why.specs.Why.{Names, Says, WhyPromise}
use Rattle.why.specs.declared.Ground.{Ground}
use Rattle.why.specs.declared.Ground.TheVariants.{Held}
use Rattle.demands.specs.Made.{Made}

-- of every rule that is read or written, at each of its states: each operation exactly where it has its ground, and there is one
pub record OfGrounds (d : Drawing) (t : ℕ) : Type 0 where
  -- halt: some pair is not met and can never be met, the lowest such pair; in joint mode also where all pairs together can never be met
  pub halt : (operation_at d t ≡ Halt) ↔ ((i : ℕ) × HaltGround d t i)
  pub one_halt : {i j : ℕ} → HaltGround d t i → HaltGround d t j → i ≡ j
  -- store: there is no such pair, and a lowest one that is not yet met, in joint mode all pairs together, with the way there
  pub store : (operation_at d t ≡ Store) ↔ (NoPair d (Lost d t) × ((i : ℕ) × (w : List ℕ) × StoreGround d t i w))
  pub one_store : {i j : ℕ} {v w : List ℕ} → StoreGround d t i v → StoreGround d t j w → (i ≡ j) × (v ≡ w)
  -- dump: every pair is met
  pub dump : (operation_at d t ≡ Dump) ↔ NoPair d (Unmet d t)
  -- a way has 1 to N - 1 events
  pub some : {i : ℕ} {w : List ℕ} → StoreGround d t i w → 1 ≤ length w
  pub few : {i : ℕ} {w : List ℕ} → StoreGround d t i w → length w < states d

-- of every call of `why` that is not refused
pub record OfAnswers (file : List ℕ) (s e : ℕ) (out : List ℕ) (g : Ground) (out' : List ℕ) : Type 0 where
  -- it says, of the state after the event, what the ground is
  pub says : Says (drawing_in file) (next (drawing_in file) s e) out out' g
  -- and the operation that it names is that of the sheet's cell at that state and event
  pub cell : (sheet : List ℕ) → Made file sheet → Names g (operation_of (get_or sheet (place_of (events (drawing_in file)) s e) 0 / 64))

-- where a history stands that has taken the event and then the events of the way
pub record WayWorks (d : Drawing) (i : ℕ) (log : List Entry) (released : List ℕ) (run : Run) : Type 0 where
  -- what was waited for is met: the pair, or in joint mode all pairs
  pub met : goal d i run.state.0 ≡ true
  -- in joint mode, or with one pair, the last event was answered dump, everything that was taken is released, and nothing is held
  pub dumps : (d.shape.mode ≡ 1) ⊎ (count d ≡ 1) → (before : List Entry) (x : Entry) → log ≡ before ++ x ∷ [] → x.operation ≡ Dump
  pub all_out : (d.shape.mode ≡ 1) ⊎ (count d ≡ 1) → (released ≡ codes log) × (run.held ≡ 0)

-- what one call comes to that offers the event and then the events of the way
pub record WayTaken (d : Drawing) (i : ℕ) (run : Run) (es memory : List ℕ) (r : Evening) (output' : List ℕ) : Type 0 where
  -- all are taken, and what was waited for is met
  pub sound : r.verdict ≡ Ok tt
  pub all : r.taken ≡ length es
  pub met : goal d i r.run.state.0 ≡ true
  -- in joint mode, or with one pair, nothing is held then, and what was held, the event and the way have gone out
  pub all_out : (d.shape.mode ≡ 1) ⊎ (count d ≡ 1) → (r.run.held ≡ 0) × (take r.released output' ≡ take run.held memory ++ es)

pub record WhyDemand : Type 0 where
  pub grounds : (d : Drawing) → WellDrawn d → (t : ℕ) → t < states d → OfGrounds d t
  pub answers : (file : List ℕ) (s e : ℕ) (out : List ℕ) (g : Ground) (out' : List ℕ) → WhyPromise file s e out (Ok g) out'
      → OfAnswers file s e out g out'
  -- 63 bytes of room are always enough
  pub room : (file : List ℕ) (s e : ℕ) (out : List ℕ) (g : Result Ground Refusal) (out' : List ℕ) → WhyPromise file s e out g out' → 63 ≤ length out
      → g ≡ Err Room → ⊥
  -- the way works: asked at the state of a history and an event, and then the event and the events of the way are taken, by whatever calls
  pub works : (file sheet : List ℕ) → Made file sheet
      → {log : List Entry} {released : List ℕ} {run : Run} {memory : List ℕ} → History sheet log released run memory
      → (e : ℕ) (out : List ℕ) (i n : ℕ) (out' : List ℕ) → WhyPromise file run.state.0 e out (Ok (Held i n)) out'
      → {later : List Entry} {gone : List ℕ} {run' : Run} {memory' : List ℕ} → History sheet later gone run' memory'
      → codes later ≡ codes log ++ e ∷ take n out' → WayWorks (drawing_in file) i later gone run'
  -- and they are taken where the memory and the output have room for what is held and for them
  pub taken : (file sheet : List ℕ) → Made file sheet
      → {log : List Entry} {released : List ℕ} {run : Run} {memory : List ℕ} → History sheet log released run memory
      → (e : ℕ) (out : List ℕ) (i n : ℕ) (out' : List ℕ) → WhyPromise file run.state.0 e out (Ok (Held i n)) out'
      → (output : List ℕ) → run.held + suc n ≤ length memory → run.held + suc n ≤ length output
      → (r : Evening) (memory' output' : List ℕ) → EveningPromise sheet run (e ∷ take n out') memory output r memory' output'
      → WayTaken (drawing_in file) i run (e ∷ take n out') memory r output'
