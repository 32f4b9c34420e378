-- Closed witnesses: no hypothesis of the demands is empty. The five marked rules have files that are read, written again and made into sheets; on each sheet
-- there are histories, also of a C program, and demand 3 is said of a marked run on each.
-- Assumes nothing.
use Prim.Native.Nat.{ℕ, zero, suc}
use native.Mathlib.Omega.{arith}
use mathlib.Core.Path.{◌≡◌, refl, ap}
use mathlib.Core.Bool.{Bool, true, ◌&&◌}
use mathlib.Core.List.{List, [], ◌∷◌}
use lib.ListN.{length, get_or}
use lib.Dec.{ltb}
use Rattle.std.specs.Prelude.{Ok, Err}
use Rattle.octets.specs.Numbers.{Bytes, digits}
use Rattle.rule.specs.Drawing.{Drawing, event_no, drawn, rule_of}
use Rattle.rule.specs.declared.Refusal.TheVariants.{Room}
use Rattle.rule.specs.declared.Rule.{Rule}
use Rattle.rule.proofs.BoolLaws.{itself, lt_says, and_says}
use Rattle.trailer.specs.Layout.{trailer_out}
use Rattle.rulefile.specs.Layout.{drawing_in, file_of, flat_up_to}
use Rattle.rulefile.specs.Reading.{verdict_on, reading_of}
use Rattle.rulefile.specs.Writing.{verdict_of, Held, WritePromise}
use Rattle.rule.proofs.PutLaws.{put_one}
use Rattle.rulefile.proofs.RoundTrips.{read_held, read_written}
use Rattle.sheet.specs.Layout.{sheet_of}
use Rattle.effects.specs.Effects.{answer_in, memory_in, output_in}
use Rattle.monitor.specs.Fresh.{start_of}
use Rattle.monitor.specs.Event.{turn_of}
use Rattle.history.specs.Course.{Entry}
use Rattle.history.specs.History.{History}
use Rattle.pachallu.specs.Told.{made_of, started_of, answered_of, run_of}
use Rattle.demands.specs.Made.{Made}
use Rattle.demands.specs.Demand3.{Demand3}
use Rattle.demands.specs.FromC.{MadeForC, HistoryForC, fresh, call}
use Rattle.demands.specs.Marked.{A, S, G, O, D, J, Stand, eight, begin, all}
use Rattle.demands.proofs.MadeLaws.{made_lawful, sound_made, begins}
use Rattle.demands.proofs.Runs.{none_refused, joint_sound, all_history}
use Rattle.demands.proofs.Demand3.{demand_3}

-- where a C program stands on a sheet
pub record StandForC (sheet : List ℕ) : Type 0 where
  pub log : List Entry
  pub released : List ℕ
  pub state : ℕ
  pub held : ℕ
  pub memory : List ℕ
  pub history : HistoryForC sheet log released state held memory

-- a rule has the witnesses, with a run of these events
pub record Witnessed (d : Drawing) (events : List ℕ) : Type 0 where
  -- of RoundTrips: its file is bytes and is read; the rule that is read carries its arrays whole, and is written
  pub bytes : Bytes (file_of d)
  pub rule : Rule
  pub read : reading_of (file_of d) ≡ Ok rule
  pub whole : Held rule
  pub out' : List ℕ
  pub written : WritePromise rule (file_of d) (Ok (length (file_of d))) out'
  -- of demands 2 and 3: its sheet is made, and there is a history on it
  pub sheet : List ℕ
  pub stand : Stand
  pub made : Made (file_of d) sheet
  pub history : History sheet stand.log stand.released stand.run stand.memory
  -- also from C
  pub made_for_C : MadeForC (file_of d) sheet
  pub stand_for_C : StandForC sheet
  -- so this is said of something
  pub demand_3 : Demand3 (drawing_in (file_of d)) sheet stand.log stand.released stand.run stand.memory

-- a list is of bytes where each of its elements is one
abbrev all_bytes : List ℕ → Bool
all_bytes [] = true
all_bytes (b ∷ l) = ltb b 256 && all_bytes l

all_bytes_are : (l : List ℕ) → all_bytes l ≡ true → Bytes l
all_bytes_are [] p i = omega arith
all_bytes_are (b ∷ l) p zero = ((and_says (lt_says b 256) (itself (all_bytes l))).0 p).0
all_bytes_are (b ∷ l) p (suc i) = all_bytes_are l ((and_says (lt_says b 256) (itself (all_bytes l))).0 p).1 i

module _ {file sheet : List ℕ} (made : Made file sheet) where
  from_C : MadeForC file sheet
  from_C =
      record {
        out = made.out;
        out' = made.out';
        made = made_of (Ok made.size);
        promise = record { answer = Ok made.size; promise = made.promise; told = refl };
        done = refl;
        front = made.front;
      }

  begins_for_C : StandForC sheet
  begins_for_C =
      record {
        log = [];
        released = [];
        state = _;
        held = _;
        memory = eight;
        history = fresh (started_of (start_of sheet)) eight refl (rw (made_lawful made).drawn.opened);
      }

  one_for_C : StandForC sheet → ℕ → StandForC sheet
  one_for_C s e =
      let run = run_of s.state s.held in
      let turn = turn_of sheet run (event_no e) s.memory eight in
      record {
        log = _;
        released = _;
        state = _;
        held = _;
        memory = _;
        history =
            call s.history e eight (answered_of (answer_in turn s.held) run) (memory_in turn s.held e s.memory)
            (output_in turn s.held e s.memory eight)
            (record { answer = answer_in turn s.held; promise = record { answer = refl; memory_after = refl; output_after = refl }; told = refl });
      }

  all_for_C : StandForC sheet → List ℕ → StandForC sheet
  all_for_C s [] = s
  all_for_C s (e ∷ es) = all_for_C (one_for_C s e) es

-- every rule whose file is not refused has them
pub witnessed : (d : Drawing) (events : List ℕ) → all_bytes (file_of d) ≡ true → verdict_on (file_of d) ≡ Ok tt → Witnessed d events
unfolding reading_of
witnessed d events b s =
    let file = file_of d in
    let made = sound_made file s in
    let sheet = sheet_of (drawing_in file) in
    let history = all_history sheet (begin sheet) events (begins made eight) in
    let rule = rule_of (drawing_in file) in
    let read : reading_of file ≡ Ok rule = rw s in
    let one = put_one (verdict_of rule) (file_of (drawn rule)) file in
    let p = read_written file read (all_bytes_are file b) file (omega arith) _ _ one.kept in
    record {
      bytes = all_bytes_are file b;
      rule = rule;
      read = read;
      whole = read_held file read;
      out' = one.output;
      written = rw p.0 at one.kept;
      sheet = sheet;
      stand = all sheet (begin sheet) events;
      made = made;
      history = history;
      made_for_C = from_C made;
      stand_for_C = all_for_C made (begins_for_C made) events;
      demand_3 = demand_3 file sheet made history;
    }

-- marked runs 4, 8, 9, 10 and 12
pub run_4 : Witnessed A (0 ∷ 1 ∷ 2 ∷ 0 ∷ 1 ∷ 0 ∷ 2 ∷ [])
unfolding file_of flat_up_to trailer_out digits
run_4 = witnessed A _ refl (ap (λ l. get_or l 0 (Err Room)) none_refused)

pub run_8 : Witnessed S (0 ∷ 1 ∷ 1 ∷ [])
unfolding file_of flat_up_to trailer_out digits
run_8 = witnessed S _ refl (ap (λ l. get_or l 1 (Err Room)) none_refused)

pub run_9 : Witnessed G (0 ∷ 0 ∷ 1 ∷ 0 ∷ [])
unfolding file_of flat_up_to trailer_out digits
run_9 = witnessed G _ refl (ap (λ l. get_or l 2 (Err Room)) none_refused)

pub run_10 : Witnessed O (2 ∷ 2 ∷ [])
unfolding file_of flat_up_to trailer_out digits
run_10 = witnessed O _ refl (ap (λ l. get_or l 3 (Err Room)) none_refused)

pub run_12 : Witnessed D (0 ∷ [])
unfolding file_of flat_up_to trailer_out digits
run_12 = witnessed D _ refl (ap (λ l. get_or l 4 (Err Room)) none_refused)

-- and a run in joint mode
pub run_J : Witnessed J (0 ∷ 1 ∷ 2 ∷ [])
unfolding file_of flat_up_to trailer_out digits
run_J = witnessed J _ refl joint_sound
