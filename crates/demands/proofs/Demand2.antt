-- Demand 2 holds of every sheet that is made, of every rule, and of every rule file (specs/Demand2). Assumes nothing.
use Prim.Native.Nat.{ℕ}
use mathlib.Core.Path.{◌≡◌, sym, ap, ◌∙◌}
use mathlib.Core.List.{List}
use lib.ListN.{length}
use Rattle.rule.specs.Drawing.{next, state_no, drawn}
use Rattle.rule.specs.Machine.{machine_of}
use Rattle.rule.specs.declared.Operation.{Operation}
use Rattle.rule.proofs.ConstructionLaws.{built_moves, built_stops}
use Rattle.rule.proofs.OperationLaws.{stopping_stays}
use Rattle.rulefile.specs.Layout.{drawing_in, file_of}
use Rattle.rulefile.specs.Writing.{verdict_of}
use Rattle.rule.proofs.PutLaws.{put_done}
use Rattle.rulefile.proofs.RoundTrips.{read_written, written_read, same_rule}
use Rattle.making.proofs.MakingLaws.{cell_next, cell_operation}
use Rattle.making.proofs.GivenLaws.{make_gives, make_done}
use Rattle.effects.specs.Effects.{move, room_turn}
use Rattle.monitor.specs.Event.{turn_of}
use Rattle.history.proofs.HistoryLaws.{mark_back, turn_move}
use Rattle.demands.specs.Made.{Made}
use Rattle.demands.specs.Demand2.{Demand2, EveryRule, RoundTrips}
use Rattle.demands.proofs.MadeLaws.{made_lawful}

pub demand_2 : (file sheet : List ℕ) → Made file sheet → Demand2 (drawing_in file) sheet
demand_2 file sheet made =
    let d = drawing_in file in
    let L = made_lawful made in
    let F = L.formed in
    let W = L.well in
    let C = L.classed in
    let M = L.mode_in in
    record {
      of_class = C;
      opened = L.drawn.opened;
      cells = λ q c h k a t. rw (L.sheet_is, cell_next F q c h k, cell_operation F q c h k, mark_back) (built_moves d W M C q c h k a t);
      does = λ run e memory output v k f a t p r memory' output' kept.
          let is = (built_moves d W M C run.state.0 e.0 v k a t).0 p in
          let turn : turn_of sheet run e memory output ≡ room_turn (move a (state_no t)) run.held (length memory) (length output) =
          turn_move (machine_of d) L.lawful sheet L.drawn run e memory v f k output
          ∙ ap (λ (o : Operation). room_turn (move o (state_no (next d run.state.0 e.0))) run.held (length memory) (length output)) (sym is.0)
          ∙ ap (λ (n : ℕ). room_turn (move a (state_no n)) run.held (length memory) (length output)) (sym is.1) in
          rw turn at kept;
      stops = built_stops d W M C;
      stays = λ q e h k p. (built_stops d W M C (next d q e) (W.closed q e h k)).1 (stopping_stays d W q e h k ((built_stops d W M C q h).0 p));
    }

pub every_rule : EveryRule
every_rule = record { made = λ f out w out' p. make_done p; refused = λ f out w out' p. make_gives p }

pub round_trips : RoundTrips
round_trips =
    record {
      read_written = λ f b r e out h w out' p. read_written f e b out h w out' p;
      written_read = λ r h out n out' p. (
        written_read r h out n out' p,
        same_rule r h (put_done (verdict_of r) (file_of (drawn r)) out n out' p).sound,
      );
    }
