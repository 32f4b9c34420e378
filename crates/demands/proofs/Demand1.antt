-- Demand 1 holds (specs/Demand1). Assumes nothing.
use Rattle.std.specs.Prelude.{Ok}
use Rattle.rule.specs.Drawing.{Drawing, drawn}
use Rattle.rule.specs.Given.{NoPair, BothEmpty}
use Rattle.checks.proofs.HeldLaws.{checked_gives}
use Rattle.trailer.proofs.NumberLaws.{shape_gives, head_gives}
use Rattle.rulefile.specs.Layout.{drawing_in, file_of}
use Rattle.rulefile.specs.Reading.{verdict_on}
use Rattle.rulefile.specs.Writing.{verdict_of}
use Rattle.rule.proofs.NumberLaws.{entries_give, members_give, excess_gives, moves_give, stopped_gives}
use Rattle.rule.proofs.GivenLaws.{conditions_sound}
use Rattle.rule.proofs.NoTenLaws.{no_ten}
use Rattle.rule.proofs.PutLaws.{put_one, only_room_ends}
use Rattle.rulefile.proofs.GivenLaws.{look_ends, read_ends, write_ends}
use Rattle.rulefile.proofs.PartsLaws.{sound_file}
use Rattle.rulefile.proofs.DrawnLaws.{SoundDrawing, file_drawing, rule_drawing}
use Rattle.book.specs.Adding.{with_rule, add_verdict}
use Rattle.book.proofs.GivenLaws.{find_ends, add_ends}
use Rattle.sheet.specs.Layout.{sheet_of}
use Rattle.making.proofs.GivenLaws.{make_ends}
use Rattle.effects.proofs.KeptLaws.{turn_one, store_ends, dump_ends}
use Rattle.monitor.specs.Event.{turn_of}
use Rattle.monitor.proofs.FreshLaws.{open_ends, fresh_ends}
use Rattle.monitor.proofs.GivenLaws.{event_ends, event_ignores}
use Rattle.monitor.proofs.EveningGivenLaws.{evening_one, evening_ends}
use Rattle.why.proofs.GivenLaws.{why_ends}
use Rattle.why.proofs.OneAnswer.{ground_one}
use Rattle.printed.specs.Printing.{text_of}
use Rattle.printed.proofs.GivenLaws.{print_ends}
use Rattle.pachallu.proofs.EndsLaws.{c_put_ends, c_find_ends, c_fresh_ends, c_event_ends, c_event_ignores, c_evening_ends, c_why_ends}
use Rattle.demands.specs.Demand1.{Demand1}

-- a rule that passes the checks has passed 9
no_10 : {d : Drawing} → SoundDrawing d → NoPair d (BothEmpty d)
no_10 {d} s = (no_ten d s.pairs_whole).passed_nine (conditions_sound d s.passes).4

pub demand_1 : Demand1
demand_1 =
    record {
      look = look_ends;
      read = read_ends;
      one_write = λ r out. put_one (verdict_of r) (file_of (drawn r)) out;
      write = λ r h out w out' p. write_ends r h.pairs_long p;
      find = find_ends;
      one_add = λ b number rule out. put_one (add_verdict b rule) (with_rule b number rule) out;
      add = λ b number rule out w out' p. add_ends b number rule out p;
      one_file = λ d out. put_one (Ok tt) (file_of d) out;
      put_file = λ d out w out' p. only_room_ends p;
      one_make = λ f out. put_one (verdict_on f) (sheet_of (drawing_in f)) out;
      make = λ f out w out' p. make_ends p;
      one_why = λ f s e out g h out₁ out₂ p q. ground_one p q;
      why = λ f s e out g out' p. why_ends p;
      opening = open_ends;
      fresh = fresh_ends;
      one_event = λ sheet run e memory output. turn_one (turn_of sheet run e memory output) run e memory output;
      event = λ sheet run e memory output r memory' output' p. event_ends sheet run e memory output p;
      event_ignored = λ sheet run e memory output r memory' output' p. event_ignores sheet run e memory output p;
      one_evening = evening_one;
      evening = λ sheet run log memory output r memory' output' p. evening_ends sheet run memory output r memory' output' log p;
      store = λ next run e memory r memory' p. store_ends p;
      dump = λ next held e output r output' p. dump_ends p;
      one_print = λ f out. put_one (Ok tt) (text_of f) out;
      print = λ f out w out' p. print_ends f p;
      c_make = λ rule out r out' p. c_put_ends (λ w. make_ends) p;
      c_print = λ rule out r out' p. c_put_ends (λ w. print_ends rule) p;
      c_find = λ job office number age r p. c_find_ends job office number age p;
      c_add = λ b number rule out r out' p. c_put_ends (λ w. add_ends b number rule out) p;
      c_fresh = λ sheet r p. c_fresh_ends p;
      c_event = λ sheet state held event memory output r memory' output' p. c_event_ends p;
      c_event_ignored = λ sheet state held event memory output r memory' output' p. c_event_ignores p;
      c_evening = λ sheet state held log memory output r memory' output' p. c_evening_ends p;
      c_why = λ rule state event way r way' p. c_why_ends p;
      shape = shape_gives;
      head = head_gives;
      check = checked_gives;
      check_5 = entries_give;
      check_6 = members_give;
      check_7 = excess_gives;
      check_8 = moves_give;
      check_9 = stopped_gives;
      no_10 = λ f e. no_10 (file_drawing f (sound_file f e));
      no_10_written = λ r h e. no_10 (rule_drawing r h e);
    }
