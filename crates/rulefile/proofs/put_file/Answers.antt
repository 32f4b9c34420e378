-- `rulefile::put_file` meets its contract: where there is no room.
-- Assumes nothing.
use Rattle.rulefile.proofs.WritingLaws.{file_no_room}
use Rattle.rulefile.proofs.put_file.Goals as goal

pub returns-in_default : goal.returns-in_default
returns-in_default c = file_no_room _ c.args.body c.args.out.now c.in_default.ensures
