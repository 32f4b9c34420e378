-- `rulefile::read` meets its contract: the parts of a sound file, copied.
-- Assumes nothing.
use Rattle.std.proofs.Common.{◌≡◌, Ok, rules}
use Rattle.rulefile.specs.Reading.{parts_of}
use Rattle.rulefile.proofs.ReadingLaws.{read_sound}
use Rattle.rulefile.proofs.read.Goals as goal

pub returns : goal.returns
returns c =
    let is : Ok c.in_ok-parts.parts ≡ parts_of c.args.file.now = search rules in
    read_sound c.args.file.now is c.copy.ensures c.copy-2.ensures
