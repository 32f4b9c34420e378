-- `script::listed` ends: the text falls. Assumes nothing.
use Rattle.std.proofs.Common.{length}
use Rattle.tried.proofs.script.listed.Given as goal

abbrev pub decreases-loop-mark : goal.decreases-loop-mark
decreases-loop-mark g l = length l.text
