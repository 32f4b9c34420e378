-- What `octets::put_number` keeps at each turn: the bytes that are stored, and those of what is left of the number, are those of the number.
-- Assumes nothing.
use mathlib.Core.Path.{◌≡◌}
use mathlib.Core.List.{◌++◌}
use Prim.Native.Nat.{◌-◌}
use lib.ListN.{length, take}
use Rattle.octets.specs.Numbers.{digits}
use Rattle.octets.proofs.put_number.Given as goal

abbrev pub invariant-loop-byte : goal.invariant-loop-byte
invariant-loop-byte l = take l.byte-index l.out ++ digits (length l.out - l.byte-index) l.rest ≡ digits (length l.initial.out) l.x
