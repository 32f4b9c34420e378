-- What checking comes to, and what a call that writes comes to: each is the library's Result, with a refusal as its error.
-- Assumes nothing.
use Rattle.std.specs.Prelude.{ℕ, Result}
use Rattle.rule.specs.declared.Refusal.{Refusal}

-- sound, or refused
abbrev pub Verdict : Type 0
Verdict = Result (Unit {0}) Refusal

-- so many bytes at the front of the output, or refused
abbrev pub Written : Type 0
Written = Result ℕ Refusal
