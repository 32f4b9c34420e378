-- What every call that writes has in common: bytes are put to the front of a lent output, or the call is refused.
-- Assumes nothing.
use Rattle.std.specs.Prelude.{ℕ, ◌<◌, ◌≡◌, cond, List, [], ◌∷◌, ◌++◌, length, drop, leb, Ok, Err}
use Rattle.rule.specs.Given.{Table, After}
use Rattle.rule.specs.declared.Refusal.TheVariants.{Room}
use Rattle.rule.specs.Refusals.{tell, told_of}
use Rattle.rule.specs.declared.Told.{Told}
use Rattle.rule.specs.Verdict.{Verdict, Written}

-- what such a call tells: 0 where it is done, else the refusal's number and places
abbrev pub written_told : Written → Told
written_told (Ok n) = tell 0 0 0
written_told (Err r) = told_of r

-- putting some bytes into an output of so much room: refused as the verdict is, refused 16, or done
abbrev pub settled_by : Verdict → ℕ → ℕ → Written
settled_by (Ok _) size room = cond (leb size room) (Ok size) (Err Room)
settled_by (Err r) size room = Err r

-- the output after it: the bytes stand at the front, and every other byte stays
abbrev pub output_by : Written → List ℕ → List ℕ → List ℕ
output_by (Ok n) bytes out = bytes ++ drop n out
output_by (Err r) bytes out = out

-- what is promised of a call that puts some bytes into a lent output
pub record PutPromise (verdict : Verdict) (bytes out : List ℕ) (w : Written) (out' : List ℕ) : Type 0 where
  pub answer : w ≡ settled_by verdict (length bytes) (length out)
  pub output : out' ≡ output_by (settled_by verdict (length bytes) (length out)) bytes out

-- exactly one answer, with exactly one content of the output, keeps the promise
pub record OneWritten (Promise : Written → List ℕ → Type 0) : Type 0 where
  pub answer : Written
  pub output : List ℕ
  pub kept : Promise answer output
  pub only : (w : Written) (out : List ℕ) → Promise w out → (w ≡ answer) × (out ≡ output)

-- bytes of this size that are put into an output give 16 last: the output has too little room
abbrev pub Put : Table → (size room : ℕ) → Table
Put T size room = After T 16 Room (room < size)

abbrev pub put_order : List ℕ → List ℕ
put_order order = order ++ (16 ∷ [])
