-- Laws of a lookup in two books: the returns of `look` and of `find`, and what a lookup means.
-- Assumes nothing.
use Prim.Native.Nat.{ℕ, ◌+◌, ◌-◌, ◌≤◌}
use native.Mathlib.Omega.{arith}
use mathlib.Core.Path.{◌≡◌, refl, sym, ◌∙◌}
use borrow.Author.Tests.{not-false}
use mathlib.Core.Bool.{true}
use mathlib.Core.List.{List}
use lib.ListN.{length}
use denote.Ref.{Bor}
use borrow.Rule.Slice.PartAt.{sl_partˢ}
use borrow.Rule.Slice.Shared.{by_byte}
use Rattle.std.specs.Prelude.{Some, None, Ok, Err}
use Rattle.rule.specs.declared.Refusal.{Refusal}
use Rattle.rule.proofs.RefusalLaws.{else_sound, refuse_sound}
use Rattle.book.specs.Directory.{well_formed, entries_in}
use Rattle.book.specs.Finding.{Sought, Looked, sought_in, pick, books_verdict, unless, lookup_of, PartOf, PartBy, FindPromise, bytes_by}
use Rattle.book.specs.Finding.{Finds, in_job, in_office, not_there, in_neither, not_in_job, not_in_office}
use Rattle.book.specs.declared.Lookup.TheVariants.{Job, Office}
use Rattle.book.proofs.SeekLaws.{sought_inside}
use Rattle.book.proofs.MeaningLaws.{Means, in_force, too_old, nowhere, sought_means}
use Rattle.rule.specs.Verdict.{Verdict}

-- where both books are well formed a lookup is what was sought in them
module _ (job office : List ℕ) (wj : well_formed job ≡ true) (wo : well_formed office ≡ true) (number age : ℕ) where
  pub look_picks : lookup_of job office number age ≡ pick (sought_in job number age) (sought_in office number age)
  unfolding lookup_of
  look_picks = rw (wj, wo)

  -- and finds the entry in force
  pub look_finds : Finds (entries_in job) (entries_in office) number age (lookup_of job office number age)
  look_finds = rw look_picks (by (sought_in job number age) (sought_in office number age) (sought_means job number age wj) (sought_means office number age wo))
    where
      by : (x y : Sought) → Means (entries_in job) number age x → Means (entries_in office) number age y
          → Finds (entries_in job) (entries_in office) number age (pick x y)
      by (Ok (Some (s, z))) y (in_force f) m = in_job f
      by (Err r) y (too_old p q) m = not_there (not_in_job p q)
      by (Ok None) (Ok (Some (s, z))) (nowhere e) (in_force f) = in_office e f
      by (Ok None) (Err r) (nowhere e) (too_old p q) = not_there (not_in_office e p q)
      by (Ok None) (Ok None) (nowhere e) (nowhere q) = not_there (in_neither e q)

-- both books are well formed where something is found
pub record BothFormed (job office : List ℕ) : Type 0 where
  pub job_formed : well_formed job ≡ true
  pub office_formed : well_formed office ≡ true

pub books_formed : (job office : List ℕ) → books_verdict job office ≡ Ok tt → BothFormed job office
books_formed job office e =
    let p = (else_sound _ _).0 e in
    record {
      job_formed = not-false (well_formed job) ((refuse_sound _ _).0 p.0);
      office_formed = not-false (well_formed office) ((refuse_sound _ _).0 p.1);
    }

-- what was found was sought
from_job : (v : Verdict) (x y : Sought) (start size : ℕ) → unless v (pick x y) ≡ Ok (Job start size) → (v ≡ Ok tt) × (x ≡ Ok (Some (start, size)))
from_job (Ok _) (Ok (Some (s, z))) y start size p = (refl, cc)
from_job (Ok _) (Err r) y start size p = cc
from_job (Ok _) (Ok None) (Ok (Some (s, z))) start size p = cc
from_job (Ok _) (Ok None) (Err r) start size p = cc
from_job (Ok _) (Ok None) (Ok None) start size p = cc
from_job (Err r) x y start size p = cc

from_office : (v : Verdict) (x y : Sought) (start size : ℕ) → unless v (pick x y) ≡ Ok (Office start size) → (v ≡ Ok tt) × (y ≡ Ok (Some (start, size)))
from_office (Ok _) (Ok (Some (s, z))) y start size p = cc
from_office (Ok _) (Err r) y start size p = cc
from_office (Ok _) (Ok None) (Ok (Some (s, z))) start size p = (refl, cc)
from_office (Ok _) (Ok None) (Err r) start size p = cc
from_office (Ok _) (Ok None) (Ok None) start size p = cc
from_office (Err r) x y start size p = cc

-- and lies in the book that it is found in
module _ (job office : List ℕ) (number age : ℕ) {found : Looked} (is : found ≡ lookup_of job office number age) {start size : ℕ} where
  pub in_its_job : found ≡ Ok (Job start size) → start + size ≤ length job
  unfolding lookup_of
  in_its_job e =
      let p = from_job (books_verdict job office) (sought_in job number age) (sought_in office number age) start size (sym is ∙ e) in
      sought_inside job (books_formed job office p.0).job_formed number age start size p.1

  pub in_its_office : found ≡ Ok (Office start size) → start + size ≤ length office
  unfolding lookup_of
  in_its_office e =
      let p = from_office (books_verdict job office) (sought_in job number age) (sought_in office number age) start size (sym is ∙ e) in
      sought_inside office (books_formed job office p.0).office_formed number age start size p.1

-- the bytes of the part that is handed back
pub part_bytes : (job office : Bor (List ℕ)) (number age : ℕ) (part : Bor (List ℕ)) → FindPromise job office number age part
    → part.now ≡ bytes_by (lookup_of job.now office.now number age) job.now office.now
part_bytes job office number age part p = by (lookup_of job.now office.now number age) p
  where
    by : (r : Looked) → PartBy r job office part → part.now ≡ bytes_by r job.now office.now
    by (Ok (Job start size)) q = q.bytes
    by (Ok (Office start size)) q = q.bytes
    by (Err x) q = q.bytes

-- the part that is handed back, by where it was found
module _ (job office : Bor (List ℕ)) (number age : ℕ) {found : Looked} (is : found ≡ lookup_of job.now office.now number age) where
  part_of : (whole : Bor (List ℕ)) (start size : ℕ) → PartOf whole start size (sl_partˢ whole (by_byte start whole.ref_ptr.1) start (start + size))
  part_of whole start size = let z : start + size - start ≡ size = omega arith in record { bytes = rw z; block = refl; place = omega arith }

  pub job_part : {start size : ℕ} → found ≡ Ok (Job start size)
      → FindPromise job office number age (sl_partˢ job (by_byte start job.ref_ptr.1) start (start + size))
  job_part {start} {size} e = rw (sym is ∙ e) (part_of job start size)

  pub office_part : {start size : ℕ} → found ≡ Ok (Office start size)
      → FindPromise job office number age (sl_partˢ office (by_byte start office.ref_ptr.1) start (start + size))
  office_part {start} {size} e = rw (sym is ∙ e) (part_of office start size)

  pub no_part : {r : Refusal} → found ≡ Err r → FindPromise job office number age (sl_partˢ job (by_byte 0 job.ref_ptr.1) 0 0)
  no_part e = rw (sym is ∙ e) (part_of job 0 0)
