-- Demands 2 and 3 hold of the rule found, and a rule that `add` put in has its sheet made (specs/Found). Assumes nothing.
use Prim.Native.Nat.{ℕ}
use mathlib.Core.Path.{◌≡◌, refl, sym, ap, ◌∙◌}
use mathlib.Core.List.{List, [], ◌∷◌, ◌++◌}
use native.Mathlib.Omega.{arith}
use Rattle.std.specs.Prelude.{Ok, Err}
use Rattle.octets.specs.Numbers.{digits}
use Rattle.rule.proofs.NumberLaws.{Gives}
use Rattle.rule.proofs.RefusalLaws.{not_both}
use Rattle.rulefile.specs.Reading.{verdict_on}
use Rattle.book.specs.Book.{Filed, filed, rules_of, directory_of, book_of, AllKeepable, IsBookOf}
use Rattle.book.specs.Directory.{entries_in}
use Rattle.book.specs.Finding.{Looked, lookup_of, verdict_by, bytes_by, Finds, in_job, in_office, not_there}
use Rattle.book.specs.Given.{find_order}
use Rattle.book.specs.declared.Lookup.TheVariants.{Job, Office}
use Rattle.book.proofs.BookLaws.{entries_are}
use Rattle.book.proofs.FindLaws.{part_bytes}
use Rattle.book.proofs.BooksHold.{list_finds, list_bytes}
use Rattle.book.proofs.AddLaws.{add_done, added_book}
use Rattle.book.proofs.GivenLaws.{find_numbers}
use Rattle.pachallu.specs.Told.{found_of}
use Rattle.pachallu.specs.declared.Found.{Found}
use Rattle.demands.specs.Found.{RuleInForce, of_job, of_office, RuleFound, Grown, begun, added, part_for_c, FromBooks}
use Rattle.demands.proofs.MadeLaws.{sound_made}
use Rattle.demands.proofs.Demand2.{demand_2}
use Rattle.demands.proofs.Demand3.{demand_3}
use Rattle.demands.proofs.FromCLaws.{no_zero}

-- what is found is the rule of the entry in force
module _ (job office : List ℕ) (l m : List Filed) (i : IsBookOf job l) (j : IsBookOf office m) (number age : ℕ) where
  force_found : verdict_by (lookup_of job office number age) ≡ Ok tt → RuleInForce l m number age (bytes_by (lookup_of job office number age) job office)
  force_found = by (lookup_of job office number age) (list_finds job office l m i j number age)
    where
      by : (r : Looked) → Finds l m number age r → verdict_by r ≡ Ok tt → RuleInForce l m number age (bytes_by r job office)
      by (Ok (Job start size)) (in_job f) e = of_job f (list_bytes job l i f)
      by (Ok (Office start size)) (in_office n f) e = of_office n f (list_bytes office m j f)
      by (Err x) (not_there h) e = not_both e refl

-- both demands, of whatever was found
found_rule : {l m : List Filed} {number age : ℕ} {part : List ℕ} → RuleInForce l m number age part → RuleFound l m number age part
found_rule {part = part} f =
    record { in_force = f; demand_2 = λ sheet made. demand_2 part sheet made; demand_3 = λ sheet made h. demand_3 part sheet made h }

-- the books that `add` has grown: books of lists of sound rules

AllSound : List Filed → Type 0
AllSound [] = Unit {0}
AllSound (x ∷ l) = (verdict_on x.rule ≡ Ok tt) × AllSound l

sound_last : (l : List Filed) (x : Filed) → AllSound l → verdict_on x.rule ≡ Ok tt → AllSound (l ++ (x ∷ []))
unfolding AllSound
sound_last [] x a s = (s, tt)
sound_last (y ∷ l) x a s = (a.0, sound_last l x a.1 s)

sound_at : (before : List Filed) (x : Filed) (after : List Filed) → AllSound (before ++ x ∷ after) → verdict_on x.rule ≡ Ok tt
unfolding AllSound
sound_at [] x after a = a.0
sound_at (y ∷ before) x after a = sound_at before x after a.1

record SoundBook (b : List ℕ) : Type 0 where
  rules : List Filed
  is_book : IsBookOf b rules
  all_sound : AllSound rules

grown_sound : {b : List ℕ} → Grown b → SoundBook b
unfolding book_of rules_of directory_of digits AllKeepable AllSound
grown_sound begun = record { rules = []; is_book = record { few = omega arith; kept = tt; is = refl }; all_sound = tt }
grown_sound (added {b} g number numbered rule out n out' p) =
    let s = grown_sound g in
    let d = add_done b number rule out n out' p in
    let e = entries_are s.is_book in
    record {
      rules = entries_in b ++ (filed number rule ∷ []);
      is_book = rw d.1 (added_book b number rule s.rules s.is_book numbered d.0);
      all_sound = sound_last (entries_in b) (filed number rule) (rw e s.all_sound) d.0.sound;
    }

-- the rule in force in such books is sound
force_sound : {l m : List Filed} {number age : ℕ} {part : List ℕ} → AllSound l → AllSound m → RuleInForce l m number age part → verdict_on part ≡ Ok tt
force_sound a c (of_job f e) = rw e (sound_at f.before f.entry f.after (rw f.is at a))
force_sound a c (of_office n f e) = rw e (sound_at f.before f.entry f.after (rw f.is at c))

-- what C reads off an answer
part_for_C : (r : Looked) (job office : List ℕ) → part_for_c (found_of r) job office ≡ bytes_by r job office
part_for_C (Ok (Job start size)) job office = refl
part_for_C (Ok (Office start size)) job office = refl
part_for_C (Err x) job office = refl

-- refusal 0 is "found"
zero_found : (r : Looked) → Gives find_order (verdict_by r) → (found_of r).refusal ≡ 0 → verdict_by r ≡ Ok tt
zero_found (Ok (Job start size)) g e = refl
zero_found (Ok (Office start size)) g e = refl
zero_found (Err x) g e = absurd (no_zero refl (g x refl) e)

pub from_books : FromBooks
from_books =
    record {
      found = λ job office part l m i j number age p s.
          found_rule (rw (part_bytes job office number age part p) (force_found job.now office.now l m i j number age s));
      c_found = λ job office l m i j number age r p z.
          let x = lookup_of job office number age in
          let s = zero_found x (find_numbers job office number age) (ap (λ (q : Found). q.refusal) (sym p) ∙ z) in
          found_rule (rw (p, part_for_C x job office) (force_found job office l m i j number age s));
      makes = λ job office part g h number age p s.
          let x = grown_sound g in
          let y = grown_sound h in
          let f = force_found job.now office.now x.rules y.rules x.is_book y.is_book number age s in
          sound_made part.now (rw (part_bytes job office number age part p) (force_sound x.all_sound y.all_sound f));
    }
