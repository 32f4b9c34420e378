-- What is promised of rule books holds (specs/Books). Assumes nothing.
use Prim.Native.Nat.{ℕ}
use mathlib.Core.Path.{◌≡◌, ◌∙◌}
use mathlib.Core.Bool.{true}
use mathlib.Core.List.{List}
use mathlib.Core.Logic.Iff
use lib.ListN.{take, drop}
use Rattle.rule.proofs.BoolLaws.{clash, so}
use Rattle.book.specs.Book.{Filed, IsBookOf}
use Rattle.book.specs.Directory.{well_formed}
use Rattle.book.specs.Finding.{lookup_of, InForce, Finds}
use Rattle.book.specs.Books.{Books}
use Rattle.book.proofs.BookLaws.{book_formed, formed_exactly, only_list, entries_are}
use Rattle.book.proofs.MeaningLaws.{force_bytes}
use Rattle.book.proofs.FindLaws.{look_finds}
use Rattle.book.proofs.GivenLaws.{formed_fails, find_gives, find_sound, add_gives, add_does}
use Rattle.book.proofs.AddLaws.{add_adds}

-- the book of a list passes 17
list_formed : (b : List ℕ) (l : List Filed) → IsBookOf b l → well_formed b ≡ true
list_formed b l i = rw i.is (book_formed l i.few i.kept)

-- what is found, of the lists that the books are of
pub list_finds : (job office : List ℕ) (l m : List Filed) → IsBookOf job l → IsBookOf office m → (number age : ℕ)
    → Finds l m number age (lookup_of job office number age)
list_finds job office l m i j number age =
    rw (entries_are i, entries_are j) at (look_finds job office (list_formed job l i) (list_formed office m j) number age)

pub list_bytes : (b : List ℕ) (l : List Filed) → IsBookOf b l → {number age start size : ℕ} (f : InForce l number age start size)
    → take size (drop start b) ≡ f.entry.rule
list_bytes b l i f =
    force_bytes b (list_formed b l i) (
    record {
      before = f.before;
      entry = f.entry;
      after = f.after;
      is = entries_are i ∙ f.is;
      numbered = f.numbered;
      later = f.later;
      begins = f.begins;
      long = f.long;
    }
    )

pub books_hold : Books
books_hold =
    record {
      books = λ b bytes. Iff.trans
          (λ n. so (well_formed b) (λ f. n ((formed_fails b).0 f)), λ w bad. clash w ((formed_fails b).1 bad))
          (formed_exactly b bytes);
      only = λ b l m i j. only_list i j;
      find_refused = find_gives;
      find_sound = find_sound;
      finds = list_finds;
      bytes = list_bytes;
      add_refused = λ b number rule out w out' p. add_gives b number rule out p;
      add_done = λ b number rule out w out' p. add_does b number rule out p;
      adds = add_adds;
    }
