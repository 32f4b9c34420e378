-- Any two calls with the same arguments that the contract of a function of this crate allows are equal. Assumes nothing.
use mathlib.Core.Path.{◌≡◌, refl, sym, ◌∙◌}
use mathlib.Core.List.{List}
use Prim.Native.Nat.{ℕ}
use contract.Lifetimes.{Lfts}
use denote.Ref.{Bor}
use denote.Triple.Entry.{Args}
use Rattle.std.specs.Prelude.{Ok, Err}
use Rattle.contracts.specs.Contract.{Call, OneAnswer}
use Rattle.book.specs.Finding.{Looked, PartOf, PartBy, lookup_of}
use Rattle.book.specs.declared.Lookup.TheVariants.{Job, Office}
use Rattle.book.specs.contracts
use Rattle.book.proofs

pub look_one_answer : OneAnswer contracts.look.ended proofs.look.Reads.Learnt
look_one_answer κs a x y = (x.told ∙ sym y.told, refl)

-- a part's place and bytes, which are all that a reference is
pub find_one_answer : (κs : Lfts (contracts.find.ended).signature.lifetimes) (a : Args (contracts.find.ended).signature κs)
    (x y : Call contracts.find.ended proofs.find.Reads.Learnt κs a) → (x.result.ref_ptr ≡ y.result.ref_ptr) × (x.result.now ≡ y.result.now)
find_one_answer κs a x y = by (lookup_of a.0.now a.1.0.now a.1.1.0 a.1.1.1.0) x.told y.told
  where
    same : (whole p q : Bor (List ℕ)) (start size : ℕ) → PartOf whole start size p → PartOf whole start size q → (p.ref_ptr ≡ q.ref_ptr) × (p.now ≡ q.now)
    same whole p q start size s t = (λ i. ((s.block ∙ sym t.block) i, (s.place ∙ sym t.place) i), s.bytes ∙ sym t.bytes)

    by : (r : Looked) → PartBy r a.0 a.1.0 x.result → PartBy r a.0 a.1.0 y.result
        → (x.result.ref_ptr ≡ y.result.ref_ptr) × (x.result.now ≡ y.result.now)
    by (Ok (Job start size)) s t = same a.0 _ _ start size s t
    by (Ok (Office start size)) s t = same a.1.0 _ _ start size s t
    by (Err r) s t = same a.0 _ _ 0 0 s t

pub add_one_answer : OneAnswer contracts.add.ended proofs.add.Reads.Learnt
add_one_answer κs a x y = (x.told.answer ∙ sym y.told.answer, λ i. (tt, (tt, (tt, ((x.told.output ∙ sym y.told.output) i, tt)))))
