-- Any two calls with the same arguments that the contract of a function of this crate allows are equal. Assumes nothing.
use mathlib.Core.Path.{refl, sym, ◌∙◌}
use Rattle.contracts.specs.Contract.{OneAnswer}
use Rattle.rulefile.specs.contracts
use Rattle.rulefile.proofs

pub parts_one_answer : OneAnswer contracts.parts.ended proofs.parts.Reads.Learnt
parts_one_answer κs a x y = (x.told ∙ sym y.told, refl)

pub read_one_answer : OneAnswer contracts.read.ended proofs.read.Reads.Learnt
read_one_answer κs a x y = (x.told ∙ sym y.told, refl)

pub write_one_answer : OneAnswer contracts.write.ended proofs.write.Reads.Learnt
write_one_answer κs a x y = (x.told.answer ∙ sym y.told.answer, λ i. (tt, ((x.told.output ∙ sym y.told.output) i, tt)))

pub put_file_one_answer : OneAnswer contracts.put_file.ended proofs.put_file.Reads.Learnt
put_file_one_answer κs a x y =
    (x.told.answer ∙ sym y.told.answer, λ i. (tt, (tt, ((x.told.output ∙ sym y.told.output) i, tt))))
