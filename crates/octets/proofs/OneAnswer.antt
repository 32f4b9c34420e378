-- Any two calls with the same arguments that the contract of a function of this crate allows are equal. Assumes nothing.
use mathlib.Core.Path.{refl, sym, ◌∙◌}
use Rattle.contracts.specs.Contract.{OneAnswer}
use Rattle.octets.specs.contracts
use Rattle.octets.proofs

pub copy_one_answer : OneAnswer contracts.copy.ended proofs.copy.Reads.Learnt
copy_one_answer κs a x y = (refl, λ i. (tt, ((x.told ∙ sym y.told) i, tt)))

pub number_one_answer : OneAnswer contracts.number.ended proofs.number.Reads.Learnt
number_one_answer κs a x y = (x.told ∙ sym y.told, refl)

pub put_number_one_answer : OneAnswer contracts.put_number.ended proofs.put_number.Reads.Learnt
put_number_one_answer κs a x y = (refl, λ i. ((x.told ∙ sym y.told) i, (tt, tt)))
