-- Any two calls with the same arguments that the contract of a function of this crate allows are equal. Assumes nothing.
use mathlib.Core.Path.{refl, sym, ◌∙◌}
use Rattle.contracts.specs.Contract.{OneAnswer}
use Rattle.trailer.specs.contracts
use Rattle.trailer.proofs

pub framed_one_answer : OneAnswer contracts.framed.ended proofs.framed.Reads.Learnt
framed_one_answer κs a x y = (x.told ∙ sym y.told, refl)

pub check_shape_one_answer : OneAnswer contracts.check_shape.ended proofs.check_shape.Reads.Learnt
check_shape_one_answer κs a x y = (x.told ∙ sym y.told, refl)

pub check_trailer_one_answer : OneAnswer contracts.check_trailer.ended proofs.check_trailer.Reads.Learnt
check_trailer_one_answer κs a x y = (x.told ∙ sym y.told, refl)

pub trailer_of_one_answer : OneAnswer contracts.trailer_of.ended proofs.trailer_of.Reads.Learnt
trailer_of_one_answer κs a x y = (x.told ∙ sym y.told, refl)

pub put_trailer_one_answer : OneAnswer contracts.put_trailer.ended proofs.put_trailer.Reads.Learnt
put_trailer_one_answer κs a x y = (refl, λ i. ((x.told ∙ sym y.told) i, (tt, tt)))
