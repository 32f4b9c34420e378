-- what code computes of bytes
pub mod ByteLaws
-- arrays that are filled from the front
pub mod ArrayLaws
-- sets of states, and what they reach
pub mod SetLaws
pub mod MoveLaws
pub mod CountLaws
pub mod WayLaws
pub mod ReachLaws
-- the lowest number where a test holds, the layers of what leads into a set, the shortest way into it, backward reach
pub mod LeastLaws
pub mod LayerLaws
pub mod ShortestLaws
pub mod BackwardLaws
-- refusals: which is first, when each is given, and their numbers
pub mod BoolLaws
pub mod RangeLaws
pub mod RefusalLaws
pub mod GivenLaws
pub mod NumberLaws
pub mod TableLaws
pub mod PutLaws
-- operations, stopping states and classes
pub mod PairLaws
pub mod OrderLaws
pub mod StoppingLaws
pub mod ClassLaws
pub mod PairwiseLaws
pub mod JointLaws
pub mod OperationLaws
pub mod ModeLaws
-- 10 is not given once 9 has been passed
pub mod NoTenLaws
-- the published constructions
pub mod PublishedLaws
pub mod ConstructionLaws
-- any two results that a promise allows are equal
pub mod OneAnswer
