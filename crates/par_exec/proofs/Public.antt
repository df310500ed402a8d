-- What proofs of other crates use of this one: laws of its definitions, and nothing of its code.

-- The parts of two lists, one after the other.
pub use Rattle.par_exec.proofs.EachPart.{takes_front, takes_back, made_both}
