-- What proofs of other crates use of this one: laws of its definitions, and nothing of its code.

-- Needs and executed elements, item by item.
pub use Rattle.chain_model.proofs.bound_chains.Backwards.{no_loops, next_loop, owns_needed}
