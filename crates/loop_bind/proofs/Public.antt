-- What proofs of other crates use of this one: laws of its definitions, and nothing of its code.

-- What stays so of all that is declared, from statement to statement of the text.
pub use Rattle.loop_bind.proofs.FitsState.{known-fits}
