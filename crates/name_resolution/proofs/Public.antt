-- What proofs of other crates use of this one: laws of its definitions, and nothing of its code.

-- Declarations whose cells are there, and what their uses name.
pub use Rattle.name_resolution.proofs.Fits.{AllAre, mk, declared_are, all_as, none_of_both, none_if, meant, Allowed, allowed}
