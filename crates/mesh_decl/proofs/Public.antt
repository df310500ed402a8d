-- What proofs of other crates use of this one: laws of its definitions, and nothing of its code.

-- What a read of one field of a list of records gives.
pub use Rattle.mesh_decl.proofs.FieldReads.{some_in}
-- A mesh with one declaration more, and what is so of the declarations of a mesh.
pub use Rattle.mesh_decl.proofs.Declared.{with_set, with_dat, with_map, sizes_fit, in_range, dat_at}
