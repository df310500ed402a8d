-- What proofs of other crates use of this one: laws of its definitions, and nothing of its code.

-- What is so of all that a judgement can give, and what was not found.
pub use Rattle.main_declarations.proofs.Judged.{Gives, gives_then, gives_unless, gives_weaker, gives_any, left_nil, right_nil, not_if}
pub use Rattle.main_declarations.proofs.Judged.{not_over, not_in, IsNil}
-- What holds of the declaration of a map or a dat with which nothing is wrong.
pub use Rattle.main_declarations.proofs.Shapes.{Below, never, known_below, is_dim-true, awaited-is, data_is, dim_fits}
-- Names of sets stand for those of the mesh, behind each name that is declared.
pub use Rattle.main_declarations.proofs.KnownNames.{named, other, ended_scope}
