-- The owner of a pair.
use Rattle.std.proofs.Common.{◌≡◌, ℕ, ◌<◌, nat_eq, sym, ap, ◌∙◌}
use Rattle.std.specs.Prelude.{nat_lt}
use Rattle.std.proofs.lemmas.Bool.{cond-true, lt-ltb}
use Rattle.mesh_decl.specs.declared.owners.Owners.{Owners}
use Rattle.mesh_decl.specs.Mesh.{set_size, dat_set}
use Rattle.mesh_decl.specs.Owners.{owner_of}
use Rattle.bound_program.specs.Values.{BoundValue}
use Rattle.chain_model.specs.Slices.{owns_pair}
use Rattle.lemmas.proofs.Numbers.{nat_eq_comm}

pub owner_is : (b : BoundValue) (o : Owners) (d y r rank : ℕ) → y < set_size b.mesh (dat_set b.mesh d) → rank ≡ owner_of o (dat_set b.mesh d) y → nat_eq r rank ≡ owns_pair b o r d y
owner_is b o d y r rank l e =
    nat_eq_comm r rank
    ∙ ap (λ z. nat_eq z r) (e ∙ sym (cond-true (nat_lt y (set_size b.mesh (dat_set b.mesh d))) (owner_of o (dat_set b.mesh d) y) 0 (lt-ltb y (set_size b.mesh (dat_set b.mesh d)) l)))
