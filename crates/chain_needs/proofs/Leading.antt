-- What an element of a loop's set reaches is there.
use Rattle.std.proofs.Common.{ℕ, ◌<◌, List, get_or, Some, None, sym, subst}
use Rattle.std.specs.Prelude.{All}
use Rattle.mesh_decl.specs.Mesh.{set_size}
use Rattle.bound_program.specs.declared.sites.Arg.{Arg}
use Rattle.bound_program.specs.declared.sites.Arg.TheVariants.{Dat, Global}
use Rattle.bound_program.specs.Values.{BoundValue}
use Rattle.bound_program.specs.Fits.{ArgFits}
use Rattle.chain_needs.specs.PairSets.{ArgLeads}

leads : (b : BoundValue) (set e : ℕ) (y : Arg) → e < set_size b.mesh set → ArgFits b set y → ArgLeads b.mesh e y
leads b set e (Dat d None a) l h = (h.0, subst (λ z. e < set_size b.mesh z) (sym h.2) l)
leads b set e (Dat d (Some v) a) l h = (h.0, (h.2.0, subst (λ z. e < set_size b.mesh z) (sym h.2.1) l, h.2.3, h.2.2))
leads b set e (Global v a) l h = tt

pub all_lead : (b : BoundValue) (set e : ℕ) (args : List Arg) → e < set_size b.mesh set → All (ArgFits b set) args → All (ArgLeads b.mesh e) args
all_lead b set e args l h = λ i d k. leads b set e (get_or args i d) l (h i d k)
