-- The kernels and constants of a source that breaks no rule are those of a resolved program.
use Rattle.std.proofs.Common.{◌≡◌, [], sym, subst, arith}
use Rattle.c_tree.specs.Tree.{ProgramTree}
use Rattle.kernel_model.specs.declared.types.kernels.Resolved.{Resolved}
use Rattle.kernel_model.specs.Resolved.{FollowOn, cells_of, IsResolvedProgram}
use Rattle.name_resolution.specs.Mains.{hosts_breaches}
use Rattle.name_resolution.specs.Numbers.{KernelsFit}
use Rattle.name_resolution.specs.Programs.{breaches, constants, file_of, named_in, resolved, tops_breaches}
use Rattle.kernel_model.specs.View.{ResolvedTree, resolved_of}
use Rattle.name_resolution.proofs.Bridge.{KernelsIn, are_resolved}
use Rattle.name_resolution.proofs.Fits.{none_of_both}
use Rattle.name_resolution.proofs.Follow.{cells_are, tops_follow, none_follow}
use Rattle.name_resolution.proofs.Whole.{kernels_in, none_kept_yet}

abbrev In : ResolvedTree → Type 0
In t = FollowOn 0 t.consts × KernelsIn (cells_of t.consts) t.kernels

tree_in : (p : ProgramTree) → breaches p ≡ [] → In (resolved p)
tree_in p h =
    let b = none_of_both (tops_breaches (named_in p) [] p.tops) (hosts_breaches (file_of p) [] [] p.main.body) h in
    let e = cells_are (file_of p) in
    ((tops_follow (named_in p) [] p.tops none_follow).on, kernels_in (named_in p) p.places (cells_of (constants (file_of p))) [] p.tops none_kept_yet (omega (arith, e)) b.0)

pub is_resolved_program : (p : ProgramTree) (r : Resolved) → breaches p ≡ [] → resolved_of r ≡ resolved p → KernelsFit (resolved_of r).kernels → IsResolvedProgram r
is_resolved_program p r h e w =
    let t = subst In (sym e) (tree_in p h) in
    record { consts = t.0; kernels = are_resolved (cells_of r.consts.items) r.kernels.items t.1 w }
