-- Nothing in a bound program sets a variable that is `const`.
use Rattle.std.proofs.Common.{List, [], Ok, Err, subst}
use Rattle.c_tree.specs.Tree.{ProgramTree}
use Rattle.kernel_model.specs.declared.types.kernels.ConstDecl.{ConstDecl}
use Rattle.kernel_model.specs.declared.types.kernels.Resolved.{Resolved}
use Rattle.mesh_decl.specs.Mesh.{MeshValue}
use Rattle.mesh_decl.specs.Spelling.{Named}
use Rattle.bound_program.specs.Refusals.{Judged}
use Rattle.bound_program.specs.Limits.{max_trace}
use Rattle.main_declarations.specs.SoFar.{Declared, Walked, quiet, nothing_declared}
use Rattle.main_declarations.specs.File.{judged_tops}
use Rattle.loop_bind.specs.Text.{outermost, judged_hosts}
use Rattle.bound_program.specs.Limited.{UnrolledValue, unrolled}
use Rattle.loop_bind.specs.Assigned.{after_tops}
use Rattle.loop_bind.specs.ResolvedSources.{IsResolvedSource}
use Rattle.loop_bind.specs.Weights.{weight_of_all, within_weight, weighed, trace}
use Rattle.loop_bind.specs.Bound.{text, happens, finished, unrolled_text, bound}
use Rattle.loop_bind.specs.Constants.{LeavesConstants}
use Rattle.loop_bind.specs.Resolvable.{BoundProgramsLeaveConstants}
use Rattle.main_declarations.proofs.Public.{Gives, gives_then, gives_any}
use Rattle.loop_bind.proofs.FitsScopeWalk.{Scoped, tops_scoped, hosts_assign}
use Rattle.loop_bind.proofs.LeavesState.{WalkLeaves, LeavesOn, WalkOn}
use Rattle.loop_bind.proofs.LeavesMain.{nothing-leaves, tops-on}
use Rattle.loop_bind.proofs.LeavesText.{hosts-on}
use Rattle.loop_bind.proofs.LeavesTrace.{IsFreeTrace, main-free, unrolls-free, told-same, leaves-all}

module _ (p : ProgramTree) (r : Resolved) (es : List Named) (h : IsResolvedSource p r) where
  abbrev cs : List ConstDecl
  cs = r.consts.items

  both : {A : Type 0} (P Q : A → Type 0) (j : Judged A) → Gives P j → Gives Q j → Gives (λ x. P x × Q x) j
  both P Q (Ok x) h i = (h, i)
  both P Q (Err e) h i = tt

  no-names : Scoped [] [] nothing_declared
  no-names = record { file = tt; own = tt }

  moved : (k : Declared) (j : Judged Walked) → Gives (WalkOn k) j → Gives WalkLeaves j
  moved k (Ok b) w = w.walk
  moved k (Err e) w = tt

  text-leaves : Gives WalkLeaves (text p r es)
  text-leaves =
      gives_then (λ k. LeavesOn nothing_declared k × Scoped (after_tops [] p.tops) [] k) WalkLeaves
      (judged_tops p.places cs es nothing_declared p.tops) (λ k. judged_hosts p.places cs es (quiet k) outermost p.main.body)
      (both (LeavesOn nothing_declared) (Scoped (after_tops [] p.tops) []) (judged_tops p.places cs es nothing_declared p.tops)
      (tops-on p.places cs es nothing_declared p.tops nothing-leaves)
      (tops_scoped p.places cs es [] [] nothing_declared p.tops no-names))
      (λ k i. moved k (judged_hosts p.places cs es (quiet k) outermost p.main.body)
      (hosts-on p.places cs es (quiet k) outermost p.main.body (record { declared = i.0.leaves; steps = tt })
      (hosts_assign p.places cs es (after_tops [] p.tops) [] (quiet k) outermost p.main.body i.1 h.assigns)))

  weighed-gives : (P : UnrolledValue → Type 0) (g : MeshValue) (u : UnrolledValue) → P u → Gives P (weighed g u)
  weighed-gives P g u h =
      gives_then (λ x. Unit {0}) P (within_weight (weight_of_all g u.items)) (λ x. Ok u) (gives_any (within_weight (weight_of_all g u.items))) (λ x i. h)

  trace-leaves : (w : Walked) → WalkLeaves w → Gives (IsFreeTrace w.declared.vars) (trace w.declared.mesh (happens w))
  trace-leaves w i =
      gives_then (IsFreeTrace w.declared.vars) (IsFreeTrace w.declared.vars) (unrolled max_trace (happens w)) (weighed w.declared.mesh)
      (unrolls-free w.declared.vars max_trace (happens w) (main-free w.declared.vars w.declared.sites w.steps i.steps))
      (λ u j. weighed-gives (IsFreeTrace w.declared.vars) w.declared.mesh u j)

  walk-leaves : (w : Walked) → WalkLeaves w → Gives LeavesConstants (unrolled_text r w)
  walk-leaves w i =
      gives_then (IsFreeTrace w.declared.vars) LeavesConstants (trace w.declared.mesh (happens w)) (λ u. Ok (finished r w.declared u)) (trace-leaves w i)
      (λ u j. leaves-all w.declared.vars (finished r w.declared u) (told-same u.values w.declared.vars) j.items i.declared.sites)

  all-leave : Gives LeavesConstants (bound p r es)
  all-leave = gives_then WalkLeaves LeavesConstants (text p r es) (unrolled_text r) text-leaves walk-leaves

pub bound-programs-leave : BoundProgramsLeaveConstants
bound-programs-leave p r es b h e = subst (Gives LeavesConstants) e (all-leave p r es h)
