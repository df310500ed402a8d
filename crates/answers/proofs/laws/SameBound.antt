-- Binding kernels that have the same trees.
use Rattle.std.proofs.Common.{◌≡◌, List, map, Ok, Err, refl, ap}
use Rattle.c_tree.specs.Tree.{ProgramTree}
use Rattle.kernel_model.specs.declared.types.kernels.ConstDecl.{ConstDecl}
use Rattle.kernel_model.specs.declared.types.kernels.Resolved.{Resolved}
use Rattle.kernel_model.specs.View.{rkernel_of, resolved_of}
use Rattle.mesh_decl.specs.Spelling.{Named}
use Rattle.bound_program.specs.Refusals.{Judged, ◌>>=◌}
use Rattle.bound_program.specs.Values.{BoundValue}
use Rattle.main_declarations.specs.SoFar.{Walked, quiet, nothing_declared}
use Rattle.bound_program.specs.Limited.{UnrolledValue}
use Rattle.main_declarations.specs.File.{judged_tops}
use Rattle.loop_bind.specs.Text.{judged_hosts, outermost}
use Rattle.loop_bind.specs.Weights.{trace}
use Rattle.loop_bind.specs.Bound.{text, happens, unrolled_text, bound}
use Rattle.bound_plan.specs.OneRun.{with_kernels}

-- the same program but for its kernels, which have the same trees
abbrev pub IsSame : BoundValue → BoundValue → Type 0
IsSame b c = (c ≡ with_kernels b c.kernels) × (map rkernel_of b.kernels ≡ map rkernel_of c.kernels)

-- both are such, or have one refusal
abbrev pub SameOutcome : Judged BoundValue → Judged BoundValue → Type 0
SameOutcome (Ok b) (Ok c) = IsSame b c
SameOutcome (Err e) (Err f) = e ≡ f
SameOutcome (Ok b) (Err f) = ⊥
SameOutcome (Err e) (Ok c) = ⊥

-- the text with the constants alone
abbrev judged_text : ProgramTree → List Named → List ConstDecl → Judged Walked
judged_text p es cs =
    judged_tops p.places cs es nothing_declared p.tops
    >>= λ k. judged_hosts p.places cs es (quiet k) outermost p.main.body

same_text : (p : ProgramTree) (r q : Resolved) (es : List Named) → r.consts.items ≡ q.consts.items → text p r es ≡ text p q es
same_text p r q es e = ap (judged_text p es) e

same_unrolled : (r q : Resolved) (w : Walked) → map rkernel_of r.kernels.items ≡ map rkernel_of q.kernels.items → SameOutcome (unrolled_text r w) (unrolled_text q w)
same_unrolled r q w e = by_trace (trace w.declared.mesh (happens w)) refl
  where
    by_trace : (t : Judged UnrolledValue) → trace w.declared.mesh (happens w) ≡ t → SameOutcome (unrolled_text r w) (unrolled_text q w)
    by_trace (Ok u) is = rw is (refl, e)
    by_trace (Err f) is = rw is refl

pub same_bound : (p : ProgramTree) (r q : Resolved) (es : List Named) → resolved_of r ≡ resolved_of q → SameOutcome (bound p r es) (bound p q es)
same_bound p r q es e =
    rw (same_text p r q es (ap (λ x. x.consts) e)) (by_text (text p q es))
  where
    by_text : (t : Judged Walked) → SameOutcome (t >>= unrolled_text r) (t >>= unrolled_text q)
    by_text (Ok w) = same_unrolled r q w (ap (λ x. x.kernels) e)
    by_text (Err f) = refl
