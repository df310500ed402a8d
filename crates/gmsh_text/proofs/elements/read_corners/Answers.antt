use Rattle.std.proofs.Common.{◌≡◌, ◌∙◌, ℕ, ◌⊎◌, inl, inr, Result, Ok, Err, OnOk, IfErr, sym, ap, arith}
use Rattle.op_num.specs.Cut.{Uncut}
use Rattle.gmsh_text.specs.declared.refusal.TextRefusal.{TextRefusal}
use Rattle.gmsh_text.specs.declared.refusal.TextRefusal.TheVariants.{OutOfMemory}
use Rattle.gmsh_text.specs.declared.kind.Kind.{Kind}
use Rattle.gmsh_text.specs.declared.entities.Group.{Group}
use Rattle.gmsh_text.specs.declared.table.Elements.{Elements}
use Rattle.gmsh_text.specs.Values.{node_count, row_in}
use Rattle.gmsh_text.specs.Parsing.{and_then, repeat, IsMade}
use Rattle.gmsh_text.specs.Reading.{corner, corners}
use Rattle.gmsh_text.proofs.Repeating.{done, more, stopped, passed_made}
use Rattle.gmsh_text.proofs.elements.read_corners.Goals as goal

module _ (k : Kind) (line : ℕ) (g : Group) (es : Elements) (u : Uncut) where
  fails : (e : TextRefusal) → ((e ≡ OutOfMemory) ⊎ (repeat (corner k) (node_count k) es u ≡ Err e)) → (e ≡ OutOfMemory) ⊎ (corners k line g es u ≡ Err e)
  unfolding corners
  fails e (inl m) = inl m
  fails e (inr h) = inr (ap (λ r. and_then r (λ fs v. Ok (row_in k line g fs, v))) h)

  passes : (fs : Elements) (v : Uncut) → repeat (corner k) (node_count k) es u ≡ Ok (fs, v) → corners k line g es u ≡ Ok (row_in k line g fs, v)
  unfolding corners
  passes fs v h = ap (λ r. and_then r (λ xs w. Ok (row_in k line g xs, w))) h

  pushes : {A : Type 0} (r : Result A TextRefusal) (fs new : Elements) (v : Uncut) → OnOk r (new ≡ row_in k line g fs) → IfErr r (λ e. e ≡ OutOfMemory)
      → repeat (corner k) (node_count k) es u ≡ Ok (fs, v)
      → IsMade r new v (corners k line g es u)
  pushes (Ok x) fs new v p l h = passes fs v h ∙ ap (λ y. Ok (y, v)) (sym p)
  pushes (Err e) fs new v p l h = inl l

pub returns-in_err-read_corner : goal.returns-in_err-read_corner
returns-in_err-read_corner c =
    passed_made c.from_residual.result _ _ _ _ c.from_residual.ensures.1
    (fails c.args.kind c.args.line c.args.group _ _ _ (stopped (corner c.args.kind) _ _ _ _ _ c.loop.invariant (omega arith) c.in_err-read_corner.ensures))

pub loop-preserved : goal.loop-preserved
loop-preserved c = c.loop.invariant ∙ more (corner c.args.kind) _ _ _ _ _ _ (omega arith) c.in_ok-read_corner.ensures

pub returns : goal.returns
returns c =
    pushes c.args.kind c.args.line c.args.group _ _ c.push_row.result _ _ _ c.push_row.ensures.pushed c.push_row.ensures.lost
    (c.loop.invariant ∙ done (corner c.args.kind) _ _ _ (omega arith))
