use Rattle.std.proofs.Common.{◌≡◌, ◌++◌, List, ℕ, length, take, sym, subst, ap, ◌∙◌}
use Rattle.std.proofs.Math.Seq.{take-append_seam}
use Rattle.std.proofs.lemmas.Result.{IfOk-weaker}
use Rattle.gmsh_mesh.specs.Nodes.{AreInOrder}
use Rattle.gmsh_mesh.proofs.cell_faces.Agreeing.{to-classes}
use Rattle.gmsh_mesh.proofs.cell_faces.faces.side_classes.Goals as goal

whole : (n : ℕ) (xs ys : List ℕ) → length xs ≡ n → take n (xs ++ ys) ≡ xs
whole n xs ys e = ap (λ k. take k (xs ++ ys)) (sym e) ∙ take-append_seam xs ys

pub returns : goal.returns
returns c =
    let here = c.deref.ensures.value ∙ whole _ c.sort_rows.new.rows _ (c.sort_rows.ensures.size ∙ c.deref_mut.ensures.len) in
    let from = subst (λ x. AreInOrder c.args.count c.args.width x c.sort_rows.new.rows) (c.deref_mut.ensures.value ∙ c.in_ok-ordered.ensures.items) c.sort_rows.ensures in
    let order = subst (λ x. AreInOrder c.args.count c.args.width c.args.sides.now x) (sym here) from in
    IfOk-weaker c.row_classes.result _ _
    (λ of r. to-classes c.args.sides.now c.deref.result.now of.items c.args.count c.args.width c.requires.table order r)
    c.row_classes.ensures
