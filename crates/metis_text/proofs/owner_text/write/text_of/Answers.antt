use Rattle.std.proofs.Common.{◌+◌, ◌++◌, ◌∙◌, drop, sym, ap, codes, arith, append-nil}
use Rattle.std.proofs.lemmas.List.{drop_all}
use Rattle.op_num.specs.Lines.{text_of_lines}
use Rattle.metis_text.specs.Written.{set_lines, lines_from}
use Rattle.metis_text.proofs.owner_text.Written.{owners_at, set_step, whole}
use Rattle.metis_text.proofs.owner_text.write.text_of.Goals as goal

pub loop-set-preserved : goal.loop-set-preserved
loop-set-preserved c =
    let items = c.args.owners.now.sets.items in
    let g = c.args.mesh.now in
    let s = c.loop-set.set in
    let out = c.loop-set.out.items in
    let written = c.in_ok-put_set.ensures ∙ ap (λ rs. out ++ text_of_lines (set_lines g s rs)) (c.of_set.ensures ∙ owners_at c.args.owners.now s) in
    ap (λ z. z ++ text_of_lines (lines_from g (s + 1) (drop (s + 1) items))) written
    ∙ set_step g items s out (omega (arith, c.requires)) ∙ c.loop-set.invariant

pub returns : goal.returns
returns c =
    let items = c.args.owners.now.sets.items in
    let g = c.args.mesh.now in
    let none = drop_all c.loop-set.set items (omega (arith, c.requires)) in
    let lines = sym (append-nil c.loop-set.out.items) ∙ ap (λ xs. c.loop-set.out.items ++ text_of_lines (lines_from g c.loop-set.set xs)) (sym none) ∙ c.loop-set.invariant in
    c.in_ok-extend_from_slice-2.ensures.items ∙ ap (λ xs. xs ++ codes "done\n") lines ∙ whole g items
