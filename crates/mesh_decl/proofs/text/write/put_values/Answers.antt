use Rattle.std.proofs.Common.{◌≡◌, ◌<◌, ◌++◌, ◌∷◌, pos, ap, sym, ◌∙◌, arith, rules, length, get_or, drop, w32, FitsSigned, append-nil}
use Rattle.std.proofs.lemmas.Int.{to_z-of_z}
use Rattle.mesh_decl.specs.Canonical.{groups}
use Rattle.mesh_decl.proofs.text.Grouping.{fit_more, fit_none, cons_of, turn, no_line}
use Rattle.mesh_decl.proofs.text.write.put_values.Goals as goal

pub loop-rest-preserved : goal.loop-rest-preserved
loop-rest-preserved c =
    let z = get_or c.loop-rest.rest.now 0 (pos 0) in
    let some : 0 < length c.loop-rest.rest.now = omega arith in
    let fits : FitsSigned w32 (get_or c.loop-rest.rest.now 0 (pos 0)) = search rules in
    let group = c.group_len-times.ensures.group (get_or c.loop-rest.rest.now 0 (pos 0)) (drop 1 c.loop-rest.rest.now) (cons_of c.loop-rest.rest.now (pos 0) some) in
    let split : groups c.args.form c.loop-rest.rest.now ≡ (c.group_len-times.result, z) ∷ groups c.args.form c.split_at.result.1.now = group
    ∙ ap (λ xs. (c.group_len-times.result, z) ∷ groups c.args.form xs) (sym c.split_at.ensures.back) in
    record {
      text = turn c.args.form c.loop-rest.rest.now c.split_at.result.1.now c.group_len-times.result z c.loop-rest.out.items c.put_piece.new.out.items c.put_separator.new.out.items c.is_empty.result
          split (rw (to_z-of_z w32 _ fits) at c.in_ok-put_piece.ensures) c.in_ok-put_separator.ensures c.is_empty.ensures
          ∙ c.loop-rest.invariant.text;
      numbers = λ back. c.loop-rest.invariant.numbers (fit_more c.args.form c.loop-rest.rest.now c.split_at.result.1.now c.group_len-times.result z split fits back);
    }

pub returns-clause-numbers : goal.returns-clause-numbers
returns-clause-numbers c = c.loop-rest.invariant.numbers (fit_none c.loop-rest.rest.now c.in_default.len_below)

pub returns-clause-text : goal.returns-clause-text
returns-clause-text c =
    sym (append-nil c.loop-rest.out.items) ∙ ap (λ xs. c.loop-rest.out.items ++ xs) (sym (no_line c.args.form c.loop-rest.rest.now c.in_default.len_below)) ∙ c.loop-rest.invariant.text
