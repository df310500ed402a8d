use Rattle.std.proofs.Common.{◌≡◌, rules, arith, pos, get_or, sym, ap, ◌∙◌, w32, FitsSigned, to_z, of_z}
use Rattle.std.proofs.lemmas.Int.{to_z-of_z}
use Rattle.std.proofs.lemmas.Bool.Decides.{nat_tests}
use Rattle.rank_exec.proofs.group_steps.is_zero.Goals as goal

pub returns : goal.returns
returns c h =
    let fits : FitsSigned w32 (get_or c.args.window.now c.args.cell (pos 0)) = search rules in
    let none : of_z w32 (get_or c.args.window.now c.args.cell (pos 0)) ≡ 0 = grind (arith, nat_tests) in
    sym (to_z-of_z w32 (get_or c.args.window.now c.args.cell (pos 0)) fits) ∙ ap (to_z w32) none
