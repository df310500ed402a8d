use Rattle.std.proofs.Common.{List, map, length, ap, ◌∙◌, arith}
use Rattle.std.proofs.lemmas.List.{take_all}
use Rattle.bound_program.specs.Values.{var_of}
use Rattle.bound_program.specs.declared.programs.Var.{Var}
use Rattle.rank_layout.specs.First.{first_variables}
use Rattle.rank_program.proofs.runnable.count_cells.Goals as goal

pub returns : goal.returns
returns c =
    let vars = c.args.vars.now in
    c.loop-var.invariant
    ∙ ap (λ (l : List Var). length (first_variables (map var_of l))) (take_all c.loop-var.var-index vars (omega (arith, c.loop-var-test.false)))
