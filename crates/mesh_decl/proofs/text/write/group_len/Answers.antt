use Rattle.std.proofs.Common.{◌≡◌, pos, ap, rules, get_or, w32, FitsSigned}
use Rattle.std.proofs.lemmas.Int.{to_z-of_z}
use Rattle.mesh_decl.proofs.text.Grouping.{first_one, first_two}
use Rattle.mesh_decl.proofs.text.write.group_len.Goals as goal

pub returns-in-One-clause-group : goal.returns-in-One-clause-group
returns-in-One-clause-group c z zs e = rw c.in-One.is (first_one c.args.values.now zs z e)

pub returns-in-Two-clause-group : goal.returns-in-Two-clause-group
returns-in-Two-clause-group c z zs e =
    let fits : FitsSigned w32 (get_or c.args.values.now 0 (pos 0)) = search rules in
    let first : get_or c.args.values.now 0 (pos 0) ≡ z = ap (λ xs. get_or xs 0 (pos 0)) e in
    rw c.in-Two.is (first_two c.args.values.now zs z c.stretch_len.result e (rw (to_z-of_z w32 _ fits, first) at c.stretch_len.ensures.size))
