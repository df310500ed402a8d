use Rattle.std.proofs.Common.{◌≡◌, ◌∙◌, ap, rules, arith}
use Rattle.std.proofs.lemmas.Grind.{common_steps}
use Rattle.c_tree.specs.Tree.{Block}
use Rattle.c_tree.specs.View.{stmt_of, stmts_of}
use Rattle.c_tree.proofs.Public.{stmt_block}
use Rattle.c_show.proofs.put_statements.+statements.Goals as goal

pub put_stmt-returns-in_ok-put_stmts-in-Block : goal.put_stmt-returns-in_ok-put_stmts-in-Block
put_stmt-returns-in_ok-put_stmts-in-Block t c =
    let e : stmt_of c.args.stmt.now ≡ Block c.in-Block.at (stmts_of c.in-Block.body.items) = ap stmt_of c.in-Block.is ∙ stmt_block c.in-Block.at c.in-Block.body in
    rw e (first_of (search rules, grind (arith, common_steps)))
