use Rattle.std.proofs.Common.{◌≡◌, drop, reverse}
use Rattle.c_tree.specs.View.{stmts_of}
use Rattle.c_show.specs.Ahead.{stmts_first}
use Rattle.c_show.proofs.put_statements.+statements.Given as goal

abbrev pub invariant-put_stmts-loop-i : goal.invariant-put_stmts-loop-i
invariant-put_stmts-loop-i l = reverse l.out.items ≡ stmts_first (stmts_of (drop l.i l.stmts)) (reverse l.initial.out.items)
