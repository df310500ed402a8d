-- The view of a block is that of the vector in it.
use Rattle.std.proofs.Common.{◌≡◌, ℕ, refl, ap, ◌∙◌, Vec, Global}
use mathlib.Core.Former.{Count}
use Rattle.c_tree.specs.declared.kernels.Stmt as s
use Rattle.c_tree.specs.declared.kernels.Stmt.{Stmt, Row_of-Stmt, end_of-Stmt, more_of-Stmt, items-the_row-Stmt, items_hidden-the_row-Stmt-0}
use Rattle.c_tree.specs.declared.hosts.Host as h
use Rattle.c_tree.specs.declared.hosts.Host.{Host, Row_of-Host, end_of-Host, more_of-Host, items-the_row-Host, items_hidden-the_row-Host-0}
use Rattle.c_tree.specs.Tree as tree
use Rattle.c_tree.specs.View.{stmt_of, stmts_of, stmts_of_row, host_of, hosts_of, hosts_of_row}

stmts_are : (m : _) (row : Row_of-Stmt m) → stmts_of_row row ≡ stmts_of (items-the_row-Stmt m row)
stmts_are m end_of-Stmt = refl
stmts_are m (more_of-Stmt x rest) = ap (λ z. tree.MoreStmt (stmt_of x) z) (stmts_are _ rest)

abbrev stmt_row : Stmt → (n : Count) × Row_of-Stmt n
stmt_row (s.Block' at shape row) = (_, row)
stmt_row _ = (_, end_of-Stmt)

pub stmt_block : (at : ℕ) (v : Vec Stmt Global) → stmt_of (s.Block at v) ≡ tree.Block at (stmts_of v.items)
stmt_block at v =
    let row = stmt_row (s.Block at v) in
    ap (λ z. tree.Block at z) (stmts_are row.0 row.1 ∙ ap stmts_of (items_hidden-the_row-Stmt-0 v))

hosts_are : (m : _) (row : Row_of-Host m) → hosts_of_row row ≡ hosts_of (items-the_row-Host m row)
hosts_are m end_of-Host = refl
hosts_are m (more_of-Host x rest) = ap (λ z. tree.MoreHost (host_of x) z) (hosts_are _ rest)

abbrev host_row : Host → (n : Count) × Row_of-Host n
host_row (h.Block' at shape row) = (_, row)
host_row _ = (_, end_of-Host)

pub host_block : (at : ℕ) (v : Vec Host Global) → host_of (h.Block at v) ≡ tree.HostBlock at (hosts_of v.items)
host_block at v =
    let row = host_row (h.Block at v) in
    ap (λ z. tree.HostBlock at z) (hosts_are row.0 row.1 ∙ ap hosts_of (items_hidden-the_row-Host-0 v))
