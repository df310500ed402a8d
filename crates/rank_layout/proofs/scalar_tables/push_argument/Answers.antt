use Rattle.std.proofs.Common.{◌≡◌, ◌++◌, ◌∙◌, length, get_or, refl, sym, subst, OnOk, arith}
use Rattle.bound_program.specs.Values.{bound_of}
use Rattle.rank_layout.specs.Numbered.{ArgNamed}
use Rattle.rank_layout.proofs.VariableNumbers.{begins_at, cells_fit, width_read}
use Rattle.rank_layout.proofs.SiteScalars.{new_is}
use Rattle.rank_layout.proofs.scalar_tables.push_argument.Goals as goal

pub push_cells-requires : goal.push_cells-requires
push_cells-requires c =
    let b = bound_of c.args.bound.now in
    let named = subst (ArgNamed b) c.in-Global.is c.requires.named in
    cells_fit b c.in-Global.var (get_or c.args.starts.now c.in-Global.var 0) (length c.as_slice-count.result.now) c.requires.few named.0
    (omega (arith, c.type_inv.starts c.in-Global.var)) (begins_at b c.args.starts.now c.requires.starts c.in-Global.var named.0)
    (width_read b c.args.bound.now.vars.items c.in-Global.var c.index.result.now c.as_slice-count.result.now refl named.0 c.index.ensures c.as_slice-count.ensures)

pub returns-else-is_named-clause-scalars : goal.returns-else-is_named-clause-scalars
returns-else-is_named-clause-scalars c =
    let b = bound_of c.args.bound.now in
    let named = subst (ArgNamed b) c.in-Global.is c.requires.named in
    subst (λ z. OnOk c.push_cells.result (c.push_cells.new.scalars.items ≡ c.args.scalars.now.items ++ z))
    (new_is b (length c.args.slots.now.items) c.args.earlier.now c.args.arg c.in-Global.var c.in-Global.access c.operation_of.result
    (get_or c.args.starts.now c.in-Global.var 0) (length c.as_slice-count.result.now) c.in-Global.is (sym c.is_named.ensures ∙ c.if-is_named.false)
    c.operation_of.ensures (begins_at b c.args.starts.now c.requires.starts c.in-Global.var named.0)
    (width_read b c.args.bound.now.vars.items c.in-Global.var c.index.result.now c.as_slice-count.result.now refl named.0 c.index.ensures c.as_slice-count.ensures))
    c.push_cells.ensures.scalars
