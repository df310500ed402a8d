use Rattle.std.proofs.Common.{◌≡◌, ◌<◌, ◌+◌, length, sym, ap, ap₂, ◌∙◌, subst}
use Rattle.run_model.specs.Arguments.{access_by}
use Rattle.kernel_runs.specs.Alike.{arg_in, same_column}
use Rattle.kernel_runs.specs.Tables.{IsSharedBy}
use Rattle.kernel_runs.proofs.row_batches.batch_tables.Accesses.{first_shared, skipped, one_more}
use Rattle.kernel_runs.proofs.row_batches.batch_tables.Firsts.{read_is}
use Rattle.kernel_runs.proofs.row_batches.batch_tables.access.shared_access.Goals.{then-is_same_column+in_ok-shared, else-is_same_column}
use Rattle.kernel_runs.proofs.row_batches.batch_tables.access.shared_access.Goals as goal

pub loop-b-init : goal.loop-b-init
loop-b-init c =
    first_shared c.args.args.now c.args.a c.requires.there c.requires.dat c.access_of-shared.result
    (c.access_of-shared.ensures ∙ ap access_by (read_is c.args.args.now c.args.a c.requires.there))

pub loop-b-preserved : goal.loop-b-preserved
loop-b-preserved c =
    let args = c.args.args.now in
    let b = c.loop-b.b in
    let lt : b < length args = c.loop-b-test.true in
    let same : c.is_same_column.result ≡ same_column (arg_in args b) (arg_in args c.args.a) =
    c.is_same_column.ensures ∙ ap₂ same_column (read_is args b lt) (read_is args c.args.a c.requires.there) in
    elim c.if-is_same_column.branch [
      | then-is_same_column+in_ok-shared w ↦
          subst (λ x. IsSharedBy args c.args.a x (b + 1)) (sym w.shared-is)
          (one_more args c.args.a b c.loop-b.shared c.loop-b.invariant lt (sym same ∙ w.if-is_same_column.true)
          w.access_of.result w.in_ok-shared.shared (w.access_of.ensures ∙ ap access_by (read_is args b lt)) w.in_ok-shared.ensures)
      | else-is_same_column w ↦
          subst (λ x. IsSharedBy args c.args.a x (b + 1)) (sym w.shared-is)
          (skipped args c.args.a b c.loop-b.shared c.loop-b.invariant (sym same ∙ w.if-is_same_column.false))
    ]
