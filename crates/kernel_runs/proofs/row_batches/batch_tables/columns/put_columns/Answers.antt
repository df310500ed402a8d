use Rattle.std.proofs.Common.{◌≡◌, ◌<◌, ◌+◌, ℕ, sym, ap, ◌∙◌, subst, List, set, length, get_or, arith}
use Rattle.kernel_model.specs.declared.types.views.frame.Place.{Place}
use Rattle.kernel_runs.specs.declared.row_batches.rows.RowColumn.{RowColumn}
use Rattle.kernel_runs.specs.Tables.{AreColumns}
use Rattle.kernel_runs.proofs.row_batches.batch_tables.ColumnsPut.{skipped, shared, opened}
use Rattle.kernel_runs.proofs.row_batches.batch_tables.columns.put_columns.Goals.{in-Some, then-first-a+in_ok-access+else-local-columns, else-first-a, in_default}
use Rattle.kernel_runs.proofs.row_batches.batch_tables.columns.put_columns.Goals as goal

pub loop-a-preserved : goal.loop-a-preserved
loop-a-preserved c =
    let args = c.args.args.now in
    let locals = c.args.locals.now in
    let numbers = c.args.numbers.now in
    let n = c.loop-a.a in
    let inv = c.loop-a.invariant in
    let put : (List RowColumn) → (List Place) → ℕ → Type 0 = λ cs ps k. AreColumns args locals numbers cs ps (n + 1) k in
    let lt : n < length args = c.loop-a-test.true in
    let long : length c.loop-a.places ≡ length c.args.places.now = c.loop-a.auto.places in
    let there : n < length c.loop-a.places = omega (arith, lt, long, c.requires.places) in
    elim c.match-locals-a.branch [
      | in-Some w ↦ elim w.if-first-a.branch [
        | then-first-a+in_ok-access+else-local-columns w' ↦
            (
            let ps : c.match-locals-a.places ≡ set c.loop-a.places n (record { from = c.loop-a.count; count = w.in-Some.local.dim }) =
            w.places-is ∙ ap (λ f. set c.loop-a.places n (record { from = f; count = w.in-Some.local.dim })) w'.from-is in
            let few = inv.few in
            let rest = w'.if-local-columns.false in
            let first_long : length c.loop-a.columns ≡ length c.args.columns.now = c.loop-a.auto.columns in
            subst (λ k. put c.match-locals-a.columns c.match-locals-a.places k) (sym (w.count-is ∙ w'.count-is))
            (subst (λ cs. put cs c.match-locals-a.places (c.loop-a.count + w.in-Some.local.dim)) (sym (w.columns-is ∙ w'.columns-is))
            (subst (λ z. put w'.put_components.new.columns z (c.loop-a.count + w.in-Some.local.dim)) (sym ps)
            (opened args locals numbers c.loop-a.columns c.loop-a.places n c.loop-a.count inv there w.in-Some.local w.in-Some.is
            w.first_column-first.result w.first_column-first.ensures w'.if-first-a.true lt w'.in_ok-access.access w'.in_ok-access.ensures
            w'.put_components.new.columns w'.put_components.auto.columns (omega (arith, few, rest, first_long))
            w'.put_components.ensures.before w'.put_components.ensures.are)))
            )
        | else-first-a w' ↦
            (
            let ps : c.match-locals-a.places ≡ set c.loop-a.places n
            (record {
              from = (get_or c.loop-a.places w.first_column-first.result (record { from = 0; count = 0 })).from;
              count =
                  w.in-Some.local.dim;
            }) =
            w.places-is ∙ ap (λ f. set c.loop-a.places n (record { from = f; count = w.in-Some.local.dim })) w'.from-is in
            subst (λ k. put c.match-locals-a.columns c.match-locals-a.places k) (sym (w.count-is ∙ w'.count-is))
            (subst (λ cs. put cs c.match-locals-a.places c.loop-a.count) (sym (w.columns-is ∙ w'.columns-is))
            (subst (λ z. put c.loop-a.columns z c.loop-a.count) (sym ps)
            (shared args locals numbers c.loop-a.columns c.loop-a.places n c.loop-a.count inv there w.in-Some.local w.in-Some.is
            w.first_column-first.result w.first_column-first.ensures w'.if-first-a.false)))
            )
      ]
      | in_default w ↦
          subst (λ k. put c.match-locals-a.columns c.match-locals-a.places k) (sym w.count-is)
          (subst (λ cs. put cs c.match-locals-a.places c.loop-a.count) (sym w.columns-is)
          (subst (λ z. put c.loop-a.columns z c.loop-a.count) (sym w.places-is)
          (skipped args locals numbers c.loop-a.columns c.loop-a.places n c.loop-a.count inv w.in_default.is)))
    ]
