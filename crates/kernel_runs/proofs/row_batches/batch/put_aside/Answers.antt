use Rattle.std.proofs.Common.{◌+◌, ◌<◌, ◌≤◌, ℕ, [], List, ℤ, take, drop, length, get_or, pos, sym, ap, ap₂, ◌∙◌, subst, arith}
use Rattle.std.proofs.lemmas.List.{length-take-le}
use Rattle.kernel_runs.specs.Put.{AllNumbersPut, AmountsFit, put_back, totals}
use Rattle.kernel_runs.specs.RowLoops.{column_access, column_at, scalar_at, width}
use Rattle.kernel_runs.proofs.row_batches.Given.{IsSetOut, where_looked_up}
use Rattle.kernel_runs.proofs.row_batches.Ran.{batch_ran}
use Rattle.kernel_runs.proofs.row_batches.Reduced.{modified_fit, reduced_cells}
use Rattle.kernel_runs.proofs.row_batches.Stays.{put_stays}
use Rattle.kernel_runs.proofs.row_batches.batch.put_aside.Goals as goal

pub returns-clause-ran : goal.returns-clause-ran
returns-clause-ran c modes stand runs =
    let y = c.args.rows.now in
    let m = c.args.memory.now in
    let h = c.requires.aside in
    let numbers = c.args.room.now.numbers.items in
    let after = take (width y) c.args.room.now.frame.items in
    let wide : width y ≤ length after = let e = length-take-le (width y) c.args.room.now.frame.items h.wide in omega (arith, e) in
    let puts : AllNumbersPut numbers c.args.count y.columns.now after (length y.columns.now) m =
    subst (λ (n : List (List ℕ)). AllNumbersPut n c.args.count y.columns.now after (length y.columns.now) m) c.deref-2.ensures.value
    (subst (λ (f : List (List ℤ)). AllNumbersPut c.deref-2.result.now c.args.count y.columns.now (take (width y) f) (length y.columns.now) m) c.deref.ensures.value
    c.put_columns.ensures.numbers) in
    let amounts_fit : (j : ℕ) → j < length y.scalars.now → AmountsFit c.args.count (scalar_at y j) (get_or after (length y.columns.now + j) []) =
    subst (λ (f : List (List ℤ)). (j : ℕ) → j < length y.scalars.now → AmountsFit c.args.count (scalar_at y j) (get_or (take (width y) f) (length y.columns.now + j) [])) c.deref.ensures.value
    c.merge_scalars.ensures.numbers in
    let set_out : IsSetOut y m modes stand c.args.batch.now numbers h.begun = record {
      rows = c.args.count;
      runs = runs;
      whole = c.requires.whole;
      leads = c.requires.leads;
      differ = h.differ;
      looked = h.looked;
      apart = h.apart;
      filled = h.filled;
      firsts = h.firsts;
      long = h.long;
      reduced = reduced_cells y m modes stand c.args.batch.now c.args.count numbers after runs c.requires.whole h.looked puts;
    } in
    batch_ran y m modes stand c.args.batch.now numbers h.begun set_out after
    c.reductions_commute.ensures
    wide
    (λ k k_lt changes. modified_fit numbers c.args.count (column_access y k) (column_at y k) (get_or after k []) (put_back numbers c.args.count y.columns.now after k m) changes (puts k k_lt))
    amounts_fit
    c.batches_run.ensures
    c.columns_are_put.ensures
    c.requires.resolved
    h.ran
    c.put_columns.new.memory c.args.partials.now c.merge_scalars.new.partials
    (c.put_columns.ensures.memory ∙ ap₂ (λ (n : List (List ℕ)) (f : List (List ℤ)). put_back n c.args.count y.columns.now (take (width y) f)
    (length y.columns.now) m) c.deref-2.ensures.value c.deref.ensures.value)
    (c.merge_scalars.ensures.partials ∙ ap (λ (f : List (List ℤ)). totals c.args.count y.scalars.now (drop (length y.columns.now) (take (width y) f)) c.args.partials.now) c.deref.ensures.value)
    c.requires.partials

pub returns-clause-others : goal.returns-clause-others
returns-clause-others c k off =
    let y = c.args.rows.now in
    let m = c.args.memory.now in
    let h = c.requires.aside in
    let numbers = c.args.room.now.numbers.items in
    ap (λ z. get_or z k (pos 0)) (c.put_columns.ensures.memory
    ∙ ap₂ (λ (n : List (List ℕ)) (f : List (List ℤ)). put_back n c.args.count y.columns.now (take (width y) f) (length y.columns.now) m)
    c.deref-2.ensures.value c.deref.ensures.value)
    ∙ put_stays numbers c.args.count y.columns.now (take (width y) c.args.room.now.frame.items) (length y.columns.now) m k
    (λ i l i_lt l_lt changes same. off l l_lt (i, i_lt, changes, sym (where_looked_up y c.args.batch.now c.args.count numbers c.requires.whole h.looked i l i_lt l_lt) ∙ same))
