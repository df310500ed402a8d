use Rattle.std.proofs.Common.{sym, ap, ◌∙◌}
use Rattle.std.specs.Prelude.{slice_index}
use Rattle.kernel_runs.proofs.worker_batches.differing.all_differ.Goals as goal

pub returns : goal.returns
returns c all i l i_lt l_lt ne same =
    ne (sym (c.are_marked.ensures i all i_lt) ∙ ap (slice_index c.mark_all.new.marks) same ∙ c.are_marked.ensures l all l_lt)
