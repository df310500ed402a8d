use Rattle.std.proofs.Common.{◌≡◌, ℕ, ◌≤◌, ◌*◌, ◌<◌, ◌+◌, length, take, refl, sym, ap, subst, ◌∙◌, arith}
use Rattle.std.proofs.lemmas.Grind.{common_steps}
use Rattle.std.specs.Vec.{with_items}
use Rattle.lemmas.proofs.Lists.{refilled}
use Rattle.rank_program.specs.Jobs.{RanIn, job_core, part, task_at}
use Rattle.rank_program.specs.Sound.{Takes, layout_in, targeted_in}
use Rattle.rank_exec.proofs.Tasking.{part_ends}
use Rattle.rank_exec.proofs.group.run_all.Goals as goal

pub put_targets-requires-clause-takes : goal.put_targets-requires-clause-takes
put_targets-requires-clause-takes g c = (
  length c.args.constants.now,
  subst (λ ts. (i : ℕ) → i < length ts → Takes c.args.program.now c.args.group.now.item (task_at ts i).element (length c.args.constants.now)
      (task_at ts i).cells) (sym c.deref.ensures.value) c.requires.takes,
)

pub job-job-requires-clause-takes : goal.job-job-requires-clause-takes
job-job-requires-clause-takes g c =
    subst (λ ts. (i : ℕ) → i < length ts → Takes c.args.program.now c.args.group.now.item (task_at ts i).element
    (length c.args.constants.now) (task_at ts i).cells) (sym c.deref-2.ensures.value) c.requires.takes

pub job-job-requires-clause-targeted : goal.job-job-requires-clause-targeted
job-job-requires-clause-targeted g c =
    subst (λ ts. targeted_in c.args.program.now c.args.group.now.item ts c.deref-3.result.now) (c.deref.ensures.value ∙ sym c.deref-2.ensures.value)
    (subst (targeted_in c.args.program.now c.args.group.now.item c.deref.result.now) (sym c.deref-3.ensures.value) c.put_targets.ensures.targeted)

pub run_in_front-requires-clause-accepts : goal.run_in_front-requires-clause-accepts
run_in_front-requires-clause-accepts g c κs within i lt =
    let tasks = c.job-job.ensures.tasks ∙ c.deref-2.ensures.value in
    let here : i < length c.args.buffers.now.tasks.items = subst (λ ts. i < length ts) tasks lt in
    let there : i < length c.deref-2.result.now = subst (λ ts. i < length ts) c.job-job.ensures.tasks lt in
    let narrow = c.requires.narrow i here in
    let room : (task_at c.args.buffers.now.tasks.items i).cells + c.args.program.now.locals < c.args.buffers.now.window = omega (arith, narrow, c.requires.buffers.window_fits) in
    c.job-job.ensures.accepts i c.args.buffers.now.window there (subst (λ ts. (task_at ts i).cells + c.args.program.now.locals < c.args.buffers.now.window) (sym c.deref-2.ensures.value) room)

pub returns-clause-ran : goal.returns-clause-ran
returns-clause-ran g c i lt =
    let window = c.args.buffers.now.window in
    let before = c.args.buffers.now.staging in
    let after = c.run_in_front.new.staging in
    let cells = (task_at c.args.buffers.now.tasks.items i).cells in
    let tasks = c.job-job.ensures.tasks ∙ c.deref-2.ensures.value in
    let here : i < length c.deref-2.result.now = subst (λ ts. i < length ts) (sym c.deref-2.ensures.value) lt in
    let there : i < length c.job-job.result.tasks.now = subst (λ ts. i < length ts) (sym tasks) lt in
    let kept = c.run_in_front.auto.staging ∙ ap length c.deref_mut.ensures.value in
    let ends : i * c.args.buffers.now.window + c.args.buffers.now.window ≤ length c.args.buffers.now.tasks.items *
    c.args.buffers.now.window = part_ends c.args.buffers.now.window i (length c.args.buffers.now.tasks.items) lt in
    let inside : i * c.args.buffers.now.window + c.args.buffers.now.window ≤ length c.args.buffers.now.staging.items = omega (arith, ends, c.requires.buffers.staging_fits) in
    let narrow : (task_at c.args.buffers.now.tasks.items i).cells ≤ c.args.buffers.now.window = omega (arith, c.requires.narrow i lt, c.requires.buffers.window_fits) in
    let count : length (take (task_at c.args.buffers.now.tasks.items i).cells
    (part c.args.buffers.now.window i c.args.buffers.now.staging.items)) ≡ (task_at c.args.buffers.now.tasks.items i).cells =
    grind (arith, common_steps) in
    let counted = count ∙ ap (λ ts. (task_at ts i).cells) (sym c.deref-2.ensures.value) in
    let ran = subst (λ s. RanIn (job_core c.job-job.result i (take cells (part window i s))) cells (part window i after)) c.deref_mut.ensures.value
    (subst (λ ts. RanIn (job_core c.job-job.result i (take (task_at ts i).cells (part window i c.deref_mut.result.now)))
    (task_at ts i).cells (part window i after)) tasks (c.run_in_front.ensures i there)) in
    let core = c.job-job.ensures.core i (take cells (part window i before.items)) here counted in
    let value = subst (λ ws. RanIn ws cells (part window i after)) core ran in
    subst (λ ts. RanIn ((layout_in c.args.program.now).core c.args.group.now.item (task_at ts i).element c.args.constants.now
    (take cells (part window i before.items))) cells (part window i (with_items before after).items)) c.deref-2.ensures.value
    (subst (λ s. RanIn ((layout_in c.args.program.now).core c.args.group.now.item (task_at c.deref-2.result.now i).element
    c.args.constants.now (take cells (part window i before.items))) cells (part window i s)) (sym (refilled before after kept)) value)

pub returns-clause-kept : goal.returns-clause-kept
returns-clause-kept g c =
    let kept = c.run_in_front.auto.staging ∙ ap length c.deref_mut.ensures.value in
    record {
      tasks = refl;
      targets = c.put_targets.ensures.room ∙ c.clear.ensures.capacity;
      window = refl;
      staging = ap length (refilled c.args.buffers.now.staging c.run_in_front.new.staging kept) ∙ kept;
    }
