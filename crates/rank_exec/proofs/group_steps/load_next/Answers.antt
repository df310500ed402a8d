use Rattle.std.proofs.Common.{◌≡◌, ◌+◌, ◌-◌, ◌*◌, ◌≤◌, ◌∷◌, [], refl, sym, ap, subst, ◌∙◌, arith, length}
use borrow.Rule.Slice.PartMut.{put_mid}
use Rattle.std.specs.Vec.{with_items}
use Rattle.std.proofs.lemmas.Grind.{common_steps}
use Rattle.std.proofs.lemmas.List.{get_or_append_left, get_or_push}
use Rattle.lemmas.proofs.Lists.{refilled}
use Rattle.rank_state.proofs.Public.{mid_same, before_mid}
use Rattle.rank_program.specs.Jobs.{task_at, no_task, part}
use Rattle.rank_program.specs.Sound.{setup_in, layout_in, tables_in}
use Rattle.rank_exec.specs.Tasks.{IsLoaded}
use Rattle.rank_exec.proofs.Tasking.{part_ends}
use Rattle.rank_exec.proofs.group_steps.load_next.Goals as goal

inside : (c : goal.After-push_reserved) → c.len.result * c.args.buffers.now.window + c.args.buffers.now.window ≤ length c.deref_mut.result.now
inside c = grind (arith, common_steps)

-- the buffer with the window written
staging_is : (c : goal.After-push_reserved) →
    (with_items c.args.buffers.now.staging
    (put_mid (c.len.result * c.args.buffers.now.window)
    (c.len.result * c.args.buffers.now.window + c.args.buffers.now.window - c.len.result * c.args.buffers.now.window)
    c.deref_mut.result.now c.load_one-task.new.window)).items
    ≡ put_mid (c.len.result * c.args.buffers.now.window)
    (c.len.result * c.args.buffers.now.window + c.args.buffers.now.window - c.len.result * c.args.buffers.now.window)
    c.deref_mut.result.now c.load_one-task.new.window
staging_is c =
    let long : length (put_mid (c.len.result * c.args.buffers.now.window)
    (c.len.result * c.args.buffers.now.window + c.args.buffers.now.window - c.len.result * c.args.buffers.now.window)
    c.deref_mut.result.now c.load_one-task.new.window) ≡ length c.args.buffers.now.staging.items = grind (arith, common_steps) in
    refilled c.args.buffers.now.staging
    (put_mid (c.len.result * c.args.buffers.now.window)
    (c.len.result * c.args.buffers.now.window + c.args.buffers.now.window - c.len.result * c.args.buffers.now.window)
    c.deref_mut.result.now c.load_one-task.new.window) long

pub returns-clause-loaded : goal.returns-clause-loaded
returns-clause-loaded c =
    let tasks = c.args.buffers.now.tasks.items in
    let window = c.args.buffers.now.window in
    let at = c.len.result * c.args.buffers.now.window in
    let cells = c.deref_mut.result.now in
    let whole = with_items c.args.buffers.now.staging (put_mid at (at + window - at) cells c.load_one-task.new.window) in
    let wide : length c.load_one-task.new.window ≡ c.args.buffers.now.window = grind (arith, common_steps) in
    let task : task_at c.push_reserved.new.self.items (length c.args.buffers.now.tasks.items) ≡ c.load_one-task.result =
    ap (λ ts. task_at ts (length tasks)) c.push_reserved.ensures.items ∙ get_or_push tasks c.load_one-task.result no_task (length tasks) refl in
    let number : length c.args.buffers.now.tasks.items ≡ c.len.result = omega (arith, c.len.ensures) in
    let last = ap (λ n. part window n whole.items) number ∙ ap (part window c.len.result) (staging_is c) ∙ mid_same at window cells c.load_one-task.new.window (inside c) wide in
    subst (λ t. IsLoaded (setup_in c.args.program.now) (layout_in c.args.program.now) (tables_in c.args.program.now) c.args.begin.item
    c.args.begin.rank c.args.begin.place c.args.machine.now t (part window (length tasks) whole.items)) (sym task)
    (subst (IsLoaded (setup_in c.args.program.now) (layout_in c.args.program.now) (tables_in c.args.program.now) c.args.begin.item
    c.args.begin.rank c.args.begin.place c.args.machine.now c.load_one-task.result) (sym last) c.load_one-task.ensures.loaded)

pub returns-clause-others : goal.returns-clause-others
returns-clause-others c i lt =
    let window = c.args.buffers.now.window in
    let at = c.len.result * c.args.buffers.now.window in
    let cells = c.deref_mut.result.now in
    let before : i * c.args.buffers.now.window + c.args.buffers.now.window ≤ c.len.result * c.args.buffers.now.window =
    part_ends c.args.buffers.now.window i c.len.result (omega (arith, lt, c.len.ensures)) in (
      ap (λ ts. task_at ts i) c.push_reserved.ensures.items ∙ get_or_append_left c.args.buffers.now.tasks.items (c.load_one-task.result ∷ []) no_task i lt,
      ap (part window i) (staging_is c)
          ∙ before_mid at window (i * window) window cells c.load_one-task.new.window (inside c) before
          ∙ ap (part window i) c.deref_mut.ensures.value,
    )
