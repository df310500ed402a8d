use Rattle.std.proofs.Common.{◌≡◌, ◌<◌, ℕ, true, List, length, get_or, sym, ap, subst, ◌∙◌, arith}
use Rattle.std.specs.Prelude.{sum_by}
use Rattle.std.proofs.lemmas.List.{take_all}
use Rattle.schedule_steps.specs.Outline.{Outline}
use Rattle.schedule_steps.specs.Drawn.{numbers}
use Rattle.schedule_model.specs.Layout.{message_cells}
use Rattle.rank_program.specs.Sound.{layout_in, outline_in}
use Rattle.rank_exec.proofs.planned_run.Messages.{meets}
use Rattle.rank_exec.proofs.planned_run.rooms.cells_from.Goals as goal

pub receivers-receivers-requires-clause-free : goal.receivers-receivers-requires-clause-free
receivers-receivers-requires-clause-free c = subst (λ (o : Outline). o.is_free c.args.item ≡ true) (sym c.requires.shape) c.requires.free

pub cells_in_message-requires-clause-step : goal.cells_in_message-requires-clause-step
cells_in_message-requires-clause-step c =
    let o = outline_in c.args.program.now in
    let all : c.receivers-receivers.result.now ≡ numbers (o.sends c.args.item c.args.from) o.ranks =
    c.receivers-receivers.ensures ∙ ap (λ (o : Outline). numbers (o.sends c.args.item c.args.from) o.ranks) c.requires.shape in
    let one = subst
    (λ (z : List ℕ). c.loop-to.to-index < length z → (get_or z c.loop-to.to-index 0 < o.ranks) × (o.sends c.args.item c.args.from (get_or z c.loop-to.to-index 0) ≡ true))
    (sym all) (meets (o.sends c.args.item c.args.from) o.ranks c.loop-to.to-index) c.loop-to-test.true in
    (c.requires.item, c.requires.free, c.requires.rank, one.0, one.1)

pub returns-clause-cells : goal.returns-clause-cells
returns-clause-cells c =
    let o = outline_in c.args.program.now in
    let f = message_cells (layout_in c.args.program.now) c.args.item c.args.from in
    let all : c.receivers-receivers.result.now ≡ numbers (o.sends c.args.item c.args.from) o.ranks =
    c.receivers-receivers.ensures ∙ ap (λ (o : Outline). numbers (o.sends c.args.item c.args.from) o.ranks) c.requires.shape in
    c.loop-to.invariant.sum
    ∙ (ap (λ (z : List ℕ). sum_by f z) (take_all c.loop-to.to-index c.receivers-receivers.result.now (omega arith)) ∙ ap (λ (z : List ℕ). sum_by f z) all)
