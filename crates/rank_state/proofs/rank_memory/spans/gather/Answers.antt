use Rattle.std.proofs.Common.{◌≡◌, ◌+◌, ◌∙◌, ap, sym, take, arith}
use Rattle.std.proofs.lemmas.Grind.{common_steps}
use Rattle.rank_state.specs.Spans.{total, filled}
use Rattle.rank_state.proofs.rank_memory.Gathering.{filled_front}
use Rattle.rank_state.proofs.rank_memory.spans.gather.Goals as goal

pub returns-clause-cells : goal.returns-clause-cells
returns-clause-cells c =
    let done : c.loop-span.frame ≡ filled 0 c.args.memory.now c.args.spans.now c.args.frame.now = grind (arith, common_steps) in
    let e : 0 + total c.args.spans.now ≡ total c.args.spans.now = omega arith in
    ap (take (total c.args.spans.now)) done ∙ ap (λ n. take n (filled 0 c.args.memory.now c.args.spans.now c.args.frame.now)) (sym e)
    ∙ filled_front 0 c.args.memory.now c.args.spans.now c.args.frame.now (omega arith) c.requires.inside
