use Rattle.std.proofs.Common.{◌+◌, ◌∙◌, ℕ, sym, ap, max, get_or}
use Rattle.mesh_draw.proofs.Past.{past_more}
use Rattle.mesh_draw.proofs.labels.past_all.Goals as goal

pub loop-fill-preserved : goal.loop-fill-preserved
loop-fill-preserved c =
    let fills = c.args.fills.now in
    let i = c.loop-fill.fill-index in
    record {
      past = c.past_one-past.ensures.value ∙ ap (λ (n : ℕ). max n (get_or fills i 0 + 1)) c.loop-fill.invariant.past
          ∙ sym (past_more fills i c.loop-fill-test.true);
      few = c.past_one-past.ensures.few;
    }
