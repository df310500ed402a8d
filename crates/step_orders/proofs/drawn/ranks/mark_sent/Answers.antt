use Rattle.std.proofs.Common.{◌+◌, ◌∙◌, ℕ, List, Vec, refl, sym, ap, subst, get_or}
use Rattle.std.specs.declared.alloc.Global.{Global}
use Rattle.std.specs.Vec.{with_item}
use Rattle.schedule_steps.specs.declared.step.Step.TheVariants.{Send}
use Rattle.step_orders.specs.Rests.{sent_below}
use Rattle.step_orders.specs.UnderWay.{HasRoom, sent_after}
use Rattle.step_orders.proofs.drawn.Writes.{marks, table_kept}
use Rattle.step_orders.proofs.drawn.ranks.mark_sent.Goals as goal

pub returns-in-Send : goal.returns-in-Send
returns-in-Send c =
    let rows : List (Vec ℕ Global) = c.args.sent.now in
    let a : ℕ = c.in-Send.from in
    let b : ℕ = c.in-Send.to in
    let room : HasRoom rows (Send c.in-Send.item a b) = subst (HasRoom rows) c.in-Send.is c.requires in
    record {
      table = λ n t. table_kept n rows a b (c.in-Send.item + 1) c.index-sent-from.result (with_item (get_or rows a c.index-sent-from.result) b (c.in-Send.item + 1)) room.0 refl t;
      sent = λ s r.
          marks rows a b (c.in-Send.item + 1) c.index-sent-from.result (with_item (get_or rows a c.index-sent-from.result) b (c.in-Send.item + 1)) room.0 room.1 refl s r
          ∙ ap (λ z. sent_after (sent_below rows) z s r) (sym c.in-Send.is);
    }
