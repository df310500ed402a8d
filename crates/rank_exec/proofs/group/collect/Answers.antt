use Rattle.std.proofs.Common.{◌≡◌, ◌∷◌, ◌++◌, [], Some, sym, ap, ◌∙◌, arith, append_assoc}
use Rattle.schedule_steps.specs.declared.step.Step.TheVariants.{Begin}
use Rattle.rank_state.specs.Groups.{begins}
use Rattle.rank_exec.specs.Driving.{to_come}
use Rattle.rank_exec.proofs.Grouping.{begins_push}
use Rattle.rank_exec.proofs.group.collect.Goals as goal

pub loop-next-preserved : goal.loop-next-preserved
loop-next-preserved g c =
    let known : c.next_of-next.result ≡ Some (Begin c.args.item c.args.rank c.in-Some.place) = c.begin_in.ensures c.in-Some.place c.in-Some.is in
    let come : g.S.Steps.left c.loop-next.steps ≡ Begin c.args.item c.args.rank c.in-Some.place ∷ g.S.Steps.left c.next_of-next.new.steps =
    c.next_of-next.ensures.next ∙ ap (λ s. to_come s (g.S.Steps.left c.next_of-next.new.steps)) known in
    record {
      all = ap (λ xs. begins c.args.item c.args.rank xs ++ g.S.Steps.left c.next_of-next.new.steps) c.push_reserved.ensures.items
          ∙ (ap (λ z. z ++ g.S.Steps.left c.next_of-next.new.steps) (begins_push c.args.item c.args.rank c.loop-next.places.items c.in-Some.place)
          ∙ (append_assoc (begins c.args.item c.args.rank c.loop-next.places.items) (Begin c.args.item c.args.rank c.in-Some.place ∷ []) (g.S.Steps.left c.next_of-next.new.steps)
          ∙ (ap (λ z. begins c.args.item c.args.rank c.loop-next.places.items ++ z) (sym come) ∙ c.loop-next.invariant.all)));
      more = omega (arith, c.loop-next.invariant.more, c.push_reserved.ensures.len);
      few = omega (arith, c.push_reserved.ensures.len, c.if-len-ge-MOST_BEGINS.false, c.len.ensures);
      space = c.push_reserved.ensures.capacity ∙ c.loop-next.invariant.space;
    }
