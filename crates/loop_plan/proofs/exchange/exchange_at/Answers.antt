use Rattle.std.proofs.Common.{◌≡◌, ◌∙◌, sym, subst, false, List}
use Rattle.std.specs.Prelude.{◌&&◌, IfOk, slice_index_or}
use Rattle.lemmas.specs.Below.{listed}
use Rattle.bound_program.specs.declared.sites.Arg.{Arg}
use Rattle.bound_program.specs.Values.{bound_of}
use Rattle.loop_plan.specs.Needs.{needs, item_at, free_args}
use Rattle.loop_plan.proofs.Behind.{args_of_free, args_of_ordered, args_of_none, nothing_needed}
use Rattle.loop_plan.proofs.exchange.exchange_at.Goals as goal

pub returns-in-Free-clause-exchange : goal.returns-in-Free-clause-exchange
returns-in-Free-clause-exchange c =
    let b = bound_of c.args.bound.now in
    subst (λ (z : List Arg). IfOk c.exchange_free.result (λ v. v.items ≡ listed c.args.dats (λ d. slice_index_or c.args.dirty.now d false && needs z d)))
    (c.args_of.ensures ∙ sym (args_of_free b (item_at b c.args.item) c.in-Free.site (sym c.run_at.ensures ∙ c.in-Free.is)))
    c.exchange_free.ensures.exchange

pub returns-in-Ordered-clause-exchange : goal.returns-in-Ordered-clause-exchange
returns-in-Ordered-clause-exchange c =
    let b = bound_of c.args.bound.now in
    nothing_needed c.args.dats c.args.dirty.now (free_args b (item_at b c.args.item)) c.new.result.items
    (args_of_ordered b (item_at b c.args.item) c.in-Ordered.site (sym c.run_at.ensures ∙ c.in-Ordered.is)) c.new.ensures.items

pub returns-in-No-clause-exchange : goal.returns-in-No-clause-exchange
returns-in-No-clause-exchange c =
    let b = bound_of c.args.bound.now in
    nothing_needed c.args.dats c.args.dirty.now (free_args b (item_at b c.args.item)) c.new-in-No.result.items
    (args_of_none b (item_at b c.args.item) (sym c.run_at.ensures ∙ c.in-No.is)) c.new-in-No.ensures.items
