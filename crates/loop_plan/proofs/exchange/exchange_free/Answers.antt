use Rattle.std.proofs.Common.{◌≡◌, false, not, ◌∙◌, ap, length, sym}
use Rattle.std.specs.Prelude.{◌&&◌, ◌||◌, nat_eq, slice_index_or}
use Rattle.std.specs.List.{list_any}
use Rattle.lemmas.specs.Below.{listed}
use Rattle.local_mesh.proofs.Public.{listed_within}
use Rattle.bound_program.specs.Classes.{modifies}
use Rattle.loop_plan.specs.Needs.{needs}
use Rattle.loop_plan.proofs.Numbers.{is_listed, bit_step}
use Rattle.loop_plan.proofs.exchange.exchange_free.Goals as goal

pub cleanse_each-requires : goal.cleanse_each-requires
cleanse_each-requires c =
    listed_within c.args.dats (length c.args.dirty.now) (λ d. slice_index_or c.args.dirty.now d false && needs c.args.args.now d) c.deref.result.now
    (c.deref.ensures.value ∙ c.in_ok-exchange.ensures) (sym c.requires.dats)

pub returns-clause-bits : goal.returns-clause-bits
returns-clause-bits c = λ d l.
    let e : c.deref.result.now ≡ listed c.args.dats (λ d. slice_index_or c.args.dirty.now d false && needs c.args.args.now d) = c.deref.ensures.value ∙ c.in_ok-exchange.ensures in
    c.spoil_modified.ensures.bits d
    ∙ (ap (λ z. z || modifies c.args.args.now d)
    (c.cleanse_each.ensures.bits d
    ∙ ap (λ z. slice_index_or c.args.dirty.now d false && not z) (ap (list_any (nat_eq d)) e ∙ is_listed d c.args.dats (λ d. slice_index_or c.args.dirty.now d false && needs c.args.args.now d) l))
    ∙ bit_step (slice_index_or c.args.dirty.now d false) (needs c.args.args.now d) (modifies c.args.args.now d))
