use Rattle.std.proofs.Common.{◌≡◌, ◌∙◌, ℕ, ap, arith, List, Vec, length}
use Rattle.std.specs.declared.alloc.Global.{Global}
use Rattle.std.proofs.lemmas.List.{length_push}
use Rattle.local_mesh.proofs.Public.{sets_more, sets_has_more}
use Rattle.loop_plan.specs.Exports.{exports_in, is_some_exported}
use Rattle.loop_plan.proofs.messages.all_receivers.Goals as goal

pub loop-set-preserved : goal.loop-set-preserved
loop-set-preserved c =
    let h = c.args.halos.now in
    let t : ℕ = c.loop-set.set in
    let xs = c.loop-set.receivers.items in
    let v = c.in_ok-receivers_by_owner.field-0 in
    let here : length c.exports_of.result.now ≡ h.ranks = ap (λ (z : List (Vec (Vec ℕ Global) Global)). length z) c.exports_of.ensures
    ∙ c.requires.exports.owners t (omega (arith, c.loop-set-test.true, c.loop-set.auto.set-end, c.set_count-set-end.ensures.count)) in
    rw c.in_ok-push.ensures.items (
      omega (arith, length_push xs v, c.loop-set.invariant.0),
      sets_more xs v t (λ i. h.ranks) c.loop-set.invariant.0 (c.in_ok-receivers_by_owner.ensures.count ∙ here) c.loop-set.invariant.1,
      sets_has_more xs v t (λ i. h.ranks) (λ i. is_some_exported (exports_in h i)) c.loop-set.invariant.0
          (λ s r l. c.in_ok-receivers_by_owner.ensures.has s r (omega arith) ∙ ap (λ z. is_some_exported z s r) c.exports_of.ensures)
          c.loop-set.invariant.2,
    )
