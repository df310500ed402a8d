use Rattle.std.proofs.Common.{◌≡◌, ◌-◌, ◌+◌, length, map, drop, sym, subst, arith}
use Rattle.std.proofs.lemmas.List.{with_items_is}
use Rattle.bound_program.specs.Values.{bound_of}
use Rattle.bound_program.specs.Fits.{site_at}
use Rattle.chain_needs.specs.Needed.{AreNeeded}
use Rattle.chain_needs.proofs.Dropping.{one_back}
use Rattle.chain_needs.proofs.needing.needed_before.Goals as goal

pub loop-done-preserved : goal.loop-done-preserved
loop-done-preserved c =
    let b = bound_of c.args.bound.now in
    let o = c.args.owners.now in
    let n : length c.before_loop.new.needs ≡ c.loop-done.needs.len = omega (arith, c.before_loop.auto.needs, c.deref_mut.ensures.len) in
    let rest = map (site_at b) (drop (length c.args.sites.now - c.loop-done.done) c.args.sites.now) in
    subst (λ z. AreNeeded b o (map (site_at b) (drop (length c.args.sites.now - (c.loop-done.done + 1)) c.args.sites.now)) z) (sym (with_items_is c.loop-done.needs c.before_loop.new.needs n))
    (subst (λ z. AreNeeded b o z c.before_loop.new.needs) (sym (one_back c.args.sites.now (site_at b) c.loop-done.done c.loop-done-test.true))
    (c.in_ok-before_loop.ensures rest (subst (AreNeeded b o rest) (sym c.deref_mut.ensures.value) c.loop-done.invariant)))
