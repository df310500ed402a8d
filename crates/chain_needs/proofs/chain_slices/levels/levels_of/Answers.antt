use Rattle.std.proofs.Common.{◌≡◌, ◌-◌, [], ◌∷◌, length, map, drop, get_or, sym, ap, ap₂, subst, ◌∙◌, arith}
use Rattle.std.proofs.lemmas.List.{drop_all}
use Rattle.bound_program.specs.Values.{bound_of}
use Rattle.bound_program.specs.Fits.{site_at}
use Rattle.chain_needs.specs.Needed.{AreNeeded}
use Rattle.chain_needs.proofs.Dropping.{one_back}
use Rattle.chain_needs.specs.Levels.{AreBelow, IsLevel, front_of}
use Rattle.chain_needs.proofs.chain_slices.Below.{no_levels, one_level, front_more, front_any, own_below}
use Rattle.chain_needs.proofs.chain_slices.levels.levels_of.Goals as goal

pub loop-done-init : goal.loop-done-init
loop-done-init c =
    let b = bound_of c.args.bound.now in
    let o = c.args.owners.now in
    let none : drop (length c.args.sites.now - 0) c.args.sites.now ≡ [] = drop_all (length c.args.sites.now - 0) c.args.sites.now (omega arith) in
    rw (c.new-levels.ensures.items, none) (record {
      levels = no_levels b o;
      front = record { pairs = c.in_ok-own.ensures.sets; has = λ d y r l m. c.in_ok-own.ensures.has d y r l m };
      below = own_below b o c.in_ok-own.own.items c.requires.owners c.is_in_range.ensures c.in_ok-own.ensures.sets c.in_ok-own.ensures.has;
    })

pub loop-done-preserved : goal.loop-done-preserved
loop-done-preserved c =
    let b = bound_of c.args.bound.now in
    let o = c.args.owners.now in
    let f = site_at b in
    let rest = map f (drop (length c.args.sites.now - c.loop-done.done) c.args.sites.now) in
    let site = f (get_or c.args.sites.now (length c.args.sites.now - 1 - c.loop-done.done) 0) in
    let own = c.in_ok-own.own.items in
    let same : c.front.result.now ≡ front_of own c.loop-done.levels.items = c.front.ensures ∙ ap₂ front_of c.deref.ensures.value c.deref-in-loop-done.ensures.value in
    let is : IsLevel b o site rest c.in_ok-next.next = c.in_ok-next.ensures.is rest (subst (AreNeeded b o rest) (sym same) c.loop-done.invariant.front) in
    rw (c.in_ok-push.ensures.items, one_back c.args.sites.now f c.loop-done.done c.loop-done-test.true) (record {
      levels = one_level b o site rest c.loop-done.levels.items c.in_ok-next.next c.loop-done.invariant.levels is;
      front = subst (AreNeeded b o (site ∷ rest)) (sym (front_more own c.loop-done.levels.items c.in_ok-next.next)) is.needed;
      below = subst (AreBelow o.ranks) (sym (front_more own c.loop-done.levels.items c.in_ok-next.next)) c.in_ok-next.ensures.below;
    })

pub returns-clause-front : goal.returns-clause-front
returns-clause-front c = λ other some.
    let b = bound_of c.args.bound.now in
    let o = c.args.owners.now in
    let zero : length c.args.sites.now - c.loop-done.done ≡ 0 = omega arith in
    let all : map (site_at b) (drop (length c.args.sites.now - c.loop-done.done) c.args.sites.now) ≡ map (site_at b) c.args.sites.now = ap (λ n. map (site_at b) (drop n c.args.sites.now)) zero in
    subst (λ z. AreNeeded b o z (front_of other c.loop-done.levels.items)) all
    (subst (AreNeeded b o (map (site_at b) (drop (length c.args.sites.now - c.loop-done.done) c.args.sites.now)))
    (front_any c.in_ok-own.own.items other c.loop-done.levels.items some) c.loop-done.invariant.front)

pub returns-clause-below : goal.returns-clause-below
returns-clause-below c = λ other some.
    subst (AreBelow c.args.owners.now.ranks) (front_any c.in_ok-own.own.items other c.loop-done.levels.items some) c.loop-done.invariant.below
