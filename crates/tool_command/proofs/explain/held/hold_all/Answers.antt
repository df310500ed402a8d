use Rattle.std.proofs.Common.{◌∙◌, ◌∷◌, ◌++◌, [], ℕ, List, Bor, get_or, take, subst, sym, arith}
use Rattle.std.proofs.lemmas.List.{take_all}
use Rattle.explanations.specs.Held.{held as held_by}
use Rattle.tool_command.specs.Held.{AreHeld}
use Rattle.tool_command.proofs.explain.Holding.{names_in, at_name, one_more}
use Rattle.tool_command.proofs.explain.held.hold_all.Goals as goal

pub hold-requires-clause-lent : goal.hold-requires-clause-lent
hold-requires-clause-lent g c =
    (c.loop-place.invariant.lends _).0 (at_name (g.F.Shelf.lends c.args.shelf.now) c.args.names.now c.loop-place.place _ (omega (arith, c.loop-place-test.true)) c.requires)

pub hold-requires-clause-held : goal.hold-requires-clause-held
hold-requires-clause-held g c =
    subst (λ t. AreHeld t (held_by c.loop-place.held) (names_in (take c.loop-place.place c.args.names.now))) (sym c.loop-place.invariant.told) c.loop-place.invariant.held

pub loop-place-preserved : goal.loop-place-preserved
loop-place-preserved g c =
    let i = c.loop-place.invariant in
    let no_name : Bor (List ℕ) = record { ref_ptr = (0, 0); now = [] } in
    let names = c.args.names.now in
    let place = c.loop-place.place in
    record {
      told = c.hold.ensures.told ∙ i.told;
      lends = λ n. (λ x. (c.hold.ensures.lends n).0 ((i.lends n).0 x), λ x. (i.lends n).1 ((c.hold.ensures.lends n).1 x));
      risen = omega (arith, i.risen, c.hold.ensures.never_falls);
      held = subst (AreHeld (g.F.Shelf.told c.args.shelf.now) (held_by c.hold.new.held)) (one_more names place no_name (omega (arith, c.loop-place-test.true)))
          (subst (λ t. AreHeld t (held_by c.hold.new.held) (names_in (take place names) ++ (get_or names place no_name).now ∷ [])) i.told c.in_ok-hold.ensures.ok);
    }

pub returns-clause-ok : goal.returns-clause-ok
returns-clause-ok g c =
    subst (λ ns. AreHeld (g.F.Shelf.told c.args.shelf.now) (held_by c.loop-place.held) (names_in ns))
    (take_all c.loop-place.place c.args.names.now (omega (arith, c.loop-place-test.false))) c.loop-place.invariant.held
