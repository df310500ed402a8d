use Rattle.std.proofs.Common.{◌≡◌, ◌∙◌, None, Some, sym, ap}
use Rattle.std.specs.Option.{option_or}
use Rattle.bound_program.specs.Refusals.{first_of}
use Rattle.main_declarations.specs.Walks.{declared_of}
use Rattle.main_declarations.specs.Targets.{shape_decl_found, targets_found, strays_found}
use Rattle.main_declarations.proofs.MapTargets.{only_strays, more_than_strays, never_none}
use Rattle.main_declarations.proofs.map_walk.first_in_map.Goals as goal

pub returns-in-None-clause-first : goal.returns-in-None-clause-first
returns-in-None-clause-first c =
    let none : first_of (shape_decl_found c.args.source.now.places.now c.args.source.now.entries.now.entries (declared_of c.args.k.now)
    c.args.is_nested c.args.t c.args.from.now c.args.to.now c.args.n c.args.array.now) ≡ None = sym c.in_ok-first_in_shape.ensures
    ∙ c.in-None.is in
    only_strays c.args.source.now.places.now c.args.source.now.entries.now.entries (declared_of c.args.k.now) c.args.is_nested c.args.t c.args.from.now c.args.to.now c.args.n c.args.array.now none

pub returns-in-Some-clause-first : goal.returns-in-Some-clause-first
returns-in-Some-clause-first c =
    let some : first_of (shape_decl_found c.args.source.now.places.now c.args.source.now.entries.now.entries (declared_of c.args.k.now)
    c.args.is_nested c.args.t c.args.from.now c.args.to.now c.args.n c.args.array.now) ≡ Some c.in-Some.found =
    sym c.in_ok-first_in_shape.ensures ∙ c.in-Some.is in
    let strays = strays_found c.args.source.now.places.now c.args.source.now.entries.now.entries (declared_of c.args.k.now) c.args.to.now c.args.n c.args.array.now in
    (more_than_strays c.args.source.now.places.now c.args.source.now.entries.now.entries (declared_of c.args.k.now) c.args.is_nested
    c.args.t c.args.from.now c.args.to.now c.args.n c.args.array.now c.in-Some.found some
    ∙ ap (λ o. option_or o (first_of strays)) (sym c.first_with_targets.ensures))

pub returns-in-Some-clause-shape : goal.returns-in-Some-clause-shape
returns-in-Some-clause-shape c = λ none.
    absurd (never_none c.in-Some.found
    (targets_found c.args.source.now.places.now c.args.source.now.entries.now.entries (declared_of c.args.k.now) c.args.from.now
    c.args.to.now c.args.n c.args.array.now) (sym c.first_with_targets.ensures ∙ none))
