use Rattle.std.proofs.Common.{◌≡◌, ◌<◌, ◌-◌, ◌∙◌, true, length, sym, ap, subst, arith}
use Rattle.std.specs.Prelude.{not}
use Rattle.schedule_model.specs.Program.{is_free}
use Rattle.bound_program.specs.Values.{bound_of}
use Rattle.run_model.specs.Programs.{program_of, item_at}
use Rattle.chain_needs.specs.Slices.{IsPlace}
use Rattle.chain_needs.proofs.chain_slices.Placings.{begun_stands, some_loop, level_behind, place_behind, free_of}
use Rattle.chain_needs.proofs.chain_slices.making.place_of.Goals as goal

pub returns-then-begins_chain-clause-place : goal.returns-then-begins_chain-clause-place
returns-then-begins_chain-clause-place c =
    let b = bound_of c.args.bound.now in
    let free : is_free ((program_of b).kind c.args.item) ≡ true = free_of b (item_at b c.args.item) c.free_site.result c.free_site.ensures (c.is_none.ensures ∙ ap not c.if-is_none.false) in
    let some : 0 < length c.in_ok-sites.sites.items = some_loop b c.args.item c.in_ok-sites.sites.items free c.in_ok-sites.ensures.loops in
    begun_stands b c.kept_shape.new.shapes.items c.args.item c.in_ok-shape.shape (c.len-level.result - 1) c.in_ok-sites.sites.items free c.in_ok-sites.ensures.loops
    c.in_ok-shape.ensures.there c.in_ok-shape.ensures.of (omega (arith, c.len-level.ensures))

pub next_place-requires : goal.next_place-requires
next_place-requires c =
    let b = bound_of c.args.bound.now in
    let free : is_free ((program_of b).kind c.args.item) ≡ true = free_of b (item_at b c.args.item) c.free_site.result c.free_site.ensures (c.is_none.ensures ∙ ap not c.if-is_none.false) in
    level_behind b c.args.shapes.now.items c.args.item c.args.places.now c.requires.places free (sym c.begins_chain.ensures ∙ c.if-begins_chain.false)

pub returns-clause-place : goal.returns-clause-place
returns-clause-place c =
    let b = bound_of c.args.bound.now in
    let free : is_free ((program_of b).kind c.args.item) ≡ true = free_of b (item_at b c.args.item) c.free_site.result c.free_site.ensures (c.is_none.ensures ∙ ap not c.if-is_none.false) in
    subst (IsPlace b c.args.shapes.now.items c.args.item) (sym c.next_place.ensures)
    (place_behind b c.args.shapes.now.items c.args.item c.args.places.now c.requires.places free (sym c.begins_chain.ensures ∙ c.if-begins_chain.false))
