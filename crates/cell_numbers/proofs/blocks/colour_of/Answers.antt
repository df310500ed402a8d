use Rattle.std.proofs.Common.{◌≡◌, ◌≢◌, ◌<◌, ℕ, ◌/◌, subst, length}
use Rattle.std.specs.Prelude.{slice_index}
use Rattle.std.proofs.Math.Nat.{div-mul-le_self}
use Rattle.bound_program.specs.Values.{bound_of}
use Rattle.local_mesh.specs.LocalMesh.{originals_in}
use Rattle.loop_plan.specs.Values.{plan_of}
use Rattle.cell_numbers.proofs.Places.{set_read, owner_here, is_held, local_here, place_here, has_block, colour_here}
use Rattle.cell_numbers.proofs.blocks.colour_of.Goals as goal

pub block_colour-requires-clause-block : goal.block_colour-requires-clause-block
block_colour-requires-clause-block c = λ colours.
    let b = bound_of c.args.bound.now in
    let d = c.args.found.now in
    let p = plan_of c.args.plan.now in
    let m = c.index-2.result.now in
    let place = c.in-Some.place in
    let on = c.requires.planned in
    let set = set_read c.args.bound.now.sites.items c.args.site c.index.result.now c.requires.runs.0 c.index.ensures in
    let at = subst (λ (n : ℕ). (place < length (originals_in m.sets.items n)) × (slice_index (originals_in m.sets.items n) place ≡ c.args.element))
    set c.in-Some.ensures.some in
    let here = owner_here b d p on _ c.args.element c.args.rank c.requires.set c.requires.element c.requires.owner in
    has_block b d p on c.args.site c.args.rank place (place / c.args.plan.now.block) c.site_of.result.now colours c.requires.runs here
    c.site_of.ensures
    (place_here b d p on c.owned_come_first.ensures c.args.site c.args.element c.args.rank place m c.requires.set here c.requires.owner
    c.index-2.ensures at.0 at.1)
    (div-mul-le_self place c.args.plan.now.block)

pub unreachable-requires : goal.unreachable-requires
unreachable-requires c =
    let b = bound_of c.args.bound.now in
    let m = c.index-2.result.now in
    let set = set_read c.args.bound.now.sites.items c.args.site c.index.result.now c.requires.runs.0 c.index.ensures in
    is_held b c.args.found.now (plan_of c.args.plan.now) c.requires.planned c.originals_are_held.ensures _ c.args.element c.args.rank m
    c.requires.set c.requires.element c.requires.owner c.index-2.ensures
    (subst (λ (n : ℕ). (k : ℕ) → k < length (originals_in m.sets.items n) → slice_index (originals_in m.sets.items n) k ≢ c.args.element)
    set c.in-None.ensures.none)

pub returns : goal.returns
returns c =
    let b = bound_of c.args.bound.now in
    let d = c.args.found.now in
    let p = plan_of c.args.plan.now in
    let m = c.index-2.result.now in
    let place = c.in-Some.place in
    let on = c.requires.planned in
    let set = set_read c.args.bound.now.sites.items c.args.site c.index.result.now c.requires.runs.0 c.index.ensures in
    let at = subst (λ (n : ℕ). (place < length (originals_in m.sets.items n)) × (slice_index (originals_in m.sets.items n) place ≡ c.args.element))
    set c.in-Some.ensures.some in
    let here = owner_here b d p on _ c.args.element c.args.rank c.requires.set c.requires.element c.requires.owner in
    colour_here b d p on c.args.site _ c.args.element c.args.rank place c.block_colour.result c.site_of.result.now c.requires.owner
    c.site_of.ensures (local_here b d p on _ c.args.element c.args.rank place m here c.requires.owner c.index-2.ensures at.0 at.1)
    c.block_colour.ensures
