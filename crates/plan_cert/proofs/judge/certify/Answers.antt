use Rattle.std.proofs.Common.{refl, length, arith}
use Rattle.bound_program.specs.Values.{bound_of}
use Rattle.loop_plan.specs.Values.{plan_of}
use Rattle.loop_plan.proofs.Public.{in_range, sets_had, is_proper}
use Rattle.plan_cert.proofs.Judging.{err_is, header_refused, sizes_refused, halos_refused, sites_refused, items_refused, end_refused, is_certified}
use Rattle.plan_cert.proofs.judge.certify.Goals as goal

pub returns-in_err-take_header-clause-refused : goal.returns-in_err-take_header-clause-refused
returns-in_err-take_header-clause-refused c =
    let b = bound_of c.args.bound.now in
    let meshes = c.args.ranks.now in
    err_is b meshes c.args.bytes.now c.from_residual.result c.in_err-take_header.field-0.0 c.from_residual.ensures.1
    (header_refused b meshes c.args.bytes.now c.new-lines.result c.new-lines.ensures c.in_err-take_header.field-0.0 (c.in_err-take_header.ensures b meshes 0))

pub returns-in_err-block-clause-refused : goal.returns-in_err-block-clause-refused
returns-in_err-block-clause-refused c =
    let b = bound_of c.args.bound.now in
    let meshes = c.args.ranks.now in
    err_is b meshes c.args.bytes.now c.from_residual-in_err-block.result c.in_err-block.field-0.0 c.from_residual-in_err-block.ensures.1
    (sizes_refused b meshes c.args.bytes.now c.new-lines.result c.new-lines.ensures c.take_header.new.lines (c.in_ok-take_header.ensures b meshes)
    c.in_err-block.field-0.0 (c.in_err-block.ensures.judged b meshes refl 0))

pub take_halos-requires : goal.take_halos-requires
take_halos-requires c = record { ranks = sets_had c.args.bound.now.mesh c.args.halos.now c.args.ranks.now c.requires.ranks c.is_in_range.ensures.sizes }

pub returns-in_err-take_halos-clause-refused : goal.returns-in_err-take_halos-clause-refused
returns-in_err-take_halos-clause-refused c =
    let b = bound_of c.args.bound.now in
    let meshes = c.args.ranks.now in
    err_is b meshes c.args.bytes.now c.from_residual-in_err-take_halos.result c.in_err-take_halos.field-0.0 c.from_residual-in_err-take_halos.ensures.1
    (halos_refused b meshes c.args.bytes.now c.new-lines.result c.new-lines.ensures c.take_header.new.lines (c.in_ok-take_header.ensures b meshes)
    c.in_ok-block.block c.take_sizes.new.lines (c.in_ok-block.ensures.judged b meshes refl)
    c.in_err-take_halos.field-0.0 (c.in_err-take_halos.ensures c.in_ok-block.block))

pub take_sites-requires-clause-range : goal.take_sites-requires-clause-range
take_sites-requires-clause-range c = in_range (bound_of c.args.bound.now) c.requires.fits

pub take_sites-requires-clause-sets : goal.take_sites-requires-clause-sets
take_sites-requires-clause-sets c = sets_had c.args.bound.now.mesh c.args.halos.now c.args.ranks.now c.requires.ranks c.is_in_range.ensures.sizes

pub returns-in_err-sites-clause-refused : goal.returns-in_err-sites-clause-refused
returns-in_err-sites-clause-refused c =
    let b = bound_of c.args.bound.now in
    let meshes = c.args.ranks.now in
    err_is b meshes c.args.bytes.now c.from_residual-in_err-sites.result c.in_err-sites.field-0.0 c.from_residual-in_err-sites.ensures.1
    (sites_refused b meshes c.args.bytes.now c.new-lines.result c.new-lines.ensures c.take_header.new.lines (c.in_ok-take_header.ensures b meshes)
    c.in_ok-block.block c.take_sizes.new.lines (c.in_ok-block.ensures.judged b meshes refl)
    c.take_halos.new.lines (c.in_ok-take_halos.ensures c.in_ok-block.block)
    c.in_err-sites.field-0.0 c.in_err-sites.ensures.judged)

pub returns-in_err-take_items-clause-refused : goal.returns-in_err-take_items-clause-refused
returns-in_err-take_items-clause-refused c =
    let b = bound_of c.args.bound.now in
    let meshes = c.args.ranks.now in
    err_is b meshes c.args.bytes.now c.from_residual-in_err-take_items.result c.in_err-take_items.field-0.0 c.from_residual-in_err-take_items.ensures.1
    (items_refused b meshes c.args.bytes.now c.new-lines.result c.new-lines.ensures c.take_header.new.lines (c.in_ok-take_header.ensures b meshes)
    c.in_ok-block.block c.take_sizes.new.lines (c.in_ok-block.ensures.judged b meshes refl)
    c.take_halos.new.lines (c.in_ok-take_halos.ensures c.in_ok-block.block)
    c.take_sites.new.lines _ c.in_ok-sites.ensures.judged
    c.in_err-take_items.field-0.0 (c.in_err-take_items.ensures c.in_ok-block.block))

pub returns-in_err-take_end-clause-refused : goal.returns-in_err-take_end-clause-refused
returns-in_err-take_end-clause-refused c =
    let b = bound_of c.args.bound.now in
    let meshes = c.args.ranks.now in
    err_is b meshes c.args.bytes.now c.from_residual-in_err-take_end.result c.in_err-take_end.field-0.0 c.from_residual-in_err-take_end.ensures.1
    (end_refused b meshes c.args.bytes.now c.new-lines.result c.new-lines.ensures c.take_header.new.lines (c.in_ok-take_header.ensures b meshes)
    c.in_ok-block.block c.take_sizes.new.lines (c.in_ok-block.ensures.judged b meshes refl)
    c.take_halos.new.lines (c.in_ok-take_halos.ensures c.in_ok-block.block)
    c.take_sites.new.lines _ c.in_ok-sites.ensures.judged
    c.take_items.new.lines (c.in_ok-take_items.ensures c.in_ok-block.block)
    c.in_err-take_end.field-0.0 (c.in_err-take_end.ensures.judged b meshes c.in_ok-block.block))

pub number_of_steps-requires-clause-sets : goal.number_of_steps-requires-clause-sets
number_of_steps-requires-clause-sets c = sets_had c.args.bound.now.mesh c.args.halos.now c.args.ranks.now c.requires.ranks c.is_in_range.ensures.sizes

pub returns-then-steps-gt-MAX_STEPS-clause-refused : goal.returns-then-steps-gt-MAX_STEPS-clause-refused
returns-then-steps-gt-MAX_STEPS-clause-refused c =
    let b = bound_of c.args.bound.now in
    let meshes = c.args.ranks.now in
    let p = plan_of (record { ranks = length meshes; block = c.in_ok-block.block; sites = c.in_ok-sites.sites; items = c.in_ok-items.items; steps = c.in_ok-steps.steps }) in
    let proper = is_proper b meshes p c.in_ok-items.items.items (in_range b c.requires.fits) refl refl c.in_ok-items.ensures
    c.in_ok-sites.ensures.plans c.in_ok-block.ensures.some.0 c.in_ok-steps.ensures in (
      p,
      is_certified b meshes c.args.bytes.now c.new-lines.result c.new-lines.ensures c.take_header.new.lines (c.in_ok-take_header.ensures b meshes)
          c.in_ok-block.block c.take_sizes.new.lines (c.in_ok-block.ensures.judged b meshes refl)
          c.take_halos.new.lines (c.in_ok-take_halos.ensures c.in_ok-block.block)
          c.take_sites.new.lines _ c.in_ok-sites.ensures.judged
          c.take_items.new.lines (c.in_ok-take_items.ensures c.in_ok-block.block)
          c.take_end.new.lines (c.in_ok-take_end.ensures.judged b meshes c.in_ok-block.block) c.in_ok-take_end.ensures.rest
          p refl refl proper,
      refl,
      c.in_ok-steps.ensures,
      omega arith,
    )

pub returns-clause-plan : goal.returns-clause-plan
returns-clause-plan c =
    let b = bound_of c.args.bound.now in
    let meshes = c.args.ranks.now in
    let p = plan_of (record { ranks = length meshes; block = c.in_ok-block.block; sites = c.in_ok-sites.sites; items = c.in_ok-items.items; steps = c.in_ok-steps.steps }) in
    is_certified b meshes c.args.bytes.now c.new-lines.result c.new-lines.ensures c.take_header.new.lines (c.in_ok-take_header.ensures b meshes)
    c.in_ok-block.block c.take_sizes.new.lines (c.in_ok-block.ensures.judged b meshes refl)
    c.take_halos.new.lines (c.in_ok-take_halos.ensures c.in_ok-block.block)
    c.take_sites.new.lines _ c.in_ok-sites.ensures.judged
    c.take_items.new.lines (c.in_ok-take_items.ensures c.in_ok-block.block)
    c.take_end.new.lines (c.in_ok-take_end.ensures.judged b meshes c.in_ok-block.block) c.in_ok-take_end.ensures.rest
    p refl refl
    (is_proper b meshes p c.in_ok-items.items.items (in_range b c.requires.fits) refl refl c.in_ok-items.ensures c.in_ok-sites.ensures.plans c.in_ok-block.ensures.some.0 c.in_ok-steps.ensures)
