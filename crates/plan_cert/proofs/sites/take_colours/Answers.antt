use Rattle.std.proofs.Common.{◌<◌, ◌∙◌, None, Some, refl, sym, ap, subst, get_or, arith}
use Rattle.local_mesh.specs.declared.types.RankMesh.{RankMesh}
use Rattle.local_mesh.specs.LocalMesh.{IsRankMesh}
use Rattle.bound_program.specs.Values.{bound_of}
use Rattle.bound_program.specs.Fits.{site_at}
use Rattle.loop_plan.specs.Places.{reducing, maps_of}
use Rattle.loop_plan.proofs.Public.{sets_at, maps_at, args_are}
use Rattle.colouring.specs.declared.conflicts.Clash.TheVariants.{Blocks, Places}
use Rattle.plan_cert.specs.Awaited.{places_in}
use Rattle.plan_cert.specs.Told.{LineIs}
use Rattle.plan_cert.proofs.Reading.{next_number}
use Rattle.plan_cert.proofs.LoopLines.{front_written, clash_moved, no_line, none_told, blocks_refused, places_refused, colours_taken, are_separate}
use Rattle.plan_cert.proofs.sites.take_colours.Goals as goal

pub returns-in_default-clause-judged : goal.returns-in_default-clause-judged
returns-in_default-clause-judged c = (
  0,
  next_number c.args.lines.now c.args.lines.now c.taken-number.result c.taken-number.ensures.taken refl,
  no_line (bound_of c.args.bound.now) c.args.ranks.now c.args.of.now.size c.args.of.now.site c.args.rank
      (get_or c.args.of.now.places.now c.args.rank 0) (c.requires.places c.args.rank c.requires.rank) c.args.lines.now
      c.in_default.ensures.0,
)

pub returns-in_default-2-clause-judged : goal.returns-in_default-2-clause-judged
returns-in_default-2-clause-judged c = (
  0,
  next_number c.args.lines.now c.args.lines.now c.taken-number.result c.taken-number.ensures.taken refl,
  none_told (bound_of c.args.bound.now) c.args.ranks.now c.args.of.now.size c.args.of.now.site c.args.rank
      (get_or c.args.of.now.places.now c.args.rank 0) (c.requires.places c.args.rank c.requires.rank) c.args.lines.now c.next.new.self
      c.in-Some.line.now c.deref.result.now c.count.result
      c.in-Some.ensures (front_written c.args.of.now.site c.args.rank (get_or c.args.of.now.places.now c.args.rank 0)
      c.new-front.result.items c.put_site_front.new.text.items c.deref.result.now c.new-front.ensures.items
      c.in_ok-put_site_front.ensures c.deref.ensures.value) c.count.ensures
      (subst (LineIs c.deref.result.now c.in-Some.line.now c.count.result (get_or c.args.of.now.places.now c.args.rank 0)) c.in_default-2.is c.in_ok-colours.ensures),
)

pub find_clash-requires-clause-rank : goal.find_clash-requires-clause-rank
find_clash-requires-clause-rank c =
    let d = c.requires.ranks.1 in
    let m : RankMesh = c.index-ranks-rank.result in
    let l : c.args.rank < d.owners.ranks = omega (arith, c.requires.rank, d.distributed.are_meshes.count) in
    (d.owners, d.numbers, c.args.rank, subst (IsRankMesh c.args.bound.now.mesh d.owners d.numbers c.args.rank) (sym c.index-ranks-rank.is) (d.distributed.are_meshes.ranks c.args.rank m l))

pub find_clash-requires-clause-args : goal.find_clash-requires-clause-args
find_clash-requires-clause-args c =
    args_are (bound_of c.args.bound.now) c.args.ranks.now c.requires.fits c.args.of.now.site c.args.rank
    c.index-ranks-rank.result.sets.items (get_or c.args.of.now.places.now c.args.rank 0) c.args.of.now.args.now c.requires.site
    (ap (λ (z : RankMesh). z.sets.items) c.index-ranks-rank.is ∙ sets_at c.args.ranks.now c.args.rank c.index-ranks-rank.result c.requires.rank)
    (c.requires.places c.args.rank c.requires.rank) c.requires.args

pub returns-in-None-clause-judged : goal.returns-in-None-clause-judged
returns-in-None-clause-judged c = colours_taken (bound_of c.args.bound.now) c.args.ranks.now c.args.of.now.size c.args.of.now.site
    c.args.rank (get_or c.args.of.now.places.now c.args.rank 0) (c.requires.places c.args.rank c.requires.rank)
    c.args.lines.now c.next.new.self c.in-Some.line.now c.deref.result.now c.count.result c.in-Some-2.colours c.in-Some.ensures
    (front_written c.args.of.now.site c.args.rank (get_or c.args.of.now.places.now c.args.rank 0) c.new-front.result.items
    c.put_site_front.new.text.items c.deref.result.now c.new-front.ensures.items c.in_ok-put_site_front.ensures c.deref.ensures.value)
    c.count.ensures
    (subst (LineIs c.deref.result.now c.in-Some.line.now c.count.result (get_or c.args.of.now.places.now c.args.rank 0)) c.in-Some-2.is c.in_ok-colours.ensures)
    (clash_moved c.args.bound.now.mesh c.index-ranks-rank.result.maps.items (maps_of c.args.ranks.now c.args.rank) c.args.of.now.args.now
    (reducing (site_at (bound_of c.args.bound.now) c.args.of.now.site).args)
    (get_or c.args.of.now.places.now c.args.rank 0) (places_in (bound_of c.args.bound.now) c.args.ranks.now c.args.of.now.site c.args.rank)
    c.args.of.now.size c.in-Some-2.colours.blocks.items c.in-Some-2.colours.inner.items c.in_ok-find_clash.field-0 None
    (ap (λ (z : RankMesh). z.maps.items) c.index-ranks-rank.is
    ∙ maps_at c.args.ranks.now c.args.rank c.index-ranks-rank.result c.requires.rank) c.requires.args
    (c.requires.places c.args.rank c.requires.rank)
    c.in-None.is c.in_ok-find_clash.ensures)

pub returns-in-None-clause-separate : goal.returns-in-None-clause-separate
returns-in-None-clause-separate c = are_separate (bound_of c.args.bound.now) c.args.ranks.now c.args.of.now.size c.args.of.now.site
    c.args.rank (get_or c.args.of.now.places.now c.args.rank 0) (c.requires.places c.args.rank c.requires.rank)
    c.args.lines.now c.next.new.self c.in-Some.line.now c.deref.result.now c.count.result c.in-Some-2.colours c.in-Some.ensures
    (front_written c.args.of.now.site c.args.rank (get_or c.args.of.now.places.now c.args.rank 0) c.new-front.result.items
    c.put_site_front.new.text.items c.deref.result.now c.new-front.ensures.items c.in_ok-put_site_front.ensures c.deref.ensures.value)
    c.count.ensures
    (subst (LineIs c.deref.result.now c.in-Some.line.now c.count.result (get_or c.args.of.now.places.now c.args.rank 0)) c.in-Some-2.is c.in_ok-colours.ensures)
    (clash_moved c.args.bound.now.mesh c.index-ranks-rank.result.maps.items (maps_of c.args.ranks.now c.args.rank) c.args.of.now.args.now
    (reducing (site_at (bound_of c.args.bound.now) c.args.of.now.site).args)
    (get_or c.args.of.now.places.now c.args.rank 0) (places_in (bound_of c.args.bound.now) c.args.ranks.now c.args.of.now.site c.args.rank)
    c.args.of.now.size c.in-Some-2.colours.blocks.items c.in-Some-2.colours.inner.items c.in_ok-find_clash.field-0 None
    (ap (λ (z : RankMesh). z.maps.items) c.index-ranks-rank.is
    ∙ maps_at c.args.ranks.now c.args.rank c.index-ranks-rank.result c.requires.rank) c.requires.args
    (c.requires.places c.args.rank c.requires.rank)
    c.in-None.is c.in_ok-find_clash.ensures)

pub returns-in-Some-Blocks-clause-judged : goal.returns-in-Some-Blocks-clause-judged
returns-in-Some-Blocks-clause-judged c = (
  0,
  next_number c.args.lines.now c.args.lines.now c.taken-number.result c.taken-number.ensures.taken refl,
  blocks_refused (bound_of c.args.bound.now) c.args.ranks.now c.args.of.now.size c.args.of.now.site c.args.rank
      (get_or c.args.of.now.places.now c.args.rank 0) (c.requires.places c.args.rank c.requires.rank)
      c.args.lines.now c.next.new.self c.in-Some.line.now c.deref.result.now c.count.result c.in-Some-2.colours c.in-Some.ensures
      (front_written c.args.of.now.site c.args.rank (get_or c.args.of.now.places.now c.args.rank 0) c.new-front.result.items
      c.put_site_front.new.text.items c.deref.result.now c.new-front.ensures.items c.in_ok-put_site_front.ensures c.deref.ensures.value)
      c.count.ensures
      (subst (LineIs c.deref.result.now c.in-Some.line.now c.count.result (get_or c.args.of.now.places.now c.args.rank 0)) c.in-Some-2.is c.in_ok-colours.ensures)
      (clash_moved c.args.bound.now.mesh c.index-ranks-rank.result.maps.items (maps_of c.args.ranks.now c.args.rank) c.args.of.now.args.now
      (reducing (site_at (bound_of c.args.bound.now) c.args.of.now.site).args)
      (get_or c.args.of.now.places.now c.args.rank 0)
      (places_in (bound_of c.args.bound.now) c.args.ranks.now c.args.of.now.site c.args.rank) c.args.of.now.size
      c.in-Some-2.colours.blocks.items c.in-Some-2.colours.inner.items c.in_ok-find_clash.field-0 (Some Blocks)
      (ap (λ (z : RankMesh). z.maps.items) c.index-ranks-rank.is
      ∙ maps_at c.args.ranks.now c.args.rank c.index-ranks-rank.result c.requires.rank) c.requires.args
      (c.requires.places c.args.rank c.requires.rank)
      (c.in-Some-Blocks.is ∙ ap Some c.in-Some-Blocks.field-0-is) c.in_ok-find_clash.ensures),
)

pub returns-clause-judged : goal.returns-clause-judged
returns-clause-judged c = (
  0,
  next_number c.args.lines.now c.args.lines.now c.taken-number.result c.taken-number.ensures.taken refl,
  places_refused (bound_of c.args.bound.now) c.args.ranks.now c.args.of.now.size c.args.of.now.site c.args.rank
      (get_or c.args.of.now.places.now c.args.rank 0) (c.requires.places c.args.rank c.requires.rank)
      c.args.lines.now c.next.new.self c.in-Some.line.now c.deref.result.now c.count.result c.in-Some-2.colours c.in-Some.ensures
      (front_written c.args.of.now.site c.args.rank (get_or c.args.of.now.places.now c.args.rank 0) c.new-front.result.items
      c.put_site_front.new.text.items c.deref.result.now c.new-front.ensures.items c.in_ok-put_site_front.ensures c.deref.ensures.value)
      c.count.ensures
      (subst (LineIs c.deref.result.now c.in-Some.line.now c.count.result (get_or c.args.of.now.places.now c.args.rank 0)) c.in-Some-2.is c.in_ok-colours.ensures)
      (clash_moved c.args.bound.now.mesh c.index-ranks-rank.result.maps.items (maps_of c.args.ranks.now c.args.rank) c.args.of.now.args.now
      (reducing (site_at (bound_of c.args.bound.now) c.args.of.now.site).args)
      (get_or c.args.of.now.places.now c.args.rank 0)
      (places_in (bound_of c.args.bound.now) c.args.ranks.now c.args.of.now.site c.args.rank) c.args.of.now.size
      c.in-Some-2.colours.blocks.items c.in-Some-2.colours.inner.items c.in_ok-find_clash.field-0 (Some Places)
      (ap (λ (z : RankMesh). z.maps.items) c.index-ranks-rank.is
      ∙ maps_at c.args.ranks.now c.args.rank c.index-ranks-rank.result c.requires.rank) c.requires.args
      (c.requires.places c.args.rank c.requires.rank)
      (c.in-Some-Places.is ∙ ap Some c.in-Some-Places.field-0-is) c.in_ok-find_clash.ensures),
)
