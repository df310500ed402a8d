use Rattle.std.proofs.Common.{◌∙◌, ℕ, ap, get_or, List}
use Rattle.local_mesh.specs.declared.types.RankMesh.{RankMesh}
use Rattle.bound_program.specs.Values.{bound_of}
use Rattle.bound_program.specs.Fits.{site_at}
use Rattle.loop_plan.specs.Places.{reducing, places_of, maps_of}
use Rattle.loop_plan.proofs.SetReads.{sets_at, maps_at}
use Rattle.loop_plan.proofs.SitePlanning.{args_are, colours_moved}
use Rattle.loop_plan.proofs.sites.least_plan.Goals as goal
use Rattle.lemmas.proofs.Lists.{element_at}

pub colours_by_rank-requires-clause-args : goal.colours_by_rank-requires-clause-args
colours_by_rank-requires-clause-args c = λ r m l.
    let b = bound_of c.args.bound.now in
    let meshes = c.args.ranks.now in
    args_are b meshes c.requires.fits c.args.site r (get_or meshes r m).sets.items (get_or c.deref-2.result.now r 0) c.deref.result.now c.requires.site
    (sets_at meshes r m l)
    (ap (λ (z : List ℕ). get_or z r 0) c.deref-2.ensures.value ∙ c.in_ok-places.ensures.places r l)
    (c.deref.ensures.value ∙ (c.in_ok-args.ensures ∙ ap reducing c.args_of.ensures))

pub returns : goal.returns
returns c =
    let b = bound_of c.args.bound.now in
    let meshes = c.args.ranks.now in
    record {
      places_count = c.in_ok-places.ensures.count;
      places = c.in_ok-places.ensures.places;
      colours_count = c.in_ok-colours.ensures.count;
      colours = λ r d l. (
          let m : RankMesh = (element_at meshes r l).0 in
          colours_moved b.mesh (get_or meshes r m).maps.items (maps_of meshes r) c.deref.result.now (reducing (site_at b c.args.site).args)
          (get_or c.deref-2.result.now r 0) (places_of meshes (site_at b c.args.site) r) c.args.block (get_or c.in_ok-colours.colours.items r d)
          (maps_at meshes r m l)
          (c.deref.ensures.value ∙ (c.in_ok-args.ensures ∙ ap reducing c.args_of.ensures))
          (ap (λ (z : List ℕ). get_or z r 0) c.deref-2.ensures.value ∙ c.in_ok-places.ensures.places r l)
          (c.in_ok-colours.ensures.colours r m d l));
    }
