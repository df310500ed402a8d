use Rattle.std.proofs.Common.{◌<◌, ◌&&◌, ℕ, List, length, map, sym, ap, subst, ◌∙◌, arith}
use Rattle.std.specs.Prelude.{not}
use Rattle.std.proofs.lemmas.List.{length-map}
use Rattle.lemmas.proofs.Below.{listed_agree}
use Rattle.mesh_decl.specs.Mesh.{set_size, dat_set}
use Rattle.bound_program.specs.Values.{bound_of}
use Rattle.bound_program.specs.Fits.{site_at}
use Rattle.chain_model.specs.Slices.{owns_pair}
use Rattle.chain_needs.specs.PairSets.{pairs_of}
use Rattle.chain_needs.specs.Needed.{AreNeeded}
use Rattle.chain_needs.specs.Levels.{AreLevels, front_of}
use Rattle.chain_needs.specs.Shapes.{needs_others}
use Rattle.chain_needs.proofs.chain_slices.shapes.shape_of.Goals as goal

pub returns-clause-is : goal.returns-clause-is
returns-clause-is c =
    let b = bound_of c.args.bound.now in
    let o = c.args.owners.now in
    let loops = map (site_at b) c.args.sites.items in
    let levels = c.in_ok-levels.levels.items in
    let are : AreLevels b o loops levels = subst (λ (z : List ℕ). AreLevels b o (map (site_at b) z) levels) c.deref.ensures.value c.in_ok-levels.ensures.are in
    let some : 0 < length levels = omega (arith, are.count, length-map c.args.sites.items (site_at b), c.requires.some) in
    let needed : AreNeeded b o loops c.front-needed.result.now =
    subst (AreNeeded b o loops) (sym (c.front-needed.ensures ∙ ap (front_of _) c.deref-2.ensures.value))
    (subst (λ (z : List ℕ). AreNeeded b o (map (site_at b) z) (front_of _ levels)) c.deref.ensures.value (c.in_ok-levels.ensures.front _ some)) in
    record {
      there = c.requires.sites;
      levels = are;
      dats = c.in_ok-copies.ensures.dats;
      ranks = c.in_ok-copies.ensures.ranks;
      copies = λ d r ld lr. c.in_ok-copies.ensures.copies d r ld lr
          ∙ listed_agree (set_size b.mesh (dat_set b.mesh d)) (λ y. pairs_of c.front-needed.result.now r d y && not (owns_pair b o r d y)) (needs_others b o loops r d)
          (λ y ly. ap (λ z. z && not (owns_pair b o r d y)) (needed.has d y r ld ly));
      messages = c.in_ok-messages.ensures.is loops needed;
    }
