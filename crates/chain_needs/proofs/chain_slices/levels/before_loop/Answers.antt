use Rattle.std.proofs.Common.{◌≡◌, ◌<◌, ◌||◌, ◌&&◌, List, ◌∷◌, Vec, length, sym, ap, subst, ◌∙◌, arith}
use Rattle.std.specs.List.{list_any}
use Rattle.std.specs.declared.alloc.Global.{Global}
use Rattle.std.proofs.lemmas.List.{with_items_is}
use Rattle.lemmas.specs.Below.{any_below, listed}
use Rattle.local_mesh.specs.RankSet.{has_at}
use Rattle.local_mesh.specs.declared.rank_sets.rank_set.RankSet.{RankSet}
use Rattle.mesh_decl.specs.Mesh.{set_size}
use Rattle.local_mesh.specs.Sets.{sets_in, has_in}
use Rattle.bound_program.specs.Values.{bound_of}
use Rattle.bound_program.specs.Fits.{site_at}
use Rattle.chain_model.specs.Slices.{reads_pair}
use Rattle.chain_needs.specs.PairSets.{pairs_of}
use Rattle.chain_needs.specs.Needed.{AreNeeded}
use Rattle.chain_needs.proofs.Agreeing.{one_more}
use Rattle.chain_needs.specs.Levels.{AreBelow}
use Rattle.chain_needs.proofs.chain_slices.Below.{executes_below, read_below, listed_runs, runs_are}
use Rattle.chain_needs.proofs.chain_slices.levels.before_loop.Goals as goal

pub places_by_rank-requires-clause-below : goal.places_by_rank-requires-clause-below
places_by_rank-requires-clause-below c = λ x r lx lr t.
    let b = bound_of c.args.bound.now in
    let o = c.args.owners.now in
    let site = site_at b c.args.site in
    let n : length c.deref.result.now ≡ set_size b.mesh site.set = ap (length {A = RankSet}) c.deref.ensures.value ∙ c.in_ok-executing.ensures.length in
    let l : x < set_size b.mesh site.set = omega arith in
    executes_below b o.ranks r (pairs_of c.args.needed.now r) (λ d y q. c.requires.below d y r q) o site x (c.requires.owners.below site.set x c.requires.fits.set l)
    (sym (c.in_ok-executing.ensures.has x r l) ∙ (ap (λ (z : List RankSet). has_at z x r) (sym c.deref.ensures.value) ∙ t))

pub returns-clause-is : goal.returns-clause-is
returns-clause-is c = λ sites h.
    let b = bound_of c.args.bound.now in
    let o = c.args.owners.now in
    let site = site_at b c.args.site in
    let n : length c.read_dats.new.needs ≡ c.in_ok-before.before.len = omega (arith, c.read_dats.auto.needs, c.deref_mut.ensures.len) in
    let size = set_size b.mesh site.set in
    let runs = c.in_ok-executing.executing.items in
    record {
      needed = subst (AreNeeded b o (site ∷ sites)) (sym (with_items_is c.in_ok-before.before c.read_dats.new.needs n))
          (one_more b o site sites c.args.needed.now c.read_dats.new.needs runs c.is_in_range.ensures c.requires.fits h c.read_dats.ensures.needs c.in_ok-executing.ensures.has
          (λ d y r l. c.read_dats.ensures.has d y r l
          ∙ (ap (λ (z : List RankSet). has_at z y r || any_below size (λ e. has_at c.deref-2.result.now e r && list_any (reads_pair b d y e) site.args))
          (ap (λ (q : List (Vec RankSet Global)). sets_in q d) c.deref_mut.ensures.value ∙ c.in_ok-before.ensures.same d)
          ∙ ap (λ (z : List RankSet). has_in c.args.needed.now d y r || any_below size (λ e. has_at z e r && list_any (reads_pair b d y e) site.args)) c.deref-2.ensures.value)));
      count = c.in_ok-executing.ensures.length;
      executing = λ e r l. runs_are b o site sites c.args.needed.now runs e r c.is_in_range.ensures c.requires.fits h c.in_ok-executing.ensures.has l;
      ranks = c.in_ok-elements.ensures.length;
      elements = λ r l. c.in_ok-elements.ensures.lists r l
          ∙ (ap (λ (z : List RankSet). listed (length z) (λ x. has_at z x r)) c.deref.ensures.value
          ∙ listed_runs b o site sites c.args.needed.now runs r c.is_in_range.ensures c.requires.fits h c.in_ok-executing.ensures.length c.in_ok-executing.ensures.has);
    }

pub returns-clause-below : goal.returns-clause-below
returns-clause-below c =
    let b = bound_of c.args.bound.now in
    let o = c.args.owners.now in
    let site = site_at b c.args.site in
    let n : length c.read_dats.new.needs ≡ c.in_ok-before.before.len = omega (arith, c.read_dats.auto.needs, c.deref_mut.ensures.len) in
    let size = set_size b.mesh site.set in
    let runs = c.in_ok-executing.executing.items in
    subst (AreBelow o.ranks) (sym (with_items_is c.in_ok-before.before c.read_dats.new.needs n))
    (read_below b o.ranks site.args c.args.needed.now c.read_dats.new.needs runs size c.requires.below c.read_dats.ensures.needs
    (λ e r l t. executes_below b o.ranks r (pairs_of c.args.needed.now r) (λ d y q. c.requires.below d y r q) o site e (c.requires.owners.below site.set e c.requires.fits.set l)
    (sym (c.in_ok-executing.ensures.has e r l) ∙ t))
    (λ d y r l. c.read_dats.ensures.has d y r l
    ∙ (ap (λ (z : List RankSet). has_at z y r || any_below size (λ e. has_at c.deref-2.result.now e r && list_any (reads_pair b d y e) site.args))
    (ap (λ (q : List (Vec RankSet Global)). sets_in q d) c.deref_mut.ensures.value ∙ c.in_ok-before.ensures.same d)
    ∙ ap (λ (z : List RankSet). has_in c.args.needed.now d y r || any_below size (λ e. has_at z e r && list_any (reads_pair b d y e) site.args)) c.deref-2.ensures.value)))
