use Rattle.std.proofs.Common.{◌≡◌, ◌≢◌, ◌<◌, ◌||◌, ◌&&◌, List, length, get_or, length-set, ap, ◌∙◌, arith, ⊎_elim}
use Rattle.std.specs.List.{list_any}
use Rattle.std.specs.Vec.{with_items}
use Rattle.std.proofs.lemmas.Bool.{cases_eq}
use Rattle.lemmas.specs.Below.{any_below}
use Rattle.local_mesh.specs.RankSet.{has_at}
use Rattle.local_mesh.specs.declared.rank_sets.rank_set.RankSet.{RankSet}
use Rattle.mesh_decl.specs.Mesh.{set_size, dat_set}
use Rattle.bound_program.specs.Values.{bound_of}
use Rattle.bound_program.specs.Fits.{site_at}
use Rattle.chain_model.specs.Slices.{reads_pair}
use Rattle.chain_needs.proofs.Nested.{sets_set_other, sets_at, put_back}
use Rattle.chain_needs.proofs.reading.read_dat.Goals as goal

pub read_all-requires-clause-sets : goal.read_all-requires-clause-sets
read_all-requires-clause-sets c =
    let l : c.args.dat < length c.args.needs.now = omega (arith, c.requires.needs.count) in
    ap (length {A = RankSet}) (c.deref_mut.ensures.value ∙ sets_at c.args.needs.now c.args.dat c.index-needs-dat.result l)
    ∙ c.requires.needs.lengths c.args.dat c.requires.dat

pub returns-clause-needs : goal.returns-clause-needs
returns-clause-needs c =
    let l : c.args.dat < length c.args.needs.now = omega (arith, c.requires.needs.count) in
    let n : length c.read_all.new.sets ≡ (get_or c.args.needs.now c.args.dat c.index-needs-dat.result).len = omega (arith, c.read_all.auto.sets, c.deref_mut.ensures.len) in
    let e : length c.deref_mut.result.now ≡ set_size c.args.bound.now.mesh (dat_set c.args.bound.now.mesh c.args.dat) =
    ap (length {A = RankSet}) (c.deref_mut.ensures.value ∙ sets_at c.args.needs.now c.args.dat c.index-needs-dat.result l)
    ∙ c.requires.needs.lengths c.args.dat c.requires.dat in
    record {
      count = length-set c.args.needs.now c.args.dat (with_items (get_or c.args.needs.now c.args.dat c.index-needs-dat.result) c.read_all.new.sets) ∙ c.requires.needs.count;
      lengths = λ d m. ⊎_elim
          (λ (q : d ≡ c.args.dat). rw q (ap (length {A = RankSet})
          (put_back c.args.needs.now c.args.dat (get_or c.args.needs.now c.args.dat c.index-needs-dat.result) c.read_all.new.sets l n)
          ∙ omega (arith, c.read_all.auto.sets, e)))
          (λ (q : d ≢ c.args.dat). ap (length {A = RankSet})
          (sets_set_other c.args.needs.now c.args.dat d
          (with_items (get_or c.args.needs.now c.args.dat c.index-needs-dat.result) c.read_all.new.sets) q)
          ∙ c.requires.needs.lengths d m)
          (cases_eq d c.args.dat);
    }

pub returns-clause-here : goal.returns-clause-here
returns-clause-here c = λ y r.
    let b = bound_of c.args.bound.now in
    let l : c.args.dat < length c.args.needs.now = omega (arith, c.requires.needs.count) in
    let n : length c.read_all.new.sets ≡ (get_or c.args.needs.now c.args.dat c.index-needs-dat.result).len = omega (arith, c.read_all.auto.sets, c.deref_mut.ensures.len) in
    ap (λ (z : List RankSet). has_at z y r) (put_back c.args.needs.now c.args.dat (get_or c.args.needs.now c.args.dat c.index-needs-dat.result) c.read_all.new.sets l n)
    ∙ (c.read_all.ensures y r
    ∙ ap (λ (z : List RankSet). has_at z y r || any_below (set_size b.mesh (site_at b c.args.site).set)
    (λ e. has_at c.args.executing.now e r && list_any (reads_pair b c.args.dat y e) (site_at b c.args.site).args))
    (c.deref_mut.ensures.value ∙ sets_at c.args.needs.now c.args.dat c.index-needs-dat.result l))

pub returns-clause-others : goal.returns-clause-others
returns-clause-others c = λ d q. sets_set_other c.args.needs.now c.args.dat d (with_items (get_or c.args.needs.now c.args.dat c.index-needs-dat.result) c.read_all.new.sets) q
