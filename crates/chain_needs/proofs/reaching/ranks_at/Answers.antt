use Rattle.std.proofs.Common.{◌≡◌, ◌<◌, List, length, ap, ◌∙◌, arith}
use Rattle.local_mesh.specs.declared.rank_sets.rank_set.RankSet.{RankSet}
use Rattle.local_mesh.specs.RankSet.{has_at}
use Rattle.local_mesh.proofs.Public.{has_at_read, sets_read}
use Rattle.local_mesh.specs.Sets.{sets_in}
use Rattle.chain_needs.proofs.reaching.ranks_at.Goals as goal

pub index-requires : goal.index-requires
index-requires c =
    let e : c.index-sets-dat.result.items ≡ sets_in c.args.sets.now c.args.dat = sets_read c.args.sets.now c.args.dat c.index-sets-dat.result c.requires.dat c.index-sets-dat.is in
    omega (arith, c.requires.element, ap (length {A = RankSet}) e, c.index-sets-dat.result.ok.0)

pub returns : goal.returns
returns c =
    let e : c.index-sets-dat.result.items ≡ sets_in c.args.sets.now c.args.dat = sets_read c.args.sets.now c.args.dat c.index-sets-dat.result c.requires.dat c.index-sets-dat.is in
    let l : c.args.element < length c.index-sets-dat.result.items = omega (arith, c.requires.element, ap (length {A = RankSet}) e) in
    λ r. has_at_read c.index-sets-dat.result.items c.args.element c.index.result.now l c.index.ensures r ∙ ap (λ (z : List RankSet). has_at z c.args.element r) e
