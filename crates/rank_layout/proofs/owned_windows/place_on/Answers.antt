use Rattle.std.proofs.Common.{◌<◌, ◌+◌, ◌*◌, ℕ, List, length, sym, ap, ◌∙◌, subst, arith}
use Rattle.std.specs.Prelude.{slice_index}
use Rattle.rank_layout.proofs.MessagesStand.{bases_at}
use Rattle.rank_layout.proofs.RankMeshes.{cells_at}
use Rattle.rank_layout.proofs.owned_windows.place_on.Goals as goal

pub place-requires-clause-dat : goal.place-requires-clause-dat
place-requires-clause-dat c =
    subst (λ (l : List ℕ). c.args.dat < length l)
    (sym (bases_at c.args.meshes.now c.args.rank c.index-meshes-rank.result c.requires.rank c.index-meshes-rank.is)) c.requires.dat

pub place-requires-clause-cells : goal.place-requires-clause-cells
place-requires-clause-cells c =
    let base = ap (λ (l : List ℕ). slice_index l c.args.dat) (bases_at c.args.meshes.now c.args.rank c.index-meshes-rank.result c.requires.rank c.index-meshes-rank.is) in
    let cells = cells_at c.args.meshes.now c.args.rank c.index-meshes-rank.result c.requires.rank c.index-meshes-rank.is in
    omega (arith, base, cells, c.requires.inside)

pub returns : goal.returns
returns c =
    c.place.ensures
    ∙ ap (λ (l : List ℕ). slice_index l c.args.dat + c.args.local * c.args.dim)
    (bases_at c.args.meshes.now c.args.rank c.index-meshes-rank.result c.requires.rank c.index-meshes-rank.is)
