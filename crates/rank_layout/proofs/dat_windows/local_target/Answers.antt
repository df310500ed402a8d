use Rattle.std.proofs.Common.{◌<◌, ◌+◌, ◌*◌, length, sym, ap, subst}
use Rattle.mesh_decl.specs.Mesh.{map_dim}
use Rattle.rank_layout.proofs.dat_windows.local_target.Goals as goal

pub bounds-targets-at : goal.bounds-targets-at
bounds-targets-at c =
    subst (λ n. c.args.place * n + c.args.via.index < length c.targets_of-targets.result.now) (sym (ap (λ q. q.2) c.map_ends-dim.ensures))
    (subst (λ l. c.args.place * map_dim c.args.mesh.now c.args.via.map + c.args.via.index < length l) (sym c.targets_of-targets.ensures) c.requires.there)
