use Rattle.std.proofs.Common.{◌≡◌, length, drop, subst}
use Rattle.run_model.proofs.gather.Held.{base_at, base_fits, values_fit}
use Rattle.run_model.proofs.gather.dumps.values_of.Goals as goal

pub split_at-requires : goal.split_at-requires
split_at-requires c = base_fits c.args.mesh.now c.args.part.now c.args.memory.now c.args.dat c.index.result.now c.requires.held c.requires.dat c.index.ensures

pub returns-clause-values : goal.returns-clause-values
returns-clause-values c =
    subst (λ z. c.split_at.result.1.now ≡ drop z c.args.memory.now)
    (base_at c.args.mesh.now c.args.part.now c.args.memory.now c.args.dat c.index.result.now c.requires.held c.requires.dat c.index.ensures)
    c.split_at.ensures.back

pub returns-clause-room : goal.returns-clause-room
returns-clause-room c =
    values_fit c.args.mesh.now c.args.part.now c.args.memory.now c.args.dat c.index.result.now
    c.requires.held c.requires.dat c.index.ensures (length c.split_at.result.1.now) c.split_at.ensures.back_len
