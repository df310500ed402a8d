use Rattle.partition.proofs.part_text.Exact.{found, only, refused, refuses}
use Rattle.partition.proofs.part_text.Owned.{owners-given}
use Rattle.partition.proofs.part_text.read.read_partition.Goals as goal

pub returns-clause-found : goal.returns-clause-found
returns-clause-found c = found c.args.mesh.now c.args.ranks c.args.bytes.now c.read.result (λ o. o.sets.items) c.read.ensures.answers

pub returns-clause-only : goal.returns-clause-only
returns-clause-only c = only c.args.mesh.now c.args.ranks c.args.bytes.now c.read.result (λ o. o.sets.items) c.read.ensures.answers

pub returns-clause-refused : goal.returns-clause-refused
returns-clause-refused c = refused c.args.mesh.now c.args.ranks c.args.bytes.now c.read.result (λ o. o.sets.items) c.read.ensures.answers

pub returns-clause-refuses : goal.returns-clause-refuses
returns-clause-refuses c = refuses c.args.mesh.now c.args.ranks c.args.bytes.now c.read.result (λ o. o.sets.items) c.read.ensures.answers

pub returns-clause-owners : goal.returns-clause-owners
returns-clause-owners c =
    owners-given c.args.mesh.now c.args.ranks c.args.bytes.now c.read.result
    (found c.args.mesh.now c.args.ranks c.args.bytes.now c.read.result (λ o. o.sets.items) c.read.ensures.answers) c.read.ensures.ranks
