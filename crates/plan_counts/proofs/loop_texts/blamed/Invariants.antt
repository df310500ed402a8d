use Rattle.std.proofs.Common.{◌≡◌, ◌+◌, length}
use Rattle.mesh_decl.specs.Mesh.{dat_count}
use Rattle.loop_plan.specs.Needs.{AreOfDats}
use Rattle.plan_counts.specs.Table.{blamed}
use Rattle.plan_counts.proofs.loop_texts.blamed.Given as goal

-- the first of those that are left is the first of all
abbrev pub invariant-loop-rest : goal.invariant-loop-rest
invariant-loop-rest l = record {
  same : blamed l.mesh l.args l.number l.rest ≡ blamed l.mesh l.args 1 l.args;
  count : l.number + length l.rest ≡ 1 + length l.args;
  dats : AreOfDats (dat_count l.mesh) l.rest;
}

abbrev pub decreases-loop-rest : goal.decreases-loop-rest
decreases-loop-rest l = length l.rest
