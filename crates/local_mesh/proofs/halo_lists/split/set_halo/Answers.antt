use Rattle.std.proofs.Common.{◌≡◌, ap, arith, subst, length}
use Rattle.mesh_decl.specs.Mesh.{set_size}
use Rattle.local_mesh.specs.RankSet.{has_at}
use Rattle.local_mesh.specs.Halos.{IsHaloBelow}
use Rattle.local_mesh.proofs.halo_lists.split.set_halo.Goals as goal

pub loop-element-init : goal.loop-element-init
loop-element-init c =
    let e = c.in_ok-halo.ensures in
    record {
      exec_count = e.exec_count;
      exec = e.exec;
      nonexec_count = e.nonexec_count;
      nonexec = e.nonexec;
      export_count = e.export_count;
      export_counts = e.export_counts;
      exports = e.exports;
      core_count = ap length e.core;
      core = λ x l. absurd (omega (arith, l));
    }

pub add_element-requires-clause-executing : goal.add_element-requires-clause-executing
unfolding has_at
add_element-requires-clause-executing c = λ r. c.requires.executing c.loop-element.element r (omega (arith, c.set_size-size.ensures, c.loop-element-test.true))

pub add_element-requires-clause-naming : goal.add_element-requires-clause-naming
unfolding has_at
add_element-requires-clause-naming c = λ r. c.requires.naming c.loop-element.element r

pub returns : goal.returns
returns c =
    let n : c.loop-element.element ≡ set_size c.args.mesh.now c.args.set = omega (arith, c.set_size-size.ensures, c.loop-element-test.false, c.loop-element.auto.element-end) in
    let b = subst (λ z. IsHaloBelow c.args.mesh.now c.args.owners.now c.args.set z c.loop-element.halo) n c.loop-element.invariant in
    record {
      exec_count = b.exec_count;
      exec = b.exec;
      nonexec_count = b.nonexec_count;
      nonexec = b.nonexec;
      export_count = b.export_count;
      export_counts = b.export_counts;
      exports = b.exports;
      core_count = b.core_count;
      core = b.core;
    }
