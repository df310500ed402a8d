use Rattle.std.proofs.Common.{◌≡◌, ◌++◌, drop, map}
use Rattle.c_tree.specs.View.{hosts_of}
use Rattle.op_translate.specs.Answered.{loop_of_found}
use Rattle.op_translate.specs.Stubs.{all_loops_of}
use Rattle.op_translate.proofs.table.+collects.Given as goal

abbrev pub invariant-collect_all-loop-host : goal.invariant-collect_all-loop-host
invariant-collect_all-loop-host l =
    map loop_of_found l.found.items ++ all_loops_of (hosts_of (drop l.host-index l.hosts)) ≡ map loop_of_found l.fn.found.items ++ all_loops_of (hosts_of l.hosts)
