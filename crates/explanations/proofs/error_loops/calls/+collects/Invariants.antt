use Rattle.std.proofs.Common.{◌≡◌, ◌++◌, drop, map}
use Rattle.c_tree.specs.View.{hosts_of}
use Rattle.explanations.specs.Calls.{call_of, all_loops_of}
use Rattle.explanations.proofs.error_loops.calls.+collects.Given as goal

abbrev pub invariant-collect_all-loop-host : goal.invariant-collect_all-loop-host
invariant-collect_all-loop-host l =
    map call_of l.calls.items ++ all_loops_of (hosts_of (drop l.host-index l.hosts)) ≡ map call_of l.fn.calls.items ++ all_loops_of (hosts_of l.hosts)
