use Rattle.std.proofs.Common.{◌≡◌, drop, reverse}
use Rattle.c_tree.specs.View.{hosts_of}
use Rattle.c_show.specs.Ahead.{hosts_first}
use Rattle.c_show.proofs.put_hosts.+hosts.Given as goal

abbrev pub invariant-put_hosts-loop-i : goal.invariant-put_hosts-loop-i
invariant-put_hosts-loop-i l = reverse l.out.items ≡ hosts_first (hosts_of (drop l.i l.hosts)) (reverse l.initial.out.items)
