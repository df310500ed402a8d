use Rattle.std.proofs.Common.{◌≡◌, drop}
use Rattle.c_tree.specs.View.{hosts_of}
use Rattle.name_resolution.specs.First.{least_from}
use Rattle.name_resolution.specs.Mains.{own_after_all, fixed_after_all, named_after_all, hosts_breaches}
use Rattle.name_resolution.proofs.hosts.+hosts.Given as goal

-- What the statements so far came to, and the rest, come to what all do.
abbrev pub invariant-hosts-loop-statement : goal.invariant-hosts-loop-statement
invariant-hosts-loop-statement l = record {
  own : own_after_all l.main.own.entries (hosts_of (drop l.statement-index l.all)) ≡ own_after_all l.initial.main.own.entries (hosts_of l.all);
  fixed : fixed_after_all l.file.entries l.main.own.entries l.main.fixed.keys (hosts_of (drop l.statement-index l.all)) ≡ fixed_after_all
      l.file.entries l.initial.main.own.entries l.initial.main.fixed.keys (hosts_of l.all);
  named : named_after_all l.main.own.entries l.main.named.keys (hosts_of (drop l.statement-index l.all)) ≡ named_after_all l.initial.main.own.entries l.initial.main.named.keys (hosts_of l.all);
  first : least_from l.main.first
      (hosts_breaches l.file.entries l.main.own.entries l.main.fixed.keys (hosts_of (drop l.statement-index l.all))) ≡ least_from
      l.initial.main.first (hosts_breaches l.file.entries l.initial.main.own.entries l.initial.main.fixed.keys (hosts_of l.all));
}
