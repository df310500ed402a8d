use Rattle.std.proofs.Common.{◌≡◌, ◌∙◌, ap, rules, arith}
use Rattle.std.proofs.lemmas.Grind.{common_steps}
use Rattle.c_tree.specs.Tree.{HostBlock}
use Rattle.c_tree.specs.View.{host_of, hosts_of}
use Rattle.c_tree.proofs.Public.{host_block}
use Rattle.name_resolution.proofs.HostTurns.{hosts_own, hosts_fixed, hosts_named, hosts_first}
use Rattle.name_resolution.proofs.hosts.+hosts.Goals as goal

pub host-returns-in_ok-hosts-in-Block-clause-own : goal.host-returns-in_ok-hosts-in-Block-clause-own
host-returns-in_ok-hosts-in-Block-clause-own t c =
    let e : host_of c.args.statement.now ≡ HostBlock c.in-Block.at (hosts_of c.in-Block.body.items) = ap host_of c.in-Block.is ∙ host_block c.in-Block.at c.in-Block.body in
    rw e (first_of (search rules, grind (arith, common_steps)))

pub host-returns-in_ok-hosts-in-Block-clause-fixed : goal.host-returns-in_ok-hosts-in-Block-clause-fixed
host-returns-in_ok-hosts-in-Block-clause-fixed t c =
    let e : host_of c.args.statement.now ≡ HostBlock c.in-Block.at (hosts_of c.in-Block.body.items) = ap host_of c.in-Block.is ∙ host_block c.in-Block.at c.in-Block.body in
    rw e (first_of (search rules, grind (arith, common_steps)))

pub host-returns-in_ok-hosts-in-Block-clause-named : goal.host-returns-in_ok-hosts-in-Block-clause-named
host-returns-in_ok-hosts-in-Block-clause-named t c =
    let e : host_of c.args.statement.now ≡ HostBlock c.in-Block.at (hosts_of c.in-Block.body.items) = ap host_of c.in-Block.is ∙ host_block c.in-Block.at c.in-Block.body in
    rw e (first_of (search rules, grind (arith, common_steps)))

pub host-returns-in_ok-hosts-in-Block-clause-first : goal.host-returns-in_ok-hosts-in-Block-clause-first
host-returns-in_ok-hosts-in-Block-clause-first t c =
    let e : host_of c.args.statement.now ≡ HostBlock c.in-Block.at (hosts_of c.in-Block.body.items) = ap host_of c.in-Block.is ∙ host_block c.in-Block.at c.in-Block.body in
    rw e (first_of (search rules, grind (arith, common_steps)))

pub hosts-loop-statement-preserved : goal.hosts-loop-statement-preserved
hosts-loop-statement-preserved t c =
    let e = c.in_ok-host.ensures in
    let i = c.loop-statement.invariant in
    record {
      own = hosts_own c.loop-statement.main.own.entries _ c.args.all.now c.loop-statement.statement-index c.statement-item.result c.loop-statement-test.true c.statement-item.is e.own ∙ i.own;
      fixed = hosts_fixed c.args.file.now.entries c.loop-statement.main.own.entries _ c.loop-statement.main.fixed.keys _ c.args.all.now
          c.loop-statement.statement-index c.statement-item.result c.loop-statement-test.true c.statement-item.is e.own e.fixed ∙ i.fixed;
      named = hosts_named c.loop-statement.main.own.entries _ c.loop-statement.main.named.keys _ c.args.all.now
          c.loop-statement.statement-index c.statement-item.result c.loop-statement-test.true c.statement-item.is e.own e.named ∙ i.named;
      first = hosts_first c.args.file.now.entries c.loop-statement.main.own.entries _ c.loop-statement.main.fixed.keys _ c.args.all.now
          c.loop-statement.statement-index c.statement-item.result c.loop-statement.main.first _ c.loop-statement-test.true
          c.statement-item.is e.first e.own e.fixed ∙ i.first;
    }
