use Rattle.std.proofs.Common.{◌≡◌, ◌∙◌, ap, rules, arith}
use Rattle.std.proofs.lemmas.Grind.{common_steps}
use Rattle.c_tree.specs.Tree.{HostBlock}
use Rattle.c_tree.specs.View.{host_of, hosts_of}
use Rattle.c_tree.proofs.Public.{host_block}
use Rattle.c_show.proofs.put_hosts.+hosts.Goals as goal

pub put_host-returns-in_ok-put_hosts-in-Block : goal.put_host-returns-in_ok-put_hosts-in-Block
put_host-returns-in_ok-put_hosts-in-Block t c =
    let e : host_of c.args.host.now ≡ HostBlock c.in-Block.at (hosts_of c.in-Block.body.items) = ap host_of c.in-Block.is ∙ host_block c.in-Block.at c.in-Block.body in
    rw e (first_of (search rules, grind (arith, common_steps)))
