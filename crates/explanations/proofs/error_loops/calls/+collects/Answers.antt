use Rattle.std.proofs.Common.{◌≡◌, ◌++◌, map, ap, sym, subst, ◌∙◌}
use Rattle.std.specs.Prelude.{OnOk}
use Rattle.c_tree.specs.Tree.{HostBlock}
use Rattle.c_tree.specs.View.{host_of, hosts_of}
use Rattle.c_tree.proofs.Public.{host_block}
use Rattle.explanations.specs.Calls.{call_of, loops_of, all_loops_of}
use Rattle.explanations.proofs.error_loops.calls.+collects.Goals as goal

pub collect-returns-in-Block : goal.collect-returns-in-Block
collect-returns-in-Block t c =
    let e : host_of c.args.host.now ≡ HostBlock c.in-Block.at (hosts_of c.in-Block.body.items) = ap host_of c.in-Block.is ∙ host_block c.in-Block.at c.in-Block.body in
    subst (λ z. OnOk c.collect_all.result (map call_of c.collect_all.new.calls.items ≡ map call_of c.args.calls.now.items ++ z))
    (ap (λ z. all_loops_of (hosts_of z)) c.deref.ensures.value ∙ ap loops_of (sym e)) c.collect_all.ensures
