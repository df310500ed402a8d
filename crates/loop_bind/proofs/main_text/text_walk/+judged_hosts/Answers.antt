use Rattle.std.proofs.Common.{◌≡◌, ◌∙◌, sym, ap, length, ℕ, List, rules, arith}
use Rattle.std.proofs.lemmas.Grind.{common_steps}
use Rattle.std.proofs.lemmas.Result.{err_from_is_err_and}
use Rattle.c_tree.specs.declared.hosts.Host.{Host}
use Rattle.c_tree.specs.Tree.{HostBlock}
use Rattle.c_tree.specs.View.{host_of, hosts_of}
use Rattle.c_tree.proofs.Public.{host_block}
use Rattle.bound_program.specs.declared.trace.steps.Step.{Step as StepCode}
use Rattle.main_declarations.specs.Names.{cut, scope_of}
use Rattle.bound_program.specs.Steps.{Step, Block, followed, one_step}
use Rattle.loop_bind.specs.Text.{opened}
use Rattle.bound_program.specs.Unrolling.{steps_of}
use Rattle.main_declarations.specs.Walks.{walked}
use Rattle.loop_bind.proofs.main_text.KeptSets.{host_known, judged_known}
use Rattle.loop_bind.proofs.main_text.HostTurns.{block_stops, block_done}
use Rattle.loop_bind.proofs.main_text.text_walk.+judged_hosts.Goals as goal

pub judged_host-returns-in_err-judged_hosts-in-Block :
    goal.judged_host-returns-in_err-judged_hosts-in-Block
judged_host-returns-in_err-judged_hosts-in-Block t c =
    let s = c.args.source.now in
    let hs = hosts_of c.deref-in-Block.result.now in
    let a = walked c.args.k.now c.args.steps.now.items in
    let b = walked c.args.k.now c.new-inner.result.items in
    let e : host_of c.args.host.now ≡ HostBlock c.in-Block.at hs =
    ap host_of c.in-Block.is ∙ host_block c.in-Block.at c.in-Block.body ∙ ap (λ (xs : List Host). HostBlock c.in-Block.at (hosts_of xs)) (sym c.deref-in-Block.ensures.value) in
    let o : b ≡ opened s.places.now s.consts.now s.entries.now.entries a = ap (λ (xs : List StepCode). walked c.args.k.now xs) c.new-inner.ensures.items in
    let p = err_from_is_err_and c.from_residual.result c.from_residual.ensures.1 in
    rw (e, p.1, p.2) (block_stops s.places.now s.consts.now s.entries.now.entries a b c.args.spot c.nested.result c.in-Block.at hs o
    c.nested.ensures c.in_err-judged_hosts-in-Block.field-0.0 a a c.in_err-judged_hosts-in-Block.ensures)

pub judged_host-returns-in_ok-add_step-in-Block : goal.judged_host-returns-in_ok-add_step-in-Block
judged_host-returns-in_ok-add_step-in-Block t c =
    let s = c.args.source.now in
    let hs = hosts_of c.deref-in-Block.result.now in
    let a = walked c.args.k.now c.args.steps.now.items in
    let b = walked c.args.k.now c.new-inner.result.items in
    let d = walked c.judged_hosts.new.k c.judged_hosts.new.steps.items in
    let told = c.args.k.now.names.told in
    let e : host_of c.args.host.now ≡ HostBlock c.in-Block.at hs =
    ap host_of c.in-Block.is ∙ host_block c.in-Block.at c.in-Block.body ∙ ap (λ (xs : List Host). HostBlock c.in-Block.at (hosts_of xs)) (sym c.deref-in-Block.ensures.value) in
    let o : b ≡ opened s.places.now s.consts.now s.entries.now.entries a = ap (λ (xs : List StepCode). walked c.args.k.now xs) c.new-inner.ensures.items in
    let names : cut (length a.declared.names.own) told d.declared.names ≡ scope_of c.cut.new.self =
    ap (λ (n : ℕ). cut n told d.declared.names) (sym c.len-known.ensures.len) ∙ sym c.cut.ensures in
    let steps : followed a.steps (one_step (Block d.steps)) ≡ steps_of c.add_step.new.steps.items =
    ap (λ (x : Step). followed a.steps (one_step x)) (sym c.block.ensures) ∙ sym c.in_ok-add_step-in-Block.ensures in
    rw e (block_done s.places.now s.consts.now s.entries.now.entries a b c.args.spot c.nested.result c.in-Block.at hs o c.nested.ensures d
    (scope_of c.cut.new.self) (steps_of c.add_step.new.steps.items) c.in_ok-judged_hosts-in-Block.ensures names steps)

pub judged_part-returns-clause-sets : goal.judged_part-returns-clause-sets
judged_part-returns-clause-sets t c =
    let s = c.args.source.now in
    judged_known s.places.now s.consts.now s.entries.now.entries (walked c.args.k.now c.args.steps.now.items) c.args.spot
    (host_of c.args.host.now) c.judged_host.new.k c.judged_host.new.steps.items c.judged_host.result c.judged_host.ensures c.requires

pub judged_hosts-loop-host-preserved : goal.judged_hosts-loop-host-preserved
judged_hosts-loop-host-preserved t c = record {
  judged = first_of (search rules, grind (arith, common_steps));
  sets = host_known c.args.source.now.places.now c.args.source.now.consts.now c.args.source.now.entries.now.entries
      (walked c.loop-host.k c.loop-host.steps.items) c.args.spot (host_of c.host-item.result) c.judged_host.new.k
      c.judged_host.new.steps.items c.in_ok-judged_host.ensures c.loop-host.invariant.sets;
}
