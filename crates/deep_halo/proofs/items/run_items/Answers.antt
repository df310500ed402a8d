use Rattle.std.proofs.Common.{◌≡◌, ◌≤◌, ◌+◌, Option, Some, None, length, is_some, sym, ap, subst, arith}
use Rattle.std.proofs.lemmas.List.{length-map}
use Rattle.kernel_model.specs.declared.types.faults.KernelFault.{KernelFault}
use Rattle.bound_program.specs.Values.{item_of}
use Rattle.run_model.specs.Programs.{program_of}
use Rattle.rank_state.specs.declared.rank_memory.stop.Stop.{Stop}
use Rattle.chain_model.specs.Machine.{ChainState, chain_items, item_run}
use Rattle.chain_model.specs.Slices.{slicing_of}
use Rattle.deep_halo.specs.Programs.{program_of_run, owners_of_run}
use Rattle.deep_halo.specs.Stands.{Stands, Ends}
use Rattle.deep_halo.proofs.Machine.{one_more, stays}
use Rattle.deep_halo.proofs.items.run_items.Goals as goal

pub loop-item-init : goal.loop-item-init
loop-item-init c = c.requires.stands

pub run_item-requires-clause-stands : goal.run_item-requires-clause-stands
run_item-requires-clause-stands c =
    (chain_items (slicing_of (program_of_run c.args.program.now) (owners_of_run c.args.program.now)) c.loop-item.item, c.loop-item.invariant)

pub returns-in-Some : goal.returns-in-Some
returns-in-Some c =
    let b = program_of_run c.args.program.now in
    let o = owners_of_run c.args.program.now in
    let w = slicing_of b o in
    let k = c.loop-item.item in
    let after = c.run_item.new.state in
    let st = chain_items w k in
    let ends : Ends b o (k + 1) after (Some c.in-Some.stop) (item_run w k ((program_of b).kind k) st) =
    subst (λ (x : Option Stop). Ends b o (k + 1) after x (item_run w k ((program_of b).kind k) st)) c.in-Some.is (c.in_ok-stop.ensures.ends st c.loop-item.invariant) in
    let now : Ends b o (k + 1) after (Some c.in-Some.stop) (chain_items w (k + 1)) =
    subst (λ (x : ChainState KernelFault). Ends b o (k + 1) after (Some c.in-Some.stop) x) (one_more w k c.loop-item.invariant.going) ends in
    let count = length-map c.args.program.now.blocks.now.bound.now.trace.items item_of in
    let le : k + 1 ≤ length b.trace = omega (arith, count, c.args.program.now.blocks.now.bound.now.trace.ok.0, c.loop-item-test.true, c.len-item-end.ensures) in
    subst (λ (x : ChainState KernelFault). Ends b o (k + 1) after (Some c.in-Some.stop) x) (sym (stays w (k + 1) (length b.trace) le (ap is_some now.0))) now

pub loop-item-preserved : goal.loop-item-preserved
loop-item-preserved c =
    let b = program_of_run c.args.program.now in
    let o = owners_of_run c.args.program.now in
    let w = slicing_of b o in
    let k = c.loop-item.item in
    let after = c.run_item.new.state in
    let st = chain_items w k in
    let ends : Ends b o (k + 1) after None (item_run w k ((program_of b).kind k) st) =
    subst (λ (x : Option Stop). Ends b o (k + 1) after x (item_run w k ((program_of b).kind k) st)) c.in_default.is (c.in_ok-stop.ensures.ends st c.loop-item.invariant) in
    subst (λ (x : ChainState KernelFault). Stands b o (k + 1) after x) (one_more w k c.loop-item.invariant.going) ends

pub returns : goal.returns
returns c =
    let b = program_of_run c.args.program.now in
    let o = owners_of_run c.args.program.now in
    let count = length-map c.args.program.now.blocks.now.bound.now.trace.items item_of in
    let last : c.loop-item.item ≡ length b.trace = omega (
      arith,
      count,
      c.args.program.now.blocks.now.bound.now.trace.ok.0,
      c.loop-item-test.false,
      c.loop-item.auto.item-end,
      c.len-item-end.ensures,
    ) in
    subst (λ n. Stands b o n c.loop-item.state (chain_items (slicing_of b o) n)) last c.loop-item.invariant
