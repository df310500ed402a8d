use Rattle.std.proofs.Common.{◌≡◌, ◌<◌, ◌+◌, ℤ, List, Some, None, length, sym, ap, subst, ◌∙◌}
use Rattle.std.specs.Vec.{with_items}
use Rattle.std.proofs.lemmas.List.{with_items_is}
use Rattle.kernel_model.specs.declared.types.faults.KernelFault.{KernelFault}
use Rattle.schedule_model.specs.Program as program
use Rattle.schedule_model.specs.Sequential.{loop}
use Rattle.bound_program.specs.Fits.{ActFits}
use Rattle.bound_program.specs.Values.{ItemValue, Reduce, Ordered, Host, told_act_of}
use Rattle.run_model.specs.Hosts.{act_run}
use Rattle.run_model.specs.Programs.{item_at, kind_of, loop_of, act_in, program_of}
use Rattle.chain_model.specs.Machine.{ChainState, gathered}
use Rattle.chain_model.specs.Slices.{slicing_of}
use Rattle.deep_halo.specs.Running.{StoresStand}
use Rattle.deep_halo.specs.Hosts.{HostEnds}
use Rattle.deep_halo.specs.Orders.{OthersStay}
use Rattle.deep_halo.specs.Programs.{program_of_run, owners_of_run}
use Rattle.deep_halo.specs.Stands.{Stands, Ends}
use Rattle.deep_halo.proofs.Joining.{item_is, loop_other, host_other, stops, none_before, gathered_stands, does_reduce, does_loop, does_host, loop_ends, host_goes, host_halts}
use Rattle.deep_halo.proofs.items.join.Goals as goal

pub returns-then-is_some : goal.returns-then-is_some
returns-then-is_some c = record {
  ends = λ st stands.
      stops (program_of_run c.args.program.now) (owners_of_run c.args.program.now) c.args.item c.one_fault_is_enough.ensures.kept c.args.state.now st stands
      c.requires.kind c.if-is_some.ensures;
}

pub loop_of-all-requires-clause-site : goal.loop_of-all-requires-clause-site
loop_of-all-requires-clause-site c =
    let b = program_of_run c.args.program.now in
    let k = c.args.item in
    let items = c.args.program.now.blocks.now.bound.now.trace.items in
    let is : item_at b k ≡ Ordered c.in-Ordered.site =
    item_is items k c.index.result.now _ c.requires.item c.index.ensures c.in-Ordered.is in
    subst (λ n. n < length b.sites) (ap loop_of is) (c.items_are_there.ensures.loops b k c.requires.is.sound.fits (ap (λ (i : ItemValue). program.is_loop (kind_of i)) is))

pub run_ordered-requires-clause-locals : goal.run_ordered-requires-clause-locals
run_ordered-requires-clause-locals c = c.loop_of-all.ensures.room (length c.args.locals.now) c.requires.room.slots

pub run_host-requires-clause-fits : goal.run_host-requires-clause-fits
run_host-requires-clause-fits c =
    let b = program_of_run c.args.program.now in
    let k = c.args.item in
    let items = c.args.program.now.blocks.now.bound.now.trace.items in
    let is : item_at b k ≡ Host (told_act_of c.in-Host.act) =
    item_is items k c.index.result.now _ c.requires.item c.index.ensures c.in-Host.is in
    subst (λ a. ActFits b a) (ap act_in is) (c.items_are_there.ensures.acts b k c.requires.is.sound.fits)

pub returns-in-Reduce : goal.returns-in-Reduce
returns-in-Reduce c =
    let b = program_of_run c.args.program.now in
    let o = owners_of_run c.args.program.now in
    let k = c.args.item in
    let items = c.args.program.now.blocks.now.bound.now.trace.items in
    let is : item_at b k ≡ Reduce c.in-Reduce.site =
    item_is items k c.index.result.now _ c.requires.item c.index.ensures c.in-Reduce.is in record {
      ends = λ st stands.
          let none = none_before b o k c.one_fault_is_enough.ensures.kept c.args.state.now st stands c.if-is_some.ensures in
          subst (λ (y : ChainState KernelFault). Stands b o (k + 1) c.run_reduce.new.state y) (sym (does_reduce b o k st none (ap kind_of is))) (c.run_reduce.ensures st stands);
    }

pub returns-in-Ordered : goal.returns-in-Ordered
returns-in-Ordered c =
    let b = program_of_run c.args.program.now in
    let o = owners_of_run c.args.program.now in
    let k = c.args.item in
    let x = c.args.state.now in
    let sound = c.requires.is.sound in
    let items = c.args.program.now.blocks.now.bound.now.trace.items in
    let is : item_at b k ≡ Ordered c.in-Ordered.site =
    item_is items k c.index.result.now _ c.requires.item c.index.ensures c.in-Ordered.is in
    let new = c.run_ordered.new.memory in
    let memory = with_items x.memory new in
    let held : memory.items ≡ new = with_items_is x.memory new (c.run_ordered.auto.memory ∙ c.deref_mut.ensures.len) in
    let others : OthersStay b o x.memory.items new = subst (λ (l : List ℤ). OthersStay b o l new) c.deref_mut.ensures.value c.run_ordered.ensures.others in record {
      ends = λ st stands.
          let none = none_before b o k c.one_fault_is_enough.ensures.kept x st stands c.if-is_some.ensures in
          let stand : StoresStand b o c.deref_mut.result.now st = subst (λ (l : List ℤ). StoresStand b o l st) (sym c.deref_mut.ensures.value) stands.stores in
          subst (λ (y : ChainState KernelFault). Ends b o (k + 1) (record x { memory = memory }) c.run_ordered.result y) (sym (does_loop b o k st none (ap kind_of is)))
          (loop_ends b o c.is_in_range.ensures sound.owners sound.fits c.items_are_there.ensures.loops k c.requires.kind (loop_other (item_at b k) c.in-Ordered.site is) x st stands
          memory new c.run_ordered.result (loop (program_of b) k (program.elements (program_of b) k) (gathered (slicing_of b o) st)) held others
          (c.run_ordered.ensures.ends (gathered (slicing_of b o) st) (gathered_stands b o c.is_in_range.ensures sound.owners st c.deref_mut.result.now stand)));
    }

pub returns-in-Ok : goal.returns-in-Ok
returns-in-Ok c =
    let b = program_of_run c.args.program.now in
    let o = owners_of_run c.args.program.now in
    let k = c.args.item in
    let x = c.args.state.now in
    let sound = c.requires.is.sound in
    let items = c.args.program.now.blocks.now.bound.now.trace.items in
    let is : item_at b k ≡ Host (told_act_of c.in-Host.act) =
    item_is items k c.index.result.now _ c.requires.item c.index.ensures c.in-Host.is in
    let old = c.deref_mut-in-Host.result.now in
    let new = c.run_host.new.memory in
    let memory = with_items x.memory new in
    let held : memory.items ≡ new = with_items_is x.memory new (c.run_host.auto.memory ∙ c.deref_mut-in-Host.ensures.len) in
    let count : length new ≡ length x.memory.items = c.run_host.auto.memory ∙ ap length c.deref_mut-in-Host.ensures.value in
    let r = c.in_ok-run_host-in-Host.field-0 in record {
      ends = λ st stands.
          let none = none_before b o k c.one_fault_is_enough.ensures.kept x st stands c.if-is_some.ensures in
          let stand : StoresStand b o old st = subst (λ (l : List ℤ). StoresStand b o l st) (sym c.deref_mut-in-Host.ensures.value) stands.stores in
          let h = act_run b (gathered (slicing_of b o) st) (act_in (item_at b k)) in
          let ends : HostEnds b o x.memory.items new x.out.items c.run_host.new.out.items r h =
          subst (λ (l : List ℤ). HostEnds b o l new x.out.items c.run_host.new.out.items r h) c.deref_mut-in-Host.ensures.value
          (subst (λ a. HostEnds b o old new x.out.items c.run_host.new.out.items r (act_run b (gathered (slicing_of b o) st) a)) (sym (ap act_in is))
          (c.in_ok-run_host-in-Host.ensures (gathered (slicing_of b o) st) (gathered_stands b o c.is_in_range.ensures sound.owners st old stand))) in
          subst (λ (y : ChainState KernelFault). Stands b o (k + 1) (record x { memory = memory; out = c.run_host.new.out }) y) (sym (does_host b o k st none (ap kind_of is)))
          (host_goes b o c.is_in_range.ensures sound.owners sound.fits c.items_are_there.ensures.loops k c.requires.kind (host_other (item_at b k) (told_act_of c.in-Host.act) is) x st stands
          c.in-Ok.field-0 memory c.run_host.new.out new r h held count c.in-Ok.is ends);
    }

pub returns-in-Err : goal.returns-in-Err
returns-in-Err c =
    let b = program_of_run c.args.program.now in
    let o = owners_of_run c.args.program.now in
    let k = c.args.item in
    let x = c.args.state.now in
    let sound = c.requires.is.sound in
    let items = c.args.program.now.blocks.now.bound.now.trace.items in
    let is : item_at b k ≡ Host (told_act_of c.in-Host.act) =
    item_is items k c.index.result.now _ c.requires.item c.index.ensures c.in-Host.is in
    let old = c.deref_mut-in-Host.result.now in
    let new = c.run_host.new.memory in
    let out = c.run_host.new.out.items in
    let r = c.in_ok-run_host-in-Host.field-0 in record {
      ends = λ st stands.
          let none = none_before b o k c.one_fault_is_enough.ensures.kept x st stands c.if-is_some.ensures in
          let stand : StoresStand b o old st = subst (λ (l : List ℤ). StoresStand b o l st) (sym c.deref_mut-in-Host.ensures.value) stands.stores in
          let h = act_run b (gathered (slicing_of b o) st) (act_in (item_at b k)) in
          let ends : HostEnds b o x.memory.items new x.out.items out r h =
          subst (λ (l : List ℤ). HostEnds b o l new x.out.items out r h) c.deref_mut-in-Host.ensures.value
          (subst (λ a. HostEnds b o old new x.out.items out r (act_run b (gathered (slicing_of b o) st) a)) (sym (ap act_in is))
          (c.in_ok-run_host-in-Host.ensures (gathered (slicing_of b o) st) (gathered_stands b o c.is_in_range.ensures sound.owners st old stand))) in
          subst (λ (y : ChainState KernelFault). (y.stop ≡ Some (record { item = k; element = None; fault = c.in-Err.fault })) × (y.output ≡ out)) (sym (does_host b o k st none (ap kind_of is)))
          (host_halts b o c.is_in_range.ensures sound.owners sound.fits c.items_are_there.ensures.loops k c.requires.kind (host_other (item_at b k) (told_act_of c.in-Host.act) is) x st stands
          c.in-Err.fault out new r h c.in-Err.is ends);
    }
