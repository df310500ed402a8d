use Rattle.std.proofs.Common.{◌≡◌, ◌+◌, suc, ℤ, List, Some, length, refl, sym, ap, subst, ◌∙◌, arith}
use Rattle.std.specs.Vec.{with_items}
use Rattle.std.proofs.lemmas.List.{with_items_is}
use Rattle.std.proofs.lemmas.Option.{same_Some}
use Rattle.run_model.specs.Variables.{of_vars}
use Rattle.deep_halo.specs.Places.{all_cells}
use Rattle.chain_model.specs.Machine.{supplied, ranks_run}
use Rattle.chain_model.specs.Slices.{slicing_of}
use Rattle.deep_halo.specs.Running.{StoresStand, AreHeld, PartialsStand, Runs}
use Rattle.deep_halo.specs.Loops.{HasConstants}
use Rattle.deep_halo.proofs.chain_ranks.OneElement.{read, has_read}
use Rattle.deep_halo.specs.Programs.{program_of_run, owners_of_run}
use Rattle.deep_halo.specs.Stands.{free_loop, Stands}
use Rattle.deep_halo.specs.declared.state.State.{State}
use Rattle.deep_halo.proofs.FreeLoops.{free_there, free_constants, all_units, early_recorded, early_fault, started, IsUnderWay, supplied_stays, ranks_stay}
use Rattle.deep_halo.proofs.items.run_free.Goals as goal

pub loop_of-all-requires-clause-site : goal.loop_of-all-requires-clause-site
loop_of-all-requires-clause-site c = free_there (program_of_run c.args.program.now) c.requires.is.sound.fits c.items_are_there.ensures.loops c.args.item c.args.site c.requires.site

pub run_ranks-requires-clause-locals : goal.run_ranks-requires-clause-locals
run_ranks-requires-clause-locals c = c.loop_of-all.ensures.room (length c.args.locals.now) c.requires.room.slots

pub returns : goal.returns
returns c = record {
  runs = λ st stands.
      let b = program_of_run c.args.program.now in
      let o = owners_of_run c.args.program.now in
      let sl = slicing_of b o in
      let k = c.args.item in
      let s = c.args.site in
      let fits = c.requires.is.sound.fits in
      let is = c.requires.site in
      let now = c.args.state.now in
      let out = now.out.items in
      let j = c.begin_chain-begun.result in
      let site = c.loop_of-all.result.site in
      let mem1 = c.begin_chain-begun.new.memory in
      let parts1 = c.put_units.new.partials in
      let mem2 = c.run_ranks.new.memory in
      let parts2 = c.run_ranks.new.partials in
      let st1 = supplied sl k st in
      let st2 = ranks_run sl k o.ranks st1 in
      let vmem1 = with_items now.memory mem1 in
      let vparts1 = with_items now.partials parts1 in
      let m1 : vmem1.items ≡ mem1 = with_items_is now.memory mem1 (c.begin_chain-begun.auto.memory ∙ c.deref_mut.ensures.len) in
      let p1 : vparts1.items ≡ parts1 = with_items_is now.partials parts1 (c.put_units.auto.partials ∙ c.deref_mut-2.ensures.len) in
      let m2 : (with_items vmem1 mem2).items ≡ mem2 = with_items_is vmem1 mem2 (c.run_ranks.auto.memory ∙ c.deref_mut-3.ensures.len) in
      let p2 : (with_items vparts1 parts2).items ≡ parts2 = with_items_is vparts1 parts2 (c.run_ranks.auto.partials ∙ c.deref_mut-4.ensures.len) in
      let stand1 : StoresStand b o mem1 st1 = c.begin_chain-begun.ensures.stores st (subst (λ (l : List ℤ). StoresStand b o l st) (sym c.deref_mut.ensures.value) stands.stores) stands.held in
      let held1 : AreHeld b o j st1 = c.begin_chain-begun.ensures.held st stands.held in
      let count1 : length parts1 ≡ all_cells (of_vars b.vars) o.ranks = c.put_units.auto.partials ∙ ap length c.deref_mut-2.ensures.value ∙ stands.count in
      let md : c.deref.result.now ≡ mem1 = c.deref.ensures.value ∙ m1 in
      let standd : StoresStand b o c.deref.result.now st1 = subst (λ (l : List ℤ). StoresStand b o l st1) (sym md) stand1 in
      let consts : HasConstants b c.read_constants.new.values st1 = free_constants b o c.constants_are_read.ensures.numbered fits c.deref.result.now c.read_constants.new.values st1 standd
      (c.read_constants.ensures (read b c.deref.result.now) (has_read b o.ranks c.deref.result.now standd.count)) in
      let units = all_units b fits c.items_are_there.ensures.loops k s is st stands.others stands.none in
      let runs1 : Runs b o j site mem1 parts1 now.fault st1 = started b o k j site mem1 parts1 now.fault st stand1 held1 count1 c.put_units.ensures units stands.kept in
      let runs1a : Runs b o j site c.deref_mut-3.result.now parts1 now.fault st1 = subst (λ (l : List ℤ). Runs b o j site l parts1 now.fault st1) (sym (c.deref_mut-3.ensures.value ∙ m1)) runs1 in
      let runs1b : Runs b o j site c.deref_mut-3.result.now c.deref_mut-4.result.now now.fault st1 =
      subst (λ (l : List ℤ). Runs b o j site c.deref_mut-3.result.now l now.fault st1) (sym (c.deref_mut-4.ensures.value ∙ p1)) runs1a
      in
      let runs2 : Runs b o j site mem2 parts2 c.run_ranks.new.fault st2 = c.run_ranks.ensures st1 consts runs1b in
      let under : IsUnderWay b o k s out st = record {
        others = λ r n v ne. units r n v;
        none = stands.none;
        early = early_recorded k now.fault st.faults stands.kept stands.early;
        elements = stands.elements;
        output = stands.output;
        going = stands.going;
      } in
      let under2 : IsUnderWay b o k s out st2 = ranks_stay b o k s out is o.ranks st1 (supplied_stays b o k s out st under) in
      let after : State = record { memory = with_items vmem1 mem2; partials = with_items vparts1 parts2; fault = c.run_ranks.new.fault; begun = Some j; out = now.out } in
      subst (λ n. Stands b o n after st2) (let q : suc k ≡ k + 1 = omega arith in q) (record {
        stores = subst (λ (l : List ℤ). StoresStand b o l st2) (sym m2) runs2.stores;
        held = λ r lr d y ld ly. runs2.held r d y lr ld ly;
        begun = (c.begin_chain-begun.ensures.free, c.begin_chain-begun.ensures.begins);
        chain = λ h. refl;
        count = ap length p2 ∙ runs2.amounts.count;
        amounts = λ n h. subst (λ m. PartialsStand b o m after.partials.items st2) (c.loop_of-all.ensures.site ∙ same_Some s n (sym (ap free_loop is) ∙ h))
            (subst (λ (l : List ℤ). PartialsStand b o site l st2) (sym p2) runs2.amounts);
        others = λ r n v ne. under2.others r n v (λ q. ne (ap free_loop is ∙ ap Some (sym q)));
        none = under2.none;
        kept = runs2.kept;
        early = early_fault k c.run_ranks.new.fault st2.faults runs2.kept under2.early;
        elements = under2.elements;
        output = under2.output;
        going = under2.going;
      });
}
