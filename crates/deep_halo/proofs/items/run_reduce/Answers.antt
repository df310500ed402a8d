use Rattle.std.proofs.Common.{◌≡◌, ◌<◌, ◌+◌, suc, ℤ, List, length, sym, ap, subst, ◌∙◌, arith}
use Rattle.std.specs.Vec.{with_items}
use Rattle.std.proofs.lemmas.Bool.{false≢true}
use Rattle.std.proofs.lemmas.List.{with_items_is}
use Rattle.std.proofs.lemmas.Option.{same_Some, none-some}
use Rattle.schedule_model.specs.Machine.{unit_at}
use Rattle.schedule_model.specs.Program.{is_free}
use Rattle.bound_program.specs.declared.sites.Arg.{Arg}
use Rattle.bound_program.specs.Values.{ItemValue}
use Rattle.bound_program.specs.Fits.{site_at}
use Rattle.run_model.specs.Programs.{kind_of}
use Rattle.run_model.specs.Variables.{of_vars}
use Rattle.chain_model.specs.Machine.{reduced}
use Rattle.chain_model.specs.Slices.{slicing_of}
use Rattle.deep_halo.specs.Cells.{BlocksHold}
use Rattle.deep_halo.specs.Merging.{changed_all}
use Rattle.deep_halo.specs.Running.{StoresStand, PartialsStand}
use Rattle.deep_halo.specs.Partials.{sums_of}
use Rattle.deep_halo.proofs.chain_ranks.OneElement.{read, has_read}
use Rattle.deep_halo.specs.Programs.{program_of_run, owners_of_run}
use Rattle.deep_halo.specs.Stands.{free_loop, Stands}
use Rattle.deep_halo.specs.declared.state.State.{State}
use Rattle.deep_halo.proofs.Reduces.{loop_before, loop_there, reduced_stores, reduced_units, early_more}
use Rattle.deep_halo.proofs.items.run_reduce.Goals as goal

pub loop_of-all-requires-clause-site : goal.loop_of-all-requires-clause-site
loop_of-all-requires-clause-site c = loop_there (program_of_run c.args.program.now) c.requires.is.sound.fits c.items_are_there.ensures.loops c.args.item c.args.site c.requires.site

pub returns : goal.returns
returns c st stands =
    let b = program_of_run c.args.program.now in
    let o = owners_of_run c.args.program.now in
    let k = c.args.item in
    let s = c.args.site in
    let fits = c.requires.is.sound.fits in
    let is = c.requires.site in
    let ls : s < length b.sites = loop_there b fits c.items_are_there.ensures.loops k s is in
    let all = c.loop_of-all.result in
    let old = c.deref_mut.result.now in
    let parts = c.deref.result.now in
    let new = c.reduce_all.new.memory in
    let stand : StoresStand b o old st = subst (λ (l : List ℤ). StoresStand b o l st) (sym c.deref_mut.ensures.value) stands.stores in
    let amounts : PartialsStand b o s parts st = subst (λ (l : List ℤ). PartialsStand b o s l st) (sym c.deref.ensures.value) (stands.amounts s (loop_before b fits k s is)) in
    let args : all.args.now ≡ (site_at b s).args = c.loop_of-all.ensures.is.args ∙ ap (λ n. (site_at b n).args) c.loop_of-all.ensures.site in
    let sums : BlocksHold b o.ranks new (changed_all (sums_of o.ranks (read (of_vars b.vars) parts)) o.ranks (site_at b s).args (site_at b s).args (read b old)) =
    subst (λ (xs : List Arg). BlocksHold b o.ranks new (changed_all (sums_of o.ranks (read (of_vars b.vars) parts)) o.ranks xs xs (read b old))) args
    (c.reduce_all.ensures (read b old) (read (of_vars b.vars) parts) (has_read b o.ranks old stand.count) (has_read (of_vars b.vars) o.ranks parts amounts.count)) in
    let units = reduced_units b o fits k s is ls st old new parts stand amounts sums
    (λ r n v ne. stands.others r n v (λ q. ne (same_Some n s (sym q ∙ loop_before b fits k s is)))) in
    let after : State = record c.args.state.now { memory = with_items c.args.state.now.memory new } in
    let mem : after.memory.items ≡ new = with_items_is c.args.state.now.memory new (c.reduce_all.auto.memory ∙ c.deref_mut.ensures.len) in
    subst (λ n. Stands b o n after (reduced (slicing_of b o) k st)) (let q : suc k ≡ k + 1 = omega arith in q) (record {
      stores = subst (λ (l : List ℤ). StoresStand b o l (reduced (slicing_of b o) k st)) (sym mem) (reduced_stores b o fits k s is ls st old new parts stand amounts sums);
      held = stands.held;
      begun = stands.begun;
      chain = λ h. absurd (false≢true (sym (ap (λ (i : ItemValue). is_free (kind_of i)) is) ∙ h));
      count = stands.count;
      amounts = λ n h. absurd (none-some n (sym (ap free_loop is) ∙ h));
      others = λ r n v ne. units r n v;
      none = λ r n v e. units r n v ∙ ap unit_at e;
      kept = stands.kept;
      early = early_more k c.args.state.now.fault stands.early;
      elements = stands.elements;
      output = stands.output;
      going = stands.going;
    })
