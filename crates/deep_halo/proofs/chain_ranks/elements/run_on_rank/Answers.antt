use Rattle.std.proofs.Common.{◌≡◌, ◌<◌, cond, nat_eq, List, map, Some, sym, ap, subst, ◌∙◌}
use Rattle.mesh_decl.specs.Mesh.{set_size}
use Rattle.mesh_decl.specs.Owners.{owner_of}
use Rattle.schedule_model.specs.Cells.{VarCell}
use Rattle.schedule_model.specs.Machine.{window_of}
use Rattle.bound_program.specs.declared.sites.Arg.{Arg}
use Rattle.bound_program.specs.Fits.{site_at}
use Rattle.run_model.specs.Kernels.{constants, constant_values, element_run}
use Rattle.run_model.specs.Programs.{item_at, loop_of}
use Rattle.run_model.specs.Variables.{of_vars}
use Rattle.rank_state.specs.Machine.{noted}
use Rattle.rank_state.specs.Stops.{stop_in}
use Rattle.bound_plan.specs.Variables.{reduces_at}
use Rattle.chain_model.specs.Machine.{view, ran}
use Rattle.chain_model.specs.Slices.{slicing_of}
use Rattle.deep_halo.specs.Placed.{HoldsWindows, EndsPlaced}
use Rattle.deep_halo.specs.Places.{stands_at}
use Rattle.deep_halo.specs.Cells.{BlocksHold}
use Rattle.deep_halo.specs.Globals.{with_globals}
use Rattle.deep_halo.specs.Dropping.{dropped}
use Rattle.deep_halo.specs.Merging.{merged_all}
use Rattle.deep_halo.specs.Running.{Runs}
use Rattle.deep_halo.specs.Loops.{program_of_loop, owners_of_loop}
use Rattle.deep_halo.proofs.chain_ranks.OneElement.{read, has_read, constants_seen, sees}
use Rattle.deep_halo.proofs.chain_ranks.Ran.{as_faulted, as_finished}
use Rattle.deep_halo.proofs.chain_ranks.elements.run_on_rank.Goals as goal

pub returns-in-Some : goal.returns-in-Some
returns-in-Some c st consts runs =
    let x = c.args.work.now in
    let b = program_of_loop x in
    let o = owners_of_loop x in
    let s = x.all.now.site in
    let e = c.args.element in
    let r = c.args.rank in
    let is = c.requires.is in
    let at : loop_of (item_at b x.item) ≡ s = sym is.site in
    let given = c.put_globals.new.memory in
    let seen = view (slicing_of b o) x.item r st in
    let le : e < set_size b.mesh (site_at b s).set = subst (λ n. e < set_size b.mesh n) is.loop.set c.requires.element in
    let put : BlocksHold b o.ranks given (with_globals o.ranks r (site_at b s).args (site_at b s).args (read b c.args.memory.now)) =
    subst (λ (xs : List Arg). BlocksHold b o.ranks given (with_globals o.ranks r xs xs (read b c.args.memory.now))) is.loop.args
    (c.put_globals.ensures (read b c.args.memory.now) (has_read b o.ranks c.args.memory.now runs.stores.count)) in
    let window : HoldsWindows b x.all.now.args.now e (stands_at b o (Some r)) given seen =
    subst (λ (xs : List Arg). HoldsWindows b xs e (stands_at b o (Some r)) given seen) (sym is.loop.args)
    (sees b o is.sound.fits is.sound.owners c.is_in_range.ensures c.windows_are_reached.ensures x.item s e r is.loop.there at le c.requires.rank st c.args.memory.now given runs.stores put) in
    let values : x.values.now ≡ constant_values b seen =
    consts ∙ constants_seen b c.constants_are_read.ensures.numbered is.sound.fits s is.loop.there st.variables
    ∙ ap (λ n. map (λ (v : VarCell). window_of (reduces_at b n v) (st.variables v)) (constants b)) (sym at) in
    let ends : EndsPlaced b (site_at b s).args e (stands_at b o (Some r)) given c.run_element-broken.new.memory seen c.run_element-broken.result (element_run b (site_at b s) e seen) =
    subst (λ (xs : List Arg). EndsPlaced b xs e (stands_at b o (Some r)) given c.run_element-broken.new.memory seen c.run_element-broken.result (element_run b (site_at b s) e seen)) is.loop.args
    (c.run_element-broken.ensures seen window values) in
    subst (λ n. Runs b o x.begun s c.run_element-broken.new.memory c.args.partials.now c.keep_fault.new.fault (ran (slicing_of b o) x.item r e (element_run b (site_at b n) e seen) st)) (sym at)
    (as_faulted b o is.sound.fits is.sound.owners c.is_in_range.ensures c.windows_are_reached.ensures x.item s e r x.begun is.loop.there at
    le c.requires.rank st c.args.memory.now given c.args.partials.now c.args.fault.now
    runs put (element_run b (site_at b s) e seen) c.run_element-broken.new.memory c.run_element-broken.result c.in-Some.broken c.keep_fault.new.fault ends c.in-Some.is
    (c.keep_fault.ensures ∙ ap (λ n. cond (nat_eq (owner_of o n e) r) (noted x.item e (Some c.in-Some.broken) (stop_in c.args.fault.now)) (stop_in c.args.fault.now)) is.loop.set))

pub returns-in-None : goal.returns-in-None
returns-in-None c st consts runs =
    let x = c.args.work.now in
    let b = program_of_loop x in
    let o = owners_of_loop x in
    let s = x.all.now.site in
    let e = c.args.element in
    let r = c.args.rank in
    let is = c.requires.is in
    let at : loop_of (item_at b x.item) ≡ s = sym is.site in
    let given = c.put_globals.new.memory in
    let left = c.run_element-broken.new.memory in
    let seen = view (slicing_of b o) x.item r st in
    let le : e < set_size b.mesh (site_at b s).set = subst (λ n. e < set_size b.mesh n) is.loop.set c.requires.element in
    let put : BlocksHold b o.ranks given (with_globals o.ranks r (site_at b s).args (site_at b s).args (read b c.args.memory.now)) =
    subst (λ (xs : List Arg). BlocksHold b o.ranks given (with_globals o.ranks r xs xs (read b c.args.memory.now))) is.loop.args
    (c.put_globals.ensures (read b c.args.memory.now) (has_read b o.ranks c.args.memory.now runs.stores.count)) in
    let window : HoldsWindows b x.all.now.args.now e (stands_at b o (Some r)) given seen =
    subst (λ (xs : List Arg). HoldsWindows b xs e (stands_at b o (Some r)) given seen) (sym is.loop.args)
    (sees b o is.sound.fits is.sound.owners c.is_in_range.ensures c.windows_are_reached.ensures x.item s e r is.loop.there at le c.requires.rank st c.args.memory.now given runs.stores put) in
    let values : x.values.now ≡ constant_values b seen =
    consts ∙ constants_seen b c.constants_are_read.ensures.numbered is.sound.fits s is.loop.there st.variables
    ∙ ap (λ n. map (λ (v : VarCell). window_of (reduces_at b n v) (st.variables v)) (constants b)) (sym at) in
    let ends : EndsPlaced b (site_at b s).args e (stands_at b o (Some r)) given left seen c.run_element-broken.result (element_run b (site_at b s) e seen) =
    subst (λ (xs : List Arg). EndsPlaced b xs e (stands_at b o (Some r)) given left seen c.run_element-broken.result (element_run b (site_at b s) e seen)) is.loop.args
    (c.run_element-broken.ensures seen window values) in
    let whole : BlocksHold b o.ranks left (read b left) = has_read b o.ranks left (c.run_element-broken.auto.memory ∙ put.count) in
    let parts : BlocksHold (of_vars b.vars) o.ranks c.args.partials.now (read (of_vars b.vars) c.args.partials.now) = has_read (of_vars b.vars) o.ranks c.args.partials.now runs.amounts.count in
    let drop : BlocksHold b o.ranks c.take_over.new.memory (dropped b o x.begun r e (site_at b s).args (read b left)) =
    subst (λ (xs : List Arg). BlocksHold b o.ranks c.take_over.new.memory (dropped b o x.begun r e xs (read b left))) is.loop.args (c.take_over.ensures.memory (read b left) whole) in
    let merge : BlocksHold (of_vars b.vars) o.ranks c.take_over.new.partials (cond (nat_eq (owner_of o (site_at b s).set e) r)
    (merged_all r (site_at b s).args (site_at b s).args (read b left) (read (of_vars b.vars) c.args.partials.now)) (read (of_vars b.vars) c.args.partials.now)) =
    subst (λ n. BlocksHold (of_vars b.vars) o.ranks c.take_over.new.partials (cond (nat_eq (owner_of o n e) r)
    (merged_all r (site_at b s).args (site_at b s).args (read b left) (read (of_vars b.vars) c.args.partials.now)) (read (of_vars b.vars) c.args.partials.now))) is.loop.set
    (subst (λ (xs : List Arg). BlocksHold (of_vars b.vars) o.ranks c.take_over.new.partials (cond (nat_eq (owner_of o x.all.now.set e) r)
    (merged_all r xs xs (read b left) (read (of_vars b.vars) c.args.partials.now)) (read (of_vars b.vars) c.args.partials.now))) is.loop.args
    (c.take_over.ensures.partials (read b left) (read (of_vars b.vars) c.args.partials.now) whole parts)) in
    subst (λ n. Runs b o x.begun s c.take_over.new.memory c.take_over.new.partials c.args.fault.now (ran (slicing_of b o) x.item r e (element_run b (site_at b n) e seen) st)) (sym at)
    (as_finished b o is.sound.fits is.sound.owners c.is_in_range.ensures c.windows_are_reached.ensures x.item s e r x.begun is.loop.there at
    le c.requires.rank st c.args.memory.now given c.args.partials.now c.args.fault.now
    runs put (element_run b (site_at b s) e seen) left c.take_over.new.memory c.take_over.new.partials c.run_element-broken.result ends c.in-None.is drop merge)
