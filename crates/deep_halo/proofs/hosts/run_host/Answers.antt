use Rattle.std.proofs.Common.{◌≡◌, ◌+◌, ◌-◌, ◌*◌, ℕ, List, map, length, drop, take, sym, ap, subst, ◌∙◌, arith}
use Rattle.bound_program.specs.Values.{told_act_of, var_of, VarValue}
use Rattle.bound_program.specs.Fits.{ActFits}
use Rattle.run_model.specs.Memory.{memory_length, Holds}
use Rattle.run_model.specs.Variables.{of_vars, VarsBegin}
use Rattle.deep_halo.specs.Programs.{program_of_run, owners_of_run}
use borrow.Rule.Slice.PartMut.{put_mid}
use Rattle.std.proofs.lemmas.Result.{IfOk-weaker}
use Rattle.kernel_model.specs.declared.types.faults.KernelFault.{KernelFault}
use Rattle.schedule_model.specs.Cells.{Store}
use Rattle.schedule_model.specs.Program.{Hosted}
use Rattle.run_model.specs.Hosts.{act_run}
use Rattle.run_model.specs.Acts.{ActEnds}
use Rattle.deep_halo.specs.Orders.{OwnersStand}
use Rattle.deep_halo.specs.Hosts.{HostEnds}
use Rattle.deep_halo.proofs.HostVariables.{plain_fits, same_act, first_within, not_print, variables_last, first_at, tail_is, tail_holds, host_ends}
use Rattle.deep_halo.proofs.hosts.run_host.Goals as goal

pub overflow_add-first : goal.overflow_add-first
overflow_add-first c =
    let b = program_of_run c.args.program.now in
    let o = owners_of_run c.args.program.now in
    record { fits = omega (arith, first_at b o c.args.program.now.blocks.now.layout.now c.requires.is.sound.layout, c.requires.is.sound.room, variables_last b o) }

pub offset_bounds-memory-first : goal.offset_bounds-memory-first
offset_bounds-memory-first c =
    let b = program_of_run c.args.program.now in
    let o = owners_of_run c.args.program.now in
    let first = first_at b o c.args.program.now.blocks.now.layout.now c.requires.is.sound.layout in
    omega (arith, first, first_within b o _ first c.args.memory.now c.requires.memory)

pub slice_bounds-run_act-count : goal.slice_bounds-run_act-count
slice_bounds-run_act-count c =
    let b = program_of_run c.args.program.now in
    let o = owners_of_run c.args.program.now in
    first_within b o _ (first_at b o c.args.program.now.blocks.now.layout.now c.requires.is.sound.layout) c.args.memory.now c.requires.memory

pub slice_bounds-run_act-start : goal.slice_bounds-run_act-start
slice_bounds-run_act-start c =
    let b = program_of_run c.args.program.now in
    let o = owners_of_run c.args.program.now in
    first_within b o _ (first_at b o c.args.program.now.blocks.now.layout.now c.requires.is.sound.layout) c.args.memory.now c.requires.memory

pub run_act-requires : goal.run_act-requires
run_act-requires c =
    let b = program_of_run c.args.program.now in
    let o = owners_of_run c.args.program.now in
    let vars : b.vars ≡ map var_of c.deref-2.result.now = ap (map var_of) (sym c.deref-2.ensures.value) in
    record {
      begins = subst (λ (l : List VarValue). VarsBegin l c.deref-3.result.now) vars (subst (VarsBegin b.vars) (sym c.deref-3.ensures.value) c.requires.is.sound.layout.vars);
      fits = subst (λ (l : List VarValue). ActFits (of_vars l) (told_act_of c.args.act.now)) vars
          (plain_fits b (told_act_of c.args.act.now) (not_print c.args.act.now c.deref.result.now c.deref.ensures c.in_default.not-Print) c.requires.fits);
      cells = tail_is b o _ (first_at b o c.args.program.now.blocks.now.layout.now c.requires.is.sound.layout) c.args.memory.now
          c.requires.memory ∙ ap (λ (l : List VarValue). memory_length (of_vars l)) vars;
    }

pub returns : goal.returns
returns c =
    let b = program_of_run c.args.program.now in
    let o = owners_of_run c.args.program.now in
    let a = told_act_of c.args.act.now in
    let old = c.args.memory.now in
    let cells = c.run_act.new.cells in
    let said = c.args.out.now.items in
    let says = c.run_act.new.out.items in
    let l = c.args.program.now.blocks.now.layout.now in
    let first : ℕ = l.cells * o.ranks + l.dats_end in
    let at = first_at b o l c.requires.is.sound.layout in
    let tail = take (length old - first) (drop first old) in
    let vars : map var_of c.deref-2.result.now ≡ b.vars = ap (map var_of) c.deref-2.ensures.value in
    let plain = not_print c.args.act.now c.deref.result.now c.deref.ensures c.in_default.not-Print in
    IfOk-weaker c.run_act.result
    (λ r. (s : Store) → Holds (of_vars (map var_of c.deref-2.result.now)) tail s
    → ActEnds (of_vars (map var_of c.deref-2.result.now)) cells s said says r (act_run (of_vars (map var_of c.deref-2.result.now)) s a))
    (λ r. (s : Store) → OwnersStand b o old s → HostEnds b o old (put_mid first (length old - first) old cells) said says r (act_run b s a))
    (λ r ends s stand.
    host_ends b o first at old c.requires.memory cells s said says r (act_run b s a)
    (subst (λ (x : Hosted KernelFault). ActEnds (of_vars b.vars) cells s said says r x) (same_act b s a plain)
    (subst (λ (vs : List VarValue). ActEnds (of_vars vs) cells s said says r (act_run (of_vars vs) s a)) vars
    (ends s (subst (λ (vs : List VarValue). Holds (of_vars vs) tail s) (sym vars) (tail_holds b o first at old c.requires.memory s stand))))))
    c.run_act.ensures
