use Rattle.std.proofs.Common.{◌≡◌, ◌+◌, ◌-◌, ◌*◌, ℤ, pos, List, length, sym, ap, subst, ◌∙◌, arith}
use Rattle.std.proofs.lemmas.Grind.{common_steps}
use Rattle.std.specs.Vec.{with_items}
use Rattle.std.proofs.lemmas.List.{with_items_is, length-replicate}
use Rattle.chain_model.specs.Machine.{chain_start}
use Rattle.chain_model.specs.Slices.{slicing_of}
use Rattle.mesh_decl.specs.Mesh.{dat_count}
use Rattle.deep_halo.specs.Cells.{BlocksHold, first_in_last, taken_by_owners, is_earlier}
use Rattle.deep_halo.specs.Running.{StoresStand}
use Rattle.deep_halo.specs.Programs.{program_of_run, owners_of_run}
use Rattle.deep_halo.proofs.FirstStates.{dats_first, partials_long, first_stores, first_stands}
use Rattle.deep_halo.proofs.runs.first_state.Goals as goal

pub overflow_sub-width : goal.overflow_sub-width
overflow_sub-width c = dats_first (program_of_run c.args.program.now) (owners_of_run c.args.program.now) c.args.program.now.blocks.now.layout.now c.requires.is.sound.layout

pub returns : goal.returns
returns c =
    let b = program_of_run c.args.program.now in
    let o = owners_of_run c.args.program.now in
    let first = first_in_last b o.ranks in
    let new = c.start_owners.new.memory in
    let mem : (with_items c.args.memory new).items ≡ new = with_items_is c.args.memory new (c.start_owners.auto.memory ∙ c.deref_mut.ensures.len) in
    let holds : BlocksHold b o.ranks new (taken_by_owners b o (is_earlier (dat_count b.mesh)) first) =
    c.start_owners.ensures first (subst (λ (l : List ℤ). BlocksHold b o.ranks l first) (sym c.deref_mut.ensures.value) c.requires.holds) in
    let l = c.args.program.now.blocks.now.layout.now in
    let many : c.in_ok-count.count ≡ (l.cells - l.dats_end) * (o.ranks + 1) = grind (arith, common_steps, c.checked_mul.ensures, c.in_ok-count.ensures.value) in
    let long : length c.in_ok-vec.field-0.items ≡ c.in_ok-count.count = ap length (c.in_ok-vec.ensures.items_if_clones_equal (λ y e. e)) ∙ length-replicate c.in_ok-count.count (pos 0) in
    first_stands b o (with_items c.args.memory new) c.in_ok-vec.field-0 c.new.result
    (subst (λ (l : List ℤ). StoresStand b o l (chain_start (slicing_of b o))) (sym mem) (first_stores b o new holds))
    (long ∙ partials_long b o l c.in_ok-count.count c.requires.is.sound.layout many) c.new.ensures.items
