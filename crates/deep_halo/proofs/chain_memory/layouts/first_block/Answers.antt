use Rattle.std.proofs.Common.{◌≡◌, ◌<◌, ◌≤◌, ◌++◌, flat_map, map, length, get_or, ap, subst, ◌∙◌, arith}
use Rattle.std.proofs.lemmas.List.{length-map, take_all}
use Rattle.mesh_decl.specs.Mesh.{dat_count, dat_values}
use Rattle.bound_program.specs.Values.{VarValue, var_of, no_var, bound_of}
use Rattle.run_model.specs.Windows.{numbers}
use Rattle.run_model.specs.Memory.{first_memory}
use Rattle.deep_halo.proofs.chain_memory.Starting.{pushed, more_taken, var_here}
use Rattle.deep_halo.proofs.chain_memory.layouts.first_block.Goals as goal

pub loop-dat-preserved : goal.loop-dat-preserved
loop-dat-preserved c =
    pushed (dat_values (bound_of c.args.bound.now).mesh) c.loop-dat.dat c.loop-dat.block.items c.extend_from_slice.new.self.items
    c.loop-dat.invariant (c.in_ok-extend_from_slice.ensures.items ∙ ap (λ z. c.loop-dat.block.items ++ z) c.dat_values.ensures)

pub loop-var-preserved : goal.loop-var-preserved
loop-var-preserved c =
    more_taken (flat_map (dat_values (bound_of c.args.bound.now).mesh) (numbers (dat_count (bound_of c.args.bound.now).mesh)))
    (bound_of c.args.bound.now).vars c.loop-var.var-index c.loop-var.block.items c.extend_from_slice-in-loop-var.new.self.items c.as_slice.result.now
    (subst (λ xs. (c.loop-var.var-index < length (map var_of xs)) × (get_or (map var_of xs) c.loop-var.var-index no_var ≡ var_of c.var-item.result)) c.deref-var-items.ensures.value
    (var_here c.deref-var-items.result.now c.loop-var.var-index c.var-item.result c.loop-var-test.true c.var-item.is))
    c.as_slice.ensures
    c.loop-var.invariant c.in_ok-extend_from_slice-2.ensures.items

first : (c : goal.After-loop-var) → c.loop-var.block.items ≡ first_memory (bound_of c.args.bound.now)
first c =
    let b = bound_of c.args.bound.now in
    let n : length b.vars ≤ c.loop-var.var-index = omega (arith, length-map c.args.bound.now.vars.items var_of, c.loop-var-test.false) in
    c.loop-var.invariant ∙ ap (λ vs. flat_map (dat_values b.mesh) (numbers (dat_count b.mesh)) ++ flat_map (λ (v : VarValue). v.start) vs) (take_all c.loop-var.var-index b.vars n)

pub returns-clause-first : goal.returns-clause-first
returns-clause-first c = first c

pub returns-clause-count : goal.returns-clause-count
returns-clause-count c = ap length (first c) ∙ (c.memory_holds.ensures.first (bound_of c.args.bound.now) c.is_in_range.ensures.dats).length
