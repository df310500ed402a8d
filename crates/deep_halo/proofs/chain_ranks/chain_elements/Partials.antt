-- Where the partials of a rank stand.
use Rattle.std.proofs.Common.{◌≡◌, ◌<◌, ◌≤◌, ◌+◌, ◌-◌, ◌*◌, ◌⊎◌, ℕ, suc, ℤ, pos, List, length, get_or, Some, sym, ap, ap₂, subst, ◌∙◌, arith}
use Rattle.std.proofs.lemmas.List.{get_or_read}
use Rattle.std.proofs.Math.Nat.{mul_comm, mul-le-mul_right}
use Rattle.op_num.specs.Reduction.{Reduction, merged}
use Rattle.op_num.specs.declared.reductions.access.Access.{Access}
use Rattle.schedule_model.specs.Machine.{merge_at}
use Rattle.bound_program.specs.declared.sites.Arg.TheVariants.{Global}
use Rattle.bound_program.specs.Values.{BoundValue}
use Rattle.run_model.specs.Windows.{Whole, cell_in}
use Rattle.run_model.specs.Arguments.{var_width}
use Rattle.run_model.specs.Memory.{memory_length, var_start}
use Rattle.run_model.specs.Variables.{of_vars, VarsBegin}
use Rattle.bound_plan.specs.Variables.{reduction_of}
use Rattle.deep_halo.specs.Places.{in_block, all_cells}
use Rattle.deep_halo.proofs.chain_memory.Within.{vars_behind, variable_in_blocks}
use Rattle.deep_halo.specs.Cells.{Values, BlocksHold}
use Rattle.deep_halo.proofs.chain_memory.chain_stores.Writing.{has_of, block_follow, written}
use Rattle.deep_halo.specs.Merging.{merged_by}

module _ (b : BoundValue) where
  abbrev vars : BoundValue
  vars = of_vars b.vars

  pub dats_before : (cells end : ℕ) → cells ≡ memory_length b → end ≡ var_start b 0 → (end ≤ cells) × (cells - end ≡ memory_length vars)
  dats_before cells end all ends =
      let v : memory_length b ≡ var_start b 0 + memory_length vars = vars_behind b (length b.vars) in
      ((let q : end ≤ cells = omega (arith, v, all, ends) in q), (let q : cells - end ≡ memory_length vars = omega (arith, v, all, ends) in q))

  pub partial_read : (starts : List ℕ) (r v from cells end : ℕ) → VarsBegin b.vars starts → v < length b.vars → from ≡ get_or starts v from → cells ≡ memory_length b → end ≡ var_start b 0
      → r * (cells - end) + from ≡ in_block vars r (cell_in (Whole v) 0)
  partial_read starts r v from cells end begin lv is all ends =
      let f : from ≡ var_start vars v = get_or_read starts v from (omega (arith, begin.all)) is 0 ∙ begin.each v lv in
      let m : r * (cells - end) ≡ r * memory_length vars = ap (λ k. r * k) (dats_before cells end all ends).1 in
      omega (arith, f, m)

  pub partial_within : (ranks r v : ℕ) → r < ranks → v < length b.vars → in_block vars r (cell_in (Whole v) 0) + var_width b v ≤ all_cells vars ranks
  partial_within ranks r v lr lv = variable_in_blocks vars ranks r v (omega arith) lv

  -- all partials are fewer than all cells
  pub fewer : (ranks : ℕ) → all_cells vars ranks ≤ all_cells b ranks
  fewer ranks =
      let v : memory_length b ≡ var_start b 0 + memory_length vars = vars_behind b (length b.vars) in
      let m : memory_length vars * suc ranks ≤ memory_length b * suc ranks = mul-le-mul_right (suc ranks) (let q : memory_length vars ≤ memory_length b = omega (arith, v) in q) in
      omega (arith, m, mul_comm (memory_length vars) (suc ranks), mul_comm (memory_length b) (suc ranks))

-- a variable's amounts are merged
pub amounts_merged : (b : BoundValue) (ranks r v : ℕ) (a : Access) (o : Reduction) (old new memory : List ℤ) (f p : Values)
    (at from count : ℕ) → r < ranks → v < length b.vars → reduction_of a ≡ Some o
    → BlocksHold b ranks memory f → BlocksHold (of_vars b.vars) ranks old p → length new ≡ length old
    → at ≡ in_block (of_vars b.vars) r (cell_in (Whole v) 0) → from ≡ in_block b r (cell_in (Whole v) 0) → count ≡ var_width b v
    → ((i : ℕ) → i < count → get_or new (at + i) (pos 0) ≡ merged o (get_or old (at + i) (pos 0)) (get_or memory (from + i) (pos 0)))
    → ((k : ℕ) → (k < at) ⊎ (at + count ≤ k) → get_or new k (pos 0) ≡ get_or old k (pos 0))
    → BlocksHold (of_vars b.vars) ranks new (merged_by r f (Global v a) p)
amounts_merged b ranks r v a o old new memory f p at from count lr lv how holds parts same e g w there others =
    written (of_vars b.vars) ranks r (Whole v) (λ i. merge_at (reduction_of a) (p r (cell_in (Whole v) i)) (f r (cell_in (Whole v) i))) old new p lv same
    (λ i lt.
    let li : i < count = subst (λ k. i < k) (sym w) lt in
    ap (λ k. get_or new (k + i) (pos 0)) (sym e) ∙ there i li
    ∙ ap₂ (λ x y. merged o x y)
    (ap (λ k. get_or old k (pos 0)) (ap (λ k. k + i) e ∙ sym (block_follow (of_vars b.vars) r (Whole v) i))
    ∙ parts.cells r (cell_in (Whole v) i) (omega arith) (has_of (of_vars b.vars) (Whole v) i lv lt))
    (ap (λ k. get_or memory k (pos 0)) (ap (λ k. k + i) g ∙ sym (block_follow b r (Whole v) i)) ∙ holds.cells r (cell_in (Whole v) i) (omega arith) (has_of b (Whole v) i lv lt))
    ∙ sym (ap (λ t. merge_at t (p r (cell_in (Whole v) i)) (f r (cell_in (Whole v) i))) how))
    (λ k l. others k (subst (λ j. (k < j) ⊎ (j + count ≤ k)) (sym e)
    (subst (λ j. (k < in_block (of_vars b.vars) r (cell_in (Whole v) 0)) ⊎ (in_block (of_vars b.vars) r (cell_in (Whole v) 0) + j ≤ k))
    (sym w) l)))
    parts
