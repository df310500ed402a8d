use Rattle.std.proofs.Common.{◌≡◌, ◌+◌, ℕ, suc, Some, subst, arith}
use Rattle.op_num.specs.Reduction.{merged}
use Rattle.run_model.specs.Windows.{Whole, cell_in}
use Rattle.rank_state.specs.Windows.{operation}
use Rattle.chain_model.specs.Machine.{merged_over}
use Rattle.deep_halo.specs.Sound.{program_in, ranks_in}
use Rattle.deep_halo.specs.Cells.{Hold, with_target}
use Rattle.deep_halo.proofs.chain_memory.chain_stores.Writing.{held_as}
use Rattle.deep_halo.proofs.chain_ranks.Summing.{with_own, with_twice, summed}
use Rattle.deep_halo.proofs.chain_ranks.sums.reduce_variable.Goals as goal

pub loop-rank-init : goal.loop-rank-init
loop-rank-init c f p holds parts =
    let b = program_in c.args.blocks.now in
    let n = ranks_in c.args.blocks.now in
    held_as b n c.args.memory.now f (with_target n (Whole c.args.var) (λ i. f n (cell_in (Whole c.args.var) i)) f) (λ m x le h. with_own b n (Whole c.args.var) f m x h) holds

pub loop-rank-preserved : goal.loop-rank-preserved
loop-rank-preserved c f p holds parts =
    let b = program_in c.args.blocks.now in
    let n = ranks_in c.args.blocks.now in
    let v = c.args.var in
    let k = c.loop-rank.rank in
    let how = operation c.args.how in
    let u = λ (i : ℕ). merged_over (Some how) (λ r. p r (cell_in (Whole v) i)) k (f n (cell_in (Whole v) i)) in
    let g = with_target n (Whole v) u f in
    subst (λ q. Hold c.args.blocks.now c.merge_cells.new.partials (with_target n (Whole v) (λ i. merged_over (Some how) (λ r. p r (cell_in (Whole v) i)) q (f n (cell_in (Whole v) i))) f))
    (let q : suc k ≡ k + 1 = omega arith in q)
    (held_as b n c.merge_cells.new.partials _ (with_target n (Whole v) (λ i. merged how (u i) (p k (cell_in (Whole v) i))) f)
    (λ m x le h. with_twice b n v (λ z i. merged how z (p k (cell_in (Whole v) i))) u f m x)
    (summed b n k v how c.loop-rank.memory c.merge_cells.new.partials c.args.partials.now g p c.variable_at-last.result c.partial_at-from.result c.width_of-count.result
    c.loop-rank-test.true c.requires.var (c.loop-rank.invariant f p holds parts) parts c.merge_cells.auto.partials c.variable_at-last.ensures.is c.partial_at-from.ensures.is c.width_of-count.ensures
    c.merge_cells.ensures.merged c.merge_cells.ensures.others))

pub returns : goal.returns
returns c f p holds parts =
    let n = ranks_in c.args.blocks.now in
    let v = c.args.var in
    let last : c.loop-rank.rank ≡ n = omega (arith, c.loop-rank-test.false, c.loop-rank.auto.rank-end) in
    subst (λ q. Hold c.args.blocks.now c.loop-rank.memory
    (with_target n (Whole v) (λ i. merged_over (Some (operation c.args.how)) (λ r. p r (cell_in (Whole v) i)) q
    (f n (cell_in (Whole v) i))) f)) last
    (c.loop-rank.invariant f p holds parts)
