use Rattle.std.proofs.Common.{◌≡◌, ◌<◌, get_or, sym, ap, subst, ◌∙◌}
use Rattle.std.proofs.lemmas.List.{get_or_default}
use Rattle.kernel_model.specs.declared.types.faults.KernelFault.{KernelFault}
use Rattle.lemmas.specs.Below.{listed}
use Rattle.mesh_decl.specs.Mesh.{set_size}
use Rattle.schedule_model.specs.Program.{elements}
use Rattle.bound_program.specs.Fits.{site_at}
use Rattle.run_model.specs.Programs.{program_of}
use Rattle.chain_model.specs.Machine.{ChainState, chain_start, rank_run}
use Rattle.chain_model.specs.Slices.{slicing_of, executes}
use Rattle.deep_halo.specs.Constants.{constants_in}
use Rattle.deep_halo.specs.Running.{Runs}
use Rattle.deep_halo.specs.Loops.{HasConstants, element_ran, program_of_loop, owners_of_loop}
use Rattle.deep_halo.proofs.chain_ranks.InTurn.{rank_keeps, first_turn, executed, next_turn, last_turn}
use Rattle.deep_halo.proofs.chain_ranks.ranks.run_rank.Goals as goal

pub loop-element-init : goal.loop-element-init
loop-element-init c st consts runs =
    let x = c.args.work.now in
    let b = program_of_loop x in
    let o = owners_of_loop x in
    let n = elements (program_of b) x.item in
    let xs = c.elements-element-items.result.now in
    let is : xs ≡ listed n (executes b o x.item c.args.rank) = c.elements-element-items.ensures b o c.requires.is.slices c.requires.is.item c.requires.rank in
    subst (λ (z : ChainState KernelFault). Runs b o x.begun x.all.now.site c.args.memory.now c.args.partials.now c.args.fault.now z)
    (sym (first_turn (slicing_of b o) x.item c.args.rank n xs is st)) runs

pub run_on_rank-requires-clause-element : goal.run_on_rank-requires-clause-element
run_on_rank-requires-clause-element c =
    let x = c.args.work.now in
    let b = program_of_loop x in
    let o = owners_of_loop x in
    let n = elements (program_of b) x.item in
    let xs = c.elements-element-items.result.now in
    let is : xs ≡ listed n (executes b o x.item c.args.rank) = c.elements-element-items.ensures b o c.requires.is.slices c.requires.is.item c.requires.rank in
    let lt : get_or xs c.loop-element.element-index 0 < n =
    (executed (slicing_of b o) x.item c.args.rank n xs is (chain_start (slicing_of b o)) c.loop-element.element-index 0
    c.loop-element-test.true).0 in
    subst (λ s. get_or xs c.loop-element.element-index 0 < set_size b.mesh s) (ap (λ k. (site_at b k).set) (sym c.requires.is.site) ∙ sym c.requires.is.loop.set) lt

pub loop-element-preserved : goal.loop-element-preserved
loop-element-preserved c st consts runs =
    let x = c.args.work.now in
    let b = program_of_loop x in
    let o = owners_of_loop x in
    let k = x.item in
    let r = c.args.rank in
    let n = elements (program_of b) k in
    let xs = c.elements-element-items.result.now in
    let i = c.loop-element.element-index in
    let is : xs ≡ listed n (executes b o k r) = c.elements-element-items.ensures b o c.requires.is.slices c.requires.is.item c.requires.rank in
    let now = rank_run (slicing_of b o) k r (get_or xs i n) st in
    let values : HasConstants b x.values.now now = consts ∙ ap (constants_in b) (sym (rank_keeps (slicing_of b o) k r (get_or xs i n) st)) in
    subst (λ (z : ChainState KernelFault). Runs b o x.begun x.all.now.site c.run_on_rank.new.memory c.run_on_rank.new.partials c.run_on_rank.new.fault z)
    (next_turn (slicing_of b o) k r n xs is st i c.loop-element-test.true)
    (subst (λ e. Runs b o x.begun x.all.now.site c.run_on_rank.new.memory c.run_on_rank.new.partials c.run_on_rank.new.fault (element_ran b o k r e now))
    (get_or_default xs i 0 n c.loop-element-test.true)
    (c.run_on_rank.ensures now values (c.loop-element.invariant st consts runs)))

pub returns : goal.returns
returns c st consts runs =
    let x = c.args.work.now in
    let b = program_of_loop x in
    let o = owners_of_loop x in
    let n = elements (program_of b) x.item in
    let xs = c.elements-element-items.result.now in
    let is : xs ≡ listed n (executes b o x.item c.args.rank) = c.elements-element-items.ensures b o c.requires.is.slices c.requires.is.item c.requires.rank in
    subst (λ m. Runs b o x.begun x.all.now.site c.loop-element.memory c.loop-element.partials c.loop-element.fault (rank_run (slicing_of b o) x.item c.args.rank m st))
    (last_turn (slicing_of b o) x.item c.args.rank n xs is st c.loop-element.element-index c.loop-element-test.false) (c.loop-element.invariant st consts runs)
