use Rattle.std.proofs.Common.{◌≡◌, ℕ, ap, ◌∙◌, refl, subst, arith}
use Rattle.mesh_decl.specs.Mesh.{set_size, dat_set}
use Rattle.rank_program.specs.declared.program.DistributedProgram.{DistributedProgram}
use Rattle.rank_program.specs.Sound.{program_in, setup_in, layout_in, tables_in}
use Rattle.rank_exec.specs.Standing.{StandOn}
use Rattle.rank_exec.proofs.StandingCells.{none_stand, one_more_stands}
use Rattle.rank_exec.proofs.standing.standing_cells.Goals as goal

pub owners_copy-first-requires-clause-element : goal.owners_copy-first-requires-clause-element
owners_copy-first-requires-clause-element c =
    let e : c.set_size-size.result ≡ set_size (program_in c.args.program.now).mesh (dat_set (program_in c.args.program.now).mesh c.args.dat) =
    subst (λ (d : DistributedProgram). c.set_size-size.result ≡ set_size (program_in d).mesh (dat_set (program_in d).mesh c.args.dat)) c.parts.ensures.are
    (c.set_size-size.ensures ∙ ap (λ (z : ℕ × ℕ). set_size (program_in c.parts.result.now).mesh z.0) c.dat_shape-set.ensures) in
    omega (arith, e)

pub loop-element-init : goal.loop-element-init
loop-element-init c =
    none_stand (program_in c.args.program.now) (setup_in c.args.program.now) (layout_in c.args.program.now) (tables_in c.args.program.now)
    c.args.dat c.owners_copy-first.result c.owners_copy-first.ensures

pub loop-element-preserved : goal.loop-element-preserved
loop-element-preserved c =
    let b = program_in c.args.program.now in
    let e : c.set_size-size.result ≡ set_size b.mesh (dat_set b.mesh c.args.dat) =
    subst (λ (d : DistributedProgram). c.set_size-size.result ≡ set_size (program_in d).mesh (dat_set (program_in d).mesh c.args.dat)) c.parts.ensures.are
    (c.set_size-size.ensures ∙ ap (λ (z : ℕ × ℕ). set_size (program_in c.parts.result.now).mesh z.0) c.dat_shape-set.ensures) in
    let more = c.loop-element-test.true in
    let end = c.loop-element.auto.element-end in
    one_more_stands b (setup_in c.args.program.now) (layout_in c.args.program.now) (tables_in c.args.program.now) c.args.dat refl
    c.loop-element.element c.loop-element.cells c.owners_copy.result c.in_ok-cells.cells (omega (arith, more, end, e))
    c.loop-element.invariant c.owners_copy.ensures c.in_ok-cells.ensures

pub returns : goal.returns
returns c =
    let b = program_in c.args.program.now in
    let e : c.set_size-size.result ≡ set_size b.mesh (dat_set b.mesh c.args.dat) =
    subst (λ (d : DistributedProgram). c.set_size-size.result ≡ set_size (program_in d).mesh (dat_set (program_in d).mesh c.args.dat)) c.parts.ensures.are
    (c.set_size-size.ensures ∙ ap (λ (z : ℕ × ℕ). set_size (program_in c.parts.result.now).mesh z.0) c.dat_shape-set.ensures) in
    let past = c.loop-element-test.false in
    let end = c.loop-element.auto.element-end in
    let all : c.loop-element.element ≡ set_size b.mesh (dat_set b.mesh c.args.dat) = omega (arith, past, end, e) in
    subst (λ n. StandOn b (setup_in c.args.program.now) (layout_in c.args.program.now) c.args.dat n c.loop-element.cells) all c.loop-element.invariant
