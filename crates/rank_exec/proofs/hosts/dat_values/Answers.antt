use Rattle.std.proofs.Common.{◌≡◌, ℕ, map, flat_map, length, ap, ◌∙◌, arith, subst}
use Rattle.mesh_decl.specs.Mesh.{set_size, dat_set}
use Rattle.schedule_model.specs.Flat.{owned}
use Rattle.run_model.specs.Windows.{numbers}
use Rattle.rank_exec.proofs.Hosting.{rows_more, dat_length, row_cells}
use Rattle.rank_program.specs.declared.program.DistributedProgram.{DistributedProgram}
use Rattle.rank_program.specs.Sound.{program_in, setup_in, layout_in}
use Rattle.rank_exec.proofs.hosts.dat_values.Goals as goal

pub loop-element-preserved : goal.loop-element-preserved
loop-element-preserved c f h = rows_more (program_in c.args.program.now)
    (owned (setup_in c.args.program.now) (layout_in c.args.program.now) f) c.args.dat c.loop-element.element c.loop-element.values.items
    c.push_element.new.values.items (c.loop-element.invariant f h) (c.in_ok-push_element.ensures f h)

all_are : (c : goal.After-loop-element) → c.loop-element.element ≡ set_size (program_in c.args.program.now).mesh (dat_set (program_in c.args.program.now).mesh c.args.dat)
all_are c =
    let size : c.set_size-element-end.result ≡ set_size (program_in c.args.program.now).mesh (dat_set (program_in c.args.program.now).mesh c.args.dat) =
    subst (λ (d : DistributedProgram). c.set_size-element-end.result ≡ set_size (program_in d).mesh (dat_set (program_in d).mesh c.args.dat)) c.parts.ensures.are
    (c.set_size-element-end.ensures ∙ ap (λ (z : ℕ × ℕ). set_size (program_in c.parts.result.now).mesh z.0) c.dat_shape-set.ensures) in
    omega (arith, size, c.loop-element-test.false, c.loop-element.auto.element-end)

pub returns-clause-values : goal.returns-clause-values
returns-clause-values c f h = c.loop-element.invariant f h
    ∙ ap (λ n. map (owned (setup_in c.args.program.now) (layout_in c.args.program.now) f)
    (flat_map (row_cells (program_in c.args.program.now) c.args.dat) (numbers n))) (all_are c)

pub returns-clause-count : goal.returns-clause-count
returns-clause-count c = ap length (returns-clause-values c c.requires.shows.0 c.requires.shows.1)
    ∙ dat_length (program_in c.args.program.now) (owned (setup_in c.args.program.now) (layout_in c.args.program.now) c.requires.shows.0)
    c.args.dat
