use Rattle.std.proofs.Common.{ℕ, List, length, sym, ap, ap₂, ◌∙◌, subst, arith}
use Rattle.run_model.specs.Programs.{item_at, loop_of}
use Rattle.rank_state.specs.declared.scalars.Scalar.{Scalar}
use Rattle.rank_state.specs.Joins.{AreReduced}
use Rattle.rank_layout.specs.Made.{row_of}
use Rattle.rank_layout.specs.Tables.{tables_of}
use Rattle.rank_program.specs.Sound.{program_in, plan_in, setup_in, layout_in}
use Rattle.rank_program.proofs.joins.reduced_scalars.Goals as goal

pub reduced_loop-requires-clause-there : goal.reduced_loop-requires-clause-there
reduced_loop-requires-clause-there c =
    let x = c.parts-program.result.now in
    (c.reduces_are_there.ensures (program_in x) x.owners.now c.parts-program.ensures.sound.numbers x.meshes.now (plan_in x) c.parts-program.ensures.sound.planned
    c.args.item (rw c.parts-program.ensures.are c.requires)).0

pub row_of-requires : goal.row_of-requires
row_of-requires c =
    let x = c.parts-program.result.now in
    let there = c.reduces_are_there.ensures (program_in x) x.owners.now c.parts-program.ensures.sound.numbers x.meshes.now (plan_in x) c.parts-program.ensures.sound.planned
    c.args.item (rw c.parts-program.ensures.are c.requires) in
    omega (arith, there.1, c.reduced_loop.ensures, c.parts-program.ensures.sound.made.scalar_count, ap length c.deref.ensures.value)

pub returns : goal.returns
returns c =
    rw (sym c.parts-program.ensures.are) (
    let x = c.parts-program.result.now in
    let b = program_in x in
    let s = loop_of (item_at b c.args.item) in
    let there = c.reduces_are_there.ensures b x.owners.now c.parts-program.ensures.sound.numbers x.meshes.now (plan_in x) c.parts-program.ensures.sound.planned
    c.args.item (rw c.parts-program.ensures.are c.requires) in
    let rows = c.row_of.ensures ∙ ap₂ (λ (l : List _) (n : ℕ). row_of l n) c.deref.ensures.value c.reduced_loop.ensures in
    subst (λ (l : List Scalar). AreReduced (setup_in x) (layout_in x) (tables_of b (plan_in x)) c.args.item l) (sym rows)
    (c.scalars_stand.ensures b x.owners.now x.meshes.now (plan_in x) c.args.item (row_of x.tables.scalars.items s) (c.parts-program.ensures.sound.made.scalars s there.1)))
