use Rattle.std.proofs.Common.{ℕ, List, All, length, get_or, sym, ap, ap₂, ◌∙◌, subst, subst₂, arith}
use Rattle.bound_program.specs.declared.sites.Arg.{Arg}
use Rattle.bound_program.specs.Values.{no_site}
use Rattle.run_model.specs.Programs.{item_at, loop_of}
use Rattle.rank_state.specs.declared.owned.Owned.{Owned}
use Rattle.rank_state.specs.Ordered.{AreOwned}
use Rattle.rank_layout.specs.Made.{row_of}
use Rattle.rank_layout.specs.Tables.{tables_of}
use Rattle.rank_program.specs.declared.program.DistributedProgram.{DistributedProgram}
use Rattle.rank_program.specs.Sound.{program_in, plan_in, setup_in, layout_in}
use Rattle.rank_layout.specs.OwnedWindows.{owned_after, owned_by, ArgPlaced}
use Rattle.rank_program.proofs.joins.push_owned_windows.Goals as goal

pub args_of-args-requires : goal.args_of-args-requires
args_of-args-requires c =
    let x = c.parts-program.result.now in
    let has = c.owned_stand.ensures (program_in x) x.owners.now c.parts-program.ensures.sound.numbers x.meshes.now (plan_in x) c.parts-program.ensures.sound.halos x.lists.now
    c.parts-program.ensures.sound.lists c.args.item c.args.element (rw c.parts-program.ensures.are c.requires.kind) (rw c.parts-program.ensures.are c.requires.element) in
    omega (arith, has.loop, c.loop_of-site.ensures)

pub push_windows-requires-clause-placed : goal.push_windows-requires-clause-placed
push_windows-requires-clause-placed c =
    let x = c.parts-program.result.now in
    let b = program_in x in
    let has = c.owned_stand.ensures b x.owners.now c.parts-program.ensures.sound.numbers x.meshes.now (plan_in x) c.parts-program.ensures.sound.halos x.lists.now
    c.parts-program.ensures.sound.lists c.args.item c.args.element (rw c.parts-program.ensures.are c.requires.kind) (rw c.parts-program.ensures.are c.requires.element) in
    let args = c.args_of-args.ensures ∙ ap (λ (n : ℕ). (get_or b.sites n no_site).args) c.loop_of-site.ensures in
    subst (λ (l : List Arg). All (ArgPlaced b x.owners.now x.meshes.now x.lists.now c.args.element) l) (sym args) has.placed

pub push_windows-requires-clause-room : goal.push_windows-requires-clause-room
push_windows-requires-clause-room c =
    let x = c.parts-program.result.now in
    let b = program_in x in
    let has = c.owned_stand.ensures b x.owners.now c.parts-program.ensures.sound.numbers x.meshes.now (plan_in x) c.parts-program.ensures.sound.halos x.lists.now
    c.parts-program.ensures.sound.lists c.args.item c.args.element (rw c.parts-program.ensures.are c.requires.kind) (rw c.parts-program.ensures.are c.requires.element) in
    let args = ap (λ (l : List Arg). length l) (c.args_of-args.ensures ∙ ap (λ (n : ℕ). (get_or b.sites n no_site).args) c.loop_of-site.ensures) in
    let few = c.parts-program.ensures.sound.made.elements (loop_of (item_at b c.args.item)) has.loop in
    let none = ap (λ (l : List Owned). length l) c.requires.empty in
    omega (arith, args, few, none, c.requires.room, ap (λ (z : DistributedProgram). z.tables.spans) c.parts-program.ensures.are)

pub row_of-requires : goal.row_of-requires
row_of-requires c =
    let x = c.parts-program.result.now in
    let has = c.owned_stand.ensures (program_in x) x.owners.now c.parts-program.ensures.sound.numbers x.meshes.now (plan_in x) c.parts-program.ensures.sound.halos x.lists.now
    c.parts-program.ensures.sound.lists c.args.item c.args.element (rw c.parts-program.ensures.are c.requires.kind) (rw c.parts-program.ensures.are c.requires.element) in
    omega (arith, has.loop, c.loop_of-site.ensures, c.parts-program.ensures.sound.made.index_count, ap length c.deref.ensures.value)

pub returns-clause-are : goal.returns-clause-are
returns-clause-are c =
    rw (sym c.parts-program.ensures.are) (
    let x = c.parts-program.result.now in
    let b = program_in x in
    let s = loop_of (item_at b c.args.item) in
    let has = c.owned_stand.ensures b x.owners.now c.parts-program.ensures.sound.numbers x.meshes.now (plan_in x) c.parts-program.ensures.sound.halos x.lists.now
    c.parts-program.ensures.sound.lists c.args.item c.args.element (rw c.parts-program.ensures.are c.requires.kind) (rw c.parts-program.ensures.are c.requires.element) in
    let args = c.args_of-args.ensures ∙ ap (λ (n : ℕ). (get_or b.sites n no_site).args) c.loop_of-site.ensures in
    let spans =
    c.push_windows.ensures.spans
    ∙ ap₂ (λ (l : List Arg) (z : List Owned). owned_after (owned_by b x.owners.now x.meshes.now x.lists.now c.args.element) l z) args c.requires.empty in
    let rows = c.row_of.ensures ∙ ap₂ (λ l (n : ℕ). row_of l n) c.deref.ensures.value c.loop_of-site.ensures ∙ c.parts-program.ensures.sound.made.indices s has.loop in
    subst₂ (λ (z : List Owned) (l : List ℕ). AreOwned (setup_in x) (layout_in x) (tables_of b (plan_in x)) c.args.item c.args.element z l) (sym spans) (sym rows)
    (has.are (row_of x.tables.scalars.items s) (c.parts-program.ensures.sound.made.scalars s has.loop)))

pub returns-clause-indices : goal.returns-clause-indices
returns-clause-indices c =
    rw (sym c.parts-program.ensures.are) (
    c.row_of.ensures ∙ ap₂ (λ l (n : ℕ). row_of l n) c.deref.ensures.value c.loop_of-site.ensures)
