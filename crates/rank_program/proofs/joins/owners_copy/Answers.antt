use Rattle.std.proofs.Common.{sym, subst}
use Rattle.rank_state.specs.declared.owned.Owned.{Owned}
use Rattle.rank_program.specs.Copies.{IsOwnersCopy}
use Rattle.rank_program.specs.Sound.{program_in, plan_in, setup_in, layout_in}
use Rattle.rank_program.proofs.joins.owners_copy.Goals as goal

pub owners_span-requires : goal.owners_span-requires
owners_span-requires c =
    let x = c.parts-program.result.now in
    (c.copies_stand.ensures (program_in x) x.owners.now c.parts-program.ensures.sound.numbers x.meshes.now (plan_in x) c.parts-program.ensures.sound.halos x.lists.now
    c.parts-program.ensures.sound.lists c.args.dat c.args.element (rw c.parts-program.ensures.are c.requires.dat) (rw c.parts-program.ensures.are c.requires.element)).0

pub returns : goal.returns
returns c =
    rw (sym c.parts-program.ensures.are) (
    let x = c.parts-program.result.now in
    subst (λ (s : Owned). IsOwnersCopy (program_in x) (setup_in x) (layout_in x) c.args.dat c.args.element s) (sym c.owners_span.ensures)
    (c.copies_stand.ensures (program_in x) x.owners.now c.parts-program.ensures.sound.numbers x.meshes.now (plan_in x) c.parts-program.ensures.sound.halos x.lists.now
    c.parts-program.ensures.sound.lists c.args.dat c.args.element (rw c.parts-program.ensures.are c.requires.dat) (rw c.parts-program.ensures.are c.requires.element)).1)
