use Rattle.std.proofs.Common.{◌<◌, ◌++◌, ℕ, List, length, get_or, sym, ap, ap₂, ◌∙◌, subst, arith}
use Rattle.local_mesh.specs.declared.types.RankMesh.{RankMesh}
use Rattle.rank_state.specs.declared.spans.Span.{Span}
use Rattle.rank_state.specs.Spans.{total}
use Rattle.rank_state.specs.Shows.{AreExports}
use Rattle.rank_layout.specs.Exports.{exported_locals}
use Rattle.rank_layout.specs.Messages.{spans_of, AreThere}
use Rattle.rank_layout.specs.Tables.{tables_of}
use Rattle.rank_program.specs.declared.program.DistributedProgram.{DistributedProgram}
use Rattle.rank_program.specs.Sound.{program_in, plan_in, setup_in, layout_in}
use Rattle.rank_program.proofs.exchanges.push_sent.Goals as goal

pub push_exports-requires-clause-has : goal.push_exports-requires-clause-has
push_exports-requires-clause-has c =
    let x = c.parts-program.result.now in
    let b = program_in x in
    let is = c.sends_stand.ensures b x.owners.now c.parts-program.ensures.sound.numbers x.meshes.now (plan_in x) c.parts-program.ensures.sound.halos x.lists.now c.parts-program.ensures.sound.lists
    c.args.item c.args.from c.args.to (get_or x.meshes.now c.args.from c.index-program-from.result) (rw c.parts-program.ensures.are c.requires.step)
    (ap (λ (m : RankMesh). get_or x.meshes.now c.args.from m) c.index-program-from.is) in
    is.has

pub push_exports-requires-clause-there : goal.push_exports-requires-clause-there
push_exports-requires-clause-there c =
    let x = c.parts-program.result.now in
    let b = program_in x in
    let is = c.sends_stand.ensures b x.owners.now c.parts-program.ensures.sound.numbers x.meshes.now (plan_in x) c.parts-program.ensures.sound.halos x.lists.now c.parts-program.ensures.sound.lists
    c.args.item c.args.from c.args.to (get_or x.meshes.now c.args.from c.index-program-from.result) (rw c.parts-program.ensures.are c.requires.step)
    (ap (λ (m : RankMesh). get_or x.meshes.now c.args.from m) c.index-program-from.is) in
    subst (λ (dats : List ℕ). AreThere b.mesh (get_or x.meshes.now c.args.from c.index-program-from.result) (λ t. exported_locals x.lists.now t c.args.from c.args.to) dats)
    (sym c.exchange_of.ensures) is.are.there

pub push_exports-requires-clause-room : goal.push_exports-requires-clause-room
push_exports-requires-clause-room c =
    let x = c.parts-program.result.now in
    let b = program_in x in
    let is = c.sends_stand.ensures b x.owners.now c.parts-program.ensures.sound.numbers x.meshes.now (plan_in x) c.parts-program.ensures.sound.halos x.lists.now c.parts-program.ensures.sound.lists
    c.args.item c.args.from c.args.to (get_or x.meshes.now c.args.from c.index-program-from.result) (rw c.parts-program.ensures.are c.requires.step)
    (ap (λ (m : RankMesh). get_or x.meshes.now c.args.from m) c.index-program-from.is) in
    let none = ap (λ (l : List Span). length l) c.requires.empty in
    let same = ap (λ (dats : List ℕ). length
    (spans_of b.mesh (get_or x.meshes.now c.args.from c.index-program-from.result)
    (λ t. exported_locals x.lists.now t c.args.from c.args.to) dats)) c.exchange_of.ensures in
    let most = c.parts-program.ensures.sound.made.messages c.args.item c.args.from c.args.to is.are.item is.sender is.receiver in
    omega (arith, none, same, is.are.spans, most, c.requires.room, ap (λ (z : DistributedProgram). z.tables.spans) c.parts-program.ensures.are)

pub returns-clause-are : goal.returns-clause-are
returns-clause-are c =
    rw (sym c.parts-program.ensures.are) (
    let x = c.parts-program.result.now in
    let b = program_in x in
    let is = c.sends_stand.ensures b x.owners.now c.parts-program.ensures.sound.numbers x.meshes.now (plan_in x) c.parts-program.ensures.sound.halos x.lists.now c.parts-program.ensures.sound.lists
    c.args.item c.args.from c.args.to (get_or x.meshes.now c.args.from c.index-program-from.result) (rw c.parts-program.ensures.are c.requires.step)
    (ap (λ (m : RankMesh). get_or x.meshes.now c.args.from m) c.index-program-from.is) in
    let new =
    c.push_exports.ensures.spans
    ∙ ap₂ (λ (l : List Span) (dats : List ℕ). l ++ spans_of b.mesh (get_or x.meshes.now c.args.from c.index-program-from.result) (λ t. exported_locals x.lists.now t c.args.from c.args.to) dats)
    c.requires.empty c.exchange_of.ensures in
    subst (λ (l : List Span). AreExports (setup_in x) (layout_in x) (tables_of b (plan_in x)) c.args.item c.args.from c.args.to c.args.from l) (sym new) is.exports)

pub returns-clause-some : goal.returns-clause-some
returns-clause-some c =
    let x = c.parts-program.result.now in
    let b = program_in x in
    let is = c.sends_stand.ensures b x.owners.now c.parts-program.ensures.sound.numbers x.meshes.now (plan_in x) c.parts-program.ensures.sound.halos x.lists.now c.parts-program.ensures.sound.lists
    c.args.item c.args.from c.args.to (get_or x.meshes.now c.args.from c.index-program-from.result) (rw c.parts-program.ensures.are c.requires.step)
    (ap (λ (m : RankMesh). get_or x.meshes.now c.args.from m) c.index-program-from.is) in
    let new =
    c.push_exports.ensures.spans
    ∙ ap₂ (λ (l : List Span) (dats : List ℕ). l ++ spans_of b.mesh (get_or x.meshes.now c.args.from c.index-program-from.result) (λ t. exported_locals x.lists.now t c.args.from c.args.to) dats)
    c.requires.empty c.exchange_of.ensures in
    subst (λ (l : List Span). 0 < total l) (sym new) is.some
