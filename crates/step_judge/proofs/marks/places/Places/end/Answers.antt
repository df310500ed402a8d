use Rattle.std.proofs.Common.{◌<◌, length, sym, ◌∙◌}
use Rattle.std.proofs.lemmas.Bool.{false≢true}
use Rattle.step_judge.proofs.marks.Ends.{last_whole, more_whole}
use Rattle.step_judge.proofs.marks.places.Places.end.Goals as goal

pub invariant_of-self : goal.invariant_of-self
invariant_of-self c =
    let inside : c.args.place < length c.self.inside.begun.items = rw (← c.self.view_is) at c.requires.inside in
    let began = rw (← c.self.view_is) at c.requires.begun in
    last_whole _ c.args.place c.index_mut.result.now c.finish-all.new.self c.mark.new.self c.self.invariant inside
    (record { read = c.index_mut.ensures.value; marked = c.finish-all.ensures.marked })
    began
    (c.finish-all.ensures.answer.0 c.if-all.true)
    c.mark.ensures

pub invariant_of-self-else-all : goal.invariant_of-self-else-all
invariant_of-self-else-all c =
    let inside : c.args.place < length c.self.inside.begun.items = rw (← c.self.view_is) at c.requires.inside in
    let still = rw (← c.self.view_is) at c.requires.open in
    let began = rw (← c.self.view_is) at c.requires.begun in
    more_whole _ c.args.place c.index_mut.result.now c.finish-all.new.self c.self.invariant inside
    (record { read = c.index_mut.ensures.value; marked = c.finish-all.ensures.marked })
    began
    still
    (λ all. false≢true (sym c.if-all.false ∙ c.finish-all.ensures.answer.1 all))
