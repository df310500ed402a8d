use Rattle.checkpoint.proofs.state_texts.Telling.{Seen}
use Rattle.checkpoint.proofs.state_texts.lines.told_values.Given as goal

abbrev pub invariant-loop-told : goal.invariant-loop-told
invariant-loop-told l = Seen l.line l.words l.fn.values.items l.values.items l._told
