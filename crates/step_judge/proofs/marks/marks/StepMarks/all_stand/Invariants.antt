use Rattle.std.proofs.Common.{◌≡◌, ◌<◌, ℕ}
use Rattle.step_judge.specs.Marked.{Stands}
use Rattle.step_judge.proofs.marks.marks.StepMarks.all_stand.Given as goal

abbrev pub invariant-loop-rank : goal.invariant-loop-rank
invariant-loop-rank l = record { same : l.self ≡ l.fn.self; stand : (x : ℕ) → x < l.rank → Stands l.fn.self x l.item }
