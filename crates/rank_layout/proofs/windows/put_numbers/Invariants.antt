use Rattle.std.proofs.Common.{◌≡◌, ◌<◌, ℕ, get_or}
use Rattle.bound_program.specs.Values.{bound_of}
use Rattle.run_model.specs.Windows.{reached}
use Rattle.run_model.specs.Arguments.{no_arg}
use Rattle.rank_layout.specs.Numbered.{number_of}
use Rattle.rank_layout.proofs.windows.put_numbers.Given as goal

abbrev pub invariant-loop-i : goal.invariant-loop-i
invariant-loop-i l = (k : ℕ) → k < l.i → get_or l.numbers k 0 ≡ number_of (reached (bound_of l.fn.bound) l.fn.element (get_or l.args k no_arg))
