use Rattle.std.proofs.Common.{◌≡◌, ◌+◌, ◌++◌, map}
use Rattle.run_model.specs.Windows.{numbers}
use Rattle.rank_state.specs.declared.scalars.Scalar.TheVariants.{Value}
use Rattle.rank_layout.proofs.scalar_tables.push_values.Given as goal

abbrev pub invariant-loop-i : goal.invariant-loop-i
invariant-loop-i l = l.scalars.items ≡ l.fn.scalars.items ++ map (λ k. Value (l.from + k)) (numbers l.i)
