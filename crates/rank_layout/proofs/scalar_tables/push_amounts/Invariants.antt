use Rattle.std.proofs.Common.{ℕ, ◌≡◌, ◌+◌, ◌++◌, map, length}
use Rattle.run_model.specs.Windows.{numbers}
use Rattle.rank_state.specs.declared.scalars.Scalar.TheVariants.{Amount}
use Rattle.rank_layout.proofs.scalar_tables.push_amounts.Given as goal

abbrev pub invariant-loop-i : goal.invariant-loop-i
invariant-loop-i l =
    (l.slots.items ≡ l.fn.slots.items ++ map (λ (k : ℕ). l.how) (numbers l.i))
    × (l.scalars.items ≡ l.fn.scalars.items ++ map (λ k. Amount (l.from + k) (length l.fn.slots.items + k) l.how) (numbers l.i))
