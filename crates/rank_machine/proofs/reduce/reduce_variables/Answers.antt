use Rattle.std.proofs.Common.{◌+◌, [], ◌∷◌, length, get_or, drop, sym, subst, ◌∙◌}
use Rattle.rank_state.specs.declared.scalars.Scalar.TheVariants.{Value}
use Rattle.rank_state.specs.Windows.{Reads}
use Rattle.rank_state.proofs.Public.{lists}
use Rattle.rank_machine.proofs.FromIndex.{next, merges_next, reduce_next}
use Rattle.rank_machine.proofs.reduce.reduce_variables.Goals as goal

pub put_reduced-requires-clause-rows : goal.put_reduced-requires-clause-rows
put_reduced-requires-clause-rows c i lt =
    (merges_next (length (get_or (lists c.args.rows.now) i [])) c.args.scalars.now c.loop-scalar.scalar-index (Value 0) c.loop-scalar-test.true (c.loop-scalar.invariant.rows i lt)).0

pub loop-scalar-preserved : goal.loop-scalar-preserved
loop-scalar-preserved c =
    let inside : Reads (length c.loop-scalar.variables)
    (get_or c.args.scalars.now c.loop-scalar.scalar-index (Value 0) ∷ drop (c.loop-scalar.scalar-index + 1) c.args.scalars.now) =
    subst (Reads (length c.loop-scalar.variables))
    (next c.args.scalars.now c.loop-scalar.scalar-index (Value 0) c.loop-scalar-test.true) c.loop-scalar.invariant.inside in
    record {
      inside = subst (λ n. Reads n (drop (c.loop-scalar.scalar-index + 1) c.args.scalars.now)) (sym c.put_reduced.auto.variables) inside.1;
      rows = λ i lt. (merges_next (length (get_or (lists c.args.rows.now) i [])) c.args.scalars.now c.loop-scalar.scalar-index (Value 0) c.loop-scalar-test.true (c.loop-scalar.invariant.rows i lt)).1;
      left = reduce_next (lists c.args.rows.now) (length c.args.rows.now) c.args.scalars.now c.loop-scalar.scalar-index (Value 0)
          c.loop-scalar.variables c.put_reduced.new.variables c.loop-scalar-test.true c.put_reduced.ensures ∙ c.loop-scalar.invariant.left;
    }
