use Rattle.std.proofs.Common.{◌≡◌, ◌++◌, ℤ, sym, ap, ◌∙◌, subst, true, false, [], ◌∷◌, List, take, drop, length, map, Option, Some, None, IfSome, arith, length-append}
use Rattle.std.specs.Option.{is_some}
use Rattle.std.proofs.Math.Seq.{take-append_seam}
use Rattle.std.proofs.lemmas.List.{length-take-le}
use Rattle.kernel_model.specs.Framed.{target_of}
use Rattle.kernel_model.specs.Meaning.{Finished, kernel_meaning}
use Rattle.kernel_columns.specs.Rows.{row}
use Rattle.kernel_runs.specs.RowLoops.{column_in, width}
use Rattle.kernel_runs.specs.Filled.{IsFilled}
use Rattle.kernel_runs.proofs.row_batches.batch.run_looked_up.Goals as goal

-- what holds where there is an answer
held : {A : Type 0} {Q : Type 0} (o : Option A) → IfSome o (λ u. Q) → is_some o ≡ true → Q
held None h e = let q : false ≡ true = e in absurd cc
held (Some u) h e = h

pub returns : goal.returns
returns c is batch differ looked =
    let y = c.args.rows.now in
    let begun = c.fill_scalars.new.frame in
    let left = c.run_rows-ran.new.frame in
    let rest = drop (width y) c.args.frame.now in
    let t = length-take-le (width y) c.args.frame.now c.requires.frame in
    let a = c.fill_scalars.auto.frame in
    let b = c.fill_columns.auto.frame in
    let d = c.run_rows-ran.auto.frame in
    let begun_long : length begun ≡ width y = omega (arith, a, b, t) in
    let left_long : length left ≡ width y = omega (arith, a, b, d, t) in
    let front : take (width y) (left ++ rest) ≡ left = ap (λ n. take n (left ++ rest)) (sym left_long) ∙ take-append_seam left rest in
    let all = length-append left rest in
    let ran = held c.run_rows-ran.result c.run_rows-ran.ensures (sym c.is_some.ensures ∙ is) in
    record {
      few = c.requires.few;
      differ = differ;
      ways = c.requires.ways;
      looked = looked;
      apart = c.requires.apart;
      begun = begun;
      long = omega (arith, begun_long);
      filled = λ k lt. subst (IsFilled c.args.numbers.now c.args.count c.args.memory.now (column_in y.columns.now k)) (sym (c.fill_scalars.ensures.kept k lt)) (c.fill_columns.ensures k lt);
      firsts = c.fill_scalars.ensures.filled;
      wide = omega (arith, all, left_long);
      ran = λ l lt.
          subst (λ (f : List (List ℤ)). kernel_meaning (map target_of y.places.now) y.constants.now y.code.now.kernel.now (row l begun ∷ []) ≡ Finished (row l f ∷ [])) (sym front) (ran l lt);
    }
