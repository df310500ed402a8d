use Rattle.std.proofs.Common.{◌≡◌, ◌<◌, ◌+◌, get_or, set, get_or-set_other, get_or-set_same, sym, ◌∙◌, subst, ⊎_elim, arith}
use Rattle.std.proofs.lemmas.Bool.{cases_eq}
use Rattle.std.proofs.lemmas.List.{length-set}
use Rattle.kernel_runs.proofs.row_batches.places.batch_at.Goals as goal

pub loop-j-preserved : goal.loop-j-preserved
loop-j-preserved c =
    let j = c.loop-j.j in
    let v = get_or c.args.places.now (c.args.at + j) 0 in
    let inv = c.loop-j.invariant in
    let lt : j < c.args.count = c.loop-j-test.true in
    let few = c.requires.few in
    let long = inv.long in
    record {
      long = length-set c.loop-j.batch j v ∙ inv.long;
      are = λ i li. ⊎_elim
          (λ (e : i ≡ j). subst (λ k. get_or (set c.loop-j.batch j v) k 0 ≡ get_or c.args.places.now (c.args.at + k) 0) (sym e)
          (get_or-set_same c.loop-j.batch j v 0 (omega (arith, lt, long, few))))
          (λ (ne : i ≡ j → ⊥). get_or-set_other c.loop-j.batch j i v 0 ne ∙ inv.are i (omega (arith, li, ne)))
          (cases_eq i j);
    }
