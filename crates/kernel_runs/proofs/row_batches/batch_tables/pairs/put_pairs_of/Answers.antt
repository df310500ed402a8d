use Rattle.std.proofs.Common.{◌≡◌, ◌<◌, ◌+◌, length, refl, sym, ap₂, ◌∙◌, subst, arith}
use Rattle.kernel_runs.specs.Alike.{arg_in, may_meet}
use Rattle.kernel_runs.specs.Tables.{ArePairs}
use Rattle.kernel_runs.proofs.row_batches.batch_tables.Firsts.{read_is}
use Rattle.kernel_runs.proofs.row_batches.batch_tables.PairsPut.{skipped, one_more}
use Rattle.kernel_runs.proofs.row_batches.batch_tables.pairs.put_pairs_of.Goals.{then-can_meet+else-count-pairs, else-can_meet}
use Rattle.kernel_runs.proofs.row_batches.batch_tables.pairs.put_pairs_of.Goals as goal

pub loop-b-preserved : goal.loop-b-preserved
loop-b-preserved c =
    let args = c.args.args.now in
    let numbers = c.args.numbers.now in
    let a = c.args.a in
    let b = c.loop-b.b in
    let inv = c.loop-b.invariant in
    let lt : b < a = c.loop-b-test.true in
    let below : b < length args = omega (arith, lt, c.requires.there) in
    let same : c.can_meet.result ≡ may_meet (arg_in args a) (arg_in args b) =
    c.can_meet.ensures ∙ ap₂ may_meet (read_is args a c.requires.there) (read_is args b below) in
    elim c.if-can_meet.branch [
      | then-can_meet+else-count-pairs w ↦
          subst (λ k. ArePairs args numbers c.if-can_meet.pairs a (b + 1) k) (sym w.count-is)
          (subst (λ ps. ArePairs args numbers ps a (b + 1) (c.loop-b.count + 1)) (sym w.pairs-is)
          (one_more args numbers c.loop-b.pairs a b c.loop-b.count inv c.requires.there lt
          (let few = inv.few in let ne = w.if-count-pairs.false in omega (arith, few, ne)) _ refl))
      | else-can_meet w ↦
          subst (λ k. ArePairs args numbers c.if-can_meet.pairs a (b + 1) k) (sym w.count-is)
          (subst (λ ps. ArePairs args numbers ps a (b + 1) c.loop-b.count) (sym w.pairs-is)
          (skipped args numbers c.loop-b.pairs a b c.loop-b.count inv (sym same ∙ w.if-can_meet.false)))
    ]
