use Rattle.std.proofs.Common.{ap, sym, ◌∙◌, arith}
use Rattle.lemmas.specs.Below.{count_below}
use Rattle.lemmas.proofs.Below.{length_listed, count_lt, listed_at, at_listed}
use Rattle.lemmas.proofs.laws.numbers_are_listed.Goals as goal

pub returns : goal.returns
returns c = λ n p. record {
  has = λ x l h. (count_below x p, omega (arith, length_listed n p, count_lt x n p l h), listed_at n x 0 p l h);
  passes = λ k l. let w = at_listed n k 0 p (omega (arith, length_listed n p)) in (w.0, w.1);
  once = λ i j li lj e.
      let a = at_listed n i 0 p (omega (arith, length_listed n p)) in
      let b = at_listed n j 0 p (omega (arith, length_listed n p)) in
      sym a.2 ∙ ap (λ z. count_below z p) e ∙ b.2;
}
