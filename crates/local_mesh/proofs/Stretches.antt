-- Three lists behind one another, each of which rises.
use Rattle.std.proofs.Common.{◌≡◌, ℕ, ◌+◌, ◌-◌, ◌<◌, List, ◌++◌, length, get_or, sym, ap, ◌∙◌, arith, subst}
use Rattle.std.proofs.lemmas.List.{length-append, get_or_append_left, get_or-append-add}
use Rattle.local_mesh.specs.Lookup.{Rises, RisesWithin, AreStretches}
use Rattle.local_mesh.specs.Parts.{AreParts}

module _ (a b c : List ℕ) where
  all : List ℕ
  all = a ++ b ++ c

  long : length all ≡ length a + length b + length c
  unfolding all
  long = let e = length-append (a ++ b) c in let f = length-append a b in omega arith

  in_first : (k : ℕ) → k < length a → get_or all k 0 ≡ get_or a k 0
  unfolding all
  in_first k l =
      let e = length-append a b in
      let m : k < length (a ++ b) = omega arith in
      get_or_append_left (a ++ b) c 0 k m ∙ get_or_append_left a b 0 k l

  in_second : (k : ℕ) → k < length b → get_or all (length a + k) 0 ≡ get_or b k 0
  unfolding all
  in_second k l =
      let e = length-append a b in
      let m : length a + k < length (a ++ b) = omega arith in
      get_or_append_left (a ++ b) c 0 (length a + k) m ∙ get_or-append-add a b k 0

  in_third : (k : ℕ) → get_or all (length a + length b + k) 0 ≡ get_or c k 0
  unfolding all
  in_third k = ap (λ z. get_or (a ++ b ++ c) (z + k) 0) (sym (length-append a b)) ∙ get_or-append-add (a ++ b) c k 0

  first_rises : Rises a → RisesWithin all 0 (length a)
  first_rises h = λ i j lo le hi. (
      let e = in_first i (omega arith) in
      let f = in_first j hi in
      let r = h i j le hi in
      omega arith)

  second_rises : Rises b → RisesWithin all (length a) (length a + length b)
  second_rises h = λ i j lo le hi. (
      let p : ℕ = i - length a in
      let q : ℕ = j - length a in
      let back : length a + p ≡ i = omega arith in
      let forth : length a + q ≡ j = omega arith in
      let e : get_or all i 0 ≡ get_or b p 0 = ap (λ z. get_or all z 0) (sym back) ∙ in_second p (omega arith) in
      let f : get_or all j 0 ≡ get_or b q 0 = ap (λ z. get_or all z 0) (sym forth) ∙ in_second q (omega arith) in
      let r = h p q (omega arith) (omega arith) in
      omega (arith, e, f, r))

  third_rises : Rises c → RisesWithin all (length a + length b) (length all)
  third_rises h = λ i j lo le hi. (
      let n = long in
      let p : ℕ = i - (length a + length b) in
      let q : ℕ = j - (length a + length b) in
      let back : length a + length b + p ≡ i = omega arith in
      let forth : length a + length b + q ≡ j = omega arith in
      let e : get_or all i 0 ≡ get_or c p 0 = ap (λ z. get_or all z 0) (sym back) ∙ in_third p in
      let f : get_or all j 0 ≡ get_or c q 0 = ap (λ z. get_or all z 0) (sym forth) ∙ in_third q in
      let r = h p q (omega arith) (omega arith) in
      omega (arith, e, f, r))

  -- so are three stretches
  pub are_stretches : (n : ℕ) (xs : List ℕ) → xs ≡ a ++ b ++ c → AreParts n (a ++ b ++ c) → Rises a × Rises b × Rises c → AreStretches xs (length a) (length a + length b)
  unfolding all
  are_stretches n xs e parts rises = subst (λ (z : List ℕ). AreStretches z (length a) (length a + length b)) (sym e) (record {
    few = parts.few;
    first = omega arith;
    second = (let m = long in omega arith);
    own = first_rises rises.0;
    exec = second_rises rises.1;
    nonexec = third_rises rises.2;
    apart = parts.apart;
  })
