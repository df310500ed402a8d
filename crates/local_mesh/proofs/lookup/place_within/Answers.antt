use Rattle.std.proofs.Common.{◌≡◌, ◌≢◌, ◌+◌, ◌-◌, ◌<◌, ◌≤◌, ℕ, List, length, get_or, take, drop, Ok, Err, arith, ap, sym, ◌∙◌, ⊎_elim, length-take-le, length-drop, get_or-take, get_or-drop}
use Rattle.std.specs.Ordering.{nat_cmp}
use Rattle.std.specs.List.Sorted.{IsBinarySearchResult}
use Rattle.std.proofs.lemmas.Bool.{cases_lt}
use Rattle.std.proofs.lemmas.List.Sorted.{searched}
use Rattle.local_mesh.specs.Lookup.{RisesWithin}
use Rattle.local_mesh.proofs.lookup.place_within.Goals as goal

module _ (xs : List ℕ) (b e : ℕ) (lo : b ≤ e) (hi : e ≤ length xs) (rising : RisesWithin xs b e) where
  part : List ℕ
  part = take (e - b) (drop b xs)

  long : length part ≡ e - b
  unfolding part
  long = let d = length-drop b xs in length-take-le (e - b) (drop b xs) (omega arith)

  value : (k : ℕ) → k < e - b → get_or part k 0 ≡ get_or xs (b + k) 0
  unfolding part
  value k l = get_or-take (e - b) (drop b xs) k 0 l ∙ get_or-drop b xs k 0

  rises : (i j : ℕ) → i ≤ j → j < length part → get_or part i 0 ≤ get_or part j 0
  rises i j le l =
      let n = long in
      let a = value i (omega arith) in
      let c = value j (omega arith) in
      let r = rising (b + i) (b + j) (omega arith) (omega arith) (omega arith) in
      omega arith

  found : (x k : ℕ) → IsBinarySearchResult (λ y. nat_cmp y x) part (Ok k) → (b + k < length xs) × (get_or xs (b + k) 0 ≡ x)
  found x k pos =
      let n = long in
      let s = searched part x (Ok k) pos rises in
      let l : k < e - b = omega (arith, s.0) in
      (omega arith, sym (value k l) ∙ s.1)

  absent : (x i : ℕ) → IsBinarySearchResult (λ y. nat_cmp y x) part (Err i) → (k : ℕ) → b ≤ k → k < e → get_or xs k 0 ≢ x
  absent x i pos k lk ke q =
      let n = long in
      let s = searched part x (Err i) pos rises in
      let m : ℕ = k - b in
      let back : b + m ≡ k = omega arith in
      let here : get_or part m 0 ≡ x = value m (omega arith) ∙ (ap (λ z. get_or xs z 0) back ∙ q) in
      ⊎_elim
      (λ (l : m < i). let h = s.1 m l in absurd (omega arith))
      (λ (l : i ≤ m). let h = s.2 m l (omega arith) in absurd (omega arith))
      (cases_lt m i)

pub returns-in-Ok-clause-some : goal.returns-in-Ok-clause-some
unfolding part
returns-in-Ok-clause-some c = found c.args.numbers.now c.args.begin c.args.end c.requires.begin c.requires.end c.requires.rising c.args.number c.in-Ok.at c.in-Ok.ensures.position

pub returns-in-Err-clause-none : goal.returns-in-Err-clause-none
unfolding part
returns-in-Err-clause-none c = absent c.args.numbers.now c.args.begin c.args.end c.requires.begin c.requires.end c.requires.rising c.args.number c.in-Err.field-0 c.in-Err.ensures.position
