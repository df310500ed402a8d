-- A pointer moves past items that are done for its rank.
use Rattle.std.proofs.Common.{◌≡◌, ℕ, ◌+◌, ◌<◌, ◌≤◌, sym, ap, subst, ◌∙◌, arith, ⊎_elim, List, ◌++◌, length, get_or, set, take, drop}
use Rattle.std.specs.Prelude.{◌⊎◌}
use Rattle.step_judge.specs.Marked.{Marked, no_item, Stands}
use Rattle.step_judge.specs.Kept.{Whole}
use Rattle.std.proofs.lemmas.Bool.{cases_eq, cases_lt}
use Rattle.std.proofs.lemmas.List.{set-get_or, get_or_default, get_or_read, get_or-set_same, get_or-set_other, length-set, drop_all, take_all, append-nil}
use Rattle.step_judge.specs.Item.{Item, Complete}

pub unchanged : (items all : List Item) (here : ℕ) (d new : Item) → items ≡ all → new ≡ get_or items here d → set items here new ≡ all
unchanged items all here d new same e = ap (λ z. set items here z) e ∙ (set-get_or items here d ∙ same)

pub passed_more : (items all : List Item) (from here x : ℕ) (d₀ : Item) → items ≡ all → here < length all
    → Complete (get_or items here d₀) x → ((k : ℕ) (d : Item) → from ≤ k → k < here → Complete (get_or all k d) x) → (k : ℕ) (d : Item)
    → from ≤ k → k < here + 1 → Complete (get_or all k d) x
passed_more items all from here x d₀ same lt done h k d le kl = ⊎_elim
    (λ (e : k ≡ here). subst (λ z. Complete (get_or all z d) x) (sym e) (subst (λ z. Complete z x) (ap (λ z. get_or z here d₀) same ∙ get_or_default all here d₀ d lt) done))
    (λ (ne : k ≡ here → ⊥). h k d le (omega arith))
    (cases_eq k here)

-- a vector written back as it was
pub back : (items new : List Item) (len : ℕ) → new ≡ items → length items ≡ len → take len (new ++ drop (length new) items) ≡ items
back items new len e n =
    ap (λ z. take len (z ++ drop (length z) items)) e
    ∙ (ap (λ z. take len (items ++ z)) (drop_all (length items) items (omega arith))
    ∙ (ap (λ z. take len z) (append-nil items) ∙ take_all len items (omega arith)))

-- the rank stands further on
pub stands_moved : (v : Marked) (at : List ℕ) (x from here to : ℕ) → Whole v at → x < v.ranks → from ≡ get_or at x from → (here ≤ to)
    ⊎ (here ≡ from) → to ≤ length v.items → ((k : ℕ) (d : Item) → from ≤ k → k < here → Complete (get_or v.items k d) x)
    → Whole v (set at x here)
stands_moved v at x from here to w lt read within tol passed =
    let xin : x < length at = (let r : length at ≡ v.ranks = w.each_rank in omega arith) in
    let old : from ≡ get_or at x 0 = get_or_read at x from xin read 0 in
    record {
      laid = w.laid;
      each_rank = length-set at x here ∙ w.each_rank;
      at_in = λ y yl. ⊎_elim
          (λ (e : y ≡ x). subst (λ z. get_or (set at x here) z 0 ≤ length v.items) (sym e)
          (subst (λ z. z ≤ length v.items) (sym (get_or-set_same at x here 0 xin))
          (let o : get_or at x 0 ≤ length v.items = w.at_in x lt in ⊎_elim (λ (q : here ≤ to). omega arith) (λ (q : here ≡ from). omega arith) within)))
          (λ (ne : y ≡ x → ⊥). subst (λ z. z ≤ length v.items) (sym (get_or-set_other at x y here 0 ne)) (w.at_in y yl))
          (cases_eq y x);
      at_stands = λ y yl. ⊎_elim
          (λ (e : y ≡ x). subst (λ z. Stands v z (get_or (set at x here) z 0)) (sym e)
          (subst (λ z. Stands v x z) (sym (get_or-set_same at x here 0 xin))
          (λ i il. ⊎_elim
          (λ (q : i < from). w.at_stands x lt i (omega arith))
          (λ (q : from ≤ i). passed i no_item q il)
          (cases_lt i from))))
          (λ (ne : y ≡ x → ⊥). subst (λ z. Stands v y z) (sym (get_or-set_other at x y here 0 ne)) (w.at_stands y yl))
          (cases_eq y x);
    }
