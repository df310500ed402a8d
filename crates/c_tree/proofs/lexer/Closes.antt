-- Where a comment is closed.
use Rattle.std.proofs.Common.{◌≡◌, ℕ, suc, ◌+◌, ◌-◌, ◌≤◌, ◌<◌, true, false, List, ◌∷◌, length, take, drop, get_or, Option, Some, None, refl, sym, ap, ◌∙◌, arith, length-drop, drop-cons, add-one}
use Rattle.std.proofs.lemmas.List.{drop_all, take_all}
use Rattle.c_tree.specs.Front.{further, closes, close_len}

-- `&bytes[n..]` is what is left
pub rest_is : (n : ℕ) (bs : List ℕ) → take (length bs - n) (drop n bs) ≡ drop n bs
rest_is n bs = take_all (length bs - n) (drop n bs) (omega (arith, length-drop n bs))

further_further : (n m : ℕ) (o : Option ℕ) → further n (further m o) ≡ further (n + m) o
further_further n m None = refl
further_further n m (Some k) = ap Some (omega arith)

close_open : (b : ℕ) (bs : List ℕ) → closes (b ∷ bs) ≡ false → close_len (b ∷ bs) ≡ further 1 (close_len bs)
close_open b bs t = rw t refl

close_closed : (b : ℕ) (bs : List ℕ) → closes (b ∷ bs) ≡ true → close_len (b ∷ bs) ≡ Some 2
close_closed b bs t = rw t refl

-- no `*/` at the front: one byte further
pub close_more : (bs : List ℕ) (i : ℕ) (all : Option ℕ) → i < length bs → closes (drop i bs) ≡ false → all ≡ further i (close_len (drop i bs)) → all ≡ further (i + 1) (close_len (drop (i + 1) bs))
close_more bs i all h t s =
    let left = drop-cons bs i 0 h in
    s ∙ ap (λ z. further i (close_len z)) left ∙ ap (further i) (close_open (get_or bs i 0) (drop (suc i) bs) (sym (ap closes left) ∙ t))
    ∙ further_further i 1 (close_len (drop (suc i) bs)) ∙ rw add-one refl

-- `*/` at the front
pub close_here : (bs : List ℕ) (i : ℕ) (all : Option ℕ) → i < length bs → closes (drop i bs) ≡ true → all ≡ further i (close_len (drop i bs)) → Some (i + 2) ≡ all
close_here bs i all h t s =
    let left = drop-cons bs i 0 h in
    sym (s ∙ ap (λ z. further i (close_len z)) left ∙ ap (further i) (close_closed (get_or bs i 0) (drop (suc i) bs) (sym (ap closes left) ∙ t)))

-- the end of the bytes
pub close_end : (bs : List ℕ) (i : ℕ) (all : Option ℕ) → length bs ≤ i → all ≡ further i (close_len (drop i bs)) → None ≡ all
close_end bs i all h s = sym (s ∙ ap (λ z. further i (close_len z)) (drop_all i bs h))
