-- Static values along chains of binary operators: one node further down, and back up.
use Rattle.std.proofs.Common.{◌≡◌, ◌≢◌, ℕ, zero, suc, ℤ, pos, ◌+◌, ◌-◌, ◌<◌, ◌≤◌, List, length, map, set, get_or, Option, refl, sym, ap, ◌∙◌, subst, arith, add-one, get_or-set_other, get_or-set_same, below_more, Box, Global}
use Rattle.std.proofs.lemmas.List.{map-set, length-map, get_or-map}
use Rattle.c_tree.specs.declared.lexer.tokens.Pos.{Pos}
use Rattle.c_tree.specs.declared.expressions.BinaryOp.{BinaryOp}
use Rattle.kernel_model.specs.declared.types.expressions.RExpr.{RExpr, Binary}
use Rattle.kernel_model.specs.declared.types.expressions.RExpr.TheVariants.{Number}
use Rattle.kernel_model.specs.Obeys.{Counters, static}
use Rattle.access_check.specs.Chains.{after_left, over_chain}

abbrev node : List RExpr → ℕ → RExpr
node xs i = get_or xs i (Number (pos 0))

node_here : (xs : List RExpr) (n : ℕ) (e : RExpr) → n < length xs → node (set xs n e) n ≡ e
node_here xs n e h = rw get_or-set_same refl

node_other : (xs : List RExpr) (n i : ℕ) (e : RExpr) → i < n → node (set xs n e) i ≡ node xs i
node_other xs n i e h = let ne : i ≢ n = omega arith in rw get_or-set_other refl

-- what holds of the first n nodes, and of one more, holds of the first n + 1
pub all_below_set : {A : Type 0} (P : RExpr → Type 0) (xs : List A) (f : A → RExpr) (n : ℕ) (a : A) → n < length xs
    → ((i : ℕ) → i < n → P (node (map f xs) i)) → P (f a) → (i : ℕ) → i < n + 1 → P (node (map f (set xs n a)) i)
all_below_set P xs f n a lt h p =
    let long : n < length (map f xs) = omega (arith, length-map xs f) in
    below_more (λ i. P (node (map f (set xs n a)) i)) n
    (λ i l. subst (λ ys. P (node ys i)) (sym (map-set f xs n a)) (subst P (sym (node_other (map f xs) n i (f a) l)) (h i l)))
    (subst (λ ys. P (node ys n)) (sym (map-set f xs n a)) (subst P (sym (node_here (map f xs) n (f a) long)) p))

-- what holds of a node
pub at_node : {A : Type 0} (P : RExpr → Type 0) (xs : List A) (f : A → RExpr) (i : ℕ) (d : A) → i < length xs → P (node (map f xs) i) → P (f (get_or xs i d))
at_node P xs f i d lt p = subst P (get_or-map f xs i d (Number (pos 0)) lt) p

module _ (cs : Counters) where
  abbrev chain : List RExpr → ℕ → Option ℤ → Option ℤ
  chain nodes n x = over_chain cs nodes n x

  -- nodes after the chain don't count
  chain_same : (xs ys : List RExpr) (n : ℕ) (x : Option ℤ) → ((i : ℕ) → i < n → node xs i ≡ node ys i) → chain xs n x ≡ chain ys n x
  chain_same xs ys zero x h = refl
  chain_same xs ys (suc n) x h =
      let last : n < suc n = omega arith in
      ap (λ e. chain xs n (after_left cs e x)) (h n last)
      ∙ chain_same xs ys n (after_left cs (node ys n) x) (λ i lt. let below : i < suc n = omega arith in h i below)

  -- one node further down
  pub chain_down : {A : Type 0} (xs : List A) (f : A → RExpr) (n : ℕ) (a : A) (x : Option ℤ) → n < length xs → chain (map f (set xs n a)) (n + 1) x ≡ chain (map f xs) n (after_left cs (f a) x)
  chain_down xs f n a x h =
      let long : n < length (map f xs) = omega (arith, length-map xs f) in
      ap (λ l. chain l (n + 1) x) (map-set f xs n a)
      ∙ ap (λ m. chain (set (map f xs) n (f a)) m x) (add-one n)
      ∙ ap (λ e. chain (set (map f xs) n (f a)) n (after_left cs e x)) (node_here (map f xs) n (f a) long)
      ∙ chain_same (set (map f xs) n (f a)) (map f xs) n (after_left cs (f a) x) (λ i lt. node_other (map f xs) n i (f a) lt)

  -- a binary node has the value of its operator at its left operand's value
  pub value_down : (e : RExpr) (op : BinaryOp) (left right : Box RExpr Global) (at : Pos) (r : RExpr) → e ≡ Binary op left right at → r ≡ left.value → after_left cs e (static r cs) ≡ static e cs
  value_down e op left right at r h k =
      subst (λ x. after_left cs x (static r cs) ≡ static x cs) (sym h)
      (subst (λ y. after_left cs (Binary op left right at) (static y cs) ≡ static (Binary op left right at) cs) (sym k) refl)

  -- one node back up
  chain_up : (xs : List RExpr) (n : ℕ) (x : Option ℤ) → 0 < n → chain xs n x ≡ chain xs (n - 1) (after_left cs (node xs (n - 1)) x)
  chain_up xs zero x h = absurd (omega arith)
  chain_up xs (suc n) x h = ap (λ m. chain xs m (after_left cs (node xs m) x)) (back n)
    where
      back : (n : ℕ) → n ≡ suc n - 1
      back n = omega arith

  pub turn_up : {A : Type 0} (xs : List A) (f : A → RExpr) (n : ℕ) (d : A) (x y : Option ℤ) → 0 < n → n ≤ length xs
      → y ≡ after_left cs (f (get_or xs (n - 1) d)) x → chain (map f xs) (n - 1) y ≡ chain (map f xs) n x
  turn_up xs f n d x y some fits e =
      let lt : n - 1 < length xs = omega arith in
      ap (chain (map f xs) (n - 1)) (e ∙ ap (λ z. after_left cs z x) (sym (get_or-map f xs (n - 1) d (Number (pos 0)) lt)))
      ∙ sym (chain_up (map f xs) n x some)
