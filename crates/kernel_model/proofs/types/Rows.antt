-- What holds of the row of a block holds of each statement of its list, and the other way round.
use Rattle.std.proofs.Common.{◌≡◌, ◌+◌, ◌<◌, ℕ, suc, List, [], ◌∷◌, length, get_or, drop, Bool, true, false, ◌∙◌, sym, ap, subst, add-one, drop-cons, Vec, Global}
use Rattle.std.specs.Prelude.{◌↔◌, IsTrue}
use mathlib.Core.Former.{Count}
use Rattle.kernel_model.specs.declared.types.statements.RStmt.{RStmt, Block, Block', Row_of-RStmt, end_of-RStmt, more_of-RStmt, items-the_row-RStmt, items_hidden-the_row-RStmt-0}

-- each of the list has the property
abbrev pub Each : (RStmt → Type 0) → List RStmt → Type 0
Each P [] = Unit {0}
Each P (st ∷ rest) = P st × Each P rest

abbrev row_of : RStmt → (n : Count) × Row_of-RStmt n
row_of (Block' _ row) = (_, row)
row_of _ = (_, end_of-RStmt)

module _ (P : RStmt → Type 0) (R : (n : Count) → Row_of-RStmt n → Type 0) (nothing : R _ end_of-RStmt)
    (first_of : (n : Count) (first : RStmt) (rest : Row_of-RStmt n) → R _ (more_of-RStmt first rest) ↔ (P first × R n rest)) where
  listed : (n : Count) (row : Row_of-RStmt n) → R n row → Each P (items-the_row-RStmt n row)
  listed n end_of-RStmt h = tt
  listed n (more_of-RStmt first rest) h = let k = (first_of _ first rest).0 h in (k.0, listed _ rest k.1)

  in_row : (n : Count) (row : Row_of-RStmt n) → Each P (items-the_row-RStmt n row) → R n row
  in_row n end_of-RStmt h = nothing
  in_row n (more_of-RStmt first rest) h = (first_of _ first rest).1 (h.0, in_row _ rest h.1)

  pub of_block : (all : Vec RStmt Global) → R (row_of (Block all)).0 (row_of (Block all)).1 ↔ Each P all.items
  of_block all =
      let row = row_of (Block all) in
      (λ h. subst (Each P) (items_hidden-the_row-RStmt-0 all) (listed row.0 row.1 h), λ h. in_row row.0 row.1 (subst (Each P) (sym (items_hidden-the_row-RStmt-0 all)) h))

-- a block has the property where each of its statements has
pub whole : (P : RStmt → Type 0) (st : RStmt) (all : Vec RStmt Global) (items : List RStmt) → st ≡ Block all → items ≡ all.items → P (Block all) ↔ Each P all.items → P st ↔ Each P items
whole P st all items e f h = subst (λ b. P b ↔ Each P items) (sym e) (subst (λ l. P (Block all) ↔ Each P l) (sym f) h)

here : (P : RStmt → Type 0) (xs : List RStmt) (i : ℕ) (x : RStmt) → i < length xs → x ≡ get_or xs i x → Each P (drop i xs) ↔ (P x × Each P (drop (i + 1) xs))
here P xs i x lt e =
    let cut : drop i xs ≡ x ∷ drop (i + 1) xs = drop-cons xs i x lt ∙ ap (λ y. y ∷ drop (suc i) xs) (sym e) ∙ ap (λ n. x ∷ drop n xs) (sym (add-one i)) in
    (λ h. let k = subst (Each P) cut h in (k.0, k.1), λ h. subst (Each P) (sym cut) (h.0, h.1))

-- one more has the property
pub turn : (P : RStmt → Type 0) (S : Type 0) (xs : List RStmt) (i : ℕ) (x : RStmt) (b : Bool) → i < length xs → x ≡ get_or xs i x
    → IsTrue b ↔ P x → b ≡ true → S ↔ Each P (drop i xs) → S ↔ Each P (drop (i + 1) xs)
turn P S xs i x b lt e d t h =
    let k = here P xs i x lt e in
    (λ s. (k.0 (h.0 s)).1, λ rest. h.1 (k.1 (d.0 t, rest)))

-- one hasn't
pub never : (P : RStmt → Type 0) (S : Type 0) (xs : List RStmt) (i : ℕ) (x : RStmt) (b : Bool) → i < length xs → x ≡ get_or xs i x
    → IsTrue b ↔ P x → b ≡ false → S ↔ Each P (drop i xs) → IsTrue false ↔ S
never P S xs i x b lt e d f h =
    let k = here P xs i x lt e in
    (λ t. absurd (let k : true ≡ false = sym t in let f : ⊥ = cc in f), λ s. subst IsTrue f (d.1 (k.0 (h.0 s)).0))

-- both parts hold
pub both : (A B S : Type 0) (a b : Bool) → S ↔ (A × B) → IsTrue a ↔ A → a ≡ true → IsTrue b ↔ B → IsTrue b ↔ S
both A B S a b s d t k = (λ h. s.1 (d.0 t, k.0 h), λ h. k.1 (s.0 h).1)

-- the first doesn't
pub first_fails : (A B S : Type 0) (a : Bool) → S ↔ (A × B) → IsTrue a ↔ A → a ≡ false → IsTrue a ↔ S
first_fails A B S a s d f = (λ h. absurd (let k : true ≡ false = sym h ∙ f in let n : ⊥ = cc in n), λ h. d.1 (s.0 h).0)

-- what a test says of a part says it of the part where it stands
pub at_part : (P : RStmt → Type 0) (b : Bool) (x y : RStmt) → x ≡ y → IsTrue b ↔ P x → IsTrue b ↔ P y
at_part P b x y e d = subst (λ z. IsTrue b ↔ P z) e d
