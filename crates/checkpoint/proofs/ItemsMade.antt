-- Items that print a state, one after another.
use Rattle.std.proofs.Common.{◌≡◌, ◌+◌, ◌<◌, ◌≤◌, ◌++◌, ℕ, suc, Bool, true, false, List, [], ◌∷◌, length, map, take, drop, get_or, sym, ap, ap₂, ◌∙◌, arith, append_assoc}
use Rattle.std.specs.Prelude.{if◌then◌else◌}
use Rattle.std.proofs.Math.Seq.{drop-cons}
use Rattle.std.proofs.lemmas.List.{append-nil, drop_all, map-append, take-map}
use Rattle.std.proofs.lemmas.List.FromFn.{map-range_with_len_more}
use Rattle.kernel_model.specs.declared.types.expressions.RExpr.{RExpr}
use Rattle.kernel_model.specs.declared.types.expressions.RExpr.TheVariants as e
use Rattle.kernel_model.specs.View.{rexpr_of, Scalar}
use Rattle.bound_program.specs.declared.acts.Item.{Item}
use Rattle.bound_program.specs.declared.programs.Var.{Var}
use Rattle.bound_program.specs.Values.{ItemValue, BoundValue, item_of, var_of}
use Rattle.run_model.specs.Windows.{numbers}
use Rattle.checkpoint.specs.Cut.{says_var, says_vars, says_dat, says_state}

pub cells-next : (from i cell : ℕ) (xs ys : List RExpr) → cell ≡ from + i → ys ≡ xs ++ e.Scalar cell ∷ []
    → map rexpr_of xs ≡ map Scalar (map (λ j. from + j) (numbers i)) → map rexpr_of ys ≡ map Scalar (map (λ j. from + j) (numbers (i + 1)))
cells-next from i cell xs ys c p h =
    ap (map rexpr_of) p ∙ map-append rexpr_of xs (e.Scalar cell ∷ [])
    ∙ ap₂ (λ l k. l ++ Scalar k ∷ []) h c
    ∙ sym (map-append Scalar (map (λ j. from + j) (numbers i)) ((from + i) ∷ []))
    ∙ ap (map Scalar) (sym (map-range_with_len_more (λ j. from + j) 0 i i (omega arith)))

pub dats-next : (zs : List ItemValue) (xs ys : List Item) (x : Item) (d : ℕ) → item_of x ≡ says_dat d → ys ≡ xs ++ x ∷ []
    → map item_of xs ≡ zs ++ map says_dat (numbers d) → map item_of ys ≡ zs ++ map says_dat (numbers (d + 1))
dats-next zs xs ys x d i p h =
    ap (map item_of) p ∙ map-append item_of xs (x ∷ [])
    ∙ ap₂ (λ l k. l ++ k ∷ []) h i
    ∙ append_assoc zs (map says_dat (numbers d)) (says_dat d ∷ [])
    ∙ ap (λ l. zs ++ l) (sym (map-range_with_len_more says_dat 0 d d (omega arith)))

left : (vs : List Var) (i : ℕ) (x : Var) → i < length vs → x ≡ get_or vs i x → drop i vs ≡ x ∷ drop (i + 1) vs
left vs i x l r = drop-cons vs i x l ∙ ap₂ (λ y k. y ∷ drop k vs) (sym r) (let s : suc i ≡ i + 1 = omega arith in s)

-- a variable that is `const` is passed over
pub vars-passed : (t z : List ItemValue) (n from : ℕ) (vs : List Var) (i : ℕ) (x : Var) → i < length vs → x ≡ get_or vs i x → x.is_const ≡ true
    → t ++ says_vars n from (map var_of (drop i vs)) ≡ z → t ++ says_vars n (from + length x.start) (map var_of (drop (i + 1) vs)) ≡ z
vars-passed t z n from vs i x l r c h =
    ap (λ (b : Bool). t ++ (if b then says_vars n (from + length x.start) (map var_of (drop (i + 1) vs))
    else says_var n (map (λ j. from + j) (numbers (length x.start))) ∷ says_vars (suc n) (from + length x.start) (map var_of (drop (i + 1) vs)))) (sym c)
    ∙ sym (ap (λ l. t ++ says_vars n from (map var_of l)) (left vs i x l r)) ∙ h

-- another is printed
pub vars-said : (z : List ItemValue) (xs ys : List Item) (y : Item) (n from : ℕ) (vs : List Var) (i : ℕ) (x : Var) → i < length vs → x ≡ get_or vs i x → x.is_const ≡ false
    → item_of y ≡ says_var n (map (λ j. from + j) (numbers (length x.start))) → ys ≡ xs ++ y ∷ []
    → map item_of xs ++ says_vars n from (map var_of (drop i vs)) ≡ z → map item_of ys ++ says_vars (n + 1) (from + length x.start) (map var_of (drop (i + 1) vs)) ≡ z
vars-said z xs ys y n from vs i x l r c is p h =
    let one = says_var n (map (λ j. from + j) (numbers (length x.start))) in
    let more = says_vars (suc n) (from + length x.start) (map var_of (drop (i + 1) vs)) in
    ap₂ (λ l k. l ++ says_vars k (from + length x.start) (map var_of (drop (i + 1) vs)))
    (ap (map item_of) p ∙ map-append item_of xs (y ∷ []) ∙ ap (λ k. map item_of xs ++ k ∷ []) is) (let s : n + 1 ≡ suc n = omega arith in s)
    ∙ append_assoc (map item_of xs) (one ∷ []) more
    ∙ ap (λ (b : Bool). map item_of xs ++ (if b then says_vars n (from + length x.start) (map var_of (drop (i + 1) vs)) else one ∷ more)) (sym c)
    ∙ sym (ap (λ l. map item_of xs ++ says_vars n from (map var_of l)) (left vs i x l r)) ∙ h

-- none is left
pub vars-end : (t z : List ItemValue) (n from : ℕ) (vs : List Var) (i : ℕ) → length vs ≤ i → t ++ says_vars n from (map var_of (drop i vs)) ≡ z → t ≡ z
vars-end t z n from vs i l h = sym (append-nil t) ∙ ap (λ l. t ++ says_vars n from (map var_of l)) (sym (drop_all i vs l)) ∙ h

-- ---- the whole

pub first-made : (xs ys : List Item) (x : Item) (v : ItemValue) → item_of x ≡ v → ys ≡ xs ++ x ∷ [] → map item_of ys ≡ map item_of xs ++ v ∷ []
first-made xs ys x v i p = ap (map item_of) p ∙ map-append item_of xs (x ∷ []) ∙ ap (λ k. map item_of xs ++ k ∷ []) i

pub all-made : (a t1 t2 t3 t4 vs ds : List ItemValue) (f d : ItemValue) → t1 ≡ a ++ f ∷ [] → t2 ≡ t1 ++ vs → t3 ≡ t2 ++ ds → t4 ≡ t3 ++ d ∷ [] → t4 ≡ a ++ (f ∷ vs ++ ds ++ d ∷ [])
all-made a t1 t2 t3 t4 vs ds f d p q r s =
    s ∙ ap (λ t. t ++ d ∷ []) (r ∙ ap (λ t. t ++ ds) (q ∙ ap (λ t. t ++ vs) p ∙ append_assoc a (f ∷ []) vs) ∙ append_assoc a (f ∷ vs) ds) ∙ append_assoc a (f ∷ vs ++ ds) (d ∷ [])

-- these items behind those before the cut
pub head-made : (b : BoundValue) (k : ℕ) (all before now : List Item) → b.trace ≡ map item_of all → before ≡ take k all
    → map item_of now ≡ map item_of before ++ says_state b k → map item_of now ≡ take k b.trace ++ says_state b k
head-made b k all before now e p h =
    h ∙ ap (λ t. t ++ says_state b k) (ap (map item_of) p ∙ sym (take-map item_of k all) ∙ ap (take k) (sym e))
