-- Arguments of a list, one after another.
use Rattle.std.proofs.Common.{◌≡◌, ◌<◌, ◌≤◌, ◌+◌, ℕ, suc, Bool, true, false, ◌||◌, List, [], ◌∷◌, ◌++◌, take, length, get_or, refl, sym, ap, ◌∙◌, ⊎_elim, arith, get_or-take}
use Rattle.std.specs.List.{list_any}
use Rattle.std.proofs.lemmas.Bool.{false≢true, or_cases, eqb-true}
use Rattle.std.proofs.lemmas.List.{take_more, length-take-le}
use Rattle.op_num.specs.declared.reductions.access.Access.{Access}
use Rattle.bound_program.specs.declared.sites.Arg.{Arg}
use Rattle.bound_program.specs.declared.sites.Arg.TheVariants.{Dat, Global}
use Rattle.run_model.specs.Arguments.{no_arg}
use Rattle.deep_halo.specs.Globals.{is_on}

pub any_taken : (q : Arg → Bool) (xs : List Arg) (i : ℕ) (x : Arg) → i < length xs → get_or xs i no_arg ≡ x → list_any q (take (i + 1) xs) ≡ (list_any q (take i xs) || q x)
any_taken q xs i x lt is = ap (list_any q) (take_more xs i no_arg lt) ∙ any_snoc (take i xs) ∙ ap (λ z. list_any q (take i xs) || q z) is
  where
    or_nil : (a : Bool) → (a || false) ≡ a
    or_nil true = refl
    or_nil false = refl

    or_assoc : (p s r : Bool) → (p || (s || r)) ≡ ((p || s) || r)
    or_assoc true s r = refl
    or_assoc false s r = refl

    any_snoc : (zs : List Arg) → list_any q (zs ++ get_or xs i no_arg ∷ []) ≡ (list_any q zs || q (get_or xs i no_arg))
    any_snoc [] = or_nil (q (get_or xs i no_arg))
    any_snoc (z ∷ zs) = ap (λ t. q z || t) (any_snoc zs) ∙ or_assoc (q z) (list_any q zs) (q (get_or xs i no_arg))

-- an argument on the variable
pub record On (xs : List Arg) (n : ℕ) : Type 0 where
  pub number : ℕ
  pub access : Access
  pub there : number < length xs
  pub is : get_or xs number no_arg ≡ Global n access

pub on_there : (xs : List Arg) (n : ℕ) → list_any (is_on n) xs ≡ true → On xs n
on_there [] n h = absurd (false≢true h)
on_there (x ∷ xs) n h = ⊎_elim (first x) (λ (t : list_any (is_on n) xs ≡ true). let w = on_there xs n t in
    let l : suc w.number < suc (length xs) = omega (arith, w.there) in
    record { number = suc w.number; access = w.access; there = l; is = w.is }) (or_cases (is_on n x) (list_any (is_on n) xs) h)
  where
    first : (y : Arg) → is_on n y ≡ true → On (y ∷ xs) n
    first (Dat d v a) t = absurd (false≢true t)
    first (Global v a) t = record { number = 0; access = a; there = omega arith; is = ap (λ z. Global z a) (sym (eqb-true n v t)) }

-- among the first i
pub on_taken : (xs : List Arg) (i n : ℕ) → i ≤ length xs → list_any (is_on n) (take i xs) ≡ true → (w : On xs n) × (w.number < i)
on_taken xs i n le h =
    let w = on_there (take i xs) n h in
    let l : w.number < i = (let q = length-take-le i xs le in omega (arith, q, w.there)) in
    (record { number = w.number; access = w.access; there = omega (arith, l, le); is = sym (get_or-take i xs w.number no_arg l) ∙ w.is }, l)
