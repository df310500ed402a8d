-- How the arguments of a loop reach variables.
use Rattle.std.proofs.Common.{◌≡◌, ◌<◌, ◌≤◌, ℕ, zero, suc, true, false, List, [], ◌∷◌, length, get_or, Some, None, refl, sym, ap, subst, ◌∙◌, arith, ⊎_elim}
use Rattle.std.specs.Prelude.{nat_eq}
use Rattle.std.proofs.lemmas.Bool.{cases_Bool, cases_lt, cond-true, cond-false, eqb-true, eq-eqb}
use Rattle.std.proofs.lemmas.List.Folds.{list_any_at}
use Rattle.op_num.specs.Reduction.{Reduction, Add, Min, Max}
use Rattle.op_num.specs.Access.{OpReduce, access_of}
use Rattle.op_num.specs.declared.reductions.access.Access.{Access}
use Rattle.op_num.specs.declared.reductions.access.Access.TheVariants as code
use Rattle.bound_program.specs.declared.sites.Arg.{Arg}
use Rattle.bound_program.specs.declared.sites.Arg.TheVariants.{Dat, Global}
use Rattle.bound_program.specs.Classes.{is_reducing, reduces, is_reduced}
use Rattle.bound_program.specs.Fits.{AreApart, AllApart}
use Rattle.run_model.specs.Arguments.{no_arg}
use Rattle.bound_plan.specs.Variables.{reduction_of, reduced_by}

none_some : (o : Reduction) → None ≡ Some o → ⊥
none_some o e = cc

-- an access that merges amounts, as the theorem names it
pub reduction_is : (a : Access) (o : Reduction) → reduction_of a ≡ Some o → access_of a ≡ OpReduce o
reduction_is code.Read o e = absurd (none_some o e)
reduction_is code.Write o e = absurd (none_some o e)
reduction_is code.Rw o e = absurd (none_some o e)
reduction_is code.Inc o e = let q : Add ≡ o = cc in ap OpReduce q
reduction_is code.Min o e = let q : Min ≡ o = cc in ap OpReduce q
reduction_is code.Max o e = let q : Max ≡ o = cc in ap OpReduce q

pub reducing_is : (a : Access) (o : Reduction) → access_of a ≡ OpReduce o → reduction_of a ≡ Some o
reducing_is code.Read o e = let q : ⊥ = cc in absurd q
reducing_is code.Write o e = let q : ⊥ = cc in absurd q
reducing_is code.Rw o e = let q : ⊥ = cc in absurd q
reducing_is code.Inc o e = let q : Add ≡ o = cc in ap Some q
reducing_is code.Min o e = let q : Min ≡ o = cc in ap Some q
reducing_is code.Max o e = let q : Max ≡ o = cc in ap Some q

pub is_reducing_is : (a : Access) (o : Reduction) → access_of a ≡ OpReduce o → is_reducing a ≡ true
is_reducing_is code.Read o e = let q : ⊥ = cc in absurd q
is_reducing_is code.Write o e = let q : ⊥ = cc in absurd q
is_reducing_is code.Rw o e = let q : ⊥ = cc in absurd q
is_reducing_is code.Inc o e = refl
is_reducing_is code.Min o e = refl
is_reducing_is code.Max o e = refl

-- an argument on the variable, which merges amounts into it
pub record Reducing (xs : List Arg) (n : ℕ) (o : Reduction) : Type 0 where
  pub number : ℕ
  pub access : Access
  pub there : number < length xs
  pub is : get_or xs number no_arg ≡ Global n access
  pub how : reduction_of access ≡ Some o

further : (x : Arg) (xs : List Arg) (n : ℕ) (o : Reduction) → Reducing xs n o → Reducing (x ∷ xs) n o
further x xs n o r = record { number = suc r.number; access = r.access; there = (let l : r.number < length xs = r.there in omega arith); is = r.is; how = r.how }

pub reduced_some : (xs : List Arg) (n : ℕ) (o : Reduction) → reduced_by xs n ≡ Some o → Reducing xs n o
reduced_some [] n o h = absurd (none_some o h)
reduced_some (Dat d v a ∷ xs) n o h = further (Dat d v a) xs n o (reduced_some xs n o h)
reduced_some (Global v a ∷ xs) n o h = ⊎_elim
    (λ (t : nat_eq v n ≡ true).
    let first : Reducing (Global v a ∷ xs) n o = record {
      number = 0;
      access = a;
      there = omega arith;
      is = ap (λ z. Global z a) (eqb-true v n t);
      how = sym (cond-true (nat_eq v n) (reduction_of a) (reduced_by xs n) t) ∙ h;
    } in
    first)
    (λ (t : nat_eq v n ≡ false). further (Global v a) xs n o (reduced_some xs n o (sym (cond-false (nat_eq v n) (reduction_of a) (reduced_by xs n) t) ∙ h)))
    (cases_Bool (nat_eq v n))

-- such a loop merges amounts into variables
pub reduces_is : (xs : List Arg) (n : ℕ) (o : Reduction) → Reducing xs n o → reduces xs ≡ true
reduces_is xs n o r = list_any_at is_reduced xs r.number no_arg r.there (ap is_reduced r.is ∙ is_reducing_is r.access o (reduction_is r.access o r.how))

-- two arguments by their numbers
apart_at : (xs : List Arg) → AllApart xs → (i j : ℕ) → i < j → j < length xs → AreApart (get_or xs i no_arg) (get_or xs j no_arg)
apart_at [] p i j l lj = absurd (omega arith)
apart_at (x ∷ xs) p i zero l lj = absurd (omega arith)
apart_at (x ∷ xs) p zero (suc j) l lj = p.0 j no_arg (omega arith)
apart_at (x ∷ xs) p (suc i) (suc j) l lj = apart_at xs p.1 i j (omega arith) (omega arith)

read_reduces : (a : Access) (o : Reduction) → a ≡ code.Read → reduction_of a ≡ Some o → ⊥
read_reduces a o e h = none_some o (sym (ap reduction_of e) ∙ h)

both : (xs : List Arg) (i j v : ℕ) (x y : Access) → AreApart (get_or xs i no_arg) (get_or xs j no_arg) → get_or xs i no_arg ≡ Global v x
    → get_or xs j no_arg ≡ Global v y → (x ≡ code.Read) × (y ≡ code.Read)
both xs i j v x y p ei ej = (subst (λ z. AreApart (Global v x) z) ej (subst (λ z. AreApart z (get_or xs j no_arg)) ei p)) refl

-- a variable into which an argument merges amounts has no other argument
pub named_once : (xs : List Arg) → AllApart xs → (a b v : ℕ) (x y : Access) (o : Reduction) → a < length xs → b < length xs
    → get_or xs a no_arg ≡ Global v x → get_or xs b no_arg ≡ Global v y → reduction_of y ≡ Some o → a ≡ b
named_once xs p a b v x y o la lb ea eb h = ⊎_elim
    (λ (l : a < b). absurd (read_reduces y o (both xs a b v x y (apart_at xs p a b l lb) ea eb).1 h))
    (λ (l : b ≤ a). ⊎_elim
    (λ (m : b < a). absurd (read_reduces y o (both xs b a v y x (apart_at xs p b a m la) eb ea).0 h))
    (λ (m : a ≤ b). omega arith)
    (cases_lt b a))
    (cases_lt a b)

-- how it merges them is how the loop does
pub first_reduces : (xs : List Arg) → AllApart xs → (a n : ℕ) (x : Access) (o : Reduction) → a < length xs → get_or xs a no_arg ≡ Global n x → reduction_of x ≡ Some o → reduced_by xs n ≡ Some o
first_reduces [] p a n x o l e h = absurd (omega arith)
first_reduces (Dat d v c ∷ xs) p zero n x o l e h = let q : ⊥ = cc in absurd q
first_reduces (Dat d v c ∷ xs) p (suc a) n x o l e h = first_reduces xs p.1 a n x o (omega arith) e h
first_reduces (Global v c ∷ xs) p zero n x o l e h =
    let i : v ≡ n = cc in
    let j : c ≡ x = cc in
    cond-true (nat_eq v n) (reduction_of c) (reduced_by xs n) (eq-eqb v n i) ∙ ap reduction_of j ∙ h
first_reduces (Global v c ∷ xs) p (suc a) n x o l e h = ⊎_elim
    (λ (t : nat_eq v n ≡ true). absurd (read_reduces x o ((subst (λ z. AreApart (Global v c) z) e (p.0 a no_arg (omega arith))) (eqb-true v n t)).1 h))
    (λ (t : nat_eq v n ≡ false). cond-false (nat_eq v n) (reduction_of c) (reduced_by xs n) t ∙ first_reduces xs p.1 a n x o (omega arith) e h)
    (cases_Bool (nat_eq v n))
