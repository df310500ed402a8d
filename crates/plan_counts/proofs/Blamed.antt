-- The arguments on one dat alone tell whether an argument on it makes a loop Ordered.
use Rattle.std.proofs.Common.{◌≡◌, ◌⊎◌, inl, inr, ℕ, Bool, true, false, cond, not, ◌&&◌, ◌||◌, nat_eq, List, [], ◌∷◌, Option, if◌then◌else◌, refl, sym, ap, subst, ◌∙◌, ⊎_elim}
use Rattle.std.specs.Prelude.{filter, is_none}
use Rattle.std.specs.List.{list_all}
use Rattle.std.proofs.lemmas.Bool.{cases_Bool, false≢true, eqb-true}
use Rattle.op_num.specs.declared.reductions.access.Access.{Access}
use Rattle.mesh_decl.specs.declared.access.Via.{Via}
use Rattle.bound_program.specs.declared.sites.Arg.{Arg}
use Rattle.bound_program.specs.declared.sites.Arg.TheVariants.{Dat, Global}
use Rattle.bound_program.specs.declared.sites.Class.{Class}
use Rattle.bound_program.specs.declared.sites.Class.TheVariants.{Free, Ordered}
use Rattle.bound_program.specs.Classes.{all_on, is_read, is_inc, is_min, is_max, is_orderly, is_orderly_arg, class_of}
use Rattle.plan_counts.specs.Parts.{is_on}

module _ (d : ℕ) where
  -- a test of all arguments on the dat sees these alone
  on_same : (t : Option Via → Access → Bool) (args : List Arg) → all_on d t (filter (is_on d) args) ≡ all_on d t args
  on_same t [] = refl
  on_same t (Global v a ∷ args) = on_same t args
  on_same t (Dat e v a ∷ args) = ⊎_elim
      (λ (h : nat_eq e d ≡ true). ap (λ z. all_on d t (cond z (Dat e v a ∷ filter (is_on d) args) (filter (is_on d) args))) h
      ∙ ap (λ z. (not (nat_eq e d) || t v a) && z) (on_same t args))
      (λ (h : nat_eq e d ≡ false). ap (λ z. all_on d t (cond z (Dat e v a ∷ filter (is_on d) args) (filter (is_on d) args))) h
      ∙ on_same t args
      ∙ ap (λ z. (not z || t v a) && all_on d t args) (sym h))
      (cases_Bool (nat_eq e d))

  module _ (args : List Arg) where
    own : List Arg
    own = filter (is_on d) args

    -- the dat is only read or orderly
    abbrev good : List Arg → Bool
    good xs = all_on d (λ w b. is_read b) xs || is_orderly xs d

    good_same : good own ≡ good args
    unfolding own
    good_same =
        ap (λ z. z || is_orderly own d) (on_same (λ w b. is_read b) args)
        ∙ ap (λ z. all_on d (λ w b. is_read b) args || (z || all_on d (λ w b. is_inc b) own || all_on d (λ w b. is_min b) own || all_on d (λ w b. is_max b) own)) (on_same (λ w b. is_none w) args)
        ∙ ap (λ z. all_on d (λ w b. is_read b) args || (all_on d (λ w b. is_none w) args || z || all_on d (λ w b. is_min b) own || all_on d (λ w b. is_max b) own)) (on_same (λ w b. is_inc b) args)
        ∙ ap (λ z. all_on d (λ w b. is_read b) args || (all_on d (λ w b. is_none w) args || all_on d (λ w b. is_inc b) args || z || all_on d (λ w b. is_max b) own)) (on_same (λ w b. is_min b) args)
        ∙ ap (λ z. all_on d (λ w b. is_read b) args || (all_on d (λ w b. is_none w) args || all_on d (λ w b. is_inc b) args || all_on d (λ w b. is_min b) args || z)) (on_same (λ w b. is_max b) args)

    -- an argument on the dat
    here : (e : ℕ) (w : Option Via) (b : Access) → nat_eq e d ≡ true → is_orderly_arg own (Dat e w b) ≡ good args
    here e w b h = subst (λ k. is_orderly_arg own (Dat k w b) ≡ good args) (sym (eqb-true e d h)) good_same

    where_good : good args ≡ true → (xs : List Arg) → list_all (is_orderly_arg own) (filter (is_on d) xs) ≡ true
    where_good g [] = refl
    where_good g (Global v a ∷ xs) = where_good g xs
    where_good g (Dat e v a ∷ xs) = ⊎_elim
        (λ (h : nat_eq e d ≡ true). ap (λ z. list_all (is_orderly_arg own) (cond z (Dat e v a ∷ filter (is_on d) xs) (filter (is_on d) xs))) h
        ∙ ap (λ z. z && list_all (is_orderly_arg own) (filter (is_on d) xs)) (here e v a h ∙ g)
        ∙ where_good g xs)
        (λ (h : nat_eq e d ≡ false). ap (λ z. list_all (is_orderly_arg own) (cond z (Dat e v a ∷ filter (is_on d) xs) (filter (is_on d) xs))) h
        ∙ where_good g xs)
        (cases_Bool (nat_eq e d))

    where_bad : good args ≡ false → (xs : List Arg)
        → (list_all (is_orderly_arg own) (filter (is_on d) xs) ≡ false) ⊎ (filter (is_on d) xs ≡ [])
    where_bad g [] = inr refl
    where_bad g (Global v a ∷ xs) = where_bad g xs
    where_bad g (Dat e v a ∷ xs) = ⊎_elim
        (λ (h : nat_eq e d ≡ true). inl (ap (λ z. list_all (is_orderly_arg own) (cond z (Dat e v a ∷ filter (is_on d) xs) (filter (is_on d) xs))) h
        ∙ ap (λ z. z && list_all (is_orderly_arg own) (filter (is_on d) xs)) (here e v a h ∙ g)))
        (λ (h : nat_eq e d ≡ false). subst
        (λ (z : List Arg). (list_all (is_orderly_arg own) z ≡ false) ⊎ (z ≡ []))
        (sym (ap (λ z. cond z (Dat e v a ∷ filter (is_on d) xs) (filter (is_on d) xs)) h)) (where_bad g xs))
        (cases_Bool (nat_eq e d))

    -- a dat that no argument is on
    where_none : own ≡ [] → good args ≡ true
    unfolding own
    where_none e =
        ap (λ z. z || is_orderly args d) (sym (on_same (λ w b. is_read b) args) ∙ ap (λ (z : List Arg). all_on d (λ w b. is_read b) z) e)

    all_good : list_all (is_orderly_arg own) own ≡ good args
    unfolding own
    all_good = ⊎_elim
        (λ (g : good args ≡ true). where_good g args ∙ sym g)
        (λ (g : good args ≡ false). ⊎_elim
        (λ (h : list_all (is_orderly_arg own) own ≡ false). h ∙ sym g)
        (λ (h : own ≡ []). absurd (false≢true (sym g ∙ where_none h)))
        (where_bad g args))
        (cases_Bool (good args))

    -- the class of a loop with these alone
    pub alone : class_of (filter (is_on d) args) ≡ (if all_on d (λ w b. is_read b) args || is_orderly args d then Free else Ordered)
    unfolding own
    alone = ap (λ z. if z then Free else Ordered) all_good

by_class : (g : Bool) (c : Class) → c ≡ (if g then Free else Ordered) → (c ≡ Ordered → true ≡ not g) × (c ≡ Free → false ≡ not g)
by_class true c e = (λ o. absurd (let bad : ⊥ = cc in bad), λ f. refl)
by_class false c e = (λ o. refl, λ f. absurd (let bad : ⊥ = cc in bad))

-- an Ordered loop is made so by the argument, and a Free one isn't
pub ordered_by : (args : List Arg) (d : ℕ) (v : Option Via) (a : Access) → class_of (filter (is_on d) args) ≡ Ordered → true ≡ not (is_orderly_arg args (Dat d v a))
ordered_by args d v a = (by_class _ _ (alone d args)).0

pub free_by : (args : List Arg) (d : ℕ) (v : Option Via) (a : Access) → class_of (filter (is_on d) args) ≡ Free → false ≡ not (is_orderly_arg args (Dat d v a))
free_by args d v a = (by_class _ _ (alone d args)).1
