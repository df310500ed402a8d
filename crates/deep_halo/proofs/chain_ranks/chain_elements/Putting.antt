-- What kernels are given of variables, argument by argument.
use Rattle.std.proofs.Common.{◌≡◌, ◌≢◌, ◌<◌, ◌+◌, ◌⊎◌, inl, inr, ⊎_elim, ℕ, Bool, true, false, cond, ◌&&◌, ◌||◌, nat_eq, List, [], ◌∷◌, ◌++◌, take, length, get_or, Option, Some, None, refl, sym, ap, ap₂, ◌∙◌, w32, to_z, of_z}
use Rattle.std.specs.List.{list_any}
use Rattle.std.proofs.lemmas.Bool.{and_parts, eqb-true, ne_eqb}
use Rattle.std.proofs.lemmas.List.{take_more}
use Rattle.op_num.specs.Reduction.{Reduction, Add, Min, Max, unit_of}
use Rattle.op_num.specs.declared.reductions.access.Access.{Access}
use Rattle.schedule_model.specs.Cells.{Cell, Data, Variable, VarCell}
use Rattle.schedule_model.specs.Machine.{window_of}
use Rattle.bound_program.specs.declared.sites.Arg.{Arg}
use Rattle.bound_program.specs.declared.sites.Arg.TheVariants.{Dat, Global}
use Rattle.bound_program.specs.Fits.{AllApart}
use Rattle.run_model.specs.Windows.{Whole, cell_in}
use Rattle.run_model.specs.Arguments.{no_arg}
use Rattle.bound_plan.specs.Variables.{reduction_of, reduced_by}
use Rattle.bound_plan.proofs.Public.{reduced_some, first_reduces, named_once}
use Rattle.deep_halo.specs.Cells.{Values}
use Rattle.deep_halo.specs.Globals.{is_on, with_global, with_globals}
use Rattle.lemmas.proofs.Truth.{cases_bool, cond_never, cond_or}
use Rattle.std.proofs.Math.Bool.{or-false}

-- ---- how an argument merges amounts is how the loop does

some_or_none : (r : Option Reduction) → (r ≡ None) ⊎ ((o : Reduction) × (r ≡ Some o))
some_or_none None = inl refl
some_or_none (Some o) = inr (o, refl)

pub how_all : (xs : List Arg) → AllApart xs → (i v : ℕ) (a : Access) → i < length xs → get_or xs i no_arg ≡ Global v a → reduced_by xs v ≡ reduction_of a
how_all xs apart i v a lt is = ⊎_elim
    (λ (none : reduction_of a ≡ None). ⊎_elim
    (λ (z : reduced_by xs v ≡ None). z ∙ sym none)
    (λ (w : (o : Reduction) × (reduced_by xs v ≡ Some o)).
    let r = reduced_some xs v w.0 w.1 in
    let same : i ≡ r.number = named_once xs apart i r.number v a r.access w.0 lt r.there is r.is r.how in
    let one : Global v a ≡ Global v r.access = sym is ∙ ap (λ k. get_or xs k no_arg) same ∙ r.is in
    let acc : a ≡ r.access = cc in
    let q : None ≡ Some w.0 = sym none ∙ ap reduction_of acc ∙ r.how in
    let z : ⊥ = cc in absurd z)
    (some_or_none (reduced_by xs v)))
    (λ (w : (o : Reduction) × (reduction_of a ≡ Some o)). first_reduces xs apart i v a w.0 lt is w.1 ∙ sym w.1)
    (some_or_none (reduction_of a))

-- a unit is an `i32`
pub same_unit : (o : Reduction) → to_z w32 (of_z w32 (unit_of o)) ≡ unit_of o
same_unit Add = refl
same_unit Min = refl
same_unit Max = refl

-- ---- argument by argument

any_more : (xs : List Arg) (i n : ℕ) (x : Arg) → i < length xs → get_or xs i no_arg ≡ x → list_any (is_on n) (take (i + 1) xs) ≡ (list_any (is_on n) (take i xs) || is_on n x)
any_more xs i n x lt is = ap (list_any (is_on n)) (take_more xs i no_arg lt) ∙ any_snoc (take i xs) ∙ ap (λ z. list_any (is_on n) (take i xs) || is_on n z) is
  where
    or_nil : (a : Bool) → (a || false) ≡ a
    or_nil true = refl
    or_nil false = refl

    or_assoc : (p q r : Bool) → (p || (q || r)) ≡ ((p || q) || r)
    or_assoc true q r = refl
    or_assoc false q r = refl

    any_snoc : (zs : List Arg) → list_any (is_on n) (zs ++ get_or xs i no_arg ∷ []) ≡ (list_any (is_on n) zs || is_on n (get_or xs i no_arg))
    any_snoc [] = or_nil (is_on n (get_or xs i no_arg))
    any_snoc (z ∷ zs) = ap (λ q. is_on n z || q) (any_snoc zs) ∙ or_assoc (is_on n z) (list_any (is_on n) zs) (is_on n (get_or xs i no_arg))

pub globals_none : (ranks r : ℕ) (all : List Arg) (f : Values) (m : ℕ) (c : Cell) → f m c ≡ with_globals ranks r all [] f m c
globals_none ranks r all f m (Data c) = refl
globals_none ranks r all f m (Variable v) = sym (cond_never (nat_eq m r) (window_of (reduced_by all v.variable) (f ranks (Variable v))) (f m (Variable v)))

pub globals_more : (ranks r : ℕ) (all : List Arg) (f : Values) (i : ℕ) → r ≢ ranks → AllApart all → i < length all → (m : ℕ) (c : Cell)
    → with_global ranks r (get_or all i no_arg) (with_globals ranks r all (take i all) f) m c ≡ with_globals ranks r all (take (i + 1) all) f m c
globals_more ranks r all f i other apart lt m c = by (get_or all i no_arg) refl c
  where
    by : (x : Arg) → get_or all i no_arg ≡ x → (d : Cell) → with_global ranks r x (with_globals ranks r all (take i all) f) m d ≡ with_globals ranks r all (take (i + 1) all) f m d
    by (Dat d v a) is (Data x) = refl
    by (Dat d v a) is (Variable n) =
        ap (λ t. cond (nat_eq m r && t) (window_of (reduced_by all n.variable) (f ranks (Variable n))) (f m (Variable n)))
        (sym (any_more all i n.variable (Dat d v a) lt is ∙ or-false (list_any (is_on n.variable) (take i all))))
    by (Global v a) is (Data x) = cond_never (nat_eq m r) (window_of (reduction_of a) (with_globals ranks r all (take i all) f ranks (cell_in (Whole v) x.component))) (f m (Data x))
    by (Global v a) is (Variable n) =
        value n ∙ cond_or (nat_eq m r) (list_any (is_on n.variable) (take i all)) (nat_eq n.variable v) (window_of (reduced_by all n.variable) (f ranks (Variable n))) (f m (Variable n))
        ∙ ap (λ t. cond (nat_eq m r && t) (window_of (reduced_by all n.variable) (f ranks (Variable n))) (f m (Variable n))) (sym (any_more all i n.variable (Global v a) lt is))
      where
        behind : (x : VarCell) → with_globals ranks r all (take i all) f ranks (Variable x) ≡ f ranks (Variable x)
        behind x = ap (λ t. cond (t && list_any (is_on x.variable) (take i all)) (window_of (reduced_by all x.variable) (f ranks (Variable x))) (f ranks (Variable x)))
            (ne_eqb ranks r (λ q. other (sym q)))

        value : (x : VarCell)
            → cond (nat_eq m r && nat_eq x.variable v)
            (window_of (reduction_of a) (with_globals ranks r all (take i all) f ranks (cell_in (Whole v) x.component)))
            (with_globals ranks r all (take i all) f m (Variable x))
            ≡ cond (nat_eq m r && nat_eq x.variable v) (window_of (reduced_by all x.variable) (f ranks (Variable x))) (with_globals ranks r all (take i all) f m (Variable x))
        value x = ⊎_elim
            (λ (h : (nat_eq m r && nat_eq x.variable v) ≡ true).
            let ev : x.variable ≡ v = eqb-true x.variable v (and_parts (nat_eq m r) (nat_eq x.variable v) h).1 in
            let cell : cell_in (Whole v) x.component ≡ Variable x = ap (λ y. Variable (record { variable = y; component = x.component })) (sym ev) in
            let how : reduction_of a ≡ reduced_by all x.variable = sym (how_all all apart i v a lt is) ∙ ap (reduced_by all) (sym ev) in
            ap (λ z. cond (nat_eq m r && nat_eq x.variable v) z (with_globals ranks r all (take i all) f m (Variable x)))
            (ap₂ window_of how (ap (with_globals ranks r all (take i all) f ranks) cell ∙ behind x)))
            (λ (h : (nat_eq m r && nat_eq x.variable v) ≡ false).
            ap (λ t. cond t (window_of (reduction_of a) (with_globals ranks r all (take i all) f ranks (cell_in (Whole v) x.component))) (with_globals ranks r all (take i all) f m (Variable x))) h
            ∙ sym (ap (λ t. cond t (window_of (reduced_by all x.variable) (f ranks (Variable x))) (with_globals ranks r all (take i all) f m (Variable x))) h))
            (cases_bool (nat_eq m r && nat_eq x.variable v))
