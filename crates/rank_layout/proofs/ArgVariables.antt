-- The arguments of a loop on variables, and the operations of slots.
use Rattle.std.proofs.Common.{◌≡◌, ◌<◌, ℕ, zero, suc, Bool, true, false, List, [], ◌∷◌, ◌++◌, map, length, take, get_or, Some, refl, sym, ap, ap₂, ◌∙◌, ⊎_elim, arith}
use Rattle.std.specs.Prelude.{◌||◌, nat_eq, option_map}
use Rattle.std.proofs.lemmas.Bool.{cases_Bool, false≢true, cond-true, cond-false, or_left, or_right, or_cases, or_parts, eq-eqb, eqb-true}
use Rattle.std.proofs.lemmas.List.{map-append, length-map}
use Rattle.op_num.specs.Reduction.{Reduction}
use Rattle.op_num.specs.declared.reductions.access.Access.{Access}
use Rattle.op_num.specs.declared.reductions.access.Access.TheVariants as code
use Rattle.bound_program.specs.declared.sites.Arg.{Arg}
use Rattle.bound_program.specs.declared.sites.Arg.TheVariants.{Dat, Global}
use Rattle.bound_program.specs.Values.{BoundValue}
use Rattle.run_model.specs.Windows.{Reached, Whole, reached}
use Rattle.run_model.specs.Arguments.{no_arg}
use Rattle.rank_state.specs.declared.scalars.Operation.{Operation}
use Rattle.rank_state.specs.Windows.{operation}
use Rattle.bound_plan.specs.Variables.{reduction_of, reduced_by}
use Rattle.bound_plan.specs.Windows.{on_variables}
use Rattle.rank_layout.specs.Seen.{has}
use Rattle.rank_layout.specs.Tables.{Slot}
use Rattle.rank_layout.specs.Scalars.{operation_by, AreOperations, is_on, names}
use Rattle.rank_layout.proofs.SlotNumbers.{cell, slot}

-- ---- arguments on a variable

pub reduction_by : (a : Access) → reduction_of a ≡ option_map operation (operation_by a)
reduction_by code.Read = refl
reduction_by code.Write = refl
reduction_by code.Rw = refl
reduction_by code.Inc = refl
reduction_by code.Min = refl
reduction_by code.Max = refl

pub names_append : (v : ℕ) (xs ys : List Arg) → names v (xs ++ ys) ≡ (names v xs || names v ys)
names_append v [] ys = refl
names_append v (x ∷ xs) ys = ap (λ z. is_on v x || z) (names_append v xs ys) ∙ regroup (is_on v x) (names v xs) (names v ys)
  where
    regroup : (a b c : Bool) → (a || (b || c)) ≡ ((a || b) || c)
    regroup true b c = refl
    regroup false b c = refl

-- the argument that is on it
pub record Named (v : ℕ) (xs : List Arg) : Type 0 where
  pub number : ℕ
  pub access : Access
  pub there : number < length xs
  pub is : get_or xs number no_arg ≡ Global v access

further : (v : ℕ) (x : Arg) (xs : List Arg) → Named v xs → Named v (x ∷ xs)
further v x xs w = record { number = suc w.number; access = w.access; there = (let l : w.number < length xs = w.there in omega arith); is = w.is }

pub named : (v : ℕ) (xs : List Arg) → names v xs ≡ true → Named v xs
named v [] h = absurd (false≢true h)
named v (Dat d w a ∷ xs) h = further v (Dat d w a) xs (named v xs h)
named v (Global u a ∷ xs) h = ⊎_elim
    (λ (t : nat_eq u v ≡ true).
    let first : Named v (Global u a ∷ xs) = record { number = 0; access = a; there = omega arith; is = ap (λ z. Global z a) (eqb-true u v t) } in
    first)
    (λ (t : names v xs ≡ true). further v (Global u a) xs (named v xs t))
    (or_cases (nat_eq u v) (names v xs) h)

-- a loop merges into a variable as the first argument on it does
pub reduced_first : (xs : List Arg) (i v : ℕ) (a : Access) → i < length xs → get_or xs i no_arg ≡ Global v a → names v (take i xs) ≡ false
    → reduced_by xs v ≡ reduction_of a
reduced_first [] i v a lt e h = absurd (omega arith)
reduced_first (x ∷ xs) zero v a lt e h =
    ap (λ z. reduced_by (z ∷ xs) v) e ∙ cond-true (nat_eq v v) (reduction_of a) (reduced_by xs v) (eq-eqb v v refl)
reduced_first (Dat d w c ∷ xs) (suc i) v a lt e h = reduced_first xs i v a (omega arith) e h
reduced_first (Global u c ∷ xs) (suc i) v a lt e h =
    let p = or_parts (nat_eq u v) (names v (take i xs)) h in
    cond-false (nat_eq u v) (reduction_of c) (reduced_by xs v) p.0 ∙ reduced_first xs i v a (omega arith) e p.1

-- a variable into which a loop merges is that of an argument
pub reduced_named : (xs : List Arg) (v : ℕ) (o : Reduction) → reduced_by xs v ≡ Some o → names v xs ≡ true
reduced_named [] v o h = let z : ⊥ = cc in absurd z
reduced_named (Dat d w a ∷ xs) v o h = reduced_named xs v o h
reduced_named (Global u a ∷ xs) v o h = ⊎_elim
    (λ (t : nat_eq u v ≡ true). or_left (nat_eq u v) (names v xs) t)
    (λ (t : nat_eq u v ≡ false). or_right (nat_eq u v) (names v xs) (reduced_named xs v o (sym (cond-false (nat_eq u v) (reduction_of a) (reduced_by xs v) t) ∙ h)))
    (cases_Bool (nat_eq u v))

on_variables_append : (xs ys : List Arg) → on_variables (xs ++ ys) ≡ on_variables xs ++ on_variables ys
on_variables_append [] ys = refl
on_variables_append (Dat d v a ∷ xs) ys = on_variables_append xs ys
on_variables_append (Global v a ∷ xs) ys = ap (λ z. Global v a ∷ z) (on_variables_append xs ys)

module _ (b : BoundValue) (e : ℕ) where
  abbrev pub wholes : List Arg → List Reached
  wholes xs = map (reached b e) (on_variables xs)

  pub wholes_append : (xs ys : List Arg) → wholes (xs ++ ys) ≡ wholes xs ++ wholes ys
  wholes_append xs ys = ap (map (reached b e)) (on_variables_append xs ys) ∙ map-append (reached b e) (on_variables xs) (on_variables ys)

  pub has_names : (xs : List Arg) (v : ℕ) → has (wholes xs) (Whole v) ≡ names v xs
  has_names [] v = refl
  has_names (Dat d w a ∷ xs) v = has_names xs v
  has_names (Global u a ∷ xs) v = ap (λ z. nat_eq u v || z) (has_names xs v)

-- what it reaches is the same for each element
pub same_wholes : (b : BoundValue) (e f : ℕ) (xs : List Arg) → wholes b e xs ≡ wholes b f xs
same_wholes b e f [] = refl
same_wholes b e f (Dat d v a ∷ xs) = same_wholes b e f xs
same_wholes b e f (Global v a ∷ xs) = ap (λ z. Whole v ∷ z) (same_wholes b e f xs)

-- ---- operations

pub operations_append : (xs ys : List Slot) (hs gs : List Operation) → AreOperations xs hs → AreOperations ys gs → AreOperations (xs ++ ys) (hs ++ gs)
operations_append xs ys hs gs h g =
    map-append operation hs gs ∙ ap₂ (λ x y. x ++ y) h g ∙ sym (map-append (λ (x : Slot). x.how) xs ys)

pub operations_length : (xs : List Slot) (hs : List Operation) → AreOperations xs hs → length hs ≡ length xs
operations_length xs hs h = sym (length-map hs operation) ∙ ap length h ∙ length-map xs (λ (x : Slot). x.how)

pub same_operations : (s v : ℕ) (how : Operation) (ns : List ℕ)
    → AreOperations (map (slot s (operation how)) (map (cell v) ns)) (map (λ (i : ℕ). how) ns)
same_operations s v how [] = refl
same_operations s v how (n ∷ ns) = ap (λ z. operation how ∷ z) (same_operations s v how ns)
