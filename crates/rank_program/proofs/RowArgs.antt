-- What the arguments of a Free loop may do with what they reach, and which of them are alike.
use Rattle.std.proofs.Common.{◌≡◌, ◌≢◌, ◌<◌, ◌⊎◌, inl, inr, ℕ, zero, suc, Bool, true, false, not, List, [], ◌∷◌, length, get_or, Option, Some, None, refl, sym, ap, ap₂, ◌∙◌, subst, ⊎_elim, arith}
use Rattle.std.specs.Prelude.{nat_eq, ◌&&◌}
use Rattle.std.proofs.lemmas.Bool.{cases_Bool, false≢true, eqb-true, eq-eqb, and_parts, cond-true, cond-false}
use Rattle.op_num.specs.Reduction.{Reduction}
use Rattle.op_num.specs.declared.reductions.access.Access.{Access}
use Rattle.op_num.specs.declared.reductions.access.Access.TheVariants.{Read, Write, Rw, Inc, Min, Max}
use Rattle.op_num.specs.Access.{OpRead, OpWrite, OpRw, OpReduce, access_of}
use Rattle.op_num.specs.Access as model
use Rattle.mesh_decl.specs.declared.access.Via.{Via}
use Rattle.schedule_model.specs.Arguments as theorem
use Rattle.schedule_model.specs.Arguments.{is_on, modifying, is_direct}
use Rattle.bound_program.specs.declared.sites.Arg.{Arg}
use Rattle.bound_program.specs.declared.sites.Arg.TheVariants.{Dat, Global}
use Rattle.bound_program.specs.declared.sites.Class.TheVariants as class
use Rattle.bound_program.specs.Classes.{class_of, is_read}
use Rattle.bound_program.specs.Fits.{GlobalAccess, AreApart, AllApart}
use Rattle.run_model.specs.Arguments.{no_arg, argument_of}
use Rattle.bound_plan.specs.Variables.{reduction_of, reduced_by}
use Rattle.bound_plan.proofs.Public.{free_is, reduction_is, first_reduces}
use Rattle.rank_state.specs.declared.scalars.Operation.{Operation}
use Rattle.rank_state.specs.declared.scalars.Scalar.{Scalar}
use Rattle.rank_state.specs.declared.scalars.Scalar.TheVariants.{Value, Amount}
use Rattle.rank_state.specs.Windows.{operation}
use Rattle.kernel_runs.specs.RowLoops.{Allows, AllowsScalar}
use Rattle.kernel_runs.specs.Alike.{arg_in, same_via, same_way, same_column, may_meet, IsFirst}

-- ---- ways

pub same_via_is : (v w : Option Via) → same_via v w ≡ true → v ≡ w
same_via_is None None h = refl
same_via_is None (Some w) h = absurd (false≢true h)
same_via_is (Some v) None h = absurd (false≢true h)
same_via_is (Some v) (Some w) h =
    let both = and_parts (nat_eq v.map w.map) (nat_eq v.index w.index) h in
    ap₂ (λ m i. Some (record { map = m; index = i })) (eqb-true v.map w.map both.0) (eqb-true v.index w.index both.1)

pub same_via_self : (v : Option Via) → same_via v v ≡ true
same_via_self None = refl
same_via_self (Some v) = ap₂ (λ a b. a && b) (eq-eqb v.map v.map refl) (eq-eqb v.index v.index refl)

-- two arguments on dats, which reach elements in one way
pub record Alike (x y : Arg) : Type 0 where
  pub dat : ℕ
  pub other : ℕ
  pub via : Option Via
  pub access : Access
  pub others : Access
  pub is : x ≡ Dat dat via access
  pub other_is : y ≡ Dat other via others

pub same_way_is : (x y : Arg) → same_way x y ≡ true → Alike x y
same_way_is (Dat d v a) (Dat e w b) h = record {
  dat = d;
  other = e;
  via = v;
  access = a;
  others = b;
  is = refl;
  other_is = ap (λ z. Dat e z b) (sym (same_via_is v w h));
}
same_way_is (Dat d v a) (Global w b) h = absurd (false≢true h)
same_way_is (Global v a) (Dat e w b) h = absurd (false≢true h)
same_way_is (Global v a) (Global w b) h = absurd (false≢true h)

-- and the same dat
pub same_column_way : (x y : Arg) → same_column x y ≡ true → same_way x y ≡ true
same_column_way (Dat d v a) (Dat e w b) h = (and_parts (nat_eq d e) (same_via v w) h).1
same_column_way (Dat d v a) (Global w b) h = absurd (false≢true h)
same_column_way (Global v a) (Dat e w b) h = absurd (false≢true h)
same_column_way (Global v a) (Global w b) h = absurd (false≢true h)

pub same_column_dat : (x y : Arg) (d e : ℕ) (v w : Option Via) (a b : Access) → x ≡ Dat d v a → y ≡ Dat e w b → same_column x y ≡ true → (d ≡ e) × (v ≡ w)
same_column_dat x y d e v w a b is other h =
    let both = and_parts (nat_eq d e) (same_via v w) (subst (λ z. same_column z (Dat e w b) ≡ true) is (subst (λ z. same_column x z ≡ true) other h)) in
    (eqb-true d e both.0, same_via_is v w both.1)

pub same_way_of : (x y : Arg) (d e : ℕ) (v w : Option Via) (a b : Access) → x ≡ Dat d v a → y ≡ Dat e w b → same_way x y ≡ true → v ≡ w
same_way_of x y d e v w a b is other h =
    same_via_is v w (subst (λ z. same_way z (Dat e w b) ≡ true) is (subst (λ z. same_way x z ≡ true) other h))

pub are_same_way : (x y : Arg) (d e : ℕ) (v w : Option Via) (a b : Access) → x ≡ Dat d v a → y ≡ Dat e w b → v ≡ w → same_way x y ≡ true
are_same_way x y d e v w a b is other h =
    subst (λ z. same_way z y ≡ true) (sym is) (subst (λ z. same_way (Dat d v a) z ≡ true) (sym other) (subst (λ z. same_via v z ≡ true) h (same_via_self v)))

pub are_same_column : (x y : Arg) (d e : ℕ) (v w : Option Via) (a b : Access) → x ≡ Dat d v a → y ≡ Dat e w b → d ≡ e → v ≡ w → same_column x y ≡ true
are_same_column x y d e v w a b is other n h =
    subst (λ z. same_column z y ≡ true) (sym is) (subst (λ z. same_column (Dat d v a) z ≡ true) (sym other)
    (ap₂ (λ p q. p && q) (eq-eqb d e n) (subst (λ z. same_via v z ≡ true) h (same_via_self v))))

way_trans : (x y z : Arg) → same_way x y ≡ true → same_way y z ≡ true → same_way x z ≡ true
way_trans x y z h k =
    let one = same_way_is x y h in
    let two = same_way_is y z k in
    let via : one.via ≡ two.via = (let same : Dat one.other one.via one.others ≡ Dat two.dat two.via two.access = sym one.other_is ∙ two.is in cc) in
    are_same_way x z one.dat two.other one.via two.via one.access two.others one.is two.other_is via

pub column_trans : (x y z : Arg) → same_column x y ≡ true → same_column y z ≡ true → same_column x z ≡ true
column_trans x y z h k =
    let one = same_way_is x y (same_column_way x y h) in
    let two = same_way_is y z (same_column_way y z k) in
    let first = same_column_dat x y one.dat one.other one.via one.via one.access one.others one.is one.other_is h in
    let second = same_column_dat y z two.dat two.other two.via two.via two.access two.others two.is two.other_is k in
    let same : Dat one.other one.via one.others ≡ Dat two.dat two.via two.access = sym one.other_is ∙ two.is in
    let dat : one.other ≡ two.dat = cc in
    let via : one.via ≡ two.via = cc in
    are_same_column x z one.dat two.other one.via two.via one.access two.others one.is two.other_is (first.0 ∙ dat ∙ second.0) via

pub column_sym : (x y : Arg) → same_column x y ≡ true → same_column y x ≡ true
column_sym x y h =
    let one = same_way_is x y (same_column_way x y h) in
    let both = same_column_dat x y one.dat one.other one.via one.via one.access one.others one.is one.other_is h in
    are_same_column y x one.other one.dat one.via one.via one.others one.access one.other_is one.is (sym both.0) refl

-- the first of like arguments is the first that is like itself
module _ (like : Arg → Arg → Bool) (trans : (x y z : Arg) → like x y ≡ true → like y z ≡ true → like x z ≡ true) (args : List Arg) (a w : ℕ) (first : IsFirst like args a w) where
  pub first_again : IsFirst like args w w
  first_again = record {
    upto = omega arith;
    alike = inl refl;
    least = λ b lt. ⊎_elim
        (λ (e : w ≡ a). subst (λ k. like (arg_in args b) (arg_in args k) ≡ false) (sym e) (first.least b lt))
        (λ (t : like (arg_in args w) (arg_in args a) ≡ true). ⊎_elim
        (λ (is : like (arg_in args b) (arg_in args w) ≡ true). absurd (false≢true (sym (first.least b lt) ∙ trans (arg_in args b) (arg_in args w) (arg_in args a) is t)))
        (λ (no : like (arg_in args b) (arg_in args w) ≡ false). no)
        (cases_Bool (like (arg_in args b) (arg_in args w))))
        first.alike;
  }

pub first_way_again : (args : List Arg) (a w : ℕ) → IsFirst same_way args a w → IsFirst same_way args w w
first_way_again = first_again same_way way_trans

pub first_column_again : (args : List Arg) (a w : ℕ) → IsFirst same_column args a w → IsFirst same_column args w w
first_column_again = first_again same_column column_trans

-- ---- accesses

-- an access that lets reduce is that reduction
pub allows_reduction : (x : model.Access) (o : Reduction) → Allows x (OpReduce o) → x ≡ OpReduce o
allows_reduction OpRead o h = h
allows_reduction OpWrite o h = h
allows_reduction OpRw o h = absurd h
allows_reduction (OpReduce r) o h = h

-- two arguments on one dat, of which one modifies it, are both direct or reduce into it alike
pub record AreOrderly (v w : Option Via) (a b : Access) : Type 0 where
  pub kind : ((v ≡ None) × (w ≡ None)) ⊎ ((o : Reduction) × (access_of a ≡ OpReduce o) × (access_of b ≡ OpReduce o))

modifies_is : (a : Access) → access_of a ≢ OpRead → modifying (access_of a) ≡ true
modifies_is Read ne = absurd (ne refl)
modifies_is Write ne = refl
modifies_is Rw ne = refl
modifies_is Inc ne = refl
modifies_is Min ne = refl
modifies_is Max ne = refl

on_itself : (d : ℕ) (v : Option Via) (a : Access) → is_on d (argument_of (Dat d v a)) ≡ true
on_itself d None a = eq-eqb d d refl
on_itself d (Some v) a = eq-eqb d d refl

own_access : (d : ℕ) (v : Option Via) (a : Access) → theorem.access_of (argument_of (Dat d v a)) ≡ access_of a
own_access d None a = refl
own_access d (Some v) a = refl

direct_is : (d : ℕ) (v : Option Via) (a : Access) → is_direct (argument_of (Dat d v a)) ≡ true → v ≡ None
direct_is d None a h = refl
direct_is d (Some v) a h = absurd (false≢true h)

pub orderly : (args : List Arg) → class_of args ≡ class.Free → (i j d : ℕ) (v w : Option Via) (a b : Access) → i < length args → j < length args
    → get_or args i no_arg ≡ Dat d v a → get_or args j no_arg ≡ Dat d w b → access_of a ≢ OpRead → AreOrderly v w a b
orderly args free i j d v w a b li lj is other ne =
    let on : is_on d (argument_of (get_or args i no_arg)) ≡ true = subst (λ z. is_on d (argument_of z) ≡ true) (sym is) (on_itself d v a) in
    let too : is_on d (argument_of (get_or args j no_arg)) ≡ true = subst (λ z. is_on d (argument_of z) ≡ true) (sym other) (on_itself d w b) in
    let own : theorem.access_of (argument_of (get_or args i no_arg)) ≡ access_of a = ap (λ z. theorem.access_of (argument_of z)) is ∙ own_access d v a in
    let others : theorem.access_of (argument_of (get_or args j no_arg)) ≡ access_of b = ap (λ z. theorem.access_of (argument_of z)) other ∙ own_access d w b in
    record {
      kind = ⊎_elim
          (λ r. inr (r.0, sym own ∙ r.1 i li on, sym others ∙ r.1 j lj too))
          (λ h. inl (
            direct_is d v a (subst (λ z. is_direct (argument_of z) ≡ true) is (h i li on)),
            direct_is d w b (subst (λ z. is_direct (argument_of z) ≡ true) other (h j lj too)),
          ))
          (free_is args i d free li on (ap modifying own ∙ modifies_is a ne));
    }

-- two arguments on one dat that reach it in different ways may meet, where one modifies it
pub they_meet : (x y : Arg) (d : ℕ) (v w : Option Via) (a b : Access) → x ≡ Dat d v a → y ≡ Dat d w b → v ≢ w → access_of a ≢ OpRead → may_meet x y ≡ true
they_meet x y d v w a b is other ne modifies =
    subst (λ z. may_meet z y ≡ true) (sym is) (subst (λ z. may_meet (Dat d v a) z ≡ true) (sym other)
    (ap₂ (λ p q. p && q) (ap₂ (λ p q. p && q) (eq-eqb d d refl) (ap not (differs (same_via v w) refl))) (ap not (reads (is_read a) refl))))
  where
    differs : (t : Bool) → same_via v w ≡ t → t ≡ false
    differs true h = absurd (ne (same_via_is v w h))
    differs false h = refl

    read_is : (c : Access) → is_read c ≡ true → access_of c ≡ OpRead
    read_is Read h = refl
    read_is Write h = absurd (false≢true h)
    read_is Rw h = absurd (false≢true h)
    read_is Inc h = absurd (false≢true h)
    read_is Min h = absurd (false≢true h)
    read_is Max h = absurd (false≢true h)

    reads : (t : Bool) → is_read a ≡ t → t && is_read b ≡ false
    reads true h = absurd (modifies (read_is a h))
    reads false h = refl

-- ---- arguments on variables

-- an argument on a variable reduces into it as the loop does
reduced_alike : (args : List Arg) → AllApart args → (i v : ℕ) (a : Access) → i < length args → get_or args i no_arg ≡ Global v a → reduced_by args v ≡ reduction_of a
reduced_alike args apart i v a lt is = by (reduction_of a) refl
  where
    none_alike : (xs : List Arg) → AllApart xs → (k : ℕ) → k < length xs → get_or xs k no_arg ≡ Global v a → reduction_of a ≡ None → reduced_by xs v ≡ None
    none_alike [] p k l e h = absurd (omega arith)
    none_alike (Dat d w c ∷ xs) p zero l e h = cc
    none_alike (Dat d w c ∷ xs) p (suc k) l e h = none_alike xs p.1 k (omega (arith, l)) e h
    none_alike (Global w c ∷ xs) p zero l e h =
        let same : w ≡ v = cc in
        let how : c ≡ a = cc in
        cond-true (nat_eq w v) (reduction_of c) (reduced_by xs v) (eq-eqb w v same) ∙ ap reduction_of how ∙ h
    none_alike (Global w c ∷ xs) p (suc k) l e h = ⊎_elim
        (λ (same : nat_eq w v ≡ true).
        let both = subst (AreApart (Global w c)) e (p.0 k no_arg (omega (arith, l))) (eqb-true w v same) in
        cond-true (nat_eq w v) (reduction_of c) (reduced_by xs v) same ∙ ap reduction_of both.0)
        (λ (ne : nat_eq w v ≡ false). cond-false (nat_eq w v) (reduction_of c) (reduced_by xs v) ne ∙ none_alike xs p.1 k (omega (arith, l)) e h)
        (cases_Bool (nat_eq w v))

    by : (r : Option Reduction) → reduction_of a ≡ r → reduced_by args v ≡ reduction_of a
    by None h = none_alike args apart i lt is h ∙ sym h
    by (Some o) h = first_reduces args apart i v a o lt is h ∙ sym h

reads_else : (a : Access) (c : Option ℕ) → GlobalAccess a c → reduction_of a ≡ None → access_of a ≡ OpRead
reads_else Read c g h = refl
reads_else Write c g h = absurd g
reads_else Rw c g h = absurd g
reads_else Inc c g h = cc
reads_else Min c g h = cc
reads_else Max c g h = cc

-- a scalar lets the arguments on its variable do what they may
pub scalar_allows : (args : List Arg) → AllApart args → (i v : ℕ) (a : Access) (c : Option ℕ) → i < length args → get_or args i no_arg ≡ Global v a → GlobalAccess a c
    → (x : Scalar) → ((at : ℕ) → x ≡ Value at → reduced_by args v ≡ None)
    → ((at slot : ℕ) (how : Operation) → x ≡ Amount at slot how → reduced_by args v ≡ Some (operation how))
    → AllowsScalar x (access_of a)
scalar_allows args apart i v a c lt is g (Value at) reads reduces =
    reads_else a c g (sym (reduced_alike args apart i v a lt is) ∙ reads at refl)
scalar_allows args apart i v a c lt is g (Amount at slot how) reads reduces =
    reduction_is a (operation how) (sym (reduced_alike args apart i v a lt is) ∙ reduces at slot how refl)
