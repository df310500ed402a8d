-- How the arguments of a loop reach dats.
use Rattle.std.proofs.Common.{◌≡◌, ◌<◌, ℕ, zero, suc, Bool, true, false, not, ◌⊎◌, inl, inr, List, [], ◌∷◌, length, get_or, Option, Some, None, refl, sym, ap, ◌∙◌, arith, ⊎_elim}
use Rattle.std.specs.Prelude.{◌&&◌, ◌||◌, nat_eq, is_none, if◌then◌else◌}
use Rattle.std.specs.List.{list_all}
use Rattle.std.proofs.lemmas.Bool.{cases_Bool, false≢true, or_cases, or_from, or_parts, and_from, eqb-true, eq-eqb, not-true, not-false, not_from_true, not_from_false}
use Rattle.std.proofs.lemmas.List.Folds.{list_all_at, list_any_at}
use Rattle.op_num.specs.Reduction.{Reduction, Add, Min, Max}
use Rattle.op_num.specs.Access as laws
use Rattle.op_num.specs.Access.{OpRead, OpReduce, access_of}
use Rattle.op_num.specs.declared.reductions.access.Access.{Access}
use Rattle.op_num.specs.declared.reductions.access.Access.TheVariants as code
use Rattle.mesh_decl.specs.declared.access.Via.{Via}
use Rattle.schedule_model.specs.Arguments.{Direct, Indirect, modifying, reading, is_direct, is_on}
use Rattle.schedule_model.specs.Arguments as theorem
use Rattle.bound_program.specs.declared.sites.Arg.{Arg}
use Rattle.bound_program.specs.declared.sites.Arg.TheVariants.{Dat, Global}
use Rattle.bound_program.specs.declared.sites.Class.TheVariants as class
use Rattle.bound_program.specs.Classes.{is_read, is_inc, is_min, is_max, passes, all_on, modifies, is_orderly, is_orderly_arg, class_of, is_scattered, scatters}
use Rattle.run_model.specs.Arguments.{no_arg, argument_of}
use Rattle.loop_plan.specs.Needs.{reads_copies, arg_needs, needs}
use Rattle.bound_plan.proofs.Globals.{is_reducing_is}

-- ---- one argument

-- an argument on a dat
pub record OnDat (y : Arg) (d : ℕ) : Type 0 where
  pub via : Option Via
  pub access : Access
  pub is : y ≡ Dat d via access
  pub how : theorem.access_of (argument_of y) ≡ access_of access
  pub direct : is_direct (argument_of y) ≡ is_none via

pub on_dat : (y : Arg) (d : ℕ) → is_on d (argument_of y) ≡ true → OnDat y d
on_dat (Dat e None a) d h = record { via = None; access = a; is = ap (λ z. Dat z None a) (eqb-true e d h); how = refl; direct = refl }
on_dat (Dat e (Some v) a) d h = record { via = Some v; access = a; is = ap (λ z. Dat z (Some v) a) (eqb-true e d h); how = refl; direct = refl }
on_dat (Global v a) d h = absurd (false≢true h)

pub is_on_is : (d : ℕ) (v : Option Via) (a : Access) → is_on d (argument_of (Dat d v a)) ≡ true
is_on_is d None a = eq-eqb d d refl
is_on_is d (Some v) a = eq-eqb d d refl

pub how_is : (d : ℕ) (v : Option Via) (a : Access) → theorem.access_of (argument_of (Dat d v a)) ≡ access_of a
how_is d None a = refl
how_is d (Some v) a = refl

pub direct_is : (y : Arg) (d : ℕ) (x : laws.Access) → argument_of y ≡ Direct d x → (a : Access) × (y ≡ Dat d None a) × (access_of a ≡ x)
direct_is (Dat e None a) d x h = let i : e ≡ d = cc in let j : access_of a ≡ x = cc in (a, ap (λ z. Dat z None a) i, j)
direct_is (Dat e (Some v) a) d x h = let q : ⊥ = cc in absurd q
direct_is (Global v a) d x h = let q : ⊥ = cc in absurd q

pub indirect_is : (y : Arg) (d m i : ℕ) (x : laws.Access) → argument_of y ≡ Indirect d m i x
    → (v : Via) × (a : Access) × (y ≡ Dat d (Some v) a) × (v.map ≡ m) × (v.index ≡ i) × (access_of a ≡ x)
indirect_is (Dat e None a) d m i x h = let q : ⊥ = cc in absurd q
indirect_is (Dat e (Some v) a) d m i x h =
    let p : e ≡ d = cc in let q : v.map ≡ m = cc in let r : v.index ≡ i = cc in let s : access_of a ≡ x = cc in
    (v, a, ap (λ z. Dat z (Some v) a) p, q, r, s)
indirect_is (Global v a) d m i x h = let q : ⊥ = cc in absurd q

pub global_is : (y : Arg) (v : ℕ) (x : laws.Access) → argument_of y ≡ theorem.Global v x → (a : Access) × (y ≡ Global v a) × (access_of a ≡ x)
global_is (Dat e None a) v x h = let q : ⊥ = cc in absurd q
global_is (Dat e (Some w) a) v x h = let q : ⊥ = cc in absurd q
global_is (Global w a) v x h = let i : w ≡ v = cc in let j : access_of a ≡ x = cc in (a, ap (λ z. Global z a) i, j)

-- ---- accesses

not_read : (a : Access) → modifying (access_of a) ≡ true → is_read a ≡ false
not_read code.Read h = absurd (false≢true h)
not_read code.Write h = refl
not_read code.Rw h = refl
not_read code.Inc h = refl
not_read code.Min h = refl
not_read code.Max h = refl

modifying_is : (a : Access) → is_read a ≡ false → modifying (access_of a) ≡ true
modifying_is code.Read h = absurd (false≢true (sym h))
modifying_is code.Write h = refl
modifying_is code.Rw h = refl
modifying_is code.Inc h = refl
modifying_is code.Min h = refl
modifying_is code.Max h = refl

inc_is : (a : Access) → is_inc a ≡ true → access_of a ≡ OpReduce Add
inc_is code.Inc h = refl
inc_is code.Read h = absurd (false≢true h)
inc_is code.Write h = absurd (false≢true h)
inc_is code.Rw h = absurd (false≢true h)
inc_is code.Min h = absurd (false≢true h)
inc_is code.Max h = absurd (false≢true h)

min_is : (a : Access) → is_min a ≡ true → access_of a ≡ OpReduce Min
min_is code.Min h = refl
min_is code.Read h = absurd (false≢true h)
min_is code.Write h = absurd (false≢true h)
min_is code.Rw h = absurd (false≢true h)
min_is code.Inc h = absurd (false≢true h)
min_is code.Max h = absurd (false≢true h)

max_is : (a : Access) → is_max a ≡ true → access_of a ≡ OpReduce Max
max_is code.Max h = refl
max_is code.Read h = absurd (false≢true h)
max_is code.Write h = absurd (false≢true h)
max_is code.Rw h = absurd (false≢true h)
max_is code.Inc h = absurd (false≢true h)
max_is code.Min h = absurd (false≢true h)

reads_through : (a : Access) (s : Bool) (v : Via) → access_of a ≡ OpRead → reads_copies s (Some v) a ≡ true
reads_through code.Read s v h = refl
reads_through code.Write s v h = let q : ⊥ = cc in absurd q
reads_through code.Rw s v h = let q : ⊥ = cc in absurd q
reads_through code.Inc s v h = let q : ⊥ = cc in absurd q
reads_through code.Min s v h = let q : ⊥ = cc in absurd q
reads_through code.Max s v h = let q : ⊥ = cc in absurd q

reads_directly : (a : Access) (s : Bool) → reading (access_of a) ≡ true → s ≡ true → reads_copies s None a ≡ true
reads_directly code.Read s h e = e
reads_directly code.Rw s h e = e
reads_directly code.Write s h e = absurd (false≢true h)
reads_directly code.Inc s h e = absurd (false≢true h)
reads_directly code.Min s h e = absurd (false≢true h)
reads_directly code.Max s h e = absurd (false≢true h)

-- ---- all arguments

-- what a test of all says of one
pub all_at : (p : Arg → Bool) (xs : List Arg) (a : ℕ) → list_all p xs ≡ true → a < length xs → p (get_or xs a no_arg) ≡ true
all_at p xs a h l = ⊎_elim (λ t. t) (λ f. absurd (false≢true (sym (list_all_at p xs a no_arg l f) ∙ h))) (cases_Bool (p (get_or xs a no_arg)))

-- an argument that fails a test
pub fails : (p : Arg → Bool) (xs : List Arg) → list_all p xs ≡ false → (a : ℕ) × (a < length xs) × (p (get_or xs a no_arg) ≡ false)
fails p [] h = absurd (false≢true (sym h))
fails p (x ∷ xs) h = ⊎_elim
    (λ (t : p x ≡ true).
    let w : (a : ℕ) × (a < length xs) × (p (get_or xs a no_arg) ≡ false) = fails p xs (sym (ap (λ z. z && list_all p xs) t) ∙ h) in
    (suc w.0, (let l : w.0 < length xs = w.1 in omega arith), w.2))
    (λ (f : p x ≡ false). (zero, omega arith, f))
    (cases_Bool (p x))

-- a test of all arguments on a dat, of one of them
pub on_passes : (xs : List Arg) (d a : ℕ) (test : Option Via → Access → Bool) (v : Option Via) (x : Access)
    → all_on d test xs ≡ true → a < length xs → get_or xs a no_arg ≡ Dat d v x → test v x ≡ true
on_passes xs d a test v x h l e = ⊎_elim
    (λ (t : not (nat_eq d d) ≡ true). absurd (false≢true (sym (not-true (nat_eq d d) t) ∙ eq-eqb d d refl)))
    (λ (t : test v x ≡ true). t)
    (or_cases (not (nat_eq d d)) (test v x) (sym (ap (passes d test) e) ∙ all_at (passes d test) xs a h l))

pub modifies_is : (xs : List Arg) (d a : ℕ) (v : Option Via) (x : Access)
    → a < length xs → get_or xs a no_arg ≡ Dat d v x → modifying (access_of x) ≡ true → modifies xs d ≡ true
modifies_is xs d a v x l e m =
    not_from_false (all_on d (λ v a. is_read a) xs)
    (list_all_at (passes d (λ v a. is_read a)) xs a no_arg l
    (ap (passes d (λ v a. is_read a)) e ∙ or_from (not (nat_eq d d)) (is_read x) (not_from_true (nat_eq d d) (eq-eqb d d refl)) (not_read x m)))

-- an argument that modifies a dat
pub record Modifying (xs : List Arg) (d : ℕ) : Type 0 where
  pub number : ℕ
  pub there : number < length xs
  pub on : is_on d (argument_of (get_or xs number no_arg)) ≡ true
  pub modifies : modifying (theorem.access_of (argument_of (get_or xs number no_arg))) ≡ true

one_modifies : (xs : List Arg) (d a : ℕ) (y : Arg) → a < length xs → get_or xs a no_arg ≡ y → passes d (λ v a. is_read a) y ≡ false → Modifying xs d
one_modifies xs d a (Dat e v x) l i h =
    let p : (not (nat_eq e d) ≡ false) × (is_read x ≡ false) = or_parts (not (nat_eq e d)) (is_read x) h in
    let q : e ≡ d = eqb-true e d (not-false (nat_eq e d) p.0) in
    record {
      number = a;
      there = l;
      on = ap (λ z. is_on d (argument_of z)) i ∙ ap (λ z. is_on z (argument_of (Dat e v x))) (sym q) ∙ is_on_is e v x;
      modifies = ap (λ z. modifying (theorem.access_of (argument_of z))) i ∙ ap modifying (how_is e v x) ∙ modifying_is x p.1;
    }
one_modifies xs d a (Global v x) l i h = absurd (false≢true (sym h))

pub modifies_only : (xs : List Arg) (d : ℕ) → modifies xs d ≡ true → Modifying xs d
modifies_only xs d h =
    let w = fails (passes d (λ v a. is_read a)) xs (not-true (all_on d (λ v a. is_read a) xs) h) in
    one_modifies xs d w.0 (get_or xs w.0 no_arg) w.1 refl w.2

pub scatters_is : (xs : List Arg) (a d : ℕ) (v : Via) (x : Access) (o : Reduction)
    → a < length xs → get_or xs a no_arg ≡ Dat d (Some v) x → access_of x ≡ OpReduce o → scatters xs ≡ true
scatters_is xs a d v x o l e h = list_any_at is_scattered xs a no_arg l (ap is_scattered e ∙ is_reducing_is x o h)

pub needs_through : (xs : List Arg) (a d : ℕ) (v : Via) (x : Access)
    → a < length xs → get_or xs a no_arg ≡ Dat d (Some v) x → access_of x ≡ OpRead → needs xs d ≡ true
needs_through xs a d v x l e h =
    list_any_at (arg_needs (scatters xs) d) xs a no_arg l
    (ap (arg_needs (scatters xs) d) e ∙ and_from (nat_eq d d) (reads_copies (scatters xs) (Some v) x) (eq-eqb d d refl) (reads_through x (scatters xs) v h))

pub needs_directly : (xs : List Arg) (a d : ℕ) (x : Access)
    → a < length xs → get_or xs a no_arg ≡ Dat d None x → reading (access_of x) ≡ true → scatters xs ≡ true → needs xs d ≡ true
needs_directly xs a d x l e h s =
    list_any_at (arg_needs (scatters xs) d) xs a no_arg l
    (ap (arg_needs (scatters xs) d) e ∙ and_from (nat_eq d d) (reads_copies (scatters xs) None x) (eq-eqb d d refl) (reads_directly x (scatters xs) h s))

-- ---- the class of a loop

abbrev pub OneReduction : List Arg → ℕ → Type 0
OneReduction xs d =
    (o : Reduction) × ((a : ℕ) → a < length xs → is_on d (argument_of (get_or xs a no_arg)) ≡ true → theorem.access_of (argument_of (get_or xs a no_arg)) ≡ OpReduce o)

abbrev pub AllDirect : List Arg → ℕ → Type 0
AllDirect xs d = (a : ℕ) → a < length xs → is_on d (argument_of (get_or xs a no_arg)) ≡ true → is_direct (argument_of (get_or xs a no_arg)) ≡ true

free_class : (c : Bool) → (if c then class.Free else class.Ordered) ≡ class.Free → c ≡ true
free_class true h = refl
free_class false h = let q : ⊥ = cc in absurd q

one_reduction : (xs : List Arg) (d : ℕ) (o : Reduction) (test : Access → Bool) → ((x : Access) → test x ≡ true → access_of x ≡ OpReduce o)
    → all_on d (λ v a. test a) xs ≡ true → OneReduction xs d
one_reduction xs d o test is h = (
  o,
  λ a l on.
      let w : OnDat (get_or xs a no_arg) d = on_dat (get_or xs a no_arg) d on in
      w.how ∙ is w.access (on_passes xs d a (λ v x. test x) w.via w.access h l w.is),
)

all_direct : (xs : List Arg) (d : ℕ) → all_on d (λ v a. is_none v) xs ≡ true → AllDirect xs d
all_direct xs d h a l on =
    let w : OnDat (get_or xs a no_arg) d = on_dat (get_or xs a no_arg) d on in
    w.direct ∙ on_passes xs d a (λ v x. is_none v) w.via w.access h l w.is

orderly : (xs : List Arg) (d : ℕ) → is_orderly xs d ≡ true → OneReduction xs d ⊎ AllDirect xs d
orderly xs d h = ⊎_elim
    (λ r. ⊎_elim
    (λ t. ⊎_elim
    (λ n. inr (all_direct xs d n))
    (λ n. inl (one_reduction xs d Add is_inc inc_is n))
    (or_cases (all_on d (λ v a. is_none v) xs) (all_on d (λ v a. is_inc a) xs) t))
    (λ n. inl (one_reduction xs d Min is_min min_is n))
    (or_cases (all_on d (λ v a. is_none v) xs || all_on d (λ v a. is_inc a) xs) (all_on d (λ v a. is_min a) xs) r))
    (λ n. inl (one_reduction xs d Max is_max max_is n))
    (or_cases (all_on d (λ v a. is_none v) xs || all_on d (λ v a. is_inc a) xs || all_on d (λ v a. is_min a) xs) (all_on d (λ v a. is_max a) xs) h)

-- each dat that a Free loop modifies has arguments of one reduction only, or direct ones only
pub free_is : (xs : List Arg) (b d : ℕ) → class_of xs ≡ class.Free → b < length xs → is_on d (argument_of (get_or xs b no_arg)) ≡ true
    → modifying (theorem.access_of (argument_of (get_or xs b no_arg))) ≡ true → OneReduction xs d ⊎ AllDirect xs d
free_is xs b d c l on m =
    let w : OnDat (get_or xs b no_arg) d = on_dat (get_or xs b no_arg) d on in
    ⊎_elim
    (λ r. absurd (false≢true (sym (not_read w.access (sym (ap modifying w.how) ∙ m)) ∙ on_passes xs d b (λ v a. is_read a) w.via w.access r l w.is)))
    (λ o. orderly xs d o)
    (or_cases (all_on d (λ v a. is_read a) xs) (is_orderly xs d)
    (sym (ap (is_orderly_arg xs) w.is) ∙ all_at (is_orderly_arg xs) xs b (free_class (list_all (is_orderly_arg xs) xs) c) l))
