-- How the elements of a Free loop touch the cells of variables.
use Rattle.std.proofs.Common.{◌≡◌, ◌<◌, ℕ, zero, suc, true, false, ◌⊎◌, inl, inr, List, length, get_or, Option, Some, None, refl, sym, ap, subst, ◌∙◌, arith, ⊎_elim}
use Rattle.std.specs.Prelude.{◌==◌, nat_lt}
use Rattle.std.proofs.lemmas.Bool.{cases_Bool, cond-true, cond-false, false≢true, and_parts, and_left, eqb-true, ltb-true}
use Rattle.op_num.specs.Reduction.{Reduction}
use Rattle.op_num.specs.Access.{OpRead, access_of}
use Rattle.op_num.specs.declared.reductions.access.Access.{Access}
use Rattle.op_num.specs.declared.reductions.access.Access.TheVariants as code
use Rattle.schedule_model.specs.Cells.{Cell, Variable, VarCell}
use Rattle.schedule_model.specs.Effects.{Untouched, Read, is_modified}
use Rattle.schedule_model.specs.Arguments.{Argument, Entries, reaches, joined, touch_by}
use Rattle.schedule_model.specs.Arguments as theorem
use Rattle.schedule_model.specs.Tells.{All}
use Rattle.schedule_model.specs.ByArguments.{touch_with}
use Rattle.bound_program.specs.declared.sites.Arg.{Arg}
use Rattle.bound_program.specs.declared.sites.Arg.TheVariants.{Dat, Global}
use Rattle.bound_program.specs.Values.{BoundValue}
use Rattle.bound_program.specs.Fits.{SiteFits, ArgFits, GlobalAccess, var_at, site_at}
use Rattle.run_model.specs.Arguments.{no_arg, argument_of, arg_at, argument_at, entries, dat_width, var_width, is_there, is_constant}
use Rattle.bound_plan.specs.Variables.{reduction_of, reduced_by, reduces_at}
use Rattle.bound_plan.proofs.Globals.{Reducing, reduced_some, first_reduces}

-- a cell that is only read is not modified
module _ (entry : Entries) (dim width : ℕ → ℕ) (arg : ℕ → Argument) (e : ℕ) (c : Cell) where
  only_read : (n : ℕ) → All entry dim width arg n e c (λ x. x ≡ OpRead) → (touch_by entry dim width arg n e c ≡ Untouched) ⊎ (touch_by entry dim width arg n e c ≡ Read)
  only_read zero h = inl refl
  only_read (suc n) h = ⊎_elim
      (λ (t : reaches entry dim width e (arg n) c ≡ true).
      let one = cond-true (reaches entry dim width e (arg n) c) (joined (touch_by entry dim width arg n e c) (theorem.access_of (arg n))) (touch_by entry dim width arg n e c) t in
      let q : theorem.access_of (arg n) ≡ OpRead = h n (omega arith) t in
      inr (one ∙ ap (joined (touch_by entry dim width arg n e c)) q ∙ ⊎_elim
      (λ u. ap (λ z. joined z OpRead) u)
      (λ u. ap (λ z. joined z OpRead) u)
      (only_read n (λ a l. h a (omega arith)))))
      (λ (f : reaches entry dim width e (arg n) c ≡ false).
      let none = cond-false (reaches entry dim width e (arg n) c) (joined (touch_by entry dim width arg n e c) (theorem.access_of (arg n))) (touch_by entry dim width arg n e c) f in
      ⊎_elim (λ u. inl (none ∙ u)) (λ u. inr (none ∙ u)) (only_read n (λ a l. h a (omega arith))))
      (cases_Bool (reaches entry dim width e (arg n) c))

  pub unmodified : (n : ℕ) → All entry dim width arg n e c (λ x. x ≡ OpRead) → is_modified (touch_by entry dim width arg n e c) ≡ false
  unmodified n h = ⊎_elim (λ u. ap is_modified u) (λ u. ap is_modified u) (only_read n h)

-- an access of a global that merges no amounts only reads
reads_else : (a : Access) (c : Option ℕ) → GlobalAccess a c → reduction_of a ≡ None → access_of a ≡ OpRead
reads_else code.Read c g h = refl
reads_else code.Write c g h = absurd g
reads_else code.Rw c g h = absurd g
reads_else code.Inc c g h = let q : ⊥ = cc in absurd q
reads_else code.Min c g h = let q : ⊥ = cc in absurd q
reads_else code.Max c g h = let q : ⊥ = cc in absurd q

-- one that merges amounts is of no constant
no_constant : (a : Access) (o : Reduction) (c : Option ℕ) → GlobalAccess a c → reduction_of a ≡ Some o → c ≡ None
no_constant code.Read o c g h = let q : ⊥ = cc in absurd q
no_constant code.Write o c g h = absurd g
no_constant code.Rw o c g h = absurd g
no_constant code.Inc o c g h = g
no_constant code.Min o c g h = g
no_constant code.Max o c g h = g

some_or_none : (r : Option Reduction) → (r ≡ None) ⊎ ((o : Reduction) × (r ≡ Some o))
some_or_none None = inl refl
some_or_none (Some o) = inr (o, refl)

module _ (b : BoundValue) (s : ℕ) (fits : SiteFits b (site_at b s)) where
  abbrev args : List Arg
  args = (site_at b s).args

  -- what the setup says of a cell into which a loop merges amounts
  pub record Merges (v : VarCell) (o : Reduction) : Type 0 where
    pub argument : Reducing args v.variable o
    pub component : v.component < var_width b v.variable
    pub variable : v.variable < length b.vars
    pub constant : (var_at b v.variable).constant ≡ None

  pub merges : (v : VarCell) (o : Reduction) → reduces_at b s v ≡ Some o → Merges v o
  merges v o h = ⊎_elim
      (λ (t : nat_lt v.component (var_width b v.variable) ≡ true).
      let w : Reducing args v.variable o = reduced_some args v.variable o (sym (cond-true (nat_lt v.component (var_width b v.variable)) (reduced_by args v.variable) None t) ∙ h) in
      let f : ArgFits b (site_at b s).set (Global v.variable w.access) = subst (ArgFits b (site_at b s).set) w.is (fits.args w.number no_arg w.there) in
      let m : Merges v o = record {
        argument = w;
        component = ltb-true v.component (var_width b v.variable) t;
        variable = f.0;
        constant =
            no_constant w.access o (var_at b v.variable).constant f.3 w.how;
      } in
      m)
      (λ (t : nat_lt v.component (var_width b v.variable) ≡ false).
      let z : None ≡ Some o = sym (cond-false (nat_lt v.component (var_width b v.variable)) (reduced_by args v.variable) None t) ∙ h in
      let q : ⊥ = cc in absurd q)
      (cases_Bool (nat_lt v.component (var_width b v.variable)))

  -- such a cell is no constant
  pub is_variable : (v : VarCell) (o : Reduction) → reduces_at b s v ≡ Some o → is_constant b (Variable v) ≡ false
  is_variable v o h = and_left (is_there (var_at b v.variable).constant) (nat_lt v.component (var_width b v.variable)) (ap is_there (merges v o h).constant)

  pub merged_touch : (e : ℕ) (v : VarCell) (o : Reduction) → reduces_at b s v ≡ Some o
      → touch_with (entries b) (dat_width b) (var_width b) (argument_at (site_at b s)) (length args) e (is_constant b) (Variable v)
      ≡ touch_by (entries b) (dat_width b) (var_width b) (argument_at (site_at b s)) (length args) e (Variable v)
  merged_touch e v o h = cond-false (is_constant b (Variable v)) Read (touch_by (entries b) (dat_width b) (var_width b) (argument_at (site_at b s)) (length args) e (Variable v)) (is_variable v o h)

  -- the argument that reaches a variable's cell only reads it, where the loop merges no amounts into it
  reads : (e : ℕ) (v : VarCell) → reduces_at b s v ≡ None → (a : ℕ) → a < length args → (y : Arg) → get_or args a no_arg ≡ y
      → reaches (entries b) (dat_width b) (var_width b) e (argument_of y) (Variable v) ≡ true → theorem.access_of (argument_of y) ≡ OpRead
  reads e v h a l (Dat d None x) i r = absurd (false≢true r)
  reads e v h a l (Dat d (Some w) x) i r = absurd (false≢true r)
  reads e v h a l (Global n x) i r =
      let p : ((n == v.variable) ≡ true) × (nat_lt v.component (var_width b n) ≡ true) = and_parts (n == v.variable) (nat_lt v.component (var_width b n)) r in
      let same : n ≡ v.variable = eqb-true n v.variable p.0 in
      let width : nat_lt v.component (var_width b v.variable) ≡ true = ap (λ z. nat_lt v.component (var_width b z)) (sym same) ∙ p.1 in
      let f : ArgFits b (site_at b s).set (Global n x) = subst (ArgFits b (site_at b s).set) i (fits.args a no_arg l) in
      reads_else x (var_at b n).constant f.3 (⊎_elim
      (λ z. z)
      (λ (w : (o : Reduction) × (reduction_of x ≡ Some o)).
      let q : None ≡ Some w.0 = sym h ∙ cond-true (nat_lt v.component (var_width b v.variable)) (reduced_by args v.variable) None width
      ∙ ap (reduced_by args) (sym same) ∙ first_reduces args fits.apart a n x w.0 l i w.1 in
      let z : ⊥ = cc in absurd z)
      (some_or_none (reduction_of x)))

  pub constant_touch : (e : ℕ) (v : VarCell) → reduces_at b s v ≡ None
      → is_modified (touch_with (entries b) (dat_width b) (var_width b) (argument_at (site_at b s)) (length args) e (is_constant b) (Variable v)) ≡ false
  constant_touch e v h = ⊎_elim
      (λ (t : is_constant b (Variable v) ≡ true). ap is_modified
      (cond-true (is_constant b (Variable v)) Read
      (touch_by (entries b) (dat_width b) (var_width b) (argument_at (site_at b s)) (length args) e (Variable v)) t))
      (λ (t : is_constant b (Variable v) ≡ false).
      ap is_modified (cond-false (is_constant b (Variable v)) Read (touch_by (entries b) (dat_width b) (var_width b) (argument_at (site_at b s)) (length args) e (Variable v)) t)
      ∙ unmodified (entries b) (dat_width b) (var_width b) (argument_at (site_at b s)) e (Variable v) (length args) (λ a l r. reads e v h a l (arg_at (site_at b s) a) refl r))
      (cases_Bool (is_constant b (Variable v)))
