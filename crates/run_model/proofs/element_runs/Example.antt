-- A run that is that of a kernel: a[0] = 7; on a direct OP_RW argument.
use Rattle.std.proofs.Common.{◌≡◌, ◌+◌, ◌<◌, ℕ, zero, suc, pos, Bool, true, false, List, [], ◌∷◌, length, refl, sym, ap, ◌∙◌, subst, arith, get_or, Vec, Global}
use Rattle.std.specs.Prelude.{◌↔◌, ◌&&◌, ◌==◌, nat_lt, cond, slice_index_or}
use Rattle.std.proofs.lemmas.Bool.{eqb-true, ltb-true}
use Rattle.op_num.specs.declared.bytes.Name.{Name}
use Rattle.c_tree.specs.declared.lexer.tokens.Pos.{Pos}
use Rattle.c_tree.specs.declared.declarations.AssignOp.TheVariants as assign
use Rattle.kernel_model.specs.declared.types.expressions.ElementForm.TheVariants as form
use Rattle.kernel_model.specs.declared.types.expressions.RExpr.TheVariants.{Number}
use Rattle.kernel_model.specs.declared.types.statements.RStmt.{SetArg}
use Rattle.kernel_model.specs.declared.types.faults.KernelFault.{KernelFault}
use Rattle.kernel_model.specs.declared.types.kernels.RKernel.{RKernel}
use Rattle.kernel_model.specs.Meaning.{Target, target_at}
use Rattle.kernel_model.specs.Meaning as kernel
use Rattle.op_num.specs.Access.{OpRw, OpWrite}
use Rattle.kernel_model.specs.Obeys.{Mode, mode_at, KernelObeys}
use Rattle.kernel_model.specs.Independence.{same_cell}
use Rattle.kernel_model.specs.Independence as law
use Rattle.schedule_model.specs.Cells.{DatCell, Cell, Data, Variable, Store, InRange, with_cell, same_cell as alike}
use Rattle.schedule_model.specs.Effects.{Ran, Finished}
use Rattle.schedule_model.specs.Arguments.{Argument, Direct, Entries, reaches}
use Rattle.run_model.specs.ElementRun.{IsElementRun, Held}
use Rattle.run_model.specs.OnWindows.{OnWindows, no_cell}
use Rattle.lemmas.proofs.Truth.{and_first, and_second}

abbrev pub here : Pos
here = record { line = 1; column = 1 }

abbrev pub modes : List Mode
modes = record { access = OpRw; dim = 1 } ∷ []

abbrev pub argument : ℕ → Argument
argument a = Direct 0 OpRw

abbrev pub cell_of : ℕ → ℕ → Cell
cell_of a i = Data (record { dat = 0; element = 0; component = i })

abbrev target : List Target
target = record { array = 0; from = 0; count = 1 } ∷ []

abbrev held_in : Store → kernel.Store
held_in s = (s (cell_of 0 0) ∷ []) ∷ []

abbrev pub sevens : Name → Vec Pos Global → RKernel
sevens name places = record {
  name = name;
  params = 1;
  scratch = 0;
  body = record { param_places = places; statement = SetArg 0 form.Index (Number (pos 0)) here assign.Set here (Number (pos 7)) };
}

abbrev pub run : Store → Ran KernelFault
run s = Finished (with_cell (cell_of 0 0) (pos 7) s)

no_write : (a : ℕ) → (mode_at modes a).access ≡ OpWrite → ⊥
no_write zero h = let f : ⊥ = cc in f
no_write (suc a) h = let f : ⊥ = cc in f

-- there is one component alone
only_first : (P : ℕ → ℕ → Type 0) → P 0 0 → (a i : ℕ) → i < (mode_at modes a).dim → P a i
only_first P p zero zero lt = p
only_first P p zero (suc i) lt = absurd (omega arith)
only_first P p (suc a) i lt = absurd (omega arith)

is_cell : (c : DatCell) → c.dat ≡ 0 → c.element ≡ 0 → Data c ≡ cell_of 0 c.component
is_cell c d e = ap (λ x. Data (record { dat = x; element = c.element; component = c.component })) d ∙ ap (λ x. Data (record { dat = 0; element = x; component = c.component })) e

accesses : (a : ℕ) → a < 1 → (mode_at modes a).access ≡ OpRw
accesses zero lt = refl
accesses (suc a) lt = absurd (omega arith)

module _ (entry : Entries) (width : ℕ → ℕ) where
  abbrev is_reached : Cell → Bool
  is_reached c = reaches entry (λ d. 1) width 0 (argument 0) c

  reached : (a : ℕ) (c : Cell) → a < 1 → is_reached c ≡ true → (i : ℕ) × (i < (mode_at modes a).dim) × (c ≡ cell_of a i)
  reached zero (Data c) lt r =
      let more = and_second (0 == c.dat) ((0 == c.element) && nat_lt c.component 1) r in
      let d : 0 ≡ c.dat = eqb-true 0 c.dat (and_first (0 == c.dat) ((0 == c.element) && nat_lt c.component 1) r) in
      let e : 0 ≡ c.element = eqb-true 0 c.element (and_first (0 == c.element) (nat_lt c.component 1) more) in
      (c.component, ltb-true c.component 1 (and_second (0 == c.element) (nat_lt c.component 1) more), is_cell c (sym d) (sym e))
  reached zero (Variable v) lt r = absurd (let f : ⊥ = cc in f)
  reached (suc a) c lt r = absurd (omega arith)

  held : (s : Store) → Held entry (λ d. 1) width argument 1 0 modes cell_of target (held_in s) s
  held s = record {
    counts = counts;
    fits = record {
      arrays = λ a i lt. only_first (λ a i. (target_at target a).array < 1) (omega arith) a i (subst (λ c. i < c) (counts a) lt);
      cells = λ a i lt. only_first (λ a i. (target_at target a).from + i < length (slice_index_or (held_in s) (target_at target a).array [])) (omega arith) a i (subst (λ c. i < c) (counts a) lt);
    };
    aliases = λ a i b j lt mt.
        only_first (λ a i. (same_cell target a i b j ≡ true) ↔ (cell_of a i ≡ cell_of b j))
        (only_first (λ b j. (same_cell target 0 0 b j ≡ true) ↔ (cell_of 0 0 ≡ cell_of b j)) (λ e. refl, λ e. refl) b j mt) a i lt;
    values = only_first (λ a i. kernel.read_arg target (held_in s) a i ≡ s (cell_of a i)) refl;
  }
    where
      counts : (a : ℕ) → (target_at target a).count ≡ (mode_at modes a).dim
      counts zero = refl
      counts (suc a) = refl

  others : (s : Store) (c : Cell) → ((a : ℕ) → a < 1 → is_reached c ≡ false) → with_cell (cell_of 0 0) (pos 7) s c ≡ s c
  others s (Variable v) h = refl
  others s (Data c) h = pick (alike (Data c) (cell_of 0 0)) refl
    where
      first_reached : alike (Data c) (cell_of 0 0) ≡ true → ⊥
      first_reached e =
          let more = and_second (c.dat == 0) ((c.element == 0) && (c.component == 0)) e in
          let d : c.dat ≡ 0 = eqb-true c.dat 0 (and_first (c.dat == 0) ((c.element == 0) && (c.component == 0)) e) in
          let l : c.element ≡ 0 = eqb-true c.element 0 (and_first (c.element == 0) (c.component == 0) more) in
          let k : c.component ≡ 0 = eqb-true c.component 0 (and_second (c.element == 0) (c.component == 0) more) in
          let same : Data c ≡ cell_of 0 0 = is_cell c d l ∙ ap (cell_of 0) k in
          let r : true ≡ false = subst (λ x. is_reached x ≡ false) same (h 0 (omega arith)) in
          let f : ⊥ = cc in f

      pick : (t : Bool) → alike (Data c) (cell_of 0 0) ≡ t → cond t (pos 7) (s (Data c)) ≡ s (Data c)
      pick true e = absurd (first_reached e)
      pick false e = refl

  small : (s : Store) → InRange s → law.InRange (held_in s)
  small s h zero zero = h (cell_of 0 0)
  small s h zero (suc j) = record { sfits = omega arith }
  small s h (suc x) j = record { sfits = omega arith }

  module _ (name : Name) (places : Vec Pos Global) (one_place : length places.items ≡ 1) where
    pub is_element_run : IsElementRun entry (λ d. 1) width argument 1 0 modes cell_of (sevens name places) (λ c. false) run
    is_element_run = record {
      count = refl;
      accesses = accesses;
      reach = only_first (λ a i. reaches entry (λ d. 1) width 0 (argument a) (cell_of a i) ≡ true) refl;
      reached = reached;
      consts = λ s. [];
      constants = λ s w h. refl;
      resolved = λ s. record { within = (omega arith, tt, record { sfits = omega arith }, record { sfits = omega arith }); counters = tt; places = one_place };
      numbers = λ s h j. record { sfits = omega arith };
      targets = λ s. target;
      lists = held_in;
      in_range = small;
      held = held;
      ends = λ s. (only_first (λ a i. with_cell (cell_of 0 0) (pos 7) s (cell_of a i) ≡ kernel.read_arg target ((pos 7 ∷ []) ∷ []) a i) refl, others s);
    }

counts : (a : ℕ) → (target_at target a).count ≡ (mode_at modes a).dim
counts zero = refl
counts (suc a) = refl

-- the kernel obeys its modes
pub obeys : (name : Name) (places : Vec Pos Global) → KernelObeys (sevens name places) modes
obeys name places w = ((omega arith, tt), λ a i e lt. absurd (no_write a e))

-- its argument names the one cell of its window
pub on_windows : OnWindows modes cell_of (cell_of 0 0 ∷ []) target
on_windows = record {
  counts = counts;
  arrays = only_first (λ a i. (target_at target a).array ≡ 0) refl;
  inside = only_first (λ a i. (target_at target a).from + i < 1) (omega arith);
  are = only_first (λ a i. get_or (cell_of 0 0 ∷ []) ((target_at target a).from + i) no_cell ≡ cell_of a i) refl;
  covered = λ j lt. (0, 0, omega arith, omega (arith, lt));
  once = λ i j li lj h. omega (arith, li, lj);
}
