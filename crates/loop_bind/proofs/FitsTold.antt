-- The values that are told leave all but themselves.
use Rattle.std.proofs.Common.{◌≡◌, ℕ, zero, suc, ℤ, ◌+◌, List, [], ◌∷◌, length, refl, sym, ap, arith, ◌∙◌}
use Rattle.std.specs.Prelude.{Option, Some, None}
use Rattle.std.proofs.lemmas.List.Elements.{All-weaker}
use Rattle.std.proofs.lemmas.List.Sums.{sum_by-cons}
use Rattle.kernel_model.specs.declared.types.kernels.RKernel.{RKernel}
use Rattle.mesh_decl.specs.Mesh.{MeshValue}
use Rattle.kernel_model.specs.View.{RExprTree, Number, Scalar, Constant, Arg, Local, Const, Unary, Binary, Choice, Paren, Extremum, Absolute}
use Rattle.bound_program.specs.Values.{ActValue, Clear, Assign, Line, Print, Exit, ItemValue, Free, Reduce, Ordered, Host, SiteValue, VarValue, BoundValue}
use Rattle.bound_program.specs.Limited.{ToldValue}
use Rattle.loop_bind.specs.Weights.{started, with_told}
use Rattle.bound_program.specs.Fits.{HostWithin, IndexWithin, ActFits, due, ItemsFit}
use Rattle.loop_bind.proofs.FitsState.{at, cells_in, vars-self, vars-trans}
use Rattle.loop_bind.proofs.FitsVars.{VarsKept, program}
use Rattle.loop_bind.proofs.FitsMain.{IsOne}
use Rattle.loop_bind.proofs.FitsTrace.{TellsOf}

started_length : (v : ℕ) (z : ℤ) (vs : List VarValue) → length (started v z vs) ≡ length vs
started_length v z [] = refl
started_length zero z (x ∷ xs) = refl
started_length (suc v) z (x ∷ xs) = ap suc (started_length v z xs)

started_start : (v : ℕ) (z : ℤ) (vs : List VarValue) → length (at vs v).start ≡ 1 → (w : ℕ) → length (at (started v z vs) w).start ≡ length (at vs w).start
started_start v z [] e w = refl
started_start zero z (x ∷ xs) e zero = sym e
started_start zero z (x ∷ xs) e (suc w) = refl
started_start (suc v) z (x ∷ xs) e zero = refl
started_start (suc v) z (x ∷ xs) e (suc w) = started_start v z xs e w

started_constant : (v : ℕ) (z : ℤ) (vs : List VarValue) (w : ℕ) → (at (started v z vs) w).constant ≡ (at vs w).constant
started_constant v z [] w = refl
started_constant zero z (x ∷ xs) zero = refl
started_constant zero z (x ∷ xs) (suc w) = refl
started_constant (suc v) z (x ∷ xs) zero = refl
started_constant (suc v) z (x ∷ xs) (suc w) = started_constant v z xs w

started_cells : (v : ℕ) (z : ℤ) (vs : List VarValue) → length (at vs v).start ≡ 1 → cells_in (started v z vs) ≡ cells_in vs
started_cells v z [] e = refl
started_cells zero z (x ∷ xs) e =
    sum_by-cons (λ (y : VarValue). length y.start) (record x { start = z ∷ [] }) xs ∙ ap (λ n. n + cells_in xs) (sym e) ∙ sym (sum_by-cons (λ (y : VarValue). length y.start) x xs)
started_cells (suc v) z (x ∷ xs) e =
    sum_by-cons (λ (y : VarValue). length y.start) x (started v z xs) ∙ ap (λ n. length x.start + n) (started_cells v z xs e) ∙ sym (sum_by-cons (λ (y : VarValue). length y.start) x xs)

-- the same cells and constants
pub record Same (vs ws : List VarValue) : Type 0 where
  pub kept : VarsKept vs ws
  pub length : length ws ≡ length vs
  pub cells : cells_in ws ≡ cells_in vs

same-self : (vs : List VarValue) → Same vs vs
same-self vs = record { kept = record { grow = vars-self vs; constants = λ v l. refl }; length = refl; cells = refl }

same-trans : (us vs ws : List VarValue) → Same us vs → Same vs ws → Same us ws
same-trans us vs ws h k = record {
  kept = record {
    grow = vars-trans us vs ws h.kept.grow k.kept.grow;
    constants = λ v l. k.kept.constants v (omega (arith, l, h.length)) ∙ h.kept.constants v l;
  };
  length = k.length ∙ h.length;
  cells = k.cells ∙ h.cells;
}

pub one_same : (v : ℕ) (z : ℤ) (vs : List VarValue) → IsOne vs v → Same vs (started v z vs)
one_same v z vs h = record {
  kept = record {
    grow = record { longer = omega (arith, started_length v z vs); same = λ w l. started_start v z vs h.one w };
    constants = λ w l. started_constant v z vs w;
  };
  length = started_length v z vs;
  cells = started_cells v z vs h.one;
}

one_moved : (vs ws : List VarValue) → Same vs ws → (v : ℕ) → IsOne vs v → IsOne ws v
one_moved vs ws s v h = record { var = omega (arith, h.var, s.length); one = s.kept.grow.same v h.var ∙ h.one }

-- told values of variables of one cell
abbrev pub AllOne : List VarValue → List ToldValue → Type 0
AllOne vs [] = Unit {0}
AllOne vs (t ∷ ts) = IsOne vs t.var × AllOne vs ts

pub all_moved : (vs ws : List VarValue) → Same vs ws → (ts : List ToldValue) → AllOne vs ts → AllOne ws ts
all_moved vs ws s [] h = tt
all_moved vs ws s (t ∷ ts) h = (one_moved vs ws s t.var h.0, all_moved vs ws s ts h.1)

pub told_same : (ts : List ToldValue) (vs : List VarValue) → AllOne vs ts → Same vs (with_told ts vs)
told_same [] vs h = same-self vs
told_same (t ∷ ts) vs h =
    let s = one_same t.var t.value vs h.0 in
    same-trans vs (started t.var t.value vs) (with_told ts (started t.var t.value vs)) s (told_same ts (started t.var t.value vs) (all_moved vs (started t.var t.value vs) s ts h.1))

pub all_one : (b : BoundValue) (ts : List ToldValue) → TellsOf b ts → AllOne b.vars ts
all_one b [] h = tt
all_one b (t ∷ ts) h = (h.0, all_one b ts h.1)

-- ---- items, where variables have the same cells

module _ (g : MeshValue) (ks : List RKernel) (ss : List SiteValue) (vs ws : List VarValue) (is js : List ItemValue) (s : Same vs ws) where
  abbrev b : BoundValue
  b = program g ks ss vs is

  abbrev c : BoundValue
  c = program g ks ss ws js

  host_moved : (e : RExprTree) → HostWithin b e → HostWithin c e
  host_moved (Number n) h = h
  host_moved (Scalar k) h = omega (arith, h, s.cells)
  host_moved (Constant k) h = absurd h
  host_moved (Arg x form e at) h = absurd h
  host_moved (Local from count form e at) h = (omega (arith, h.0, s.cells), host_moved e h.1)
  host_moved (Const from count form e at) h = absurd h
  host_moved (Unary op e) h = host_moved e h
  host_moved (Binary op x y at) h = (host_moved x h.0, host_moved y h.1)
  host_moved (Choice d x y) h = (host_moved d h.0, host_moved x h.1, host_moved y h.2)
  host_moved (Paren e) h = host_moved e h
  host_moved (Extremum which x y) h = (host_moved x h.0, host_moved y h.1)
  host_moved (Absolute e) h = host_moved e h

  index_moved : (o : Option RExprTree) → IndexWithin b o → IndexWithin c o
  index_moved None h = tt
  index_moved (Some e) h = host_moved e h

  act_moved : (a : ActValue) → ActFits b a → ActFits c a
  act_moved (Clear v) h = omega (arith, h, s.length)
  act_moved (Assign v i op op_at e p) h =
      let n : length (at ws v).start ≡ length (at vs v).start = s.kept.grow.same v h.0 in
      (omega (arith, h.0, s.length), omega (arith, h.1, n), index_moved i h.2, host_moved e h.3)
  act_moved (Line l es) h = (h.0, All-weaker (HostWithin b) (HostWithin c) host_moved es h.1)
  act_moved (Print x file) h = h
  act_moved Exit h = tt

  pub items_moved : (o : Option ℕ) (xs : List ItemValue) → ItemsFit b o xs → ItemsFit c o xs
  items_moved None [] h = tt
  items_moved None (Free n ∷ xs) h = (h.0, h.1, items_moved (due b n) xs h.2)
  items_moved None (Ordered n ∷ xs) h = (h.0, h.1, items_moved None xs h.2)
  items_moved None (Host a ∷ xs) h = (act_moved a h.0, items_moved None xs h.1)
  items_moved None (Reduce n ∷ xs) h = absurd h
  items_moved (Some n) [] h = absurd h
  items_moved (Some n) (Free m ∷ xs) h = absurd h
  items_moved (Some n) (Ordered m ∷ xs) h = absurd h
  items_moved (Some n) (Host a ∷ xs) h = absurd h
  items_moved (Some n) (Reduce m ∷ xs) h = (h.0, items_moved None xs h.1)
