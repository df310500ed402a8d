-- The variables of the file have their cells among the constants, as far as the text names them.
use Rattle.std.proofs.Common.{◌≡◌, ℕ, zero, suc, ◌<◌, List, [], ◌∷◌, ◌++◌, length, Bool, true, false, ◌||◌, refl, sym, ap, subst, arith, ◌∙◌}
use Rattle.std.specs.Prelude.{◌≢◌, All, Option, None, bytes_eq, slice_index_or}
use Rattle.std.specs.List.{list_any}
use Rattle.std.proofs.lemmas.List.{get_or_append_left, length-append}
use Rattle.std.proofs.lemmas.List.Folds.{list_any-append}
use Rattle.std.proofs.lemmas.List.Elements.{All-get_or, All-head, All-tail}
use Rattle.std.proofs.lemmas.Slice.Eq.{bytes_eq-Decides}
use Rattle.c_tree.specs.declared.lexer.tokens.Pos.{Pos}
use Rattle.kernel_model.specs.declared.types.kernels.ConstDecl.{ConstDecl}
use Rattle.bound_program.specs.Values.{VarValue}
use Rattle.main_declarations.specs.SoFar.{first_cell}
use Rattle.main_declarations.specs.Variables.{with_constant}
use Rattle.loop_bind.specs.FileVariables.{FileVariable, NamesApart, is_constant}
use Rattle.std.proofs.Math.Bool.{or-false}

-- ---- names among those that are told

not_same : (x y : List ℕ) → x ≢ y → bytes_eq x y ≡ false
not_same x y d = pick (bytes_eq x y) refl
  where
    pick : (b : Bool) → bytes_eq x y ≡ b → b ≡ false
    pick false e = refl
    pick true e = absurd (d ((bytes_eq-Decides x y).0 e))

or_true : (b : Bool) → b || true ≡ true
or_true true = refl
or_true false = refl

more_same : (f : FileVariable) (x : List ℕ) (done : List (List ℕ)) → f.name ≢ x → is_constant (done ++ x ∷ []) f ≡ is_constant done f
more_same f x done d = ap (λ b. f.is_const || b) (list_any-append (bytes_eq f.name) done (x ∷ [])
    ∙ ap (λ b. list_any (bytes_eq f.name) done || (b || false)) (not_same f.name x d) ∙ or-false (list_any (bytes_eq f.name) done))

more_here : (f : FileVariable) (x : List ℕ) (done : List (List ℕ)) → f.name ≡ x → is_constant (done ++ x ∷ []) f ≡ true
more_here f x done e =
    ap (λ b. f.is_const || b) (list_any-append (bytes_eq f.name) done (x ∷ [])
    ∙ ap (λ b. list_any (bytes_eq f.name) done || (b || false)) ((bytes_eq-Decides f.name x).1 e)
    ∙ or_true (list_any (bytes_eq f.name) done))
    ∙ or_true f.is_const

-- ---- the file's variables and the program's

abbrev pub cell_if : Bool → Option ℕ → Option ℕ
cell_if true o = o
cell_if false o = None

abbrev pub AllNone : List VarValue → Type 0
AllNone [] = Unit {0}
AllNone (v ∷ vs) = (v.constant ≡ None) × AllNone vs

module _ (cs : List ConstDecl) where
  -- a variable has the cells of its constant, where it is `const` or named so far
  abbrev pub Tag : List (List ℕ) → FileVariable → VarValue → Type 0
  Tag done f v = (v.constant ≡ cell_if (is_constant done f) (first_cell cs f.name)) × (length v.start ≡ f.count)

  -- the variables of the file come first, and others have no cells
  abbrev pub Tagged : List (List ℕ) → List FileVariable → List VarValue → Type 0
  Tagged done [] vs = AllNone vs
  Tagged done (f ∷ fs) [] = ⊥
  Tagged done (f ∷ fs) (v ∷ vs) = Tag done f v × Tagged done fs vs

  none_push : (vs : List VarValue) (x : VarValue) → x.constant ≡ None → AllNone vs → AllNone (vs ++ x ∷ [])
  none_push [] x e h = (e, tt)
  none_push (v ∷ vs) x e h = (h.0, none_push vs x e h.1)

  -- a further variable that is no constant
  pub tagged_push : (done : List (List ℕ)) (fs : List FileVariable) (vs : List VarValue) (x : VarValue) → x.constant ≡ None → Tagged done fs vs → Tagged done fs (vs ++ x ∷ [])
  tagged_push done [] vs x e h = none_push vs x e h
  tagged_push done (f ∷ fs) [] x e h = absurd h
  tagged_push done (f ∷ fs) (v ∷ vs) x e h = (h.0, tagged_push done fs vs x e h.1)

  -- a further variable of the file
  pub tagged_next : (done : List (List ℕ)) (fs : List FileVariable) (vs : List VarValue) (f : FileVariable) (v : VarValue)
      → Tagged done fs vs → length vs ≡ length fs → Tag done f v → Tagged done (fs ++ f ∷ []) (vs ++ v ∷ [])
  tagged_next done [] [] f v h e t = (t, tt)
  tagged_next done [] (w ∷ vs) f v h e t = absurd (omega (arith, e))
  tagged_next done (g ∷ fs) [] f v h e t = absurd h
  tagged_next done (g ∷ fs) (w ∷ vs) f v h e t = (h.0, tagged_next done fs vs f v h.1 (omega (arith, e)) t)

  -- ---- a constant is declared

  abbrev pub no_variable : FileVariable
  no_variable = record { name = []; is_const = false; count = 0 }

  -- the variable of the file of this number has this name
  pub record HasName (fs : List FileVariable) (v : ℕ) (x : List ℕ) : Type 0 where
    pub below : v < length fs
    pub named : (slice_index_or fs v no_variable).name ≡ x

  pub name_more : (fs gs : List FileVariable) (v : ℕ) (x : List ℕ) → HasName fs v x → HasName (fs ++ gs) v x
  name_more fs gs v x h = record {
    below = omega (arith, h.below, length-append fs gs);
    named = ap (λ (f : FileVariable). f.name) (get_or_append_left fs gs no_variable v h.below) ∙ h.named;
  }

  -- where the name is none of theirs, nothing changes
  tagged_other : (done : List (List ℕ)) (x : List ℕ) (fs : List FileVariable) (vs : List VarValue) → All (λ (g : FileVariable). x ≢ g.name) fs → Tagged done fs vs → Tagged (done ++ x ∷ []) fs vs
  tagged_other done x [] vs a h = h
  tagged_other done x (f ∷ fs) [] a h = absurd h
  tagged_other done x (f ∷ fs) (v ∷ vs) a h =
      let d : x ≢ f.name = All-head (λ (g : FileVariable). x ≢ g.name) f fs a in
      ((h.0.0 ∙ ap (λ b. cell_if b (first_cell cs f.name)) (sym (more_same f x done (λ e. d (sym e)))), h.0.1), tagged_other done x fs vs (All-tail (λ (g : FileVariable). x ≢ g.name) f fs a) h.1)

  pub tagged_constant : (places : List Pos) (done : List (List ℕ)) (x : List ℕ) (fs : List FileVariable) (vs : List VarValue) (v : ℕ)
      → NamesApart fs → HasName fs v x → Tagged done fs vs → Tagged (done ++ x ∷ []) fs (with_constant places v (first_cell cs x) vs)
  tagged_constant places done x [] vs v a n h = absurd (omega (arith, n.below))
  tagged_constant places done x (f ∷ fs) [] v a n h = absurd h
  tagged_constant places done x (f ∷ fs) (w ∷ vs) zero a n h =
      let same : f.name ≡ x = n.named in (
        (ap (λ y. first_cell cs y) (sym same) ∙ ap (λ b. cell_if b (first_cell cs f.name)) (sym (more_here f x done same)), h.0.1),
        tagged_other done x fs vs (subst (λ y. All (λ (g : FileVariable). y ≢ g.name) fs) same a.0) h.1,
      )
  tagged_constant places done x (f ∷ fs) (w ∷ vs) (suc v) a n h =
      let below : v < length fs = omega (arith, n.below) in
      let d : f.name ≢ (slice_index_or fs v no_variable).name = All-get_or (λ (g : FileVariable). f.name ≢ g.name) fs v no_variable below a.0 in (
        (h.0.0 ∙ ap (λ b. cell_if b (first_cell cs f.name)) (sym (more_same f x done (subst (λ y. f.name ≢ y) n.named d))), h.0.1),
        tagged_constant places done x fs vs v a.1 (record { below = below; named = n.named }) h.1,
      )
