-- What is declared leaves the variables that are `const` behind each declaration, and so do the steps.
use Rattle.std.proofs.Common.{◌≡◌, ℕ, zero, suc, ℤ, pos, List, [], ◌∷◌, ◌++◌, length, replicate, Ok, Err, Bool, true, false, refl, ap, arith}
use Rattle.std.specs.Prelude.{Option, Some, None, bytes_eq}
use Rattle.std.specs.Map.{lookup}
use Rattle.std.proofs.lemmas.List.Elements.{All-nil}
use Rattle.c_tree.specs.declared.lexer.tokens.Pos.{Pos}
use Rattle.c_tree.specs.declared.expressions.Ident.{Ident}
use Rattle.c_tree.specs.Tree as tree
use Rattle.c_tree.specs.Tree.{ExprTree, DeclrTree, TopTree}
use Rattle.kernel_model.specs.declared.types.kernels.ConstDecl.{ConstDecl}
use Rattle.mesh_decl.specs.declared.text.entry.Entry.{Entry}
use Rattle.mesh_decl.specs.declared.text.entry.Entry.TheVariants.{One, Many}
use Rattle.mesh_decl.specs.Spelling.{Named}
use Rattle.main_declarations.specs.declared.names.walks.Spot.{Spot}
use Rattle.main_declarations.specs.declared.names.scopes.Cells.{Cells}
use Rattle.main_declarations.specs.declared.names.scopes.Meaning.{Meaning}
use Rattle.main_declarations.specs.declared.names.scopes.Meaning.TheVariants as m
use Rattle.bound_program.specs.Values.{VarValue, Clear}
use Rattle.main_declarations.specs.Names.{told_later}
use Rattle.bound_program.specs.Steps.{Asked, Step, Do, Fix, one_step}
use Rattle.main_declarations.specs.Expressions.{judged_static, judged_value}
use Rattle.bound_program.specs.Refusals.{Judged}
use Rattle.main_declarations.specs.SoFar.{Declared, Walked, does, behind, with_var, with_name, with_file_name, next_cells, changing, unchanging, first_cell, nothing_declared}
use Rattle.main_declarations.specs.Meanings.{count_of}
use Rattle.main_declarations.specs.Variables.{with_file_value, judged_file_declr, judged_file_declrs, with_fixed, with_fixed_later, with_turning, const_at, with_changing, initializer, judged_declr, judged_declrs, with_constant, after_constant}
use Rattle.main_declarations.specs.File.{judged_extern, judged_array, judged_top, judged_tops}
use Rattle.main_declarations.proofs.Public.{Gives, gives_then, gives_any}
use Rattle.loop_bind.proofs.FitsState.{at}
use Rattle.loop_bind.proofs.LeavesState.{VarsStay, stay-self, stay-trans, stay-push, free-last, MeaningLeaves, NameLeaves, SiteIsFree, StepIsFree, steps_more, free_followed, Leaves, leaves-vars, leaves-var, leaves-own, leaves-file, WalkLeaves, LeavesOn, WalkOn}

-- ---- the walk

pub on-self : (k : Declared) → Leaves k → LeavesOn k k
on-self k h = record { leaves = h; stay = stay-self k.vars }

pub walk-behind : (a : Walked) (l : Declared) → WalkLeaves a → LeavesOn a.declared l → WalkOn a.declared (behind a l)
walk-behind a l w g = record {
  walk = record { declared = g.leaves; steps = steps_more a.declared.vars l.vars g.stay a.steps w.steps };
  stay = g.stay;
}

pub walk-does : (a : Walked) (l : Declared) (s : Step) → WalkLeaves a → LeavesOn a.declared l → StepIsFree l.vars s → WalkOn a.declared (does s (behind a l))
walk-does a l s w g f = record {
  walk = record { declared = g.leaves; steps = free_followed l.vars a.steps (one_step s) (steps_more a.declared.vars l.vars g.stay a.steps w.steps) (f, tt) };
  stay = g.stay;
}

pub walk-self : (a : Walked) → WalkLeaves a → WalkOn a.declared a
walk-self a w = record { walk = w; stay = stay-self a.declared.vars }

pub walk-step : (a : Walked) (s : Step) → WalkLeaves a → StepIsFree a.declared.vars s → WalkOn a.declared (does s a)
walk-step a s w f = walk-does a a.declared s w (on-self a.declared w.declared) f

pub walk-trans : (k l : Declared) (b : Walked) → VarsStay k.vars l.vars → WalkOn l b → WalkOn k b
walk-trans k l b s w = record { walk = w.walk; stay = stay-trans k.vars l.vars b.declared.vars s w.stay }

pub walk-moved : (k l : Declared) (r : Judged Walked) → VarsStay k.vars l.vars → Gives (WalkOn l) r → Gives (WalkOn k) r
walk-moved k l (Ok b) s w = walk-trans k l b s w
walk-moved k l (Err e) s w = tt

on-moved : (j k : Declared) (r : Judged Declared) → VarsStay j.vars k.vars → Gives (LeavesOn k) r → Gives (LeavesOn j) r
on-moved j k (Ok l) s w = record { leaves = w.leaves; stay = stay-trans j.vars k.vars l.vars s w.stay }
on-moved j k (Err e) s w = tt

-- a name of `main` and its variable
pub on-var : (k : Declared) (x : List ℕ) (o : Meaning) (v : VarValue) → Leaves k → MeaningLeaves (k.vars ++ v ∷ []) o → LeavesOn k (with_name x o (with_var v k))
on-var k x o v h f = record { leaves = leaves-own (with_var v k) x o f (leaves-var k v h); stay = stay-push k.vars v }

-- a name of the file and its variable
on-file : (k : Declared) (x : List ℕ) (o : Meaning) (v : VarValue) → Leaves k → MeaningLeaves (k.vars ++ v ∷ []) o → LeavesOn k (with_file_name x o (with_var v k))
on-file k x o v h f = record { leaves = leaves-file (with_var v k) x o f (leaves-var k v h); stay = stay-push k.vars v }

pub on-name : (k : Declared) (x : List ℕ) (o : Meaning) → Leaves k → MeaningLeaves k.vars o → LeavesOn k (with_name x o k)
on-name k x o h f = record { leaves = leaves-own k x o f h; stay = stay-self k.vars }

-- ---- the file

pub nothing-leaves : Leaves nothing_declared
nothing-leaves = record { file = All-nil (NameLeaves []); own = All-nil (NameLeaves []); sites = All-nil (SiteIsFree []) }

module _ (places : List Pos) (cs : List ConstDecl) (es : List Named) where
  file-changing : (k : Declared) (x : List ℕ) (is_array : Bool) (n : ℕ) (zs : List ℤ) → Leaves k
      → LeavesOn k (with_file_name x (m.Variable (next_cells k true is_array n)) (with_var (changing x zs) k))
  file-changing k x is_array n zs h = on-file k x (m.Variable (next_cells k true is_array n)) (changing x zs) h (free-last k.vars (changing x zs) refl)

  value-on : (k : Declared) (c : Bool) (x : List ℕ) (z : ℤ) → Leaves k → LeavesOn k (with_file_value places cs k c x z)
  value-on k false x z h = file-changing k x false 1 (z ∷ []) h
  value-on k true x z h = on-file k x (m.Fixed z (next_cells k true false 1)) (unchanging x z (first_cell cs x)) h tt

  file-declr : (k : Declared) (c : Bool) (d : DeclrTree) → Leaves k → Gives (LeavesOn k) (judged_file_declr places cs k c d)
  file-declr k c (tree.Plain x) h = file-changing k x.name false 1 (pos 0 ∷ []) h
  file-declr k c (tree.Init x e) h =
      gives_then (λ z. Unit {0}) (LeavesOn k) (judged_value places k.names e) (λ z. Ok (with_file_value places cs k c x.name z))
      (gives_any (judged_value places k.names e)) (λ z u. value-on k c x.name z h)
  file-declr k c (tree.Array x n) h = file-changing k x.name true (count_of n) (replicate (count_of n) (pos 0)) h

  file-declrs : (k : Declared) (c : Bool) (ds : List DeclrTree) → Leaves k → Gives (LeavesOn k) (judged_file_declrs places cs k c ds)
  file-declrs k c [] h = on-self k h
  file-declrs k c (d ∷ ds) h =
      gives_then (LeavesOn k) (LeavesOn k) (judged_file_declr places cs k c d) (λ l. judged_file_declrs places cs l c ds) (file-declr k c d h)
      (λ l i. on-moved k l (judged_file_declrs places cs l c ds) i.stay (file-declrs l c ds i.leaves))

  file-name : (k : Declared) (x : List ℕ) (o : Meaning) → Leaves k → MeaningLeaves k.vars o → LeavesOn k (with_file_name x o k)
  file-name k x o h f = record { leaves = leaves-file k x o f h; stay = stay-self k.vars }

  extern-on : (k : Declared) (x : Ident) (e : Option Entry) → Leaves k → Gives (LeavesOn k) (judged_extern places cs es k x e)
  extern-on k x (Some (One z)) h = file-name k x.name (m.Extern z) h tt
  extern-on k x (Some (Many zs)) h = tt
  extern-on k x None h = tt

  array-on : (k : Declared) (x : Ident) (e : Option Entry) → Leaves k → Gives (LeavesOn k) (judged_array places cs es k x e)
  array-on k x (Some (One z)) h = tt
  array-on k x (Some (Many zs)) h = file-name k x.name m.ExternArray h tt
  array-on k x None h = tt

  top-on : (k : Declared) (t : TopTree) → Leaves k → Gives (LeavesOn k) (judged_top places cs es k t)
  top-on k (tree.Extern x) h = extern-on k x (lookup (bytes_eq x.name) es) h
  top-on k (tree.ExternArray x) h = array-on k x (lookup (bytes_eq x.name) es) h
  top-on k (tree.FileDeclaration v) h = file-declrs k v.is_const v.declrs h
  top-on k (tree.Kernel f) h =
      let i = file-name k f.name.name (m.Kernel k.kernels (length f.params)) h tt in
      record { leaves = record { file = i.leaves.file; own = i.leaves.own; sites = i.leaves.sites }; stay = i.stay }

  pub tops-on : (k : Declared) (ts : List TopTree) → Leaves k → Gives (LeavesOn k) (judged_tops places cs es k ts)
  tops-on k [] h = on-self k h
  tops-on k (t ∷ ts) h =
      gives_then (LeavesOn k) (LeavesOn k) (judged_top places cs es k t) (λ l. judged_tops places cs es l ts) (top-on k t h)
      (λ l i. on-moved k l (judged_tops places cs es l ts) i.stay (tops-on l ts i.leaves))

-- ---- declarations of `main`

module _ (places : List Pos) where
  changing-on : (k : Declared) (x : List ℕ) (is_array : Bool) (n : ℕ) → Leaves k → LeavesOn k (with_changing places k x is_array n)
  changing-on k x is_array n h = on-var k x (m.Variable (next_cells k false is_array n)) (changing x (replicate n (pos 0))) h (free-last k.vars (changing x (replicate n (pos 0))) refl)

  const-on : (in_for is_nested : Bool) (a : Walked) (x : List ℕ) (e : ExprTree) → WalkLeaves a → Gives (WalkOn a.declared) (const_at places in_for is_nested a x e)
  const-on true is_nested a x e w =
      gives_then (λ (v : Asked). Unit {0}) (WalkOn a.declared) (judged_static places a.declared.names e)
      (λ v. Ok (does (Fix v None) (behind a (with_turning places a.declared x)))) (gives_any (judged_static places a.declared.names e))
      (λ v i. walk-does a (with_turning places a.declared x) (Fix v None) w (on-name a.declared x (m.Turning (told_later a.declared.names)) w.declared tt) tt)
  const-on false true a x e w =
      let k = a.declared in
      gives_then (λ (v : Asked). Unit {0}) (WalkOn k) (judged_static places k.names e)
      (λ v. Ok (does (Fix v (Some (length k.vars))) (behind a (with_fixed_later places k x))))
      (gives_any (judged_static places k.names e))
      (λ v i. walk-does a (with_fixed_later places k x) (Fix v (Some (length k.vars))) w
      (on-var k x (m.FixedLater (told_later k.names) (next_cells k false false 1)) (unchanging x (pos 0) None) w.declared tt) tt)
  const-on false false a x e w =
      let k = a.declared in
      gives_then (λ (z : ℤ). Unit {0}) (WalkOn k) (judged_value places k.names e) (λ z. Ok (behind a (with_fixed places k x z))) (gives_any (judged_value places k.names e))
      (λ z i. walk-behind a (with_fixed places k x z) w (on-var k x (m.Fixed z (next_cells k false false 1)) (unchanging x z None) w.declared tt))

  cleared : (a : Walked) (x : List ℕ) (is_array : Bool) (n : ℕ) → WalkLeaves a
      → WalkOn a.declared (does (Do (Clear (length a.declared.vars))) (behind a (with_changing places a.declared x is_array n)))
  cleared a x is_array n w =
      walk-does a (with_changing places a.declared x is_array n) (Do (Clear (length a.declared.vars))) w (changing-on a.declared x is_array n w.declared)
      (free-last a.declared.vars (changing x (replicate n (pos 0))) refl)

  declr-on : (a : Walked) (w : Spot) (c : Bool) (d : DeclrTree) → WalkLeaves a → Gives (WalkOn a.declared) (judged_declr places a w c d)
  declr-on a w true (tree.Init x e) h = const-on w.in_for w.is_nested a x.name e h
  declr-on a w false (tree.Init x e) h =
      walk-does a (with_changing places a.declared x.name false 1) (Do (initializer places a.declared x e)) h (changing-on a.declared x.name false 1 h.declared)
      (free-last a.declared.vars (changing x.name (replicate 1 (pos 0))) refl)
  declr-on a w true (tree.Plain x) h = cleared a x.name false 1 h
  declr-on a w false (tree.Plain x) h = cleared a x.name false 1 h
  declr-on a w true (tree.Array x n) h = cleared a x.name true (count_of n) h
  declr-on a w false (tree.Array x n) h = cleared a x.name true (count_of n) h

  pub declrs-on : (a : Walked) (w : Spot) (c : Bool) (ds : List DeclrTree) → WalkLeaves a → Gives (WalkOn a.declared) (judged_declrs places a w c ds)
  declrs-on a w c [] h = walk-self a h
  declrs-on a w c (d ∷ ds) h =
      gives_then (WalkOn a.declared) (WalkOn a.declared) (judged_declr places a w c d) (λ b. judged_declrs places b w c ds) (declr-on a w c d h)
      (λ b i. walk-moved a.declared b.declared (judged_declrs places b w c ds) i.stay (declrs-on b w c ds i.walk))

-- ---- constants of kernels

module _ (places : List Pos) (cs : List ConstDecl) where
  constant-length : (v : ℕ) (c : Option ℕ) (vs : List VarValue) → length (with_constant places v c vs) ≡ length vs
  constant-length v c [] = refl
  constant-length zero c (x ∷ xs) = refl
  constant-length (suc v) c (x ∷ xs) = ap suc (constant-length v c xs)

  constant-same : (v : ℕ) (c : Option ℕ) (vs : List VarValue) (w : ℕ) → (at (with_constant places v c vs) w).is_const ≡ (at vs w).is_const
  constant-same v c [] w = refl
  constant-same zero c (x ∷ xs) zero = refl
  constant-same zero c (x ∷ xs) (suc w) = refl
  constant-same (suc v) c (x ∷ xs) zero = refl
  constant-same (suc v) c (x ∷ xs) (suc w) = constant-same v c xs w

  constant-stay : (v : ℕ) (c : Option ℕ) (vs : List VarValue) → VarsStay vs (with_constant places v c vs)
  constant-stay v c vs = record { longer = omega (arith, constant-length v c vs); same = λ w l. constant-same v c vs w }

  pub after-constant : (k : Declared) (x : List ℕ) (o : Option Cells) → Leaves k → LeavesOn k (after_constant places cs k x o)
  after-constant k x None h = on-self k h
  after-constant k x (Some c) h =
      let s = constant-stay c.var (first_cell cs x) k.vars in
      record { leaves = leaves-vars k (with_constant places c.var (first_cell cs x) k.vars) s h; stay = s }
