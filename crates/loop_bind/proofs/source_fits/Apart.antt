-- Where names and types of a source refuse nothing, no two variables of the file have one name.
use Rattle.std.proofs.Common.{◌≡◌, ◌∙◌, ℕ, List, [], ◌∷◌, ◌++◌, Bool, true, false, refl, sym, ap, subst}
use Rattle.std.specs.Prelude.{◌≢◌, All, Option, Some, None, is_some, bytes_eq, if◌then◌else◌}
use Rattle.std.proofs.lemmas.List.Elements.{All-nil, All-cons, All-weaker}
use Rattle.std.proofs.lemmas.Slice.Eq.{bytes_eq-Decides}
use Rattle.c_tree.specs.Tree as tree
use Rattle.c_tree.specs.Tree.{DeclrTree, TopTree, ProgramTree}
use Rattle.name_resolution.specs.declared.breaches.TypeRule.TheVariants as rule
use Rattle.name_resolution.specs.declared.decls.Sort.TheVariants as sort
use Rattle.name_resolution.specs.declared.decls.Decl.{Decl}
use Rattle.name_resolution.specs.First.{breach_if}
use Rattle.name_resolution.specs.Scopes.{Names, scope, decl_in, declared, repeated}
use Rattle.name_resolution.specs.Kernels.{kernel_breaches}
use Rattle.name_resolution.specs.Mains.{declr_name, declr_breaches, hosts_breaches}
use Rattle.name_resolution.specs.Programs.{other_decl, variable_decl, constant_cells, with_variable, after_variables, after_top, variables_breaches, top_breaches, tops_breaches, named_in, file_of, breaches}
use Rattle.loop_bind.specs.FileVariables.{FileVariable, declr_variable, declrs_variables, top_variables, file_variables, NamesApart}
use Rattle.loop_bind.proofs.source_fits.Nothing.{IsNil, left_nil, right_nil}

-- the name is none of those
abbrev IsNew : Names → FileVariable → Type 0
IsNew names g = decl_in names g.name ≡ None

none_of : {X : Type 0} (d : Decl) → ◌≡◌ {A = Option Decl} (Some d) None → X
none_of d e = absurd (subst Is e tt)
  where
    Is : Option Decl → Type 0
    Is (Some d) = Unit {0}
    Is None = ⊥

-- what is new behind a further name was new before, and is another
new_before : (x : List ℕ) (d : Decl) (names : Names) (y : List ℕ) → decl_in (names ++ (x, d) ∷ []) y ≡ None → (decl_in names y ≡ None) × (x ≢ y)
new_before x d [] y e = (refl, λ q. none_of d (sym (ap (λ b. if b then Some d else None) ((bytes_eq-Decides y x).1 (sym q))) ∙ e))
new_before x d (n ∷ names) y e = pick (λ h. new_before x d names y h) (bytes_eq y n.0) e
  where
    pick : (decl_in (names ++ (x, d) ∷ []) y ≡ None → (decl_in names y ≡ None) × (x ≢ y)) → (b : Bool)
        → (if b then Some n.1 else decl_in (names ++ (x, d) ∷ []) y) ≡ None → ((if b then Some n.1 else decl_in names y) ≡ None) × (x ≢ y)
    pick rest true e = none_of n.1 e
    pick rest false e = rest e

is_new : (o : Option Decl) (t : ℕ) → breach_if (is_some o) rule.DuplicateName t ≡ [] → o ≡ None
is_new None t e = refl
is_new (Some d) t e = absurd (subst IsNil (sym e) tt)

declared_new : (x : List ℕ) (d : Decl) (names : Names) → decl_in names x ≡ None → declared x d names ≡ names ++ (x, d) ∷ []
declared_new x d names e = ap (λ o. if is_some o then names else (names ++ (x, d) ∷ [])) e

-- of those that are new behind a name that was new
record Fresh (names : Names) (x : List ℕ) (gs : List FileVariable) : Type 0 where
  before : All (IsNew names) gs
  others : All (λ g. x ≢ g.name) gs

fresh : (x : List ℕ) (d : Decl) (names : Names) (gs : List FileVariable) → decl_in names x ≡ None → All (IsNew (declared x d names)) gs → Fresh names x gs
fresh x d names gs e h =
    let l = subst (λ ns. All (IsNew ns) gs) (declared_new x d names e) h in
    record {
      before = All-weaker (IsNew (names ++ (x, d) ∷ [])) (IsNew names) (λ g i. (new_before x d names g.name i).0) gs l;
      others = All-weaker (IsNew (names ++ (x, d) ∷ [])) (λ g. x ≢ g.name) (λ g i. (new_before x d names g.name i).1) gs l;
    }

-- new and apart
record Apart (names : Names) (gs : List FileVariable) : Type 0 where
  new : All (IsNew names) gs
  apart : NamesApart gs

name_same : (c : Bool) (d : DeclrTree) → (declr_variable c d).name ≡ (declr_name d).name
name_same c (tree.Plain x) = refl
name_same c (tree.Init x e) = refl
name_same c (tree.Array x n) = refl

module _ (named : List (List ℕ)) where
  declrs_apart : (c : Bool) (file : Names) (ds : List DeclrTree) (gs : List FileVariable) → variables_breaches named c file ds ≡ []
      → Apart (after_variables named c file ds) gs → Apart file (declrs_variables c ds ++ gs)
  declrs_apart c file [] gs e h = h
  declrs_apart c file (d ∷ ds) gs e h =
      let x = (declr_name d).name in
      let b1 = declr_breaches (scope file []) d in
      let b2 = repeated (declr_name d) file in
      let b3 = variables_breaches named c (with_variable named c file d) ds in
      let rest = declrs_apart c (with_variable named c file d) ds gs (right_nil (b1 ++ b2) b3 e) h in
      let here = is_new (decl_in file (declr_name d).name) (declr_name d).at (right_nil b1 b2 (left_nil (b1 ++ b2) b3 e)) in
      let f = fresh (declr_name d).name (variable_decl named c (constant_cells file) d) file (declrs_variables c ds ++ gs) here rest.new in
      record {
        new = All-cons (IsNew file) (declr_variable c d) (declrs_variables c ds ++ gs) (subst (λ y. decl_in file y ≡ None) (sym (name_same c d)) here) f.before;
        apart = (subst (λ y. All (λ (g : FileVariable). y ≢ g.name) (declrs_variables c ds ++ gs)) (sym (name_same c d)) f.others, rest.apart);
      }

  tops_apart : (file : Names) (ts : List TopTree) → tops_breaches named file ts ≡ [] → Apart file (file_variables ts)
  tops_apart file [] e = record { new = All-nil (IsNew file); apart = tt }
  tops_apart file (t ∷ ts) e = one t (right_nil (top_breaches named file t) (tops_breaches named (after_top named file t) ts) e)
      (left_nil (top_breaches named file t) (tops_breaches named (after_top named file t) ts) e)
      (tops_apart (after_top named file t) ts (right_nil (top_breaches named file t) (tops_breaches named (after_top named file t) ts) e))
    where
      other : (x : List ℕ) (d : Decl) (at : ℕ) → breach_if (is_some (decl_in file x)) rule.DuplicateName at ≡ [] → Apart (declared x d file) (file_variables ts) → Apart file (file_variables ts)
      other x d at e h = record { new = (fresh x d file (file_variables ts) (is_new (decl_in file x) at e) h.new).before; apart = h.apart }

      one : (t : TopTree) → tops_breaches named (after_top named file t) ts ≡ [] → top_breaches named file t ≡ []
          → Apart (after_top named file t) (file_variables ts) → Apart file (top_variables t ++ file_variables ts)
      one (tree.Extern x) r e h = other x.name (other_decl sort.Extern x.at) x.at e h
      one (tree.ExternArray x) r e h = other x.name (other_decl sort.ExternArray x.at) x.at e h
      one (tree.FileDeclaration v) r e h = declrs_apart v.is_const file v.declrs (file_variables ts) e h
      one (tree.Kernel f) r e h = other f.name.name (other_decl sort.Kernel f.name.at) f.name.at (left_nil (repeated f.name file) (kernel_breaches (after_top named file (tree.Kernel f)) f) e) h

pub variables_apart : (p : ProgramTree) → breaches p ≡ [] → NamesApart (file_variables p.tops)
variables_apart p e =
    (tops_apart (named_in p) [] p.tops (left_nil (tops_breaches (named_in p) [] p.tops) (hosts_breaches (file_of p) [] [] p.main.body) e)).apart
