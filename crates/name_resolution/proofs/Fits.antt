-- Declarations whose cells are there, and what their uses name.
use Rattle.std.proofs.Common.{◌≡◌, ℕ, ◌+◌, ◌<◌, ◌≤◌, Bool, true, false, not, ◌&&◌, ◌||◌, cond, List, [], ◌∷◌, ◌++◌, Option, Some, None, IfSome, is_some, refl, if◌then◌else◌}
use Rattle.std.specs.Map.{lookup}
use Rattle.std.specs.Str.{bytes_eq}
use Rattle.c_tree.specs.declared.lexer.tokens.Pos.{Pos}
use Rattle.kernel_model.specs.declared.types.expressions.ElementForm.{ElementForm}
use Rattle.name_resolution.specs.declared.breaches.TypeRule.{TypeRule}
use Rattle.name_resolution.specs.declared.breaches.Breach.{Breach}
use Rattle.name_resolution.specs.declared.decls.Sort.{Sort}
use Rattle.name_resolution.specs.declared.decls.Sort.TheVariants as sort
use Rattle.name_resolution.specs.declared.decls.Decl.{Decl}
use Rattle.name_resolution.specs.declared.decls.Use.{Use}
use Rattle.name_resolution.specs.First.{breach_if}
use Rattle.name_resolution.specs.Scopes.{Names, Scope, decl_in, or_else, means, declared, takes_no_index, needs_index, is_no_value, is_counter, is_out_of_reach, is_read_only, use_breaches, decl_or}
use Rattle.name_resolution.specs.Kernels.{reading, element, single}
use Rattle.kernel_model.specs.View.{RExprTree}
use Rattle.name_resolution.proofs.Trees.{FormIn, ExprIn}

-- ---- names of which each has the property

abbrev pub AllAre : (Decl → Type 0) → Names → Type 0
AllAre P [] = Unit {0}
AllAre P (e ∷ es) = P e.1 × AllAre P es

found : (P : Decl → Type 0) (test : List ℕ → Bool) (es : Names) → AllAre P es → IfSome (lookup test es) P
found P test [] h = tt
found P test (e ∷ es) h = by (test e.0) (found P test es h.1)
  where
    by : (b : Bool) → IfSome (lookup test es) P → IfSome (cond b (Some e.1) (lookup test es)) P
    by true rest = h.0
    by false rest = rest

pub meant : (P : Decl → Type 0) (s : Scope) (x : List ℕ) → AllAre P s.file → AllAre P s.own → IfSome (means s x) P
meant P s x f o = by (decl_in s.own x) (found P (bytes_eq x) s.own o)
  where
    by : (m : Option Decl) → IfSome m P → IfSome (or_else m (decl_in s.file x)) P
    by None h = found P (bytes_eq x) s.file f
    by (Some d) h = h

pub appended : (P : Decl → Type 0) (own : Names) (x : List ℕ) (d : Decl) → AllAre P own → P d → AllAre P (own ++ (x, d) ∷ [])
appended P [] x d h p = (p, tt)
appended P (e ∷ es) x d h p = (h.0, appended P es x d h.1 p)

pub declared_are : (P : Decl → Type 0) (x : List ℕ) (d : Decl) (own : Names) → AllAre P own → P d → AllAre P (declared x d own)
declared_are P x d own h p = by (is_some (decl_in own x))
  where
    by : (b : Bool) → AllAre P (if b then own else (own ++ (x, d) ∷ []))
    by true = h
    by false = appended P own x d h p

pub all_as : (P Q : Decl → Type 0) → ((d : Decl) → P d → Q d) → (es : Names) → AllAre P es → AllAre Q es
all_as P Q f [] h = tt
all_as P Q f (e ∷ es) h = (f e.1 h.0, all_as P Q f es h.1)

-- ---- no broken rule

pub none_of_both : (a b : List Breach) → a ++ b ≡ [] → (a ≡ []) × (b ≡ [])
none_of_both [] b h = (refl, h)
none_of_both (x ∷ a) b h = cc

pub none_if : (b : Bool) (r : TypeRule) (t : ℕ) → breach_if b r t ≡ [] → b ≡ false
none_if true r t h = cc
none_if false r t h = refl

-- what the use of a name breaks none of
pub record Allowed (how : Use) (d : Decl) : Type 0 where
  pub reach : (how.in_kernel && is_out_of_reach d) ≡ false
  pub index : (how.is_indexed && takes_no_index d.sort) ≡ false
  pub value : (is_no_value d.sort || (not how.is_indexed && needs_index d.sort)) ≡ false
  pub counter : (how.is_target && is_counter d.sort) ≡ false
  pub kept : (how.is_target && is_read_only how.in_kernel how.is_fixed d) ≡ false

pub allowed : (how : Use) (t : ℕ) (d : Decl) → use_breaches how t (Some d) ≡ [] → Allowed how d
allowed how t d h =
    let a = none_of_both _ _ h in
    let b = none_of_both _ _ a.1 in
    let c = none_of_both _ _ b.1 in
    let e = none_of_both _ _ c.1 in
    record {
      reach = none_if _ _ _ a.0;
      index = none_if _ _ _ b.0;
      value = none_if _ _ _ c.0;
      counter = none_if _ _ _ e.0;
      kept = none_if _ _ _ e.1;
    }

-- ---- declarations whose cells are there

abbrev pub mk : ℕ → Sort → Bool → Bool → Bool → ℕ → ℕ → Decl
mk at s c f k from count = record { at = at; sort = s; is_const = c; of_file = f; is_constant = k; from = from; count = count }

module _ (p n c : ℕ) where
  -- f says whether it is one of the file, and k whether kernels can read it
  abbrev pub FitAs : Sort → (f k : Bool) → (from count : ℕ) → Type 0
  FitAs sort.Scalar false k from count = from < n
  FitAs sort.Scalar true k from count = k ≡ true → from < c
  FitAs sort.Array false k from count = from + count ≤ n
  FitAs sort.Array true k from count = k ≡ true → from + count ≤ c
  FitAs sort.Param f k from count = from < p
  FitAs sort.Counter f k from count = (f ≡ false) × (from < n)
  FitAs _ f k from count = Unit {0}

  abbrev pub Fit : Decl → Type 0
  Fit d = FitAs d.sort d.of_file d.is_constant d.from d.count

  read_single : (at : ℕ) (s : Sort) (k0 f k : Bool) (from count : ℕ) → FitAs s f k from count
      → Allowed (reading true false) (mk at s k0 f k from count) → ExprIn p n c (single (mk at s k0 f k from count))
  read_single at sort.Extern k0 f k from count h a = let e = a.reach in cc
  read_single at sort.ExternArray k0 f k from count h a = let e = a.value in cc
  read_single at sort.Kernel k0 f k from count h a = let e = a.value in cc
  read_single at sort.Set k0 f k from count h a = let e = a.value in cc
  read_single at sort.Map k0 f k from count h a = let e = a.value in cc
  read_single at sort.Dat k0 f k from count h a = let e = a.value in cc
  read_single at sort.Scalar k0 false k from count h a = h
  read_single at sort.Scalar k0 true true from count h a = h refl
  read_single at sort.Scalar k0 true false from count h a = let e = a.reach in cc
  read_single at sort.Array k0 f k from count h a = let e = a.value in cc
  read_single at sort.Param k0 f k from count h a = let e = a.value in cc
  read_single at sort.Counter k0 false k from count h a = h.1
  read_single at sort.Counter k0 true k from count h a = let e = h.0 in cc

  read_element : (at : ℕ) (s : Sort) (k0 f k : Bool) (from count : ℕ) (form : ElementForm) (i : RExprTree) (q : Pos)
      → FitAs s f k from count → FormIn form i → ExprIn p n c i → Allowed (reading true true) (mk at s k0 f k from count)
      → ExprIn p n c (element (mk at s k0 f k from count) form i q)
  read_element at sort.Extern k0 f k from count form i q h fi hi a = let e = a.index in cc
  read_element at sort.ExternArray k0 f k from count form i q h fi hi a = let e = a.value in cc
  read_element at sort.Kernel k0 f k from count form i q h fi hi a = let e = a.value in cc
  read_element at sort.Set k0 f k from count form i q h fi hi a = let e = a.value in cc
  read_element at sort.Map k0 f k from count form i q h fi hi a = let e = a.value in cc
  read_element at sort.Dat k0 f k from count form i q h fi hi a = let e = a.value in cc
  read_element at sort.Scalar k0 f k from count form i q h fi hi a = let e = a.index in cc
  read_element at sort.Array k0 false k from count form i q h fi hi a = (h, fi, hi)
  read_element at sort.Array k0 true true from count form i q h fi hi a = (h refl, fi, hi)
  read_element at sort.Array k0 true false from count form i q h fi hi a = let e = a.reach in cc
  read_element at sort.Param k0 f k from count form i q h fi hi a = (h, fi, hi)
  read_element at sort.Counter k0 f k from count form i q h fi hi a = let e = a.index in cc

  pub single_in : (m : Option Decl) (t : ℕ) → IfSome m Fit → use_breaches (reading true false) t m ≡ [] → ExprIn p n c (single (decl_or m))
  single_in None t h e = cc
  single_in (Some d) t h e = read_single d.at d.sort d.is_const d.of_file d.is_constant d.from d.count h (allowed (reading true false) t d e)

  pub element_in : (m : Option Decl) (t : ℕ) (form : ElementForm) (i : RExprTree) (q : Pos) → IfSome m Fit → FormIn form i → ExprIn p n c i
      → use_breaches (reading true true) t m ≡ [] → ExprIn p n c (element (decl_or m) form i q)
  element_in None t form i q h fi hi e = cc
  element_in (Some d) t form i q h fi hi e = read_element d.at d.sort d.is_const d.of_file d.is_constant d.from d.count form i q h fi hi (allowed (reading true true) t d e)
