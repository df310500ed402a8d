-- The rules that `main` breaks, and the names that it declares constant.
use Rattle.std.specs.Prelude.{ℕ, Bool, false, ◌||◌, nat_eq, nat_lt, List, [], ◌∷◌, ◌++◌, length, take, Option, Some, None, is_some, if◌then◌else◌}
use Rattle.std.specs.List.{list_any}
use Rattle.std.specs.Str.{bytes_eq}
use Rattle.indexmap.specs.IndexSet.{insert_key}
use Rattle.c_tree.specs.declared.expressions.Ident.{Ident}
use Rattle.c_tree.specs.Tree as tree
use Rattle.c_tree.specs.Tree.{ExprTree, DeclrTree, PlaceTree, OpCallTree, HostForHeaderTree, HostTree, HostTrees}
use Rattle.name_resolution.specs.declared.breaches.TypeRule.TheVariants.{TooMuchWork}
use Rattle.name_resolution.specs.declared.breaches.Breach.{Breach}
use Rattle.name_resolution.specs.declared.decls.Sort.{Sort}
use Rattle.name_resolution.specs.declared.decls.Sort.TheVariants as sort
use Rattle.name_resolution.specs.declared.decls.Decl.{Decl}
use Rattle.name_resolution.specs.First.{breach_if}
use Rattle.name_resolution.specs.Scopes.{Names, Scope, scope, decl_in, means, declared, repeated}
use Rattle.name_resolution.specs.Work.{size_of}
use Rattle.name_resolution.specs.Kernels.{expr_breaches, assignment_breaches}

-- ---- declarators outside of kernels

-- the name of a declarator
abbrev pub declr_name : DeclrTree → Ident
declr_name (tree.Plain x) = x
declr_name (tree.Init x e) = x
declr_name (tree.Array x n) = x

-- what a declarator declares
abbrev pub declr_sort : DeclrTree → Sort
declr_sort (tree.Array x n) = sort.Array
declr_sort _ = sort.Scalar

-- an array has 1 to 1,024 cells
abbrev pub is_wrong_size : ℕ → Bool
is_wrong_size n = nat_eq n 0 || nat_lt 1024 n

-- an array of a wrong size
abbrev pub size_breaches : DeclrTree → List Breach
size_breaches (tree.Array x n) = breach_if (is_wrong_size (size_of n)) TooMuchWork x.at
size_breaches _ = []

-- an initializer stands before its name is known
abbrev pub init_breaches : Scope → DeclrTree → List Breach
init_breaches s (tree.Init x e) = expr_breaches false s e
init_breaches s _ = []

-- of the initializer and the size of a declarator
abbrev pub declr_breaches : Scope → DeclrTree → List Breach
declr_breaches s d = init_breaches s d ++ size_breaches d

-- ---- the names of main

-- a name of `main`
abbrev pub main_decl : Bool → Sort → ℕ → Decl
main_decl is_const what at = record {
  at = at;
  sort = what;
  is_const = is_const;
  of_file = false;
  is_constant = false;
  from = 0;
  count = 0;
}

-- the names and one more
abbrev pub with_name : Names → Bool → Sort → Ident → Names
with_name own is_const what x = declared x.name (main_decl is_const what x.at) own

-- the names that are known behind declarators
abbrev pub own_after_declrs : Names → Bool → List DeclrTree → Names
own_after_declrs own c [] = own
own_after_declrs own c (d ∷ ds) = own_after_declrs (with_name own c (declr_sort d) (declr_name d)) c ds

-- the names that are known behind a call
abbrev pub own_after_call : Names → OpCallTree → Names
own_after_call own (tree.DeclSet at x e l) = with_name own false sort.Set x
own_after_call own (tree.DeclMap at x from to n v l) = with_name own false sort.Map x
own_after_call own (tree.DeclDat at x on n u v l) = with_name own false sort.Dat x
own_after_call own _ = own

-- the names of a block or of a `for` end with it
abbrev pub cut : Names → Names → Names
cut before after = take (length before) after

-- a counter is known in its `for`
abbrev pub with_host_counter : Names → HostForHeaderTree → Names
with_host_counter own h = with_name own false sort.Counter h.name

abbrev mutual
  -- the names that are known behind a statement
  pub own_after : Names → HostTree → Names
  own_after own (tree.HostDeclaration v) = own_after_declrs own v.is_const v.declrs
  own_after own (tree.HostBlock at hs) = cut own (own_after_all own hs)
  own_after own (tree.HostEmpty at) = own
  own_after own (tree.HostAssign a) = own
  own_after own (tree.HostIf at e x) = own_after own x
  own_after own (tree.HostIfElse at e x y) = own_after (own_after own x) y
  own_after own (tree.HostFor h x) = cut own (own_after (with_host_counter own h) x)
  own_after own (tree.HostCall c) = own_after_call own c

  -- the names that are known behind statements
  pub own_after_all : Names → HostTrees → Names
  own_after_all own tree.NoHost = own
  own_after_all own (tree.MoreHost h hs) = own_after_all (own_after own h) hs

-- ---- the names of the file that an `op_decl_const` names: those that no name of main hides there

-- the named names and one more, unless a name of `main` hides it
abbrev pub named_with : Names → List (List ℕ) → List ℕ → List (List ℕ)
named_with own named x = if is_some (decl_in own x) then named else insert_key bytes_eq named x

-- those named behind a call
abbrev pub named_by_call : Names → List (List ℕ) → OpCallTree → List (List ℕ)
named_by_call own named (tree.DeclConst at n l g) = named_with own named g.name.name
named_by_call own named _ = named

abbrev mutual
  -- those named behind a statement
  pub named_after : Names → List (List ℕ) → HostTree → List (List ℕ)
  named_after own named (tree.HostDeclaration v) = named
  named_after own named (tree.HostBlock at hs) = named_after_all own named hs
  named_after own named (tree.HostEmpty at) = named
  named_after own named (tree.HostAssign a) = named
  named_after own named (tree.HostIf at e x) = named_after own named x
  named_after own named (tree.HostIfElse at e x y) = named_after (own_after own x) (named_after own named x) y
  named_after own named (tree.HostFor h x) = named_after (with_host_counter own h) named x
  named_after own named (tree.HostCall c) = named_by_call own named c

  -- those named behind statements
  pub named_after_all : Names → List (List ℕ) → HostTrees → List (List ℕ)
  named_after_all own named tree.NoHost = named
  named_after_all own named (tree.MoreHost h hs) = named_after_all (own_after own h) (named_after own named h) hs

-- ---- the declarations, by their tokens, that an `op_decl_const` so far names, by what its name means there

-- the declarations named and that of one more name, if it has one
abbrev pub fix : Option Decl → List ℕ → List ℕ
fix None fixed = fixed
fix (Some d) fixed = insert_key nat_eq fixed d.at

-- whether what a name means is among the declarations named
abbrev pub is_fixed : Option Decl → List ℕ → Bool
is_fixed None fixed = false
is_fixed (Some d) fixed = list_any (nat_eq d.at) fixed

-- the name of a target
abbrev pub place_name : PlaceTree → Ident
place_name (tree.Scalar x) = x
place_name (tree.Element x e) = x
place_name (tree.Target at x) = x

module _ (file : Names) where
  -- those named behind a call
  abbrev pub fixed_by_call : Names → List ℕ → OpCallTree → List ℕ
  fixed_by_call own fixed (tree.DeclConst at n l g) = fix (means (scope file own) g.name.name) fixed
  fixed_by_call own fixed _ = fixed

  abbrev mutual
    -- those named behind a statement
    pub fixed_after : Names → List ℕ → HostTree → List ℕ
    fixed_after own fixed (tree.HostDeclaration v) = fixed
    fixed_after own fixed (tree.HostBlock at hs) = fixed_after_all own fixed hs
    fixed_after own fixed (tree.HostEmpty at) = fixed
    fixed_after own fixed (tree.HostAssign a) = fixed
    fixed_after own fixed (tree.HostIf at e x) = fixed_after own fixed x
    fixed_after own fixed (tree.HostIfElse at e x y) = fixed_after (own_after own x) (fixed_after own fixed x) y
    fixed_after own fixed (tree.HostFor h x) = fixed_after (with_host_counter own h) fixed x
    fixed_after own fixed (tree.HostCall c) = fixed_by_call own fixed c

    -- those named behind statements
    pub fixed_after_all : Names → List ℕ → HostTrees → List ℕ
    fixed_after_all own fixed tree.NoHost = fixed
    fixed_after_all own fixed (tree.MoreHost h hs) = fixed_after_all (own_after own h) (fixed_after own fixed h) hs

  -- ---- broken rules

  -- of declarators in order
  abbrev pub main_declrs_breaches : Names → Bool → List DeclrTree → List Breach
  main_declrs_breaches own c [] = []
  main_declrs_breaches own c (d ∷ ds) =
      (declr_breaches (scope file own) d ++ repeated (declr_name d) own)
      ++ main_declrs_breaches (with_name own c (declr_sort d) (declr_name d)) c ds

  -- of expressions
  abbrev pub exprs_breaches : Names → List ExprTree → List Breach
  exprs_breaches own [] = []
  exprs_breaches own (e ∷ es) = expr_breaches false (scope file own) e ++ exprs_breaches own es

  -- names that a call gives to the library are judged when they are bound
  abbrev pub call_breaches : Names → OpCallTree → List Breach
  call_breaches own (tree.DeclSet at x e l) = expr_breaches false (scope file own) e ++ repeated x own
  call_breaches own (tree.DeclMap at x from to n v l) = repeated x own
  call_breaches own (tree.DeclDat at x on n u v l) = repeated x own
  call_breaches own (tree.Printf at l es) = exprs_breaches own es
  call_breaches own _ = []

  -- the start is judged before the counter is known
  abbrev pub header_breaches : Names → HostForHeaderTree → List Breach
  header_breaches own h =
      expr_breaches false (scope file own) h.from
      ++ (repeated h.name own ++ expr_breaches false (scope file (with_host_counter own h)) h.to)

  abbrev mutual
    -- of a statement
    pub host_breaches : Names → List ℕ → HostTree → List Breach
    host_breaches own fixed (tree.HostDeclaration v) = main_declrs_breaches own v.is_const v.declrs
    host_breaches own fixed (tree.HostBlock at hs) = hosts_breaches own fixed hs
    host_breaches own fixed (tree.HostEmpty at) = []
    host_breaches own fixed (tree.HostAssign a) =
        assignment_breaches false (scope file own) (is_fixed (means (scope file own) (place_name a.place).name) fixed) a
    host_breaches own fixed (tree.HostIf at e x) = expr_breaches false (scope file own) e ++ host_breaches own fixed x
    host_breaches own fixed (tree.HostIfElse at e x y) =
        expr_breaches false (scope file own) e ++ (host_breaches own fixed x ++ host_breaches (own_after own x) (fixed_after own fixed x) y)
    host_breaches own fixed (tree.HostFor h x) =
        header_breaches own h ++ host_breaches (with_host_counter own h) fixed x
    host_breaches own fixed (tree.HostCall c) = call_breaches own c

    -- of statements in order
    pub hosts_breaches : Names → List ℕ → HostTrees → List Breach
    hosts_breaches own fixed tree.NoHost = []
    hosts_breaches own fixed (tree.MoreHost h hs) =
        host_breaches own fixed h ++ hosts_breaches (own_after own h) (fixed_after own fixed h) hs
