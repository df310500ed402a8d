-- Where no `op_decl_const` names a variable of `main`, all names that one names are those of the file.
use Rattle.std.proofs.Common.{◌≡◌, ◌∙◌, ℕ, Bool, true, false, ◌||◌, List, [], ◌∷◌, ◌++◌, Option, Some, None, is_some, refl, sym, ap, subst, if◌then◌else◌}
use Rattle.std.specs.Prelude.{bytes_eq}
use Rattle.std.specs.List.{list_any}
use Rattle.std.proofs.lemmas.List.Folds.{list_any-append}
use Rattle.std.proofs.lemmas.Slice.Eq.{bytes_eq-Decides}
use Rattle.indexmap.specs.IndexSet.{insert_key}
use Rattle.c_tree.specs.Tree as tree
use Rattle.c_tree.specs.Tree.{OpCallTree, HostTree, HostTrees, ProgramTree}
use Rattle.name_resolution.specs.declared.decls.Sort.TheVariants as sort
use Rattle.name_resolution.specs.declared.decls.Decl.{Decl}
use Rattle.name_resolution.specs.Scopes.{Names, decl_in}
use Rattle.name_resolution.specs.Mains.{main_decl, with_host_counter, own_after, named_by_call, named_after, named_after_all}
use Rattle.name_resolution.specs.Programs.{named_in}
use Rattle.loop_bind.specs.Assigned.{Known, found, knows, after_host}
use Rattle.loop_bind.specs.FileVariables.{call_names, constant_names, all_constant_names}
use Rattle.loop_bind.specs.Hidden.{CallNamesNoOwn, NamesNoOwn, AllNameNoOwn}
use Rattle.loop_bind.proofs.source_fits.Assigned.{Both, Like, like_found, like_more, like_host}
use Rattle.std.proofs.Math.Bool.{or-false}

or_assoc : (a b c : Bool) → (a || b) || c ≡ a || (b || c)
or_assoc true b c = refl
or_assoc false b c = refl

module _ (x : List ℕ) where
  abbrev Has : List (List ℕ) → Bool
  Has names = list_any (bytes_eq x) names

  -- one name more
  has_inserted : (names : List (List ℕ)) (y : List ℕ) → Has (insert_key bytes_eq names y) ≡ Has names || (bytes_eq x y || false)
  has_inserted names y = by (list_any (bytes_eq y) names) refl
    where
      there : list_any (bytes_eq y) names ≡ true → (b : Bool) → bytes_eq x y ≡ b → Has names ≡ Has names || (b || false)
      there q false e = sym (or-false (Has names))
      there q true e =
          let same : x ≡ y = (bytes_eq-Decides x y).0 e in
          let h : Has names ≡ true = subst (λ z. list_any (bytes_eq z) names ≡ true) (sym same) q in
          h ∙ sym (ap (λ b. b || (true || false)) h)

      by : (b : Bool) → list_any (bytes_eq y) names ≡ b → Has (if b then names else (names ++ y ∷ [])) ≡ Has names || (bytes_eq x y || false)
      by true q = there q (bytes_eq x y) refl
      by false q = list_any-append (bytes_eq x) names (y ∷ [])

  unhidden : (o : Option Bool) (d : Option Decl) → Both o d → o ≡ None → d ≡ None
  unhidden None None b e = refl
  unhidden None (Some d) b e = absurd b
  unhidden (Some o) d b e = cc

  call_has : (own : Names) (k : Known) (names : List (List ℕ)) (c : OpCallTree) → Like own k → CallNamesNoOwn k c → Has (named_by_call own names c) ≡ Has names || Has (call_names c)
  call_has own k names (tree.CallInit at n) h i = sym (or-false (Has names))
  call_has own k names (tree.DeclSet at y e l) h i = sym (or-false (Has names))
  call_has own k names (tree.DeclMap at y from to n v l) h i = sym (or-false (Has names))
  call_has own k names (tree.DeclDat at y on n u v l) h i = sym (or-false (Has names))
  call_has own k names (tree.DeclConst at n l g) h i =
      let none = unhidden (found k g.name.name) (decl_in own g.name.name) (like_found g.name.name own k h) i in
      ap (λ o. Has (if is_some o then names else insert_key bytes_eq names g.name.name)) none ∙ has_inserted names g.name.name
  call_has own k names (tree.ParLoop at f l on args) h i = sym (or-false (Has names))
  call_has own k names (tree.Printf at l es) h i = sym (or-false (Has names))
  call_has own k names (tree.PrintDat at y l) h i = sym (or-false (Has names))

  -- what two statements name, one behind the other
  two_have : (names first both : List (List ℕ)) (a b : List (List ℕ)) → Has first ≡ Has names || Has a → Has both ≡ Has first || Has b → Has both ≡ Has names || Has (a ++ b)
  two_have names first both a b h k =
      k ∙ ap (λ c. c || Has b) h ∙ or_assoc (Has names) (Has a) (Has b) ∙ ap (λ c. Has names || c) (sym (list_any-append (bytes_eq x) a b))

  mutual
    host_has : (own : Names) (k : Known) (names : List (List ℕ)) (s : HostTree) → Like own k → NamesNoOwn k s → Has (named_after own names s) ≡ Has names || Has (constant_names s)
    host_has own k names (tree.HostDeclaration v) h i = sym (or-false (Has names))
    host_has own k names (tree.HostBlock at hs) h i = hosts_have own k names hs h i
    host_has own k names (tree.HostEmpty at) h i = sym (or-false (Has names))
    host_has own k names (tree.HostAssign a) h i = sym (or-false (Has names))
    host_has own k names (tree.HostIf at e s) h i = host_has own k names s h i
    host_has own k names (tree.HostIfElse at e s t) h i =
        let first = named_after own names s in
        two_have names first (named_after (own_after own s) first t) (constant_names s) (constant_names t) (host_has own k names s h i.0)
        (host_has (own_after own s) (after_host k s) first t (like_host own k s h) i.1)
    host_has own k names (tree.HostFor f s) h i =
        host_has (with_host_counter own f) (knows f.name.name false k) names s
        (like_more own k f.name.name (main_decl false sort.Counter f.name.at) false refl h) i
    host_has own k names (tree.HostCall c) h i = call_has own k names c h i

    hosts_have : (own : Names) (k : Known) (names : List (List ℕ)) (hs : HostTrees) → Like own k → AllNameNoOwn k hs → Has (named_after_all own names hs) ≡ Has names || Has (all_constant_names hs)
    hosts_have own k names tree.NoHost h i = sym (or-false (Has names))
    hosts_have own k names (tree.MoreHost s hs) h i =
        let first = named_after own names s in
        two_have names first (named_after_all (own_after own s) first hs) (constant_names s) (all_constant_names hs) (host_has own k names s h i.0)
        (hosts_have (own_after own s) (after_host k s) first hs (like_host own k s h) i.1)

pub named_same : (p : ProgramTree) → AllNameNoOwn [] p.main.body → (x : List ℕ) → list_any (bytes_eq x) (named_in p) ≡ list_any (bytes_eq x) (all_constant_names p.main.body)
named_same p h x = hosts_have x [] [] [] p.main.body tt h
