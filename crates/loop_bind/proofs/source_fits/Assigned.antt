-- Where names and types of a source refuse nothing, `main` assigns variables alone.
use Rattle.std.proofs.Common.{◌≡◌, ◌∙◌, ℕ, zero, suc, List, [], ◌∷◌, ◌++◌, length, take, Bool, true, false, not, ◌||◌, refl, sym, ap, subst}
use Rattle.std.specs.Prelude.{Option, Some, None, is_some, bytes_eq, if◌then◌else◌}
use Rattle.c_tree.specs.Tree as tree
use Rattle.c_tree.specs.Tree.{DeclrTree, PlaceTree, TopTree, OpCallTree, HostTree, HostTrees, ProgramTree}
use Rattle.name_resolution.specs.declared.breaches.TypeRule.{TypeRule}
use Rattle.name_resolution.specs.declared.breaches.TypeRule.TheVariants as rule
use Rattle.name_resolution.specs.declared.decls.Sort.TheVariants as sort
use Rattle.name_resolution.specs.declared.decls.Decl.{Decl}
use Rattle.name_resolution.specs.First.{breach_if}
use Rattle.name_resolution.specs.Scopes as names
use Rattle.name_resolution.specs.Scopes.{Names, scope, decl_in, or_else, means, declared, is_no_value, is_extern, is_counter, is_read_only, use_breaches}
use Rattle.name_resolution.specs.Kernels.{writing, place_breaches, expr_breaches}
use Rattle.name_resolution.specs.Mains.{place_name as place_name', declr_name, declr_sort, main_decl, with_name, own_after_declrs, own_after_call, with_host_counter, own_after, own_after_all, is_fixed, fixed_after, header_breaches, host_breaches, hosts_breaches}
use Rattle.name_resolution.specs.Programs.{other_decl, variable_decl, constant_cells, with_variable, after_variables, after_top, after_tops, named_in, file_of, tops_breaches, breaches}
use Rattle.loop_bind.specs.Assigned as known
use Rattle.loop_bind.specs.Assigned.{Known, found, knows, place_name, CanBeAssigned, Assigns, AllAssign, MainAssigns}
use Rattle.loop_bind.proofs.source_fits.Nothing.{IsNil, left_nil, right_nil, never}
use Rattle.std.proofs.lemmas.Bool.{or_parts}

-- it is a variable that isn't `const`
abbrev assignable : Decl → Bool
assignable d = not (is_no_value d.sort || (is_counter d.sort || (is_extern d.sort || d.is_const)))

abbrev Kind : Bool → Decl → Type 0
Kind true d = Unit {0}
Kind false d = assignable d ≡ false

-- the same names in the same order
abbrev pub Like : Names → Known → Type 0
Like [] [] = Unit {0}
Like [] (b ∷ bs) = ⊥
Like (a ∷ as_) [] = ⊥
Like (a ∷ as_) (b ∷ bs) = (a.0 ≡ b.0) × Kind b.1 a.1 × Like as_ bs

abbrev pub Both : Option Bool → Option Decl → Type 0
Both None None = Unit {0}
Both None (Some d) = ⊥
Both (Some b) None = ⊥
Both (Some b) (Some d) = Kind b d

pub like_found : (x : List ℕ) (as_ : Names) (bs : Known) → Like as_ bs → Both (found bs x) (decl_in as_ x)
like_found x [] [] h = tt
like_found x [] (b ∷ bs) h = absurd h
like_found x (a ∷ as_) [] h = absurd h
like_found x (a ∷ as_) (b ∷ bs) h =
    subst (λ y. Both (if bytes_eq x y then Some b.1 else found bs x) (if bytes_eq x a.0 then Some a.1 else decl_in as_ x)) h.0 (pick (bytes_eq x a.0) (like_found x as_ bs h.2))
  where
    pick : (q : Bool) → Both (found bs x) (decl_in as_ x) → Both (if q then Some b.1 else found bs x) (if q then Some a.1 else decl_in as_ x)
    pick true r = h.1
    pick false r = r

like_push : (as_ : Names) (bs : Known) (x : List ℕ) (d : Decl) (k : Bool) → Kind k d → Like as_ bs → Like (as_ ++ (x, d) ∷ []) (bs ++ (x, k) ∷ [])
like_push [] [] x d k i h = (refl, i, tt)
like_push [] (b ∷ bs) x d k i h = absurd h
like_push (a ∷ as_) [] x d k i h = absurd h
like_push (a ∷ as_) (b ∷ bs) x d k i h = (h.0, h.1, like_push as_ bs x d k i h.2)

pub like_more : (as_ : Names) (bs : Known) (x : List ℕ) (d : Decl) (k : Bool) → Kind k d → Like as_ bs → Like (declared x d as_) (knows x k bs)
like_more as_ bs x d k i h = pick (found bs x) (decl_in as_ x) (like_found x as_ bs h)
  where
    pick : (p : Option Bool) (q : Option Decl) → Both p q → Like (if is_some q then as_ else (as_ ++ (x, d) ∷ [])) (if is_some p then bs else bs ++ (x, k) ∷ [])
    pick None None b = like_push as_ bs x d k i h
    pick None (Some q) b = absurd b
    pick (Some p) None b = absurd b
    pick (Some p) (Some q) b = h

like_length : (as_ : Names) (bs : Known) → Like as_ bs → length as_ ≡ length bs
like_length [] [] h = refl
like_length [] (b ∷ bs) h = absurd h
like_length (a ∷ as_) [] h = absurd h
like_length (a ∷ as_) (b ∷ bs) h = ap suc (like_length as_ bs h.2)

like_take : (n : ℕ) (as_ : Names) (bs : Known) → Like as_ bs → Like (take n as_) (take n bs)
like_take zero as_ bs h = tt
like_take (suc n) [] [] h = tt
like_take (suc n) [] (b ∷ bs) h = absurd h
like_take (suc n) (a ∷ as_) [] h = absurd h
like_take (suc n) (a ∷ as_) (b ∷ bs) h = (h.0, h.1, like_take n as_ bs h.2)

-- ---- the names of the text

kind_not : (c : Bool) (d : Decl) → d.is_const ≡ c → Kind (not c) d
kind_not false d e = tt
kind_not true d e = ap (λ b. not (is_no_value d.sort || (is_counter d.sort || (is_extern d.sort || b)))) e ∙ all (is_no_value d.sort) (is_counter d.sort) (is_extern d.sort)
  where
    all : (a b c : Bool) → not (a || (b || (c || true))) ≡ false
    all true b c = refl
    all false true c = refl
    all false false true = refl
    all false false false = refl

like_declr : (own : Names) (k : Known) (c : Bool) (d : DeclrTree) → Like own k → Like (with_name own c (declr_sort d) (declr_name d)) (known.after_declr k c d)
like_declr own k c (tree.Plain x) h = like_more own k x.name (main_decl c sort.Scalar x.at) true tt h
like_declr own k c (tree.Init x e) h = like_more own k x.name (main_decl c sort.Scalar x.at) (not c) (kind_not c (main_decl c sort.Scalar x.at) refl) h
like_declr own k c (tree.Array x n) h = like_more own k x.name (main_decl c sort.Array x.at) true tt h

like_declrs : (own : Names) (k : Known) (c : Bool) (ds : List DeclrTree) → Like own k → Like (own_after_declrs own c ds) (known.after_declrs k c ds)
like_declrs own k c [] h = h
like_declrs own k c (d ∷ ds) h = like_declrs (with_name own c (declr_sort d) (declr_name d)) (known.after_declr k c d) c ds (like_declr own k c d h)

like_call : (own : Names) (k : Known) (c : OpCallTree) → Like own k → Like (own_after_call own c) (known.after_call k c)
like_call own k (tree.CallInit at n) h = h
like_call own k (tree.DeclSet at x e l) h = like_more own k x.name (main_decl false sort.Set x.at) false refl h
like_call own k (tree.DeclMap at x from to n v l) h = like_more own k x.name (main_decl false sort.Map x.at) false refl h
like_call own k (tree.DeclDat at x on n u v l) h = like_more own k x.name (main_decl false sort.Dat x.at) false refl h
like_call own k (tree.DeclConst at n u g) h = h
like_call own k (tree.ParLoop at f l on args) h = h
like_call own k (tree.Printf at l xs) h = h
like_call own k (tree.PrintDat at x l) h = h

like_cut : (own later : Names) (k l : Known) → Like own k → Like later l → Like (take (length own) later) (take (length k) l)
like_cut own later k l h i = subst (λ n. Like (take (length own) later) (take n l)) (like_length own k h) (like_take (length own) later l i)

mutual
  pub like_host : (own : Names) (k : Known) (x : HostTree) → Like own k → Like (own_after own x) (known.after_host k x)
  like_host own k (tree.HostDeclaration v) h = like_declrs own k v.is_const v.declrs h
  like_host own k (tree.HostBlock at hs) h = like_cut own (own_after_all own hs) k (known.after_hosts k hs) h (like_hosts own k hs h)
  like_host own k (tree.HostEmpty at) h = h
  like_host own k (tree.HostAssign a) h = h
  like_host own k (tree.HostIf at e x) h = like_host own k x h
  like_host own k (tree.HostIfElse at e x y) h = like_host (own_after own x) (known.after_host k x) y (like_host own k x h)
  like_host own k (tree.HostFor f x) h =
      like_cut own (own_after (with_host_counter own f) x) k (known.after_host (knows f.name.name false k) x) h
      (like_host (with_host_counter own f) (knows f.name.name false k) x (like_more own k f.name.name (main_decl false sort.Counter f.name.at) false refl h))
  like_host own k (tree.HostCall c) h = like_call own k c h

  like_hosts : (own : Names) (k : Known) (xs : HostTrees) → Like own k → Like (own_after_all own xs) (known.after_hosts k xs)
  like_hosts own k tree.NoHost h = h
  like_hosts own k (tree.MoreHost x xs) h = like_hosts (own_after own x) (known.after_host k x) xs (like_host own k x h)

-- ---- the file

module _ (named : List (List ℕ)) where
  like_variable : (file : Names) (k : Known) (c : Bool) (d : DeclrTree) → Like file k → Like (with_variable named c file d) (known.after_declr k c d)
  like_variable file k c (tree.Plain x) h = like_more file k x.name (variable_decl named c (constant_cells file) (tree.Plain x)) true tt h
  like_variable file k c (tree.Init x e) h = like_more file k x.name (variable_decl named c (constant_cells file) (tree.Init x e)) (not c)
      (kind_not c (variable_decl named c (constant_cells file) (tree.Init x e)) refl) h
  like_variable file k c (tree.Array x n) h = like_more file k x.name (variable_decl named c (constant_cells file) (tree.Array x n)) true tt h

  like_variables : (file : Names) (k : Known) (c : Bool) (ds : List DeclrTree) → Like file k → Like (after_variables named c file ds) (known.after_declrs k c ds)
  like_variables file k c [] h = h
  like_variables file k c (d ∷ ds) h = like_variables (with_variable named c file d) (known.after_declr k c d) c ds (like_variable file k c d h)

  like_top : (file : Names) (k : Known) (t : TopTree) → Like file k → Like (after_top named file t) (known.after_top k t)
  like_top file k (tree.Extern x) h = like_more file k x.name (other_decl sort.Extern x.at) false refl h
  like_top file k (tree.ExternArray x) h = like_more file k x.name (other_decl sort.ExternArray x.at) false refl h
  like_top file k (tree.FileDeclaration v) h = like_variables file k v.is_const v.declrs h
  like_top file k (tree.Kernel f) h = like_more file k f.name.name (other_decl sort.Kernel f.name.at) false refl h

  like_tops : (file : Names) (k : Known) (ts : List TopTree) → Like file k → Like (after_tops named file ts) (known.after_tops k ts)
  like_tops file k [] h = h
  like_tops file k (t ∷ ts) h = like_tops (after_top named file t) (known.after_top k t) ts (like_top file k t h)

-- ---- targets

no_breach : (b : Bool) (r : TypeRule) (t : ℕ) → breach_if b r t ≡ [] → b ≡ false
no_breach false r t e = refl
no_breach true r t e = absurd (subst IsNil (sym e) tt)

could : (fixed indexed : Bool) (t : ℕ) (d : Decl) → use_breaches (writing false fixed indexed) t (Some d) ≡ [] → assignable d ≡ true
could fixed indexed t d e =
    let b1 = breach_if (names.is_out_of_reach d) rule.UnknownName t in
    let e2 = right_nil [] _ e in
    let e3 = right_nil (breach_if _ rule.NotAnArray t) _ e2 in
    let thing = or_parts (is_no_value d.sort) _ (no_breach _ rule.NotAScalar t (left_nil _ _ e3)) in
    let e4 = right_nil (breach_if _ rule.NotAScalar t) _ e3 in
    let counter = no_breach (is_counter d.sort) rule.AssignsCounter t (left_nil _ _ e4) in
    let kept = or_parts d.is_const _ (no_breach (is_read_only false fixed d) rule.AssignsConst t (right_nil (breach_if (is_counter d.sort) rule.AssignsCounter t) _ e4)) in
    let extern = or_parts (is_extern d.sort) _ kept.1 in
    let c0 = thing.0 in
    let c1 = extern.0 in
    let c2 = kept.0 in
    rw (c0, counter, c1, c2) refl

target_could : (fixed indexed : Bool) (t : ℕ) (p q : Option Bool) (a b : Option Decl) → Both p a → Both q b → use_breaches (writing false fixed indexed) t (or_else a b) ≡ [] → CanBeAssigned p q
target_could fixed indexed t (Some true) q a b h i e = tt
target_could fixed indexed t (Some false) q (Some d) b h i e = never (sym (could fixed indexed t d e) ∙ h)
target_could fixed indexed t (Some false) q None b h i e = absurd h
target_could fixed indexed t None q (Some d) b h i e = absurd h
target_could fixed indexed t None (Some true) None b h i e = tt
target_could fixed indexed t None (Some false) None (Some d) h i e = never (sym (could fixed indexed t d e) ∙ i)
target_could fixed indexed t None (Some false) None None h i e = absurd i
target_could fixed indexed t None None None (Some d) h i e = absurd i
target_could fixed indexed t None None None None h i e = absurd (subst IsNil (sym e) tt)

-- ---- statements

module _ (file : Names) (f : Known) (same : Like file f) where
  place_assigns : (own : Names) (k : Known) (fixed : Bool) (p : PlaceTree) → Like own k → place_breaches false (scope file own) fixed p ≡ []
      → CanBeAssigned (found k (place_name p)) (found f (place_name p))
  place_assigns own k fixed (tree.Scalar x) h e = target_could fixed false x.at (found k x.name) (found f x.name) (decl_in own x.name)
      (decl_in file x.name) (like_found x.name own k h) (like_found x.name file f same) e
  place_assigns own k fixed (tree.Element x i) h e =
      target_could fixed true x.at (found k x.name) (found f x.name) (decl_in own x.name) (decl_in file x.name) (like_found x.name own k h) (like_found x.name file f same)
      (left_nil (use_breaches (writing false fixed true) x.at (means (scope file own) x.name)) (expr_breaches false (scope file own) i) e)
  place_assigns own k fixed (tree.Target at x) h e = target_could fixed true x.at (found k x.name) (found f x.name) (decl_in own x.name)
      (decl_in file x.name) (like_found x.name own k h) (like_found x.name file f same) e

  mutual
    host_assigns : (own : Names) (k : Known) (fixed : List ℕ) (x : HostTree) → Like own k → host_breaches file own fixed x ≡ [] → Assigns f k x
    host_assigns own k fixed (tree.HostDeclaration v) h e = tt
    host_assigns own k fixed (tree.HostBlock at hs) h e = hosts_assign own k fixed hs h e
    host_assigns own k fixed (tree.HostEmpty at) h e = tt
    host_assigns own k fixed (tree.HostAssign a) h e =
        let q = is_fixed (means (scope file own) ((place_name' a.place).name)) fixed in
        place_assigns own k q a.place h (left_nil (place_breaches false (scope file own) q a.place) (expr_breaches false (scope file own) a.value) e)
    host_assigns own k fixed (tree.HostIf at c x) h e = host_assigns own k fixed x h (right_nil (expr_breaches false (scope file own) c) (host_breaches file own fixed x) e)
    host_assigns own k fixed (tree.HostIfElse at c x y) h e =
        let b1 = host_breaches file own fixed x in
        let b2 = host_breaches file (own_after own x) (fixed_after file own fixed x) y in
        let r : b1 ++ b2 ≡ [] = right_nil (expr_breaches false (scope file own) c) (b1 ++ b2) e in
        (host_assigns own k fixed x h (left_nil b1 b2 r), host_assigns (own_after own x) (known.after_host k x) (fixed_after file own fixed x) y (like_host own k x h) (right_nil b1 b2 r))
    host_assigns own k fixed (tree.HostFor g x) h e =
        host_assigns (with_host_counter own g) (knows g.name.name false k) fixed x (like_more own k g.name.name (main_decl false sort.Counter g.name.at) false refl h)
        (right_nil (header_breaches file own g) (host_breaches file (with_host_counter own g) fixed x) e)
    host_assigns own k fixed (tree.HostCall c) h e = tt

    hosts_assign : (own : Names) (k : Known) (fixed : List ℕ) (xs : HostTrees) → Like own k → hosts_breaches file own fixed xs ≡ [] → AllAssign f k xs
    hosts_assign own k fixed tree.NoHost h e = tt
    hosts_assign own k fixed (tree.MoreHost x xs) h e =
        let b1 = host_breaches file own fixed x in
        let b2 = hosts_breaches file (own_after own x) (fixed_after file own fixed x) xs in
        (host_assigns own k fixed x h (left_nil b1 b2 e), hosts_assign (own_after own x) (known.after_host k x) (fixed_after file own fixed x) xs (like_host own k x h) (right_nil b1 b2 e))

pub main_assigns : (p : ProgramTree) → breaches p ≡ [] → MainAssigns p
main_assigns p e =
    hosts_assign (file_of p) (known.after_tops [] p.tops) (like_tops (named_in p) [] [] p.tops tt) [] [] [] p.main.body tt
    (right_nil (tops_breaches (named_in p) [] p.tops) (hosts_breaches (file_of p) [] [] p.main.body) e)
