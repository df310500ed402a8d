-- Where the walk over `main` refuses nothing, no `op_decl_const` names a variable of `main`.
use Rattle.std.proofs.Common.{◌≡◌, ℕ, List, [], ◌∷◌, ◌++◌, Ok, Err, Bool, true, false, ◌||◌, refl, ap, subst}
use Rattle.std.specs.Prelude.{Option, Some, None, IfSome, if◌then◌else◌}
use Rattle.std.specs.List.{list_any}
use Rattle.std.specs.Str.{bytes_eq}
use Rattle.std.proofs.lemmas.Map.Entries.{All-lookup}
use Rattle.c_tree.specs.declared.lexer.tokens.Pos.{Pos}
use Rattle.c_tree.specs.declared.expressions.NumberLiteral.{NumberLiteral}
use Rattle.c_tree.specs.declared.expressions.TextLiteral.{TextLiteral}
use Rattle.c_tree.specs.declared.hosts.GlobalName.{GlobalName}
use Rattle.c_tree.specs.Tree as tree
use Rattle.c_tree.specs.Tree.{OpCallTree, HostTree, HostTrees}
use Rattle.kernel_model.specs.declared.types.kernels.ConstDecl.{ConstDecl}
use Rattle.mesh_decl.specs.Spelling.{Named}
use Rattle.bound_program.specs.declared.refusals.refusals.BindRefusal.TheVariants as refusal
use Rattle.bound_program.specs.Refusals.{Judged, ◌>>=◌, found_if}
use Rattle.main_declarations.specs.declared.names.walks.Spot.{Spot}
use Rattle.main_declarations.specs.declared.names.scopes.Meaning.{Meaning}
use Rattle.main_declarations.specs.declared.names.scopes.Meaning.TheVariants as m
use Rattle.main_declarations.specs.Names.{named_in, or_else, means}
use Rattle.main_declarations.specs.Expressions.{judged_static}
use Rattle.main_declarations.specs.SoFar.{Declared, Walked, behind}
use Rattle.bound_program.specs.Steps.{Asked, Block, Choose, Repeat, NoStep}
use Rattle.main_declarations.specs.Declarations.{place_found, type_found}
use Rattle.main_declarations.specs.Variables.{file_cells, constant_found, after_constant, constant_decl_found, judged_constant}
use Rattle.loop_bind.specs.Text.{nested, turning, judged_call, opened, followed_by, ended, with_counter, judged_bounds, judged_host, judged_hosts}
use Rattle.loop_bind.specs.Assigned.{Known, found, knows, after_host}
use Rattle.loop_bind.specs.FileVariables.{FileVariable, NamesApart, constant_names, is_constant, Begins, AreConstants}
use Rattle.loop_bind.specs.Hidden.{CallNamesNoOwn, NamesNoOwn, AllNameNoOwn}
use Rattle.main_declarations.proofs.Public.{Gives, gives_then, gives_unless, left_nil, right_nil, not_if, gives_any, never}
use Rattle.loop_bind.proofs.FitsScopes.{Both, same_found}
use Rattle.loop_bind.proofs.FitsScopeWalk.{Scoped, At, counter_scoped, host_scoped}
use Rattle.loop_bind.proofs.FitsMainConsts.{OfMain, MainConsts}
use Rattle.loop_bind.proofs.FitsConstWalk.{Have, counter_goes, host_goes}

all_three : {A : Type 0} (P Q R : A → Type 0) (j : Judged A) → Gives P j → Gives Q j → Gives R j → Gives (λ x. P x × Q x × R x) j
all_three P Q R (Ok x) h i k = (h, i, k)
all_three P Q R (Err e) h i k = tt

-- ---- a constant

module _ (places : List Pos) (n : NumberLiteral) (g : GlobalName) where
  no_cells : {X : Type 0} → constant_found places n g None ≡ [] → X
  no_cells e = never (not_if places true g.name.at refusal.UnknownEntry (left_nil (found_if places true g.name.at refusal.UnknownEntry) _ e))

  -- a name whose cells are those of a variable of the file is none of `main`
  none_own : (p : Option Bool) (a b : Option Meaning) → Both p a → IfSome a OfMain → constant_found places n g (file_cells places (or_else a b)) ≡ [] → p ≡ None
  none_own None a b h f e = refl
  none_own (Some q) None b h f e = absurd h
  none_own (Some q) (Some (m.Extern z)) b h f e = no_cells e
  none_own (Some q) (Some m.ExternArray) b h f e = no_cells e
  none_own (Some q) (Some (m.Kernel number params)) b h f e = no_cells e
  none_own (Some q) (Some (m.Set s)) b h f e = no_cells e
  none_own (Some q) (Some (m.Map s)) b h f e = no_cells e
  none_own (Some q) (Some (m.Dat s)) b h f e = no_cells e
  none_own (Some q) (Some (m.Variable c)) b h f e = no_cells (subst (λ t. constant_found places n g (if t then Some c else None) ≡ []) f e)
  none_own (Some q) (Some (m.Fixed z c)) b h f e = no_cells (subst (λ t. constant_found places n g (if t then Some c else None) ≡ []) f e)
  none_own (Some q) (Some (m.FixedLater t c)) b h f e = no_cells e
  none_own (Some q) (Some (m.Turning t)) b h f e = no_cells e

module _ (cs : List ConstDecl) (fs : List FileVariable) (apart : NamesApart fs) (places : List Pos) (es : List Named) (file : Known) where
  constant_unhidden : (done : List (List ℕ)) (own : Known) (k : Declared) (nest : Bool) (t : ℕ) (n : NumberLiteral) (l : TextLiteral)
      (g : GlobalName) → MainConsts cs fs apart done k → Scoped file own k
      → Gives (λ (j : Declared). found own g.name.name ≡ None) (judged_constant places cs k nest t n l g)
  constant_unhidden done own k nest t n l g h s =
      let x = g.name.name in
      let c = file_cells places (means k.names x) in
      let before = place_found places k nest t in
      let here = constant_found places n g c in
      let last = type_found places l in
      gives_unless (λ (j : Declared). found own g.name.name ≡ None) (constant_decl_found places k nest t n l g) (after_constant places cs k x c)
      (λ none. none_own places n g (found own x) (named_in k.names.own x) (named_in k.names.file x) (same_found x own k.names.own s.own) (All-lookup OfMain (bytes_eq x) k.names.own h.own)
      (right_nil before here (left_nil (before ++ here) last none)))

  call_unhidden : (done : List (List ℕ)) (own : Known) (a : Walked) (w : Spot) (c : OpCallTree) → Have cs fs apart places es done a
      → At places cs es file own a → Gives (λ (b : Walked). CallNamesNoOwn own c) (judged_call places cs es a w c)
  call_unhidden done own a w (tree.DeclConst at n l g) h s =
      gives_then (λ (k : Declared). found own g.name.name ≡ None) (λ (b : Walked). found own g.name.name ≡ None) (judged_constant places cs a.declared w.is_nested at n l g) (λ k. Ok (behind a k))
      (constant_unhidden done own a.declared w.is_nested at n l g h s) (λ k i. i)
  call_unhidden done own a w (tree.CallInit at n) h s = gives_any (judged_call places cs es a w (tree.CallInit at n))
  call_unhidden done own a w (tree.DeclSet at x e l) h s = gives_any (judged_call places cs es a w (tree.DeclSet at x e l))
  call_unhidden done own a w (tree.DeclMap at x from to n v l) h s = gives_any (judged_call places cs es a w (tree.DeclMap at x from to n v l))
  call_unhidden done own a w (tree.DeclDat at x on n u v l) h s = gives_any (judged_call places cs es a w (tree.DeclDat at x on n u v l))
  call_unhidden done own a w (tree.ParLoop at f l on args) h s = gives_any (judged_call places cs es a w (tree.ParLoop at f l on args))
  call_unhidden done own a w (tree.Printf at l xs) h s = gives_any (judged_call places cs es a w (tree.Printf at l xs))
  call_unhidden done own a w (tree.PrintDat at x l) h s = gives_any (judged_call places cs es a w (tree.PrintDat at x l))

  -- ---- statements

  -- what is so behind a statement that names no variable of `main`
  abbrev On : List (List ℕ) → Known → HostTree → Walked → Type 0
  On done own x b = NamesNoOwn own x × At places cs es file (after_host own x) b × Have cs fs apart places es (done ++ constant_names x) b

  host_on : (done : List (List ℕ)) (own : Known) (a : Walked) (w : Spot) (x : HostTree) → Have cs fs apart places es done a
      → At places cs es file own a → Gives (λ (b : Walked). NamesNoOwn own x) (judged_host places cs es a w x)
      → Gives (On done own x) (judged_host places cs es a w x)
  host_on done own a w x h s g =
      all_three (λ (b : Walked). NamesNoOwn own x) (At places cs es file (after_host own x)) (Have cs fs apart places es (done ++ constant_names x)) (judged_host places cs es a w x)
      g (host_scoped places cs es file own a w x s) (host_goes cs fs apart places es done a w x h)

  mutual
    host_unhidden : (done : List (List ℕ)) (own : Known) (a : Walked) (w : Spot) (x : HostTree) → Have cs fs apart places es done a
        → At places cs es file own a → Gives (λ (b : Walked). NamesNoOwn own x) (judged_host places cs es a w x)
    host_unhidden done own a w (tree.HostDeclaration v) h s = gives_any (judged_host places cs es a w (tree.HostDeclaration v))
    host_unhidden done own a w (tree.HostBlock at hs) h s =
        gives_then (λ (b : Walked). AllNameNoOwn own hs) (λ (b : Walked). AllNameNoOwn own hs)
        (judged_hosts places cs es (opened places cs es a) (nested w) hs) (λ b. Ok (ended places cs es a (Block b.steps) b))
        (hosts_unhidden done own (opened places cs es a) (nested w) hs h s) (λ b i. i)
    host_unhidden done own a w (tree.HostEmpty at) h s = gives_any (judged_host places cs es a w (tree.HostEmpty at))
    host_unhidden done own a w (tree.HostAssign e) h s = gives_any (judged_host places cs es a w (tree.HostAssign e))
    host_unhidden done own a w (tree.HostIf at e x) h s =
        gives_then (λ (c : Asked). Unit {0}) (λ (b : Walked). NamesNoOwn own x) (judged_static places a.declared.names e)
        (λ c. judged_host places cs es (opened places cs es a) (nested w) x >>= λ b. Ok
        (followed_by places cs es a (Choose c (Block b.steps) (Block NoStep)) b)) (gives_any (judged_static places a.declared.names e))
        (λ c u. gives_then (λ (b : Walked). NamesNoOwn own x) (λ (b : Walked). NamesNoOwn own x)
        (judged_host places cs es (opened places cs es a) (nested w) x)
        (λ b. Ok (followed_by places cs es a (Choose c (Block b.steps) (Block NoStep)) b))
        (host_unhidden done own (opened places cs es a) (nested w) x h s) (λ b i. i))
    host_unhidden done own a w (tree.HostIfElse at e x y) h s =
        let o = after_host own x in
        gives_then (λ (c : Asked). Unit {0}) (λ (b : Walked). NamesNoOwn own x × NamesNoOwn o y) (judged_static places a.declared.names e)
        (λ c. judged_host places cs es (opened places cs es a) (nested w) x >>= λ b. judged_host places cs es (opened places cs es b)
        (nested w) y >>= λ d. Ok (followed_by places cs es a (Choose c (Block b.steps) (Block d.steps)) d))
        (gives_any (judged_static places a.declared.names e))
        (λ c u. gives_then (On done own x) (λ (b : Walked). NamesNoOwn own x × NamesNoOwn o y) (judged_host places cs es (opened places cs es a) (nested w) x)
        (λ b. judged_host places cs es (opened places cs es b) (nested w) y >>= λ d. Ok (followed_by places cs es a (Choose c (Block b.steps) (Block d.steps)) d))
        (host_on done own (opened places cs es a) (nested w) x h s (host_unhidden done own (opened places cs es a) (nested w) x h s))
        (λ b i. gives_then (λ (d : Walked). NamesNoOwn o y) (λ (d : Walked). NamesNoOwn own x × NamesNoOwn o y) (judged_host places cs es (opened places cs es b) (nested w) y)
        (λ d. Ok (followed_by places cs es a (Choose c (Block b.steps) (Block d.steps)) d))
        (host_unhidden (done ++ constant_names x) o (opened places cs es b) (nested w) y i.2 i.1) (λ d j. (i.0, j))))
    host_unhidden done own a w (tree.HostFor f x) h s =
        let o = knows f.name.name false own in
        gives_then (λ (r : Asked × Asked). Unit {0}) (λ (b : Walked). NamesNoOwn o x) (judged_bounds places cs es a f)
        (λ r. judged_host places cs es (with_counter places cs es a f.name) turning x >>= λ b. Ok
        (ended places cs es a (Repeat r.0 r.1 (Block b.steps)) b)) (gives_any (judged_bounds places cs es a f))
        (λ r u. gives_then (λ (b : Walked). NamesNoOwn o x) (λ (b : Walked). NamesNoOwn o x)
        (judged_host places cs es (with_counter places cs es a f.name) turning x)
        (λ b. Ok (ended places cs es a (Repeat r.0 r.1 (Block b.steps)) b))
        (host_unhidden done o (with_counter places cs es a f.name) turning x (counter_goes cs fs apart places es done a f.name h) (counter_scoped places cs es file own a f.name s)) (λ b i. i))
    host_unhidden done own a w (tree.HostCall c) h s = call_unhidden done own a w c h s

    pub hosts_unhidden : (done : List (List ℕ)) (own : Known) (a : Walked) (w : Spot) (xs : HostTrees) → Have cs fs apart places es done a
        → At places cs es file own a → Gives (λ (b : Walked). AllNameNoOwn own xs) (judged_hosts places cs es a w xs)
    hosts_unhidden done own a w tree.NoHost h s = tt
    hosts_unhidden done own a w (tree.MoreHost x xs) h s =
        let o = after_host own x in
        gives_then (On done own x) (λ (b : Walked). NamesNoOwn own x × AllNameNoOwn o xs) (judged_host places cs es a w x)
        (λ b. judged_hosts places cs es b w xs) (host_on done own a w x h s (host_unhidden done own a w x h s))
        (λ b i. with_first (judged_hosts places cs es b w xs) i.0 (hosts_unhidden (done ++ constant_names x) o b w xs i.2 i.1))
      where
        with_first : (j : Judged Walked) → NamesNoOwn own x → Gives (λ (b : Walked). AllNameNoOwn (after_host own x) xs) j
            → Gives (λ (b : Walked). NamesNoOwn own x × AllNameNoOwn (after_host own x) xs) j
        with_first (Ok b) n h = (n, h)
        with_first (Err e) n h = tt

-- ---- the same constants by the same names

begins_more : (q : Bool) (f : FileVariable) (cs : List ConstDecl) (P Q : List ConstDecl → Type 0) → ((ds : List ConstDecl) → P ds → Q ds) → Begins q f cs P → Begins q f cs Q
begins_more false f cs P Q k h = k cs h
begins_more true f [] P Q k h = absurd h
begins_more true f (c ∷ cs) P Q k h = (h.0, h.1, k cs h.2)

pub are_same : (a b : List (List ℕ)) → ((x : List ℕ) → list_any (bytes_eq x) a ≡ list_any (bytes_eq x) b) → (fs : List FileVariable) (cs : List ConstDecl) → AreConstants a fs cs → AreConstants b fs cs
are_same a b e [] [] h = h
are_same a b e [] (c ∷ cs) h = h
are_same a b e (f ∷ fs) cs h =
    subst (λ q. Begins q f cs (AreConstants b fs)) (ap (λ q. f.is_const || q) (e f.name))
    (begins_more (is_constant a f) f cs (AreConstants a fs) (AreConstants b fs) (λ ds i. are_same a b e fs ds i) h)
