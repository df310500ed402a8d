-- A source declares at most as many variables and dats as it has tokens.
use Rattle.std.proofs.Common.{◌≡◌, ◌<◌, ◌≤◌, ◌+◌, ℕ, zero, suc, ℤ, Bool, true, false, List, ◌∷◌, ◌++◌, length, map, Option, Some, None, Ok, if◌then◌else◌, refl, ◌∙◌, arith, length-append, []}
use Rattle.std.specs.Prelude.{is_none, is_some, bytes_eq}
use Rattle.std.specs.Map.{lookup}
use Rattle.c_tree.specs.declared.lexer.tokens.Pos.{Pos}
use Rattle.c_tree.specs.declared.lexer.tokens.Sign.TheVariants as sign
use Rattle.c_tree.specs.declared.lexer.tokens.Word.TheVariants as word
use Rattle.c_tree.specs.declared.expressions.Ident.{Ident}
use Rattle.c_tree.specs.declared.hosts.LoopArg.{LoopArg}
use Rattle.c_tree.specs.declared.hosts.LoopArg.TheVariants as arg
use Rattle.c_tree.specs.Tree as tree
use Rattle.c_tree.specs.Tree.{ExprTree, DeclrTree, DeclarationTree, TopTree, OpCallTree, HostTree, HostTrees}
use Rattle.c_tree.specs.Print.{sign_at, word_at, named_word, word_if, commas, declr, declrs, vars, condition, top, tops, host_counter, call, host, hosts}
use Rattle.kernel_model.specs.declared.types.kernels.ConstDecl.{ConstDecl}
use Rattle.mesh_decl.specs.Mesh.{MeshValue}
use Rattle.mesh_decl.specs.Printed.{conversions}
use Rattle.mesh_decl.specs.declared.text.entry.Entry.{Entry}
use Rattle.mesh_decl.specs.declared.text.entry.Entry.TheVariants.{One, Many}
use Rattle.mesh_decl.specs.Spelling.{Named}
use Rattle.bound_program.specs.declared.refusals.refusals.BindRefusal.TheVariants as refusal
use Rattle.bound_program.specs.Refusals.{Judged, ◌>>=◌, found_if}
use Rattle.bound_program.specs.Values.{VarValue, Line, Print}
use Rattle.main_declarations.specs.declared.names.walks.Spot.{Spot}
use Rattle.main_declarations.specs.declared.names.scopes.Cells.{Cells}
use Rattle.main_declarations.specs.declared.names.scopes.Meaning.{Meaning}
use Rattle.main_declarations.specs.declared.names.scopes.Meaning.TheVariants as m
use Rattle.main_declarations.specs.Names.{means}
use Rattle.main_declarations.specs.Expressions.{resolved, judged_static, judged_value}
use Rattle.main_declarations.specs.Meanings.{dat_of, or_zero, values_named}
use Rattle.main_declarations.specs.SoFar.{Declared, Walked, does, behind, with_var, first_cell}
use Rattle.bound_program.specs.Steps.{Asked, Do, Loop, Fix, Block, Choose, Repeat, NoStep}
use Rattle.bound_program.specs.Limited.{ToldValue}
use Rattle.main_declarations.specs.Declarations.{with_dat, set_decl_found, map_decl_found, dat_decl_found, judged_set, judged_map, judged_dat}
use Rattle.main_declarations.specs.Variables.{with_file_value, judged_file_declr, judged_file_declrs, with_fixed, with_fixed_later, with_turning, const_at, judged_declr, judged_declrs, file_cells, with_constant, after_constant, constant_decl_found, judged_constant}
use Rattle.main_declarations.specs.File.{judged_extern, judged_array, judged_top, judged_tops}
use Rattle.loop_bind.specs.Arguments.{with_extern, extern_var, after_global, after_globals, loop_found, site, judged_loop}
use Rattle.loop_bind.specs.Text.{nested, turning, line_found, declares, judged_call, opened, followed_by, ended, with_counter, judged_bounds, judged_host, judged_hosts}
use Rattle.loop_bind.specs.Weights.{started, with_told}
use Rattle.main_declarations.proofs.Public.{Gives, gives_then, gives_weaker, gives_unless, gives_any}
use Rattle.checkpoint.specs.Cut.{starts}

-- ---- variables that aren't `const`

flag_length : {X : Type 0} (b : Bool) (x : X) (xs : List X) → length (if b then xs else x ∷ xs) ≡ (if b then length xs else suc (length xs))
flag_length true x xs = refl
flag_length false x xs = refl

cons_length : (x : VarValue) (xs : List VarValue) → length (starts (x ∷ xs)) ≡ (if x.is_const then length (starts xs) else suc (length (starts xs)))
cons_length x xs = flag_length x.is_const x.start (starts xs)

flag_push : (b : Bool) (n k : ℕ) → n ≤ suc k → (if b then n else suc n) ≤ suc (if b then k else suc k)
flag_push true n k h = h
flag_push false n k h = omega (arith, h)

flag_one : (b : Bool) → (if b then 0 else 1) ≤ 1
flag_one true = omega arith
flag_one false = omega arith

-- one more is one more at most
push_few : (xs : List VarValue) (y : VarValue) → length (starts (xs ++ y ∷ [])) ≤ suc (length (starts xs))
push_few [] y = rw (cons_length y []) (flag_one y.is_const)
push_few (x ∷ xs) y = rw (cons_length x (xs ++ y ∷ []), cons_length x xs) (flag_push x.is_const (length (starts (xs ++ y ∷ []))) (length (starts xs)) (push_few xs y))

-- a `const` one is none more
push_const : (xs : List VarValue) (y : VarValue) → y.is_const ≡ true → length (starts (xs ++ y ∷ [])) ≡ length (starts xs)
push_const [] y e = rw (cons_length y [], e) refl
push_const (x ∷ xs) y e = rw (cons_length x (xs ++ y ∷ []), cons_length x xs, push_const xs y e) refl

constant_same : (places : List Pos) (v : ℕ) (from : Option ℕ) (xs : List VarValue) → length (starts (with_constant places v from xs)) ≡ length (starts xs)
constant_same places v from [] = refl
constant_same places zero from (x ∷ xs) = refl
constant_same places (suc v) from (x ∷ xs) = rw (cons_length x (with_constant places v from xs), cons_length x xs, constant_same places v from xs) refl

started_same : (v : ℕ) (z : ℤ) (xs : List VarValue) → length (starts (started v z xs)) ≡ length (starts xs)
started_same v z [] = refl
started_same zero z (x ∷ xs) = rw (cons_length (record x { start = z ∷ [] }) xs, cons_length x xs) refl
started_same (suc v) z (x ∷ xs) = rw (cons_length x (started v z xs), cons_length x xs, started_same v z xs) refl

pub told_same : (ts : List ToldValue) (xs : List VarValue) → length (starts (with_told ts xs)) ≡ length (starts xs)
told_same [] xs = refl
told_same (t ∷ ts) xs = told_same ts (started t.var t.value xs) ∙ started_same t.var t.value xs

-- ---- so many are declared

abbrev pub Few : ℕ → Declared → Type 0
Few n k = length (starts k.vars) + length k.mesh.dats ≤ n

abbrev pub WalkedFew : ℕ → Walked → Type 0
WalkedFew n a = Few n a.declared

more : (n m : ℕ) (k : Declared) → n ≤ m → Few n k → Few m k
more n m k le h = omega (arith, le, h)

pub gives_more : (n m : ℕ) (r : Judged Declared) → n ≤ m → Gives (Few n) r → Gives (Few m) r
gives_more n m r le h = gives_weaker (Few n) (Few m) r h (λ k. more n m k le)

walk_more : (n m : ℕ) (r : Judged Walked) → n ≤ m → Gives (WalkedFew n) r → Gives (WalkedFew m) r
walk_more n m r le h = gives_weaker (WalkedFew n) (WalkedFew m) r h (λ a. more n m a.declared le)

one_var : (n : ℕ) (k : Declared) (v : VarValue) → Few n k → Few (suc n) (with_var v k)
one_var n k v h = let e = push_few k.vars v in omega (arith, h, e)

one_dat : (n vs : ℕ) (g : MeshValue) (x : List ℕ) (set dim : ℕ) (zs : List ℤ) → vs + length g.dats ≤ n → vs + length (with_dat x set dim zs g).dats ≤ suc n
one_dat n vs g x set dim zs h = let e = length-append g.dats ((record { name = x; set = set; dim = dim; values = zs }) ∷ []) in omega (arith, h, e)

-- ---- tokens

declr_long : (k : ℕ) (d : DeclrTree) → 0 < length (declr k d)
declr_long k (tree.Plain x) = omega arith
declr_long k (tree.Init x e) = omega arith
declr_long k (tree.Array x n) = omega arith

commas_long : (k : ℕ) (ds : List DeclrTree) → length ds ≤ length (commas k (declrs k ds))
commas_long k [] = omega arith
commas_long k (d ∷ []) = let l = declr_long k d in omega (arith, l)
commas_long k (d ∷ e ∷ ds) =
    let l = declr_long k d in
    let r = commas_long k (e ∷ ds) in
    let a = length-append (declr k d) (sign_at k sign.Comma ∷ commas k (declrs k (e ∷ ds))) in
    omega (arith, l, r, a)

vars_long : (k : ℕ) (v : DeclarationTree) → length v.declrs ≤ length (vars k v)
vars_long k v =
    let l = commas_long k v.declrs in
    let inner = commas k (declrs k v.declrs) in
    let a = length-append inner (sign_at k sign.Semicolon ∷ []) in
    let b = length-append (word_if v.is_const k word.Const) (named_word k word.Int v.at ∷ (inner ++ sign_at k sign.Semicolon ∷ [])) in
    omega (arith, l, a, b)

module _ (places : List Pos) (cs : List ConstDecl) (es : List Named) where
  -- ---- the file

  value_few : (n : ℕ) (k : Declared) (c : Bool) (x : List ℕ) (z : ℤ) → Few n k → Few (suc n) (with_file_value places cs k c x z)
  value_few n k false x z h = one_var n k _ h
  value_few n k true x z h = one_var n k _ h

  file_declr : (n : ℕ) (k : Declared) (c : Bool) (d : DeclrTree) → Few n k → Gives (Few (suc n)) (judged_file_declr places cs k c d)
  file_declr n k c (tree.Plain x) h = one_var n k _ h
  file_declr n k c (tree.Init x e) h =
      gives_then (λ z. Unit {0}) (Few (suc n)) (judged_value places k.names e) (λ z. Ok (with_file_value places cs k c x.name z))
      (gives_any (judged_value places k.names e)) (λ z u. value_few n k c x.name z h)
  file_declr n k c (tree.Array x i) h = one_var n k _ h

  file_declrs : (n : ℕ) (k : Declared) (c : Bool) (ds : List DeclrTree) → Few n k → Gives (Few (n + length ds)) (judged_file_declrs places cs k c ds)
  file_declrs n k c [] h = more n (n + 0) k (omega arith) h
  file_declrs n k c (d ∷ ds) h =
      gives_then (Few (suc n)) (Few (n + suc (length ds))) (judged_file_declr places cs k c d) (λ l. judged_file_declrs places cs l c ds) (file_declr n k c d h)
      (λ l i. gives_more (suc n + length ds) (n + suc (length ds)) (judged_file_declrs places cs l c ds) (omega arith) (file_declrs (suc n) l c ds i))

  extern_few : (n : ℕ) (k : Declared) (x : Ident) (e : Option Entry) → Few n k → Gives (Few n) (judged_extern places cs es k x e)
  extern_few n k x (Some (One z)) h = h
  extern_few n k x (Some (Many zs)) h = tt
  extern_few n k x None h = tt

  array_few : (n : ℕ) (k : Declared) (x : Ident) (e : Option Entry) → Few n k → Gives (Few n) (judged_array places cs es k x e)
  array_few n k x (Some (One z)) h = tt
  array_few n k x (Some (Many zs)) h = h
  array_few n k x None h = tt

  top_few : (n : ℕ) (k : Declared) (t : TopTree) → Few n k → Gives (Few (n + length (top t))) (judged_top places cs es k t)
  top_few n k (tree.Extern x) h = gives_more n (n + length (top (tree.Extern x))) _ (omega arith) (extern_few n k x (lookup (bytes_eq x.name) es) h)
  top_few n k (tree.ExternArray x) h = gives_more n (n + length (top (tree.ExternArray x))) _ (omega arith) (array_few n k x (lookup (bytes_eq x.name) es) h)
  top_few n k (tree.FileDeclaration v) h =
      let l = vars_long 1 v in
      gives_more (n + length v.declrs) (n + length (top (tree.FileDeclaration v))) (judged_file_declrs places cs k v.is_const v.declrs) (omega (arith, l)) (file_declrs n k v.is_const v.declrs h)
  top_few n k (tree.Kernel f) h = more n (n + length (top (tree.Kernel f))) k (omega arith) h

  pub tops_few : (n : ℕ) (k : Declared) (ts : List TopTree) → Few n k → Gives (Few (n + length (tops ts))) (judged_tops places cs es k ts)
  tops_few n k [] h = more n (n + 0) k (omega arith) h
  tops_few n k (t ∷ ts) h =
      let a = length-append (top t) (tops ts) in
      gives_then (Few (n + length (top t))) (Few (n + length (tops (t ∷ ts)))) (judged_top places cs es k t) (λ l. judged_tops places cs es l ts) (top_few n k t h)
      (λ l i. gives_more (n + length (top t) + length (tops ts)) (n + length (tops (t ∷ ts))) (judged_tops places cs es l ts) (omega (arith, a)) (tops_few (n + length (top t)) l ts i))

  -- ---- `main`

  const_few : (n : ℕ) (in_for is_nested : Bool) (a : Walked) (x : List ℕ) (e : ExprTree) → WalkedFew n a → Gives (WalkedFew (suc n)) (const_at places in_for is_nested a x e)
  const_few n true is_nested a x e h =
      gives_then (λ (v : Asked). Unit {0}) (WalkedFew (suc n)) (judged_static places a.declared.names e)
      (λ v. Ok (does (Fix v None) (behind a (with_turning places a.declared x)))) (gives_any (judged_static places a.declared.names e))
      (λ v u. more n (suc n) a.declared (omega arith) h)
  const_few n false true a x e h =
      gives_then (λ (v : Asked). Unit {0}) (WalkedFew (suc n)) (judged_static places a.declared.names e)
      (λ v. Ok (does (Fix v (Some (length a.declared.vars))) (behind a (with_fixed_later places a.declared x))))
      (gives_any (judged_static places a.declared.names e)) (λ v u. one_var n a.declared _ h)
  const_few n false false a x e h =
      gives_then (λ (z : ℤ). Unit {0}) (WalkedFew (suc n)) (judged_value places a.declared.names e)
      (λ z. Ok (behind a (with_fixed places a.declared x z))) (gives_any (judged_value places a.declared.names e))
      (λ z u. one_var n a.declared _ h)

  declr_few : (n : ℕ) (a : Walked) (w : Spot) (c : Bool) (d : DeclrTree) → WalkedFew n a → Gives (WalkedFew (suc n)) (judged_declr places a w c d)
  declr_few n a w true (tree.Init x e) h = const_few n w.in_for w.is_nested a x.name e h
  declr_few n a w false (tree.Init x e) h = one_var n a.declared _ h
  declr_few n a w true (tree.Plain x) h = one_var n a.declared _ h
  declr_few n a w false (tree.Plain x) h = one_var n a.declared _ h
  declr_few n a w true (tree.Array x i) h = one_var n a.declared _ h
  declr_few n a w false (tree.Array x i) h = one_var n a.declared _ h

  declrs_few : (n : ℕ) (a : Walked) (w : Spot) (c : Bool) (ds : List DeclrTree) → WalkedFew n a → Gives (WalkedFew (n + length ds)) (judged_declrs places a w c ds)
  declrs_few n a w c [] h = more n (n + 0) a.declared (omega arith) h
  declrs_few n a w c (d ∷ ds) h =
      gives_then (WalkedFew (suc n)) (WalkedFew (n + suc (length ds))) (judged_declr places a w c d) (λ b. judged_declrs places b w c ds) (declr_few n a w c d h)
      (λ b i. walk_more (suc n + length ds) (n + suc (length ds)) (judged_declrs places b w c ds) (omega arith) (declrs_few (suc n) b w c ds i))

  -- ---- calls

  declares_few : (n : ℕ) (a : Walked) (r : Judged Declared) → Gives (Few n) r → Gives (WalkedFew n) (declares places cs es a r)
  declares_few n a r g = gives_then (Few n) (WalkedFew n) r (λ k. Ok (behind a k)) g (λ k i. i)

  extern_var_few : (n : ℕ) (k : Declared) (x : List ℕ) (zs : List ℤ) → Few n k → Few n (with_extern x zs k)
  extern_var_few n k x zs h = pick (is_some (lookup (bytes_eq x) k.externs))
    where
      pick : (b : Bool) → Few n (if b then k else (record (with_var (extern_var x zs) k) { externs = k.externs ++ (x, length k.vars) ∷ [] }))
      pick true = h
      pick false = let e = push_const k.vars (extern_var x zs) refl in omega (arith, h, e)

  global_few : (n : ℕ) (k : Declared) (a : LoopArg) → Few n k → Few n (after_global es a k)
  global_few n k (arg.Dat at x i v d l a a_at) h = h
  global_few n k (arg.Global at g d l a a_at) h = pick (means k.names g.name.name)
    where
      by : Option Meaning → Declared
      by (Some (m.Extern z)) = with_extern g.name.name (z ∷ []) k
      by (Some m.ExternArray) = with_extern g.name.name (values_named es g.name.name) k
      by o = k

      pick : (o : Option Meaning) → Few n (by o)
      pick None = h
      pick (Some (m.Extern z)) = extern_var_few n k g.name.name (z ∷ []) h
      pick (Some m.ExternArray) = extern_var_few n k g.name.name (values_named es g.name.name) h
      pick (Some (m.Kernel number params)) = h
      pick (Some (m.Set s)) = h
      pick (Some (m.Map s)) = h
      pick (Some (m.Dat s)) = h
      pick (Some (m.Variable c)) = h
      pick (Some (m.Fixed z c)) = h
      pick (Some (m.FixedLater t c)) = h
      pick (Some (m.Turning t)) = h

  globals_few : (n : ℕ) (k : Declared) (args : List LoopArg) → Few n k → Few n (after_globals es args k)
  globals_few n k [] h = h
  globals_few n k (a ∷ args) h = globals_few n (after_global es a k) args (global_few n k a h)

  constant_few : (n : ℕ) (k : Declared) (x : List ℕ) (o : Option Cells) → Few n k → Few n (after_constant places cs k x o)
  constant_few n k x None h = h
  constant_few n k x (Some c) h = let e = constant_same places c.var (first_cell cs x) k.vars in omega (arith, h, e)

  -- at most one more, by a call
  by_call : (n : ℕ) (a : Walked) (w : Spot) (c : OpCallTree) → WalkedFew n a → Gives (WalkedFew (suc n)) (judged_call places cs es a w c)
  by_call n a w (tree.CallInit at i) h = more n (suc n) a.declared (omega arith) h
  by_call n a w (tree.DeclSet at x e l) h =
      declares_few (suc n) a (judged_set places a.declared w.is_nested at x e)
      (gives_unless (Few (suc n)) (set_decl_found places a.declared w.is_nested at e) _ (λ none. more n (suc n) a.declared (omega arith) h))
  by_call n a w (tree.DeclMap at x from to i v l) h =
      declares_few (suc n) a (judged_map places es a.declared w.is_nested at x from to i v)
      (gives_unless (Few (suc n)) (map_decl_found places es a.declared w.is_nested at from to i v) _ (λ none. more n (suc n) a.declared (omega arith) h))
  by_call n a w (tree.DeclDat at x on i u v l) h =
      declares_few (suc n) a (judged_dat places es a.declared w.is_nested at x on i u v)
      (gives_unless (Few (suc n)) (dat_decl_found places es a.declared w.is_nested at on i u v) _ (λ none. one_dat n (length (starts a.declared.vars)) a.declared.mesh x.name _ _ _ h))
  by_call n a w (tree.DeclConst at i u g) h =
      declares_few (suc n) a (judged_constant places cs a.declared w.is_nested at i u g)
      (gives_unless (Few (suc n)) (constant_decl_found places a.declared w.is_nested at i u g)
      (after_constant places cs a.declared g.name.name (file_cells places (means a.declared.names g.name.name)))
      (λ none. more n (suc n) (after_constant places cs a.declared g.name.name (file_cells places (means a.declared.names g.name.name)))
      (omega arith) (constant_few n a.declared g.name.name (file_cells places (means a.declared.names g.name.name)) h)))
  by_call n a w (tree.ParLoop at f l on args) h =
      let j = after_globals es args a.declared in
      gives_then (Few (suc n)) (WalkedFew (suc n)) (judged_loop places es a.declared at f on args) (λ k. Ok (does (Loop (length a.declared.sites)) (behind a k)))
      (gives_unless (Few (suc n)) (loop_found places es j at f on args) (record j { sites = j.sites ++ site places es j at f on args ∷ [] })
      (λ none. more n (suc n) j (omega arith) (globals_few n a.declared args h)))
      (λ k i. i)
  by_call n a w (tree.Printf at l xs) h =
      gives_unless (WalkedFew (suc n)) (line_found places cs es at l (length xs) (conversions l.text))
      (does (Do (Line l.text (map (resolved places a.declared.names) xs))) a) (λ none. more n (suc n) a.declared (omega arith) h)
  by_call n a w (tree.PrintDat at x l) h =
      gives_unless (WalkedFew (suc n)) (found_if places (is_none (dat_of (means a.declared.names x.name))) x.at refusal.UnknownDat)
      (does (Do (Print (or_zero (dat_of (means a.declared.names x.name))) l.text)) a)
      (λ none. more n (suc n) a.declared (omega arith) h)

  -- a call has a token
  call_long : (k : ℕ) (c : OpCallTree) → 0 < length (call k c)
  call_long k (tree.CallInit at i) = omega arith
  call_long k (tree.DeclSet at x e l) = omega arith
  call_long k (tree.DeclMap at x from to i v l) = omega arith
  call_long k (tree.DeclDat at x on i u v l) = omega arith
  call_long k (tree.DeclConst at i u g) = omega arith
  call_long k (tree.ParLoop at f l on args) = omega arith
  call_long k (tree.Printf at l xs) = omega arith
  call_long k (tree.PrintDat at x l) = omega arith

  -- ---- statements

  mutual
    host_few : (n k : ℕ) (a : Walked) (w : Spot) (x : HostTree) → WalkedFew n a → Gives (WalkedFew (n + length (host k x))) (judged_host places cs es a w x)
    host_few n k a w (tree.HostDeclaration v) h =
        let l = vars_long k v in
        walk_more (n + length v.declrs) (n + length (host k (tree.HostDeclaration v))) (judged_declrs places a w v.is_const v.declrs) (omega (arith, l)) (declrs_few n a w v.is_const v.declrs h)
    host_few n k a w (tree.HostBlock at hs) h =
        let l = length-append (hosts (suc k) hs) (sign_at k sign.RightBrace ∷ []) in
        gives_then (WalkedFew (n + length (hosts (suc k) hs))) (WalkedFew (n + length (host k (tree.HostBlock at hs))))
        (judged_hosts places cs es (opened places cs es a) (nested w) hs) (λ b. Ok (ended places cs es a (Block b.steps) b))
        (hosts_few n (suc k) (opened places cs es a) (nested w) hs h)
        (λ b i. more (n + length (hosts (suc k) hs)) (n + length (host k (tree.HostBlock at hs))) b.declared (omega (arith, l)) i)
    host_few n k a w (tree.HostEmpty at) h = more n (n + 1) a.declared (omega arith) h
    host_few n k a w (tree.HostAssign e) h = more n (n + length (host k (tree.HostAssign e))) a.declared (omega arith) h
    host_few n k a w (tree.HostIf at e x) h =
        let l = length-append (condition k at e) (host (suc k) x) in
        gives_then (λ (c : Asked). Unit {0}) (WalkedFew (n + length (host k (tree.HostIf at e x))))
        (judged_static places a.declared.names e)
        (λ c. judged_host places cs es (opened places cs es a) (nested w) x >>= λ b. Ok
        (followed_by places cs es a (Choose c (Block b.steps) (Block NoStep)) b)) (gives_any (judged_static places a.declared.names e))
        (λ c u. gives_then (WalkedFew (n + length (host (suc k) x))) (WalkedFew (n + length (host k (tree.HostIf at e x))))
        (judged_host places cs es (opened places cs es a) (nested w) x)
        (λ b. Ok (followed_by places cs es a (Choose c (Block b.steps) (Block NoStep)) b))
        (host_few n (suc k) (opened places cs es a) (nested w) x h)
        (λ b i. more (n + length (host (suc k) x)) (n + length (host k (tree.HostIf at e x))) b.declared (omega (arith, l)) i))
    host_few n k a w (tree.HostIfElse at e x y) h =
        let last = word_at k word.Else ∷ host (suc k) y in
        let l = length-append (condition k at e) (host (suc k) x ++ last) in
        let r = length-append (host (suc k) x) last in
        gives_then (λ (c : Asked). Unit {0}) (WalkedFew (n + length (host k (tree.HostIfElse at e x y)))) (judged_static places a.declared.names e)
        (λ c. judged_host places cs es (opened places cs es a) (nested w) x >>= λ b. judged_host places cs es (opened places cs es b)
        (nested w) y >>= λ d. Ok (followed_by places cs es a (Choose c (Block b.steps) (Block d.steps)) d))
        (gives_any (judged_static places a.declared.names e))
        (λ c u. gives_then (WalkedFew (n + length (host (suc k) x))) (WalkedFew (n + length (host k (tree.HostIfElse at e x y)))) (judged_host places cs es (opened places cs es a) (nested w) x)
        (λ b. judged_host places cs es (opened places cs es b) (nested w) y >>= λ d. Ok (followed_by places cs es a (Choose c (Block b.steps) (Block d.steps)) d))
        (host_few n (suc k) (opened places cs es a) (nested w) x h)
        (λ b i. gives_then (WalkedFew (n + length (host (suc k) x) + length (host (suc k) y)))
        (WalkedFew (n + length (host k (tree.HostIfElse at e x y)))) (judged_host places cs es (opened places cs es b) (nested w) y)
        (λ d. Ok (followed_by places cs es a (Choose c (Block b.steps) (Block d.steps)) d)) (host_few (n + length (host (suc k) x)) (suc k) (opened places cs es b) (nested w) y i)
        (λ d j. more (n + length (host (suc k) x) + length (host (suc k) y)) (n + length (host k (tree.HostIfElse at e x y))) d.declared (omega (arith, l, r)) j)))
    host_few n k a w (tree.HostFor f x) h =
        let l = length-append (host_counter k f) (host (suc k) x) in
        gives_then (λ (r : Asked × Asked). Unit {0}) (WalkedFew (n + length (host k (tree.HostFor f x)))) (judged_bounds places cs es a f)
        (λ r. judged_host places cs es (with_counter places cs es a f.name) turning x >>= λ b. Ok
        (ended places cs es a (Repeat r.0 r.1 (Block b.steps)) b)) (gives_any (judged_bounds places cs es a f))
        (λ r u. gives_then (WalkedFew (n + length (host (suc k) x))) (WalkedFew (n + length (host k (tree.HostFor f x))))
        (judged_host places cs es (with_counter places cs es a f.name) turning x)
        (λ b. Ok (ended places cs es a (Repeat r.0 r.1 (Block b.steps)) b))
        (host_few n (suc k) (with_counter places cs es a f.name) turning x h)
        (λ b i. more (n + length (host (suc k) x)) (n + length (host k (tree.HostFor f x))) b.declared (omega (arith, l)) i))
    host_few n k a w (tree.HostCall c) h =
        let l = call_long k c in
        walk_more (suc n) (n + length (call k c)) (judged_call places cs es a w c) (omega (arith, l)) (by_call n a w c h)

    pub hosts_few : (n k : ℕ) (a : Walked) (w : Spot) (xs : HostTrees) → WalkedFew n a → Gives (WalkedFew (n + length (hosts k xs))) (judged_hosts places cs es a w xs)
    hosts_few n k a w tree.NoHost h = more n (n + 0) a.declared (omega arith) h
    hosts_few n k a w (tree.MoreHost x xs) h =
        let l = length-append (host k x) (hosts k xs) in
        gives_then (WalkedFew (n + length (host k x))) (WalkedFew (n + length (hosts k (tree.MoreHost x xs))))
        (judged_host places cs es a w x) (λ b. judged_hosts places cs es b w xs) (host_few n k a w x h)
        (λ b i. walk_more (n + length (host k x) + length (hosts k xs)) (n + length (hosts k (tree.MoreHost x xs)))
        (judged_hosts places cs es b w xs) (omega (arith, l)) (hosts_few (n + length (host k x)) k b w xs i))
