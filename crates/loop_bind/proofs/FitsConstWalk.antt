-- Behind each statement of `main` the constants are those that it names.
use Rattle.std.proofs.Common.{◌≡◌, ℕ, ℤ, pos, List, [], ◌∷◌, ◌++◌, length, replicate, map, Ok, Bool, true, false, refl, sym, ap, subst, append_assoc, append-nil}
use Rattle.std.specs.Prelude.{All, Some, None, is_none}
use Rattle.std.proofs.lemmas.List.Elements.{All-take}
use Rattle.c_tree.specs.declared.lexer.tokens.Pos.{Pos}
use Rattle.c_tree.specs.declared.expressions.Ident.{Ident}
use Rattle.c_tree.specs.declared.expressions.NumberLiteral.{NumberLiteral}
use Rattle.c_tree.specs.declared.expressions.TextLiteral.{TextLiteral}
use Rattle.c_tree.specs.declared.hosts.LoopArg.{LoopArg}
use Rattle.c_tree.specs.Tree as tree
use Rattle.c_tree.specs.Tree.{ExprTree, DeclrTree, OpCallTree, HostTree, HostTrees}
use Rattle.kernel_model.specs.declared.types.kernels.ConstDecl.{ConstDecl}
use Rattle.mesh_decl.specs.Printed.{conversions}
use Rattle.mesh_decl.specs.Spelling.{Named}
use Rattle.bound_program.specs.declared.refusals.refusals.BindRefusal.TheVariants as refusal
use Rattle.main_declarations.specs.declared.names.walks.Spot.{Spot}
use Rattle.main_declarations.specs.declared.names.scopes.Meaning.{Meaning}
use Rattle.main_declarations.specs.declared.names.scopes.Meaning.TheVariants as m
use Rattle.bound_program.specs.Values.{Line, Print}
use Rattle.main_declarations.specs.Names.{Scope, means, declare, told_later, closed}
use Rattle.bound_program.specs.Steps.{Asked, Do, Loop, Fix, Block, Choose, Repeat, NoStep}
use Rattle.main_declarations.specs.Expressions.{resolved, judged_static, judged_value}
use Rattle.bound_program.specs.Refusals.{Judged, ◌>>=◌, found_if, unless_found}
use Rattle.bound_program.specs.declared.refusals.founds.Found.{Found}
use Rattle.mesh_decl.specs.Mesh.{set_count, map_count, dat_count}
use Rattle.main_declarations.specs.SoFar.{Declared, Walked, does, behind, next_cells, changing, unchanging}
use Rattle.main_declarations.specs.Meanings.{count_of, dat_of, or_zero}
use Rattle.main_declarations.specs.Declarations.{set_decl_found, map_decl_found, dat_decl_found, judged_set, judged_map, judged_dat}
use Rattle.main_declarations.specs.Variables.{with_fixed, with_fixed_later, with_turning, const_at, with_changing, judged_declr, judged_declrs, judged_constant}
use Rattle.loop_bind.specs.Arguments.{after_globals, loop_found, site, judged_loop}
use Rattle.loop_bind.specs.Text.{nested, turning, line_found, declares, judged_call, opened, followed_by, ended, with_counter, judged_bounds, judged_host, judged_hosts}
use Rattle.loop_bind.specs.FileVariables.{FileVariable, NamesApart, call_names, constant_names, all_constant_names}
use Rattle.main_declarations.proofs.Public.{Gives, gives_then, gives_unless, gives_any}
use Rattle.loop_bind.proofs.FitsState.{known-fits}
use Rattle.loop_bind.proofs.FitsFileConsts.{EntryNamed}
use Rattle.loop_bind.proofs.FitsTags.{Tagged}
use Rattle.loop_bind.proofs.FitsMainConsts.{OfMain, EntryOfMain, MainConsts, name_goes, both_go, globals_go, constant_goes}

module _ (cs : List ConstDecl) (fs : List FileVariable) (apart : NamesApart fs) (places : List Pos) (es : List Named) where
  -- the constants behind a statement
  abbrev pub Have : List (List ℕ) → Walked → Type 0
  Have done b = MainConsts cs fs apart done b.declared

  -- what is declared, with other sites, mesh and kernels
  other : (done : List (List ℕ)) (k l : Declared) → l.vars ≡ k.vars → l.names.file ≡ k.names.file → All EntryOfMain l.names.own → MainConsts cs fs apart done k → MainConsts cs fs apart done l
  other done k l v f o h = record { tagged = subst (λ vs. Tagged cs done fs vs) (sym v) h.tagged; file = subst (All (EntryNamed cs fs)) (sym f) h.file; own = o }

  -- ---- declarators

  changing_goes : (done : List (List ℕ)) (k : Declared) (x : List ℕ) (is_array : Bool) (n : ℕ) → MainConsts cs fs apart done k → MainConsts cs fs apart done (with_changing places k x is_array n)
  changing_goes done k x is_array n h = both_go cs fs apart done k x (m.Variable (next_cells k false is_array n)) (changing x (replicate n (pos 0))) h refl refl

  const_goes : (done : List (List ℕ)) (in_for is_nested : Bool) (a : Walked) (x : List ℕ) (e : ExprTree) → Have done a → Gives (Have done) (const_at places in_for is_nested a x e)
  const_goes done true is_nested a x e h =
      gives_then (λ (v : Asked). Unit {0}) (Have done) (judged_static places a.declared.names e)
      (λ v. Ok (does (Fix v None) (behind a (with_turning places a.declared x)))) (gives_any (judged_static places a.declared.names e))
      (λ v u. name_goes cs fs apart done a.declared x (m.Turning (told_later a.declared.names)) h tt)
  const_goes done false true a x e h =
      gives_then (λ (v : Asked). Unit {0}) (Have done) (judged_static places a.declared.names e)
      (λ v. Ok (does (Fix v (Some (length a.declared.vars))) (behind a (with_fixed_later places a.declared x))))
      (gives_any (judged_static places a.declared.names e))
      (λ v u. both_go cs fs apart done a.declared x (m.FixedLater (told_later a.declared.names) (next_cells a.declared false false 1)) (unchanging x (pos 0) None) h refl tt)
  const_goes done false false a x e h =
      gives_then (λ (z : ℤ). Unit {0}) (Have done) (judged_value places a.declared.names e) (λ z. Ok (behind a (with_fixed places a.declared x z))) (gives_any (judged_value places a.declared.names e))
      (λ z u. both_go cs fs apart done a.declared x (m.Fixed z (next_cells a.declared false false 1)) (unchanging x z None) h refl refl)

  declr_goes : (done : List (List ℕ)) (a : Walked) (w : Spot) (c : Bool) (d : DeclrTree) → Have done a → Gives (Have done) (judged_declr places a w c d)
  declr_goes done a w true (tree.Init x e) h = const_goes done w.in_for w.is_nested a x.name e h
  declr_goes done a w false (tree.Init x e) h = changing_goes done a.declared x.name false 1 h
  declr_goes done a w true (tree.Plain x) h = changing_goes done a.declared x.name false 1 h
  declr_goes done a w false (tree.Plain x) h = changing_goes done a.declared x.name false 1 h
  declr_goes done a w true (tree.Array x n) h = changing_goes done a.declared x.name true (count_of n) h
  declr_goes done a w false (tree.Array x n) h = changing_goes done a.declared x.name true (count_of n) h

  declrs_go : (done : List (List ℕ)) (a : Walked) (w : Spot) (c : Bool) (ds : List DeclrTree) → Have done a → Gives (Have done) (judged_declrs places a w c ds)
  declrs_go done a w c [] h = h
  declrs_go done a w c (d ∷ ds) h = gives_then (Have done) (Have done) (judged_declr places a w c d) (λ b. judged_declrs places b w c ds) (declr_goes done a w c d h) (λ b i. declrs_go done b w c ds i)

  -- ---- calls

  declares_go : (done : List (List ℕ)) (a : Walked) (r : Judged Declared) → Gives (MainConsts cs fs apart done) r → Gives (Have done) (declares places cs es a r)
  declares_go done a r g = gives_then (MainConsts cs fs apart done) (Have done) r (λ k. Ok (behind a k)) g (λ k i. i)

  -- a further set, map or dat
  thing_goes : (done : List (List ℕ)) (k l : Declared) (x : List ℕ) (o : Meaning) → OfMain o → l.vars ≡ k.vars
      → l.names ≡ declare x o k.names → MainConsts cs fs apart done k → MainConsts cs fs apart done l
  thing_goes done k l x o f v n h =
      other done k l v (ap (λ (s : Scope). s.file) n) (subst (λ (s : Scope). All EntryOfMain s.own) (sym n) (known-fits EntryOfMain x o k.names.own f h.own)) h

  set_goes : (done : List (List ℕ)) (k : Declared) (n : Bool) (t : ℕ) (x : Ident) (e : ExprTree) → MainConsts cs fs apart done k → Gives (MainConsts cs fs apart done) (judged_set places k n t x e)
  set_goes done k n t x e h = gives_unless (MainConsts cs fs apart done) (set_decl_found places k n t e) _ (λ none. thing_goes done k _ x.name (m.Set (set_count k.mesh)) tt refl refl h)

  map_goes : (done : List (List ℕ)) (k : Declared) (n : Bool) (t : ℕ) (x from to : Ident) (d : NumberLiteral) (v : Ident)
      → MainConsts cs fs apart done k → Gives (MainConsts cs fs apart done) (judged_map places es k n t x from to d v)
  map_goes done k n t x from to d v h = gives_unless (MainConsts cs fs apart done) (map_decl_found places es k n t from to d v) _
      (λ none. thing_goes done k _ x.name (m.Map (map_count k.mesh)) tt refl refl h)

  dat_goes : (done : List (List ℕ)) (k : Declared) (n : Bool) (t : ℕ) (x on : Ident) (d : NumberLiteral) (l : TextLiteral) (v : Ident)
      → MainConsts cs fs apart done k → Gives (MainConsts cs fs apart done) (judged_dat places es k n t x on d l v)
  dat_goes done k n t x on d l v h = gives_unless (MainConsts cs fs apart done) (dat_decl_found places es k n t on d l v) _
      (λ none. thing_goes done k _ x.name (m.Dat (dat_count k.mesh)) tt refl refl h)

  loop_goes : (done : List (List ℕ)) (k : Declared) (t : ℕ) (f on : Ident) (args : List LoopArg) → MainConsts cs fs apart done k
      → Gives (MainConsts cs fs apart done) (judged_loop places es k t f on args)
  loop_goes done k t f on args h =
      let j = after_globals es args k in
      let i = globals_go cs fs apart es done k args h in
      gives_unless (MainConsts cs fs apart done) (loop_found places es j t f on args)
      (record j { sites = j.sites ++ site places es j t f on args ∷ [] })
      (λ none. record { tagged = i.tagged; file = i.file; own = i.own })

  unless_goes : (done : List (List ℕ)) (all : List Found) (b : Walked) → Have done b → Gives (Have done) (unless_found all b)
  unless_goes done all b h = gives_unless (Have done) all b (λ none. h)

  none_more : (done : List (List ℕ)) (r : Judged Walked) → Gives (Have done) r → Gives (Have (done ++ [])) r
  none_more done r h = subst (λ d. Gives (Have d) r) (sym (append-nil done)) h

  call_goes : (done : List (List ℕ)) (a : Walked) (w : Spot) (c : OpCallTree) → Have done a → Gives (Have (done ++ call_names c)) (judged_call places cs es a w c)
  call_goes done a w (tree.CallInit at n) h = none_more done (Ok a) h
  call_goes done a w (tree.DeclSet at x e l) h = none_more done (declares places cs es a (judged_set places a.declared w.is_nested at x e))
      (declares_go done a (judged_set places a.declared w.is_nested at x e) (set_goes done a.declared w.is_nested at x e h))
  call_goes done a w (tree.DeclMap at x from to n v l) h =
      none_more done (declares places cs es a (judged_map places es a.declared w.is_nested at x from to n v))
      (declares_go done a (judged_map places es a.declared w.is_nested at x from to n v)
      (map_goes done a.declared w.is_nested at x from to n v h))
  call_goes done a w (tree.DeclDat at x on n u v l) h =
      none_more done (declares places cs es a (judged_dat places es a.declared w.is_nested at x on n u v))
      (declares_go done a (judged_dat places es a.declared w.is_nested at x on n u v)
      (dat_goes done a.declared w.is_nested at x on n u v h))
  call_goes done a w (tree.DeclConst at n u g) h = declares_go (done ++ g.name.name ∷ []) a
      (judged_constant places cs a.declared w.is_nested at n u g) (constant_goes cs fs apart places done a.declared w.is_nested at n u g h)
  call_goes done a w (tree.ParLoop at f l on args) h =
      none_more done (judged_call places cs es a w (tree.ParLoop at f l on args))
      (gives_then (MainConsts cs fs apart done) (Have done) (judged_loop places es a.declared at f on args)
      (λ k. Ok (does (Loop (length a.declared.sites)) (behind a k))) (loop_goes done a.declared at f on args h) (λ k i. i))
  call_goes done a w (tree.Printf at l xs) h =
      none_more done (judged_call places cs es a w (tree.Printf at l xs))
      (unless_goes done (line_found places cs es at l (length xs) (conversions l.text)) (does (Do (Line l.text (map (resolved places a.declared.names) xs))) a) h)
  call_goes done a w (tree.PrintDat at x l) h =
      none_more done (judged_call places cs es a w (tree.PrintDat at x l))
      (unless_goes done (found_if places (is_none (dat_of (means a.declared.names x.name))) x.at refusal.UnknownDat) (does (Do (Print (or_zero (dat_of (means a.declared.names x.name))) l.text)) a) h)

  -- ---- statements

  closed_goes : (done : List (List ℕ)) (j k : Declared) → MainConsts cs fs apart done k → MainConsts cs fs apart done (record k { names = closed j.names k.names })
  closed_goes done j k h = record { tagged = h.tagged; file = h.file; own = All-take EntryOfMain (length j.names.own) k.names.own h.own }

  pub counter_goes : (done : List (List ℕ)) (a : Walked) (x : Ident) → Have done a → Have done (with_counter places cs es a x)
  counter_goes done a x h = name_goes cs fs apart done a.declared x.name (m.Turning (told_later a.declared.names)) h tt

  moved : (r : Judged Walked) (d e : List (List ℕ)) → d ≡ e → Gives (Have d) r → Gives (Have e) r
  moved r d e p h = subst (λ l. Gives (Have l) r) p h

  mutual
    pub host_goes : (done : List (List ℕ)) (a : Walked) (w : Spot) (x : HostTree) → Have done a → Gives (Have (done ++ constant_names x)) (judged_host places cs es a w x)
    host_goes done a w (tree.HostDeclaration v) h = none_more done (judged_declrs places a w v.is_const v.declrs) (declrs_go done a w v.is_const v.declrs h)
    host_goes done a w (tree.HostBlock at hs) h =
        gives_then (Have (done ++ all_constant_names hs)) (Have (done ++ all_constant_names hs))
        (judged_hosts places cs es (opened places cs es a) (nested w) hs) (λ b. Ok (ended places cs es a (Block b.steps) b))
        (hosts_go done (opened places cs es a) (nested w) hs h)
        (λ b i. closed_goes (done ++ all_constant_names hs) a.declared b.declared i)
    host_goes done a w (tree.HostEmpty at) h = none_more done (Ok a) h
    host_goes done a w (tree.HostAssign e) h = none_more done (judged_host places cs es a w (tree.HostAssign e)) h
    host_goes done a w (tree.HostIf at e x) h =
        gives_then (λ (c : Asked). Unit {0}) (Have (done ++ constant_names x)) (judged_static places a.declared.names e)
        (λ c. judged_host places cs es (opened places cs es a) (nested w) x >>= λ b. Ok
        (followed_by places cs es a (Choose c (Block b.steps) (Block NoStep)) b)) (gives_any (judged_static places a.declared.names e))
        (λ c u. gives_then (Have (done ++ constant_names x)) (Have (done ++ constant_names x))
        (judged_host places cs es (opened places cs es a) (nested w) x)
        (λ b. Ok (followed_by places cs es a (Choose c (Block b.steps) (Block NoStep)) b))
        (host_goes done (opened places cs es a) (nested w) x h) (λ b i. i))
    host_goes done a w (tree.HostIfElse at e x y) h =
        let d1 = done ++ constant_names x in
        gives_then (λ (c : Asked). Unit {0}) (Have (done ++ (constant_names x ++ constant_names y))) (judged_static places a.declared.names e)
        (λ c. judged_host places cs es (opened places cs es a) (nested w) x >>= λ b. judged_host places cs es (opened places cs es b)
        (nested w) y >>= λ d. Ok (followed_by places cs es a (Choose c (Block b.steps) (Block d.steps)) d))
        (gives_any (judged_static places a.declared.names e))
        (λ c u. gives_then (Have d1) (Have (done ++ (constant_names x ++ constant_names y))) (judged_host places cs es (opened places cs es a) (nested w) x)
        (λ b. judged_host places cs es (opened places cs es b) (nested w) y >>= λ d. Ok (followed_by places cs es a (Choose c (Block b.steps) (Block d.steps)) d))
        (host_goes done (opened places cs es a) (nested w) x h)
        (λ b i. gives_then (Have (done ++ (constant_names x ++ constant_names y))) (Have (done ++ (constant_names x ++ constant_names y)))
        (judged_host places cs es (opened places cs es b) (nested w) y)
        (λ d. Ok (followed_by places cs es a (Choose c (Block b.steps) (Block d.steps)) d))
        (moved (judged_host places cs es (opened places cs es b) (nested w) y) (d1 ++ constant_names y)
        (done ++ (constant_names x ++ constant_names y)) (append_assoc done (constant_names x) (constant_names y))
        (host_goes d1 (opened places cs es b) (nested w) y i))
        (λ d j. j)))
    host_goes done a w (tree.HostFor f x) h =
        gives_then (λ (r : Asked × Asked). Unit {0}) (Have (done ++ constant_names x)) (judged_bounds places cs es a f)
        (λ r. judged_host places cs es (with_counter places cs es a f.name) turning x >>= λ b. Ok
        (ended places cs es a (Repeat r.0 r.1 (Block b.steps)) b)) (gives_any (judged_bounds places cs es a f))
        (λ r u. gives_then (Have (done ++ constant_names x)) (Have (done ++ constant_names x))
        (judged_host places cs es (with_counter places cs es a f.name) turning x)
        (λ b. Ok (ended places cs es a (Repeat r.0 r.1 (Block b.steps)) b))
        (host_goes done (with_counter places cs es a f.name) turning x (counter_goes done a f.name h))
        (λ b i. closed_goes (done ++ constant_names x) a.declared b.declared i))
    host_goes done a w (tree.HostCall c) h = call_goes done a w c h

    pub hosts_go : (done : List (List ℕ)) (a : Walked) (w : Spot) (xs : HostTrees) → Have done a → Gives (Have (done ++ all_constant_names xs)) (judged_hosts places cs es a w xs)
    hosts_go done a w tree.NoHost h = none_more done (Ok a) h
    hosts_go done a w (tree.MoreHost x xs) h =
        gives_then (Have (done ++ constant_names x)) (Have (done ++ (constant_names x ++ all_constant_names xs)))
        (judged_host places cs es a w x) (λ b. judged_hosts places cs es b w xs) (host_goes done a w x h)
        (λ b i. moved (judged_hosts places cs es b w xs) ((done ++ constant_names x) ++ all_constant_names xs)
        (done ++ (constant_names x ++ all_constant_names xs)) (append_assoc done (constant_names x) (all_constant_names xs))
        (hosts_go (done ++ constant_names x) b w xs i))
