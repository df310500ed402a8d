-- The names of sets stand for sets of the mesh, behind each statement of `main`.
use Rattle.std.proofs.Common.{◌≡◌, ℕ, ℤ, List, [], ◌∷◌, ◌++◌, length, map, Bool, true, false, Ok, Err, sym, subst, arith}
use Rattle.std.specs.Prelude.{Result, OnOk, Option, Some, None, is_none, is_some, bytes_eq, if◌then◌else◌}
use Rattle.std.specs.Map.{lookup}
use Rattle.std.proofs.lemmas.List.{length_push}
use Rattle.c_tree.specs.declared.lexer.tokens.Pos.{Pos}
use Rattle.c_tree.specs.declared.expressions.Ident.{Ident}
use Rattle.c_tree.specs.declared.hosts.LoopArg.{LoopArg}
use Rattle.c_tree.specs.declared.hosts.LoopArg.TheVariants as arg
use Rattle.c_tree.specs.Tree as tree
use Rattle.c_tree.specs.Tree.{ExprTree, DeclrTree, OpCallTree, HostTree, HostTrees}
use Rattle.kernel_model.specs.declared.types.kernels.ConstDecl.{ConstDecl}
use Rattle.mesh_decl.specs.declared.decl.SetDecl.{SetDecl}
use Rattle.mesh_decl.specs.Mesh.{set_count, map_count, dat_count}
use Rattle.mesh_decl.specs.Printed.{conversions}
use Rattle.mesh_decl.specs.Spelling.{Named}
use Rattle.bound_program.specs.declared.refusals.refusals.BindRefusal.TheVariants as refusal
use Rattle.bound_program.specs.Refusals.{Judged, Judges, ◌>>=◌, found_if}
use Rattle.bound_program.specs.HostExpr.{value}
use Rattle.bound_program.specs.Values.{Line, Print}
use Rattle.main_declarations.specs.declared.names.walks.Spot.{Spot}
use Rattle.main_declarations.specs.declared.names.scopes.Cells.{Cells}
use Rattle.main_declarations.specs.declared.names.scopes.Meaning.{Meaning}
use Rattle.main_declarations.specs.declared.names.scopes.Meaning.TheVariants as m
use Rattle.main_declarations.specs.Names.{means, told_later}
use Rattle.main_declarations.specs.Expressions.{resolved, judged_static, judged_value}
use Rattle.main_declarations.specs.Meanings.{dat_of, or_zero, count_of, values_named}
use Rattle.main_declarations.specs.SoFar.{Declared, Walked, does, behind, next_cells, with_var}
use Rattle.main_declarations.specs.Walks.{declared_of, walked}
use Rattle.main_declarations.specs.declared.names.declared.Declared.{Declared as DeclaredCode}
use Rattle.bound_program.specs.declared.trace.steps.Step.{Step as StepCode}
use Rattle.bound_program.specs.Steps.{Asked, Do, Fix, Loop, Block, Choose, Repeat, NoStep}
use Rattle.main_declarations.specs.Declarations.{size_of, set_decl_found, map_decl_found, dat_decl_found, judged_set, judged_map, judged_dat}
use Rattle.main_declarations.specs.KnownSets.{SetsKnown}
use Rattle.main_declarations.specs.Variables.{with_fixed, with_fixed_later, with_turning, const_at, judged_declr, judged_declrs, file_cells, after_constant, constant_decl_found, judged_constant}
use Rattle.main_declarations.proofs.Public.{Gives, gives_then, gives_unless, gives_any, named, other, ended_scope}
use Rattle.loop_bind.specs.Arguments.{extern_var, with_extern, after_global, after_globals, loop_found, site, judged_loop}
use Rattle.loop_bind.specs.Text.{nested, turning, line_found, declares, judged_call, opened, followed_by, ended, with_counter, judged_bounds, judged_host, judged_hosts}

abbrev Keeps : Judged Walked → Type 0
Keeps r = Gives (λ (b : Walked). SetsKnown b.declared) r

module _ (places : List Pos) (consts : List ConstDecl) (entries : List Named) where
  -- ---- declarations

  set_kept : (k : Declared) (b : Bool) (t : ℕ) (x : Ident) (e : ExprTree) → SetsKnown k → Gives SetsKnown (judged_set places k b t x e)
  set_kept k b t x e h =
      gives_unless SetsKnown (set_decl_found places k b t e) _
      (λ none.
      let d : SetDecl = record { name = x.name; size = size_of places (value [] [] (resolved places k.names e)) } in
      let longer = length_push k.mesh.sets d in
      named (length k.mesh.sets) (length (k.mesh.sets ++ d ∷ [])) (omega (arith, longer)) k.names x.name (m.Set (set_count k.mesh)) (omega (arith, longer)) h)

  constant_kept : (k : Declared) (x : List ℕ) (o : Option Cells) → SetsKnown k → SetsKnown (after_constant places consts k x o)
  constant_kept k x None h = h
  constant_kept k x (Some c) h = h

  declr_kept : (a : Walked) (w : Spot) (c : Bool) (d : DeclrTree) → SetsKnown a.declared → Keeps (judged_declr places a w c d)
  declr_kept a w true (tree.Init x e) h = const_kept w.in_for w.is_nested
    where
      const_kept : (f n : Bool) → Keeps (const_at places f n a x.name e)
      const_kept true n =
          gives_then (λ (v : Asked). Unit {0}) (λ (b : Walked). SetsKnown b.declared) (judged_static places a.declared.names e)
          (λ v. Ok (does (Fix v None) (behind a (with_turning places a.declared x.name)))) (gives_any (judged_static places a.declared.names e))
          (λ v i. other a.declared x.name (m.Turning (told_later a.declared.names)) tt h)
      const_kept false true =
          gives_then (λ (v : Asked). Unit {0}) (λ (b : Walked). SetsKnown b.declared) (judged_static places a.declared.names e)
          (λ v. Ok (does (Fix v (Some (length a.declared.vars))) (behind a (with_fixed_later places a.declared x.name)))) (gives_any (judged_static places a.declared.names e))
          (λ v i. other a.declared x.name (m.FixedLater (told_later a.declared.names) (next_cells a.declared false false 1)) tt h)
      const_kept false false =
          gives_then (λ z. Unit {0}) (λ (b : Walked). SetsKnown b.declared) (judged_value places a.declared.names e)
          (λ z. Ok (behind a (with_fixed places a.declared x.name z))) (gives_any (judged_value places a.declared.names e))
          (λ z i. other a.declared x.name (m.Fixed z (next_cells a.declared false false 1)) tt h)
  declr_kept a w false (tree.Init x e) h = other a.declared x.name (m.Variable (next_cells a.declared false false 1)) tt h
  declr_kept a w c (tree.Plain x) h = other a.declared x.name (m.Variable (next_cells a.declared false false 1)) tt h
  declr_kept a w c (tree.Array x n) h = other a.declared x.name (m.Variable (next_cells a.declared false true (count_of n))) tt h

  declrs_kept : (a : Walked) (w : Spot) (c : Bool) (ds : List DeclrTree) → SetsKnown a.declared → Keeps (judged_declrs places a w c ds)
  declrs_kept a w c [] h = h
  declrs_kept a w c (d ∷ ds) h =
      gives_then (λ (b : Walked). SetsKnown b.declared) (λ (b : Walked). SetsKnown b.declared) (judged_declr places a w c d) (λ b. judged_declrs places b w c ds)
      (declr_kept a w c d h) (λ b i. declrs_kept b w c ds i)

  -- ---- loops

  extern_kept : (k : Declared) (x : List ℕ) (zs : List ℤ) → SetsKnown k → SetsKnown (with_extern x zs k)
  extern_kept k x zs h = pick (is_some (lookup (bytes_eq x) k.externs))
    where
      pick : (b : Bool) → SetsKnown (if b then k else (record (with_var (extern_var x zs) k) { externs = k.externs ++ (x, length k.vars) ∷ [] }))
      pick true = h
      pick false = h

  -- by what the name of a global means
  abbrev step : List ℕ → Declared → Option Meaning → Declared
  step x k (Some (m.Extern z)) = with_extern x (z ∷ []) k
  step x k (Some m.ExternArray) = with_extern x (values_named entries x) k
  step x k _ = k

  step_kept : (x : List ℕ) (k : Declared) (o : Option Meaning) → SetsKnown k → SetsKnown (step x k o)
  step_kept x k None h = h
  step_kept x k (Some (m.Extern z)) h = extern_kept k x (z ∷ []) h
  step_kept x k (Some m.ExternArray) h = extern_kept k x (values_named entries x) h
  step_kept x k (Some (m.Kernel number params)) h = h
  step_kept x k (Some (m.Set s)) h = h
  step_kept x k (Some (m.Map n)) h = h
  step_kept x k (Some (m.Dat d)) h = h
  step_kept x k (Some (m.Variable c)) h = h
  step_kept x k (Some (m.Fixed z c)) h = h
  step_kept x k (Some (m.FixedLater t c)) h = h
  step_kept x k (Some (m.Turning t)) h = h

  global_kept : (k : Declared) (a : LoopArg) → SetsKnown k → SetsKnown (after_global entries a k)
  global_kept k (arg.Dat at x i v n l a a_at) h = h
  global_kept k (arg.Global at g n l a a_at) h = step_kept g.name.name k (means k.names g.name.name) h

  globals_kept : (k : Declared) (all : List LoopArg) → SetsKnown k → SetsKnown (after_globals entries all k)
  globals_kept k [] h = h
  globals_kept k (a ∷ all) h = globals_kept (after_global entries a k) all (global_kept k a h)

  loop_kept : (k : Declared) (t : ℕ) (f on : Ident) (all : List LoopArg) → SetsKnown k → Gives SetsKnown (judged_loop places entries k t f on all)
  loop_kept k t f on all h =
      let j = after_globals entries all k in
      gives_unless SetsKnown (loop_found places entries j t f on all) (record j { sites = j.sites ++ site places entries j t f on all ∷ [] }) (λ none. globals_kept k all h)

  -- ---- calls

  declares_kept : (a : Walked) (r : Judged Declared) → Gives SetsKnown r → Keeps (declares places consts entries a r)
  declares_kept a r g = gives_then SetsKnown (λ (b : Walked). SetsKnown b.declared) r (λ k. Ok (behind a k)) g (λ k i. i)

  call_kept : (a : Walked) (w : Spot) (c : OpCallTree) → SetsKnown a.declared → Keeps (judged_call places consts entries a w c)
  call_kept a w (tree.CallInit at n) h = h
  call_kept a w (tree.DeclSet at x e l) h =
      declares_kept a (judged_set places a.declared w.is_nested at x e) (set_kept a.declared w.is_nested at x e h)
  call_kept a w (tree.DeclMap at x from to n v l) h =
      declares_kept a (judged_map places entries a.declared w.is_nested at x from to n v)
      (gives_unless SetsKnown (map_decl_found places entries a.declared w.is_nested at from to n v) _
      (λ none. other a.declared x.name (m.Map (map_count a.declared.mesh)) tt h))
  call_kept a w (tree.DeclDat at x on n u v l) h =
      declares_kept a (judged_dat places entries a.declared w.is_nested at x on n u v)
      (gives_unless SetsKnown (dat_decl_found places entries a.declared w.is_nested at on n u v) _
      (λ none. other a.declared x.name (m.Dat (dat_count a.declared.mesh)) tt h))
  call_kept a w (tree.DeclConst at n u g) h =
      declares_kept a (judged_constant places consts a.declared w.is_nested at n u g)
      (gives_unless SetsKnown (constant_decl_found places a.declared w.is_nested at n u g)
      (after_constant places consts a.declared g.name.name (file_cells places (means a.declared.names g.name.name)))
      (λ none. constant_kept a.declared g.name.name (file_cells places (means a.declared.names g.name.name)) h))
  call_kept a w (tree.ParLoop at f l on args) h =
      gives_then SetsKnown (λ (b : Walked). SetsKnown b.declared) (judged_loop places entries a.declared at f on args)
      (λ k. Ok (does (Loop (length a.declared.sites)) (behind a k))) (loop_kept a.declared at f on args h) (λ k i. i)
  call_kept a w (tree.Printf at l xs) h =
      gives_unless (λ (b : Walked). SetsKnown b.declared) (line_found places consts entries at l (length xs) (conversions l.text))
      (does (Do (Line l.text (map (resolved places a.declared.names) xs))) a) (λ none. h)
  call_kept a w (tree.PrintDat at x l) h =
      gives_unless (λ (b : Walked). SetsKnown b.declared)
      (found_if places (is_none (dat_of (means a.declared.names x.name))) x.at refusal.UnknownDat)
      (does (Do (Print (or_zero (dat_of (means a.declared.names x.name))) l.text)) a) (λ none. h)

  -- ---- statements

  mutual
    host_kept : (a : Walked) (w : Spot) (x : HostTree) → SetsKnown a.declared → Keeps (judged_host places consts entries a w x)
    host_kept a w (tree.HostDeclaration v) h = declrs_kept a w v.is_const v.declrs h
    host_kept a w (tree.HostBlock at hs) h =
        gives_then (λ (b : Walked). SetsKnown b.declared) (λ (b : Walked). SetsKnown b.declared)
        (judged_hosts places consts entries (opened places consts entries a) (nested w) hs)
        (λ b. Ok (ended places consts entries a (Block b.steps) b)) (hosts_kept (opened places consts entries a) (nested w) hs h)
        (λ b i. ended_scope (set_count b.declared.mesh) a.declared.names b.declared.names i)
    host_kept a w (tree.HostEmpty at) h = h
    host_kept a w (tree.HostAssign e) h = h
    host_kept a w (tree.HostIf at e x) h =
        gives_then (λ (c : Asked). Unit {0}) (λ (b : Walked). SetsKnown b.declared) (judged_static places a.declared.names e)
        (λ c. judged_host places consts entries (opened places consts entries a) (nested w) x
        >>= λ b. Ok (followed_by places consts entries a (Choose c (Block b.steps) (Block NoStep)) b))
        (gives_any (judged_static places a.declared.names e))
        (λ c i. gives_then (λ (b : Walked). SetsKnown b.declared) (λ (b : Walked). SetsKnown b.declared)
        (judged_host places consts entries (opened places consts entries a) (nested w) x)
        (λ b. Ok (followed_by places consts entries a (Choose c (Block b.steps) (Block NoStep)) b))
        (host_kept (opened places consts entries a) (nested w) x h) (λ b j. j))
    host_kept a w (tree.HostIfElse at e x y) h =
        gives_then (λ (c : Asked). Unit {0}) (λ (b : Walked). SetsKnown b.declared) (judged_static places a.declared.names e)
        (λ c. judged_host places consts entries (opened places consts entries a) (nested w) x
        >>= λ b. judged_host places consts entries (opened places consts entries b) (nested w) y
        >>= λ d. Ok (followed_by places consts entries a (Choose c (Block b.steps) (Block d.steps)) d))
        (gives_any (judged_static places a.declared.names e))
        (λ c i. gives_then (λ (b : Walked). SetsKnown b.declared) (λ (b : Walked). SetsKnown b.declared)
        (judged_host places consts entries (opened places consts entries a) (nested w) x)
        (λ b. judged_host places consts entries (opened places consts entries b) (nested w) y
        >>= λ d. Ok (followed_by places consts entries a (Choose c (Block b.steps) (Block d.steps)) d))
        (host_kept (opened places consts entries a) (nested w) x h)
        (λ b j. gives_then (λ (d : Walked). SetsKnown d.declared) (λ (d : Walked). SetsKnown d.declared)
        (judged_host places consts entries (opened places consts entries b) (nested w) y)
        (λ d. Ok (followed_by places consts entries a (Choose c (Block b.steps) (Block d.steps)) d))
        (host_kept (opened places consts entries b) (nested w) y j) (λ d l. l)))
    host_kept a w (tree.HostFor f x) h =
        gives_then (λ (r : Asked × Asked). Unit {0}) (λ (b : Walked). SetsKnown b.declared) (judged_bounds places consts entries a f)
        (λ r. judged_host places consts entries (with_counter places consts entries a f.name) turning x
        >>= λ b. Ok (ended places consts entries a (Repeat r.0 r.1 (Block b.steps)) b))
        (gives_any (judged_bounds places consts entries a f))
        (λ r i. gives_then (λ (b : Walked). SetsKnown b.declared) (λ (b : Walked). SetsKnown b.declared)
        (judged_host places consts entries (with_counter places consts entries a f.name) turning x)
        (λ b. Ok (ended places consts entries a (Repeat r.0 r.1 (Block b.steps)) b))
        (host_kept (with_counter places consts entries a f.name) turning x (other a.declared f.name.name (m.Turning (told_later a.declared.names)) tt h))
        (λ b j. ended_scope (set_count b.declared.mesh) a.declared.names b.declared.names j))
    host_kept a w (tree.HostCall c) h = call_kept a w c h

    hosts_kept : (a : Walked) (w : Spot) (xs : HostTrees) → SetsKnown a.declared → Keeps (judged_hosts places consts entries a w xs)
    hosts_kept a w tree.NoHost h = h
    hosts_kept a w (tree.MoreHost x xs) h =
        gives_then (λ (b : Walked). SetsKnown b.declared) (λ (b : Walked). SetsKnown b.declared) (judged_host places consts entries a w x)
        (λ b. judged_hosts places consts entries b w xs) (host_kept a w x h) (λ b j. hosts_kept b w xs j)

-- behind a statement
pub host_known : (places : List Pos) (consts : List ConstDecl) (entries : List Named) (a : Walked) (w : Spot) (x : HostTree) (k : DeclaredCode) (steps : List StepCode)
    → judged_host places consts entries a w x ≡ Ok (walked k steps)
    → SetsKnown a.declared
    → SetsKnown (declared_of k)
host_known places consts entries a w x k steps e h = subst Keeps e (host_kept places consts entries a w x h)

-- behind the counter of a `for`
pub counter_known : (places : List Pos) (k l : DeclaredCode) (x : List ℕ)
    → declared_of l ≡ with_turning places (declared_of k) x
    → SetsKnown (declared_of k)
    → SetsKnown (declared_of l)
counter_known places k l x e h =
    subst SetsKnown (sym e) (other (declared_of k) x (m.Turning (told_later (declared_of k).names)) tt h)

pub judged_known : (places : List Pos) (consts : List ConstDecl) (entries : List Named) (a : Walked) (w : Spot) (x : HostTree) (k : DeclaredCode) (steps : List StepCode)
    (r : Judged (Unit {0}))
    → Judges r (walked k steps) (judged_host places consts entries a w x)
    → SetsKnown a.declared
    → OnOk r (SetsKnown (declared_of k))
judged_known places consts entries a w x k steps (Ok u) e h = host_known places consts entries a w x k steps e h
judged_known places consts entries a w x k steps (Err r) e h = tt

-- what follows where all went well
pub on_ok : {A E : Type 0} {P Q R : Type 0} (r : Result A E) → (P → Q → R) → OnOk r P → Q → OnOk r R
on_ok (Ok x) f p q = f p q
on_ok (Err e) f p q = tt
