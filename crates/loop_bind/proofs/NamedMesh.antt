-- The sets, maps and dats of a bound program have C names.
use Rattle.std.proofs.Common.{ℕ, ℤ, List, [], ◌∷◌, ◌++◌, length, map, Ok, true, false, subst}
use Rattle.std.specs.Prelude.{Option, Some, None, is_none, is_some, bytes_eq, if◌then◌else◌, Bool}
use Rattle.std.specs.Map.{lookup}
use Rattle.std.proofs.lemmas.List.Elements.{All-nil, All-push}
use Rattle.c_tree.specs.declared.lexer.tokens.Pos.{Pos}
use Rattle.c_tree.specs.Spelling.{IsName}
use Rattle.c_tree.specs.declared.expressions.Ident.{Ident}
use Rattle.c_tree.specs.declared.hosts.LoopArg.{LoopArg}
use Rattle.c_tree.specs.declared.hosts.LoopArg.TheVariants as arg
use Rattle.c_tree.specs.Tree as tree
use Rattle.c_tree.specs.Tree.{ExprTree, DeclrTree, TopTree, OpCallTree, HostTree, HostTrees, ProgramTree}
use Rattle.kernel_model.specs.declared.types.kernels.ConstDecl.{ConstDecl}
use Rattle.kernel_model.specs.declared.types.kernels.Resolved.{Resolved}
use Rattle.mesh_decl.specs.declared.decl.SetDecl.{SetDecl}
use Rattle.mesh_decl.specs.declared.decl.MapDecl.{MapDecl}
use Rattle.mesh_decl.specs.declared.decl.DatDecl.{DatDecl}
use Rattle.mesh_decl.specs.Mesh.{MeshValue, no_mesh}
use Rattle.mesh_decl.specs.Printed.{conversions}
use Rattle.mesh_decl.specs.declared.text.entry.Entry.{Entry}
use Rattle.mesh_decl.specs.declared.text.entry.Entry.TheVariants.{One, Many}
use Rattle.mesh_decl.specs.Spelling.{Named}
use Rattle.bound_program.specs.declared.refusals.refusals.BindRefusal.TheVariants as refusal
use Rattle.bound_program.specs.Refusals.{Judged, ◌>>=◌, found_if}
use Rattle.main_declarations.specs.declared.names.walks.Spot.{Spot}
use Rattle.main_declarations.specs.declared.names.scopes.Cells.{Cells}
use Rattle.main_declarations.specs.declared.names.scopes.Meaning.{Meaning}
use Rattle.main_declarations.specs.declared.names.scopes.Meaning.TheVariants as m
use Rattle.bound_program.specs.Values.{BoundValue, Line, Print}
use Rattle.main_declarations.specs.Names.{means}
use Rattle.main_declarations.specs.Expressions.{resolved, judged_static, judged_value}
use Rattle.main_declarations.specs.Meanings.{dat_of, or_zero, values_named}
use Rattle.main_declarations.specs.SoFar.{Declared, Walked, does, behind, with_var, quiet, nothing_declared}
use Rattle.bound_program.specs.Steps.{Asked, Do, Loop, Fix, Block, Choose, Repeat, NoStep}
use Rattle.main_declarations.specs.Declarations.{with_set, with_map, with_dat, set_decl_found, map_decl_found, dat_decl_found, judged_set, judged_map, judged_dat}
use Rattle.main_declarations.specs.Variables.{with_file_value, judged_file_declr, judged_file_declrs, with_fixed, with_fixed_later, with_turning, const_at, judged_declr, judged_declrs, file_cells, after_constant, constant_decl_found, judged_constant}
use Rattle.main_declarations.specs.File.{judged_extern, judged_array, judged_top, judged_tops}
use Rattle.loop_bind.specs.Arguments.{with_extern, extern_var, after_global, after_globals, loop_found, site, judged_loop}
use Rattle.loop_bind.specs.Text.{nested, turning, outermost, line_found, declares, judged_call, opened, followed_by, ended, with_counter, judged_bounds, judged_host, judged_hosts}
use Rattle.loop_bind.specs.Weights.{trace}
use Rattle.loop_bind.specs.Bound.{text, happens, finished, unrolled_text, bound}
use Rattle.loop_bind.specs.Names.{HasNames, BoundNamesAreNames}
use Rattle.main_declarations.proofs.Public.{Gives, gives_then, gives_unless, gives_any}
use Rattle.loop_bind.proofs.NamedTokens.{CallIsNamed, HostIsNamed, HostsAreNamed, main-named}

-- ---- one declaration more

set-named : (g : MeshValue) (x : List ℕ) (size : ℕ) → HasNames g → IsName x → HasNames (with_set x size g)
set-named g x size h n = record { sets = All-push (λ (d : SetDecl). IsName d.name) g.sets (record { name = x; size = size }) h.sets n; maps = h.maps; dats = h.dats }

map-named : (g : MeshValue) (x : List ℕ) (from to dim : ℕ) (zs : List ℤ) → HasNames g → IsName x → HasNames (with_map x from to dim zs g)
map-named g x from to dim zs h n = record {
  sets = h.sets;
  maps = All-push (λ (d : MapDecl). IsName d.name) g.maps (record { name = x; from = from; to = to; dim = dim; targets = zs }) h.maps n;
  dats = h.dats;
}

dat-named : (g : MeshValue) (x : List ℕ) (set dim : ℕ) (zs : List ℤ) → HasNames g → IsName x → HasNames (with_dat x set dim zs g)
dat-named g x set dim zs h n = record {
  sets = h.sets;
  maps = h.maps;
  dats = All-push (λ (d : DatDecl). IsName d.name) g.dats (record { name = x; set = set; dim = dim; values = zs }) h.dats n;
}

-- ---- the walk

abbrev IsNamed : Declared → Type 0
IsNamed k = HasNames k.mesh

abbrev WalkIsNamed : Walked → Type 0
WalkIsNamed a = HasNames a.declared.mesh

module _ (places : List Pos) (cs : List ConstDecl) (es : List Named) where
  -- ---- the file

  value-named : (k : Declared) (c : Bool) (x : List ℕ) (z : ℤ) → IsNamed k → IsNamed (with_file_value places cs k c x z)
  value-named k false x z h = h
  value-named k true x z h = h

  file-declr : (k : Declared) (c : Bool) (d : DeclrTree) → IsNamed k → Gives IsNamed (judged_file_declr places cs k c d)
  file-declr k c (tree.Plain x) h = h
  file-declr k c (tree.Init x e) h =
      gives_then (λ z. Unit {0}) IsNamed (judged_value places k.names e) (λ z. Ok (with_file_value places cs k c x.name z))
      (gives_any (judged_value places k.names e)) (λ z u. value-named k c x.name z h)
  file-declr k c (tree.Array x n) h = h

  file-declrs : (k : Declared) (c : Bool) (ds : List DeclrTree) → IsNamed k → Gives IsNamed (judged_file_declrs places cs k c ds)
  file-declrs k c [] h = h
  file-declrs k c (d ∷ ds) h = gives_then IsNamed IsNamed (judged_file_declr places cs k c d) (λ l. judged_file_declrs places cs l c ds) (file-declr k c d h) (λ l i. file-declrs l c ds i)

  extern-named : (k : Declared) (x : Ident) (e : Option Entry) → IsNamed k → Gives IsNamed (judged_extern places cs es k x e)
  extern-named k x (Some (One z)) h = h
  extern-named k x (Some (Many zs)) h = tt
  extern-named k x None h = tt

  array-named : (k : Declared) (x : Ident) (e : Option Entry) → IsNamed k → Gives IsNamed (judged_array places cs es k x e)
  array-named k x (Some (One z)) h = tt
  array-named k x (Some (Many zs)) h = h
  array-named k x None h = tt

  top-named : (k : Declared) (t : TopTree) → IsNamed k → Gives IsNamed (judged_top places cs es k t)
  top-named k (tree.Extern x) h = extern-named k x (lookup (bytes_eq x.name) es) h
  top-named k (tree.ExternArray x) h = array-named k x (lookup (bytes_eq x.name) es) h
  top-named k (tree.FileDeclaration v) h = file-declrs k v.is_const v.declrs h
  top-named k (tree.Kernel f) h = h

  tops-named : (k : Declared) (ts : List TopTree) → IsNamed k → Gives IsNamed (judged_tops places cs es k ts)
  tops-named k [] h = h
  tops-named k (t ∷ ts) h = gives_then IsNamed IsNamed (judged_top places cs es k t) (λ l. judged_tops places cs es l ts) (top-named k t h) (λ l i. tops-named l ts i)

  -- ---- `main`

  const-named : (in_for is_nested : Bool) (a : Walked) (x : List ℕ) (e : ExprTree) → WalkIsNamed a → Gives WalkIsNamed (const_at places in_for is_nested a x e)
  const-named true is_nested a x e h =
      gives_then (λ (v : Asked). Unit {0}) WalkIsNamed (judged_static places a.declared.names e)
      (λ v. Ok (does (Fix v None) (behind a (with_turning places a.declared x)))) (gives_any (judged_static places a.declared.names e))
      (λ v u. h)
  const-named false true a x e h =
      gives_then (λ (v : Asked). Unit {0}) WalkIsNamed (judged_static places a.declared.names e)
      (λ v. Ok (does (Fix v (Some (length a.declared.vars))) (behind a (with_fixed_later places a.declared x))))
      (gives_any (judged_static places a.declared.names e)) (λ v u. h)
  const-named false false a x e h =
      gives_then (λ (z : ℤ). Unit {0}) WalkIsNamed (judged_value places a.declared.names e)
      (λ z. Ok (behind a (with_fixed places a.declared x z))) (gives_any (judged_value places a.declared.names e)) (λ z u. h)

  declr-named : (a : Walked) (w : Spot) (c : Bool) (d : DeclrTree) → WalkIsNamed a → Gives WalkIsNamed (judged_declr places a w c d)
  declr-named a w true (tree.Init x e) h = const-named w.in_for w.is_nested a x.name e h
  declr-named a w false (tree.Init x e) h = h
  declr-named a w true (tree.Plain x) h = h
  declr-named a w false (tree.Plain x) h = h
  declr-named a w true (tree.Array x n) h = h
  declr-named a w false (tree.Array x n) h = h

  declrs-named : (a : Walked) (w : Spot) (c : Bool) (ds : List DeclrTree) → WalkIsNamed a → Gives WalkIsNamed (judged_declrs places a w c ds)
  declrs-named a w c [] h = h
  declrs-named a w c (d ∷ ds) h = gives_then WalkIsNamed WalkIsNamed (judged_declr places a w c d) (λ b. judged_declrs places b w c ds) (declr-named a w c d h) (λ b i. declrs-named b w c ds i)

  -- ---- calls

  declares-named : (a : Walked) (r : Judged Declared) → Gives IsNamed r → Gives WalkIsNamed (declares places cs es a r)
  declares-named a r g = gives_then IsNamed WalkIsNamed r (λ k. Ok (behind a k)) g (λ k i. i)

  extern-mesh : (k : Declared) (x : List ℕ) (zs : List ℤ) → IsNamed k → IsNamed (with_extern x zs k)
  extern-mesh k x zs h = pick (is_some (lookup (bytes_eq x) k.externs))
    where
      pick : (b : Bool) → IsNamed (if b then k else (record (with_var (extern_var x zs) k) { externs = k.externs ++ (x, length k.vars) ∷ [] }))
      pick true = h
      pick false = h

  global-mesh : (k : Declared) (a : LoopArg) → IsNamed k → IsNamed (after_global es a k)
  global-mesh k (arg.Dat at x i v n l a a_at) h = h
  global-mesh k (arg.Global at g n l a a_at) h = pick (means k.names g.name.name)
    where
      by : Option Meaning → Declared
      by (Some (m.Extern z)) = with_extern g.name.name (z ∷ []) k
      by (Some m.ExternArray) = with_extern g.name.name (values_named es g.name.name) k
      by o = k

      pick : (o : Option Meaning) → IsNamed (by o)
      pick None = h
      pick (Some (m.Extern z)) = extern-mesh k g.name.name (z ∷ []) h
      pick (Some m.ExternArray) = extern-mesh k g.name.name (values_named es g.name.name) h
      pick (Some (m.Kernel number params)) = h
      pick (Some (m.Set s)) = h
      pick (Some (m.Map s)) = h
      pick (Some (m.Dat s)) = h
      pick (Some (m.Variable c)) = h
      pick (Some (m.Fixed z c)) = h
      pick (Some (m.FixedLater t c)) = h
      pick (Some (m.Turning t)) = h

  globals-mesh : (k : Declared) (args : List LoopArg) → IsNamed k → IsNamed (after_globals es args k)
  globals-mesh k [] h = h
  globals-mesh k (a ∷ args) h = globals-mesh (after_global es a k) args (global-mesh k a h)

  constant-mesh : (k : Declared) (x : List ℕ) (o : Option Cells) → IsNamed k → IsNamed (after_constant places cs k x o)
  constant-mesh k x None h = h
  constant-mesh k x (Some c) h = h

  call-on : (a : Walked) (w : Spot) (c : OpCallTree) → WalkIsNamed a → CallIsNamed c → Gives WalkIsNamed (judged_call places cs es a w c)
  call-on a w (tree.CallInit at n) h n' = h
  call-on a w (tree.DeclSet at x e l) h n' =
      declares-named a (judged_set places a.declared w.is_nested at x e)
      (gives_unless IsNamed (set_decl_found places a.declared w.is_nested at e) _ (λ none. set-named a.declared.mesh x.name _ h n'))
  call-on a w (tree.DeclMap at x from to n v l) h n' =
      declares-named a (judged_map places es a.declared w.is_nested at x from to n v)
      (gives_unless IsNamed (map_decl_found places es a.declared w.is_nested at from to n v) _ (λ none. map-named a.declared.mesh x.name _ _ _ _ h n'))
  call-on a w (tree.DeclDat at x on n u v l) h n' =
      declares-named a (judged_dat places es a.declared w.is_nested at x on n u v)
      (gives_unless IsNamed (dat_decl_found places es a.declared w.is_nested at on n u v) _ (λ none. dat-named a.declared.mesh x.name _ _ _ h n'))
  call-on a w (tree.DeclConst at n u g) h n' =
      declares-named a (judged_constant places cs a.declared w.is_nested at n u g)
      (gives_unless IsNamed (constant_decl_found places a.declared w.is_nested at n u g) (after_constant places cs a.declared g.name.name (file_cells places (means a.declared.names g.name.name)))
      (λ none. constant-mesh a.declared g.name.name (file_cells places (means a.declared.names g.name.name)) h))
  call-on a w (tree.ParLoop at f l on args) h n' =
      let j = after_globals es args a.declared in
      gives_then IsNamed WalkIsNamed (judged_loop places es a.declared at f on args) (λ k. Ok (does (Loop (length a.declared.sites)) (behind a k)))
      (gives_unless IsNamed (loop_found places es j at f on args) (record j { sites = j.sites ++ site places es j at f on args ∷ [] }) (λ none. globals-mesh a.declared args h))
      (λ k i. i)
  call-on a w (tree.Printf at l xs) h n' =
      gives_unless WalkIsNamed (line_found places cs es at l (length xs) (conversions l.text)) (does (Do (Line l.text (map (resolved places a.declared.names) xs))) a) (λ none. h)
  call-on a w (tree.PrintDat at x l) h n' =
      gives_unless WalkIsNamed (found_if places (is_none (dat_of (means a.declared.names x.name))) x.at refusal.UnknownDat)
      (does (Do (Print (or_zero (dat_of (means a.declared.names x.name))) l.text)) a) (λ none. h)

  mutual
    host-on : (a : Walked) (w : Spot) (x : HostTree) → WalkIsNamed a → HostIsNamed x → Gives WalkIsNamed (judged_host places cs es a w x)
    host-on a w (tree.HostDeclaration v) h n = declrs-named a w v.is_const v.declrs h
    host-on a w (tree.HostBlock at hs) h n =
        gives_then WalkIsNamed WalkIsNamed (judged_hosts places cs es (opened places cs es a) (nested w) hs)
        (λ b. Ok (ended places cs es a (Block b.steps) b)) (hosts-on (opened places cs es a) (nested w) hs h n) (λ b i. i)
    host-on a w (tree.HostEmpty at) h n = h
    host-on a w (tree.HostAssign e) h n = h
    host-on a w (tree.HostIf at e x) h n =
        gives_then (λ (c : Asked). Unit {0}) WalkIsNamed (judged_static places a.declared.names e)
        (λ c. judged_host places cs es (opened places cs es a) (nested w) x >>= λ b. Ok
        (followed_by places cs es a (Choose c (Block b.steps) (Block NoStep)) b)) (gives_any (judged_static places a.declared.names e))
        (λ c u. gives_then WalkIsNamed WalkIsNamed (judged_host places cs es (opened places cs es a) (nested w) x)
        (λ b. Ok (followed_by places cs es a (Choose c (Block b.steps) (Block NoStep)) b))
        (host-on (opened places cs es a) (nested w) x h n) (λ b i. i))
    host-on a w (tree.HostIfElse at e x y) h n =
        gives_then (λ (c : Asked). Unit {0}) WalkIsNamed (judged_static places a.declared.names e)
        (λ c. judged_host places cs es (opened places cs es a) (nested w) x >>= λ b. judged_host places cs es (opened places cs es b)
        (nested w) y >>= λ d. Ok (followed_by places cs es a (Choose c (Block b.steps) (Block d.steps)) d))
        (gives_any (judged_static places a.declared.names e))
        (λ c u. gives_then WalkIsNamed WalkIsNamed (judged_host places cs es (opened places cs es a) (nested w) x)
        (λ b. judged_host places cs es (opened places cs es b) (nested w) y >>= λ d. Ok (followed_by places cs es a (Choose c (Block b.steps) (Block d.steps)) d))
        (host-on (opened places cs es a) (nested w) x h n.0)
        (λ b i. gives_then WalkIsNamed WalkIsNamed (judged_host places cs es (opened places cs es b) (nested w) y)
        (λ d. Ok (followed_by places cs es a (Choose c (Block b.steps) (Block d.steps)) d)) (host-on (opened places cs es b) (nested w) y i n.1) (λ d j. j)))
    host-on a w (tree.HostFor f x) h n =
        gives_then (λ (r : Asked × Asked). Unit {0}) WalkIsNamed (judged_bounds places cs es a f)
        (λ r. judged_host places cs es (with_counter places cs es a f.name) turning x >>= λ b. Ok
        (ended places cs es a (Repeat r.0 r.1 (Block b.steps)) b)) (gives_any (judged_bounds places cs es a f))
        (λ r u. gives_then WalkIsNamed WalkIsNamed (judged_host places cs es (with_counter places cs es a f.name) turning x)
        (λ b. Ok (ended places cs es a (Repeat r.0 r.1 (Block b.steps)) b)) (host-on (with_counter places cs es a f.name) turning x h n)
        (λ b i. i))
    host-on a w (tree.HostCall c) h n = call-on a w c h n

    hosts-on : (a : Walked) (w : Spot) (xs : HostTrees) → WalkIsNamed a → HostsAreNamed xs → Gives WalkIsNamed (judged_hosts places cs es a w xs)
    hosts-on a w tree.NoHost h n = h
    hosts-on a w (tree.MoreHost x xs) h n = gives_then WalkIsNamed WalkIsNamed (judged_host places cs es a w x)
        (λ b. judged_hosts places cs es b w xs) (host-on a w x h n.0) (λ b i. hosts-on b w xs i n.1)

-- ---- the program

none-named : HasNames no_mesh
none-named = record { sets = All-nil (λ (d : SetDecl). IsName d.name); maps = All-nil (λ (d : MapDecl). IsName d.name); dats = All-nil (λ (d : DatDecl). IsName d.name) }

all-named : (p : ProgramTree) (r : Resolved) (es : List Named) → HostsAreNamed p.main.body → Gives (λ (b : BoundValue). HasNames b.mesh) (bound p r es)
all-named p r es n =
    gives_then WalkIsNamed (λ (b : BoundValue). HasNames b.mesh) (text p r es) (unrolled_text r)
    (gives_then IsNamed WalkIsNamed (judged_tops p.places r.consts.items es nothing_declared p.tops) (λ k. judged_hosts p.places r.consts.items es (quiet k) outermost p.main.body)
    (tops-named p.places r.consts.items es nothing_declared p.tops none-named) (λ k i. hosts-on p.places r.consts.items es (quiet k) outermost p.main.body i n))
    (λ w i. gives_then (λ u. Unit {0}) (λ (b : BoundValue). HasNames b.mesh) (trace w.declared.mesh (happens w))
    (λ u. Ok (finished r w.declared u)) (gives_any (trace w.declared.mesh (happens w))) (λ u j. i))

pub bound-names : BoundNamesAreNames
bound-names source p r es b reads e = subst (Gives (λ (b : BoundValue). HasNames b.mesh)) e (all-named p r es (main-named source p reads))
