-- The walk over the text knows the names of the text.
use Rattle.std.proofs.Common.{◌≡◌, ℕ, ℤ, pos, List, [], ◌∷◌, ◌++◌, length, take, replicate, map, Ok, Err, Bool, true, false, not, refl, sym, subst, ◌∙◌}
use Rattle.std.specs.Prelude.{Option, Some, None, is_some, is_none, bytes_eq, if◌then◌else◌}
use Rattle.std.specs.Map.{lookup}
use Rattle.c_tree.specs.declared.lexer.tokens.Pos.{Pos}
use Rattle.c_tree.specs.declared.expressions.Ident.{Ident}
use Rattle.c_tree.specs.declared.hosts.LoopArg.{LoopArg}
use Rattle.c_tree.specs.declared.hosts.LoopArg.TheVariants as arg
use Rattle.c_tree.specs.Tree as tree
use Rattle.c_tree.specs.Tree.{ExprTree, DeclrTree, PlaceTree, TopTree, OpCallTree, HostTree, HostTrees}
use Rattle.kernel_model.specs.declared.types.kernels.ConstDecl.{ConstDecl}
use Rattle.mesh_decl.specs.Mesh.{set_count, map_count, dat_count}
use Rattle.mesh_decl.specs.Printed.{conversions}
use Rattle.mesh_decl.specs.declared.text.entry.Entry.{Entry}
use Rattle.mesh_decl.specs.declared.text.entry.Entry.TheVariants.{One, Many}
use Rattle.mesh_decl.specs.Spelling.{Named}
use Rattle.bound_program.specs.declared.refusals.refusals.BindRefusal.TheVariants as refusal
use Rattle.main_declarations.specs.declared.names.walks.Spot.{Spot}
use Rattle.main_declarations.specs.declared.names.scopes.Cells.{Cells}
use Rattle.main_declarations.specs.declared.names.scopes.Meaning.{Meaning}
use Rattle.main_declarations.specs.declared.names.scopes.Meaning.TheVariants as m
use Rattle.bound_program.specs.Values.{VarValue, Line, Print}
use Rattle.main_declarations.specs.Names.{Scope, means, told_later, closed, declare}
use Rattle.bound_program.specs.Steps.{Asked, Do, Loop, Fix, Block, Choose, Repeat, NoStep}
use Rattle.main_declarations.specs.Expressions.{resolved, judged_static, judged_value}
use Rattle.bound_program.specs.Refusals.{Judged, ◌>>=◌, found_if}
use Rattle.main_declarations.specs.SoFar.{Declared, Walked, does, behind, with_var, with_name, with_file_name, next_cells, changing, unchanging, first_cell}
use Rattle.main_declarations.specs.Meanings.{count_of, dat_of, or_zero, values_named}
use Rattle.main_declarations.specs.Declarations.{set_decl_found, map_decl_found, dat_decl_found, judged_set, judged_map, judged_dat}
use Rattle.main_declarations.specs.Variables.{with_file_value, judged_file_declr, judged_file_declrs, with_fixed, with_fixed_later, with_turning, const_at, with_changing, judged_declr, judged_declrs, file_cells, after_constant, constant_decl_found, judged_constant}
use Rattle.loop_bind.specs.Arguments.{with_extern, extern_var, after_global, after_globals, loop_found, site, judged_loop}
use Rattle.loop_bind.specs.Text.{nested, turning, target_name, line_found, declares, judged_call, opened, followed_by, ended, with_counter, judged_bounds, judged_host, judged_hosts}
use Rattle.main_declarations.specs.File.{judged_extern, judged_array, judged_top, judged_tops}
use Rattle.loop_bind.specs.Assigned.{Known, knows, after_declr, after_declrs, after_top, after_tops, after_call, after_host, after_hosts, place_name, CanBeAssigned, Assigns, AllAssign}
use Rattle.main_declarations.proofs.Public.{Gives, gives_then, gives_unless, gives_any}
use Rattle.loop_bind.proofs.FitsTargets.{IsVariable, Behind, AssignsVariables, AllAssignVariables}
use Rattle.loop_bind.proofs.FitsScopes.{Kind, Same, same_found, same_known, same_length, same_take, assigned_is}

-- the names of the file and of `main` are those
pub record Scoped (fs os : Known) (k : Declared) : Type 0 where
  pub file : Same fs k.names.file
  pub own : Same os k.names.own

-- the same names
alike : (file own : Known) (k l : Declared) → l.names ≡ k.names → Scoped file own k → Scoped file own l
alike file own k l e h = record { file = subst (λ (s : Scope). Same file s.file) (sym e) h.file; own = subst (λ (s : Scope). Same own s.own) (sym e) h.own }

file_name : (file own : Known) (k : Declared) (x : List ℕ) (b : Bool) (o : Meaning) → Kind b o → Scoped file own k → Scoped (knows x b file) own (with_file_name x o k)
file_name file own k x b o i h = record { file = same_known file k.names.file x b o i h.file; own = h.own }

own_name : (file own : Known) (k : Declared) (x : List ℕ) (b : Bool) (o : Meaning) → Kind b o → Scoped file own k → Scoped file (knows x b own) (with_name x o k)
own_name file own k x b o i h = record { file = h.file; own = same_known own k.names.own x b o i h.own }

var : (file own : Known) (k : Declared) (v : VarValue) → Scoped file own k → Scoped file own (with_var v k)
var file own k v h = record { file = h.file; own = h.own }

module _ (places : List Pos) (cs : List ConstDecl) (es : List Named) where
  -- ---- the file

  value_scoped : (file own : Known) (k : Declared) (c : Bool) (x : List ℕ) (z : ℤ) → Scoped file own k → Scoped (knows x (not c) file) own (with_file_value places cs k c x z)
  value_scoped file own k false x z h = file_name file own (with_var (changing x (z ∷ [])) k) x true (m.Variable (next_cells k true false 1)) tt (var file own k (changing x (z ∷ [])) h)
  value_scoped file own k true x z h = file_name file own (with_var (unchanging x z (first_cell cs x)) k) x false
      (m.Fixed z (next_cells k true false 1)) tt (var file own k (unchanging x z (first_cell cs x)) h)

  file_declr_scoped : (file own : Known) (k : Declared) (c : Bool) (d : DeclrTree) → Scoped file own k → Gives (Scoped (after_declr file c d) own) (judged_file_declr places cs k c d)
  file_declr_scoped file own k c (tree.Plain x) h = file_name file own (with_var (changing x.name (pos 0 ∷ [])) k) x.name true
      (m.Variable (next_cells k true false 1)) tt (var file own k (changing x.name (pos 0 ∷ [])) h)
  file_declr_scoped file own k c (tree.Init x e) h =
      gives_then (λ z. Unit {0}) (Scoped (knows x.name (not c) file) own) (judged_value places k.names e)
      (λ z. Ok (with_file_value places cs k c x.name z)) (gives_any (judged_value places k.names e))
      (λ z u. value_scoped file own k c x.name z h)
  file_declr_scoped file own k c (tree.Array x n) h =
      file_name file own (with_var (changing x.name (replicate (count_of n) (pos 0))) k) x.name true
      (m.Variable (next_cells k true true (count_of n))) tt (var file own k (changing x.name (replicate (count_of n) (pos 0))) h)

  file_declrs_scoped : (file own : Known) (k : Declared) (c : Bool) (ds : List DeclrTree) → Scoped file own k → Gives (Scoped (after_declrs file c ds) own) (judged_file_declrs places cs k c ds)
  file_declrs_scoped file own k c [] h = h
  file_declrs_scoped file own k c (d ∷ ds) h =
      gives_then (Scoped (after_declr file c d) own) (Scoped (after_declrs (after_declr file c d) c ds) own)
      (judged_file_declr places cs k c d) (λ l. judged_file_declrs places cs l c ds) (file_declr_scoped file own k c d h)
      (λ l i. file_declrs_scoped (after_declr file c d) own l c ds i)

  extern_scoped : (file own : Known) (k : Declared) (x : Ident) (e : Option Entry) → Scoped file own k → Gives (Scoped (knows x.name false file) own) (judged_extern places cs es k x e)
  extern_scoped file own k x (Some (One z)) h = file_name file own k x.name false (m.Extern z) tt h
  extern_scoped file own k x (Some (Many zs)) h = tt
  extern_scoped file own k x None h = tt

  array_scoped : (file own : Known) (k : Declared) (x : Ident) (e : Option Entry) → Scoped file own k → Gives (Scoped (knows x.name false file) own) (judged_array places cs es k x e)
  array_scoped file own k x (Some (One z)) h = tt
  array_scoped file own k x (Some (Many zs)) h = file_name file own k x.name false m.ExternArray tt h
  array_scoped file own k x None h = tt

  top_scoped : (file own : Known) (k : Declared) (t : TopTree) → Scoped file own k → Gives (Scoped (after_top file t) own) (judged_top places cs es k t)
  top_scoped file own k (tree.Extern x) h = extern_scoped file own k x (lookup (bytes_eq x.name) es) h
  top_scoped file own k (tree.ExternArray x) h = array_scoped file own k x (lookup (bytes_eq x.name) es) h
  top_scoped file own k (tree.FileDeclaration v) h = file_declrs_scoped file own k v.is_const v.declrs h
  top_scoped file own k (tree.Kernel f) h = let i = file_name file own k f.name.name false (m.Kernel k.kernels (length f.params)) tt h in record { file = i.file; own = i.own }

  pub tops_scoped : (file own : Known) (k : Declared) (ts : List TopTree) → Scoped file own k → Gives (Scoped (after_tops file ts) own) (judged_tops places cs es k ts)
  tops_scoped file own k [] h = h
  tops_scoped file own k (t ∷ ts) h = gives_then (Scoped (after_top file t) own) (Scoped (after_tops (after_top file t) ts) own)
      (judged_top places cs es k t) (λ l. judged_tops places cs es l ts) (top_scoped file own k t h)
      (λ l i. tops_scoped (after_top file t) own l ts i)

  -- ---- `main`

  module _ (file : Known) where
    abbrev pub At : Known → Walked → Type 0
    At own b = Scoped file own b.declared

    changing_scoped : (own : Known) (k : Declared) (x : List ℕ) (is_array : Bool) (n : ℕ) → Scoped file own k → Scoped file (knows x true own) (with_changing places k x is_array n)
    changing_scoped own k x is_array n h = own_name file own (with_var (changing x (replicate n (pos 0))) k) x true
        (m.Variable (next_cells k false is_array n)) tt (var file own k (changing x (replicate n (pos 0))) h)

    const_scoped : (own : Known) (in_for is_nested : Bool) (a : Walked) (x : List ℕ) (e : ExprTree) → At own a → Gives (At (knows x false own)) (const_at places in_for is_nested a x e)
    const_scoped own true is_nested a x e h =
        gives_then (λ (v : Asked). Unit {0}) (At (knows x false own)) (judged_static places a.declared.names e)
        (λ v. Ok (does (Fix v None) (behind a (with_turning places a.declared x))))
        (gives_any (judged_static places a.declared.names e))
        (λ v u. own_name file own a.declared x false (m.Turning (told_later a.declared.names)) tt h)
    const_scoped own false true a x e h =
        gives_then (λ (v : Asked). Unit {0}) (At (knows x false own)) (judged_static places a.declared.names e)
        (λ v. Ok (does (Fix v (Some (length a.declared.vars))) (behind a (with_fixed_later places a.declared x))))
        (gives_any (judged_static places a.declared.names e))
        (λ v u. own_name file own (with_var (unchanging x (pos 0) None) a.declared) x false
        (m.FixedLater (told_later a.declared.names) (next_cells a.declared false false 1)) tt
        (var file own a.declared (unchanging x (pos 0) None) h))
    const_scoped own false false a x e h =
        gives_then (λ (z : ℤ). Unit {0}) (At (knows x false own)) (judged_value places a.declared.names e)
        (λ z. Ok (behind a (with_fixed places a.declared x z))) (gives_any (judged_value places a.declared.names e))
        (λ z u. own_name file own (with_var (unchanging x z None) a.declared) x false (m.Fixed z (next_cells a.declared false false 1)) tt (var file own a.declared (unchanging x z None) h))

    declr_scoped : (own : Known) (a : Walked) (w : Spot) (c : Bool) (d : DeclrTree) → At own a → Gives (At (after_declr own c d)) (judged_declr places a w c d)
    declr_scoped own a w true (tree.Init x e) h = const_scoped own w.in_for w.is_nested a x.name e h
    declr_scoped own a w false (tree.Init x e) h = changing_scoped own a.declared x.name false 1 h
    declr_scoped own a w true (tree.Plain x) h = changing_scoped own a.declared x.name false 1 h
    declr_scoped own a w false (tree.Plain x) h = changing_scoped own a.declared x.name false 1 h
    declr_scoped own a w true (tree.Array x n) h = changing_scoped own a.declared x.name true (count_of n) h
    declr_scoped own a w false (tree.Array x n) h = changing_scoped own a.declared x.name true (count_of n) h

    declrs_scoped : (own : Known) (a : Walked) (w : Spot) (c : Bool) (ds : List DeclrTree) → At own a → Gives (At (after_declrs own c ds)) (judged_declrs places a w c ds)
    declrs_scoped own a w c [] h = h
    declrs_scoped own a w c (d ∷ ds) h = gives_then (At (after_declr own c d)) (At (after_declrs (after_declr own c d) c ds))
        (judged_declr places a w c d) (λ b. judged_declrs places b w c ds) (declr_scoped own a w c d h)
        (λ b i. declrs_scoped (after_declr own c d) b w c ds i)

    -- ---- calls

    declares_scoped : (own : Known) (a : Walked) (r : Judged Declared) → Gives (Scoped file own) r → Gives (At own) (declares places cs es a r)
    declares_scoped own a r g = gives_then (Scoped file own) (At own) r (λ k. Ok (behind a k)) g (λ k i. i)

    thing_scoped : (own : Known) (k l : Declared) (x : List ℕ) (o : Meaning) → l.names ≡ declare x o k.names → Scoped file own k → Scoped file (knows x false own) l
    thing_scoped own k l x o e h = let i = own_name file own k x false o tt h in
        record {
          file = subst (λ (s : Scope). Same file s.file) (sym e) i.file;
          own =
              subst (λ (s : Scope). Same (knows x false own) s.own) (sym e) i.own;
        }

    extern_names : (k : Declared) (x : List ℕ) (zs : List ℤ) → (with_extern x zs k).names ≡ k.names
    extern_names k x zs = pick (is_some (lookup (bytes_eq x) k.externs))
      where
        pick : (b : Bool) → (if b then k else (record (with_var (extern_var x zs) k) { externs = k.externs ++ (x, length k.vars) ∷ [] })).names ≡ k.names
        pick true = refl
        pick false = refl

    global_names : (k : Declared) (a : LoopArg) → (after_global es a k).names ≡ k.names
    global_names k (arg.Dat at x i v n l a a_at) = refl
    global_names k (arg.Global at g n l a a_at) = pick (means k.names g.name.name)
      where
        by : Option Meaning → Declared
        by (Some (m.Extern z)) = with_extern g.name.name (z ∷ []) k
        by (Some m.ExternArray) = with_extern g.name.name (values_named es g.name.name) k
        by o = k

        pick : (o : Option Meaning) → (by o).names ≡ k.names
        pick None = refl
        pick (Some (m.Extern z)) = extern_names k g.name.name (z ∷ [])
        pick (Some m.ExternArray) = extern_names k g.name.name (values_named es g.name.name)
        pick (Some (m.Kernel number params)) = refl
        pick (Some (m.Set s)) = refl
        pick (Some (m.Map s)) = refl
        pick (Some (m.Dat s)) = refl
        pick (Some (m.Variable c)) = refl
        pick (Some (m.Fixed z c)) = refl
        pick (Some (m.FixedLater t c)) = refl
        pick (Some (m.Turning t)) = refl

    globals_names : (k : Declared) (args : List LoopArg) → (after_globals es args k).names ≡ k.names
    globals_names k [] = refl
    globals_names k (a ∷ args) = globals_names (after_global es a k) args ∙ global_names k a

    constant_names_kept : (k : Declared) (x : List ℕ) (o : Option Cells) → (after_constant places cs k x o).names ≡ k.names
    constant_names_kept k x None = refl
    constant_names_kept k x (Some c) = refl

    call_scoped : (own : Known) (a : Walked) (w : Spot) (c : OpCallTree) → At own a → Gives (At (after_call own c)) (judged_call places cs es a w c)
    call_scoped own a w (tree.CallInit at n) h = h
    call_scoped own a w (tree.DeclSet at x e l) h =
        declares_scoped (knows x.name false own) a (judged_set places a.declared w.is_nested at x e)
        (gives_unless (Scoped file (knows x.name false own)) (set_decl_found places a.declared w.is_nested at e) _
        (λ none. thing_scoped own a.declared _ x.name (m.Set (set_count a.declared.mesh)) refl h))
    call_scoped own a w (tree.DeclMap at x from to n v l) h =
        declares_scoped (knows x.name false own) a (judged_map places es a.declared w.is_nested at x from to n v)
        (gives_unless (Scoped file (knows x.name false own)) (map_decl_found places es a.declared w.is_nested at from to n v) _
        (λ none. thing_scoped own a.declared _ x.name (m.Map (map_count a.declared.mesh)) refl h))
    call_scoped own a w (tree.DeclDat at x on n u v l) h =
        declares_scoped (knows x.name false own) a (judged_dat places es a.declared w.is_nested at x on n u v)
        (gives_unless (Scoped file (knows x.name false own)) (dat_decl_found places es a.declared w.is_nested at on n u v) _
        (λ none. thing_scoped own a.declared _ x.name (m.Dat (dat_count a.declared.mesh)) refl h))
    call_scoped own a w (tree.DeclConst at n u g) h =
        declares_scoped own a (judged_constant places cs a.declared w.is_nested at n u g)
        (gives_unless (Scoped file own) (constant_decl_found places a.declared w.is_nested at n u g)
        (after_constant places cs a.declared g.name.name (file_cells places (means a.declared.names g.name.name)))
        (λ none. alike file own a.declared
        (after_constant places cs a.declared g.name.name (file_cells places (means a.declared.names g.name.name)))
        (constant_names_kept a.declared g.name.name (file_cells places (means a.declared.names g.name.name))) h))
    call_scoped own a w (tree.ParLoop at f l on args) h =
        let j = after_globals es args a.declared in
        gives_then (Scoped file own) (At own) (judged_loop places es a.declared at f on args) (λ k. Ok (does (Loop (length a.declared.sites)) (behind a k)))
        (gives_unless (Scoped file own) (loop_found places es j at f on args)
        (record j { sites = j.sites ++ site places es j at f on args ∷ [] })
        (λ none. alike file own a.declared (record j { sites = j.sites ++ site places es j at f on args ∷ [] })
        (globals_names a.declared args) h))
        (λ k i. i)
    call_scoped own a w (tree.Printf at l xs) h = gives_unless (At own) (line_found places cs es at l (length xs) (conversions l.text))
        (does (Do (Line l.text (map (resolved places a.declared.names) xs))) a) (λ none. h)
    call_scoped own a w (tree.PrintDat at x l) h =
        gives_unless (At own) (found_if places (is_none (dat_of (means a.declared.names x.name))) x.at refusal.UnknownDat)
        (does (Do (Print (or_zero (dat_of (means a.declared.names x.name))) l.text)) a) (λ none. h)

    -- ---- statements

    closed_scoped : (own later : Known) (j k : Declared) → Scoped file own j → Scoped file later k → Scoped file (take (length own) later) (record k { names = closed j.names k.names })
    closed_scoped own later j k h i = record {
      file = i.file;
      own = subst (λ n. Same (take n later) (take (length j.names.own) k.names.own)) (sym (same_length own j.names.own h.own)) (same_take (length j.names.own) later k.names.own i.own);
    }

    pub counter_scoped : (own : Known) (a : Walked) (x : Ident) → At own a → At (knows x.name false own) (with_counter places cs es a x)
    counter_scoped own a x h = own_name file own a.declared x.name false (m.Turning (told_later a.declared.names)) tt h

    mutual
      pub host_scoped : (own : Known) (a : Walked) (w : Spot) (x : HostTree) → At own a → Gives (At (after_host own x)) (judged_host places cs es a w x)
      host_scoped own a w (tree.HostDeclaration v) h = declrs_scoped own a w v.is_const v.declrs h
      host_scoped own a w (tree.HostBlock at hs) h =
          gives_then (At (after_hosts own hs)) (At (take (length own) (after_hosts own hs)))
          (judged_hosts places cs es (opened places cs es a) (nested w) hs) (λ b. Ok (ended places cs es a (Block b.steps) b))
          (hosts_scoped own (opened places cs es a) (nested w) hs h)
          (λ b i. closed_scoped own (after_hosts own hs) a.declared b.declared h i)
      host_scoped own a w (tree.HostEmpty at) h = h
      host_scoped own a w (tree.HostAssign e) h = h
      host_scoped own a w (tree.HostIf at e x) h =
          gives_then (λ (c : Asked). Unit {0}) (At (after_host own x)) (judged_static places a.declared.names e)
          (λ c. judged_host places cs es (opened places cs es a) (nested w) x >>= λ b. Ok
          (followed_by places cs es a (Choose c (Block b.steps) (Block NoStep)) b))
          (gives_any (judged_static places a.declared.names e))
          (λ c u. gives_then (At (after_host own x)) (At (after_host own x)) (judged_host places cs es (opened places cs es a) (nested w) x)
          (λ b. Ok (followed_by places cs es a (Choose c (Block b.steps) (Block NoStep)) b))
          (host_scoped own (opened places cs es a) (nested w) x h) (λ b i. i))
      host_scoped own a w (tree.HostIfElse at e x y) h =
          let o = after_host own x in
          gives_then (λ (c : Asked). Unit {0}) (At (after_host (after_host own x) y)) (judged_static places a.declared.names e)
          (λ c. judged_host places cs es (opened places cs es a) (nested w) x >>= λ b. judged_host places cs es (opened places cs es b)
          (nested w) y >>= λ d. Ok (followed_by places cs es a (Choose c (Block b.steps) (Block d.steps)) d))
          (gives_any (judged_static places a.declared.names e))
          (λ c u. gives_then (At (after_host own x)) (At (after_host (after_host own x) y)) (judged_host places cs es (opened places cs es a) (nested w) x)
          (λ b. judged_host places cs es (opened places cs es b) (nested w) y >>= λ d. Ok (followed_by places cs es a (Choose c (Block b.steps) (Block d.steps)) d))
          (host_scoped own (opened places cs es a) (nested w) x h)
          (λ b i. gives_then (At (after_host (after_host own x) y)) (At (after_host (after_host own x) y)) (judged_host places cs es (opened places cs es b) (nested w) y)
          (λ d. Ok (followed_by places cs es a (Choose c (Block b.steps) (Block d.steps)) d)) (host_scoped (after_host own x) (opened places cs es b) (nested w) y i) (λ d j. j)))
      host_scoped own a w (tree.HostFor f x) h =
          gives_then (λ (r : Asked × Asked). Unit {0}) (At (take (length own) (after_host (knows f.name.name false own) x)))
          (judged_bounds places cs es a f)
          (λ r. judged_host places cs es (with_counter places cs es a f.name) turning x >>= λ b. Ok
          (ended places cs es a (Repeat r.0 r.1 (Block b.steps)) b)) (gives_any (judged_bounds places cs es a f))
          (λ r u. gives_then (At (after_host (knows f.name.name false own) x))
          (At (take (length own) (after_host (knows f.name.name false own) x)))
          (judged_host places cs es (with_counter places cs es a f.name) turning x)
          (λ b. Ok (ended places cs es a (Repeat r.0 r.1 (Block b.steps)) b))
          (host_scoped (knows f.name.name false own) (with_counter places cs es a f.name) turning x (counter_scoped own a f.name h))
          (λ b i. closed_scoped own (after_host (knows f.name.name false own) x) a.declared b.declared h i))
      host_scoped own a w (tree.HostCall c) h = call_scoped own a w c h

      pub hosts_scoped : (own : Known) (a : Walked) (w : Spot) (xs : HostTrees) → At own a → Gives (At (after_hosts own xs)) (judged_hosts places cs es a w xs)
      hosts_scoped own a w tree.NoHost h = h
      hosts_scoped own a w (tree.MoreHost x xs) h =
          gives_then (At (after_host own x)) (At (after_hosts (after_host own x) xs)) (judged_host places cs es a w x)
          (λ b. judged_hosts places cs es b w xs) (host_scoped own a w x h) (λ b i. hosts_scoped (after_host own x) b w xs i)

    -- ---- what is assigned

    behind_scoped : (own : Known) (r : Judged Walked) (P : Walked → Type 0) → Gives (At own) r → ((b : Walked) → At own b → P b) → Behind r P
    behind_scoped own (Ok b) P g f = f b g
    behind_scoped own (Err e) P g f = tt

    target_scoped : (own : Known) (k : Declared) (p : PlaceTree) → Scoped file own k
        → CanBeAssigned (lookup (bytes_eq (place_name p)) own) (lookup (bytes_eq (place_name p)) file)
        → IsVariable (means k.names (target_name places cs es p).name)
    target_scoped own k (tree.Scalar x) h c = assigned_is _ _ _ _ (same_found x.name own k.names.own h.own) (same_found x.name file k.names.file h.file) c
    target_scoped own k (tree.Element x i) h c = assigned_is _ _ _ _ (same_found x.name own k.names.own h.own) (same_found x.name file k.names.file h.file) c
    target_scoped own k (tree.Target at x) h c = assigned_is _ _ _ _ (same_found x.name own k.names.own h.own) (same_found x.name file k.names.file h.file) c

    mutual
      pub host_assigns : (own : Known) (a : Walked) (w : Spot) (x : HostTree) → At own a → Assigns file own x → AssignsVariables places cs es a w x
      host_assigns own a w (tree.HostDeclaration v) h t = tt
      host_assigns own a w (tree.HostBlock at hs) h t = hosts_assign own (opened places cs es a) (nested w) hs h t
      host_assigns own a w (tree.HostEmpty at) h t = tt
      host_assigns own a w (tree.HostAssign e) h t = target_scoped own a.declared e.place h t
      host_assigns own a w (tree.HostIf at e x) h t = host_assigns own (opened places cs es a) (nested w) x h t
      host_assigns own a w (tree.HostIfElse at e x y) h t = (
        host_assigns own (opened places cs es a) (nested w) x h t.0,
        behind_scoped (after_host own x) (judged_host places cs es (opened places cs es a) (nested w) x)
            (λ b. AssignsVariables places cs es (opened places cs es b) (nested w) y)
            (host_scoped own (opened places cs es a) (nested w) x h)
            (λ b i. host_assigns (after_host own x) (opened places cs es b) (nested w) y i t.1),
      )
      host_assigns own a w (tree.HostFor f x) h t = host_assigns (knows f.name.name false own) (with_counter places cs es a f.name) turning x (counter_scoped own a f.name h) t
      host_assigns own a w (tree.HostCall c) h t = tt

      pub hosts_assign : (own : Known) (a : Walked) (w : Spot) (xs : HostTrees) → At own a → AllAssign file own xs → AllAssignVariables places cs es a w xs
      hosts_assign own a w tree.NoHost h t = tt
      hosts_assign own a w (tree.MoreHost x xs) h t = (
        host_assigns own a w x h t.0,
        behind_scoped (after_host own x) (judged_host places cs es a w x) (λ b. AllAssignVariables places cs es b w xs) (host_scoped own a w x h) (λ b i. hosts_assign (after_host own x) b w xs i t.1),
      )
