-- What is declared begins with values of 32 bits.
use Rattle.std.proofs.Common.{ℕ, zero, suc, ℤ, pos, Bool, true, false, List, ◌∷◌, ◌++◌, length, map, replicate, Option, Some, None, Ok, if◌then◌else◌, []}
use Rattle.std.specs.Prelude.{All, IfSome, is_none, is_some, bytes_eq}
use Rattle.std.specs.Map.{lookup}
use Rattle.std.proofs.lemmas.List.Elements.{All-head, All-tail, All-take}
use Rattle.std.proofs.lemmas.Map.Entries.{All-lookup}
use Rattle.c_tree.specs.declared.lexer.tokens.Pos.{Pos}
use Rattle.c_tree.specs.declared.expressions.Ident.{Ident}
use Rattle.c_tree.specs.declared.hosts.LoopArg.{LoopArg}
use Rattle.c_tree.specs.declared.hosts.LoopArg.TheVariants as arg
use Rattle.c_tree.specs.Tree as tree
use Rattle.c_tree.specs.Tree.{ExprTree, DeclrTree, TopTree, OpCallTree, HostTree, HostTrees, HostForHeaderTree}
use Rattle.kernel_model.specs.declared.types.kernels.ConstDecl.{ConstDecl}
use Rattle.mesh_decl.specs.Printed.{conversions}
use Rattle.mesh_decl.specs.declared.text.entry.Entry.{Entry}
use Rattle.mesh_decl.specs.declared.text.entry.Entry.TheVariants.{One, Many}
use Rattle.mesh_decl.specs.Spelling.{Named}
use Rattle.bound_program.specs.declared.refusals.refusals.BindRefusal.TheVariants as refusal
use Rattle.bound_program.specs.Refusals.{Judged, ◌>>=◌, found_if}
use Rattle.bound_program.specs.Values.{VarValue, Line, Print}
use Rattle.main_declarations.specs.declared.names.walks.Spot.{Spot}
use Rattle.main_declarations.specs.declared.names.scopes.Cells.{Cells}
use Rattle.main_declarations.specs.declared.names.scopes.Meaning.{Meaning}
use Rattle.main_declarations.specs.declared.names.scopes.Meaning.TheVariants as m
use Rattle.main_declarations.specs.Names.{means, known as known_name}
use Rattle.main_declarations.specs.Expressions.{resolved, judged_static, judged_value}
use Rattle.main_declarations.specs.Meanings.{dat_of, or_zero, values_named, count_of}
use Rattle.main_declarations.specs.SoFar.{Declared, Walked, does, behind, with_var, with_name, with_file_name, first_cell, next_cells, changing, unchanging}
use Rattle.bound_program.specs.Steps.{Asked, Step, Do, Loop, Fix, Block, Choose, Repeat, Steps, NoStep, MoreStep, followed, one_step}
use Rattle.bound_program.specs.Trace.{number}
use Rattle.main_declarations.specs.Declarations.{set_decl_found, map_decl_found, dat_decl_found, judged_set, judged_map, judged_dat}
use Rattle.main_declarations.specs.Variables.{with_file_value, judged_file_declr, judged_file_declrs, with_fixed, with_fixed_later, with_turning, with_changing, const_at, judged_declr, judged_declrs, file_cells, with_constant, after_constant, constant_decl_found, judged_constant}
use Rattle.main_declarations.specs.File.{judged_extern, judged_array, judged_top, judged_tops}
use Rattle.loop_bind.specs.Arguments.{with_extern, extern_var, after_global, after_globals, loop_found, site, judged_loop}
use Rattle.loop_bind.specs.Text.{nested, turning, line_found, declares, judged_call, opened, followed_by, ended, with_counter, judged_bounds, judged_host, judged_hosts}
use Rattle.loop_bind.specs.Sources.{HasNumbers, IsRead, TopIsRead, HostIsRead, HostsAreRead}
use Rattle.main_declarations.proofs.Public.{Gives, gives_then, gives_unless}
use Rattle.loop_bind.proofs.Public.{known-fits}
use Rattle.answers.proofs.laws.SpelledValues.{Num, zero_num, AllNum, nums_same, VarsNum, vars_push, DatsNum, dats_push, EntryNum, EntriesNum, values_num, array_num}
use Rattle.answers.proofs.laws.ExpressionValues.{Nums, MeaningNum, NameNum, NamesNum, ScopeNum, means_num, static_num, value_is_num}

-- ---- what is declared

pub record In (k : Declared) : Type 0 where
  pub vars : VarsNum k.vars
  pub dats : DatsNum k.mesh.dats
  pub names : ScopeNum k.names

abbrev mutual
  pub StepNum : Step → Type 0
  StepNum (Do a) = Unit {0}
  StepNum (Loop l) = Unit {0}
  StepNum (Fix e v) = Nums e.value
  StepNum (Block ss) = StepsNum ss
  StepNum (Choose e x y) = Nums e.value × StepNum x × StepNum y
  StepNum (Repeat from to x) = Nums from.value × Nums to.value × StepNum x

  pub StepsNum : Steps → Type 0
  StepsNum NoStep = Unit {0}
  StepsNum (MoreStep x xs) = StepNum x × StepsNum xs

steps_then : (xs ys : Steps) → StepsNum xs → StepsNum ys → StepsNum (followed xs ys)
steps_then NoStep ys h k = k
steps_then (MoreStep x xs) ys h k = (h.0, steps_then xs ys h.1 k)

pub record WalkIn (a : Walked) : Type 0 where
  pub declared : In a.declared
  pub steps : StepsNum a.steps

step_in : (s : Step) (a : Walked) (k : Declared) → WalkIn a → In k → StepNum s → WalkIn (does s (behind a k))
step_in s a k w h f = record { declared = h; steps = steps_then a.steps (one_step s) w.steps (f, tt) }

behind_in : (a : Walked) (k : Declared) → WalkIn a → In k → WalkIn (behind a k)
behind_in a k w h = record { declared = h; steps = w.steps }

var_in : (k : Declared) (v : VarValue) → In k → AllNum v.start → In (with_var v k)
var_in k v h f = record { vars = vars_push k.vars v h.vars f; dats = h.dats; names = h.names }

name_in : (k : Declared) (x : List ℕ) (n : Meaning) → In k → MeaningNum n → In (with_name x n k)
name_in k x n h f = record { vars = h.vars; dats = h.dats; names = record { file = h.names.file; own = known-fits NameNum x n k.names.own f h.names.own } }

file_name_in : (k : Declared) (x : List ℕ) (n : Meaning) → In k → MeaningNum n → In (with_file_name x n k)
file_name_in k x n h f = record { vars = h.vars; dats = h.dats; names = record { file = known-fits NameNum x n k.names.file f h.names.file; own = h.names.own } }

constant_in : (places : List Pos) (v : ℕ) (from : Option ℕ) (xs : List VarValue) → VarsNum xs → VarsNum (with_constant places v from xs)
constant_in places v from [] h = tt
constant_in places zero from (x ∷ xs) h = h
constant_in places (suc v) from (x ∷ xs) h = (h.0, constant_in places v from xs h.1)

module _ (places : List Pos) (cs : List ConstDecl) (es : List Named) (entries : EntriesNum es) where
  -- ---- the file

  file_value_in : (k : Declared) (c : Bool) (x : List ℕ) (z : ℤ) → In k → Num z → In (with_file_value places cs k c x z)
  file_value_in k false x z h f = file_name_in (with_var (changing x (z ∷ [])) k) x (m.Variable (next_cells k true false 1)) (var_in k (changing x (z ∷ [])) h (f, tt)) tt
  file_value_in k true x z h f = file_name_in (with_var (unchanging x z (first_cell cs x)) k) x (m.Fixed z (next_cells k true false 1)) (var_in k (unchanging x z (first_cell cs x)) h (f, tt)) f

  file_declr : (k : Declared) (c : Bool) (d : DeclrTree) → In k → IsRead d → Gives In (judged_file_declr places cs k c d)
  file_declr k c (tree.Plain x) h r = file_name_in (with_var (changing x.name (pos 0 ∷ [])) k) x.name
      (m.Variable (next_cells k true false 1)) (var_in k (changing x.name (pos 0 ∷ [])) h (zero_num, tt)) tt
  file_declr k c (tree.Init x e) h r =
      gives_then Num In (judged_value places k.names e) (λ z. Ok (with_file_value places cs k c x.name z)) (value_is_num places k.names h.names e r) (λ z f. file_value_in k c x.name z h f)
  file_declr k c (tree.Array x n) h r =
      let v = changing x.name (replicate (count_of n) (pos 0)) in
      file_name_in (with_var v k) x.name (m.Variable (next_cells k true true (count_of n))) (var_in k v h (nums_same (count_of n) (pos 0) zero_num)) tt

  file_declrs : (k : Declared) (c : Bool) (ds : List DeclrTree) → In k → All IsRead ds → Gives In (judged_file_declrs places cs k c ds)
  file_declrs k c [] h r = h
  file_declrs k c (d ∷ ds) h r =
      gives_then In In (judged_file_declr places cs k c d) (λ l. judged_file_declrs places cs l c ds) (file_declr k c d h (All-head IsRead d ds r))
      (λ l i. file_declrs l c ds i (All-tail IsRead d ds r))

  extern_in : (k : Declared) (x : Ident) (e : Option Entry) → In k → IfSome e EntryNum → Gives In (judged_extern places cs es k x e)
  extern_in k x (Some (One z)) h f = file_name_in k x.name (m.Extern z) h f
  extern_in k x (Some (Many zs)) h f = tt
  extern_in k x None h f = tt

  array_in : (k : Declared) (x : Ident) (e : Option Entry) → In k → Gives In (judged_array places cs es k x e)
  array_in k x (Some (One z)) h = tt
  array_in k x (Some (Many zs)) h = file_name_in k x.name m.ExternArray h tt
  array_in k x None h = tt

  top_in : (k : Declared) (t : TopTree) → In k → TopIsRead t → Gives In (judged_top places cs es k t)
  top_in k (tree.Extern x) h r = extern_in k x (lookup (bytes_eq x.name) es) h (All-lookup EntryNum (bytes_eq x.name) es entries)
  top_in k (tree.ExternArray x) h r = array_in k x (lookup (bytes_eq x.name) es) h
  top_in k (tree.FileDeclaration v) h r = file_declrs k v.is_const v.declrs h r
  top_in k (tree.Kernel f) h r =
      let g = file_name_in k f.name.name (m.Kernel k.kernels (length f.params)) h tt in
      record { vars = g.vars; dats = g.dats; names = g.names }

  pub tops_in : (k : Declared) (ts : List TopTree) → In k → All TopIsRead ts → Gives In (judged_tops places cs es k ts)
  tops_in k [] h r = h
  tops_in k (t ∷ ts) h r =
      gives_then In In (judged_top places cs es k t) (λ l. judged_tops places cs es l ts) (top_in k t h (All-head TopIsRead t ts r)) (λ l i. tops_in l ts i (All-tail TopIsRead t ts r))

  -- ---- `main`

  const_in : (in_for is_nested : Bool) (a : Walked) (x : List ℕ) (e : ExprTree) → WalkIn a → HasNumbers e → Gives WalkIn (const_at places in_for is_nested a x e)
  const_in true is_nested a x e w f =
      gives_then (λ (v : Asked). Nums v.value) WalkIn (judged_static places a.declared.names e)
      (λ v. Ok (does (Fix v None) (behind a (with_turning places a.declared x))))
      (static_num places a.declared.names w.declared.names e f)
      (λ v i. step_in (Fix v None) a (with_turning places a.declared x) w (name_in a.declared x _ w.declared tt) i)
  const_in false true a x e w f =
      gives_then (λ (v : Asked). Nums v.value) WalkIn (judged_static places a.declared.names e)
      (λ v. Ok (does (Fix v (Some (length a.declared.vars))) (behind a (with_fixed_later places a.declared x))))
      (static_num places a.declared.names w.declared.names e f)
      (λ v i. step_in (Fix v (Some (length a.declared.vars))) a (with_fixed_later places a.declared x) w
      (name_in (with_var (unchanging x (pos 0) None) a.declared) x _ (var_in a.declared (unchanging x (pos 0) None) w.declared (zero_num, tt)) tt) i)
  const_in false false a x e w f =
      gives_then Num WalkIn (judged_value places a.declared.names e) (λ z. Ok (behind a (with_fixed places a.declared x z))) (value_is_num places a.declared.names w.declared.names e f)
      (λ z i. behind_in a (with_fixed places a.declared x z) w
      (name_in (with_var (unchanging x z None) a.declared) x (m.Fixed z (next_cells a.declared false false 1))
      (var_in a.declared (unchanging x z None) w.declared (i, tt)) i))

  changing_in : (k : Declared) (x : List ℕ) (is_array : Bool) (n : ℕ) → In k → In (with_changing places k x is_array n)
  changing_in k x is_array n h =
      let v = changing x (replicate n (pos 0)) in
      name_in (with_var v k) x (m.Variable (next_cells k false is_array n)) (var_in k v h (nums_same n (pos 0) zero_num)) tt

  declr_in : (a : Walked) (w : Spot) (c : Bool) (d : DeclrTree) → WalkIn a → IsRead d → Gives WalkIn (judged_declr places a w c d)
  declr_in a w true (tree.Init x e) h f = const_in w.in_for w.is_nested a x.name e h f
  declr_in a w false (tree.Init x e) h f = step_in _ a (with_changing places a.declared x.name false 1) h (changing_in a.declared x.name false 1 h.declared) tt
  declr_in a w true (tree.Plain x) h f = step_in _ a (with_changing places a.declared x.name false 1) h (changing_in a.declared x.name false 1 h.declared) tt
  declr_in a w false (tree.Plain x) h f = step_in _ a (with_changing places a.declared x.name false 1) h (changing_in a.declared x.name false 1 h.declared) tt
  declr_in a w true (tree.Array x n) h f = step_in _ a (with_changing places a.declared x.name true (count_of n)) h (changing_in a.declared x.name true (count_of n) h.declared) tt
  declr_in a w false (tree.Array x n) h f = step_in _ a (with_changing places a.declared x.name true (count_of n)) h (changing_in a.declared x.name true (count_of n) h.declared) tt

  declrs_in : (a : Walked) (w : Spot) (c : Bool) (ds : List DeclrTree) → WalkIn a → All IsRead ds → Gives WalkIn (judged_declrs places a w c ds)
  declrs_in a w c [] h f = h
  declrs_in a w c (d ∷ ds) h f =
      gives_then WalkIn WalkIn (judged_declr places a w c d) (λ b. judged_declrs places b w c ds) (declr_in a w c d h (All-head IsRead d ds f))
      (λ b i. declrs_in b w c ds i (All-tail IsRead d ds f))

  -- ---- calls

  declares_in : (a : Walked) (r : Judged Declared) → WalkIn a → Gives In r → Gives WalkIn (declares places cs es a r)
  declares_in a r w g = gives_then In WalkIn r (λ k. Ok (behind a k)) g (λ k i. behind_in a k w i)

  extern_var_in : (k : Declared) (x : List ℕ) (zs : List ℤ) → In k → AllNum zs → In (with_extern x zs k)
  extern_var_in k x zs h f = pick (is_some (lookup (bytes_eq x) k.externs))
    where
      pick : (b : Bool) → In (if b then k else (record (with_var (extern_var x zs) k) { externs = k.externs ++ (x, length k.vars) ∷ [] }))
      pick true = h
      pick false = record { vars = vars_push k.vars (extern_var x zs) h.vars f; dats = h.dats; names = h.names }

  global_in : (k : Declared) (a : LoopArg) → In k → In (after_global es a k)
  global_in k (arg.Dat at x i v d l a a_at) h = h
  global_in k (arg.Global at g d l a a_at) h = pick (means k.names g.name.name) (means_num k.names g.name.name h.names)
    where
      by : Option Meaning → Declared
      by (Some (m.Extern z)) = with_extern g.name.name (z ∷ []) k
      by (Some m.ExternArray) = with_extern g.name.name (values_named es g.name.name) k
      by o = k

      pick : (o : Option Meaning) → IfSome o MeaningNum → In (by o)
      pick None f = h
      pick (Some (m.Extern z)) f = extern_var_in k g.name.name (z ∷ []) h (f, tt)
      pick (Some m.ExternArray) f = extern_var_in k g.name.name (values_named es g.name.name) h (values_num es g.name.name entries)
      pick (Some (m.Kernel number params)) f = h
      pick (Some (m.Set s)) f = h
      pick (Some (m.Map s)) f = h
      pick (Some (m.Dat s)) f = h
      pick (Some (m.Variable c)) f = h
      pick (Some (m.Fixed z c)) f = h
      pick (Some (m.FixedLater t c)) f = h
      pick (Some (m.Turning t)) f = h

  globals_in : (k : Declared) (args : List LoopArg) → In k → In (after_globals es args k)
  globals_in k [] h = h
  globals_in k (a ∷ args) h = globals_in (after_global es a k) args (global_in k a h)

  after_constant_in : (k : Declared) (x : List ℕ) (o : Option Cells) → In k → In (after_constant places cs k x o)
  after_constant_in k x None h = h
  after_constant_in k x (Some c) h = record { vars = constant_in places c.var (first_cell cs x) k.vars h.vars; dats = h.dats; names = h.names }

  own_in : (k : Declared) (x : List ℕ) (n : Meaning) → In k → MeaningNum n → NamesNum (known_name x n k.names.own)
  own_in k x n h f = known-fits NameNum x n k.names.own f h.names.own

  call_in : (a : Walked) (w : Spot) (c : OpCallTree) → WalkIn a → Gives WalkIn (judged_call places cs es a w c)
  call_in a w (tree.CallInit at i) h = h
  call_in a w (tree.DeclSet at x e l) h =
      declares_in a (judged_set places a.declared w.is_nested at x e) h
      (gives_unless In (set_decl_found places a.declared w.is_nested at e) _
      (λ none. record {
        vars = h.declared.vars;
        dats = h.declared.dats;
        names =
            record { file = h.declared.names.file; own = own_in a.declared x.name _ h.declared tt };
      }))
  call_in a w (tree.DeclMap at x from to i v l) h =
      declares_in a (judged_map places es a.declared w.is_nested at x from to i v) h
      (gives_unless In (map_decl_found places es a.declared w.is_nested at from to i v) _
      (λ none. record {
        vars = h.declared.vars;
        dats = h.declared.dats;
        names =
            record { file = h.declared.names.file; own = own_in a.declared x.name _ h.declared tt };
      }))
  call_in a w (tree.DeclDat at x on i u v l) h =
      declares_in a (judged_dat places es a.declared w.is_nested at x on i u v) h
      (gives_unless In (dat_decl_found places es a.declared w.is_nested at on i u v) _
      (λ none. record {
        vars = h.declared.vars;
        dats = dats_push a.declared.mesh.dats _ h.declared.dats (array_num es v.name (means a.declared.names v.name) entries);
        names = record { file = h.declared.names.file; own = own_in a.declared x.name _ h.declared tt };
      }))
  call_in a w (tree.DeclConst at i u g) h =
      declares_in a (judged_constant places cs a.declared w.is_nested at i u g) h
      (gives_unless In (constant_decl_found places a.declared w.is_nested at i u g) (after_constant places cs a.declared g.name.name (file_cells places (means a.declared.names g.name.name)))
      (λ none. after_constant_in a.declared g.name.name (file_cells places (means a.declared.names g.name.name)) h.declared))
  call_in a w (tree.ParLoop at f l on args) h =
      let j = after_globals es args a.declared in
      gives_then In WalkIn (judged_loop places es a.declared at f on args) (λ k. Ok (does (Loop (length a.declared.sites)) (behind a k)))
      (gives_unless In (loop_found places es j at f on args) (record j { sites = j.sites ++ site places es j at f on args ∷ [] })
      (λ none. let g = globals_in a.declared args h.declared in record { vars = g.vars; dats = g.dats; names = g.names }))
      (λ k i. step_in (Loop (length a.declared.sites)) a k h i tt)
  call_in a w (tree.Printf at l xs) h =
      gives_unless WalkIn (line_found places cs es at l (length xs) (conversions l.text))
      (does (Do (Line l.text (map (resolved places a.declared.names) xs))) a) (λ none. step_in _ a a.declared h h.declared tt)
  call_in a w (tree.PrintDat at x l) h =
      gives_unless WalkIn (found_if places (is_none (dat_of (means a.declared.names x.name))) x.at refusal.UnknownDat)
      (does (Do (Print (or_zero (dat_of (means a.declared.names x.name))) l.text)) a) (λ none. step_in _ a a.declared h h.declared tt)

  -- ---- statements

  opened_in : (a : Walked) → WalkIn a → WalkIn (opened places cs es a)
  opened_in a h = record { declared = h.declared; steps = tt }

  followed_in : (a : Walked) (s : Step) (b : Walked) → WalkIn a → WalkIn b → StepNum s → WalkIn (followed_by places cs es a s b)
  followed_in a s b h i f = step_in s a b.declared h i.declared f

  ended_in : (a : Walked) (s : Step) (b : Walked) → WalkIn a → WalkIn b → StepNum s → WalkIn (ended places cs es a s b)
  ended_in a s b h i f =
      step_in s a _ h
      (record {
        vars = i.declared.vars;
        dats = i.declared.dats;
        names = record { file = i.declared.names.file; own = All-take NameNum (length a.declared.names.own) b.declared.names.own i.declared.names.own };
      })
      f

  counter_in : (a : Walked) (x : Ident) → WalkIn a → WalkIn (with_counter places cs es a x)
  counter_in a x h = record { declared = name_in a.declared x.name _ h.declared tt; steps = tt }

  abbrev Bounds : Asked × Asked → Type 0
  Bounds r = Nums r.0.value × Nums r.1.value

  bounds_in : (a : Walked) (f : HostForHeaderTree) → WalkIn a → HasNumbers f.from → HasNumbers f.to → Gives Bounds (judged_bounds places cs es a f)
  bounds_in a f h from to =
      gives_then (λ (v : Asked). Nums v.value) Bounds (judged_static places a.declared.names f.from)
      (λ v. judged_static places (with_counter places cs es a f.name).declared.names f.to >>= λ w. Ok (v, w))
      (static_num places a.declared.names h.declared.names f.from from)
      (λ v i. gives_then (λ (w : Asked). Nums w.value) Bounds
      (judged_static places (with_counter places cs es a f.name).declared.names f.to) (λ w. Ok (v, w))
      (static_num places (with_counter places cs es a f.name).declared.names (counter_in a f.name h).declared.names f.to to)
      (λ w j. (i, j)))

  mutual
    host_in : (a : Walked) (w : Spot) (x : HostTree) → WalkIn a → HostIsRead x → Gives WalkIn (judged_host places cs es a w x)
    host_in a w (tree.HostDeclaration v) h r = declrs_in a w v.is_const v.declrs h r
    host_in a w (tree.HostBlock at hs) h r =
        gives_then WalkIn WalkIn (judged_hosts places cs es (opened places cs es a) (nested w) hs)
        (λ b. Ok (ended places cs es a (Block b.steps) b)) (hosts_in (opened places cs es a) (nested w) hs (opened_in a h) r)
        (λ b i. ended_in a (Block b.steps) b h i i.steps)
    host_in a w (tree.HostEmpty at) h r = h
    host_in a w (tree.HostAssign e) h r = step_in _ a a.declared h h.declared tt
    host_in a w (tree.HostIf at e x) h r =
        gives_then (λ (c : Asked). Nums c.value) WalkIn (judged_static places a.declared.names e)
        (λ c. judged_host places cs es (opened places cs es a) (nested w) x >>= λ b. Ok
        (followed_by places cs es a (Choose c (Block b.steps) (Block NoStep)) b))
        (static_num places a.declared.names h.declared.names e r.0)
        (λ c u. gives_then WalkIn WalkIn (judged_host places cs es (opened places cs es a) (nested w) x)
        (λ b. Ok (followed_by places cs es a (Choose c (Block b.steps) (Block NoStep)) b))
        (host_in (opened places cs es a) (nested w) x (opened_in a h) r.1)
        (λ b i. followed_in a (Choose c (Block b.steps) (Block NoStep)) b h i (u, i.steps, tt)))
    host_in a w (tree.HostIfElse at e x y) h r =
        gives_then (λ (c : Asked). Nums c.value) WalkIn (judged_static places a.declared.names e)
        (λ c. judged_host places cs es (opened places cs es a) (nested w) x >>= λ b. judged_host places cs es (opened places cs es b)
        (nested w) y >>= λ d. Ok (followed_by places cs es a (Choose c (Block b.steps) (Block d.steps)) d))
        (static_num places a.declared.names h.declared.names e r.0)
        (λ c u. gives_then WalkIn WalkIn (judged_host places cs es (opened places cs es a) (nested w) x)
        (λ b. judged_host places cs es (opened places cs es b) (nested w) y >>= λ d. Ok (followed_by places cs es a (Choose c (Block b.steps) (Block d.steps)) d))
        (host_in (opened places cs es a) (nested w) x (opened_in a h) r.1)
        (λ b i. gives_then WalkIn WalkIn (judged_host places cs es (opened places cs es b) (nested w) y)
        (λ d. Ok (followed_by places cs es a (Choose c (Block b.steps) (Block d.steps)) d)) (host_in (opened places cs es b) (nested w) y (opened_in b i) r.2)
        (λ d j. followed_in a (Choose c (Block b.steps) (Block d.steps)) d h j (u, i.steps, j.steps))))
    host_in a w (tree.HostFor f x) h r =
        gives_then Bounds WalkIn (judged_bounds places cs es a f)
        (λ v. judged_host places cs es (with_counter places cs es a f.name) turning x >>= λ b. Ok
        (ended places cs es a (Repeat v.0 v.1 (Block b.steps)) b)) (bounds_in a f h r.0 r.1)
        (λ v u. gives_then WalkIn WalkIn (judged_host places cs es (with_counter places cs es a f.name) turning x)
        (λ b. Ok (ended places cs es a (Repeat v.0 v.1 (Block b.steps)) b))
        (host_in (with_counter places cs es a f.name) turning x (counter_in a f.name h) r.2)
        (λ b i. ended_in a (Repeat v.0 v.1 (Block b.steps)) b h i (u.0, u.1, i.steps)))
    host_in a w (tree.HostCall c) h r = call_in a w c h

    pub hosts_in : (a : Walked) (w : Spot) (xs : HostTrees) → WalkIn a → HostsAreRead xs → Gives WalkIn (judged_hosts places cs es a w xs)
    hosts_in a w tree.NoHost h r = h
    hosts_in a w (tree.MoreHost x xs) h r =
        gives_then WalkIn WalkIn (judged_host places cs es a w x) (λ b. judged_hosts places cs es b w xs) (host_in a w x h r.0) (λ b i. hosts_in b w xs i r.1)
