-- Binding is never refused for want of memory.
use Rattle.std.proofs.Common.{◌≡◌, ℕ, zero, suc, Bool, true, false, List, [], ◌∷◌, length, Option, Some, None, Ok, Err, nat_lt, if◌then◌else◌, subst, bytes_eq}
use Rattle.std.specs.Map.{lookup}
use Rattle.c_tree.specs.declared.lexer.tokens.Pos.{Pos}
use Rattle.c_tree.specs.declared.expressions.Ident.{Ident}
use Rattle.c_tree.specs.Tree as tree
use Rattle.c_tree.specs.Tree.{ExprTree, DeclrTree, Plain, Init, Array, TopTree, OpCallTree, HostTree, HostTrees, HostForHeaderTree, ProgramTree}
use Rattle.kernel_model.specs.Numbers.{Value}
use Rattle.kernel_model.specs.declared.types.kernels.ConstDecl.{ConstDecl}
use Rattle.kernel_model.specs.declared.types.kernels.Resolved.{Resolved}
use Rattle.mesh_decl.specs.Mesh.{MeshValue}
use Rattle.mesh_decl.specs.declared.text.entry.Entry.{Entry}
use Rattle.mesh_decl.specs.declared.text.entry.Entry.TheVariants.{One, Many}
use Rattle.mesh_decl.specs.Spelling.{Named}
use Rattle.bound_program.specs.declared.refusals.refusals.BindRefusal.TheVariants as refusal
use Rattle.bound_program.specs.declared.refusals.refusals.Counted.TheVariants as counted
use Rattle.bound_program.specs.declared.refusals.founds.Found.{Found}
use Rattle.bound_program.specs.Refusals.{Judged, ◌>>=◌, unless, unless_found}
use Rattle.bound_program.specs.Limits.{max_trace, max_weight}
use Rattle.bound_program.specs.Values.{BoundValue}
use Rattle.main_declarations.specs.declared.names.walks.Spot.{Spot}
use Rattle.main_declarations.specs.Names.{Scope}
use Rattle.main_declarations.specs.Expressions.{known, judged_static, judged_value}
use Rattle.main_declarations.specs.SoFar.{Declared, Walked, quiet, nothing_declared}
use Rattle.bound_program.specs.Trace.{Event, Turn, Does, Tells, Stops}
use Rattle.bound_program.specs.Limited.{UnrolledValue, before, item, told, unrolled}
use Rattle.main_declarations.specs.File.{judged_extern, judged_array, judged_top, judged_tops}
use Rattle.main_declarations.specs.Variables.{judged_file_declr, judged_file_declrs, const_at, judged_declr, judged_declrs}
use Rattle.loop_bind.specs.Arguments.{after_globals, loop_found, judged_loop}
use Rattle.mesh_decl.specs.Printed.{conversions}
use Rattle.loop_bind.specs.Text.{line_found, judged_call, judged_bounds, judged_host, judged_hosts, with_counter, outermost}
use Rattle.loop_bind.specs.Weights.{weight_of_all, within_weight, weighed, trace}
use Rattle.loop_bind.specs.Bound.{text, unrolled_text, happens, bound}
use Rattle.loop_bind.proofs.CausedFinds.{IsCause, AllCaused, OneCaused, least_caused, if_caused, set_decl_caused, map_decl_caused, dat_decl_caused, constant_decl_caused, loop_caused, line_caused}

-- a value, or a refusal that has a cause
abbrev Caused : {A : Type 0} → Judged A → Type 0
Caused (Ok x) = Unit {0}
Caused (Err r) = IsCause r

caused_then : {A B : Type 0} (r : Judged A) (f : A → Judged B) → Caused r → ((x : A) → Caused (f x)) → Caused (r >>= f)
caused_then (Ok x) f h k = k x
caused_then (Err e) f h k = h

caused_unless : {A : Type 0} (fs : List Found) (x : A) → AllCaused fs → Caused (unless_found fs x)
caused_unless {A} fs x h = by_first _ (least_caused None fs tt h)
  where
    by_first : (o : Option Found) → OneCaused o → Caused (unless o x)
    by_first None h = tt
    by_first (Some f) h = h

-- ---- the trace

before_caused : (u : UnrolledValue) (r : Judged UnrolledValue) → Caused r → Caused (before u r)
before_caused u (Ok w) h = tt
before_caused u (Err e) h = h

unrolled_caused : (left : ℕ) (es : List Event) → Caused (unrolled left es)
unrolled_caused left [] = tt
unrolled_caused left (Stops at ∷ es) = tt
unrolled_caused left (Tells v z ∷ es) = before_caused (told v z) (unrolled left es) (unrolled_caused left es)
unrolled_caused zero (Turn ∷ es) = tt
unrolled_caused zero (Does x ∷ es) = tt
unrolled_caused (suc left) (Turn ∷ es) = unrolled_caused left es
unrolled_caused (suc left) (Does x ∷ es) = before_caused (item x) (unrolled left es) (unrolled_caused left es)

weight_caused : (n : ℕ) → Caused (within_weight n)
weight_caused n = pick (nat_lt max_weight n)
  where
    of_test : Bool → Judged (Unit {0})
    of_test b = if b then Err (refusal.Limit counted.PrintWeight n) else Ok (tt {0})

    pick : (b : Bool) → Caused {A = Unit {0}} (of_test b)
    pick true = tt
    pick false = tt

weighed_caused : (g : MeshValue) (u : UnrolledValue) → Caused (weighed g u)
weighed_caused g u = caused_then (within_weight (weight_of_all g u.items)) (λ w. Ok u) (weight_caused (weight_of_all g u.items)) (λ w. tt)

trace_caused : (g : MeshValue) (es : List Event) → Caused (trace g es)
trace_caused g es = caused_then (unrolled max_trace es) (weighed g) (unrolled_caused max_trace es) (weighed_caused g)

module _ (places : List Pos) where
  -- ---- expressions

  known_caused : (first : ℕ) (v : Value) → Caused (known places first v)
  known_caused first (Ok z) = tt
  known_caused first (Err f) = tt

  static_caused : (s : Scope) (e : ExprTree) → Caused (judged_static places s e)
  static_caused s e = caused_unless _ _ (if_caused places _ _ refusal.ControlNotStatic (λ p. tt))

  value_caused : (s : Scope) (e : ExprTree) → Caused (judged_value places s e)
  value_caused s e = caused_then (judged_static places s e) _ (static_caused s e) (λ a. known_caused _ _)

  -- ---- variables of `main`

  const_caused : (in_for is_nested : Bool) (a : Walked) (x : List ℕ) (e : ExprTree) → Caused (const_at places in_for is_nested a x e)
  const_caused true is_nested a x e = caused_then (judged_static places a.declared.names e) _ (static_caused a.declared.names e) (λ v. tt)
  const_caused false true a x e = caused_then (judged_static places a.declared.names e) _ (static_caused a.declared.names e) (λ v. tt)
  const_caused false false a x e = caused_then (judged_value places a.declared.names e) _ (value_caused a.declared.names e) (λ z. tt)

  declr_caused : (a : Walked) (w : Spot) (c : Bool) (d : DeclrTree) → Caused (judged_declr places a w c d)
  declr_caused a w true (Init x e) = const_caused w.in_for w.is_nested a x.name e
  declr_caused a w false (Init x e) = tt
  declr_caused a w true (Plain x) = tt
  declr_caused a w false (Plain x) = tt
  declr_caused a w true (Array x n) = tt
  declr_caused a w false (Array x n) = tt

  declrs_caused : (a : Walked) (w : Spot) (c : Bool) (ds : List DeclrTree) → Caused (judged_declrs places a w c ds)
  declrs_caused a w c [] = tt
  declrs_caused a w c (d ∷ ds) = caused_then (judged_declr places a w c d) _ (declr_caused a w c d) (λ b. declrs_caused b w c ds)

  module _ (consts : List ConstDecl) where
    -- ---- the file

    file_declr_caused : (k : Declared) (c : Bool) (d : DeclrTree) → Caused (judged_file_declr places consts k c d)
    file_declr_caused k c (Plain x) = tt
    file_declr_caused k c (Init x e) = caused_then (judged_value places k.names e) _ (value_caused k.names e) (λ z. tt)
    file_declr_caused k c (Array x n) = tt

    file_declrs_caused : (k : Declared) (c : Bool) (ds : List DeclrTree) → Caused (judged_file_declrs places consts k c ds)
    file_declrs_caused k c [] = tt
    file_declrs_caused k c (d ∷ ds) = caused_then (judged_file_declr places consts k c d) _ (file_declr_caused k c d) (λ l. file_declrs_caused l c ds)

    module _ (entries : List Named) where
      extern_caused : (k : Declared) (x : Ident) (o : Option Entry) → Caused (judged_extern places consts entries k x o)
      extern_caused k x (Some (One z)) = tt
      extern_caused k x (Some (Many zs)) = tt
      extern_caused k x None = tt

      array_caused : (k : Declared) (x : Ident) (o : Option Entry) → Caused (judged_array places consts entries k x o)
      array_caused k x (Some (Many zs)) = tt
      array_caused k x (Some (One z)) = tt
      array_caused k x None = tt

      top_caused : (k : Declared) (t : TopTree) → Caused (judged_top places consts entries k t)
      top_caused k (tree.Extern x) = extern_caused k x (lookup (bytes_eq x.name) entries)
      top_caused k (tree.ExternArray x) = array_caused k x (lookup (bytes_eq x.name) entries)
      top_caused k (tree.FileDeclaration v) = file_declrs_caused k v.is_const v.declrs
      top_caused k (tree.Kernel f) = tt

      tops_caused : (k : Declared) (ts : List TopTree) → Caused (judged_tops places consts entries k ts)
      tops_caused k [] = tt
      tops_caused k (t ∷ ts) = caused_then (judged_top places consts entries k t) _ (top_caused k t) (λ l. tops_caused l ts)

      -- ---- statements of `main`

      call_caused : (a : Walked) (w : Spot) (c : OpCallTree) → Caused (judged_call places consts entries a w c)
      call_caused a w (tree.CallInit at n) = tt
      call_caused a w (tree.DeclSet at x e l) = caused_then _ _ (caused_unless _ _ (set_decl_caused places a.declared w.is_nested at e)) (λ k. tt)
      call_caused a w (tree.DeclMap at x from to n v l) =
          caused_then _ _ (caused_unless _ _ (map_decl_caused places entries a.declared w.is_nested at from to n v)) (λ k. tt)
      call_caused a w (tree.DeclDat at x on n u v l) =
          caused_then _ _ (caused_unless _ _ (dat_decl_caused places entries a.declared w.is_nested at on n u v)) (λ k. tt)
      call_caused a w (tree.DeclConst at n u g) =
          caused_then _ _ (caused_unless _ _ (constant_decl_caused places a.declared w.is_nested at n u g)) (λ k. tt)
      call_caused a w (tree.ParLoop at f l on args) =
          let k = after_globals entries args a.declared in
          caused_then (judged_loop places entries a.declared at f on args) _
          (caused_unless (loop_found places entries k at f on args) _ (loop_caused places entries k at f on args)) (λ k. tt)
      call_caused a w (tree.Printf at l es) = caused_unless (line_found places consts entries at l (length es) (conversions l.text)) _
          (line_caused places consts entries at l (length es) (conversions l.text))
      call_caused a w (tree.PrintDat at x l) = caused_unless _ _ (if_caused places _ x.at refusal.UnknownDat (λ p. tt))

      bounds_caused : (a : Walked) (f : HostForHeaderTree) → Caused (judged_bounds places consts entries a f)
      bounds_caused a f =
          caused_then (judged_static places a.declared.names f.from) _ (static_caused a.declared.names f.from)
          (λ from. caused_then (judged_static places (with_counter places consts entries a f.name).declared.names f.to) _
          (static_caused (with_counter places consts entries a f.name).declared.names f.to) (λ to. tt))

      mutual
        host_caused : (a : Walked) (w : Spot) (h : HostTree) → Caused (judged_host places consts entries a w h)
        host_caused a w (tree.HostDeclaration v) = declrs_caused a w v.is_const v.declrs
        host_caused a w (tree.HostBlock at hs) = caused_then (judged_hosts places consts entries _ _ hs) _ (hosts_caused _ _ hs) (λ b. tt)
        host_caused a w (tree.HostEmpty at) = tt
        host_caused a w (tree.HostAssign e) = tt
        host_caused a w (tree.HostIf at e h) =
            caused_then (judged_static places a.declared.names e) _ (static_caused a.declared.names e)
            (λ c. caused_then (judged_host places consts entries _ _ h) _ (host_caused _ _ h) (λ b. tt))
        host_caused a w (tree.HostIfElse at e h g) =
            caused_then (judged_static places a.declared.names e) _ (static_caused a.declared.names e)
            (λ c. caused_then (judged_host places consts entries _ _ h) _ (host_caused _ _ h)
            (λ b. caused_then (judged_host places consts entries _ _ g) _ (host_caused _ _ g) (λ d. tt)))
        host_caused a w (tree.HostFor f h) =
            caused_then (judged_bounds places consts entries a f) _ (bounds_caused a f)
            (λ r. caused_then (judged_host places consts entries _ _ h) _ (host_caused _ _ h) (λ b. tt))
        host_caused a w (tree.HostCall c) = call_caused a w c

        hosts_caused : (a : Walked) (w : Spot) (hs : HostTrees) → Caused (judged_hosts places consts entries a w hs)
        hosts_caused a w tree.NoHost = tt
        hosts_caused a w (tree.MoreHost h hs) = caused_then (judged_host places consts entries a w h) _ (host_caused a w h) (λ b. hosts_caused b w hs)

-- ---- the whole

text_caused : (p : ProgramTree) (r : Resolved) (es : List Named) → Caused (text p r es)
text_caused p r es =
    caused_then (judged_tops p.places r.consts.items es nothing_declared p.tops) _ (tops_caused p.places r.consts.items es nothing_declared p.tops)
    (λ k. hosts_caused p.places r.consts.items es (quiet k) outermost p.main.body)

bound_caused : (p : ProgramTree) (r : Resolved) (es : List Named) → Caused (bound p r es)
bound_caused p r es =
    caused_then (text p r es) (unrolled_text r) (text_caused p r es)
    (λ w. caused_then (trace w.declared.mesh (happens w)) _ (trace_caused w.declared.mesh (happens w)) (λ u. tt))

pub refusals_have_causes : (p : ProgramTree) (r : Resolved) (es : List Named) → ¬ (bound p r es ≡ Err refusal.OutOfMemory)
refusals_have_causes p r es e = let P : Judged BoundValue → Type 0 = λ o. Caused o in subst P e (bound_caused p r es)
