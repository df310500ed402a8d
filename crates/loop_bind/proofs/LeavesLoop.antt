-- A loop of which nothing is refused sets no variable that is `const`.
use Rattle.std.proofs.Common.{◌≡◌, ℕ, ℤ, List, [], ◌∷◌, ◌++◌, length, map, Bool, true, false, refl, subst, inl, inr}
use Rattle.std.specs.Prelude.{All, ◌⊎◌, Option, Some, None, IfSome, is_some, bytes_eq, nat_eq, if◌then◌else◌}
use Rattle.std.specs.Map.{lookup}
use Rattle.std.proofs.lemmas.List.Elements.{All-nil, All-cons, All-push}
use Rattle.c_tree.specs.declared.lexer.tokens.Pos.{Pos}
use Rattle.c_tree.specs.declared.expressions.Ident.{Ident}
use Rattle.c_tree.specs.declared.expressions.NumberLiteral.{NumberLiteral}
use Rattle.c_tree.specs.declared.hosts.GlobalName.{GlobalName}
use Rattle.c_tree.specs.declared.hosts.LoopArg.{LoopArg}
use Rattle.c_tree.specs.declared.hosts.LoopArg.TheVariants as tree
use Rattle.op_num.specs.declared.reductions.access.Access.{Access}
use Rattle.op_num.specs.declared.reductions.access.Access.TheVariants as access
use Rattle.mesh_decl.specs.Spelling.{Named}
use Rattle.bound_program.specs.declared.refusals.refusals.BindRefusal.TheVariants as refusal
use Rattle.bound_program.specs.declared.refusals.refusals.Counted.TheVariants as counted
use Rattle.bound_program.specs.declared.refusals.founds.Turn.TheVariants.{InOrder}
use Rattle.loop_bind.specs.declared.main_text.globals.GlobalVar.{GlobalVar}
use Rattle.loop_bind.specs.declared.main_text.arguments.Earlier.{Earlier}
use Rattle.bound_program.specs.declared.sites.Arg.TheVariants.{Global}
use Rattle.main_declarations.specs.declared.names.scopes.Cells.{Cells}
use Rattle.main_declarations.specs.declared.names.scopes.Meaning.{Meaning}
use Rattle.main_declarations.specs.declared.names.scopes.Meaning.TheVariants as m
use Rattle.bound_program.specs.Values.{VarValue}
use Rattle.main_declarations.specs.Names.{means}
use Rattle.bound_program.specs.Limits.{max_dim, max_arguments}
use Rattle.bound_program.specs.Refusals.{found_if, found_over}
use Rattle.main_declarations.specs.SoFar.{Declared, with_var}
use Rattle.main_declarations.specs.Meanings.{set_of, or_zero, count_of, values_named}
use Rattle.main_declarations.specs.Declarations.{set_found, type_found}
use Rattle.main_declarations.specs.Variables.{glob_token, ampersand_found}
use Rattle.loop_bind.specs.Arguments.{access_of, slot_constant, global_of, extern_var, with_extern, after_global, after_globals, is_twice, is_reserved, is_wrong_dim, global_found, arg_found, with_earlier, args_found, kernel_found, var_number, arg_of, site, loop_found, judged_loop}
use Rattle.main_declarations.proofs.Public.{Gives, gives_unless, left_nil, right_nil, not_if, never}
use Rattle.loop_bind.proofs.LeavesState.{IsFree, stay-trans, stay-push, MeaningLeaves, ArgIsFree, SiteIsFree, Leaves, leaves-var, means_leaves, LeavesOn}
use Rattle.loop_bind.proofs.LeavesMain.{on-self}

-- ---- externs that become variables

module _ (es : List Named) where
  extern-on : (k : Declared) (x : List ℕ) (zs : List ℤ) → Leaves k → LeavesOn k (with_extern x zs k)
  extern-on k x zs h = pick (is_some (lookup (bytes_eq x) k.externs))
    where
      i : Leaves (with_var (extern_var x zs) k)
      i = leaves-var k (extern_var x zs) h

      pick : (b : Bool) → LeavesOn k (if b then k else (record (with_var (extern_var x zs) k) { externs = k.externs ++ (x, length k.vars) ∷ [] }))
      pick true = on-self k h
      pick false = record { leaves = record { file = i.file; own = i.own; sites = i.sites }; stay = stay-push k.vars (extern_var x zs) }

  global-on : (k : Declared) (a : LoopArg) → Leaves k → LeavesOn k (after_global es a k)
  global-on k (tree.Dat at x i v n l a a_at) h = on-self k h
  global-on k (tree.Global at g n l a a_at) h = pick (means k.names g.name.name)
    where
      by : Option Meaning → Declared
      by (Some (m.Extern z)) = with_extern g.name.name (z ∷ []) k
      by (Some m.ExternArray) = with_extern g.name.name (values_named es g.name.name) k
      by o = k

      pick : (o : Option Meaning) → LeavesOn k (by o)
      pick None = on-self k h
      pick (Some (m.Extern z)) = extern-on k g.name.name (z ∷ []) h
      pick (Some m.ExternArray) = extern-on k g.name.name (values_named es g.name.name) h
      pick (Some (m.Kernel number params)) = on-self k h
      pick (Some (m.Set s)) = on-self k h
      pick (Some (m.Map s)) = on-self k h
      pick (Some (m.Dat s)) = on-self k h
      pick (Some (m.Variable c)) = on-self k h
      pick (Some (m.Fixed z c)) = on-self k h
      pick (Some (m.FixedLater t c)) = on-self k h
      pick (Some (m.Turning t)) = on-self k h

  globals-on : (k : Declared) (args : List LoopArg) → Leaves k → LeavesOn k (after_globals es args k)
  globals-on k [] h = on-self k h
  globals-on k (a ∷ args) h =
      let one = global-on k a h in
      let rest = globals-on (after_global es a k) args one.leaves in
      record { leaves = rest.leaves; stay = stay-trans k.vars (after_global es a k).vars (after_globals es args (after_global es a k)).vars one.stay rest.stay }

-- ---- arguments

reads : (a : Access) → is_reserved true a ≡ false → a ≡ access.Read
reads access.Read e = refl
reads access.Write e = never e
reads access.Rw e = never e
reads access.Inc e = never e
reads access.Min e = never e
reads access.Max e = never e

-- a global is kept, or a variable that isn't `const`
abbrev IsKeptOrFree : List VarValue → GlobalVar → Type 0
IsKeptOrFree vs v = (v.is_kept ≡ true) ⊎ IsFree vs v.var

module _ (es : List Named) (places : List Pos) (k : Declared) (h : Leaves k) where
  global-is : (x : List ℕ) → IfSome (global_of es k x) (IsKeptOrFree k.vars)
  global-is x = pick (means k.names x) (means_leaves k h x)
    where
      extern : ℕ
      extern = or_zero (lookup (bytes_eq x) k.externs)

      by_cells : Cells → Bool → GlobalVar
      by_cells c kept = record { var = c.var; count = c.count; is_array = c.is_array; is_kept = kept }

      by : Option Meaning → Option GlobalVar
      by (Some (m.Extern z)) = Some (record { var = extern; count = 1; is_array = false; is_kept = true })
      by (Some m.ExternArray) = Some (record { var = extern; count = length (values_named es x); is_array = true; is_kept = true })
      by (Some (m.Variable c)) = Some (by_cells c (slot_constant k.vars c.var))
      by (Some (m.Fixed z c)) = Some (by_cells c true)
      by (Some (m.FixedLater t c)) = Some (by_cells c true)
      by _ = None

      pick : (o : Option Meaning) → IfSome o (MeaningLeaves k.vars) → IfSome (by o) (IsKeptOrFree k.vars)
      pick None f = tt
      pick (Some (m.Extern z)) f = inl refl
      pick (Some m.ExternArray) f = inl refl
      pick (Some (m.Kernel number params)) f = tt
      pick (Some (m.Set s)) f = tt
      pick (Some (m.Map s)) f = tt
      pick (Some (m.Dat s)) f = tt
      pick (Some (m.Variable c)) f = inr f
      pick (Some (m.Fixed z c)) f = inl refl
      pick (Some (m.FixedLater t c)) f = inl refl
      pick (Some (m.Turning t)) f = tt

  by-kept : (v : GlobalVar) (a : Access) → is_reserved v.is_kept a ≡ false → IsKeptOrFree k.vars v → ArgIsFree k.vars (Global v.var a)
  by-kept v a e (inl t) = inl (reads a (subst (λ b. is_reserved b a ≡ false) t e))
  by-kept v a e (inr f) = inr f

  global-free : (before : List Earlier) (g : GlobalName) (n : NumberLiteral) (a : Access) (a_at : ℕ) (o : Option GlobalVar)
      → IfSome o (IsKeptOrFree k.vars) → global_found places es before g n a a_at o ≡ []
      → ArgIsFree k.vars (Global (var_number places es o) a)
  global-free before g n a a_at None f e =
      let f1 = found_if places true g.name.at refusal.UnknownEntry in
      let f2 = found_if places (nat_eq (count_of n) 0) n.at refusal.DimMismatch in
      let f3 = found_if places (is_reserved false a) a_at refusal.ReservedAccess in
      never (not_if places true g.name.at refusal.UnknownEntry (left_nil f1 f2 (left_nil (f1 ++ f2) f3 e)))
  global-free before g n a a_at (Some v) f e =
      let f1 = ampersand_found places v.is_array g in
      let f2 = found_if places (is_twice before v.var a) (glob_token places g) refusal.GlobalTwice in
      let f3 = found_if places (is_wrong_dim (Some v.count) (count_of n)) n.at refusal.DimMismatch in
      let f4 = found_if places (is_reserved v.is_kept a) a_at refusal.ReservedAccess in
      by-kept v a (not_if places (is_reserved v.is_kept a) a_at refusal.ReservedAccess (right_nil (f1 ++ f2 ++ f3) f4 e)) f

  arg-free : (set : Option ℕ) (before : List Earlier) (x : LoopArg) → arg_found places es k set before x ≡ [] → ArgIsFree k.vars (arg_of places es k x)
  arg-free set before (tree.Dat p x i v n l a a_at) e = tt
  arg-free set before (tree.Global p g n l a a_at) e =
      let f1 = global_found places es before g n (access_of a) a_at (global_of es k g.name.name) in
      let f2 = found_over InOrder max_dim (count_of n) n.at counted.Dim in
      let f3 = type_found places l in
      global-free before g n (access_of a) a_at (global_of es k g.name.name) (global-is g.name.name) (left_nil f1 f2 (left_nil (f1 ++ f2) f3 e))

  args-free : (set : Option ℕ) (before : List Earlier) (args : List LoopArg) → args_found places es k set before args ≡ [] → All (ArgIsFree k.vars) (map (arg_of places es k) args)
  args-free set before [] e = All-nil (ArgIsFree k.vars)
  args-free set before (x ∷ xs) e =
      let f1 = arg_found places es k set before x in
      let f2 = args_found places es k set (with_earlier places es k x before) xs in
      All-cons (ArgIsFree k.vars) (arg_of places es k x) (map (arg_of places es k) xs) (arg-free set before x (left_nil f1 f2 e))
      (args-free set (with_earlier places es k x before) xs (right_nil f1 f2 e))

  site-free : (t : ℕ) (f on : Ident) (args : List LoopArg) → loop_found places es k t f on args ≡ [] → SiteIsFree k.vars (site places es k t f on args)
  site-free t f on args e =
      let f1 = kernel_found places es t f (length args) (means k.names f.name) in
      let f2 = found_over InOrder max_arguments (length args) t counted.Arguments in
      let f3 = set_found places k on in
      let f4 = args_found places es k (set_of (means k.names on.name)) [] args in
      args-free (set_of (means k.names on.name)) [] args (right_nil (f1 ++ f2 ++ f3) f4 e)

-- ---- the loop

pub loop-on : (es : List Named) (places : List Pos) (k : Declared) (t : ℕ) (f on : Ident) (args : List LoopArg) → Leaves k → Gives (LeavesOn k) (judged_loop places es k t f on args)
loop-on es places k t f on args h =
    let j = after_globals es args k in
    let adds = globals-on es k args h in
    gives_unless (LeavesOn k) (loop_found places es j t f on args) (record j { sites = j.sites ++ site places es j t f on args ∷ [] })
    (λ none. record {
      leaves = record {
        file = adds.leaves.file;
        own = adds.leaves.own;
        sites = All-push (SiteIsFree j.vars) j.sites (site places es j t f on args) adds.leaves.sites (site-free es places j adds.leaves t f on args none);
      };
      stay = adds.stay;
    })
