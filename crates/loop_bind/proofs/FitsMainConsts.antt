-- The constants that `main` declares, statement by statement.
use Rattle.std.proofs.Common.{◌≡◌, ℕ, ℤ, List, [], ◌∷◌, ◌++◌, length, Bool, true, false, refl, sym, subst}
use Rattle.std.specs.Prelude.{All, Option, Some, None, IfSome, is_some, bytes_eq, if◌then◌else◌}
use Rattle.std.specs.Map.{lookup}
use Rattle.std.proofs.lemmas.List.Elements.{All-head, All-tail}
use Rattle.std.proofs.lemmas.Map.Entries.{All-lookup}
use Rattle.std.proofs.lemmas.Slice.Eq.{bytes_eq-Decides}
use Rattle.c_tree.specs.declared.lexer.tokens.Pos.{Pos}
use Rattle.c_tree.specs.declared.expressions.NumberLiteral.{NumberLiteral}
use Rattle.c_tree.specs.declared.expressions.TextLiteral.{TextLiteral}
use Rattle.c_tree.specs.declared.hosts.GlobalName.{GlobalName}
use Rattle.c_tree.specs.declared.hosts.LoopArg.{LoopArg}
use Rattle.c_tree.specs.declared.hosts.LoopArg.TheVariants as arg
use Rattle.kernel_model.specs.declared.types.kernels.ConstDecl.{ConstDecl}
use Rattle.mesh_decl.specs.Spelling.{Named}
use Rattle.bound_program.specs.declared.refusals.refusals.BindRefusal.TheVariants as refusal
use Rattle.main_declarations.specs.declared.names.scopes.Cells.{Cells}
use Rattle.main_declarations.specs.declared.names.scopes.Meaning.{Meaning}
use Rattle.main_declarations.specs.declared.names.scopes.Meaning.TheVariants as m
use Rattle.bound_program.specs.Values.{VarValue}
use Rattle.main_declarations.specs.Names.{Names, named_in, or_else, means}
use Rattle.bound_program.specs.Refusals.{found_if}
use Rattle.main_declarations.specs.SoFar.{Declared, with_var, with_name}
use Rattle.main_declarations.specs.Meanings.{values_named}
use Rattle.main_declarations.specs.Declarations.{place_found, type_found}
use Rattle.main_declarations.specs.Variables.{file_cells, constant_found, after_constant, constant_decl_found, judged_constant}
use Rattle.loop_bind.specs.Arguments.{extern_var, with_extern, after_global, after_globals}
use Rattle.loop_bind.specs.FileVariables.{FileVariable, NamesApart}
use Rattle.main_declarations.proofs.Public.{Gives, gives_unless, left_nil, right_nil, not_if, never}
use Rattle.loop_bind.proofs.FitsState.{known-fits}
use Rattle.loop_bind.proofs.FitsTags.{Tagged, tagged_push, tagged_constant, HasName}
use Rattle.loop_bind.proofs.FitsFileConsts.{EntryNamed}

-- ---- a name of the file

-- what is so of each entry is so of the one that is found, under the name by which it is found
found_named : (P : List ℕ × Meaning → Type 0) (x : List ℕ) (ns : Names) → All P ns → IfSome (lookup (bytes_eq x) ns) (λ o. P (x, o))
found_named P x [] h = tt
found_named P x (e ∷ ns) h = pick (found_named P x ns (All-tail P e ns h)) (bytes_eq x e.0) refl
  where
    here : bytes_eq x e.0 ≡ true → P (x, e.1)
    here q = subst (λ y. P (y, e.1)) (sym ((bytes_eq-Decides x e.0).0 q)) (All-head P e ns h)

    pick : IfSome (lookup (bytes_eq x) ns) (λ o. P (x, o)) → (b : Bool) → bytes_eq x e.0 ≡ b → IfSome (if b then Some e.1 else lookup (bytes_eq x) ns) (λ o. P (x, o))
    pick rest true q = here q
    pick rest false q = rest

-- a variable of `main` is none of the file
abbrev pub OfMain : Meaning → Type 0
OfMain (m.Variable c) = c.of_file ≡ false
OfMain (m.Fixed z c) = c.of_file ≡ false
OfMain o = Unit {0}

abbrev pub EntryOfMain : List ℕ × Meaning → Type 0
EntryOfMain e = OfMain e.1

module _ (cs : List ConstDecl) (fs : List FileVariable) (apart : NamesApart fs) where
  -- the variables of the file have their cells, where they are `const` or named so far
  pub record MainConsts (done : List (List ℕ)) (k : Declared) : Type 0 where
    pub tagged : Tagged cs done fs k.vars
    pub file : All (EntryNamed cs fs) k.names.file
    pub own : All EntryOfMain k.names.own

  pub name_goes : (done : List (List ℕ)) (k : Declared) (x : List ℕ) (o : Meaning) → MainConsts done k → OfMain o → MainConsts done (with_name x o k)
  name_goes done k x o h i = record { tagged = h.tagged; file = h.file; own = known-fits EntryOfMain x o k.names.own i h.own }

  pub var_goes : (done : List (List ℕ)) (k : Declared) (v : VarValue) → MainConsts done k → v.constant ≡ None → MainConsts done (with_var v k)
  var_goes done k v h e = record { tagged = tagged_push cs done fs k.vars v e h.tagged; file = h.file; own = h.own }

  pub both_go : (done : List (List ℕ)) (k : Declared) (x : List ℕ) (o : Meaning) (v : VarValue) → MainConsts done k → v.constant ≡ None → OfMain o → MainConsts done (with_name x o (with_var v k))
  both_go done k x o v h e i = name_goes done (with_var v k) x o (var_goes done k v h e) i

  -- ---- externs

  extern_goes : (done : List (List ℕ)) (k : Declared) (x : List ℕ) (zs : List ℤ) → MainConsts done k → MainConsts done (with_extern x zs k)
  extern_goes done k x zs h = pick (is_some (lookup (bytes_eq x) k.externs))
    where
      i : MainConsts done (with_var (extern_var x zs) k)
      i = var_goes done k (extern_var x zs) h refl

      pick : (b : Bool) → MainConsts done (if b then k else (record (with_var (extern_var x zs) k) { externs = k.externs ++ (x, length k.vars) ∷ [] }))
      pick true = h
      pick false = record { tagged = i.tagged; file = i.file; own = i.own }

  global_goes : (es : List Named) (done : List (List ℕ)) (k : Declared) (a : LoopArg) → MainConsts done k → MainConsts done (after_global es a k)
  global_goes es done k (arg.Dat at x i v n l a a_at) h = h
  global_goes es done k (arg.Global at g n l a a_at) h = pick (means k.names g.name.name)
    where
      by : Option Meaning → Declared
      by (Some (m.Extern z)) = with_extern g.name.name (z ∷ []) k
      by (Some m.ExternArray) = with_extern g.name.name (values_named es g.name.name) k
      by o = k

      pick : (o : Option Meaning) → MainConsts done (by o)
      pick None = h
      pick (Some (m.Extern z)) = extern_goes done k g.name.name (z ∷ []) h
      pick (Some m.ExternArray) = extern_goes done k g.name.name (values_named es g.name.name) h
      pick (Some (m.Kernel number params)) = h
      pick (Some (m.Set s)) = h
      pick (Some (m.Map s)) = h
      pick (Some (m.Dat s)) = h
      pick (Some (m.Variable c)) = h
      pick (Some (m.Fixed z c)) = h
      pick (Some (m.FixedLater t c)) = h
      pick (Some (m.Turning t)) = h

  pub globals_go : (es : List Named) (done : List (List ℕ)) (k : Declared) (args : List LoopArg) → MainConsts done k → MainConsts done (after_globals es args k)
  globals_go es done k [] h = h
  globals_go es done k (a ∷ args) h = globals_go es done (after_global es a k) args (global_goes es done k a h)

  -- ---- a constant

  module _ (places : List Pos) where
    -- the cells of a name that `op_decl_const` can name are those of its variable of the file
    cells_are : (x : List ℕ) (a b : Option Meaning) → IfSome a OfMain → IfSome b (λ o. EntryNamed cs fs (x, o)) → IfSome (file_cells places (or_else a b)) (λ c. HasName cs fs c.var x)
    cells_are x a b f g = by_own a f
      where
        if_own : (c : Cells) (t : Bool) → t ≡ false → IfSome (if t then Some c else None) (λ d. HasName cs fs d.var x)
        if_own c true e = never e
        if_own c false e = tt

        if_file : (c : Cells) (t : Bool) → HasName cs fs c.var x → IfSome (if t then Some c else None) (λ d. HasName cs fs d.var x)
        if_file c true h = h
        if_file c false h = tt

        by_file : (b : Option Meaning) → IfSome b (λ o. EntryNamed cs fs (x, o)) → IfSome (file_cells places b) (λ c. HasName cs fs c.var x)
        by_file None g = tt
        by_file (Some (m.Extern z)) g = tt
        by_file (Some m.ExternArray) g = tt
        by_file (Some (m.Kernel number params)) g = tt
        by_file (Some (m.Set s)) g = tt
        by_file (Some (m.Map s)) g = tt
        by_file (Some (m.Dat s)) g = tt
        by_file (Some (m.Variable c)) g = if_file c c.of_file g
        by_file (Some (m.Fixed z c)) g = if_file c c.of_file g
        by_file (Some (m.FixedLater t c)) g = tt
        by_file (Some (m.Turning t)) g = tt

        by_own : (a : Option Meaning) → IfSome a OfMain → IfSome (file_cells places (or_else a b)) (λ c. HasName cs fs c.var x)
        by_own None f = by_file b g
        by_own (Some (m.Extern z)) f = tt
        by_own (Some m.ExternArray) f = tt
        by_own (Some (m.Kernel number params)) f = tt
        by_own (Some (m.Set s)) f = tt
        by_own (Some (m.Map s)) f = tt
        by_own (Some (m.Dat s)) f = tt
        by_own (Some (m.Variable c)) f = if_own c c.of_file f
        by_own (Some (m.Fixed z c)) f = if_own c c.of_file f
        by_own (Some (m.FixedLater t c)) f = tt
        by_own (Some (m.Turning t)) f = tt

    pub constant_goes : (done : List (List ℕ)) (k : Declared) (n : Bool) (t : ℕ) (d : NumberLiteral) (l : TextLiteral) (g : GlobalName)
        → MainConsts done k → Gives (MainConsts (done ++ g.name.name ∷ [])) (judged_constant places cs k n t d l g)
    constant_goes done k n t d l g h =
        gives_unless (MainConsts (done ++ g.name.name ∷ [])) (constant_decl_found places k n t d l g) (after_constant places cs k g.name.name (file_cells places (means k.names g.name.name)))
        (λ none.
        let x = g.name.name in
        let o = file_cells places (means k.names x) in
        let p = place_found places k n t in
        let c = constant_found places d g (file_cells places (means k.names x)) in
        let y = type_found places l in
        pick (file_cells places (means k.names x)) (right_nil p c (left_nil (p ++ c) y none))
        (cells_are x (named_in k.names.own x) (named_in k.names.file x) (All-lookup OfMain (bytes_eq x) k.names.own h.own) (found_named (EntryNamed cs fs) x k.names.file h.file)))
      where
        pick : (o : Option Cells) → constant_found places d g o ≡ [] → IfSome o (λ c. HasName cs fs c.var g.name.name)
            → MainConsts (done ++ g.name.name ∷ []) (after_constant places cs k g.name.name o)
        pick None e i = never (not_if places true g.name.at refusal.UnknownEntry (left_nil (found_if places true g.name.at refusal.UnknownEntry) _ e))
        pick (Some c) e i = record { tagged = tagged_constant cs places done g.name.name fs k.vars c.var apart i h.tagged; file = h.file; own = h.own }
