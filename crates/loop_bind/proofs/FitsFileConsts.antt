-- The variables of the file, in order, behind the file.
use Rattle.std.proofs.Common.{◌≡◌, ℕ, suc, ℤ, pos, ◌+◌, List, [], ◌∷◌, ◌++◌, length, replicate, Ok, Bool, true, false, refl, sym, ap, subst, arith, ◌∙◌, append_assoc, append-nil}
use Rattle.std.specs.Prelude.{All, Option, Some, None, bytes_eq, slice_index_or}
use Rattle.std.specs.Map.{lookup}
use Rattle.std.proofs.lemmas.List.{length-replicate, length_push}
use Rattle.std.proofs.lemmas.List.Elements.{All-weaker}
use Rattle.c_tree.specs.declared.lexer.tokens.Pos.{Pos}
use Rattle.c_tree.specs.declared.expressions.Ident.{Ident}
use Rattle.c_tree.specs.Tree as tree
use Rattle.c_tree.specs.Tree.{DeclrTree, TopTree}
use Rattle.kernel_model.specs.declared.types.kernels.ConstDecl.{ConstDecl}
use Rattle.mesh_decl.specs.declared.text.entry.Entry.{Entry}
use Rattle.mesh_decl.specs.declared.text.entry.Entry.TheVariants.{One, Many}
use Rattle.mesh_decl.specs.Spelling.{Named}
use Rattle.main_declarations.specs.declared.names.scopes.Meaning.{Meaning}
use Rattle.main_declarations.specs.declared.names.scopes.Meaning.TheVariants as m
use Rattle.bound_program.specs.Values.{VarValue}
use Rattle.bound_program.specs.Refusals.{Judged}
use Rattle.main_declarations.specs.SoFar.{Declared, with_var, with_file_name, next_cells, changing, unchanging, first_cell}
use Rattle.main_declarations.specs.Meanings.{count_of}
use Rattle.main_declarations.specs.Expressions.{judged_value}
use Rattle.main_declarations.specs.Variables.{with_file_value, judged_file_declr, judged_file_declrs}
use Rattle.main_declarations.specs.File.{judged_extern, judged_array, judged_top, judged_tops}
use Rattle.loop_bind.specs.FileVariables.{FileVariable, declr_variable, declrs_variables, top_variables, file_variables}
use Rattle.main_declarations.proofs.Public.{Gives, gives_then, gives_any}
use Rattle.loop_bind.proofs.FitsState.{known-fits}
use Rattle.loop_bind.proofs.FitsTags.{no_variable, Tag, Tagged, tagged_next, HasName, name_more}

-- what a judgement gives, whatever it is
-- the cells that a name of the file stands for are those of its variable
abbrev pub CellsNamed : List ConstDecl → List FileVariable → List ℕ → Meaning → Type 0
CellsNamed cs fs x (m.Variable c) = HasName cs fs c.var x
CellsNamed cs fs x (m.Fixed z c) = HasName cs fs c.var x
CellsNamed cs fs x o = Unit {0}

abbrev pub EntryNamed : List ConstDecl → List FileVariable → List ℕ × Meaning → Type 0
EntryNamed cs fs e = CellsNamed cs fs e.0 e.1

cells_more : (cs : List ConstDecl) (fs gs : List FileVariable) (x : List ℕ) (o : Meaning) → CellsNamed cs fs x o → CellsNamed cs (fs ++ gs) x o
cells_more cs fs gs x (m.Extern z) h = tt
cells_more cs fs gs x m.ExternArray h = tt
cells_more cs fs gs x (m.Kernel number params) h = tt
cells_more cs fs gs x (m.Set s) h = tt
cells_more cs fs gs x (m.Map s) h = tt
cells_more cs fs gs x (m.Dat s) h = tt
cells_more cs fs gs x (m.Variable c) h = name_more cs fs gs c.var x h
cells_more cs fs gs x (m.Fixed z c) h = name_more cs fs gs c.var x h
cells_more cs fs gs x (m.FixedLater t c) h = tt
cells_more cs fs gs x (m.Turning t) h = tt

module _ (cs : List ConstDecl) where
  -- the program has the variables of the file alone
  pub record FileConsts (fs : List FileVariable) (k : Declared) : Type 0 where
    pub tagged : Tagged cs [] fs k.vars
    pub long : length k.vars ≡ length fs
    pub file : All (EntryNamed cs fs) k.names.file
    pub own : k.names.own ≡ []

  last_name : (fs : List FileVariable) (f : FileVariable) → (slice_index_or (fs ++ f ∷ []) (length fs) (no_variable cs)).name ≡ f.name
  last_name [] f = refl
  last_name (g ∷ fs) f = last_name fs f

  -- a variable and its name
  next : (fs : List FileVariable) (f : FileVariable) (k : Declared) (v : VarValue) (o : Meaning) → FileConsts fs k → Tag cs [] f v
      → (HasName cs (fs ++ f ∷ []) (length k.vars) f.name → CellsNamed cs (fs ++ f ∷ []) f.name o)
      → FileConsts (fs ++ f ∷ []) (with_file_name f.name o (with_var v k))
  next fs f k v o h t n = record {
    tagged = tagged_next cs [] fs k.vars f v h.tagged h.long t;
    long = length_push k.vars v ∙ ap (λ j. j + 1) h.long ∙ sym (length_push fs f);
    file = known-fits (EntryNamed cs (fs ++ f ∷ [])) f.name o k.names.file (n here)
        (All-weaker (EntryNamed cs fs) (EntryNamed cs (fs ++ f ∷ [])) (λ e i. cells_more cs fs (f ∷ []) e.0 e.1 i) k.names.file h.file);
    own = h.own;
  }
    where
      here : HasName cs (fs ++ f ∷ []) (length k.vars) f.name
      here = subst (λ j. HasName cs (fs ++ f ∷ []) j f.name) (sym h.long) (record { below = omega (arith, length_push fs f); named = last_name fs f })

  -- a name that stands for no variable
  other : (fs : List FileVariable) (k : Declared) (x : List ℕ) (o : Meaning) → FileConsts fs k → CellsNamed cs fs x o → FileConsts fs (with_file_name x o k)
  other fs k x o h i = record { tagged = h.tagged; long = h.long; file = known-fits (EntryNamed cs fs) x o k.names.file i h.file; own = h.own }

  module _ (places : List Pos) (es : List Named) where
    value_is : (fs : List FileVariable) (c : Bool) (x : List ℕ) (z : ℤ) (k : Declared) → FileConsts fs k
        → FileConsts (fs ++ (record { name = x; is_const = c; count = 1 }) ∷ []) (with_file_value places cs k c x z)
    value_is fs false x z k h = next fs (record { name = x; is_const = false; count = 1 }) k (changing x (z ∷ [])) (m.Variable (next_cells k true false 1)) h (refl, refl) (λ i. i)
    value_is fs true x z k h = next fs (record { name = x; is_const = true; count = 1 }) k (unchanging x z (first_cell cs x)) (m.Fixed z (next_cells k true false 1)) h (refl, refl) (λ i. i)

    declr_is : (fs : List FileVariable) (c : Bool) (d : DeclrTree) (k : Declared) → FileConsts fs k → Gives (FileConsts (fs ++ declr_variable c d ∷ [])) (judged_file_declr places cs k c d)
    declr_is fs c (tree.Plain x) k h = next fs (declr_variable c (tree.Plain x)) k (changing x.name (pos 0 ∷ [])) (m.Variable (next_cells k true false 1)) h (refl, refl) (λ i. i)
    declr_is fs c (tree.Init x e) k h =
        gives_then (λ z. Unit {0}) (FileConsts (fs ++ declr_variable c (tree.Init x e) ∷ [])) (judged_value places k.names e)
        (λ z. Ok (with_file_value places cs k c x.name z)) (gives_any (judged_value places k.names e))
        (λ z u. value_is fs c x.name z k h)
    declr_is fs c (tree.Array x n) k h =
        next fs (declr_variable c (tree.Array x n)) k (changing x.name (replicate (count_of n) (pos 0)))
        (m.Variable (next_cells k true true (count_of n))) h (refl, length-replicate (count_of n) (pos 0)) (λ i. i)

    moved : (fs gs : List FileVariable) (r : Judged Declared) → fs ≡ gs → Gives (FileConsts fs) r → Gives (FileConsts gs) r
    moved fs gs r e h = subst (λ l. Gives (FileConsts l) r) e h

    declrs_are : (fs : List FileVariable) (c : Bool) (ds : List DeclrTree) (k : Declared) → FileConsts fs k → Gives (FileConsts (fs ++ declrs_variables c ds)) (judged_file_declrs places cs k c ds)
    declrs_are fs c [] k h = subst (λ l. FileConsts l k) (sym (append-nil fs)) h
    declrs_are fs c (d ∷ ds) k h =
        gives_then (FileConsts (fs ++ declr_variable c d ∷ [])) (FileConsts (fs ++ declr_variable c d ∷ declrs_variables c ds))
        (judged_file_declr places cs k c d) (λ l. judged_file_declrs places cs l c ds) (declr_is fs c d k h)
        (λ l i. moved ((fs ++ declr_variable c d ∷ []) ++ declrs_variables c ds) (fs ++ declr_variable c d ∷ declrs_variables c ds)
        (judged_file_declrs places cs l c ds) (append_assoc fs (declr_variable c d ∷ []) (declrs_variables c ds))
        (declrs_are (fs ++ declr_variable c d ∷ []) c ds l i))

    extern-is : (fs : List FileVariable) (k : Declared) (x : Ident) (e : Option Entry) → FileConsts fs k → Gives (FileConsts (fs ++ [])) (judged_extern places cs es k x e)
    extern-is fs k x (Some (One z)) h = subst (λ l. FileConsts l (with_file_name x.name (m.Extern z) k)) (sym (append-nil fs)) (other fs k x.name (m.Extern z) h tt)
    extern-is fs k x (Some (Many zs)) h = tt
    extern-is fs k x None h = tt

    array-is : (fs : List FileVariable) (k : Declared) (x : Ident) (e : Option Entry) → FileConsts fs k → Gives (FileConsts (fs ++ [])) (judged_array places cs es k x e)
    array-is fs k x (Some (One z)) h = tt
    array-is fs k x (Some (Many zs)) h = subst (λ l. FileConsts l (with_file_name x.name m.ExternArray k)) (sym (append-nil fs)) (other fs k x.name m.ExternArray h tt)
    array-is fs k x None h = tt

    top_is : (fs : List FileVariable) (k : Declared) (t : TopTree) → FileConsts fs k → Gives (FileConsts (fs ++ top_variables t)) (judged_top places cs es k t)
    top_is fs k (tree.Extern x) h = extern-is fs k x (lookup (bytes_eq x.name) es) h
    top_is fs k (tree.ExternArray x) h = array-is fs k x (lookup (bytes_eq x.name) es) h
    top_is fs k (tree.FileDeclaration v) h = declrs_are fs v.is_const v.declrs k h
    top_is fs k (tree.Kernel f) h =
        let i = other fs k f.name.name (m.Kernel k.kernels (length f.params)) h tt in
        let l : Declared = record (with_file_name f.name.name (m.Kernel k.kernels (length f.params)) k) { kernels = suc k.kernels } in
        subst (λ g. FileConsts g l) (sym (append-nil fs)) (record { tagged = i.tagged; long = i.long; file = i.file; own = i.own })

    pub tops_are_consts : (fs : List FileVariable) (k : Declared) (ts : List TopTree) → FileConsts fs k → Gives (FileConsts (fs ++ file_variables ts)) (judged_tops places cs es k ts)
    tops_are_consts fs k [] h = subst (λ l. FileConsts l k) (sym (append-nil fs)) h
    tops_are_consts fs k (t ∷ ts) h =
        gives_then (FileConsts (fs ++ top_variables t)) (FileConsts (fs ++ (top_variables t ++ file_variables ts))) (judged_top places cs es k t) (λ l. judged_tops places cs es l ts) (top_is fs k t h)
        (λ l i. moved ((fs ++ top_variables t) ++ file_variables ts) (fs ++ (top_variables t ++ file_variables ts))
        (judged_tops places cs es l ts) (append_assoc fs (top_variables t) (file_variables ts))
        (tops_are_consts (fs ++ top_variables t) l ts i))
