-- The declarations of the file, and expressions that are judged where they stand.
use Rattle.std.proofs.Common.{◌≡◌, ℕ, suc, ℤ, pos, List, [], ◌∷◌, length, replicate, Ok, Err, Bool, true, false, not, refl, sym, subst, arith}
use Rattle.std.specs.Prelude.{All, Option, Some, None, IfSome}
use Rattle.std.proofs.lemmas.List.{length-replicate}
use Rattle.std.proofs.lemmas.List.Elements.{All-head, All-tail}
use Rattle.std.proofs.lemmas.Map.Entries.{All-lookup}
use Rattle.std.specs.Map.{lookup}
use Rattle.std.specs.Str.{bytes_eq}
use Rattle.c_tree.specs.declared.lexer.tokens.Pos.{Pos}
use Rattle.c_tree.specs.declared.expressions.Ident.{Ident}
use Rattle.c_tree.specs.Tree as tree
use Rattle.c_tree.specs.Tree.{ExprTree, DeclrTree, TopTree}
use Rattle.kernel_model.specs.declared.types.kernels.ConstDecl.{ConstDecl}
use Rattle.kernel_model.specs.declared.types.kernels.RKernel.{RKernel}
use Rattle.kernel_model.specs.Numbers.{Value}
use Rattle.mesh_decl.specs.declared.text.entry.Entry.{Entry}
use Rattle.mesh_decl.specs.declared.text.entry.Entry.TheVariants.{One, Many}
use Rattle.mesh_decl.specs.Spelling.{Named}
use Rattle.bound_program.specs.HostExpr.{value, is_static}
use Rattle.bound_program.specs.Values.{VarValue}
use Rattle.main_declarations.specs.declared.names.scopes.Meaning.{Meaning}
use Rattle.main_declarations.specs.declared.names.scopes.Meaning.TheVariants.{Extern, ExternArray, Kernel, Variable, Fixed}
use Rattle.bound_program.specs.Steps.{Asked}
use Rattle.main_declarations.specs.Expressions.{first_token, resolved, asked, known, judged_static, judged_value}
use Rattle.bound_program.specs.declared.refusals.refusals.BindRefusal.TheVariants as refusal
use Rattle.bound_program.specs.Refusals.{Judged, found_if}
use Rattle.main_declarations.specs.SoFar.{Declared, with_var, with_file_name, next_cells, changing, unchanging, first_cell}
use Rattle.main_declarations.specs.Meanings.{count_of}
use Rattle.main_declarations.specs.Variables.{with_file_value, judged_file_declr, judged_file_declrs}
use Rattle.main_declarations.specs.File.{judged_extern, judged_array, judged_top, judged_tops}
use Rattle.loop_bind.specs.Sources.{HasNumbers, IsRead, TopIsRead, HasNumber, HaveNumbers, TopsTake}
use Rattle.main_declarations.proofs.Public.{Gives, gives_then, gives_unless}
use Rattle.kernel_model.specs.Operators.{IsNumber}
use Rattle.loop_bind.proofs.FitsValues.{Num, no_nums, Within, value_num}
use Rattle.loop_bind.proofs.FitsState.{MeaningFits, Lawful}
use Rattle.loop_bind.proofs.FitsVars.{lawful-file, lawful-var, next-fits}
use Rattle.loop_bind.proofs.FitsReads.{resolved_within}

-- ---- expressions

module _ (ks : List RKernel) (es : List Named) (places : List Pos) (k : Declared) (h : Lawful ks es k) where
  pub static_within : (e : ExprTree) → HasNumbers e → Gives (λ (a : Asked). Within k.cells a.value) (judged_static places k.names e)
  static_within e f = gives_unless (λ (a : Asked). Within k.cells a.value)
      (found_if places (not (is_static (resolved places k.names e))) (first_token e) refusal.ControlNotStatic) (asked places k.names e)
      (λ n. resolved_within ks es places k h e f)

  known_num : (first : ℕ) (v : Value) → IsNumber v → Gives Num (known places first v)
  known_num first (Ok z) f = f
  known_num first (Err e) f = tt

  pub value_is_num : (e : ExprTree) → HasNumbers e → Gives Num (judged_value places k.names e)
  value_is_num e f =
      gives_then (λ (a : Asked). Within k.cells a.value) Num (judged_static places k.names e) (λ a. known places (first_token e) (value [] [] a.value)) (static_within e f)
      (λ a w. known_num (first_token e) (value [] [] a.value) (value_num k.cells [] [] no_nums no_nums a.value w))

-- ---- the file

-- no loop stands before, and no extern is a variable yet
pub record TopLawful (ks : List RKernel) (es : List Named) (k : Declared) : Type 0 where
  pub lawful : Lawful ks es k
  pub externs : k.externs ≡ []
  pub sites : k.sites ≡ []

module _ (ks : List RKernel) (es : List Named) where
  top-name : (k : Declared) (x : List ℕ) (m : Meaning) → TopLawful ks es k → MeaningFits ks k.mesh k.vars k.cells m → TopLawful ks es (with_file_name x m k)
  top-name k x m h f = record { lawful = lawful-file ks es k x m h.lawful h.externs f; externs = h.externs; sites = h.sites }

  top-var : (k : Declared) (v : VarValue) → TopLawful ks es k → TopLawful ks es (with_var v k)
  top-var k v h = record { lawful = lawful-var ks es k v h.lawful; externs = h.externs; sites = h.sites }

  -- a further kernel
  lawful-kernels : (k : Declared) (n : ℕ) → Lawful ks es k → Lawful ks es (record k { kernels = n })
  lawful-kernels k n h = record {
    mesh = h.mesh;
    few_sets = h.few_sets;
    few_maps = h.few_maps;
    few_dats = h.few_dats;
    dims = h.dims;
    map_dims = h.map_dims;
    cells = h.cells;
    file = h.file;
    own = h.own;
    mine = h.mine;
    externs = h.externs;
    sites = h.sites;
  }

  module _ (places : List Pos) (consts : List ConstDecl) where
    with-value : (k : Declared) (c : Bool) (x : List ℕ) (z : ℤ) → TopLawful ks es k → Num z → TopLawful ks es (with_file_value places consts k c x z)
    with-value k false x z h f = top-name (with_var (changing x (z ∷ [])) k) x (Variable (next_cells k true false 1))
        (top-var k (changing x (z ∷ [])) h) (next-fits ks es k (changing x (z ∷ [])) true false 1 refl (omega arith))
    with-value k true x z h f = top-name (with_var (unchanging x z (first_cell consts x)) k) x (Fixed z (next_cells k true false 1))
        (top-var k (unchanging x z (first_cell consts x)) h)
        (f, next-fits ks es k (unchanging x z (first_cell consts x)) true false 1 refl (omega arith))

    file_declr : (k : Declared) (c : Bool) (d : DeclrTree) → TopLawful ks es k → IsRead d → Gives (TopLawful ks es) (judged_file_declr places consts k c d)
    file_declr k c (tree.Plain x) h r = top-name (with_var (changing x.name (pos 0 ∷ [])) k) x.name (Variable (next_cells k true false 1))
        (top-var k (changing x.name (pos 0 ∷ [])) h) (next-fits ks es k (changing x.name (pos 0 ∷ [])) true false 1 refl (omega arith))
    file_declr k c (tree.Init x e) h r =
        gives_then Num (TopLawful ks es) (judged_value places k.names e) (λ z. Ok (with_file_value places consts k c x.name z))
        (value_is_num ks es places k h.lawful e r) (λ z f. with-value k c x.name z h f)
    file_declr k c (tree.Array x n) h r =
        let v = changing x.name (replicate (count_of n) (pos 0)) in
        top-name (with_var v k) x.name (Variable (next_cells k true true (count_of n))) (top-var k v h) (next-fits ks es k v true true (count_of n) (length-replicate (count_of n) (pos 0)) r)

    file_declrs : (k : Declared) (c : Bool) (ds : List DeclrTree) → TopLawful ks es k → All IsRead ds → Gives (TopLawful ks es) (judged_file_declrs places consts k c ds)
    file_declrs k c [] h r = h
    file_declrs k c (d ∷ ds) h r =
        gives_then (TopLawful ks es) (TopLawful ks es) (judged_file_declr places consts k c d) (λ l. judged_file_declrs places consts l c ds) (file_declr k c d h (All-head IsRead d ds r))
        (λ l i. file_declrs l c ds i (All-tail IsRead d ds r))

    extern-is : (k : Declared) (x : Ident) (e : Option Entry) → TopLawful ks es k → IfSome e HasNumber → Gives (TopLawful ks es) (judged_extern places consts es k x e)
    extern-is k x (Some (One z)) h f = top-name k x.name (Extern z) h f
    extern-is k x (Some (Many zs)) h f = tt
    extern-is k x None h f = tt

    array-is : (k : Declared) (x : Ident) (e : Option Entry) → TopLawful ks es k → Gives (TopLawful ks es) (judged_array places consts es k x e)
    array-is k x (Some (One z)) h = tt
    array-is k x (Some (Many zs)) h = top-name k x.name ExternArray h tt
    array-is k x None h = tt

    top_is : (k : Declared) (t : TopTree) (ts : List TopTree) → HaveNumbers es → TopLawful ks es k → TopsTake ks k.kernels (t ∷ ts)
        → TopIsRead t → Gives (TopLawful ks es) (judged_top places consts es k t)
    top_is k (tree.Extern x) ts n h i r = extern-is k x (lookup (bytes_eq x.name) es) h (All-lookup HasNumber (bytes_eq x.name) es n)
    top_is k (tree.ExternArray x) ts n h i r = array-is k x (lookup (bytes_eq x.name) es) h
    top_is k (tree.FileDeclaration v) ts n h i r = file_declrs k v.is_const v.declrs h r
    top_is k (tree.Kernel f) ts n h i r =
        let l = with_file_name f.name.name (Kernel k.kernels (length f.params)) k in
        let g = top-name k f.name.name (Kernel k.kernels (length f.params)) h i.0 in
        record { lawful = lawful-kernels l (suc k.kernels) g.lawful; externs = g.externs; sites = g.sites }

    -- how many kernels stand before the rest
    declrs-kernels : (n : ℕ) (k : Declared) (c : Bool) (ds : List DeclrTree) → k.kernels ≡ n → Gives (λ (l : Declared). l.kernels ≡ n) (judged_file_declrs places consts k c ds)
    declrs-kernels n k c [] e = e
    declrs-kernels n k c (d ∷ ds) e =
        gives_then (λ (l : Declared). l.kernels ≡ n) (λ (l : Declared). l.kernels ≡ n) (judged_file_declr places consts k c d)
        (λ l. judged_file_declrs places consts l c ds) (one d) (λ l f. declrs-kernels n l c ds f)
      where
        value-kernels : (c : Bool) (x : List ℕ) (z : ℤ) → (with_file_value places consts k c x z).kernels ≡ n
        value-kernels false x z = e
        value-kernels true x z = e

        one : (d : DeclrTree) → Gives (λ (l : Declared). l.kernels ≡ n) (judged_file_declr places consts k c d)
        one (tree.Plain x) = e
        one (tree.Init x g) = gives_then (λ z. Unit {0}) (λ (l : Declared). l.kernels ≡ n) (judged_value places k.names g)
            (λ z. Ok (with_file_value places consts k c x.name z)) (any (judged_value places k.names g)) (λ z u. value-kernels c x.name z)
          where
            any : (r : Judged ℤ) → Gives (λ z. Unit {0}) r
            any (Ok z) = tt
            any (Err f) = tt
        one (tree.Array x m) = e

    top_takes : (k : Declared) (t : TopTree) (ts : List TopTree) → TopsTake ks k.kernels (t ∷ ts) → Gives (λ (l : Declared). TopsTake ks l.kernels ts) (judged_top places consts es k t)
    top_takes k (tree.Extern x) ts i = pick (lookup (bytes_eq x.name) es)
      where
        pick : (e : Option Entry) → Gives (λ (l : Declared). TopsTake ks l.kernels ts) (judged_extern places consts es k x e)
        pick (Some (One z)) = i
        pick (Some (Many zs)) = tt
        pick None = tt
    top_takes k (tree.ExternArray x) ts i = pick (lookup (bytes_eq x.name) es)
      where
        pick : (e : Option Entry) → Gives (λ (l : Declared). TopsTake ks l.kernels ts) (judged_array places consts es k x e)
        pick (Some (One z)) = tt
        pick (Some (Many zs)) = i
        pick None = tt
    top_takes k (tree.FileDeclaration v) ts i =
        moved (judged_file_declrs places consts k v.is_const v.declrs) (declrs-kernels k.kernels k v.is_const v.declrs refl)
      where
        moved : (r : Judged Declared) → Gives (λ (l : Declared). l.kernels ≡ k.kernels) r → Gives (λ (l : Declared). TopsTake ks l.kernels ts) r
        moved (Ok l) f = subst (λ n. TopsTake ks n ts) (sym f) i
        moved (Err f) u = tt
    top_takes k (tree.Kernel f) ts i = i.1

    both : {A : Type 0} (P Q : A → Type 0) (r : Judged A) → Gives P r → Gives Q r → Gives (λ x. P x × Q x) r
    both P Q (Ok x) p q = (p, q)
    both P Q (Err e) p q = tt

    pub tops_are : (k : Declared) (ts : List TopTree) → HaveNumbers es → TopLawful ks es k → TopsTake ks k.kernels ts → All TopIsRead ts → Gives (TopLawful ks es) (judged_tops places consts es k ts)
    tops_are k [] n h i r = h
    tops_are k (t ∷ ts) n h i r =
        gives_then (λ l. TopLawful ks es l × TopsTake ks l.kernels ts) (TopLawful ks es) (judged_top places consts es k t) (λ l. judged_tops places consts es l ts)
        (both (TopLawful ks es) (λ l. TopsTake ks l.kernels ts) (judged_top places consts es k t) (top_is k t ts n h i (All-head TopIsRead t ts r)) (top_takes k t ts i))
        (λ l j. tops_are l ts n j.0 j.1 (All-tail TopIsRead t ts r))
