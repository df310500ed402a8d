-- Names of sets stand for those of the mesh, behind each name that is declared.
use Rattle.std.proofs.Common.{◌≡◌, ◌≤◌, ◌<◌, ℕ, ℤ, List, [], ◌∷◌, ◌++◌, length, Bool, true, false, Ok, subst, arith}
use Rattle.std.specs.Prelude.{All, Option, Some, None, IfSome, is_some, bytes_eq, if◌then◌else◌}
use Rattle.std.specs.Map.{lookup}
use Rattle.std.proofs.lemmas.List.Elements.{All-push, All-weaker, All-take}
use Rattle.c_tree.specs.declared.lexer.tokens.Pos.{Pos}
use Rattle.c_tree.specs.declared.expressions.Ident.{Ident}
use Rattle.c_tree.specs.Tree as tree
use Rattle.c_tree.specs.Tree.{DeclrTree, TopTree}
use Rattle.kernel_model.specs.declared.types.kernels.ConstDecl.{ConstDecl}
use Rattle.mesh_decl.specs.Mesh.{set_count}
use Rattle.mesh_decl.specs.declared.text.entry.Entry.{Entry}
use Rattle.mesh_decl.specs.declared.text.entry.Entry.TheVariants.{One, Many}
use Rattle.mesh_decl.specs.Spelling.{Named}
use Rattle.main_declarations.specs.declared.names.scopes.Meaning.{Meaning}
use Rattle.main_declarations.specs.declared.names.scopes.Meaning.TheVariants as m
use Rattle.main_declarations.specs.Names.{Names, Scope, named_in, known, declare, declare_in_file, closed}
use Rattle.main_declarations.specs.Expressions.{judged_value}
use Rattle.main_declarations.specs.Meanings.{set_of, count_of}
use Rattle.main_declarations.specs.SoFar.{Declared, next_cells}
use Rattle.main_declarations.specs.File.{judged_extern, judged_array, judged_top, judged_tops}
use Rattle.main_declarations.specs.KnownSets.{IsKnown, SetsKnown}
use Rattle.main_declarations.specs.Variables.{with_file_value, judged_file_declr, judged_file_declrs}
use Rattle.main_declarations.proofs.Judged.{Gives, gives_then, gives_any}

-- ---- names

abbrev pub Knows : ℕ → List ℕ × Meaning → Type 0
Knows n e = IsKnown n e.1

abbrev pub ScopeKnows : ℕ → Scope → Type 0
ScopeKnows n s = All (Knows n) s.file × All (Knows n) s.own

more : (n l : ℕ) → n ≤ l → (e : List ℕ × Meaning) → Knows n e → Knows l e
more n l le e h = below (set_of (Some e.1)) h
  where
    below : (o : Option ℕ) → IfSome o (λ s. s < n) → IfSome o (λ s. s < l)
    below None h = tt
    below (Some s) h = omega (arith, le, h)

pub one_more : (n : ℕ) (x : List ℕ) (y : Meaning) (ns : Names) → IsKnown n y → All (Knows n) ns → All (Knows n) (known x y ns)
one_more n x y ns f h = pick (is_some (named_in ns x))
  where
    pick : (b : Bool) → All (Knows n) (if b then ns else ns ++ (x, y) ∷ [])
    pick true = h
    pick false = All-push (Knows n) ns (x, y) h f

-- a name more, in a mesh with at least as many sets
pub named : (n l : ℕ) → n ≤ l → (s : Scope) (x : List ℕ) (y : Meaning) → IsKnown l y → ScopeKnows n s → ScopeKnows l (declare x y s)
named n l le s x y f h = (
  All-weaker (Knows n) (Knows l) (more n l le) s.file h.0,
  one_more l x y s.own f (All-weaker (Knows n) (Knows l) (more n l le) s.own h.1),
)

-- another name, of no set
pub other : (k : Declared) (x : List ℕ) (y : Meaning) → IsKnown (set_count k.mesh) y → SetsKnown k → ScopeKnows (set_count k.mesh) (declare x y k.names)
other k x y f h = named (set_count k.mesh) (set_count k.mesh) (omega arith) k.names x y f h

-- the names of a block end with it
pub ended_scope : (n : ℕ) (before after : Scope) → ScopeKnows n after → ScopeKnows n (closed before after)
ended_scope n before after h = (h.0, All-take (Knows n) (length before.own) after.own h.1)

-- ---- the file

in_file : (k : Declared) (x : List ℕ) (y : Meaning) → IsKnown (set_count k.mesh) y → SetsKnown k → ScopeKnows (set_count k.mesh) (declare_in_file x y k.names)
in_file k x y f h = (one_more (set_count k.mesh) x y k.names.file f h.0, h.1)

module _ (places : List Pos) (consts : List ConstDecl) where
  file_value_kept : (k : Declared) (c : Bool) (x : List ℕ) (z : ℤ) → SetsKnown k → SetsKnown (with_file_value places consts k c x z)
  file_value_kept k false x z h = in_file k x (m.Variable (next_cells k true false 1)) tt h
  file_value_kept k true x z h = in_file k x (m.Fixed z (next_cells k true false 1)) tt h

  file_declr_kept : (k : Declared) (c : Bool) (d : DeclrTree) → SetsKnown k → Gives SetsKnown (judged_file_declr places consts k c d)
  file_declr_kept k c (tree.Plain x) h = in_file k x.name (m.Variable (next_cells k true false 1)) tt h
  file_declr_kept k c (tree.Init x e) h =
      gives_then (λ z. Unit {0}) SetsKnown (judged_value places k.names e) (λ z. Ok (with_file_value places consts k c x.name z))
      (gives_any (judged_value places k.names e)) (λ z i. file_value_kept k c x.name z h)
  file_declr_kept k c (tree.Array x n) h = in_file k x.name (m.Variable (next_cells k true true (count_of n))) tt h

  file_declrs_kept : (k : Declared) (c : Bool) (ds : List DeclrTree) → SetsKnown k → Gives SetsKnown (judged_file_declrs places consts k c ds)
  file_declrs_kept k c [] h = h
  file_declrs_kept k c (d ∷ ds) h =
      gives_then SetsKnown SetsKnown (judged_file_declr places consts k c d) (λ l. judged_file_declrs places consts l c ds)
      (file_declr_kept k c d h) (λ l i. file_declrs_kept l c ds i)

  module _ (entries : List Named) where
    extern_kept : (k : Declared) (x : Ident) (e : Option Entry) → SetsKnown k → Gives SetsKnown (judged_extern places consts entries k x e)
    extern_kept k x None h = tt
    extern_kept k x (Some (One z)) h = in_file k x.name (m.Extern z) tt h
    extern_kept k x (Some (Many zs)) h = tt

    array_kept : (k : Declared) (x : Ident) (e : Option Entry) → SetsKnown k → Gives SetsKnown (judged_array places consts entries k x e)
    array_kept k x None h = tt
    array_kept k x (Some (One z)) h = tt
    array_kept k x (Some (Many zs)) h = in_file k x.name m.ExternArray tt h

    top_kept : (k : Declared) (t : TopTree) → SetsKnown k → Gives SetsKnown (judged_top places consts entries k t)
    top_kept k (tree.Extern x) h = extern_kept k x (lookup (bytes_eq x.name) entries) h
    top_kept k (tree.ExternArray x) h = array_kept k x (lookup (bytes_eq x.name) entries) h
    top_kept k (tree.FileDeclaration v) h = file_declrs_kept k v.is_const v.declrs h
    top_kept k (tree.Kernel f) h = in_file k f.name.name (m.Kernel k.kernels (length f.params)) tt h

    pub tops_kept : (k : Declared) (ts : List TopTree) → SetsKnown k → Gives SetsKnown (judged_tops places consts entries k ts)
    tops_kept k [] h = h
    tops_kept k (t ∷ ts) h =
        gives_then SetsKnown SetsKnown (judged_top places consts entries k t) (λ l. judged_tops places consts entries l ts)
        (top_kept k t h) (λ l i. tops_kept l ts i)

    -- what all declare is behind them
    pub tops_known : (k l : Declared) (ts : List TopTree) → judged_tops places consts entries k ts ≡ Ok l → SetsKnown k → SetsKnown l
    tops_known k l ts e h = subst (Gives SetsKnown) e (tops_kept k ts h)
