-- What stays so of all that is declared, from statement to statement of the text.
use Rattle.std.proofs.Common.{◌≡◌, ℕ, ◌+◌, ◌<◌, ◌≤◌, List, [], ◌∷◌, ◌++◌, length, Bool, true, false, refl, sym, ap, subst, arith, ◌∙◌}
use Rattle.std.specs.Prelude.{All, slice_index_or, Option, Some, None, IfSome, is_some, sum_by, if◌then◌else◌}
use Rattle.std.proofs.lemmas.List.{get_or_append_left, length_push}
use Rattle.std.proofs.lemmas.List.Elements.{All-push, All-weaker}
use Rattle.std.proofs.lemmas.Map.Entries.{All-lookup}
use Rattle.kernel_model.specs.declared.types.kernels.RKernel.{RKernel}
use Rattle.mesh_decl.specs.declared.decl.MapDecl.{MapDecl}
use Rattle.mesh_decl.specs.declared.decl.DatDecl.{DatDecl}
use Rattle.mesh_decl.specs.Mesh.{MeshValue, set_count, map_count, dat_count, IsMesh}
use Rattle.mesh_decl.specs.Spelling.{Named}
use Rattle.main_declarations.specs.declared.names.scopes.Cells.{Cells}
use Rattle.main_declarations.specs.declared.names.scopes.Meaning.{Meaning}
use Rattle.main_declarations.specs.declared.names.scopes.Meaning.TheVariants.{Extern, ExternArray, Kernel, Set, Map, Dat, Variable, Fixed, FixedLater, Turning}
use Rattle.bound_program.specs.Values.{VarValue, BoundValue, no_var}
use Rattle.main_declarations.specs.Names.{Names, named_in, or_else, means, known}
use Rattle.bound_program.specs.Limits.{max_sets, max_maps, max_dats, max_dim}
use Rattle.main_declarations.specs.SoFar.{Declared}
use Rattle.main_declarations.specs.Meanings.{values_named}
use Rattle.bound_program.specs.Fits.{TakesArgs, SiteFits}
use Rattle.loop_bind.proofs.FitsValues.{Num}

-- ---- variables

abbrev pub at : List VarValue → ℕ → VarValue
at vs v = slice_index_or vs v no_var

-- how many cells the variables have
abbrev pub cells_in : List VarValue → ℕ
cells_in vs = sum_by (λ (v : VarValue). length v.start) vs

-- further variables leave the cells of the others
pub record VarsGrow (vs ws : List VarValue) : Type 0 where
  pub longer : length vs ≤ length ws
  pub same : (v : ℕ) → v < length vs → length (at ws v).start ≡ length (at vs v).start

pub vars-self : (vs : List VarValue) → VarsGrow vs vs
vars-self vs = record { longer = omega arith; same = λ v l. refl }

pub vars-trans : (us vs ws : List VarValue) → VarsGrow us vs → VarsGrow vs ws → VarsGrow us ws
vars-trans us vs ws h k = record { longer = omega (arith, h.longer, k.longer); same = λ v l. k.same v (omega (arith, l, h.longer)) ∙ h.same v l }

pub at_push : (vs : List VarValue) (x : VarValue) (v : ℕ) → v < length vs → at (vs ++ x ∷ []) v ≡ at vs v
at_push vs x v l = get_or_append_left vs (x ∷ []) no_var v l

pub at_last : (vs : List VarValue) (x : VarValue) → at (vs ++ x ∷ []) (length vs) ≡ x
at_last [] x = refl
at_last (v ∷ vs) x = at_last vs x

pub vars-push : (vs : List VarValue) (x : VarValue) → VarsGrow vs (vs ++ x ∷ [])
vars-push vs x = record { longer = omega (arith, length_push vs x); same = λ v l. ap (λ (y : VarValue). length y.start) (at_push vs x v l) }

-- ---- what names stand for

-- the cells of a variable are there
pub record CellsFit (vs : List VarValue) (n : ℕ) (c : Cells) : Type 0 where
  pub var : c.var < length vs
  pub start : length (at vs c.var).start ≡ c.count
  pub some : 0 < c.count
  pub within : c.from + c.count ≤ n

-- what a name stands for is there
abbrev pub MeaningFits : List RKernel → MeshValue → List VarValue → ℕ → Meaning → Type 0
MeaningFits ks g vs n (Extern z) = Num z
MeaningFits ks g vs n ExternArray = Unit {0}
MeaningFits ks g vs n (Kernel number params) = TakesArgs ks number params
MeaningFits ks g vs n (Set s) = s < set_count g
MeaningFits ks g vs n (Map m) = m < map_count g
MeaningFits ks g vs n (Dat d) = d < dat_count g
MeaningFits ks g vs n (Variable c) = CellsFit vs n c
MeaningFits ks g vs n (Fixed z c) = Num z × CellsFit vs n c
MeaningFits ks g vs n (FixedLater k c) = CellsFit vs n c
MeaningFits ks g vs n (Turning k) = Unit {0}

abbrev pub NameFits : List RKernel → MeshValue → List VarValue → ℕ → List ℕ × Meaning → Type 0
NameFits ks g vs n e = MeaningFits ks g vs n e.1

-- ---- growth

-- what was declared stays
pub record Grows (k l : Declared) : Type 0 where
  pub vars : VarsGrow k.vars l.vars
  pub cells : k.cells ≤ l.cells
  pub sets : set_count k.mesh ≤ set_count l.mesh
  pub maps : map_count k.mesh ≤ map_count l.mesh
  pub dats : dat_count k.mesh ≤ dat_count l.mesh
  pub sites : length k.sites ≤ length l.sites

pub grows-self : (k : Declared) → Grows k k
grows-self k = record {
  vars = vars-self k.vars;
  cells = omega arith;
  sets = omega arith;
  maps = omega arith;
  dats = omega arith;
  sites = omega arith;
}

pub grows-trans : (j k l : Declared) → Grows j k → Grows k l → Grows j l
grows-trans j k l h i = record {
  vars = vars-trans j.vars k.vars l.vars h.vars i.vars;
  cells = omega (arith, h.cells, i.cells);
  sets = omega (arith, h.sets, i.sets);
  maps = omega (arith, h.maps, i.maps);
  dats = omega (arith, h.dats, i.dats);
  sites = omega (arith, h.sites, i.sites);
}

cells_more : (vs ws : List VarValue) (n m : ℕ) → VarsGrow vs ws → n ≤ m → (c : Cells) → CellsFit vs n c → CellsFit ws m c
cells_more vs ws n m g l c h = record {
  var = omega (arith, h.var, g.longer);
  start = g.same c.var h.var ∙ h.start;
  some = h.some;
  within = omega (arith, h.within, l);
}

pub meaning_more : (ks : List RKernel) (k l : Declared) → Grows k l → (m : Meaning) → MeaningFits ks k.mesh k.vars k.cells m → MeaningFits ks l.mesh l.vars l.cells m
meaning_more ks k l g (Extern z) h = h
meaning_more ks k l g ExternArray h = tt
meaning_more ks k l g (Kernel number params) h = h
meaning_more ks k l g (Set s) h = omega (arith, h, g.sets)
meaning_more ks k l g (Map m) h = omega (arith, h, g.maps)
meaning_more ks k l g (Dat d) h = omega (arith, h, g.dats)
meaning_more ks k l g (Variable c) h = cells_more k.vars l.vars k.cells l.cells g.vars g.cells c h
meaning_more ks k l g (Fixed z c) h = (h.0, cells_more k.vars l.vars k.cells l.cells g.vars g.cells c h.1)
meaning_more ks k l g (FixedLater t c) h = cells_more k.vars l.vars k.cells l.cells g.vars g.cells c h
meaning_more ks k l g (Turning t) h = tt

pub names_more : (ks : List RKernel) (k l : Declared) → Grows k l → (ns : Names) → All (NameFits ks k.mesh k.vars k.cells) ns → All (NameFits ks l.mesh l.vars l.cells) ns
names_more ks k l g ns h = All-weaker (NameFits ks k.mesh k.vars k.cells) (NameFits ks l.mesh l.vars l.cells) (λ e f. meaning_more ks k l g e.1 f) ns h

pub known-fits : (P : List ℕ × Meaning → Type 0) (x : List ℕ) (m : Meaning) (ns : Names) → P (x, m) → All P ns → All P (known x m ns)
known-fits P x m ns p h = pick (is_some (named_in ns x))
  where
    pick : (b : Bool) → All P (if b then ns else ns ++ (x, m) ∷ [])
    pick true = h
    pick false = All-push P ns (x, m) h p

-- ---- externs that are variables

-- it has as many cells as the extern of the file has values
abbrev pub HasValues : List Named → List ℕ → ℕ → Option Meaning → Type 0
HasValues es x n (Some (Extern z)) = n ≡ 1
HasValues es x n (Some ExternArray) = n ≡ length (values_named es x)
HasValues es x n _ = Unit {0}

abbrev pub ExternFits : List Named → Names → List VarValue → List ℕ × ℕ → Type 0
ExternFits es file vs e = (e.1 < length vs) × HasValues es e.0 (length (at vs e.1).start) (named_in file e.0)

pub extern_more : (es : List Named) (file : Names) (vs ws : List VarValue) → VarsGrow vs ws → (e : List ℕ × ℕ) → ExternFits es file vs e → ExternFits es file ws e
extern_more es file vs ws g e h =
    (omega (arith, h.0, g.longer), subst (λ n. HasValues es e.0 n (named_in file e.0)) (sym (g.same e.1 h.0)) h.1)

-- the names of `main` stand for no extern
abbrev pub IsOwn : Meaning → Type 0
IsOwn (Extern z) = ⊥
IsOwn ExternArray = ⊥
IsOwn m = Unit {0}

abbrev pub NameIsOwn : List ℕ × Meaning → Type 0
NameIsOwn e = IsOwn e.1

-- ---- all that is declared

-- the program so far
abbrev pub so_far : List RKernel → Declared → BoundValue
so_far ks k = record { mesh = k.mesh; kernels = ks; sites = k.sites; vars = k.vars; trace = [] }

abbrev pub HasDim : DatDecl → Type 0
HasDim d = d.dim ≤ max_dim

abbrev pub HasMapDim : MapDecl → Type 0
HasMapDim d = d.dim ≤ max_dim

-- what stays so
pub record Lawful (ks : List RKernel) (es : List Named) (k : Declared) : Type 0 where
  pub mesh : IsMesh k.mesh
  pub few_sets : set_count k.mesh ≤ max_sets
  pub few_maps : map_count k.mesh ≤ max_maps
  pub few_dats : dat_count k.mesh ≤ max_dats
  pub dims : All HasDim k.mesh.dats
  pub map_dims : All HasMapDim k.mesh.maps
  pub cells : cells_in k.vars ≡ k.cells
  pub file : All (NameFits ks k.mesh k.vars k.cells) k.names.file
  pub own : All (NameFits ks k.mesh k.vars k.cells) k.names.own
  pub mine : All NameIsOwn k.names.own
  pub externs : All (ExternFits es k.names.file k.vars) k.externs
  pub sites : All (SiteFits (so_far ks k)) k.sites

-- what a name stands for, where it stands for something
pub means_fits : (ks : List RKernel) (es : List Named) (k : Declared) → Lawful ks es k → (x : List ℕ) → IfSome (means k.names x) (MeaningFits ks k.mesh k.vars k.cells)
means_fits ks es k h x = pick (named_in k.names.own x) (named_in k.names.file x) (All-lookup P _ k.names.own h.own) (All-lookup P _ k.names.file h.file)
  where
    P : Meaning → Type 0
    P = MeaningFits ks k.mesh k.vars k.cells

    pick : (a b : Option Meaning) → IfSome a P → IfSome b P → IfSome (or_else a b) P
    pick (Some m) b f g = f
    pick None b f g = g
