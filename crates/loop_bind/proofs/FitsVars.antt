-- One name more, or one variable more.
use Rattle.std.proofs.Common.{◌≡◌, ℕ, ◌+◌, ◌<◌, List, [], ◌∷◌, ◌++◌, length, Bool, sym, ap, subst, arith, ◌∙◌}
use Rattle.std.specs.Prelude.{All, Some, None}
use Rattle.std.proofs.lemmas.List.{length_push}
use Rattle.std.proofs.lemmas.List.Elements.{All-nil, All-weaker}
use Rattle.std.proofs.lemmas.List.Sums.{sum_by_push}
use Rattle.kernel_model.specs.declared.types.kernels.RKernel.{RKernel}
use Rattle.mesh_decl.specs.Mesh.{MeshValue}
use Rattle.mesh_decl.specs.Spelling.{Named}
use Rattle.main_declarations.specs.declared.names.scopes.Meaning.{Meaning}
use Rattle.bound_program.specs.declared.sites.Arg.{Arg}
use Rattle.bound_program.specs.declared.sites.Arg.TheVariants.{Dat, Global}
use Rattle.bound_program.specs.Values.{SiteValue, VarValue, BoundValue, ItemValue}
use Rattle.main_declarations.specs.SoFar.{Declared, with_var, with_name, with_file_name, next_cells}
use Rattle.bound_program.specs.Fits.{ArgFits, SiteFits, GlobalAccess}
use Rattle.loop_bind.proofs.FitsState.{at, VarsGrow, vars-push, at_push, at_last, CellsFit, MeaningFits, NameFits, Grows, names_more, known-fits, ExternFits, extern_more, IsOwn, NameIsOwn, so_far, Lawful}

-- ---- loops, where variables are added

-- further variables leave the constants of the others
pub record VarsKept (vs ws : List VarValue) : Type 0 where
  pub grow : VarsGrow vs ws
  pub constants : (v : ℕ) → v < length vs → (at ws v).constant ≡ (at vs v).constant

pub kept-push : (vs : List VarValue) (x : VarValue) → VarsKept vs (vs ++ x ∷ [])
kept-push vs x = record { grow = vars-push vs x; constants = λ v l. ap (λ (y : VarValue). y.constant) (at_push vs x v l) }

abbrev pub program : MeshValue → List RKernel → List SiteValue → List VarValue → List ItemValue → BoundValue
program g ks ss vs is = record { mesh = g; kernels = ks; sites = ss; vars = vs; trace = is }

module _ (g : MeshValue) (ks : List RKernel) (ss ts : List SiteValue) (vs ws : List VarValue) (is js : List ItemValue) (h : VarsKept vs ws) where
  arg_more : (set : ℕ) (a : Arg) → ArgFits (program g ks ss vs is) set a → ArgFits (program g ks ts ws js) set a
  arg_more set (Dat d None a) f = (f.0, f.1, f.2)
  arg_more set (Dat d (Some v) a) f = (f.0, f.1, f.2)
  arg_more set (Global v a) f =
      let n : length (at ws v).start ≡ length (at vs v).start = h.grow.same v f.0 in
      let c : (at ws v).constant ≡ (at vs v).constant = h.constants v f.0 in
      (omega (arith, f.0, h.grow.longer), omega (arith, n, f.1), omega (arith, n, f.2), subst (GlobalAccess a) (sym c) f.3)

  pub site_more : (s : SiteValue) → SiteFits (program g ks ss vs is) s → SiteFits (program g ks ts ws js) s
  site_more s f = record {
    kernel = f.kernel;
    set = f.set;
    few = f.few;
    args = All-weaker (ArgFits (program g ks ss vs is) s.set) (ArgFits (program g ks ts ws js) s.set) (arg_more s.set) s.args f.args;
    apart = f.apart;
    class = f.class;
  }

-- ---- one more

module _ (ks : List RKernel) (es : List Named) where
  pub lawful-own : (k : Declared) (x : List ℕ) (m : Meaning) → Lawful ks es k → MeaningFits ks k.mesh k.vars k.cells m → IsOwn m → Lawful ks es (with_name x m k)
  lawful-own k x m h f o = record {
    mesh = h.mesh;
    few_sets = h.few_sets;
    few_maps = h.few_maps;
    few_dats = h.few_dats;
    dims = h.dims;
    map_dims = h.map_dims;
    cells = h.cells;
    file = h.file;
    own = known-fits (NameFits ks k.mesh k.vars k.cells) x m k.names.own f h.own;
    mine = known-fits NameIsOwn x m k.names.own o h.mine;
    externs = h.externs;
    sites = h.sites;
  }

  pub lawful-file : (k : Declared) (x : List ℕ) (m : Meaning) → Lawful ks es k → k.externs ≡ [] → MeaningFits ks k.mesh k.vars k.cells m → Lawful ks es (with_file_name x m k)
  lawful-file k x m h e f = record {
    mesh = h.mesh;
    few_sets = h.few_sets;
    few_maps = h.few_maps;
    few_dats = h.few_dats;
    dims = h.dims;
    map_dims = h.map_dims;
    cells = h.cells;
    file = known-fits (NameFits ks k.mesh k.vars k.cells) x m k.names.file f h.file;
    own = h.own;
    mine = h.mine;
    externs = subst (All (ExternFits es (with_file_name x m k).names.file k.vars)) (sym e) (All-nil (ExternFits es (with_file_name x m k).names.file k.vars));
    sites = h.sites;
  }

  pub grows-var : (k : Declared) (v : VarValue) → Grows k (with_var v k)
  grows-var k v = record {
    vars = vars-push k.vars v;
    cells = omega arith;
    sets = omega arith;
    maps = omega arith;
    dats = omega arith;
    sites = omega arith;
  }

  pub lawful-var : (k : Declared) (v : VarValue) → Lawful ks es k → Lawful ks es (with_var v k)
  lawful-var k v h = record {
    mesh = h.mesh;
    few_sets = h.few_sets;
    few_maps = h.few_maps;
    few_dats = h.few_dats;
    dims = h.dims;
    map_dims = h.map_dims;
    cells = sum_by_push (λ (v : VarValue). length v.start) k.vars v ∙ ap (λ n. n + length v.start) h.cells;
    file = names_more ks k (with_var v k) (grows-var k v) k.names.file h.file;
    own = names_more ks k (with_var v k) (grows-var k v) k.names.own h.own;
    mine = h.mine;
    externs = All-weaker (ExternFits es k.names.file k.vars) (ExternFits es k.names.file (k.vars ++ v ∷ []))
        (extern_more es k.names.file k.vars (k.vars ++ v ∷ []) (vars-push k.vars v)) k.externs h.externs;
    sites = All-weaker (SiteFits (so_far ks k)) (SiteFits (so_far ks (with_var v k))) (site_more k.mesh ks k.sites k.sites k.vars (k.vars ++ v ∷ []) [] [] (kept-push k.vars v)) k.sites h.sites;
  }

  pub next-fits : (k : Declared) (v : VarValue) (of_file is_array : Bool) (n : ℕ) → length v.start ≡ n → 0 < n
      → CellsFit (k.vars ++ v ∷ []) (k.cells + length v.start) (next_cells k of_file is_array n)
  next-fits k v of_file is_array n e l = record {
    var = omega (arith, length_push k.vars v);
    start = ap (λ (y : VarValue). length y.start) (at_last k.vars v) ∙ e;
    some = l;
    within = omega (arith, e);
  }
