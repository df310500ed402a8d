-- A tail fits where the program does and the state has its shape.
use Rattle.std.proofs.Common.{◌≡◌, ◌≤◌, ◌<◌, ◌+◌, inl, inr, ℕ, zero, suc, ℤ, Bool, true, false, List, [], ◌∷◌, length, map, drop, get_or, sum_by, Option, Some, None, refl, sym, ap, ap₂, ◌∙◌, subst, ⊎_elim, arith}
use Rattle.std.specs.Prelude.{All, if◌then◌else◌}
use Rattle.std.proofs.lemmas.Bool.{false≢true}
use Rattle.std.proofs.lemmas.List.{length-drop}
use Rattle.std.proofs.lemmas.List.Sums.{sum_by-cons}
use Rattle.kernel_model.specs.View.{RExprTree, Number, Scalar, Constant, Arg as Param, Local, Const, Unary, Binary, Choice, Paren, Extremum, Absolute}
use Rattle.kernel_model.specs.declared.types.kernels.RKernel.{RKernel}
use Rattle.kernel_model.specs.Resolved.{IsResolved}
use Rattle.mesh_decl.specs.declared.decl.SetDecl.{SetDecl}
use Rattle.mesh_decl.specs.declared.decl.DatDecl.{DatDecl}
use Rattle.mesh_decl.specs.declared.access.Via.{Via}
use Rattle.mesh_decl.specs.Mesh.{IsDat, dat_count, dat_dim, dat_set, map_from, map_to, map_dim}
use Rattle.bound_program.specs.declared.sites.Arg.{Arg}
use Rattle.bound_program.specs.declared.sites.Arg.TheVariants.{Dat, Global}
use Rattle.bound_program.specs.Values.{BoundValue, ItemValue, Free, Reduce, Ordered, Host, ActValue, Clear, Assign, Line, Print, Exit, SiteValue, VarValue, no_var}
use Rattle.bound_program.specs.Limits.{max_dim}
use Rattle.bound_program.specs.Fits.{constant_cells, UsesConstants, GlobalAccess, KernelFits, ConstantsFit, ArgFits, ViaFits, SiteFits, HostWithin, IndexWithin, all_cells, var_at, AreOfVariable, ActFits, due, ItemsFit, EndsWithHost}
use Rattle.checkpoint.specs.Cut.{StateValue, is_merging, starts, with_dats, with_vars, tail, HasShape}
use Rattle.checkpoint.specs.Laws.{TailsFit}
use Rattle.checkpoint.proofs.Shape.{AreSame, Like, count_same, dim_same, set_same, var_same}
use Rattle.checkpoint.proofs.Values.{dats_keep}

-- ---- variables

one_same : (t : Bool) (x : VarValue) (xs : List VarValue) (zs : List (List ℤ)) → map length zs ≡ map length (if t then starts xs else x.start ∷ starts xs)
    → ((ws : List (List ℤ)) → map length ws ≡ map length (starts xs) → AreSame (with_vars xs ws) xs)
    → AreSame (if t then x ∷ with_vars xs zs else record x { start = get_or zs 0 [] } ∷ with_vars xs (drop 1 zs)) (x ∷ xs)
one_same true x xs zs h rest = (refl, refl, rest zs h)
one_same false x xs [] h rest = absurd (let e : 0 ≡ suc (length (map length (starts xs))) = ap length h in omega (arith, e))
one_same false x xs (z ∷ zs) h rest = (ap (λ l. get_or l 0 0) h, refl, rest zs (ap (drop 1) h))

vars_same : (xs : List VarValue) (zs : List (List ℤ)) → map length zs ≡ map length (starts xs) → AreSame (with_vars xs zs) xs
vars_same [] zs h = tt
vars_same (x ∷ xs) zs h = one_same x.is_const x xs zs h (vars_same xs)

as_many : (xs ys : List VarValue) → AreSame xs ys → length xs ≡ length ys
as_many [] [] h = refl
as_many (x ∷ xs) (y ∷ ys) h = ap suc (as_many xs ys h.2)
as_many [] (y ∷ ys) h = absurd h
as_many (x ∷ xs) [] h = absurd h

constant_at : (xs ys : List VarValue) (v : ℕ) → AreSame xs ys → (get_or xs v no_var).constant ≡ (get_or ys v no_var).constant
constant_at [] [] v h = refl
constant_at (x ∷ xs) (y ∷ ys) zero h = h.1
constant_at (x ∷ xs) (y ∷ ys) (suc v) h = constant_at xs ys v h.2
constant_at [] (y ∷ ys) v h = absurd h
constant_at (x ∷ xs) [] v h = absurd h

cells_as_many : (xs ys : List VarValue) → AreSame xs ys → sum_by (λ (v : VarValue). length v.start) xs ≡ sum_by (λ (v : VarValue). length v.start) ys
cells_as_many [] [] h = refl
cells_as_many (x ∷ xs) (y ∷ ys) h =
    sum_by-cons (λ (v : VarValue). length v.start) x xs
    ∙ (ap₂ (λ a z. a + z) h.0 (cells_as_many xs ys h.2) ∙ sym (sum_by-cons (λ (v : VarValue). length v.start) y ys))
cells_as_many [] (y ∷ ys) h = absurd h
cells_as_many (x ∷ xs) [] h = absurd h

-- ---- dats

dats_as_many : (ds : List DatDecl) (zs : List (List ℤ)) → length (with_dats ds zs) ≡ length ds
dats_as_many [] zs = refl
dats_as_many (d ∷ ds) [] = refl
dats_as_many (d ∷ ds) (z ∷ zs) = ap suc (dats_as_many ds zs)

all_cons : {A : Type 0} (P : A → Type 0) (x : A) (xs : List A) → P x → All P xs → All P (x ∷ xs)
all_cons P x xs h t zero d l = h
all_cons P x xs h t (suc i) d l = t i d (omega (arith, (let q : suc i < suc (length xs) = l in q)))

dats_are : (sets : List SetDecl) (ds : List DatDecl) (zs : List (List ℤ)) → map length zs ≡ map (λ (d : DatDecl). length d.values) ds → All (IsDat sets) ds → All (IsDat sets) (with_dats ds zs)
dats_are sets [] zs e h = h
dats_are sets (d ∷ ds) [] e h = h
dats_are sets (d ∷ ds) (z ∷ zs) e h =
    let here : IsDat sets d = h 0 d (omega arith) in
    let long : length z ≡ length d.values = ap (λ l. get_or l 0 0) e in
    all_cons (IsDat sets) (record d { values = z }) (with_dats ds zs)
    (record { set = here.set; some = here.some; dim = here.dim; length = long ∙ here.length })
    (dats_are sets ds zs (ap (drop 1) e) (λ i x l. h (suc i) x (let q : suc i < suc (length ds) = omega (arith, l) in q)))

-- ---- the program

module _ (b : BoundValue) (s : StateValue) (shape : HasShape b s) where
  abbrev c : BoundValue
  c = tail b s

  vars : AreSame c.vars b.vars
  vars = vars_same b.vars s.vars shape.vars

  like : Like b c.mesh.dats c.vars c.trace
  like = record {
    dims = dats_keep (λ d. d.dim) (λ d z. refl) b.mesh.dats s.dats;
    sets = dats_keep (λ d. d.set) (λ d z. refl) b.mesh.dats s.dats;
    names = dats_keep (λ d. d.name) (λ d z. refl) b.mesh.dats s.dats;
    vars = vars;
  }

  many : length c.vars ≡ length b.vars
  many = as_many c.vars b.vars vars

  constant : (v : ℕ) → (var_at c v).constant ≡ (var_at b v).constant
  constant v = constant_at c.vars b.vars v vars

  pub wide : (v : ℕ) → length (var_at c v).start ≡ length (var_at b v).start
  wide v = var_same b c.mesh.dats c.vars c.trace like v

  pub dim : (d : ℕ) → dat_dim c.mesh d ≡ dat_dim b.mesh d
  dim d = dim_same b c.mesh.dats c.vars c.trace like d

  set : (d : ℕ) → dat_set c.mesh d ≡ dat_set b.mesh d
  set d = set_same b c.mesh.dats c.vars c.trace like d

  count : sum_by constant_cells c.vars ≡ sum_by constant_cells b.vars
  count = count_same c.vars b.vars vars

  cells : all_cells c ≡ all_cells b
  cells = cells_as_many c.vars b.vars vars

  dats : dat_count c.mesh ≡ dat_count b.mesh
  dats = dats_as_many b.mesh.dats s.dats

  -- cells of one variable, by what is known of variables
  abbrev OfOne : ℕ → (ℕ → Option ℕ) → (ℕ → ℕ) → ℕ → ℕ → Type 0
  OfOne n con len from k = (v : ℕ) × (v < n) × ((first : ℕ) × (con v ≡ Some first) × (first ≤ from) × (from + k ≤ first + len v))

  of_one : (x : RKernel) → UsesConstants (AreOfVariable b) x.body.statement → UsesConstants (AreOfVariable c) x.body.statement
  of_one x h = subst (λ n. UsesConstants (OfOne n (λ v. (var_at c v).constant) (λ v. length (var_at c v).start)) x.body.statement) (sym many)
      (subst (λ f. UsesConstants (OfOne (length b.vars) f (λ v. length (var_at c v).start)) x.body.statement) (sym (λ i. λ v. constant v i))
      (subst (λ f. UsesConstants (OfOne (length b.vars) (λ v. (var_at b v).constant) f) x.body.statement) (sym (λ i. λ v. wide v i)) h))

  kernel_moved : (x : RKernel) → KernelFits b x → KernelFits c x
  kernel_moved x h = record { resolved = subst (λ n. IsResolved n x) (sym count) h.resolved; constants = of_one x h.constants }

  constants_moved : ConstantsFit b → ConstantsFit c
  constants_moved h = record {
    within = λ v first l e.
        let lb : v < length b.vars = omega (arith, l, many) in
        let w : first + length (var_at b v).start ≤ sum_by constant_cells b.vars = h.within v first lb (sym (constant v) ∙ e) in
        omega (arith, w, wide v, count);
    apart = λ v w first other lv lw ne e d.
        let lb : v < length b.vars = omega (arith, lv, many) in
        let lc : w < length b.vars = omega (arith, lw, many) in
        ⊎_elim
        (λ (q : first + length (var_at b v).start ≤ other). inl (let r : first + length (var_at c v).start ≤ other = omega (arith, q, wide v) in r))
        (λ (q : other + length (var_at b w).start ≤ first). inr (let r : other + length (var_at c w).start ≤ first = omega (arith, q, wide w) in r))
        (h.apart v w first other lb lc ne (sym (constant v) ∙ e) (sym (constant w) ∙ d));
  }

  -- ---- loops
  via_moved : (t d : ℕ) (v : Option Via) → ViaFits b t d v → ViaFits c t d v
  unfolding map_from map_to map_dim
  via_moved t d None h = set d ∙ h
  via_moved t d (Some v) h = (h.0, h.1, h.2 ∙ sym (set d), h.3)

  arg_moved : (t : ℕ) (x : Arg) → ArgFits b t x → ArgFits c t x
  arg_moved t (Dat d v a) h = (
    (let l : d < dat_count c.mesh = omega (arith, h.0, dats) in l),
    (let l : dat_dim c.mesh d ≤ max_dim = subst (λ n. n ≤ max_dim) (sym (dim d)) h.1 in l),
    via_moved t d v h.2,
  )
  arg_moved t (Global v a) h = (
    (let l : v < length c.vars = omega (arith, h.0, many) in l),
    (let l : 0 < length (var_at c v).start = omega (arith, h.1, wide v) in l),
    (let l : length (var_at c v).start ≤ max_dim = subst (λ n. n ≤ max_dim) (sym (wide v)) h.2 in l),
    subst (GlobalAccess a) (sym (constant v)) h.3,
  )

  site_moved : (x : SiteValue) → SiteFits b x → SiteFits c x
  site_moved x h = record {
    kernel = h.kernel;
    set = h.set;
    few = h.few;
    args = λ i d l. arg_moved x.set (get_or x.args i d) (h.args i d l);
    apart = h.apart;
    class = h.class;
  }

  -- ---- statements
  host_moved : (e : RExprTree) → HostWithin b e → HostWithin c e
  host_moved (Number n) h = h
  host_moved (Scalar n) h = subst (λ m. n < m) (sym cells) h
  host_moved (Constant n) h = h
  host_moved (Param x form e at) h = h
  host_moved (Local from k form e at) h = (subst (λ m. from + k ≤ m) (sym cells) h.0, host_moved e h.1)
  host_moved (Const from k form e at) h = h
  host_moved (Unary op e) h = host_moved e h
  host_moved (Binary op x y at) h = (host_moved x h.0, host_moved y h.1)
  host_moved (Choice d x y) h = (host_moved d h.0, host_moved x h.1, host_moved y h.2)
  host_moved (Paren e) h = host_moved e h
  host_moved (Extremum which x y) h = (host_moved x h.0, host_moved y h.1)
  host_moved (Absolute e) h = host_moved e h

  index_moved : (i : Option RExprTree) → IndexWithin b i → IndexWithin c i
  index_moved None h = h
  index_moved (Some e) h = host_moved e h

  act_moved : (a : ActValue) → ActFits b a → ActFits c a
  act_moved (Clear v) h = omega (arith, many, (let l : v < length b.vars = h in l))
  act_moved (Assign v i op op_at e at) h =
      ((let l : v < length c.vars = omega (arith, h.0, many) in l), (let l : 0 < length (var_at c v).start = omega (arith, h.1, wide v) in l), index_moved i h.2, host_moved e h.3)
  act_moved (Line text es) h = (h.0, λ i d l. host_moved (get_or es i d) (h.1 i d l))
  act_moved (Print d file) h = omega (arith, dats, (let l : d < dat_count b.mesh = h in l))
  act_moved Exit h = h

  items_moved : (o : Option ℕ) (xs : List ItemValue) → ItemsFit b o xs → ItemsFit c o xs
  items_moved None [] f = f
  items_moved None (Free n ∷ xs) f = (f.0, f.1, items_moved (due b n) xs f.2)
  items_moved None (Ordered n ∷ xs) f = (f.0, f.1, items_moved None xs f.2)
  items_moved None (Host a ∷ xs) f = (act_moved a f.0, items_moved None xs f.1)
  items_moved None (Reduce n ∷ xs) f = absurd f
  items_moved (Some m) [] f = absurd f
  items_moved (Some m) (Reduce n ∷ xs) f = (f.0, items_moved None xs f.1)
  items_moved (Some m) (Free n ∷ xs) f = absurd f
  items_moved (Some m) (Ordered n ∷ xs) f = absurd f
  items_moved (Some m) (Host a ∷ xs) f = absurd f

  items_left : (o : Option ℕ) (xs : List ItemValue) (n : ℕ) → ItemsFit b o xs → is_merging (get_or xs n (Host Exit)) ≡ false → ItemsFit b None (drop n xs)
  items_left None xs zero f m = f
  items_left None [] (suc n) f m = tt
  items_left None (Free r ∷ xs) (suc n) f m = items_left (due b r) xs n f.2 m
  items_left None (Ordered r ∷ xs) (suc n) f m = items_left None xs n f.2 m
  items_left None (Host a ∷ xs) (suc n) f m = items_left None xs n f.1 m
  items_left None (Reduce r ∷ xs) (suc n) f m = absurd f
  items_left (Some q) [] n f m = absurd f
  items_left (Some q) (Reduce r ∷ xs) zero f m = absurd (false≢true (sym m))
  items_left (Some q) (Reduce r ∷ xs) (suc n) f m = items_left None xs n f.1 m
  items_left (Some q) (Free r ∷ xs) n f m = absurd f
  items_left (Some q) (Ordered r ∷ xs) n f m = absurd f
  items_left (Some q) (Host a ∷ xs) n f m = absurd f

ends_left : (xs : List ItemValue) (n : ℕ) → EndsWithHost xs → EndsWithHost (drop n xs)
ends_left xs zero h = h
ends_left [] (suc n) h = tt
ends_left (x ∷ []) (suc zero) h = tt
ends_left (x ∷ []) (suc (suc n)) h = tt
ends_left (Free r ∷ y ∷ xs) (suc n) h = ends_left (y ∷ xs) n h
ends_left (Reduce r ∷ y ∷ xs) (suc n) h = ends_left (y ∷ xs) n h
ends_left (Ordered r ∷ y ∷ xs) (suc n) h = ends_left (y ∷ xs) n h
ends_left (Host r ∷ y ∷ xs) (suc n) h = ends_left (y ∷ xs) n h

pub tails_fit : TailsFit
tails_fit b s fits cut shape = record {
  mesh = record {
    few_sets = fits.mesh.few_sets;
    few_maps = fits.mesh.few_maps;
    few_dats = omega (arith, fits.mesh.few_dats, dats_as_many b.mesh.dats s.dats);
    sizes = fits.mesh.sizes;
    maps = fits.mesh.maps;
    dats = dats_are b.mesh.sets b.mesh.dats s.dats shape.dats fits.mesh.dats;
  };
  kernels = λ i x l. kernel_moved b s shape (get_or b.kernels i x) (fits.kernels i x l);
  constants = constants_moved b s shape fits.constants;
  sites = λ i x l. site_moved b s shape (get_or b.sites i x) (fits.sites i x l);
  items = items_moved b s shape None (drop s.item b.trace) (items_left b s shape None b.trace s.item fits.items cut.whole);
  last = ends_left b.trace s.item fits.last;
  few = omega (arith, length-drop s.item b.trace, fits.few);
}
