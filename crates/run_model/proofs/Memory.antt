-- Where cells stand in one memory: within it, and apart.
use Rattle.std.proofs.Common.{◌≡◌, ◌<◌, ◌≤◌, ◌+◌, ◌*◌, ℕ, zero, suc, true, length, sym, ap, ap₂, ◌∙◌, ⊎_elim, arith}
use Rattle.std.specs.Prelude.{◌&&◌, nat_lt}
use Rattle.std.proofs.lemmas.Bool.{cases_lt, and_parts, and_from, lt-ltb, ltb-true}
use Rattle.std.proofs.lemmas.Nat.{mul-add-lt, same_from_place}
use Rattle.mesh_decl.specs.Mesh.{dat_count, set_size, dat_set}
use Rattle.schedule_model.specs.Cells.{Cell, Data, Variable, DatCell, VarCell}
use Rattle.bound_program.specs.Values.{BoundValue}
use Rattle.run_model.specs.Windows.{Reached, Element, Whole, cell_in}
use Rattle.run_model.specs.Arguments.{dat_width, var_width}
use Rattle.run_model.specs.Memory.{dat_start, var_start, memory_length, place_of, has_cell, MemoryIsInOrder}

module _ (b : BoundValue) where
  -- the elements of a dat
  abbrev dat_size : ℕ → ℕ
  dat_size d = set_size b.mesh (dat_set b.mesh d)

  -- ---- starts
  pub dats_follow : (d n : ℕ) → d < n → dat_start b d + dat_size d * dat_width b d ≤ dat_start b n
  dats_follow d zero lt = absurd (omega arith)
  dats_follow d (suc n) lt = ⊎_elim
      (λ (l : d < n). omega (arith, dats_follow d n l))
      (λ (l : n ≤ d). let same : d ≡ n = omega arith in
      let start : dat_start b d + dat_size d * dat_width b d ≡ dat_start b n + dat_size n * dat_width b n = ap (λ k. dat_start b k + dat_size k * dat_width b k) same in
      omega (arith, start))
      (cases_lt d n)

  pub vars_follow : (v n : ℕ) → v < n → var_start b v + var_width b v ≤ var_start b n
  vars_follow v zero lt = absurd (omega arith)
  vars_follow v (suc n) lt = ⊎_elim
      (λ (l : v < n). omega (arith, vars_follow v n l))
      (λ (l : n ≤ v). let same : v ≡ n = omega arith in
      let start : var_start b v + var_width b v ≡ var_start b n + var_width b n = ap (λ k. var_start b k + var_width b k) same in
      omega (arith, start))
      (cases_lt v n)

  pub after_dats : (n : ℕ) → dat_start b (dat_count b.mesh) ≤ var_start b n
  after_dats zero = omega arith
  after_dats (suc n) = omega (arith, after_dats n)

  -- ---- cells that are there
  pub record DatThere (c : DatCell) : Type 0 where
    pub dat : c.dat < dat_count b.mesh
    pub element : c.element < dat_size c.dat
    pub component : c.component < dat_width b c.dat

  pub dat_there : (c : DatCell) → has_cell b (Data c) ≡ true → DatThere c
  dat_there c h =
      let p = and_parts (nat_lt c.dat (dat_count b.mesh)) (nat_lt c.element (dat_size c.dat) && nat_lt c.component (dat_width b c.dat)) h in
      let q = and_parts (nat_lt c.element (dat_size c.dat)) (nat_lt c.component (dat_width b c.dat)) p.1 in
      record {
        dat = ltb-true c.dat (dat_count b.mesh) p.0;
        element = ltb-true c.element (dat_size c.dat) q.0;
        component = ltb-true c.component (dat_width b c.dat) q.1;
      }

  pub has_dat : (d x i : ℕ) → d < dat_count b.mesh → x < set_size b.mesh (dat_set b.mesh d) → i < dat_width b d → has_cell b (cell_in (Element d x) i) ≡ true
  has_dat d x i ld lx li =
      and_from (nat_lt d (dat_count b.mesh)) (nat_lt x (dat_size d) && nat_lt i (dat_width b d)) (lt-ltb d (dat_count b.mesh) ld)
      (and_from (nat_lt x (dat_size d)) (nat_lt i (dat_width b d)) (lt-ltb x (dat_size d) lx) (lt-ltb i (dat_width b d) li))

  pub record VarThere (v : VarCell) : Type 0 where
    pub variable : v.variable < length b.vars
    pub component : v.component < var_width b v.variable

  pub var_there : (v : VarCell) → has_cell b (Variable v) ≡ true → VarThere v
  var_there v h =
      let p = and_parts (nat_lt v.variable (length b.vars)) (nat_lt v.component (var_width b v.variable)) h in
      record { variable = ltb-true v.variable (length b.vars) p.0; component = ltb-true v.component (var_width b v.variable) p.1 }

  pub has_var : (v i : ℕ) → v < length b.vars → i < var_width b v → has_cell b (cell_in (Whole v) i) ≡ true
  has_var v i lv li = and_from (nat_lt v (length b.vars)) (nat_lt i (var_width b v)) (lt-ltb v (length b.vars) lv) (lt-ltb i (var_width b v) li)

  -- ---- places
  pub dat_below : (c : DatCell) → DatThere c → place_of b (Data c) < dat_start b c.dat + dat_size c.dat * dat_width b c.dat
  dat_below c h = omega (arith, mul-add-lt c.element (dat_width b c.dat) c.component (dat_size c.dat) h.element h.component)

  pub before_vars : (c : DatCell) (n : ℕ) → DatThere c → place_of b (Data c) < var_start b n
  before_vars c n h = omega (arith, dat_below c h, dats_follow c.dat (dat_count b.mesh) h.dat, after_dats n)

  pub inside : (c : Cell) → has_cell b c ≡ true → place_of b c < memory_length b
  inside (Data c) h = before_vars c (length b.vars) (dat_there c h)
  inside (Variable v) h = let t = var_there v h in omega (arith, t.component, vars_follow v.variable (length b.vars) t.variable)

  earlier_dat : (c d : DatCell) → DatThere c → c.dat < d.dat → place_of b (Data c) < place_of b (Data d)
  earlier_dat c d h lt = omega (arith, dat_below c h, dats_follow c.dat d.dat lt)

  one_dat : (c d : DatCell) → DatThere c → DatThere d → c.dat ≡ d.dat → place_of b (Data c) ≡ place_of b (Data d) → Data c ≡ Data d
  one_dat c d h g same e =
      let wide : dat_width b d.dat ≡ dat_width b c.dat = ap (dat_width b) (sym same) in
      let start : dat_start b c.dat ≡ dat_start b d.dat = ap (dat_start b) same in
      let turned : d.element * dat_width b d.dat ≡ d.element * dat_width b c.dat = ap (λ w. d.element * w) wide in
      let rows : c.element * dat_width b c.dat + c.component ≡ d.element * dat_width b c.dat + d.component = omega (arith, e, start, turned) in
      let below : d.component < dat_width b c.dat = omega (arith, g.component, wide) in
      let one = same_from_place c.element c.component d.element d.component (dat_width b c.dat) h.component below rows in
      ap (λ x. Data (record { dat = x; element = c.element; component = c.component })) same
      ∙ ap₂ (λ x y. Data (record { dat = d.dat; element = x; component = y })) one.0 one.1

  earlier_var : (v w : VarCell) → VarThere v → v.variable < w.variable → place_of b (Variable v) < place_of b (Variable w)
  earlier_var v w h lt = omega (arith, h.component, vars_follow v.variable w.variable lt)

  one_var : (v w : VarCell) → v.variable ≡ w.variable → place_of b (Variable v) ≡ place_of b (Variable w) → Variable v ≡ Variable w
  one_var v w same e =
      let start : var_start b v.variable ≡ var_start b w.variable = ap (var_start b) same in
      let component : v.component ≡ w.component = omega (arith, e, start) in
      ap₂ (λ x y. Variable (record { variable = x; component = y })) same component

  pub apart : (c d : Cell) → has_cell b c ≡ true → has_cell b d ≡ true → place_of b c ≡ place_of b d → c ≡ d
  apart (Data c) (Data d) h g e = ⊎_elim
      (λ (l : c.dat < d.dat). absurd (omega (arith, e, earlier_dat c d (dat_there c h) l)))
      (λ (l : d.dat ≤ c.dat). ⊎_elim
      (λ (k : d.dat < c.dat). absurd (omega (arith, e, earlier_dat d c (dat_there d g) k)))
      (λ (k : c.dat ≤ d.dat). one_dat c d (dat_there c h) (dat_there d g) (omega arith) e)
      (cases_lt d.dat c.dat))
      (cases_lt c.dat d.dat)
  apart (Variable v) (Variable w) h g e = ⊎_elim
      (λ (l : v.variable < w.variable). absurd (omega (arith, e, earlier_var v w (var_there v h) l)))
      (λ (l : w.variable ≤ v.variable). ⊎_elim
      (λ (k : w.variable < v.variable). absurd (omega (arith, e, earlier_var w v (var_there w g) k)))
      (λ (k : v.variable ≤ w.variable). one_var v w (omega arith) e)
      (cases_lt w.variable v.variable))
      (cases_lt v.variable w.variable)
  apart (Data c) (Variable w) h g e = absurd (omega (arith, e, before_vars c w.variable (dat_there c h)))
  apart (Variable v) (Data d) h g e = absurd (omega (arith, e, before_vars d v.variable (dat_there d g)))

  -- the components of what is reached follow one another
  pub follow : (r : Reached) (i : ℕ) → place_of b (cell_in r 0) + i ≡ place_of b (cell_in r i)
  follow (Element d x) i = omega arith
  follow (Whole v) i = omega arith

pub memory_is_in_order : MemoryIsInOrder
memory_is_in_order b = record { dats = dats_follow b; vars = vars_follow b; behind = after_dats b; components = has_var b }
