-- The cells that an argument reaches are the components of its target.
use Rattle.std.proofs.Common.{◌≡◌, ◌<◌, ℕ, true, Some, None, refl, sym, ap, ◌∙◌}
use Rattle.std.specs.Prelude.{◌&&◌, ◌==◌, nat_lt}
use Rattle.std.proofs.lemmas.Bool.{false≢true, and_parts, and_from, eq-eqb, eqb-true, lt-ltb, ltb-true}
use Rattle.mesh_decl.specs.Mesh.{target, dat_dim}
use Rattle.schedule_model.specs.Cells.{Cell, Data, Variable, DatCell}
use Rattle.schedule_model.specs.Arguments.{reaches, access_of}
use Rattle.bound_program.specs.declared.sites.Arg.{Arg}
use Rattle.bound_program.specs.declared.sites.Arg.TheVariants.{Dat, Global}
use Rattle.bound_program.specs.Values.{BoundValue}
use Rattle.run_model.specs.Windows.{reached, cell_in}
use Rattle.run_model.specs.Arguments.{access_by, argument_of, entries, dat_width, var_width, arg_width}

pub access_is : (x : Arg) → access_by x ≡ access_of (argument_of x)
access_is (Dat d None a) = refl
access_is (Dat d (Some v) a) = refl
access_is (Global v a) = refl

-- the tests of a dat's cell, and of a variable's
data_true : (d x n i : ℕ) → i < n → ((d == d) && ((x == x) && nat_lt i n)) ≡ true
data_true d x n i lt = and_from (d == d) ((x == x) && nat_lt i n) (eq-eqb d d refl) (and_from (x == x) (nat_lt i n) (eq-eqb x x refl) (lt-ltb i n lt))

data_is : (d x n : ℕ) (c : DatCell) → ((d == c.dat) && ((x == c.element) && nat_lt c.component n)) ≡ true
    → (i : ℕ) × (i < n) × (Data c ≡ Data (record { dat = d; element = x; component = i }))
data_is d x n c h =
    let p = and_parts (d == c.dat) ((x == c.element) && nat_lt c.component n) h in
    let q = and_parts (x == c.element) (nat_lt c.component n) p.1 in
    let dats : d ≡ c.dat = eqb-true d c.dat p.0 in
    let elements : x ≡ c.element = eqb-true x c.element q.0 in (
      c.component,
      ltb-true c.component n q.1,
      sym
          (ap (λ (f : ℕ). Data (record { dat = f; element = x; component = c.component })) dats
          ∙ ap (λ (f : ℕ). Data (record { dat = c.dat; element = f; component = c.component })) elements),
    )

module _ (b : BoundValue) (e : ℕ) where
  pub reaches_own : (x : Arg) (i : ℕ) → i < arg_width b x → reaches (entries b) (dat_width b) (var_width b) e (argument_of x) (cell_in (reached b e x) i) ≡ true
  reaches_own (Dat d None a) i lt = data_true d e (dat_dim b.mesh d) i lt
  reaches_own (Dat d (Some v) a) i lt = data_true d (target b.mesh v.map e v.index) (dat_dim b.mesh d) i lt
  reaches_own (Global v a) i lt = and_from (v == v) (nat_lt i (var_width b v)) (eq-eqb v v refl) (lt-ltb i (var_width b v) lt)

  pub reaches_only : (x : Arg) (c : Cell) → reaches (entries b) (dat_width b) (var_width b) e (argument_of x) c ≡ true
      → (i : ℕ) × (i < arg_width b x) × (c ≡ cell_in (reached b e x) i)
  reaches_only (Dat d None a) (Data c) h = data_is d e (dat_dim b.mesh d) c h
  reaches_only (Dat d (Some v) a) (Data c) h = data_is d (target b.mesh v.map e v.index) (dat_dim b.mesh d) c h
  reaches_only (Global v a) (Variable c) h =
      let p = and_parts (v == c.variable) (nat_lt c.component (var_width b v)) h in
      (c.component, ltb-true c.component (var_width b v) p.1, sym (ap (λ (f : ℕ). Variable (record { variable = f; component = c.component })) (eqb-true v c.variable p.0)))
  reaches_only (Dat d None a) (Variable c) h = absurd (false≢true h)
  reaches_only (Dat d (Some v) a) (Variable c) h = absurd (false≢true h)
  reaches_only (Global v a) (Data c) h = absurd (false≢true h)
