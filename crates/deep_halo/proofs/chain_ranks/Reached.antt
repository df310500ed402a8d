-- The cells of an element's windows, by the arguments that reach them.
use Rattle.std.proofs.Common.{◌≡◌, ◌<◌, ◌&&◌, ℕ, true, Bool, List, length, get_or, sym, ap, ap₂, subst, ◌∙◌}
use Rattle.std.specs.List.{list_any}
use Rattle.std.proofs.lemmas.Bool.{eq-eqb}
use Rattle.std.proofs.lemmas.List.Folds.{list_any_at}
use Rattle.kernel_model.specs.Obeys.{Mode, mode_at}
use Rattle.mesh_decl.specs.declared.owners.Owners.{Owners}
use Rattle.schedule_model.specs.Cells.{Cell, Data, Variable, DatCell, VarCell}
use Rattle.run_model.specs.OnWindows.{no_cell}
use Rattle.bound_program.specs.declared.sites.Arg.{Arg}
use Rattle.bound_program.specs.declared.sites.Arg.TheVariants.{Dat, Global}
use Rattle.bound_program.specs.Values.{BoundValue, SiteValue}
use Rattle.run_model.specs.Windows.{element_by, reached, cell_in, window_cells}
use Rattle.run_model.specs.Arguments.{no_arg, arg_at, arg_width, modes_of}
use Rattle.run_model.specs.Laws.{WindowsAreReached}
use Rattle.run_model.proofs.Public.{mode_is, is_argument}
use Rattle.bound_plan.proofs.Public.{at_among, among_at}
use Rattle.schedule_model.specs.Layout.{among}
use Rattle.deep_halo.specs.Globals.{is_on}
use Rattle.deep_halo.specs.Dropping.{leads_to}

-- the cell is one of the element's windows
abbrev pub is_reached : BoundValue → List Arg → ℕ → Cell → Bool
is_reached b args e c = among (window_cells b args e) c

module _ (b : BoundValue) (reach : WindowsAreReached) (site : SiteValue) (e : ℕ) where
  -- the cell is a component of what an argument reaches
  pub record Reaching (c : Cell) : Type 0 where
    pub number : ℕ
    pub component : ℕ
    pub there : number < length site.args
    pub is : cell_in (reached b e (get_or site.args number no_arg)) component ≡ c

  pub reaching : (c : Cell) → is_reached b site.args e c ≡ true → Reaching c
  reaching c h =
      let w = at_among (window_cells b site.args e) c h in
      let r = reach b site e in
      let a = r.covered w.0 w.1 in
      record {
        number = a.0;
        component = a.1;
        there = is_argument b site a.0 a.1 a.2;
        is = sym (r.are a.0 a.1 a.2) ∙ (ap (λ j. get_or (window_cells b site.args e) j no_cell) a.3 ∙ w.2);
      }

  -- each of these components is one of the windows
  pub reached_by : (a i : ℕ) → a < length site.args → i < arg_width b (arg_at site a) → is_reached b site.args e (cell_in (reached b e (arg_at site a)) i) ≡ true
  reached_by a i la li =
      let r = reach b site e in
      let lt : i < (mode_at (modes_of b site) a).dim = subst (λ n. i < n) (sym (ap (λ (m : Mode). m.dim) (mode_is b site a la))) li in
      among_at (window_cells b site.args e) _ (cell_in (reached b e (arg_at site a)) i) (r.inside a i lt) (r.are a i lt)

  -- a cell of a dat is led to by an argument
  pub led_to : (o : Owners) (k r : ℕ) (c : DatCell) → is_reached b site.args e (Data c) ≡ true → list_any (leads_to b o k r e c) site.args ≡ true
  led_to o k r c h =
      let w = reaching (Data c) h in
      list_any_at (leads_to b o k r e c) site.args w.number no_arg w.there (by (get_or site.args w.number no_arg) w.component w.is)
    where
      by : (x : Arg) (i : ℕ) → cell_in (reached b e x) i ≡ Data c → leads_to b o k r e c x ≡ true
      by (Dat d v a) i q = ap₂ (λ s t. s && t) (eq-eqb c.dat d (let z : d ≡ c.dat = cc in sym z)) (eq-eqb c.element (element_by b v e) (let z : element_by b v e ≡ c.element = cc in sym z))
      by (Global v a) i q = let z : ⊥ = cc in absurd z

  -- a cell of a variable is of an argument on it
  pub on_variable : (v : VarCell) → is_reached b site.args e (Variable v) ≡ true → list_any (is_on v.variable) site.args ≡ true
  on_variable v h =
      let w = reaching (Variable v) h in
      list_any_at (is_on v.variable) site.args w.number no_arg w.there (by (get_or site.args w.number no_arg) w.component w.is)
    where
      by : (x : Arg) (i : ℕ) → cell_in (reached b e x) i ≡ Variable v → is_on v.variable x ≡ true
      by (Dat d u a) i q = let z : ⊥ = cc in absurd z
      by (Global n a) i q = eq-eqb v.variable n (let z : n ≡ v.variable = cc in sym z)
