-- What a loop's arguments name for an element: cells that are there, each at its own place.
use Rattle.std.proofs.Common.{◌≡◌, ◌<◌, ◌+◌, ◌*◌, ℕ, zero, suc, List, [], ◌∷◌, map, length, Some, None, refl, sym, ap, ap₂, ◌∙◌, subst, ⊎_elim, arith}
use Rattle.std.proofs.lemmas.Bool.{cases_lt}
use Rattle.std.proofs.lemmas.Nat.{same_from_place}
use Rattle.std.proofs.lemmas.List.{get_or-map, length-map, get_or_past}
use Rattle.kernel_model.specs.Meaning.{Target, no_target, target_at}
use Rattle.kernel_model.specs.Obeys.{Mode, mode_at, no_mode}
use Rattle.mesh_decl.specs.Mesh.{target, map_count, map_from, dat_dim, set_size, IsMapAt}
use Rattle.schedule_model.specs.Cells.{Cell, Data, Variable}
use Rattle.bound_program.specs.declared.sites.Arg.{Arg}
use Rattle.bound_program.specs.declared.sites.Arg.TheVariants.{Dat, Global}
use Rattle.bound_program.specs.Values.{BoundValue, SiteValue}
use Rattle.bound_program.specs.Fits.{ArgFits, SiteFits}
use Rattle.run_model.specs.Windows.{reached, cell_in}
use Rattle.run_model.specs.Arguments.{no_arg, arg_at, arg_width, mode_of, modes_of, cell_of}
use Rattle.run_model.specs.Arrays.{target_of}
use Rattle.run_model.specs.Holds.{IsCell, array_with, index_of}

module _ (b : BoundValue) where
  -- different cells stand at different places
  pub apart : (c d : Cell) → IsCell b c → IsCell b d → array_with b c ≡ array_with b d → index_of b c ≡ index_of b d → c ≡ d
  apart (Data c) (Data d) h g dats places =
      let turned : d.element * dat_dim b.mesh d.dat ≡ d.element * dat_dim b.mesh c.dat = ap (λ n. d.element * dat_dim b.mesh n) (sym dats) in
      let below : d.component < dat_dim b.mesh c.dat = subst (λ n. d.component < dat_dim b.mesh n) (sym dats) g.2 in
      let one = same_from_place c.element c.component d.element d.component (dat_dim b.mesh c.dat) h.2 below (omega (arith, places, turned)) in
      ap (λ n. Data (record { dat = n; element = c.element; component = c.component })) dats
      ∙ ap₂ (λ x y. Data (record { dat = d.dat; element = x; component = y })) one.0 one.1
  apart (Variable v) (Variable w) h g arrays places =
      let variables : v.variable ≡ w.variable = omega (arith, arrays) in
      ap₂ (λ x y. Variable (record { variable = x; component = y })) variables places
  apart (Data c) (Variable w) h g arrays places = absurd (omega (arith, arrays, h.0))
  apart (Variable v) (Data d) h g arrays places = absurd (omega (arith, arrays, g.0))

  -- ---- an argument

  counts : (e : ℕ) (x : Arg) → (target_of b e x).count ≡ arg_width b x
  counts e (Dat d None a) = refl
  counts e (Dat d (Some v) a) = refl
  counts e (Global v a) = refl

  arrays_are : (e : ℕ) (x : Arg) (i : ℕ) → (target_of b e x).array ≡ array_with b (cell_in (reached b e x) i)
  arrays_are e (Dat d None a) i = refl
  arrays_are e (Dat d (Some v) a) i = refl
  arrays_are e (Global v a) i = refl

  places_are : (e : ℕ) (x : Arg) (i : ℕ) → (target_of b e x).from + i ≡ index_of b (cell_in (reached b e x) i)
  places_are e (Dat d None a) i = refl
  places_are e (Dat d (Some v) a) i = refl
  places_are e (Global v a) i = omega arith

  module _ (maps : (n : ℕ) → n < map_count b.mesh → IsMapAt b.mesh n) where
    -- what it reaches is there
    cells_are : (set e : ℕ) (x : Arg) (i : ℕ) → ArgFits b set x → e < set_size b.mesh set → i < arg_width b x → IsCell b (cell_in (reached b e x) i)
    cells_are set e (Dat d None a) i fit le li = (fit.0, subst (λ s. e < set_size b.mesh s) (sym fit.2) le, li)
    cells_are set e (Dat d (Some v) a) i fit le li =
        let via = fit.2 in
        let from : e < set_size b.mesh (map_from b.mesh v.map) = subst (λ s. e < set_size b.mesh s) (sym via.1) le in
        (fit.0, subst (λ s. target b.mesh v.map e v.index < set_size b.mesh s) via.2 ((maps v.map via.0).within e v.index from via.3), li)
    cells_are set e (Global v a) i fit le li = (fit.0, li)

    -- ---- the arguments of a loop, by their numbers

    module _ (site : SiteValue) (fits : SiteFits b site) (e : ℕ) (le : e < set_size b.mesh site.set) where
      abbrev dim : ℕ → ℕ
      dim a = (mode_at (modes_of b site) a).dim

      abbrev pub targets : List Target
      targets = map (target_of b e) site.args

      is_argument : (a i : ℕ) → i < dim a → a < length site.args
      is_argument a i lt = ⊎_elim (λ l. l) (λ l.
          let none : mode_at (modes_of b site) a ≡ no_mode = get_or_past (modes_of b site) a no_mode (omega (arith, l, length-map site.args (mode_of b))) in
          let narrow : dim a ≡ 0 = ap (λ (m : Mode). m.dim) none in
          absurd (omega (arith, narrow, lt))) (cases_lt a (length site.args))

      below : (a i : ℕ) → i < dim a → i < arg_width b (arg_at site a)
      below a i lt = subst (λ (m : Mode). i < m.dim) (get_or-map (mode_of b) site.args a no_arg no_mode (is_argument a i lt)) lt

      named : (a i : ℕ) → i < dim a → target_at targets a ≡ target_of b e (arg_at site a)
      named a i lt = get_or-map (target_of b e) site.args a no_arg no_target (is_argument a i lt)

      pub counted : (a : ℕ) → (target_at targets a).count ≡ dim a
      counted a = by_list site.args a
        where
          by_list : (xs : List Arg) (n : ℕ) → (target_at (map (target_of b e) xs) n).count ≡ (mode_at (map (mode_of b) xs) n).dim
          by_list [] n = refl
          by_list (x ∷ xs) zero = counts e x
          by_list (x ∷ xs) (suc n) = by_list xs n

      pub there : (a i : ℕ) → i < dim a → IsCell b (cell_of b site e a i)
      there a i lt = cells_are site.set e (arg_at site a) i (fits.args a no_arg (is_argument a i lt)) le (below a i lt)

      pub arrays : (a i : ℕ) → i < dim a → (target_at targets a).array ≡ array_with b (cell_of b site e a i)
      arrays a i lt = ap (λ (t : Target). t.array) (named a i lt) ∙ arrays_are e (arg_at site a) i

      pub places : (a i : ℕ) → i < dim a → (target_at targets a).from + i ≡ index_of b (cell_of b site e a i)
      places a i lt = ap (λ (t : Target). t.from + i) (named a i lt) ∙ places_are e (arg_at site a) i
