-- Where cells stand in blocks: within the memory, and apart.
use Rattle.std.proofs.Common.{◌≡◌, ◌<◌, ◌≤◌, ◌+◌, ◌*◌, ℕ, suc, true, All, List, [], ◌∷◌, map, length, get_or, Option, Some, None, refl, sym, ap, subst, ◌∙◌, arith, ⊎_elim}
use Rattle.std.proofs.lemmas.Nat.{same_from_place}
use Rattle.std.proofs.lemmas.Bool.{false≢true, or_cases}
use Rattle.mesh_decl.specs.declared.access.Via.{Via}
use Rattle.mesh_decl.specs.declared.owners.Owners.{Owners}
use Rattle.mesh_decl.specs.Mesh.{IsInRange, dat_count, dat_set, map_from, set_size, target}
use Rattle.mesh_decl.specs.Owners.{AreOwners, owner_of}
use Rattle.schedule_model.specs.Cells.{Cell, same_cell}
use Rattle.schedule_model.specs.Tests.{same_cell_true}
use Rattle.schedule_model.specs.Layout.{among}
use Rattle.run_model.specs.OnWindows.{no_cell, OnWindows}
use Rattle.kernel_runs.specs.Saving.{place_cells}
use Rattle.bound_program.specs.declared.sites.Arg.{Arg}
use Rattle.bound_program.specs.declared.sites.Arg.TheVariants.{Dat, Global}
use Rattle.bound_program.specs.Values.{BoundValue, SiteValue}
use Rattle.bound_program.specs.Fits.{ArgFits, ViaFits, SiteFits}
use Rattle.run_model.specs.Windows.{Reached, Element, Whole, element_by, reached, width, cell_in, window_cells, windows}
use Rattle.run_model.specs.Arguments.{no_arg, arg_at, arg_width, cell_of, modes_of}
use Rattle.run_model.specs.Memory.{memory_length, place_of, has_cell}
use Rattle.run_model.proofs.Public.{is_argument, below, has_dat, has_var, inside, apart, follow}
use Rattle.deep_halo.proofs.chain_memory.Within.{block_end, pair_within, variable_within}
use Rattle.deep_halo.specs.Placed.{arg_place, ArePlaced}
use Rattle.deep_halo.specs.Places.{all_cells, block_at, stands_at, AtRank}

module _ (b : BoundValue) where
  -- what an argument leads to is there
  pub led : (ranges : IsInRange b.mesh) (set d e : ℕ) (v : Option Via) → d < dat_count b.mesh → ViaFits b set d v → e < set_size b.mesh set → element_by b v e < set_size b.mesh (dat_set b.mesh d)
  led ranges set d e None ld fit le = subst (λ s. e < set_size b.mesh s) (sym fit) le
  led ranges set d e (Some v) ld fit le =
      let from : e < set_size b.mesh (map_from b.mesh v.map) = subst (λ s. e < set_size b.mesh s) (sym fit.1) le in
      subst (λ s. target b.mesh v.map e v.index < set_size b.mesh s) fit.2 ((ranges.maps v.map fit.0).within e v.index from fit.3)

  there : (ranges : IsInRange b.mesh) (set e : ℕ) (x : Arg) (i : ℕ) → ArgFits b set x → e < set_size b.mesh set → i < arg_width b x → has_cell b (cell_in (reached b e x) i) ≡ true
  there ranges set e (Dat d v a) i fit le li = has_dat b d (element_by b v e) i fit.0 (led ranges set d e v fit.0 fit.2 le) li
  there ranges set e (Global v a) i fit le li = has_var b v i fit.0 li

  -- ---- the cells of windows

  at_among : (xs : List Cell) (c : Cell) → among xs c ≡ true → (j : ℕ) × (j < length xs) × (get_or xs j no_cell ≡ c)
  at_among [] c h = absurd (false≢true h)
  at_among (x ∷ xs) c h = ⊎_elim
      (λ (e : same_cell x c ≡ true). (0, (let l : 0 < suc (length xs) = omega arith in l), same_cell_true x c e))
      (λ (e : among xs c ≡ true). let w = at_among xs c e in (suc w.0, (let l : suc w.0 < suc (length xs) = omega (arith, w.1) in l), w.2))
      (or_cases (same_cell x c) (among xs c) h)

  pub reached_there : (ranges : IsInRange b.mesh) (site : SiteValue) (e : ℕ) → SiteFits b site → e < set_size b.mesh site.set
      → OnWindows (modes_of b site) (cell_of b site e) (window_cells b site.args e) (windows b site.args e)
      → (c : Cell) → among (window_cells b site.args e) c ≡ true → has_cell b c ≡ true
  reached_there ranges site e fits le reach c h =
      let w = at_among (window_cells b site.args e) c h in
      let a = reach.covered w.0 w.1 in
      let is : cell_of b site e a.0 a.1 ≡ c = sym (reach.are a.0 a.1 a.2) ∙ (ap (λ j. get_or (window_cells b site.args e) j no_cell) a.3 ∙ w.2) in
      subst (λ z. has_cell b z ≡ true) is
      (there ranges site.set e (arg_at site a.0) a.1 (fits.args a.0 no_arg (is_argument b site a.0 a.1 a.2)) le (below b site a.0 a.1 a.2))

  -- ---- in blocks

  module _ (o : Owners) (at : Option ℕ) where
    block_same : (t : Reached) (i : ℕ) → (a : Option ℕ) → block_at b o a (cell_in t i) ≡ block_at b o a (cell_in t 0)
    block_same t i (Some r) = refl
    block_same (Element d y) i None = refl
    block_same (Whole v) i None = refl

    pub stand_follow : (t : Reached) (i : ℕ) → stands_at b o at (cell_in t i) ≡ stands_at b o at (cell_in t 0) + i
    stand_follow t i =
        let e : block_at b o at (cell_in t i) * memory_length b ≡ block_at b o at (cell_in t 0) * memory_length b = ap (λ n. n * memory_length b) (block_same t i at) in
        omega (arith, follow b t i)

    pub stand_apart : (c d : Cell) → has_cell b c ≡ true → has_cell b d ≡ true → stands_at b o at c ≡ stands_at b o at d → c ≡ d
    stand_apart c d hc hd e = apart b c d hc hd
        (same_from_place (block_at b o at c) (place_of b c) (block_at b o at d) (place_of b d) (memory_length b) (inside b c hc) (inside b d hd) e).1

    block_below : (owners : AreOwners b.mesh o) → IsInRange b.mesh → (a : Option ℕ) → AtRank o.ranks a → (set e : ℕ) (x : Arg) → ArgFits b set x → e < set_size b.mesh set
        → block_at b o a (cell_in (reached b e x) 0) ≤ o.ranks
    block_below owners ranges (Some r) h set e x fit le = (let l : r < o.ranks = h in omega arith)
    block_below owners ranges None h set e (Dat d v a) fit le =
        (let l : owner_of o (dat_set b.mesh d) (element_by b v e) < o.ranks =
        owners.below (dat_set b.mesh d) (element_by b v e) ((ranges.dats d fit.0).set) (led ranges set d e v fit.0 fit.2 le) in
        omega arith)
    block_below owners ranges None h set e (Global v a) fit le = omega arith

    within_block : IsInRange b.mesh → (set e : ℕ) (x : Arg) → ArgFits b set x → e < set_size b.mesh set → place_of b (cell_in (reached b e x) 0) + width b (reached b e x) ≤ memory_length b
    within_block ranges set e (Dat d v a) fit le = pair_within b d (element_by b v e) fit.0 (led ranges set d e v fit.0 fit.2 le)
    within_block ranges set e (Global v a) fit le = variable_within b v fit.0

    pub are_placed : AreOwners b.mesh o → IsInRange b.mesh → AtRank o.ranks at → (site : SiteValue) (e : ℕ) → SiteFits b site → e < set_size b.mesh site.set
        → OnWindows (modes_of b site) (cell_of b site e) (window_cells b site.args e) (windows b site.args e)
        → ArePlaced b site.args e (stands_at b o at) (all_cells b o.ranks)
    are_placed owners ranges h site e fits le reach = record {
      follow = stand_follow;
      within = λ k d lt.
          let x = get_or site.args k d in
          let fit : ArgFits b site.set x = fits.args k d lt in
          let l : block_at b o at (cell_in (reached b e x) 0) ≤ o.ranks = block_below owners ranges at h site.set e x fit le in
          omega (arith, block_end (memory_length b) (block_at b o at (cell_in (reached b e x) 0)) o.ranks l, within_block ranges site.set e x fit le);
      apart = λ c d rc rd e. stand_apart c d (reached_there ranges site _ fits le reach c rc) (reached_there ranges site _ fits le reach d rd) e;
    }

    -- arguments have few cells
    pub few_cells : (set e : ℕ) (xs all : List Arg) → All (ArgFits b set) xs → place_cells (map (arg_place b all e (stands_at b o at)) xs) ≤ length xs * 64
    few_cells set e [] all fits = omega arith
    few_cells set e (x ∷ xs) all fits =
        let here : width b (reached b e x) ≤ 64 = one x (fits 0 x (omega arith)) in
        omega (arith, few_cells set e xs all (λ k d lt. fits (suc k) d (omega arith)))
      where
        one : (y : Arg) → ArgFits b set y → width b (reached b e y) ≤ 64
        one (Dat d v a) fit = fit.1
        one (Global v a) fit = fit.2
