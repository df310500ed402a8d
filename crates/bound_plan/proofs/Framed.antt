-- The windows of a frame are the cells that the arguments reach, each once.
use Rattle.std.proofs.Common.{◌≡◌, ◌<◌, ◌+◌, ℕ, zero, suc, List, [], ◌∷◌, map, length, get_or, refl, sym, ap, subst, ◌∙◌}
use Rattle.std.proofs.lemmas.List.{get_or-map}
use Rattle.kernel_model.specs.Meaning.{Target, no_target, target_at}
use Rattle.kernel_model.specs.Obeys.{Mode, mode_at}
use Rattle.run_model.specs.OnWindows.{no_cell, OnWindows}
use Rattle.bound_program.specs.declared.sites.Arg.{Arg}
use Rattle.bound_program.specs.Values.{BoundValue, SiteValue}
use Rattle.run_model.specs.Windows.{reached, targets, window_of, cell_in}
use Rattle.run_model.specs.Arguments.{no_arg, mode_of, modes_of, cell_of}
use Rattle.run_model.specs.Laws.{WindowsAreReached}
use Rattle.run_model.proofs.Public.{wide, mode_is, is_argument}
use Rattle.bound_plan.specs.Windows.{dats_first, frame_cells, frame_windows}
use Rattle.bound_plan.proofs.Arranged.{Has, arranged, of_arranged}

module _ (b : BoundValue) where
  module _ (law : WindowsAreReached) (site : SiteValue) (e : ℕ) where
    abbrev other : SiteValue
    other = record site { args = dats_first site.args }

    on_other : OnWindows (modes_of b other) (cell_of b other e) (frame_cells b site.args e) (map (λ a. window_of b (targets b (dats_first site.args) e) (reached b e a)) (dats_first site.args))
    on_other = law b other e

    counted : (xs : List Arg) (a : ℕ) → (target_at (map (λ x. window_of b (targets b (dats_first site.args) e) (reached b e x)) xs) a).count ≡ (mode_at (map (mode_of b) xs) a).dim
    counted [] a = refl
    counted (x ∷ xs) zero = wide b e x
    counted (x ∷ xs) (suc a) = counted xs a

    array : (xs : List Arg) (a : ℕ) → (target_at (map (λ x. window_of b (targets b (dats_first site.args) e) (reached b e x)) xs) a).array ≡ 0
    array [] a = refl
    array (x ∷ xs) zero = refl
    array (x ∷ xs) (suc a) = array xs a

    target_is : (xs : List Arg) (a : ℕ) → a < length xs
        → target_at (map (λ x. window_of b (targets b (dats_first site.args) e) (reached b e x)) xs) a ≡ window_of b
        (targets b (dats_first site.args) e) (reached b e (get_or xs a no_arg))
    target_is xs a l = get_or-map (λ x. window_of b (targets b (dats_first site.args) e) (reached b e x)) xs a no_arg no_target l

    -- an argument and where it stands among the arranged ones
    module _ (a c : ℕ) (la : a < length site.args) (lc : c < length (dats_first site.args)) (same : get_or (dats_first site.args) c no_arg ≡ get_or site.args a no_arg) where
      targets_agree : target_at (map (λ x. window_of b (targets b (dats_first site.args) e) (reached b e x)) (dats_first site.args)) c ≡ target_at (frame_windows b site.args e) a
      targets_agree = target_is (dats_first site.args) c lc ∙ ap (λ y. window_of b (targets b (dats_first site.args) e) (reached b e y)) same ∙ sym (target_is site.args a la)

      modes_agree : mode_at (modes_of b other) c ≡ mode_at (modes_of b site) a
      modes_agree = mode_is b other c lc ∙ ap (mode_of b) same ∙ sym (mode_is b site a la)

      cells_agree : (i : ℕ) → cell_of b other e c i ≡ cell_of b site e a i
      cells_agree i = ap (λ y. cell_in (reached b e y) i) same

    inside : (a i : ℕ) → i < (mode_at (modes_of b site) a).dim → (target_at (frame_windows b site.args e) a).from + i < length (frame_cells b site.args e)
    inside a i l =
        let la = is_argument b site a i l in
        let w : Has (dats_first site.args) (get_or site.args a no_arg) = arranged site.args a la in
        subst (λ (t : Target). t.from + i < length (frame_cells b site.args e)) (targets_agree a w.number la w.there w.is)
        (on_other.inside w.number i (subst (λ (m : Mode). i < m.dim) (sym (modes_agree a w.number la w.there w.is)) l))

    are : (a i : ℕ) → i < (mode_at (modes_of b site) a).dim → get_or (frame_cells b site.args e) ((target_at (frame_windows b site.args e) a).from + i) no_cell ≡ cell_of b site e a i
    are a i l =
        let la = is_argument b site a i l in
        let w : Has (dats_first site.args) (get_or site.args a no_arg) = arranged site.args a la in
        ap (λ (t : Target). get_or (frame_cells b site.args e) (t.from + i) no_cell) (sym (targets_agree a w.number la w.there w.is))
        ∙ on_other.are w.number i (subst (λ (m : Mode). i < m.dim) (sym (modes_agree a w.number la w.there w.is)) l)
        ∙ cells_agree a w.number la w.there w.is i

    covered : (j : ℕ) → j < length (frame_cells b site.args e) → (a : ℕ) × (i : ℕ) × (i < (mode_at (modes_of b site) a).dim) × ((target_at (frame_windows b site.args e) a).from + i ≡ j)
    covered j l =
        let u = on_other.covered j l in
        let lc = is_argument b other u.0 u.1 u.2 in
        let w : Has site.args (get_or (dats_first site.args) u.0 no_arg) = of_arranged site.args u.0 lc in (
          w.number,
          u.1,
          subst (λ (m : Mode). u.1 < m.dim) (modes_agree w.number u.0 w.there lc (sym w.is)) u.2,
          ap (λ (t : Target). t.from + u.1) (sym (targets_agree w.number u.0 w.there lc (sym w.is))) ∙ u.3,
        )

    pub on_frames : OnWindows (modes_of b site) (cell_of b site e) (frame_cells b site.args e) (frame_windows b site.args e)
    on_frames = record {
      counts = λ a. counted site.args a;
      arrays = λ a i l. array site.args a;
      inside = inside;
      are = are;
      covered = covered;
      once = on_other.once;
    }
