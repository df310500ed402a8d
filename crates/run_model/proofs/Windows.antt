-- The windows of an element's run are the cells that its arguments reach, each once.
use Rattle.std.proofs.Common.{◌≡◌, ◌<◌, ◌≤◌, ◌+◌, ℕ, zero, suc, List, [], ◌∷◌, map, length, get_or, refl, sym, ap, ◌∙◌, subst, ⊎_elim, arith}
use Rattle.std.proofs.lemmas.Bool.{cases_lt}
use Rattle.std.proofs.lemmas.List.{get_or-map, length-map, get_or_past}
use Rattle.kernel_model.specs.Meaning.{Target, no_target, target_at}
use Rattle.kernel_model.specs.Obeys.{Mode, mode_at, no_mode}
use Rattle.run_model.specs.OnWindows.{no_cell}
use Rattle.bound_program.specs.declared.sites.Arg.{Arg}
use Rattle.bound_program.specs.declared.sites.Arg.TheVariants.{Dat, Global}
use Rattle.bound_program.specs.Values.{BoundValue, SiteValue}
use Rattle.run_model.specs.Windows.{Reached, reached, width, targets, window_cells, window_start, window_of, windows}
use Rattle.run_model.specs.Arguments.{no_arg, arg_at, arg_width, mode_of, modes_of}
use Rattle.run_model.specs.Laws.{WindowsAreReached}
use Rattle.run_model.proofs.Reached.{Member, distinct, is_different, of_different, reached_by, by_one}
use Rattle.run_model.proofs.Places.{inside, stands, At, at_place, once}

module _ (b : BoundValue) where
  pub wide : (e : ℕ) (x : Arg) → width b (reached b e x) ≡ arg_width b x
  wide e (Dat d v a) = refl
  wide e (Global v a) = refl

  -- ---- each argument by its number

  pub mode_is : (site : SiteValue) (a : ℕ) → a < length site.args → mode_at (modes_of b site) a ≡ mode_of b (arg_at site a)
  mode_is site a lt = get_or-map (mode_of b) site.args a no_arg no_mode lt

  pub is_argument : (site : SiteValue) (a i : ℕ) → i < (mode_at (modes_of b site) a).dim → a < length site.args
  is_argument site a i lt = ⊎_elim (λ l. l) (λ l. absurd (past l)) (cases_lt a (length site.args))
    where
      past : length site.args ≤ a → ⊥
      past l =
          let none : mode_at (modes_of b site) a ≡ no_mode = get_or_past (modes_of b site) a no_mode (omega (arith, length-map site.args (mode_of b))) in
          let dim : (mode_at (modes_of b site) a).dim ≡ 0 = ap (λ (m : Mode). m.dim) none in
          omega arith

  pub below : (site : SiteValue) (a i : ℕ) → i < (mode_at (modes_of b site) a).dim → i < arg_width b (arg_at site a)
  below site a i lt = subst (λ (m : Mode). i < m.dim) (mode_is site a (is_argument site a i lt)) lt

  module _ (site : SiteValue) (e : ℕ) where
    abbrev all : List Reached
    all = targets b site.args e

    counted : (xs : List Arg) (a : ℕ) → (target_at (map (λ x. window_of b all (reached b e x)) xs) a).count ≡ (mode_at (map (mode_of b) xs) a).dim
    counted [] a = refl
    counted (x ∷ xs) zero = wide e x
    counted (x ∷ xs) (suc a) = counted xs a

    first : (xs : List Arg) (a : ℕ) → (target_at (map (λ x. window_of b all (reached b e x)) xs) a).array ≡ 0
    first [] a = refl
    first (x ∷ xs) zero = refl
    first (x ∷ xs) (suc a) = first xs a

    -- the target of an argument
    abbrev by_arg : ℕ → Reached
    by_arg a = reached b e (arg_at site a)

    window_is : (a : ℕ) → a < length site.args → target_at (windows b site.args e) a ≡ window_of b all (by_arg a)
    window_is a lt = get_or-map (λ x. window_of b all (reached b e x)) site.args a no_arg no_target lt

    starts : (a i : ℕ) → i < (mode_at (modes_of b site) a).dim → (target_at (windows b site.args e) a).from ≡ window_start b all (by_arg a)
    starts a i lt = ap (λ (t : Target). t.from) (window_is a (is_argument site a i lt))

    within : (a i : ℕ) → i < (mode_at (modes_of b site) a).dim → i < width b (by_arg a)
    within a i lt = subst (λ n. i < n) (sym (wide e (arg_at site a))) (below site a i lt)

    there : (a i : ℕ) → i < (mode_at (modes_of b site) a).dim → Member all (by_arg a)
    there a i lt = is_different (by_arg a) (map (reached b e) site.args) (reached_by (reached b e) site.args a (is_argument site a i lt))

    -- a place among the windows is a component of an argument
    covered : (j : ℕ) → At b all j → (a : ℕ) × (i : ℕ) × (i < (mode_at (modes_of b site) a).dim) × ((target_at (windows b site.args e) a).from + i ≡ j)
    covered j w = by_argument (by_one (reached b e) site.args w.target (of_different w.target (map (reached b e) site.args) w.member))
      where
        by_argument : (m : (a : ℕ) × (a < length site.args) × (by_arg a ≡ w.target))
            → (a : ℕ) × (i : ℕ) × (i < (mode_at (modes_of b site) a).dim) × ((target_at (windows b site.args e) a).from + i ≡ j)
        by_argument m =
            let same : width b w.target ≡ (mode_at (modes_of b site) m.0).dim =
            ap (width b) (sym m.2) ∙ wide e (arg_at site m.0) ∙ sym (ap (λ (x : Mode). x.dim) (mode_is site m.0 m.1)) in
            let lt : w.number < (mode_at (modes_of b site) m.0).dim = subst (λ n. w.number < n) same w.below in
            let from : (target_at (windows b site.args e) m.0).from ≡ window_start b all w.target = starts m.0 w.number lt ∙ ap (window_start b all) m.2 in
            (m.0, w.number, lt, ap (λ k. k + w.number) from ∙ w.place)

pub windows_are_reached : WindowsAreReached
windows_are_reached b site e = record {
  counts = λ a. counted b site e site.args a;
  arrays = λ a i lt. first b site e site.args a;
  inside = λ a i lt. subst (λ k. k + i < length (window_cells b site.args e)) (sym (starts b site e a i lt))
      (inside b (all b site e) (by_arg b site e a) i (there b site e a i lt) (within b site e a i lt));
  are = λ a i lt. ap (λ k. get_or (window_cells b site.args e) (k + i) no_cell) (starts b site e a i lt)
      ∙ stands b (all b site e) (by_arg b site e a) i (there b site e a i lt) (within b site e a i lt);
  covered = λ j lt. covered b site e j (at_place b (all b site e) j (distinct (map (reached b e) site.args)) lt);
  once = λ i j li lj same. once b (all b site e) i j (distinct (map (reached b e) site.args)) li lj same;
}
