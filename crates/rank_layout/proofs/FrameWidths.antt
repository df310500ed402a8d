-- A frame has no more cells than the windows of its arguments have, each counted.
use Rattle.std.proofs.Common.{◌≡◌, ◌<◌, ◌≤◌, ◌+◌, ℕ, zero, suc, Bool, true, false, List, [], ◌∷◌, map, flat_map, length, get_or, sum_by, refl, sym, ap₂, ◌∙◌, arith, length-append}
use Rattle.std.specs.Prelude.{if◌then◌else◌}
use Rattle.std.proofs.lemmas.List.{get_or-map, length-map}
use Rattle.std.proofs.lemmas.List.FromFn.{length-map-range_with_len}
use Rattle.std.proofs.lemmas.List.Sums.{sum_by-cons, sum_by-append}
use Rattle.bound_program.specs.declared.sites.Arg.{Arg}
use Rattle.bound_program.specs.declared.sites.Arg.TheVariants.{Dat, Global}
use Rattle.bound_program.specs.Values.{BoundValue, SiteValue, no_site}
use Rattle.run_model.specs.Windows.{Reached, is_same, without, different, reached, width, cell_in, cells_in}
use Rattle.run_model.specs.Arguments.{arg_width}
use Rattle.bound_plan.specs.Windows.{on_dats, on_variables, dats_first, frame_cells}
use Rattle.rank_layout.specs.Tables.{most, site_width}
use Rattle.rank_layout.specs.OwnedLaws.{FramesFit}

module _ (b : BoundValue) where
  all_cells : (qs : List Reached) → length (flat_map (cells_in b) qs) ≡ sum_by (width b) qs
  all_cells [] = refl
  all_cells (q ∷ qs) =
      length-append (cells_in b q) (flat_map (cells_in b) qs)
      ∙ ap₂ (λ m n. m + n) (length-map-range_with_len (cell_in q) 0 (width b q)) (all_cells qs)
      ∙ sym (sum_by-cons (width b) q qs)

  one_kept : (c : Bool) (q : Reached) (ws qs : List Reached) → sum_by (width b) ws ≤ sum_by (width b) qs
      → sum_by (width b) (if c then ws else q ∷ ws) ≤ sum_by (width b) (q ∷ qs)
  one_kept true q ws qs h = let one = sum_by-cons (width b) q qs in omega (arith, h, one)
  one_kept false q ws qs h = let one = sum_by-cons (width b) q qs in let kept = sum_by-cons (width b) q ws in omega (arith, h, one, kept)

  fewer_without : (r : Reached) (qs : List Reached) → sum_by (width b) (without r qs) ≤ sum_by (width b) qs
  fewer_without r [] = omega arith
  fewer_without r (q ∷ qs) = one_kept (is_same q r) q (without r qs) qs (fewer_without r qs)

  fewer_different : (qs : List Reached) → sum_by (width b) (different qs) ≤ sum_by (width b) qs
  fewer_different [] = omega arith
  fewer_different (q ∷ qs) =
      let rest = fewer_without q (different qs) in
      let more = fewer_different qs in
      let one = sum_by-cons (width b) q qs in
      let kept = sum_by-cons (width b) q (without q (different qs)) in
      omega (arith, rest, more, one, kept)

  width_is : (e : ℕ) (x : Arg) → width b (reached b e x) ≡ arg_width b x
  width_is e (Dat d v a) = refl
  width_is e (Global v a) = refl

  reached_width : (e : ℕ) (xs : List Arg) → sum_by (width b) (map (reached b e) xs) ≡ sum_by (arg_width b) xs
  reached_width e [] = refl
  reached_width e (x ∷ xs) =
      sum_by-cons (width b) (reached b e x) (map (reached b e) xs) ∙ ap₂ (λ m n. m + n) (width_is e x) (reached_width e xs)
      ∙ sym (sum_by-cons (arg_width b) x xs)

  in_both : (xs : List Arg) → sum_by (arg_width b) (on_dats xs) + sum_by (arg_width b) (on_variables xs) ≡ sum_by (arg_width b) xs
  in_both [] = refl
  in_both (Dat d v a ∷ xs) =
      let one = sum_by-cons (arg_width b) (Dat d v a) (on_dats xs) in
      let rest = in_both xs in
      let all = sum_by-cons (arg_width b) (Dat d v a) xs in
      omega (arith, one, rest, all)
  in_both (Global v a ∷ xs) =
      let one = sum_by-cons (arg_width b) (Global v a) (on_variables xs) in
      let rest = in_both xs in
      let all = sum_by-cons (arg_width b) (Global v a) xs in
      omega (arith, one, rest, all)

  frame_width : (site : SiteValue) (e : ℕ) → length (frame_cells b site.args e) ≤ site_width b site
  frame_width site e =
      let cells = all_cells (different (map (reached b e) (dats_first site.args))) in
      let fewer = fewer_different (map (reached b e) (dats_first site.args)) in
      let widths = reached_width e (dats_first site.args) in
      let split = sum_by-append (arg_width b) (on_dats site.args) (on_variables site.args) in
      let both = in_both site.args in
      omega (arith, cells, fewer, widths, split, both)

most_at : (xs : List ℕ) (i : ℕ) → i < length xs → get_or xs i 0 ≤ most xs
most_at [] i lt = absurd (omega arith)
most_at (x ∷ xs) zero lt = omega arith
most_at (x ∷ xs) (suc i) lt = let h = most_at xs i (omega arith) in omega (arith, h)

pub frames_fit : FramesFit
frames_fit b p s e lt =
    let at = most_at (map (site_width b) b.sites) s (omega (arith, lt, length-map b.sites (site_width b))) in
    let same : get_or (map (site_width b) b.sites) s 0 ≡ site_width b (get_or b.sites s no_site) = get_or-map (site_width b) b.sites s no_site 0 lt in
    let fits = frame_width b (get_or b.sites s no_site) e in
    omega (arith, at, same, fits)
