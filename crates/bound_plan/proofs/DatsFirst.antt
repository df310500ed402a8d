-- Frames have the windows on dats first.
use Rattle.std.proofs.Common.{◌≡◌, ℕ, Bool, true, false, List, [], ◌∷◌, ◌++◌, map, flat_map, refl, ap, ◌∙◌}
use Rattle.std.specs.Prelude.{if◌then◌else◌}
use Rattle.std.proofs.lemmas.List.{map-append}
use Rattle.std.proofs.lemmas.List.Concat.{flat_map-append}
use Rattle.bound_program.specs.declared.sites.Arg.{Arg}
use Rattle.bound_program.specs.declared.sites.Arg.TheVariants.{Dat, Global}
use Rattle.bound_program.specs.Values.{BoundValue}
use Rattle.run_model.specs.Windows.{Reached, Element, Whole, is_same, without, different, reached, cells_in, window_cells}
use Rattle.bound_plan.specs.Windows.{on_dats, on_variables, frame_cells}

-- each is a variable
abbrev AllWhole : List Reached → Type 0
AllWhole [] = Unit {0}
AllWhole (Whole v ∷ xs) = AllWhole xs
AllWhole (Element d x ∷ xs) = ⊥

abbrev AllElements : List Reached → Type 0
AllElements [] = Unit {0}
AllElements (Whole v ∷ xs) = ⊥
AllElements (Element d x ∷ xs) = AllElements xs

-- without an element nothing is taken from variables
kept : (d x : ℕ) (xs : List Reached) → AllWhole xs → without (Element d x) xs ≡ xs
kept d x [] h = refl
kept d x (Whole v ∷ xs) h = ap (λ ys. Whole v ∷ ys) (kept d x xs h)
kept d x (Element e y ∷ xs) h = absurd h

whole_if : (c : Bool) (v : ℕ) (ys : List Reached) → AllWhole ys → AllWhole (if c then ys else Whole v ∷ ys)
whole_if true v ys h = h
whole_if false v ys h = h

whole_without : (r : Reached) (xs : List Reached) → AllWhole xs → AllWhole (without r xs)
whole_without r [] h = tt
whole_without r (Element e y ∷ xs) h = absurd h
whole_without r (Whole v ∷ xs) h = whole_if (is_same (Whole v) r) v (without r xs) (whole_without r xs h)

whole_different : (xs : List Reached) → AllWhole xs → AllWhole (different xs)
whole_different [] h = tt
whole_different (Element e y ∷ xs) h = absurd h
whole_different (Whole v ∷ xs) h = whole_without (Whole v) (different xs) (whole_different xs h)

append_if : (c : Bool) (x : Reached) (xs ys : List Reached) → (if c then xs ++ ys else x ∷ (xs ++ ys)) ≡ (if c then xs else x ∷ xs) ++ ys
append_if true x xs ys = refl
append_if false x xs ys = refl

without_append : (r : Reached) (xs ys : List Reached) → without r (xs ++ ys) ≡ without r xs ++ without r ys
without_append r [] ys = refl
without_append r (x ∷ xs) ys =
    ap (λ z. if is_same x r then z else x ∷ z) (without_append r xs ys) ∙ append_if (is_same x r) x (without r xs) (without r ys)

different_append : (xs ys : List Reached) → AllElements xs → AllWhole ys → different (xs ++ ys) ≡ different xs ++ different ys
different_append [] ys h w = refl
different_append (Whole v ∷ xs) ys h w = absurd h
different_append (Element d x ∷ xs) ys h w =
    ap (λ z. Element d x ∷ z)
    (ap (without (Element d x)) (different_append xs ys h w)
    ∙ without_append (Element d x) (different xs) (different ys)
    ∙ ap (λ z. without (Element d x) (different xs) ++ z) (kept d x (different ys) (whole_different ys w)))

module _ (b : BoundValue) (e : ℕ) where
  elements : (xs : List Arg) → AllElements (map (reached b e) (on_dats xs))
  elements [] = tt
  elements (Dat d v a ∷ xs) = elements xs
  elements (Global v a ∷ xs) = elements xs

  wholes : (xs : List Arg) → AllWhole (map (reached b e) (on_variables xs))
  wholes [] = tt
  wholes (Dat d v a ∷ xs) = wholes xs
  wholes (Global v a ∷ xs) = wholes xs

  pub dats_come_first : (args : List Arg) → frame_cells b args e ≡ window_cells b (on_dats args) e ++ window_cells b (on_variables args) e
  dats_come_first args =
      ap (λ z. flat_map (cells_in b) (different z)) (map-append (reached b e) (on_dats args) (on_variables args))
      ∙ ap (flat_map (cells_in b)) (different_append (map (reached b e) (on_dats args)) (map (reached b e) (on_variables args)) (elements args) (wholes args))
      ∙ flat_map-append (cells_in b) (different (map (reached b e) (on_dats args))) (different (map (reached b e) (on_variables args)))
