-- The statements that print a state.
use Rattle.std.proofs.Common.{◌≡◌, ◌<◌, ◌+◌, ◌++◌, ℕ, zero, suc, ℤ, pos, Bool, true, false, List, [], ◌∷◌, length, map, get_or, refl, sym, ap, ◌∙◌, subst, arith, append_assoc, length-append}
use Rattle.std.specs.Prelude.{codes, Ok, Err, if◌then◌else◌}
use Rattle.std.specs.List.{range_with_len}
use Rattle.std.specs.Fmt.{decimal}
use Rattle.std.proofs.lemmas.List.{map-append, length-map, get_or_append_left, get_or-append-add}
use Rattle.std.proofs.lemmas.List.FromFn.{length-map-range_with_len, get_or-map-range_with_len}
use Rattle.kernel_model.specs.View.{Scalar}
use Rattle.mesh_decl.specs.Printed.{printed_dat, printed_line}
use Rattle.schedule_model.specs.Cells.{Variable, VarCell, Store}
use Rattle.schedule_model.specs.Program.{Halts, Goes}
use Rattle.kernel_model.specs.Meaning.{on_value}
use Rattle.bound_program.specs.Values.{BoundValue, VarValue, Line, Print}
use Rattle.run_model.specs.Windows.{numbers}
use Rattle.run_model.specs.Hosts.{cells_from, variables_of, variable_cells, dat_cells, values_of, prints}
use Rattle.checkpoint.specs.Cut.{var_values, says, says_var, says_vars, says_dat, places}
use Rattle.checkpoint.specs.StateText.{var_text, vars_text, dats_text}
use Rattle.checkpoint.proofs.Saying.{Says, AllSay}
use Rattle.checkpoint.proofs.Printing.{var_said}
use Rattle.lemmas.proofs.Lists.{map_map, map_range}

module _ (c : BoundValue) (s : Store) where
  abbrev cells : List ℤ
  cells = map (variables_of s) (variable_cells c)

  abbrev cell : ℕ → ℤ
  cell k = get_or cells k (pos 0)

  values_are : (ks : List ℕ) → values_of c s (map Scalar ks) ≡ Ok (map cell ks)
  values_are [] = refl
  values_are (k ∷ ks) = ap (λ r. on_value Err r (λ zs. Ok (cell k ∷ zs))) (values_are ks)

  -- a text
  pub text_says : (text : List ℕ) → printed_line text [] ≡ text → Says c s (says text) text
  text_says text h = record { act = Line text []; is = refl; goes = ap (Goes (variables_of s)) h }

  -- a variable
  abbrev its : ℕ → ℕ → List ℤ
  its v n = map (λ i. s (Variable (record { variable = v; component = i }))) (numbers n)

  var_says : (n v from count : ℕ) → ((i : ℕ) → i < count → cell (from + i) ≡ s (Variable (record { variable = v; component = i })))
      → Says c s (says_var n (map (λ i. from + i) (numbers count))) (var_text n (its v count))
  var_says n v from count h =
      let ks = map (λ i. from + i) (numbers count) in
      let text = codes "var " ++ decimal n ++ codes " " ++ decimal (length ks) ++ codes "\n" ++ places ks in
      let same : map cell ks ≡ its v count =
      map_map cell (λ i. from + i) (numbers count)
      ∙ map_range (λ i. cell (from + i)) (λ i. s (Variable (record { variable = v; component = i }))) 0 count
      (λ i lt. let e : i ≡ 0 + i = omega arith in subst (λ j. cell (from + j) ≡ s (Variable (record { variable = v; component = j }))) e (h i lt)) in
      record {
        act = Line text (map Scalar ks);
        is = refl;
        goes =
            ap (λ r. on_value Halts r (λ zs. prints c s (printed_line text zs))) (values_are ks)
            ∙ ap (Goes (variables_of s))
            (ap (printed_line text) same
            ∙ var_said n ks (its v count) (length-map-range_with_len (λ i. from + i) 0 count
            ∙ sym (length-map-range_with_len (λ i. s (Variable (record { variable = v; component = i }))) 0 count)));
      }

  -- the cells of a variable
  abbrev mine : ℕ → VarValue → List VarCell
  mine v x = map (λ j. record { variable = v; component = j }) (numbers (length x.start))

  -- they stand among those of all
  here : (front : List VarCell) (v : ℕ) (x : VarValue) (xs : List VarValue) → variable_cells c ≡ front ++ cells_from v (x ∷ xs)
      → (i : ℕ) → i < length x.start → cell (length front + i) ≡ s (Variable (record { variable = v; component = i }))
  here front v x xs all i lt =
      let f = variables_of s in
      let own = mine v x in
      let more = cells_from (suc v) xs in
      let split : cells ≡ map f front ++ map f (own ++ more) = ap (map f) all ∙ map-append f front (own ++ more) in
      let long : length front ≡ length (map f front) = sym (length-map front f) in
      let parts : map f (own ++ more) ≡ map f own ++ map f more = map-append f own more in
      let one : map f own ≡ its v (length x.start) = map_map f (λ j. record { variable = v; component = j }) (numbers (length x.start)) in
      let count : length (its v (length x.start)) ≡ length x.start = length-map-range_with_len (λ j. s (Variable (record { variable = v; component = j }))) 0 (length x.start) in
      ap (λ l. get_or l (length front + i) (pos 0)) split
      ∙ (ap (λ n. get_or (map f front ++ map f (own ++ more)) (n + i) (pos 0)) long
      ∙ (get_or-append-add (map f front) (map f (own ++ more)) i (pos 0)
      ∙ (ap (λ l. get_or l i (pos 0)) (parts ∙ ap (λ l. l ++ map f more) one)
      ∙ (get_or_append_left (its v (length x.start)) (map f more) (pos 0) i (let l : i < length (its v (length x.start)) = omega (arith, count, lt) in l)
      ∙ get_or-map-range_with_len (λ j. s (Variable (record { variable = v; component = j }))) 0 (length x.start) i i (pos 0) lt (omega arith)))))

  -- a variable is passed over or printed, and then the others are
  abbrev Others : ℕ → ℕ → List VarValue → ℕ → Type 0
  Others from v xs m = AllSay c s (says_vars m from xs) (vars_text m (var_values s (suc v) xs))

  one_more : (t : Bool) (n v from : ℕ) (x : VarValue) (xs : List VarValue) → ((i : ℕ) → i < length x.start → cell (from + i) ≡ s (Variable (record { variable = v; component = i })))
      → ((m : ℕ) → Others (from + length x.start) v xs m)
      → AllSay c s
      (if t then says_vars n (from + length x.start) xs
      else says_var n (map (λ i. from + i) (numbers (length x.start))) ∷ says_vars (suc n) (from + length x.start) xs)
      (vars_text n (if t then var_values s (suc v) xs
      else map (λ i. s (Variable (record { variable = v; component = i }))) (numbers (length x.start)) ∷ var_values s (suc v) xs))
  one_more true n v from x xs h rest = rest n
  one_more false n v from x xs h rest = (
    var_text n (its v (length x.start)),
    vars_text (suc n) (var_values s (suc v) xs),
    var_says n v from (length x.start) h,
    rest (suc n),
    refl,
  )

  long : (front : List VarCell) (v : ℕ) (x : VarValue) → length (front ++ mine v x) ≡ length front + length x.start
  long front v x = length-append front (mine v x) ∙ ap (λ n. length front + n) (length-map-range_with_len (λ j. record { variable = v; component = j }) 0 (length x.start))

  pub vars_say : (xs : List VarValue) (front : List VarCell) (n v : ℕ) → variable_cells c ≡ front ++ cells_from v xs
      → AllSay c s (says_vars n (length front) xs) (vars_text n (var_values s v xs))
  vars_say [] front n v all = refl
  vars_say (x ∷ xs) front n v all =
      one_more x.is_const n v (length front) x xs (here front v x xs all)
      (λ m. subst (λ z. AllSay c s (says_vars m z xs) (vars_text m (var_values s (suc v) xs))) (long front v x)
      (vars_say xs (front ++ mine v x) m (suc v) (all ∙ sym (append_assoc front (mine v x) (cells_from (suc v) xs)))))

  -- dats
  dat_says : (d : ℕ) → Says c s (says_dat d) (printed_dat (codes "dat") c.mesh d (map s (dat_cells c d)))
  dat_says d = record { act = Print d (codes "dat"); is = refl; goes = refl }

  pub dats_say : (d n : ℕ) → AllSay c s (map says_dat (range_with_len d n)) (dats_text c.mesh d (map (λ i. map s (dat_cells c i)) (range_with_len d n)))
  dats_say d zero = refl
  dats_say d (suc n) =
      let e : d + 1 ≡ suc d = omega arith in (
        printed_dat (codes "dat") c.mesh d (map s (dat_cells c d)),
        dats_text c.mesh (d + 1) (map (λ i. map s (dat_cells c i)) (range_with_len (d + 1) n)),
        dat_says d,
        dats_say (d + 1) n,
        ap (λ k. printed_dat (codes "dat") c.mesh d (map s (dat_cells c d)) ++ dats_text c.mesh k (map (λ i. map s (dat_cells c i)) (range_with_len (d + 1) n))) (sym e),
      )
