-- One window more is put down.
use Rattle.std.proofs.Common.{◌≡◌, ◌<◌, ◌+◌, ℕ, Bool, true, false, ◌&&◌, List, [], ◌∷◌, ◌++◌, map, length, take, get_or, refl, sym, ap, ap₂, ◌∙◌, subst, ◌⊎◌, inl, inr, ⊎_elim, arith, append_assoc}
use Rattle.std.specs.Prelude.{◌≢◌, nat_eq}
use Rattle.std.proofs.lemmas.Bool.{cases_Bool, cases_lt, false≢true}
use Rattle.std.proofs.lemmas.List.{append-nil, map-append, take_all, take_more, length-map, get_or-map, get_or_default, ext_get_or}
use Rattle.kernel_model.specs.Meaning.{Target, no_target}
use Rattle.kernel_model.specs.declared.types.views.frame.Place.{Place}
use Rattle.kernel_model.specs.Framed.{no_place, target_of, PlacesIn}
use Rattle.bound_program.specs.declared.sites.Arg.{Arg}
use Rattle.bound_program.specs.declared.sites.Arg.TheVariants.{Dat, Global}
use Rattle.bound_program.specs.Values.{BoundValue}
use Rattle.run_model.specs.Windows.{Reached, Element, Whole, is_same, different, reached, width, window_of, window_start}
use Rattle.run_model.specs.Arguments.{no_arg, arg_width}
use Rattle.bound_plan.specs.Windows.{on_dats, on_variables, dats_first, frame_cells, frame_windows}
use Rattle.rank_layout.specs.Seen.{has}
use Rattle.rank_layout.specs.Numbered.{number_of, is_one, is_one_at, AreNumbers}
use Rattle.rank_layout.specs.Placed.{is_dat, IsPut, ArePut, DatsPut, AllPut, reached_at}
use Rattle.run_model.proofs.Public.{same_true, same_refl}
use Rattle.rank_layout.proofs.SeenSoFar.{different_old, different_new, has_different, new_in_different, has_old, has_last, old_or_last, start_old, start_new, start_within, cells, cells_more}

-- ---- arguments on dats and on variables

dats_append : (xs ys : List Arg) → on_dats (xs ++ ys) ≡ on_dats xs ++ on_dats ys
dats_append [] ys = refl
dats_append (Dat d v a ∷ xs) ys = ap (λ z. Dat d v a ∷ z) (dats_append xs ys)
dats_append (Global v a ∷ xs) ys = dats_append xs ys

variables_append : (xs ys : List Arg) → on_variables (xs ++ ys) ≡ on_variables xs ++ on_variables ys
variables_append [] ys = refl
variables_append (Dat d v a ∷ xs) ys = variables_append xs ys
variables_append (Global v a ∷ xs) ys = ap (λ z. Global v a ∷ z) (variables_append xs ys)

one_dat : (x : Arg) → is_dat x ≡ true → on_dats (x ∷ []) ≡ x ∷ []
one_dat (Dat d v a) h = refl
one_dat (Global v a) h = absurd (false≢true h)

no_dat : (x : Arg) → is_dat x ≡ false → on_dats (x ∷ []) ≡ []
no_dat (Dat d v a) h = absurd (false≢true (sym h))
no_dat (Global v a) h = refl

one_variable : (x : Arg) → is_dat x ≡ false → on_variables (x ∷ []) ≡ x ∷ []
one_variable (Dat d v a) h = absurd (false≢true (sym h))
one_variable (Global v a) h = refl

no_variable : (x : Arg) → is_dat x ≡ true → on_variables (x ∷ []) ≡ []
no_variable (Dat d v a) h = refl
no_variable (Global v a) h = absurd (false≢true h)

dats_more : (xs : List Arg) (i : ℕ) → i < length xs → is_dat (get_or xs i no_arg) ≡ true
    → on_dats (take (i + 1) xs) ≡ on_dats (take i xs) ++ get_or xs i no_arg ∷ []
dats_more xs i lt h =
    ap on_dats (take_more xs i no_arg lt) ∙ dats_append (take i xs) (get_or xs i no_arg ∷ [])
    ∙ ap (λ z. on_dats (take i xs) ++ z) (one_dat (get_or xs i no_arg) h)

dats_same : (xs : List Arg) (i : ℕ) → i < length xs → is_dat (get_or xs i no_arg) ≡ false → on_dats (take (i + 1) xs) ≡ on_dats (take i xs)
dats_same xs i lt h =
    ap on_dats (take_more xs i no_arg lt) ∙ dats_append (take i xs) (get_or xs i no_arg ∷ [])
    ∙ ap (λ z. on_dats (take i xs) ++ z) (no_dat (get_or xs i no_arg) h) ∙ append-nil (on_dats (take i xs))

variables_more : (xs : List Arg) (i : ℕ) → i < length xs → is_dat (get_or xs i no_arg) ≡ false
    → on_variables (take (i + 1) xs) ≡ on_variables (take i xs) ++ get_or xs i no_arg ∷ []
variables_more xs i lt h =
    ap on_variables (take_more xs i no_arg lt) ∙ variables_append (take i xs) (get_or xs i no_arg ∷ [])
    ∙ ap (λ z. on_variables (take i xs) ++ z) (one_variable (get_or xs i no_arg) h)

variables_same : (xs : List Arg) (i : ℕ) → i < length xs → is_dat (get_or xs i no_arg) ≡ true
    → on_variables (take (i + 1) xs) ≡ on_variables (take i xs)
variables_same xs i lt h =
    ap on_variables (take_more xs i no_arg lt) ∙ variables_append (take i xs) (get_or xs i no_arg ∷ [])
    ∙ ap (λ z. on_variables (take i xs) ++ z) (no_variable (get_or xs i no_arg) h) ∙ append-nil (on_variables (take i xs))

-- which it is, as it is read
pub kind_at : (xs : List Arg) (i : ℕ) (d : Arg) (was c : Bool) → i < length xs → was ≡ is_dat (get_or xs i d) → was ≡ c → is_dat (get_or xs i no_arg) ≡ c
kind_at xs i d was c lt read is = ap is_dat (get_or_default xs i no_arg d lt) ∙ sym read ∙ is

abbrev is_element : Reached → Bool
is_element (Element d x) = true
is_element (Whole v) = false

module _ (b : BoundValue) (e : ℕ) where
  dat_is : (x : Arg) → is_dat x ≡ is_element (reached b e x)
  dat_is (Dat d v a) = refl
  dat_is (Global v a) = refl

  same_kind : (x y : Arg) → reached b e x ≡ reached b e y → is_dat x ≡ is_dat y
  same_kind x y h = dat_is x ∙ ap is_element h ∙ sym (dat_is y)

  wide : (x : Arg) → width b (reached b e x) ≡ arg_width b x
  wide (Dat d v a) = refl
  wide (Global v a) = refl

  one_is : (x y : Arg) (n m : ℕ) → n ≡ number_of (reached b e x) → m ≡ number_of (reached b e y)
      → is_one x n y m ≡ is_same (reached b e x) (reached b e y)
  one_is (Dat d v a) (Dat f w c) n m p q = ap₂ (λ i j. nat_eq d f && nat_eq i j) p q
  one_is (Dat d v a) (Global w c) n m p q = refl
  one_is (Global v a) (Dat f w c) n m p q = refl
  one_is (Global v a) (Global w c) n m p q = refl

  -- a thing more changes no window of the others
  stays : (seen : List Reached) (y r : Reached) → has seen r ≡ true
      → window_of b (different (seen ++ y ∷ [])) r ≡ window_of b (different seen) r
  stays seen y r h = ap (λ n. record { array = 0; from = n; count = width b r })
      (⊎_elim
      (λ (t : has seen y ≡ true). ap (λ all. window_start b all r) (different_old seen y t))
      (λ (t : has seen y ≡ false).
      ap (λ all. window_start b all r) (different_new seen y t) ∙ start_old b (different seen) (y ∷ []) r (has_different seen r h))
      (cases_Bool (has seen y)))

  module _ (args : List Arg) where
    -- other words for what is done
    redone : (seen : List Reached) (done other : ℕ → Type 0) (places : List Place) (next : ℕ)
        → ArePut b e args seen done places next
        → ((k : ℕ) → k < length args → other k → done k)
        → ((k : ℕ) → k < length args → done k → other k)
        → ArePut b e args seen other places next
    redone seen done other places next h from to = record {
      next_is = h.next_is;
      each = λ k lt d. h.each k lt (from k lt d);
      only = λ q t. let w = h.only q t in (w.0, w.1, to w.0 w.1 w.2, w.3);
    }

    module _ (numbers : List ℕ) (are : AreNumbers b e args numbers) (i : ℕ) (li : i < length args) where
      abbrev r : Reached
      r = reached_at b e args i

      one_at : (k : ℕ) → k < length args → is_one_at args numbers k i ≡ is_same (reached_at b e args k) r
      one_at k lk = one_is (get_or args k no_arg) (get_or args i no_arg) (get_or numbers k 0) (get_or numbers i 0) (are k lk) (are i li)

      module _ (seen : List Reached) (done : ℕ → Type 0) (old new : List Place) (next after : ℕ)
          (p : IsPut b args numbers i next old new after)
          (h : ArePut b e args seen done old next)
          (early : (k : ℕ) → k < i → reached_at b e args k ≡ r → done k)
          (late : (k : ℕ) → k < length args → done k → reached_at b e args k ≡ r → k < i) where
        abbrev IsAt : ℕ → Type 0
        IsAt k = (has (seen ++ r ∷ []) (reached_at b e args k) ≡ true)
            × (target_of (get_or new k no_place) ≡ window_of b (different (seen ++ r ∷ [])) (reached_at b e args k))

        others : (k : ℕ) → k < length args → done k → IsAt k
        others k lk d =
            let ne : k ≢ i = λ same. let lt = late k lk d (ap (λ j. reached_at b e args j) same) in omega arith in
            let at = h.each k lk d in (
              has_old seen r (reached_at b e args k) at.0,
              ap target_of (p.others k ne) ∙ at.1 ∙ sym (stays seen r (reached_at b e args k) at.0),
            )

        only_these : (q : Reached) → has (seen ++ r ∷ []) q ≡ true
            → (k : ℕ) × (k < length args) × (done k ⊎ (k ≡ i)) × (reached_at b e args k ≡ q)
        only_these q t = ⊎_elim
            (λ (s : has seen q ≡ true). let w = h.only q s in (w.0, w.1, inl w.2, w.3))
            (λ (s : r ≡ q). (i, li, inr refl, s))
            (old_or_last seen r q t)

        with_this : (after ≡ cells b (different (seen ++ r ∷ []))) → IsAt i
            → ArePut b e args (seen ++ r ∷ []) (λ k. done k ⊎ (k ≡ i)) new after
        with_this total at = record {
          next_is = total;
          each = λ k lk d. ⊎_elim (others k lk) (λ same. subst IsAt (sym same) at) d;
          only = only_these;
        }

        -- an earlier argument reaches the same
        shared : p.first < i → ArePut b e args (seen ++ r ∷ []) (λ k. done k ⊎ (k ≡ i)) new after
        shared lt =
            let lf : p.first < length args = omega arith in
            let same : reached_at b e args p.first ≡ r = same_true (reached_at b e args p.first) r (sym (one_at p.first lf) ∙ p.same lt) in
            let at = h.each p.first lf (early p.first lt same) in
            let there : has seen r ≡ true = subst (λ q. has seen q ≡ true) same at.0 in
            let put = p.shared lt in
            with_this (put.1 ∙ h.next_is ∙ sym (ap (cells b) (different_old seen r there))) (
              has_last seen r,
              ap target_of put.0 ∙ at.1 ∙ ap (window_of b (different seen)) same ∙ sym (stays seen r r there),
            )

        new_here : p.first ≡ i → has seen r ≡ true → ⊥
        new_here fst t =
            let w = h.only r t in
            let lt = late w.0 w.1 w.2 w.3 in
            false≢true (sym (p.fresh fst w.0 lt) ∙ one_at w.0 w.1 ∙ ap (λ q. is_same q r) w.3 ∙ same_refl r)

        -- no earlier one does
        single : p.first ≡ i → ArePut b e args (seen ++ r ∷ []) (λ k. done k ⊎ (k ≡ i)) new after
        single fst = ⊎_elim
            (λ (t : has seen r ≡ true). absurd (new_here fst t))
            (λ (t : has seen r ≡ false).
            let put = p.single fst in
            let more = different_new seen r t in
            let w = wide (get_or args i no_arg) in
            let total : after ≡ cells b (different (seen ++ r ∷ [])) =
            put.1 ∙ ap₂ (λ n m. n + m) h.next_is (sym w) ∙ sym (cells_more b (different seen) r) ∙ sym (ap (cells b) more) in
            let begin : next ≡ window_start b (different (seen ++ r ∷ [])) r =
            h.next_is ∙ sym (start_new b (different seen) r (new_in_different seen r t)) ∙ sym (ap (λ all. window_start b all r) more) in
            with_this total
            (has_last seen r, ap target_of put.0 ∙ ap₂ (λ n m. record { array = 0; from = n; count = m }) begin (sym w)))
            (cases_Bool (has seen r))

        pub put_more : ArePut b e args (seen ++ r ∷ []) (λ k. done k ⊎ (k ≡ i)) new after
        put_more = ⊎_elim shared (λ ge. let w = p.within in let fst : p.first ≡ i = omega arith in single fst) (cases_lt p.first i)

      -- ---- arguments on dats

      pub next_dat : (old new : List Place) (next after : ℕ) → is_dat (get_or args i no_arg) ≡ true → IsPut b args numbers i next old new after
          → DatsPut b e args i old next → DatsPut b e args (i + 1) new after
      next_dat old new next after dat p h =
          redone (map (reached b e) (on_dats (take (i + 1) args))) (λ k. ((k < i) × (is_dat (get_or args k no_arg) ≡ true)) ⊎ (k ≡ i))
          (λ k. (k < i + 1) × (is_dat (get_or args k no_arg) ≡ true)) new after
          (subst (λ seen. ArePut b e args seen (λ k. ((k < i) × (is_dat (get_or args k no_arg) ≡ true)) ⊎ (k ≡ i)) new after)
          (sym (ap (map (reached b e)) (dats_more args i li dat) ∙ map-append (reached b e) (on_dats (take i args)) (get_or args i no_arg ∷ [])))
          (put_more (map (reached b e) (on_dats (take i args))) (λ k. (k < i) × (is_dat (get_or args k no_arg) ≡ true)) old new next after p h
          (λ k lt same. (lt, same_kind (get_or args k no_arg) (get_or args i no_arg) same ∙ dat))
          (λ k lk d same. d.0)))
          (λ k lk d. ⊎_elim (λ lt. inl (lt, d.1)) (λ ge. let lt = d.0 in inr (let at : k ≡ i = omega arith in at)) (cases_lt k i))
          (λ k lk d. ⊎_elim
          (λ (s : (k < i) × (is_dat (get_or args k no_arg) ≡ true)). let lt = s.0 in ((let more : k < i + 1 = omega arith in more), s.1))
          (λ (s : k ≡ i). ((let more : k < i + 1 = omega arith in more), ap (λ j. is_dat (get_or args j no_arg)) s ∙ dat)) d)

      pub no_next_dat : (places : List Place) (next : ℕ) → is_dat (get_or args i no_arg) ≡ false
          → DatsPut b e args i places next → DatsPut b e args (i + 1) places next
      no_next_dat places next dat h =
          redone (map (reached b e) (on_dats (take (i + 1) args))) (λ k. (k < i) × (is_dat (get_or args k no_arg) ≡ true))
          (λ k. (k < i + 1) × (is_dat (get_or args k no_arg) ≡ true)) places next
          (subst (λ seen. ArePut b e args seen (λ k. (k < i) × (is_dat (get_or args k no_arg) ≡ true)) places next)
          (sym (ap (map (reached b e)) (dats_same args i li dat))) h)
          (λ k lk d. ⊎_elim (λ lt. (lt, d.1))
          (λ ge. let lt = d.0 in let at : k ≡ i = omega arith in absurd (false≢true (sym dat ∙ sym (ap (λ j. is_dat (get_or args j no_arg)) at) ∙ d.1))) (cases_lt k i))
          (λ k lk d. let lt = d.0 in ((let more : k < i + 1 = omega arith in more), d.1))

      -- ---- arguments on variables

      pub next_variable : (old new : List Place) (next after : ℕ) → is_dat (get_or args i no_arg) ≡ false → IsPut b args numbers i next old new after
          → AllPut b e args i old next → AllPut b e args (i + 1) new after
      next_variable old new next after dat p h =
          redone (map (reached b e) (on_dats args ++ on_variables (take (i + 1) args)))
          (λ k. ((k < i) ⊎ (is_dat (get_or args k no_arg) ≡ true)) ⊎ (k ≡ i))
          (λ k. (k < i + 1) ⊎ (is_dat (get_or args k no_arg) ≡ true)) new after
          (subst (λ seen. ArePut b e args seen (λ k. ((k < i) ⊎ (is_dat (get_or args k no_arg) ≡ true)) ⊎ (k ≡ i)) new after)
          (sym (ap (λ z. map (reached b e) (on_dats args ++ z)) (variables_more args i li dat)
          ∙ ap (map (reached b e)) (sym (append_assoc (on_dats args) (on_variables (take i args)) (get_or args i no_arg ∷ [])))
          ∙ map-append (reached b e) (on_dats args ++ on_variables (take i args)) (get_or args i no_arg ∷ [])))
          (put_more (map (reached b e) (on_dats args ++ on_variables (take i args))) (λ k. (k < i) ⊎ (is_dat (get_or args k no_arg) ≡ true)) old new next after p h
          (λ k lt same. inl lt)
          (λ k lk d same. ⊎_elim (λ (lt : k < i). lt)
          (λ (s : is_dat (get_or args k no_arg) ≡ true).
          absurd (false≢true (sym dat ∙ sym (same_kind (get_or args k no_arg) (get_or args i no_arg) same) ∙ s))) d)))
          (λ k lk d. ⊎_elim
          (λ (more : k < i + 1). ⊎_elim (λ (lt : k < i). inl (inl lt)) (λ ge. inr (let at : k ≡ i = omega arith in at)) (cases_lt k i))
          (λ (s : is_dat (get_or args k no_arg) ≡ true). inl (inr s)) d)
          (λ k lk d. ⊎_elim
          (λ (s : (k < i) ⊎ (is_dat (get_or args k no_arg) ≡ true)). ⊎_elim (λ (lt : k < i). inl (let more : k < i + 1 = omega arith in more)) (λ t. inr t) s)
          (λ (s : k ≡ i). inl (let more : k < i + 1 = omega arith in more)) d)

      pub no_next_variable : (places : List Place) (next : ℕ) → is_dat (get_or args i no_arg) ≡ true
          → AllPut b e args i places next → AllPut b e args (i + 1) places next
      no_next_variable places next dat h =
          redone (map (reached b e) (on_dats args ++ on_variables (take (i + 1) args))) (λ k. (k < i) ⊎ (is_dat (get_or args k no_arg) ≡ true))
          (λ k. (k < i + 1) ⊎ (is_dat (get_or args k no_arg) ≡ true)) places next
          (subst (λ seen. ArePut b e args seen (λ k. (k < i) ⊎ (is_dat (get_or args k no_arg) ≡ true)) places next)
          (sym (ap (λ z. map (reached b e) (on_dats args ++ z)) (variables_same args i li dat))) h)
          (λ k lk d. ⊎_elim
          (λ (more : k < i + 1). ⊎_elim (λ (lt : k < i). inl lt)
          (λ ge. let at : k ≡ i = omega arith in inr (ap (λ j. is_dat (get_or args j no_arg)) at ∙ dat)) (cases_lt k i))
          (λ t. inr t) d)
          (λ k lk d. ⊎_elim (λ (lt : k < i). inl (let more : k < i + 1 = omega arith in more)) (λ t. inr t) d)

    -- ---- the start, between, and the end

    all_seen : (places : List Place) (next : ℕ) → AllPut b e args (length args) places next
        → ArePut b e args (map (reached b e) (dats_first args)) (λ k. k < length args) places next
    all_seen places next h =
        redone (map (reached b e) (dats_first args)) (λ k. (k < length args) ⊎ (is_dat (get_or args k no_arg) ≡ true)) (λ k. k < length args) places next
        (subst (λ seen. ArePut b e args seen (λ k. (k < length args) ⊎ (is_dat (get_or args k no_arg) ≡ true)) places next)
        (ap (λ xs. map (reached b e) (on_dats args ++ on_variables xs)) (take_all (length args) args (omega arith))) h)
        (λ k lk d. inl d)
        (λ k lk d. lk)

    pub windows_are : (places : List Place) (next : ℕ) → length places ≡ length args → AllPut b e args (length args) places next
        → map target_of places ≡ frame_windows b args e
    windows_are places next same h = ext_get_or no_target (map target_of places) (frame_windows b args e)
        (length-map places target_of ∙ same
        ∙ sym (length-map args (λ a. window_of b (different (map (reached b e) (dats_first args))) (reached b e a))))
        (λ j lt.
        let l : j < length args = omega (arith, length-map places target_of) in
        let here : j < length places = omega arith in
        get_or-map target_of places j no_place no_target here ∙ ((all_seen places next h).each j l l).1
        ∙ sym (get_or-map (λ a. window_of b (different (map (reached b e) (dats_first args))) (reached b e a)) args j no_arg no_target l))

    pub windows_within : (places : List Place) (next : ℕ) → length places ≡ length args → AllPut b e args (length args) places next
        → PlacesIn (length (frame_cells b args e)) places
    windows_within places next same h = λ j lt.
        let l : j < length args = omega arith in
        let put = (all_seen places next h).each j l l in
        let from = ap (λ (t : Target). t.from) put.1 in
        let count = ap (λ (t : Target). t.count) put.1 in
        let fits = start_within b (different (map (reached b e) (dats_first args))) (reached_at b e args j)
        (has_different (map (reached b e) (dats_first args)) (reached_at b e args j) put.0) in
        omega (arith, from, count, fits)

    pub windows_counted : (places : List Place) (next : ℕ) → AllPut b e args (length args) places next → next ≡ length (frame_cells b args e)
    windows_counted places next h = (all_seen places next h).next_is
