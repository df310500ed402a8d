-- The values that a tail begins with are those before the cut.
use Rattle.std.proofs.Common.{◌≡◌, ◌<◌, ◌+◌, ◌*◌, ◌++◌, ℕ, zero, suc, ℤ, pos, Bool, true, false, List, [], ◌∷◌, length, map, drop, get_or, refl, sym, ap, ap₂, ◌∙◌, arith}
use Rattle.std.specs.Prelude.{◌&&◌, nat_lt, if◌then◌else◌}
use Rattle.std.specs.List.{flat_map, range_with_len}
use Rattle.std.proofs.lemmas.Bool.{and_parts, ltb-true}
use Rattle.std.proofs.lemmas.List.{map-append, get_or_append_left, get_or-append-add}
use Rattle.std.proofs.lemmas.List.FromFn.{length-map-range_with_len, get_or-map-range_with_len}
use Rattle.mesh_decl.specs.declared.decl.DatDecl.{DatDecl}
use Rattle.mesh_decl.specs.Mesh.{dat_count, dat_dim, dat_set, dat_values, set_size}
use Rattle.schedule_model.specs.Cells.{Data, Variable, Store}
use Rattle.bound_program.specs.Values.{BoundValue, VarValue, no_var}
use Rattle.run_model.specs.Windows.{numbers}
use Rattle.run_model.specs.Hosts.{dat_cells}
use Rattle.run_model.specs.Arguments.{var_width, dat_width}
use Rattle.run_model.specs.Programs.{first_values}
use Rattle.checkpoint.specs.Cut.{var_values, state_at, with_dats, with_vars, tail}
use Rattle.checkpoint.specs.Laws.{KeepsConstants}
use Rattle.checkpoint.proofs.Shape.{AreSame, Like, dim_same, flat_alike}
use Rattle.checkpoint.proofs.Agreeing.{Agree}
use Rattle.lemmas.proofs.Lists.{map_map}

-- ---- lists

pub dats_keep : {A : Type 0} (f : DatDecl → A) → ((d : DatDecl) (z : List ℤ) → f (record d { values = z }) ≡ f d) → (ds : List DatDecl) (zs : List (List ℤ)) → map f (with_dats ds zs) ≡ map f ds
dats_keep f h [] zs = refl
dats_keep f h (d ∷ ds) [] = refl
dats_keep f h (d ∷ ds) (z ∷ zs) = ap₂ (λ a l. a ∷ l) (h d z) (dats_keep f h ds zs)

dat_now : (ds : List DatDecl) (zs : List (List ℤ)) (d : ℕ) → d < length ds → d < length zs → get_or (map (λ (e : DatDecl). e.values) (with_dats ds zs)) d [] ≡ get_or zs d []
dat_now [] zs d l m = absurd (omega (arith, l))
dat_now (e ∷ ds) [] d l m = absurd (omega (arith, m))
dat_now (e ∷ ds) (z ∷ zs) zero l m = refl
dat_now (e ∷ ds) (z ∷ zs) (suc d) l m = dat_now ds zs d (omega (arith, l)) (omega (arith, m))

-- the values of equal rows, by row and place
in_rows : (f : ℕ → ℕ → ℤ) (w a n x i : ℕ) → x < n → i < w → get_or (flat_map (λ y. map (f y) (numbers w)) (range_with_len a n)) (x * w + i) (pos 0) ≡ f (a + x) i
in_rows f w a zero x i lx li = absurd (omega (arith, lx))
in_rows f w a (suc n) zero i lx li =
    let rest = flat_map (λ y. map (f y) (numbers w)) (range_with_len (a + 1) n) in
    let long : length (map (f a) (numbers w)) ≡ w = length-map-range_with_len (f a) 0 w in
    (let e : zero * w + i ≡ i = omega arith in ap (λ k. get_or (map (f a) (numbers w) ++ rest) k (pos 0)) e)
    ∙ (get_or_append_left (map (f a) (numbers w)) rest (pos 0) i (let l : i < length (map (f a) (numbers w)) = omega (arith, long, li) in l)
    ∙ (get_or-map-range_with_len (f a) 0 w i i (pos 0) li (omega arith)
    ∙ (let e : a ≡ a + zero = omega arith in ap (λ k. f k i) e)))
in_rows f w a (suc n) (suc x) i lx li =
    let rest = flat_map (λ y. map (f y) (numbers w)) (range_with_len (a + 1) n) in
    let long : length (map (f a) (numbers w)) ≡ w = length-map-range_with_len (f a) 0 w in
    let e : suc x * w + i ≡ length (map (f a) (numbers w)) + (x * w + i) = omega (arith, long) in
    ap (λ k. get_or (map (f a) (numbers w) ++ rest) k (pos 0)) e
    ∙ (get_or-append-add (map (f a) (numbers w)) rest (x * w + i) (pos 0)
    ∙ (in_rows f w (a + 1) n x i (let l : x < n = omega (arith, lx) in l) li
    ∙ (let g : a + 1 + x ≡ a + suc x = omega arith in ap (λ k. f k i) g)))

map_flat : {A B C : Type 0} (g : B → C) (f : A → List B) (xs : List A) → map g (flat_map f xs) ≡ flat_map (λ x. map g (f x)) xs
map_flat g f [] = refl
map_flat g f (x ∷ xs) = map-append g (f x) (flat_map f xs) ∙ ap (λ l. map g (f x) ++ l) (map_flat g f xs)

-- ---- variables

-- a variable of the tail begins with its values before the cut
abbrev Begins : Store → ℕ → VarValue → VarValue → Type 0
Begins s v x y = (length y.start ≡ length x.start) × (y.constant ≡ x.constant)
    × ((i : ℕ) → i < length x.start → get_or y.start i (pos 0) ≡ s (Variable (record { variable = v; component = i })))

module _ (s : Store) where
  abbrev Consts : ℕ → List VarValue → Type 0
  Consts v [] = Unit {0}
  Consts v (x ∷ xs) =
      (x.is_const ≡ true → (i : ℕ) → s (Variable (record { variable = v; component = i })) ≡ get_or x.start i (pos 0)) × Consts (suc v) xs

  abbrev AllBegin : ℕ → List VarValue → List VarValue → Type 0
  AllBegin v [] [] = Unit {0}
  AllBegin v (x ∷ xs) (y ∷ ys) = Begins s v x y × AllBegin (suc v) xs ys
  AllBegin v [] (y ∷ ys) = ⊥
  AllBegin v (x ∷ xs) [] = ⊥

  abbrev its : ℕ → ℕ → List ℤ
  its v n = map (λ i. s (Variable (record { variable = v; component = i }))) (numbers n)

  one_begins : (t : Bool) (v : ℕ) (x : VarValue) (xs : List VarValue) (zs : List (List ℤ))
      → (t ≡ true → (i : ℕ) → s (Variable (record { variable = v; component = i })) ≡ get_or x.start i (pos 0))
      → AllBegin (suc v) xs (with_vars xs zs)
      → AllBegin v (x ∷ xs)
      (if t then x ∷ with_vars xs (if t then zs else its v (length x.start) ∷ zs)
      else record x { start = get_or (if t then zs else its v (length x.start) ∷ zs) 0 [] } ∷ with_vars xs (drop 1 (if t then zs else its v (length x.start) ∷ zs)))
  one_begins true v x xs zs h rest = ((refl, refl, λ i l. sym (h refl i)), rest)
  one_begins false v x xs zs h rest = (
    (
      length-map-range_with_len (λ i. s (Variable (record { variable = v; component = i }))) 0 (length x.start),
      refl,
      λ i l. get_or-map-range_with_len (λ i. s (Variable (record { variable = v; component = i }))) 0 (length x.start) i i (pos 0) l (omega arith),
    ),
    rest,
  )

  all_begin : (xs : List VarValue) (v : ℕ) → Consts v xs → AllBegin v xs (with_vars xs (var_values s v xs))
  all_begin [] v h = tt
  all_begin (x ∷ xs) v h = one_begins x.is_const v x xs (var_values s (suc v) xs) h.0 (all_begin xs (suc v) h.1)

  same_vars : (xs ys : List VarValue) (v : ℕ) → AllBegin v xs ys → AreSame ys xs
  same_vars [] [] v h = tt
  same_vars (x ∷ xs) (y ∷ ys) v h = (h.0.0, h.0.1, same_vars xs ys (suc v) h.1)
  same_vars [] (y ∷ ys) v h = absurd h
  same_vars (x ∷ xs) [] v h = absurd h

  var_now : (xs ys : List VarValue) (v n i : ℕ) → AllBegin v xs ys → n < length xs → i < length (get_or xs n no_var).start
      → get_or (get_or ys n no_var).start i (pos 0) ≡ s (Variable (record { variable = v + n; component = i }))
  var_now [] ys v n i h l li = absurd (omega (arith, l))
  var_now (x ∷ xs) [] v n i h l li = absurd h
  var_now (x ∷ xs) (y ∷ ys) v zero i h l li = h.0.2 i li ∙ (let e : v ≡ v + zero = omega arith in ap (λ w. s (Variable (record { variable = w; component = i }))) e)
  var_now (x ∷ xs) (y ∷ ys) v (suc n) i h l li =
      var_now xs ys (suc v) n i h.1 (omega (arith, l)) li
      ∙ (let e : suc v + n ≡ v + suc n = omega arith in ap (λ w. s (Variable (record { variable = w; component = i }))) e)

  consts_from : (xs : List VarValue) (v : ℕ)
      → ((n i : ℕ) → n < length xs → (get_or xs n no_var).is_const ≡ true → s (Variable (record { variable = v + n; component = i })) ≡ get_or (get_or xs n no_var).start i (pos 0))
      → Consts v xs
  consts_from [] v h = tt
  consts_from (x ∷ xs) v h = (
    (λ t i. (let e : v ≡ v + 0 = omega arith in ap (λ w. s (Variable (record { variable = w; component = i }))) e) ∙ h 0 i (omega arith) t),
    consts_from xs (suc v) (λ n i l t.
        (let e : suc v + n ≡ v + suc n = omega arith in ap (λ w. s (Variable (record { variable = w; component = i }))) e)
        ∙ h (suc n) i (let m : suc n < suc (length xs) = omega (arith, l) in m) t),
  )

-- ---- the tail
module _ (b : BoundValue) (k : ℕ) (s : Store) (kept : KeepsConstants b s) where
  abbrev now : BoundValue
  now = tail b (state_at b k s)

  begun : AllBegin s 0 b.vars now.vars
  begun = all_begin s b.vars 0 (consts_from s b.vars 0 (λ n i l t. (let e : 0 + n ≡ n = omega arith in ap (λ w. s (Variable (record { variable = w; component = i }))) e) ∙ kept n i t))

  abbrev zs : List (List ℤ)
  zs = (state_at b k s).dats

  pub tail_like : Like b now.mesh.dats now.vars now.trace
  tail_like = record {
    dims = dats_keep (λ d. d.dim) (λ d z. refl) b.mesh.dats zs;
    sets = dats_keep (λ d. d.set) (λ d z. refl) b.mesh.dats zs;
    names = dats_keep (λ d. d.name) (λ d z. refl) b.mesh.dats zs;
    vars = same_vars s b.vars now.vars 0 begun;
  }

  dat_is : (d : ℕ) → d < dat_count b.mesh → dat_values now.mesh d ≡ map s (dat_cells b d)
  unfolding dat_values
  dat_is d l =
      dat_now b.mesh.dats zs d l (let m : d < length zs = omega (arith, l, length-map-range_with_len {X = List ℤ} (λ e. map s (dat_cells b e)) 0 (dat_count b.mesh)) in m)
      ∙ get_or-map-range_with_len (λ e. map s (dat_cells b e)) 0 (dat_count b.mesh) d d [] l (omega arith)

  dim_is : (d : ℕ) → dat_dim now.mesh d ≡ dat_dim b.mesh d
  dim_is d = dim_same b now.mesh.dats now.vars now.trace tail_like d

  pub tail_begins : Agree b s (first_values now)
  tail_begins (Data c) h =
      let p = and_parts (nat_lt c.dat (dat_count b.mesh)) (nat_lt c.element (set_size b.mesh (dat_set b.mesh c.dat)) && nat_lt c.component (dat_width b c.dat)) h in
      let q = and_parts (nat_lt c.element (set_size b.mesh (dat_set b.mesh c.dat))) (nat_lt c.component (dat_width b c.dat)) p.1 in
      let ld : c.dat < dat_count b.mesh = ltb-true c.dat (dat_count b.mesh) p.0 in
      let lx : c.element < set_size b.mesh (dat_set b.mesh c.dat) = ltb-true c.element (set_size b.mesh (dat_set b.mesh c.dat)) q.0 in
      let li : c.component < dat_dim b.mesh c.dat = ltb-true c.component (dat_width b c.dat) q.1 in
      let f : ℕ → ℕ → ℤ = λ x i. s (Data (record { dat = c.dat; element = x; component = i })) in
      sym (ap₂ (λ l w. get_or l (c.element * w + c.component) (pos 0)) (dat_is c.dat ld) (dim_is c.dat)
      ∙ (ap (λ l. get_or l (c.element * dat_dim b.mesh c.dat + c.component) (pos 0))
      (map_flat s (λ x. map (λ i. Data (record { dat = c.dat; element = x; component = i })) (numbers (dat_dim b.mesh c.dat))) (numbers (set_size b.mesh (dat_set b.mesh c.dat)))
      ∙ flat_alike
      (λ x. map s (map (λ i. Data (record { dat = c.dat; element = x; component = i })) (numbers (dat_dim b.mesh c.dat))))
      (λ x. map (f x) (numbers (dat_dim b.mesh c.dat)))
      (numbers (set_size b.mesh (dat_set b.mesh c.dat)))
      (λ x. map_map s (λ i. Data (record { dat = c.dat; element = x; component = i })) (numbers (dat_dim b.mesh c.dat))))
      ∙ (in_rows f (dat_dim b.mesh c.dat) 0 (set_size b.mesh (dat_set b.mesh c.dat)) c.element c.component lx li
      ∙ (let e : 0 + c.element ≡ c.element = omega arith in ap (λ x. f x c.component) e))))
  tail_begins (Variable v) h =
      let p = and_parts (nat_lt v.variable (length b.vars)) (nat_lt v.component (var_width b v.variable)) h in
      let lv : v.variable < length b.vars = ltb-true v.variable (length b.vars) p.0 in
      let li : v.component < var_width b v.variable = ltb-true v.component (var_width b v.variable) p.1 in
      sym (var_now s b.vars now.vars 0 v.variable v.component begun lv li
      ∙ (let e : 0 + v.variable ≡ v.variable = omega arith in ap (λ w. s (Variable (record { variable = w; component = v.component }))) e))
