-- The values of a state, put into a mesh from the last dat on, and into variables from the first on.
use Rattle.std.proofs.Common.{◌≡◌, ◌<◌, ◌≤◌, ◌+◌, ◌++◌, ℕ, zero, suc, ℤ, Bool, true, false, List, [], ◌∷◌, length, map, take, drop, get_or, refl, sym, ap, ap₂, ◌∙◌, arith}
use Rattle.std.specs.Prelude.{slice_set, if◌then◌else◌}
use Rattle.std.proofs.lemmas.List.{get_or_append_left, length_push, length-map, drop-map}
use Rattle.mesh_decl.specs.declared.decl.DatDecl.{DatDecl}
use Rattle.mesh_decl.specs.Mesh.{MeshValue, dat_count, dat_values, with_values}
use Rattle.bound_program.specs.declared.programs.Var.{Var}
use Rattle.bound_program.specs.declared.acts.Item.{Item}
use Rattle.bound_program.specs.Values.{BoundValue, VarValue, item_of, var_of}
use Rattle.checkpoint.specs.Cut.{StateValue, begun, left_over, with_dats, with_vars, tail}

-- ---- dats

none-set : (ds : List DatDecl) → with_dats ds [] ≡ ds
none-set [] = refl
none-set (d ∷ ds) = refl

-- the last of these values is set first
last-set : (ds : List DatDecl) (zs : List (List ℤ)) (z : List ℤ) → with_dats ds (zs ++ z ∷ []) ≡ with_dats (with_values ds (length zs) z) zs
last-set [] [] z = refl
last-set [] (x ∷ xs) z = refl
last-set (d ∷ ds) [] z = ap (λ l. record d { values = z } ∷ l) (none-set ds)
last-set (d ∷ ds) (x ∷ xs) z = ap (λ l. record d { values = x } ∷ l) (last-set ds xs z)

others-stay : (ds : List DatDecl) (n : ℕ) (z : List ℤ) (d : ℕ) → d < n → get_or (map (λ (e : DatDecl). e.values) (with_values ds n z)) d [] ≡ get_or (map (λ (e : DatDecl). e.values) ds) d []
others-stay [] n z d l = refl
others-stay (x ∷ xs) zero z d l = absurd (omega (arith, l))
others-stay (x ∷ xs) (suc n) z zero l = refl
others-stay (x ∷ xs) (suc n) z (suc d) l = others-stay xs n z d (omega (arith, l))

count-stays : (ds : List DatDecl) (n : ℕ) (z : List ℤ) → length (with_values ds n z) ≡ length ds
count-stays [] n z = refl
count-stays (x ∷ xs) zero z = refl
count-stays (x ∷ xs) (suc n) z = ap suc (count-stays xs n z)

at-last : (xs : List (List ℤ)) (z : List ℤ) → get_or (xs ++ z ∷ []) (length xs) [] ≡ z
at-last [] z = refl
at-last (x ∷ xs) z = at-last xs z

module _ (g : MeshValue) (xs ys : List (List ℤ)) (z : List ℤ) (e : ℕ) (at : e ≡ length ys) (parts : xs ≡ ys ++ z ∷ [])
    (long : (d : ℕ) → d < length xs → length (get_or xs d []) ≡ length (dat_values g d)) where
  count : length xs ≡ length ys + 1
  count = ap length parts ∙ length_push ys z

  -- the values are as many as before
  pub last-fits : length z ≡ length (dat_values g e)
  last-fits =
      let l : length ys < length xs = omega (arith, count) in
      ap length (sym (ap (λ k. get_or k (length ys) []) parts ∙ at-last ys z)) ∙ long (length ys) l ∙ ap (λ k. length (dat_values g k)) (sym at)

  module _ (h : MeshValue) (is : h ≡ record g { dats = with_values g.dats e z }) where
    pub rest-kept : (m : MeshValue) → record g { dats = with_dats g.dats xs } ≡ m → record h { dats = with_dats h.dats ys } ≡ m
    rest-kept m k =
        ap (λ (n : MeshValue). record n { dats = with_dats n.dats ys }) (is ∙ ap (λ i. record g { dats = with_values g.dats i z }) at)
        ∙ sym (ap (λ l. record g { dats = l }) (ap (with_dats g.dats) parts ∙ last-set g.dats ys z)) ∙ k

    pub lengths-kept : (d : ℕ) → d < length ys → length (get_or ys d []) ≡ length (dat_values h d)
    unfolding dat_values
    lengths-kept d l =
        let m : d < length xs = omega (arith, l, count) in
        let n : d < e = omega (arith, l, at) in
        ap length (sym (ap (λ k. get_or k d []) parts ∙ get_or_append_left ys (z ∷ []) [] d l)) ∙ long d m
        ∙ ap length (sym (ap (λ (n : MeshValue). get_or (map (λ (f : DatDecl). f.values) n.dats) d []) is ∙ others-stay g.dats e z d n))

    pub count-kept : dat_count h ≡ dat_count g
    count-kept = ap (λ (n : MeshValue). length n.dats) is ∙ count-stays g.dats e z

pub all-set : (g m : MeshValue) (xs : List (List ℤ)) → xs ≡ [] → record g { dats = with_dats g.dats xs } ≡ m → g ≡ m
all-set g m xs e h = ap (λ l. record g { dats = l }) (sym (ap (with_dats g.dats) e ∙ none-set g.dats)) ∙ h

-- ---- variables

pub one-begun : (x : VarValue) (xs : List VarValue) (zs : List (List ℤ)) → with_vars (x ∷ xs) zs ≡ begun x zs ∷ with_vars xs (left_over x zs)
one-begun x xs zs = by x.is_const
  where
    by : (b : Bool) → (if b then x ∷ with_vars xs zs else record x { start = get_or zs 0 [] } ∷ with_vars xs (drop 1 zs))
        ≡ (if b then x else record x { start = get_or zs 0 [] }) ∷ with_vars xs (if b then zs else drop 1 zs)
    by true = refl
    by false = refl

-- the variables up to a place have begun, and the others are to begin with these values
abbrev pub done : List Var → ℕ → List (List ℤ) → List VarValue
done vs i zs = take i (map var_of vs) ++ with_vars (drop i (map var_of vs)) zs

set-done : (vs : List Var) (i : ℕ) (x y : Var) (zs ws : List (List ℤ)) → i < length vs → x ≡ get_or vs i x → var_of y ≡ begun (var_of x) zs → ws ≡ left_over (var_of x) zs
    → done (slice_set vs i y) (i + 1) ws ≡ done vs i zs
set-done [] i x y zs ws l r b w = absurd (omega (arith, l))
set-done (v ∷ vs) zero x y zs ws l r b w =
    ap₂ (λ a k. a ∷ with_vars (map var_of vs) k) (b ∙ ap (λ (u : Var). begun (var_of u) zs) r) (w ∙ ap (λ (u : Var). left_over (var_of u) zs) r)
    ∙ sym (one-begun (var_of v) (map var_of vs) zs)
set-done (v ∷ vs) (suc i) x y zs ws l r b w =
    let e : suc i + 1 ≡ suc (i + 1) = omega arith in
    ap (λ k. done (slice_set (v ∷ vs) (suc i) y) k ws) e ∙ ap (λ k. var_of v ∷ k) (set-done vs i x y zs ws (omega (arith, l)) r b w)

pub begun-more : (vs us : List Var) (i : ℕ) (x y : Var) (zs ws : List (List ℤ)) (all : List VarValue) → i < length vs → x ≡ get_or vs i x → us ≡ slice_set vs i y
    → var_of y ≡ begun (var_of x) zs → ws ≡ left_over (var_of x) zs → done vs i zs ≡ all → done us (i + 1) ws ≡ all
begun-more vs us i x y zs ws all l r u b w h = ap (λ k. done k (i + 1) ws) u ∙ set-done vs i x y zs ws l r b w ∙ h

none-left : (xs : List VarValue) (i : ℕ) (zs : List (List ℤ)) → length xs ≤ i → take i xs ++ with_vars (drop i xs) zs ≡ xs
none-left [] zero zs l = refl
none-left [] (suc i) zs l = refl
none-left (x ∷ xs) zero zs l = absurd (omega (arith, l))
none-left (x ∷ xs) (suc i) zs l = ap (λ k. x ∷ k) (none-left xs i zs (omega (arith, l)))

pub all-begun : (vs : List Var) (i : ℕ) (zs : List (List ℤ)) (all : List VarValue) → length vs ≤ i → done vs i zs ≡ all → map var_of vs ≡ all
all-begun vs i zs all l h = sym (none-left (map var_of vs) i zs (let k : length (map var_of vs) ≤ i = omega (arith, length-map vs var_of, l) in k)) ∙ h

-- ---- the whole

-- values of the shape of the dats
pub dats-fit : (zs : List (List ℤ)) (ds : List DatDecl) → map length zs ≡ map (λ (d : DatDecl). length d.values) ds
    → (i : ℕ) → i < length zs → length (get_or zs i []) ≡ length (get_or (map (λ (d : DatDecl). d.values) ds) i [])
dats-fit [] ds h i l = absurd (omega (arith, l))
dats-fit (z ∷ zs) [] h i l = absurd (let e : suc (length (map length zs)) ≡ 0 = ap length h in omega (arith, e))
dats-fit (z ∷ zs) (d ∷ ds) h zero l = ap (λ (ns : List ℕ). get_or ns 0 0) h
dats-fit (z ∷ zs) (d ∷ ds) h (suc i) l = dats-fit zs ds (ap (drop 1) h) i (omega (arith, l))

pub dats-count : (zs : List (List ℤ)) (ds : List DatDecl) → map length zs ≡ map (λ (d : DatDecl). length d.values) ds → length zs ≡ length ds
dats-count zs ds h = sym (length-map zs length) ∙ ap length h ∙ length-map ds (λ (d : DatDecl). length d.values)

pub tail-made : (b : BoundValue) (st : StateValue) (g : MeshValue) (vs : List VarValue) (later all : List Item)
    → g ≡ record b.mesh { dats = with_dats b.mesh.dats st.dats } → vs ≡ with_vars b.vars st.vars → later ≡ drop st.item all → map item_of all ≡ b.trace
    → record b { mesh = g; vars = vs; trace = map item_of later } ≡ tail b st
tail-made b st g vs later all p q r s =
    ap (λ m. record b { mesh = m; vars = vs; trace = map item_of later }) p
    ∙ ap (λ w. record b { mesh = record b.mesh { dats = with_dats b.mesh.dats st.dats }; vars = w; trace = map item_of later }) q
    ∙ ap (λ t. record b { mesh = record b.mesh { dats = with_dats b.mesh.dats st.dats }; vars = with_vars b.vars st.vars; trace = t })
    (ap (map item_of) r ∙ sym (drop-map item_of st.item all) ∙ ap (drop st.item) s)
