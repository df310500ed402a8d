-- A file says a state, or why it says none.
use Rattle.std.proofs.Common.{◌≡◌, ℕ, ℤ, zero, suc, ◌+◌, ◌*◌, ◌<◌, ◌≤◌, refl, sym, ap, ap₂, subst, ◌∙◌, arith, ⊎_elim, inl, inr, List, [], ◌∷◌, ◌++◌, append-nil, length, map}
use Rattle.std.specs.Prelude.{◌⊎◌, codes}
use Rattle.std.specs.List.{flat_map, range_with_len}
use Rattle.op_num.specs.CutLines.{Unread, unread}
use Rattle.mesh_decl.specs.Mesh.{MeshValue, IsMesh, IsDatAt, dat_count, dat_values, set_size, dat_set, dat_dim}
use Rattle.bound_program.specs.Values.{BoundValue}
use Rattle.run_model.specs.Windows.{numbers}
use Rattle.checkpoint.specs.Cut.{StateValue, starts}
use Rattle.checkpoint.specs.Reading.{IsSplit, Awaited, Item, Values, Exactly, Done, awaited_vars, awaited_dat, awaited, AllFit, Refuses, Says, SaysNone, lines_in}
use Rattle.checkpoint.specs.Judged.{FitsAmong, RefusedAt, TextSays, TextSaysNone}
use Rattle.checkpoint.specs.StateTextLaws.{SaysSomething}
use Rattle.checkpoint.proofs.state_texts.Judging.{fits_one, refused_here, at_first, at_then}
use Rattle.checkpoint.proofs.state_texts.VarLines.{flat}
use Rattle.checkpoint.proofs.state_texts.DatLines.{lengths_by_number}
use Rattle.checkpoint.proofs.state_texts.Counting.{elements_counted}
use Rattle.checkpoint.proofs.state_texts.OneReading.{fit_parts}
use Rattle.checkpoint.proofs.state_texts.Whole.{vars, dats, text_says, file_says, none_at}
use Rattle.checkpoint.proofs.state_texts.Deciding.{bytes_dec, AreInner, Answer, inner_answer, item_answer, Marked, mark_dec}

-- ---- inner lines

inner_append : (xs ys : List Awaited) → AreInner xs → AreInner ys → AreInner (xs ++ ys)
inner_append [] ys h k = k
inner_append (Item ∷ xs) ys h k = h
inner_append (Done ∷ xs) ys h k = h
inner_append (Exactly l ∷ xs) ys h k = inner_append xs ys h k
inner_append (Values n ∷ xs) ys h k = inner_append xs ys h k

vars_inner : (n : ℕ) (zs : List (List ℤ)) → AreInner (awaited_vars n zs)
vars_inner n [] = tt
vars_inner n (z ∷ zs) = vars_inner (suc n) zs

rows_inner : (n : ℕ) (is : List ℕ) → AreInner (map (λ (e : ℕ). Values n) is)
rows_inner n [] = tt
rows_inner n (i ∷ is) = rows_inner n is

dats_inner : (g : MeshValue) (ds : List ℕ) → AreInner (flat_map (awaited_dat g) ds)
dats_inner g [] = tt
dats_inner g (d ∷ ds) =
    inner_append (map (λ (e : ℕ). Values (dat_dim g d)) (numbers (set_size g (dat_set g d)))) (flat_map (awaited_dat g) ds)
    (rows_inner (dat_dim g d) (numbers (set_size g (dat_set g d)))) (dats_inner g ds)

-- ---- the values of lines that fit

module _ (b : BoundValue) (k : ℕ) where
  -- of variables
  vars_values : (n : ℕ) (starts : List (List ℤ)) (ls : List (List ℕ)) (zs : List ℤ) → AllFit b k (awaited_vars n starts) ls zs
      → (told : List (List ℤ)) × (zs ≡ flat told) × (map length told ≡ map length starts)
  vars_values n [] [] zs f = ([], f, refl)
  vars_values n [] (l ∷ ls) zs f = absurd f
  vars_values n (y ∷ ys) [] zs f = absurd f
  vars_values n (y ∷ ys) (l ∷ []) zs f = absurd f.4
  vars_values n (y ∷ ys) (l ∷ m ∷ ls) zs f =
      let g = f.4 in
      let r = vars_values (suc n) ys ls g.1 g.4 in (
        g.0 ∷ r.0,
        f.2 ∙ (ap (λ (z : List ℤ). z ++ f.1) f.3.2 ∙ (g.2 ∙ ap (λ (z : List ℤ). g.0 ++ z) r.1)),
        ap₂ (λ z w. z ∷ w) g.3.count r.2,
      )

  -- of a dat
  dat_counted : (g : MeshValue) (d : ℕ) (ls : List (List ℕ)) (zs : List ℤ) → AllFit b k (awaited_dat g d) ls zs → length zs ≡ set_size g (dat_set g d) * dat_dim g d
  dat_counted g d [] zs f = absurd f
  dat_counted g d (l ∷ ls) zs f = ap length (f.2 ∙ ap (λ (z : List ℤ). z ++ f.1) f.3.2) ∙ elements_counted b k (dat_dim g d) 0 (set_size g (dat_set g d)) ls f.1 f.4

  -- of dats
  dats_values : (g : MeshValue) (at : (d : ℕ) → d < dat_count g → IsDatAt g d) (d n : ℕ) (ls : List (List ℕ)) (zs : List ℤ)
      → d + n ≤ dat_count g → AllFit b k (flat_map (awaited_dat g) (range_with_len d n)) ls zs
      → (told : List (List ℤ)) × (zs ≡ flat told) × (map length told ≡ map (λ e. length (dat_values g e)) (range_with_len d n))
  dats_values g at d zero [] zs le f = ([], f, refl)
  dats_values g at d zero (l ∷ ls) zs le f = absurd f
  dats_values g at d (suc n) ls zs le f =
      let p = fit_parts b k (awaited_dat g d) (flat_map (awaited_dat g) (range_with_len (d + 1) n)) ls zs f in
      let r = dats_values g at (d + 1) n p.later p.more (omega arith) p.later_fit in
      let i = at d (omega arith) in (
        p.some ∷ r.0,
        p.values ∙ ap (λ (z : List ℤ). p.some ++ z) r.1,
        ap₂ (λ z w. z ∷ w) (dat_counted g d p.first p.some p.first_fit ∙ sym i.length) r.2,
      )

-- ---- the text

module _ (b : BoundValue) (at : (d : ℕ) → d < dat_count b.mesh → IsDatAt b.mesh d) (text : List ℕ) where
  abbrev Told : Type 0
  Told = ((s : StateValue) × TextSays b text s) ⊎ ((number : ℕ) × (line : ℕ) × TextSaysNone b text number line)

  none_told : (k number line : ℕ) → RefusedAt b k (awaited b) (unread text) number line → Told
  none_told k number line r = inr (number, line, (k, r.0, (let e = r.1 in omega arith), r.2))

  abbrev rest_of : List Awaited
  rest_of = vars b ++ (dats b ++ Done ∷ [])

  module _ (k : ℕ) (v : Unread) (f : FitsAmong b k (Item ∷ []) (unread text) v []) (w : Unread) (zs : List ℤ) (g : FitsAmong b k (vars b) v w zs) where
    end_told : (x : Unread) (ys : List ℤ) → FitsAmong b k (dats b) w x ys → Told
    end_told x ys d = ⊎_elim
        (λ (e : x.rest ≡ codes "done\n"). (
        let p = vars_values b k 0 (starts b.vars) g.lines zs g.fit in
        let q = dats_values b k b.mesh at 0 (dat_count b.mesh) d.lines ys (omega arith) d.fit in
        let y : Unread = record { taken = x.taken + 1; rest = [] } in
        inl (
          record { item = k; vars = p.0; dats = q.0 },
          text_says b text (unread text) refl k v f w p.0 (subst (FitsAmong b k (vars b) v w) p.1 g) x q.0 (subst (FitsAmong b k (dats b) w x) q.1 d) y
              (fits_one b k Done x y (codes "done\n") [] (record { whole = e ∙ sym (append-nil (codes "done\n")); taken = refl }) (refl, refl)) refl
              (record { vars = p.2; dats = q.2 ∙ lengths_by_number b.mesh }),
        )))
        (λ (ne : x.rest ≡ codes "done\n" → ⊥). none_told k 5 (x.taken + 1)
        (at_then b k (Item ∷ []) rest_of (unread text) v [] 5 (x.taken + 1) f
        (at_then b k (vars b) (dats b ++ Done ∷ []) v w zs 5 (x.taken + 1) g
        (at_then b k (dats b) (Done ∷ []) w x ys 5 (x.taken + 1) d
        (0, (let e : x.taken + 1 ≡ x.taken + suc 0 = omega arith in e), refused_here b k Done x 5 (refl, ne))))))
        (bytes_dec x.rest (codes "done\n"))

    dats_told : Answer b k (dats b) w → Told
    dats_told (inl d) = end_told d.0 d.1 d.2
    dats_told (inr r) = none_told k r.0 r.1
        (at_then b k (Item ∷ []) rest_of (unread text) v [] r.0 r.1 f
        (at_then b k (vars b) (dats b ++ Done ∷ []) v w zs r.0 r.1 g (at_first b k (dats b) (Done ∷ []) w r.0 r.1 r.2)))

  vars_told : (k : ℕ) (v : Unread) → FitsAmong b k (Item ∷ []) (unread text) v [] → Answer b k (vars b) v → Told
  vars_told k v f (inl g) = dats_told k v f g.0 g.1 g.2 (inner_answer b k (dats b) g.0 (dats_inner b.mesh (numbers (dat_count b.mesh))))
  vars_told k v f (inr r) = none_told k r.0 r.1 (at_then b k (Item ∷ []) rest_of (unread text) v [] r.0 r.1 f (at_first b k (vars b) (dats b ++ Done ∷ []) v r.0 r.1 r.2))

  abbrev FirstLine : Type 0
  FirstLine = ((k : ℕ) × (v : Unread) × FitsAmong b k (Item ∷ []) (unread text) v []) ⊎ Refuses b Item text 2

  by_item : FirstLine → Told
  by_item (inl f) = vars_told f.0 f.1 f.2 (inner_answer b f.0 (vars b) f.1 (vars_inner 0 (starts b.vars)))
  by_item (inr r) = none_told 0 2 1 (at_first b 0 (Item ∷ []) rest_of (unread text) 2 1 (0, refl, refused_here b 0 Item (unread text) 2 r))

  pub text_told : Told
  text_told = by_item (item_answer b (unread text))

-- ---- the file

abbrev Tells : BoundValue → List ℕ → Type 0
Tells b bytes = ((s : StateValue) × Says b bytes s) ⊎ ((number : ℕ) × (line : ℕ) × SaysNone b bytes number line)

by_text : (b : BoundValue) (bytes front text : List ℕ) → IsSplit bytes front text → ((s : StateValue) × TextSays b text s)
    ⊎ ((number : ℕ) × (line : ℕ) × TextSaysNone b text number line) → Tells b bytes
by_text b bytes front text split (inl s) = inl (s.0, file_says b bytes front text split s.0 s.1)
by_text b bytes front text split (inr r) = inr (r.0, r.1 + (lines_in front + 2), none_at b bytes front text split (lines_in front + 2) refl r.0 r.1 r.2)

by_mark : (b : BoundValue) (bytes : List ℕ) → ((d : ℕ) → d < dat_count b.mesh → IsDatAt b.mesh d) → Marked bytes → Tells b bytes
by_mark b bytes at (inl m) = by_text b bytes m.0 m.1 m.2 (text_told b at m.1)
by_mark b bytes at (inr n) = inr (1, 1, inl (n, refl, refl))

pub says_something : ((g : MeshValue) → IsMesh g → (d : ℕ) → d < dat_count g → IsDatAt g d) → SaysSomething
says_something at b bytes mesh = by_mark b bytes (at b.mesh mesh) (mark_dec bytes)
