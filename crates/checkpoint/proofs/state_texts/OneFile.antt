-- A file says one thing.
use Rattle.std.proofs.Common.{◌≡◌, ℕ, ℤ, suc, ◌+◌, ◌<◌, ◌^◌, refl, sym, ap, ap₂, subst, ◌∙◌, arith, ⊎_elim, List, [], ◌∷◌, ◌++◌, append_assoc, append-nil, length, map}
use Rattle.std.specs.Prelude.{codes}
use Rattle.std.specs.Fmt.{decimal}
use Rattle.std.specs.List.{flat_map}
use Rattle.std.proofs.lemmas.List.{append_cancel_left, append_cancel_right}
use Rattle.bound_program.specs.Values.{BoundValue}
use Rattle.mesh_decl.specs.Mesh.{MeshValue, dat_dim, set_size, dat_set, dat_count}
use Rattle.run_model.specs.Windows.{numbers}
use Rattle.checkpoint.specs.Cut.{StateValue, starts}
use Rattle.checkpoint.specs.Reading.{mark, IsSplit, HasNoMark, lines_in, Awaited, Item, Exactly, Values, Done, awaited_vars, awaited_dat, awaited_dats, awaited, all, AllFit, Refuses, RefusedAmong, IsBadLine}
use Rattle.checkpoint.specs.StateTextLaws.{SaysOneState, SaysOneRefusal, SaysNotBoth}
use Rattle.checkpoint.proofs.state_texts.ItemLines.{NumbersAreRead, decimal_one}
use Rattle.checkpoint.proofs.state_texts.Judging.{all_append}
use Rattle.checkpoint.proofs.state_texts.VarLines.{flat}
use Rattle.checkpoint.proofs.state_texts.OneReading.{flats_same, Same, First, Second, order_in, lines_one, fit_parts, line_refused, same_number}
use Rattle.lemmas.proofs.Lists.{fronts_same}

-- ---- the end is awaited last

-- the end is none of these lines
abbrev NoDone : List Awaited → Type 0
NoDone [] = Unit {0}
NoDone (Done ∷ xs) = ⊥
NoDone (Item ∷ xs) = NoDone xs
NoDone (Exactly l ∷ xs) = NoDone xs
NoDone (Values n ∷ xs) = NoDone xs

no_done_append : (xs ys : List Awaited) → NoDone xs → NoDone ys → NoDone (xs ++ ys)
no_done_append [] ys h k = k
no_done_append (Done ∷ xs) ys h k = h
no_done_append (Item ∷ xs) ys h k = no_done_append xs ys h k
no_done_append (Exactly l ∷ xs) ys h k = no_done_append xs ys h k
no_done_append (Values n ∷ xs) ys h k = no_done_append xs ys h k

vars_no_done : (n : ℕ) (zs : List (List ℤ)) → NoDone (awaited_vars n zs)
vars_no_done n [] = tt
vars_no_done n (z ∷ zs) = vars_no_done (suc n) zs

rows_no_done : (n : ℕ) (is : List ℕ) → NoDone (map (λ (e : ℕ). Values n) is)
rows_no_done n [] = tt
rows_no_done n (i ∷ is) = rows_no_done n is

dats_no_done : (g : MeshValue) (ds : List ℕ) → NoDone (flat_map (awaited_dat g) ds)
dats_no_done g [] = tt
dats_no_done g (d ∷ ds) =
    no_done_append (map (λ (e : ℕ). Values (dat_dim g d)) (numbers (set_size g (dat_set g d)))) (flat_map (awaited_dat g) ds)
    (rows_no_done (dat_dim g d) (numbers (set_size g (dat_set g d)))) (dats_no_done g ds)

-- nothing is awaited behind it
abbrev pub DoneIsLast : List Awaited → Type 0
DoneIsLast xs = (earlier later : List Awaited) → xs ≡ earlier ++ Done ∷ later → later ≡ []

no_done_rest : (x : Awaited) (xs : List Awaited) → NoDone (x ∷ xs) → NoDone xs
no_done_rest Done xs h = absurd h
no_done_rest Item xs h = h
no_done_rest (Exactly l) xs h = h
no_done_rest (Values n) xs h = h

done_is_last : (xs : List Awaited) → NoDone xs → DoneIsLast (xs ++ Done ∷ [])
done_is_last xs h earlier later e = elim (order_in xs Done [] earlier Done later e) [
  | Same a c d ↦ sym d
  | First m a d ↦ absurd (let n : 0 ≡ length (m ++ Done ∷ later) = ap length d in (let l = length_more m later in omega arith))
  | Second m a d ↦ absurd (among earlier m xs a h)
]
  where
    length_more : (m later : List Awaited) → 0 < length (m ++ Done ∷ later)
    length_more [] later = omega arith
    length_more (x ∷ m) later = omega arith

    among : (earlier m xs : List Awaited) → xs ≡ earlier ++ Done ∷ m → NoDone xs → ⊥
    among [] m xs e n = subst NoDone e n
    among (y ∷ ys) m xs e n = among ys m (ys ++ Done ∷ m) refl (no_done_rest y (ys ++ Done ∷ m) (subst NoDone e n))

awaited_ends : (b : BoundValue) → DoneIsLast (awaited b)
awaited_ends b =
    let vars = awaited_vars 0 (starts b.vars) in
    let dats = awaited_dats b.mesh in
    subst DoneIsLast (ap (λ z. Item ∷ z) (append_assoc vars dats (Done ∷ [])))
    (done_is_last (Item ∷ (vars ++ dats)) (no_done_append vars dats (vars_no_done 0 (starts b.vars)) (dats_no_done b.mesh (numbers (dat_count b.mesh)))))

-- ---- one text

module _ (b : BoundValue) where
  none_fit : (k : ℕ) (xs : List Awaited) (ls : List (List ℕ)) (zs : List ℤ) → xs ≡ [] → AllFit b k xs ls zs → ls ≡ []
  none_fit k [] [] zs e f = refl
  none_fit k [] (l ∷ ls) zs e f = absurd f
  none_fit k (x ∷ xs) ls zs e f = absurd (let n : suc (length xs) ≡ 0 = ap length e in omega arith)

  -- a refused line doesn't fit
  module _ (j : ℕ) (xs : List Awaited) (text : List ℕ) (number before : ℕ) (r : RefusedAmong b j xs text number before) where
    here_fits : (k : ℕ) (m : List Awaited) (first later : List (List ℕ)) (some more : List ℤ) (rest : List ℕ) → AllFit b k r.earlier first some → AllFit b k (r.here ∷ m) later more
        → text ≡ all first ++ (all later ++ rest) → (r.here ≡ Done → (m ≡ []) × (rest ≡ [])) → ⊥
    here_fits k m first [] some more rest f g e last = g
    here_fits k m first (l ∷ ls) some more rest f g e last =
        let same = lines_one b j k r.earlier r.lines first r.values some r.rest (all (l ∷ ls) ++ rest) r.fit f (sym r.cut ∙ e) in
        line_refused b k r.here l (all ls ++ rest) g.0 number g.3 (subst (λ (z : List ℕ). Refuses b r.here z number) (same.2 ∙ append_assoc l (all ls) rest) r.refuses)
        (λ d. ap₂ (λ (z : List (List ℕ)) (w : List ℕ). all z ++ w) (none_fit k m ls g.1 (last d).0 g.4) (last d).1)

    pub passes_not : (k : ℕ) (m : List Awaited) (ls : List (List ℕ)) (zs : List ℤ) (rest : List ℕ) → AllFit b k (r.earlier ++ r.here ∷ m) ls zs → text ≡ all ls ++ rest
        → (r.here ≡ Done → (m ≡ []) × (rest ≡ [])) → ⊥
    passes_not k m ls zs rest f e last =
        let p = fit_parts b k r.earlier (r.here ∷ m) ls zs f in
        here_fits k m p.first p.later p.some p.more rest p.first_fit p.later_fit
        (e ∙ (ap (λ z. all z ++ rest) p.lines ∙ (ap (λ (z : List ℕ). z ++ rest) (all_append p.first p.later) ∙ append_assoc (all p.first) (all p.later) rest))) last

  no_more : (m : List Awaited) (x : Awaited) (ys : List Awaited) → m ++ x ∷ ys ≡ [] → ⊥
  no_more [] x ys e = let n : suc (length ys) ≡ 0 = ap length e in omega arith
  no_more (y ∷ m) x ys e = let n : suc (length (m ++ x ∷ ys)) ≡ 0 = ap length e in omega arith

  -- one line is refused first
  module _ (j k : ℕ) (xs : List Awaited) (ends : DoneIsLast xs) (text : List ℕ) (m n c d : ℕ) (r : RefusedAmong b j xs text m c) (s : RefusedAmong b k xs text n d) where
    not_first : (y : List Awaited) → s.earlier ≡ r.earlier ++ r.here ∷ y → r.later ≡ y ++ s.here ∷ s.later → ⊥
    not_first y a e = passes_not j xs text m c r k y s.lines s.values s.rest (subst (λ (z : List Awaited). AllFit b k z s.lines s.values) a s.fit) s.cut
        (λ is. absurd (no_more y s.here s.later (sym e ∙ ends r.earlier r.later (r.order ∙ ap (λ z. r.earlier ++ z ∷ r.later) is))))

    not_second : (y : List Awaited) → r.earlier ≡ s.earlier ++ s.here ∷ y → s.later ≡ y ++ r.here ∷ r.later → ⊥
    not_second y a e = passes_not k xs text n d s j y r.lines r.values r.rest (subst (λ (z : List Awaited). AllFit b j z r.lines r.values) a r.fit) r.cut
        (λ is. absurd (no_more y r.here r.later (sym e ∙ ends s.earlier s.later (s.order ∙ ap (λ z. s.earlier ++ z ∷ s.later) is))))

    same_line : r.earlier ≡ s.earlier → r.here ≡ s.here → (m ≡ n) × (c ≡ d)
    same_line a h =
        let same = lines_one b j k r.earlier r.lines s.lines r.values s.values r.rest s.rest r.fit (subst (λ (z : List Awaited). AllFit b k z s.lines s.values) (sym a) s.fit) (sym r.cut ∙ s.cut) in (
          same_number b r.here r.rest m n r.refuses (subst (λ z. Refuses b z r.rest n) (sym h) (subst (λ (z : List ℕ). Refuses b s.here z n) (sym same.2) s.refuses)),
          r.at ∙ (ap length same.0 ∙ sym s.at),
        )

    pub refused_once : (m ≡ n) × (c ≡ d)
    refused_once = elim (order_in r.earlier r.here r.later s.earlier s.here s.later (sym r.order ∙ s.order)) [
      | Same a h l ↦ same_line a h
      | First y a e ↦ absurd (not_first y a e)
      | Second y a e ↦ absurd (not_second y a e)
    ]

-- ---- one file

pub split_one : (bytes f g t u : List ℕ) → IsSplit bytes f t → IsSplit bytes g u → (f ≡ g) × (t ≡ u)
split_one bytes f g t u s r =
    let a = s.last g u r.whole in
    let c = r.last f t s.whole in
    let h = fronts_same f g (mark ++ t) (mark ++ u) (omega arith) (sym s.whole ∙ r.whole) in
    (h.0, append_cancel_left mark t u h.1)

module _ (b : BoundValue) where
  item_one : NumbersAreRead → length b.trace < 2 ^ 64 → (k j : ℕ) (ls : List (List ℕ)) (zs ws : List ℤ) → AllFit b k (awaited b) ls zs → AllFit b j (awaited b) ls ws → k ≡ j
  item_one read few k j [] zs ws f g = absurd f
  item_one read few k j (l ∷ ls) zs ws f g =
      decimal_one read k j (let w = f.3.0.can_cut.within in omega arith) (let w = g.3.0.can_cut.within in omega arith)
      (append_cancel_right (decimal k) (decimal j) (codes "\n") (append_cancel_left (codes "item ") (decimal k ++ codes "\n") (decimal j ++ codes "\n") (sym f.3.0.is ∙ g.3.0.is)))

  state_same : (s t : StateValue) → s.item ≡ t.item → s.vars ≡ t.vars → s.dats ≡ t.dats → s ≡ t
  state_same s t i v d =
      let p : record { item = s.item; vars = s.vars; dats = s.dats } ≡ record { item = t.item; vars = t.vars; dats = s.dats } = ap₂ (λ k z. record { item = k; vars = z; dats = s.dats }) i v in
      p ∙ ap (λ z. record { item = t.item; vars = t.vars; dats = z }) d

pub says_one_state : NumbersAreRead → SaysOneState
says_one_state read b bytes s t few x y =
    let texts = split_one bytes x.before y.before (all x.lines) (all y.lines) x.split y.split in
    let xs = flat s.vars ++ flat s.dats in
    let ys = flat t.vars ++ flat t.dats in
    let same = lines_one b s.item t.item (awaited b) x.lines y.lines xs ys [] [] x.fit y.fit (ap (λ (z : List ℕ). z ++ []) texts.1) in
    let item = item_one b read few s.item t.item x.lines xs ys x.fit (subst (λ (z : List (List ℕ)). AllFit b t.item (awaited b) z ys) (sym same.0) y.fit) in
    let vars = flats_same s.vars t.vars (flat s.dats) (flat t.dats) (x.shape.vars ∙ sym y.shape.vars) same.1 in
    let dats = flats_same s.dats t.dats [] [] (x.shape.dats ∙ sym y.shape.dats) (ap (λ (z : List ℤ). z ++ []) vars.1) in
    state_same b s t item vars.0 dats.0

pub says_not_both : SaysNotBoth
says_not_both b bytes s number line x y = ⊎_elim
    (λ (h : HasNoMark bytes × (number ≡ 1) × (line ≡ 1)). h.0 x.before (all x.lines) x.split.whole)
    (λ (h : IsBadLine b bytes number line). (
    let texts = split_one bytes x.before h.front (all x.lines) h.text x.split h.split in
    let r = h.among in
    let xs = flat s.vars ++ flat s.dats in
    passes_not b h.item (awaited b) h.text number h.before r s.item r.later x.lines xs [] (subst (λ (z : List Awaited). AllFit b s.item z x.lines xs) r.order x.fit)
    (sym texts.1 ∙ sym (append-nil (all x.lines)))
    (λ is. (awaited_ends b r.earlier r.later (r.order ∙ ap (λ z. r.earlier ++ z ∷ r.later) is), refl))))
    y

pub says_one_refusal : SaysOneRefusal
says_one_refusal b bytes m n l k x y = ⊎_elim
    (λ (h : HasNoMark bytes × (m ≡ 1) × (l ≡ 1)). ⊎_elim
    (λ (g : HasNoMark bytes × (n ≡ 1) × (k ≡ 1)). (h.1 ∙ sym g.1, h.2 ∙ sym g.2))
    (λ (g : IsBadLine b bytes n k). absurd (h.0 g.front g.text g.split.whole))
    y)
    (λ (h : IsBadLine b bytes m l). ⊎_elim
    (λ (g : HasNoMark bytes × (n ≡ 1) × (k ≡ 1)). absurd (g.0 h.front h.text h.split.whole))
    (λ (g : IsBadLine b bytes n k). (
    let texts = split_one bytes h.front g.front h.text g.text h.split g.split in
    let same = refused_once b h.item g.item (awaited b) (awaited_ends b) h.text m n h.before g.before h.among
    (subst (λ (z : List ℕ). RefusedAmong b g.item (awaited b) z n g.before) (sym texts.1) g.among) in
    (same.0, h.at ∙ (ap₂ (λ z w. lines_in z + (w + 3)) texts.0 same.1 ∙ sym g.at))))
    y)
    x
