-- A text is read in one way.
use Rattle.std.proofs.Common.{◌≡◌, ℕ, ℤ, zero, suc, refl, sym, ap, ap₂, subst, ◌∙◌, arith, List, [], ◌∷◌, ◌++◌, append_assoc, length, map}
use Rattle.bound_program.specs.Values.{BoundValue}
use Rattle.checkpoint.specs.Reading.{Awaited, Item, Exactly, Values, Done, IsLine, Spell, HasValues, all, LineFits, AllFit, Refuses}
use Rattle.checkpoint.proofs.state_texts.Words.{row, words_row, spell_one}
use Rattle.checkpoint.proofs.state_texts.OneLine.{one_first, fit_is_line}
use Rattle.checkpoint.proofs.state_texts.Telling.{words_are}
use Rattle.checkpoint.proofs.state_texts.VarLines.{flat}
use Rattle.lemmas.proofs.Lists.{fronts_same, head_same, tail_same}

-- ---- lists

-- lists of the same lengths, one after another
pub flats_same : (xs ys : List (List ℤ)) (more rest : List ℤ) → map length xs ≡ map length ys → flat xs ++ more ≡ flat ys ++ rest → (xs ≡ ys) × (more ≡ rest)
flats_same [] [] more rest l e = (refl, e)
flats_same [] (y ∷ ys) more rest l e = absurd (let n : 0 ≡ suc (length (map length ys)) = ap length l in omega arith)
flats_same (x ∷ xs) [] more rest l e = absurd (let n : suc (length (map length xs)) ≡ 0 = ap length l in omega arith)
flats_same (x ∷ xs) (y ∷ ys) more rest l e =
    let f = fronts_same x y (flat xs ++ more) (flat ys ++ rest) (head_same (length x) (length y) (map length xs) (map length ys) l)
    (sym (append_assoc x (flat xs) more) ∙ (e ∙ append_assoc y (flat ys) rest)) in
    let t = flats_same xs ys more rest (tail_same (length x) (length y) (map length xs) (map length ys) l) f.1 in
    (ap₂ (λ a r. a ∷ r) f.0 t.0, t.1)

-- where two parts of a list stand
pub data Order {X : Type 0} (e1 : List X) (x1 : X) (r1 : List X) (e2 : List X) (x2 : X) (r2 : List X) : Type 0 where
  Same : e1 ≡ e2 → x1 ≡ x2 → r1 ≡ r2 → Order e1 x1 r1 e2 x2 r2
  First : (m : List X) → e2 ≡ e1 ++ x1 ∷ m → r1 ≡ m ++ x2 ∷ r2 → Order e1 x1 r1 e2 x2 r2
  Second : (m : List X) → e1 ≡ e2 ++ x2 ∷ m → r2 ≡ m ++ x1 ∷ r1 → Order e1 x1 r1 e2 x2 r2

pub order_in : {X : Type 0} → (e1 : List X) (x1 : X) (r1 : List X) (e2 : List X) (x2 : X) (r2 : List X) → e1 ++ x1 ∷ r1 ≡ e2 ++ x2 ∷ r2 → Order e1 x1 r1 e2 x2 r2
order_in [] x1 r1 [] x2 r2 e = Same refl (head_same x1 x2 r1 r2 e) (tail_same x1 x2 r1 r2 e)
order_in [] x1 r1 (y ∷ e2) x2 r2 e = First e2 (ap (λ z. z ∷ e2) (sym (head_same x1 y r1 (e2 ++ x2 ∷ r2) e))) (tail_same x1 y r1 (e2 ++ x2 ∷ r2) e)
order_in (y ∷ e1) x1 r1 [] x2 r2 e = Second e1 (ap (λ z. z ∷ e1) (head_same y x2 (e1 ++ x1 ∷ r1) r2 e)) (sym (tail_same y x2 (e1 ++ x1 ∷ r1) r2 e))
order_in (y ∷ e1) x1 r1 (z ∷ e2) x2 r2 e =
    let h : y ≡ z = head_same y z (e1 ++ x1 ∷ r1) (e2 ++ x2 ∷ r2) e in
    elim (order_in e1 x1 r1 e2 x2 r2 (tail_same y z (e1 ++ x1 ∷ r1) (e2 ++ x2 ∷ r2) e)) [
      | Same a c d ↦ Same (ap₂ (λ v w. v ∷ w) h a) c d
      | First m a c ↦ First m (ap₂ (λ v w. v ∷ w) (sym h) a) c
      | Second m a c ↦ Second m (ap₂ (λ v w. v ∷ w) h a) c
    ]

-- ---- one line

values_one : (n : ℕ) (l : List ℕ) (zs ws : List ℤ) → HasValues n l zs → HasValues n l ws → zs ≡ ws
values_one zero l [] [] h g = refl
values_one zero l (z ∷ zs) ws h g = absurd (let e = h.count in omega arith)
values_one zero l [] (w ∷ ws) h g = absurd (let e = g.count in omega arith)
values_one (suc n) l zs ws h g =
    let front : l ≡ row h.words ++ 10 ∷ [] = h.is ∙ words_row h.words in
    let a = subst (λ (z : List ℕ). HasValues (suc n) z zs) front h in
    let c = subst (λ (z : List ℕ). HasValues (suc n) z ws) front g in
    spell_one a.words zs ws a.spell
    (subst (λ (z : List (List ℕ)). Spell z ws) (sym (words_are (suc n) (row h.words) ws c (omega arith)) ∙ words_are (suc n) (row h.words) zs a (omega arith)) c.spell)

module _ (b : BoundValue) where
  line_values : (k j : ℕ) (x : Awaited) (l : List ℕ) (zs ws : List ℤ) → LineFits b k x l zs → LineFits b j x l ws → zs ≡ ws
  line_values k j Item l zs ws f g = f.1 ∙ sym g.1
  line_values k j (Exactly m) l zs ws f g = f.2 ∙ sym g.2
  line_values k j (Values n) l zs ws f g = values_one n l zs ws f g
  line_values k j Done l zs ws f g = f.1 ∙ sym g.1

  -- lines that fit are the first of a text in one way
  pub lines_one : (k j : ℕ) (xs : List Awaited) (ls ms : List (List ℕ)) (zs ws : List ℤ) (rest more : List ℕ) → AllFit b k xs ls zs → AllFit b j xs ms ws → all ls ++ rest ≡ all ms ++ more
      → (ls ≡ ms) × (zs ≡ ws) × (rest ≡ more)
  lines_one k j [] [] [] zs ws rest more f g e = (refl, f ∙ sym g, e)
  lines_one k j [] [] (m ∷ ms) zs ws rest more f g e = absurd g
  lines_one k j [] (l ∷ ls) ms zs ws rest more f g e = absurd f
  lines_one k j (x ∷ xs) [] ms zs ws rest more f g e = absurd f
  lines_one k j (x ∷ xs) (l ∷ ls) [] zs ws rest more f g e = absurd g
  lines_one k j (x ∷ xs) (l ∷ ls) (m ∷ ms) zs ws rest more f g e =
      let h = one_first l (all ls ++ rest) m (all ms ++ more) (fit_is_line b k x l f.0 f.3) (fit_is_line b j x m g.0 g.3)
      (sym (append_assoc l (all ls) rest) ∙ (e ∙ append_assoc m (all ms) more)) in
      let t = lines_one k j xs ls ms f.1 g.1 rest more f.4 g.4 h.1 in
      let v = line_values k j x l f.0 g.0 f.3 (subst (λ (z : List ℕ). LineFits b j x z g.0) (sym h.0) g.3) in
      (ap₂ (λ a r. a ∷ r) h.0 t.0, f.2 ∙ (ap₂ (λ (a r : List ℤ). a ++ r) v t.1 ∙ sym g.2), t.2)

  -- ---- parts of lines

  pub record Parts (k : ℕ) (xs ys : List Awaited) (ls : List (List ℕ)) (zs : List ℤ) : Type 0 where
    pub first : List (List ℕ)
    pub later : List (List ℕ)
    pub lines : ls ≡ first ++ later
    pub some : List ℤ
    pub more : List ℤ
    pub values : zs ≡ some ++ more
    pub first_fit : AllFit b k xs first some
    pub later_fit : AllFit b k ys later more

  pub fit_parts : (k : ℕ) (xs ys : List Awaited) (ls : List (List ℕ)) (zs : List ℤ) → AllFit b k (xs ++ ys) ls zs → Parts k xs ys ls zs
  fit_parts k [] ys ls zs f = record { first = []; later = ls; lines = refl; some = []; more = zs; values = refl; first_fit = refl; later_fit = f }
  fit_parts k (x ∷ xs) ys [] zs f = absurd f
  fit_parts k (x ∷ xs) ys (l ∷ ls) zs f =
      let p = fit_parts k xs ys ls f.1 f.4 in
      record {
        first = l ∷ p.first;
        later = p.later;
        lines = ap (λ z. l ∷ z) p.lines;
        some = f.0 ++ p.some;
        more = p.more;
        values = f.2 ∙ (ap (λ (z : List ℤ). f.0 ++ z) p.values ∙ sym (append_assoc f.0 p.some p.more));
        first_fit = (f.0, p.some, refl, f.3, p.first_fit);
        later_fit = p.later_fit;
      }

  -- a line that fits isn't refused
  pub line_refused : (k : ℕ) (x : Awaited) (l more : List ℕ) (zs : List ℤ) (number : ℕ) → LineFits b k x l zs → Refuses b x (l ++ more) number → (x ≡ Done → more ≡ []) → ⊥
  line_refused k Item l more zs number f r last = r.1 k l more f.0 refl
  line_refused k (Exactly m) l more zs number f r last = r.1 more (subst IsLine f.1 f.0) (ap (λ (z : List ℕ). z ++ more) f.1)
  line_refused k (Values n) l more zs number f r last = r.1 l more zs f refl
  line_refused k Done l more zs number f r last = r.1 (ap₂ (λ (z w : List ℕ). z ++ w) f.0 (last refl))

  pub same_number : (x : Awaited) (rest : List ℕ) (m n : ℕ) → Refuses b x rest m → Refuses b x rest n → m ≡ n
  same_number Item rest m n f g = f.0 ∙ sym g.0
  same_number (Exactly l) rest m n f g = f.0 ∙ sym g.0
  same_number (Values c) rest m n f g = f.0 ∙ sym g.0
  same_number Done rest m n f g = f.0 ∙ sym g.0
