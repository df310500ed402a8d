-- Each line is the one awaited, or isn't.
use Rattle.std.proofs.Common.{◌≡◌, ℕ, ℤ, zero, suc, ◌+◌, ◌<◌, ◌≤◌, refl, sym, ap, subst, ◌∙◌, arith, ⊎_elim, inl, inr, List, [], ◌∷◌, ◌++◌, length, take, drop, Bool, true, false, Result, Ok, Err, nat_eq}
use Rattle.std.specs.Prelude.{◌⊎◌}
use Rattle.std.specs.Str.{bytes_eq}
use Rattle.std.proofs.lemmas.Bool.{cases_Bool, cases_eq, eqb-true, false≢true}
use Rattle.std.proofs.lemmas.List.{take-append-drop}
use Rattle.std.proofs.Math.Dec.{eqb-suc-zero}
use Rattle.std.proofs.Math.Seq.{take-append_seam}
use Rattle.op_num.specs.Spelling.{integer_of, i32_judged}
use Rattle.op_num.specs.declared.refusals.NumRefusal.{NumRefusal}
use Rattle.op_num.specs.CutLines.{is_lf, HasNoLf, Unread, IsTaken, words}
use Rattle.op_num.proofs.Public.{joined}
use Rattle.bound_program.specs.Values.{BoundValue}
use Rattle.run_model.specs.Programs.{item_at}
use Rattle.checkpoint.specs.Cut.{is_merging}
use Rattle.checkpoint.specs.Reading.{mark, IsSplit, HasNoMark, Awaited, Item, Exactly, Values, Done, Spell, HasValues, item_line, IsItem, Refuses}
use Rattle.checkpoint.specs.Judged.{FitsAmong, RefusedAt}
use Rattle.checkpoint.proofs.state_texts.Judging.{fits_none, fits_one, fits_append, refused_here, at_first, at_then}
use Rattle.checkpoint.proofs.state_texts.Words.{no_lf_nil, no_lf_cons, words_row, spell_one}
use Rattle.checkpoint.proofs.state_texts.OneLine.{no_line, first_line, lf_behind, values_line, item_is_line}
use Rattle.checkpoint.proofs.state_texts.Telling.{words_are, told_empty}
use Rattle.lemmas.proofs.Lists.{bytes_eq_from, bytes_eq_same, tail_same}

-- ---- bytes

pub bytes_dec : (xs ys : List ℕ) → (xs ≡ ys) ⊎ (xs ≡ ys → ⊥)
bytes_dec xs ys = ⊎_elim
    (λ (t : bytes_eq xs ys ≡ true). inl (bytes_eq_same xs ys t))
    (λ (f : bytes_eq xs ys ≡ false). inr (λ e. false≢true (sym f ∙ bytes_eq_from xs ys e)))
    (cases_Bool (bytes_eq xs ys))

-- the first line, where there is one
record Cut (rest : List ℕ) : Type 0 where
  front : List ℕ
  more : List ℕ
  no_lf : HasNoLf front
  whole : rest ≡ front ++ 10 ∷ more

first_cut : (rest : List ℕ) → Cut rest ⊎ HasNoLf rest
first_cut [] = inr no_lf_nil
first_cut (c ∷ cs) = by (is_lf c) refl (first_cut cs)
  where
    at : (t : Bool) → is_lf c ≡ t → t ≡ true → c ≡ 10
    at t e h = let n : nat_eq c 10 ≡ true = e ∙ h in eqb-true c 10 n

    by : (t : Bool) → is_lf c ≡ t → Cut cs ⊎ HasNoLf cs → Cut (c ∷ cs) ⊎ HasNoLf (c ∷ cs)
    by true e r = inl (record { front = []; more = cs; no_lf = no_lf_nil; whole = ap (λ z. z ∷ cs) (at true e refl) })
    by false e (inl r) = inl (record { front = c ∷ r.front; more = r.more; no_lf = no_lf_cons c r.front e r.no_lf; whole = ap (λ z. c ∷ z) r.whole })
    by false e (inr h) = inr (no_lf_cons c cs e h)

-- ---- values

spells : (ws : List (List ℕ)) → ((zs : List ℤ) × Spell ws zs) ⊎ ((zs : List ℤ) → Spell ws zs → ⊥)
spells [] = inl ([], tt)
spells (w ∷ ws) = by (i32_judged (integer_of w)) refl (spells ws)
  where
    by : (r : Result ℤ NumRefusal) → i32_judged (integer_of w) ≡ r → ((zs : List ℤ) × Spell ws zs) ⊎ ((zs : List ℤ) → Spell ws zs → ⊥)
        → ((zs : List ℤ) × Spell (w ∷ ws) zs) ⊎ ((zs : List ℤ) → Spell (w ∷ ws) zs → ⊥)
    by (Err n) e s = inr (λ zs. wrong n e zs)
      where
        wrong : (n : NumRefusal) → i32_judged (integer_of w) ≡ Err n → (zs : List ℤ) → Spell (w ∷ ws) zs → ⊥
        wrong n e [] h = h
        wrong n e (z ∷ zs) h = let a = h.0 in cc
    by (Ok z) e (inl s) = inl (z ∷ s.0, (e, s.1))
    by (Ok z) e (inr n) = inr (λ zs. other n zs)
      where
        other : ((zs : List ℤ) → Spell ws zs → ⊥) → (zs : List ℤ) → Spell (w ∷ ws) zs → ⊥
        other n [] h = h
        other n (y ∷ ys) h = n ys h.1

abbrev HasSome : ℕ → List ℕ → Type 0
HasSome n front = ((zs : List ℤ) × HasValues n (front ++ 10 ∷ []) zs) ⊎ ((zs : List ℤ) → HasValues n (front ++ 10 ∷ []) zs → ⊥)

values_dec : (n : ℕ) (front : List ℕ) → HasSome n front
values_dec zero [] = inl ([], record { words = []; spell = tt; is = refl; count = refl })
values_dec zero (c ∷ cs) = inr (told_empty (c ∷ cs) [] false (sym (eqb-suc-zero (length cs))) 0 refl)
values_dec (suc n) front = by (spells (words front))
  where
    counted : (zs : List ℤ) → Spell (words front) zs → (length zs ≡ suc n) ⊎ (length zs ≡ suc n → ⊥) → HasSome (suc n) front
    counted zs s (inl e) = inl (zs, record { words = words front; spell = s; is = ap (λ z. z ++ 10 ∷ []) (sym (joined front)) ∙ sym (words_row (words front)); count = e })
    counted zs s (inr ne) = inr (λ ys h. ne
        (ap length (spell_one (words front) zs ys s
        (subst (λ (z : List (List ℕ)). Spell z ys) (sym (words_are (suc n) front ys h (omega arith))) h.spell)) ∙ h.count))

    by : ((zs : List ℤ) × Spell (words front) zs) ⊎ ((zs : List ℤ) → Spell (words front) zs → ⊥) → HasSome (suc n) front
    by (inl s) = counted s.0 s.1 (cases_eq (length s.0) (suc n))
    by (inr no_spell) = inr (λ ys h. no_spell ys (subst (λ (z : List (List ℕ)). Spell z ys) (sym (words_are (suc n) front ys h (omega arith))) h.spell))

-- ---- one line after another

-- neither the item nor the end
abbrev pub AreInner : List Awaited → Type 0
AreInner [] = Unit {0}
AreInner (Item ∷ xs) = ⊥
AreInner (Exactly l ∷ xs) = AreInner xs
AreInner (Values n ∷ xs) = AreInner xs
AreInner (Done ∷ xs) = ⊥

module _ (b : BoundValue) (k : ℕ) where
  -- these lines are taken, or one of them is refused
  abbrev pub Answer : List Awaited → Unread → Type 0
  Answer xs u = ((v : Unread) × (zs : List ℤ) × FitsAmong b k xs u v zs) ⊎ ((number : ℕ) × (line : ℕ) × RefusedAt b k xs u number line)

  abbrev next : Unread → List ℕ → Unread
  next u more = record { taken = u.taken + 1; rest = more }

  refused : (x : Awaited) (u : Unread) (number : ℕ) → Refuses b x u.rest number → Answer (x ∷ []) u
  refused x u number r = inr (number, u.taken + 1, (0, (let e : u.taken + 1 ≡ u.taken + suc 0 = omega arith in e), refused_here b k x u number r))

  taken : (u : Unread) (c : Cut u.rest) → IsTaken u (next u c.more) (c.front ++ 10 ∷ [])
  taken u c = record { whole = c.whole ∙ sym (lf_behind c.front c.more); taken = refl }

  exactly_answer : (l : List ℕ) (u : Unread) → Answer (Exactly l ∷ []) u
  exactly_answer l u = ⊎_elim
      (λ (c : Cut u.rest). ⊎_elim
      (λ (e : c.front ++ 10 ∷ [] ≡ l). inl (next u c.more, [], fits_one b k (Exactly l) u (next u c.more) (c.front ++ 10 ∷ []) [] (taken u c) ((c.front, c.no_lf, refl), e, refl)))
      (λ (ne : c.front ++ 10 ∷ [] ≡ l → ⊥). refused (Exactly l) u 3 (refl, λ more i e. ne (sym (first_line c.front c.more l more c.no_lf i (sym c.whole ∙ e)).0)))
      (bytes_dec (c.front ++ 10 ∷ []) l))
      (λ (h : HasNoLf u.rest). refused (Exactly l) u 3 (refl, λ more i e. no_line u.rest l more h i e))
      (first_cut u.rest)

  values_answer : (n : ℕ) (u : Unread) → Answer (Values n ∷ []) u
  values_answer n u = ⊎_elim
      (λ (c : Cut u.rest). ⊎_elim
      (λ (s : (zs : List ℤ) × HasValues n (c.front ++ 10 ∷ []) zs). inl (next u c.more, s.0, fits_one b k (Values n) u (next u c.more) (c.front ++ 10 ∷ []) s.0 (taken u c) s.1))
      (λ (ne : (zs : List ℤ) → HasValues n (c.front ++ 10 ∷ []) zs → ⊥). refused (Values n) u 4 (
        refl,
        λ line more zs h e. ne zs (subst (λ (z : List ℕ). HasValues n z zs) (first_line c.front c.more line more c.no_lf (values_line n line zs h) (sym c.whole ∙ e)).0 h),
      ))
      (values_dec n c.front))
      (λ (h : HasNoLf u.rest). refused (Values n) u 4 (refl, λ line more zs v e. no_line u.rest line more h (values_line n line zs v) e))
      (first_cut u.rest)

  -- and those behind them
  pub answer_append : (xs ys : List Awaited) (u : Unread) → Answer xs u → ((v : Unread) → Answer ys v) → Answer (xs ++ ys) u
  answer_append xs ys u (inr r) g = inr (r.0, r.1, at_first b k xs ys u r.0 r.1 r.2)
  answer_append xs ys u (inl f) g = by (g f.0)
    where
      by : Answer ys f.0 → Answer (xs ++ ys) u
      by (inl h) = inl (h.0, f.1 ++ h.1, fits_append b k xs ys u f.0 h.0 f.1 h.1 f.2 h.2)
      by (inr r) = inr (r.0, r.1, at_then b k xs ys u f.0 f.1 r.0 r.1 f.2 r.2)

  pub inner_answer : (xs : List Awaited) (u : Unread) → AreInner xs → Answer xs u
  inner_answer [] u h = inl (u, [], fits_none b k u)
  inner_answer (Item ∷ xs) u h = absurd h
  inner_answer (Done ∷ xs) u h = absurd h
  inner_answer (Exactly l ∷ xs) u h = answer_append (Exactly l ∷ []) xs u (exactly_answer l u) (λ v. inner_answer xs v h)
  inner_answer (Values n ∷ xs) u h = answer_append (Values n ∷ []) xs u (values_answer n u) (λ v. inner_answer xs v h)

-- ---- the item

module _ (b : BoundValue) where
  abbrev IsFound : ℕ → List ℕ → Type 0
  IsFound m line = ((k : ℕ) × IsItem b k line) ⊎ ((k : ℕ) → k < m → IsItem b k line → ⊥)

  item_dec : (k : ℕ) (line : List ℕ) → k ≤ length b.trace → IsItem b k line ⊎ (IsItem b k line → ⊥)
  item_dec k line le = ⊎_elim
      (λ (t : is_merging (item_at b k) ≡ true). inr (λ (i : IsItem b k line). false≢true (sym i.can_cut.whole ∙ t)))
      (λ (f : is_merging (item_at b k) ≡ false). ⊎_elim
      (λ (e : line ≡ item_line k). inl (record { can_cut = record { within = le; whole = f }; is = e }))
      (λ (ne : line ≡ item_line k → ⊥). inr (λ (i : IsItem b k line). ne i.is))
      (bytes_dec line (item_line k)))
      (cases_Bool (is_merging (item_at b k)))

  find_item : (m : ℕ) (line : List ℕ) → m ≤ suc (length b.trace) → IsFound m line
  find_item zero line le = inr (λ k l i. (let n : k < 0 = l in omega arith))
  find_item (suc m) line le = by (find_item m line (omega arith)) (item_dec m line (omega arith))
    where
      by : IsFound m line → IsItem b m line ⊎ (IsItem b m line → ⊥) → IsFound (suc m) line
      by (inl f) d = inl f
      by (inr n) (inl i) = inl (m, i)
      by (inr n) (inr o) = inr (λ k l i. ⊎_elim
          (λ (e : k ≡ m). o (subst (λ (z : ℕ). IsItem b z line) e i))
          (λ (ne : k ≡ m → ⊥). n k (omega arith) i)
          (cases_eq k m))

  -- its line, or none
  pub item_answer : (u : Unread) → ((k : ℕ) × (v : Unread) × FitsAmong b k (Item ∷ []) u v []) ⊎ Refuses b Item u.rest 2
  item_answer u = ⊎_elim
      (λ (c : Cut u.rest). ⊎_elim
      (λ (i : (k : ℕ) × IsItem b k (c.front ++ 10 ∷ [])). inl (i.0, next b i.0 u c.more, fits_one b i.0 Item u (next b i.0 u c.more) (c.front ++ 10 ∷ []) [] (taken b i.0 u c) (i.1, refl)))
      (λ (n : (k : ℕ) → k < suc (length b.trace) → IsItem b k (c.front ++ 10 ∷ []) → ⊥). inr (
        refl,
        λ k line more i e. n k (let l = i.can_cut.within in omega arith)
            (subst (IsItem b k) (first_line c.front c.more line more c.no_lf (item_is_line k line i.is) (sym c.whole ∙ e)).0 i),
      ))
      (find_item (suc (length b.trace)) (c.front ++ 10 ∷ []) (omega arith)))
      (λ (h : HasNoLf u.rest). inr (refl, λ k line more i e. no_line u.rest line more h (item_is_line k line i.is) e))
      (first_cut u.rest)

-- ---- the mark

abbrev pub Marked : List ℕ → Type 0
Marked bytes = ((front : List ℕ) × (text : List ℕ) × IsSplit bytes front text) ⊎ HasNoMark bytes

pub mark_dec : (bytes : List ℕ) → Marked bytes
mark_dec [] = inr none
  where
    none : HasNoMark []
    none [] y e = let n : 0 ≡ suc (length (drop 1 (mark ++ y))) = ap length e in omega arith
    none (c ∷ x) y e = let n : 0 ≡ suc (length (x ++ (mark ++ y))) = ap length e in omega arith
mark_dec (c ∷ cs) = by (mark_dec cs) (bytes_dec (take 12 (c ∷ cs)) mark)
  where
    later : (front text : List ℕ) → IsSplit cs front text → (x y : List ℕ) → c ∷ cs ≡ x ++ (mark ++ y) → length x ≤ length (c ∷ front)
    later front text s [] y e = omega arith
    later front text s (d ∷ x) y e = let l = s.last x y (tail_same c d cs (x ++ (mark ++ y)) e) in omega arith

    first : HasNoMark cs → (x y : List ℕ) → c ∷ cs ≡ x ++ (mark ++ y) → length x ≤ 0
    first n [] y e = omega arith
    first n (d ∷ x) y e = absurd (n x y (tail_same c d cs (x ++ (mark ++ y)) e))

    none : HasNoMark cs → (take 12 (c ∷ cs) ≡ mark → ⊥) → HasNoMark (c ∷ cs)
    none n o [] y e = o (ap (take 12) e ∙ take-append_seam mark y)
    none n o (d ∷ x) y e = n x y (tail_same c d cs (x ++ (mark ++ y)) e)

    by : Marked cs → (take 12 (c ∷ cs) ≡ mark) ⊎ (take 12 (c ∷ cs) ≡ mark → ⊥) → Marked (c ∷ cs)
    by (inl s) d = inl (c ∷ s.0, s.1, record { whole = ap (λ z. c ∷ z) s.2.whole; last = later s.0 s.1 s.2 })
    by (inr n) (inl e) = inl (
      [],
      drop 12 (c ∷ cs),
      record { whole = sym (take-append-drop 12 (c ∷ cs)) ∙ ap (λ z. z ++ drop 12 (c ∷ cs)) e; last = first n },
    )
    by (inr n) (inr o) = inr (none n o)
