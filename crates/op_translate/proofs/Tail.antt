-- A source with more lines behind it.
use Rattle.std.proofs.Common.{◌≡◌, ℕ, ◌≤◌, ◌<◌, Bool, true, false, cond, List, [], ◌∷◌, ◌++◌, length, inl, inr, ⊎_elim, refl, sym, ap, subst, ◌∙◌, append_assoc, append-nil, arith}
use Rattle.std.specs.Prelude.{codes}
use Rattle.std.proofs.lemmas.Bool.{cases_lt, eqb-true}
use Rattle.std.proofs.lemmas.List.{append_cancel_left}
use Rattle.c_tree.specs.declared.lexer.tokens.Kind.{Kind}
use Rattle.c_tree.specs.Spelling.{all_escaped, HasForm}
use Rattle.c_tree.specs.Lexed.{IsApart, IsPassed, AtEnd, Part, Passed, Spelled, bytes_of, all_bytes, IsPartBefore, is_fresh_behind, is_number_part, AreParts}
use Rattle.c_tree.proofs.Public.{begins, blank_begins}
use Rattle.op_translate.specs.Translation.{ends_line, line_end}
use Rattle.op_translate.proofs.Ahead.{front_of, beyond, lf_inside, part_kept}
use Rattle.op_translate.proofs.Patches.{Some, part_some}
use Rattle.op_translate.proofs.Lines.{line_parts, AllClean, lines_stand}

-- parts that stand whatever stands before them
abbrev pub StandAnywhere : List ℕ → List Part → Type 0
StandAnywhere bs xs = (fresh number : Bool) → AreParts AtEnd fresh number bs xs

apart_more : (s x y : List ℕ) → Some s → IsApart (s ++ x) → IsApart ((s ++ x) ++ y)
apart_more [] x y some h = absurd some
apart_more (b ∷ s) x y some h = h

-- ---- behind a source that ends within a line

grown : (xs : List Part) (fresh number : Bool) (bs t : List ℕ) (ts : List Part) → StandAnywhere (10 ∷ t) ts → AreParts AtEnd fresh number bs xs → AreParts AtEnd fresh number (bs ++ 10 ∷ t) (xs ++ ts)
grown [] fresh number bs t ts st a =
    subst (λ z. AreParts AtEnd fresh number (z ++ 10 ∷ t) ts) (sym a) (st fresh number)
grown (x ∷ xs) fresh number bs t ts st a =
    let rest : List ℕ = a.1.0 in
    let more : List ℕ = rest ++ 10 ∷ t in
    let row : bs ++ 10 ∷ t ≡ bytes_of x ++ more = ap (λ z. z ++ 10 ∷ t) a.1.1 ∙ append_assoc (bytes_of x) rest (10 ∷ t) in
    let stood : IsPartBefore fresh x (rest ++ []) = subst (IsPartBefore fresh x) (sym (append-nil rest)) a.1.2 in (
      (λ n. subst (λ z. IsApart (z ++ 10 ∷ t)) (sym a.1.1) (apart_more (bytes_of x) rest (10 ∷ t) (part_some fresh x rest a.1.2) (subst IsApart a.1.1 (a.0 n)))),
      (more, row, part_kept fresh x rest 10 [] t (inr refl) stood, grown xs (is_fresh_behind fresh x) (is_number_part x) rest t ts st a.1.3),
    )

-- ---- behind one that ends with a LF

last_same : (x y : List ℕ) (a b : ℕ) → x ++ a ∷ [] ≡ y ++ b ∷ [] → a ≡ b
last_same [] [] a b e = cc
last_same [] (c ∷ []) a b e = cc
last_same [] (c ∷ d ∷ y) a b e = cc
last_same (c ∷ []) [] a b e = cc
last_same (c ∷ d ∷ x) [] a b e = cc
last_same (c ∷ x) (d ∷ y) a b e = last_same x y a b (let q : x ++ a ∷ [] ≡ y ++ b ∷ [] = cc in q)

-- what ends with a LF is a blank
passed_last : (fresh : Bool) (s z rest : List ℕ) → s ≡ z ++ 10 ∷ [] → IsPassed fresh s rest → (t : List ℕ) → IsPassed fresh s t
passed_last fresh s z rest e (inl p) t = inl p
passed_last fresh s z rest e (inr (inl p)) t = absurd (p.ends.no_line_feed z [] e)
passed_last fresh s z rest e (inr (inr (inl p))) t = inr (inr (inl p))
passed_last fresh s z rest e (inr (inr (inr p))) t = absurd (p.ends.no_line_feed z [] e)

no_token : (k : Kind) (s z : List ℕ) → s ≡ z ++ 10 ∷ [] → HasForm k s → ⊥
no_token k s [] e h = blank_begins k 10 refl (begins k 10 [] (subst (HasForm k) e h))
no_token k s (b ∷ z) e h =
    let t = lf_inside k s (b ∷ z) [] e (omega arith) h in
    let row : (b ∷ z) ++ 10 ∷ [] ≡ (34 ∷ all_escaped t.0) ++ 34 ∷ [] = sym e ∙ t.1.0 in
    let same : 10 ≡ 34 = last_same (b ∷ z) (34 ∷ all_escaped t.0) 10 34 row in
    absurd (omega (arith, same))

last_part : (fresh : Bool) (x : Part) (z rest t : List ℕ) → bytes_of x ≡ z ++ 10 ∷ [] → IsPartBefore fresh x rest → IsPartBefore fresh x t
last_part fresh (Passed s) z rest t e h = passed_last fresh s z rest e h t
last_part fresh (Spelled k s) z rest t e h = absurd (no_token k s z e h.0.form)

no_parts : (fresh number : Bool) (xs ts : List Part) → AreParts AtEnd fresh number [] xs → xs ++ ts ≡ ts
no_parts fresh number [] ts a = refl
no_parts fresh number (x ∷ xs) ts a = absurd (none (bytes_of x) a.1.0 (part_some fresh x a.1.0 a.1.2) a.1.1)
  where
    none : (s rest : List ℕ) → Some s → [] ≡ s ++ rest → ⊥
    none [] rest some e = some
    none (b ∷ s) rest some e = cc

nothing_left : (s rest : List ℕ) → 10 ∷ [] ≡ 10 ∷ (s ++ rest) → (s ≡ []) × (rest ≡ [])
nothing_left [] rest e = (refl, cc)
nothing_left (b ∷ s) rest e = let q : ⊥ = cc in absurd q

grown_line : (xs : List Part) (fresh number : Bool) (z t : List ℕ) (ts : List Part) → StandAnywhere t ts
    → AreParts AtEnd fresh number (z ++ 10 ∷ []) xs → AreParts AtEnd fresh number (z ++ 10 ∷ t) (xs ++ ts)
grown_line [] fresh number z t ts st a = absurd (none z a)
  where
    none : (z : List ℕ) → z ++ 10 ∷ [] ≡ [] → ⊥
    none [] e = cc
    none (b ∷ z) e = cc
grown_line (x ∷ xs) fresh number z t ts st a =
    ⊎_elim
    (λ (l : length z < length (bytes_of x)).
    let b = beyond z (bytes_of x) 10 [] rest a.1.1 l in
    let end = nothing_left b.0 rest (append_cancel_left z (10 ∷ []) (10 ∷ (b.0 ++ rest)) (a.1.1 ∙ (ap (λ y. y ++ rest) b.1 ∙ append_assoc z (10 ∷ b.0) rest))) in
    let whole : bytes_of x ≡ z ++ 10 ∷ [] = b.1 ∙ ap (λ y. z ++ 10 ∷ y) end.0 in
    let left : xs ++ ts ≡ ts = no_parts (is_fresh_behind fresh x) (is_number_part x) xs ts (subst (λ y. AreParts AtEnd (is_fresh_behind fresh x) (is_number_part x) y xs) end.1 a.1.3) in
    let row : z ++ 10 ∷ t ≡ bytes_of x ++ t = sym (append_assoc z (10 ∷ []) t) ∙ ap (λ y. y ++ t) (sym whole) in
    let here : AreParts AtEnd fresh number (z ++ 10 ∷ t) (x ∷ ts) = (
      clear (bytes_of x) t row,
      (t, row, last_part fresh x z rest t whole a.1.2, st (is_fresh_behind fresh x) (is_number_part x)),
    ) in
    subst (λ y. AreParts AtEnd fresh number (z ++ 10 ∷ t) (x ∷ y)) (sym left) here)
    (λ (l : length (bytes_of x) ≤ length z).
    let q = front_of z (bytes_of x) (10 ∷ []) rest a.1.1 l in
    let same : rest ≡ q.0 ++ 10 ∷ [] =
    sym (append_cancel_left (bytes_of x) (q.0 ++ 10 ∷ []) rest (sym (append_assoc (bytes_of x) q.0 (10 ∷ [])) ∙ (ap (λ y. y ++ 10 ∷ []) (sym q.1) ∙ a.1.1))) in
    let more : List ℕ = q.0 ++ 10 ∷ t in
    let row : z ++ 10 ∷ t ≡ bytes_of x ++ more = ap (λ y. y ++ 10 ∷ t) q.1 ∙ append_assoc (bytes_of x) q.0 (10 ∷ t) in (
      clear (bytes_of x) more row,
      (
        more,
        row,
        part_kept fresh x q.0 10 (10 ∷ []) t (inr refl) (subst (IsPartBefore fresh x) same a.1.2),
        grown_line xs (is_fresh_behind fresh x) (is_number_part x) q.0 t ts st (subst (λ y. AreParts AtEnd (is_fresh_behind fresh x) (is_number_part x) y xs) same a.1.3),
      ),
    ))
    (cases_lt (length z) (length (bytes_of x)))
  where
    rest : List ℕ
    rest = a.1.0

    apart_as : (s u v : List ℕ) → Some s → IsApart (s ++ u) → IsApart (s ++ v)
    apart_as [] u v some h = absurd some
    apart_as (b ∷ s) u v some h = h

    clear : (s v : List ℕ) → z ++ 10 ∷ t ≡ bytes_of x ++ v → number ≡ true → IsApart (z ++ 10 ∷ t)
    clear s v row n = subst IsApart (sym row) (apart_as (bytes_of x) rest v (part_some fresh x rest a.1.2) (subst IsApart a.1.1 (a.0 n)))

-- ---- either

-- a source ends with a LF or within a line
record EndsLf (bytes : List ℕ) : Type 0 where
  pub front : List ℕ
  pub is : bytes ≡ front ++ 10 ∷ []

last_lf : (bytes : List ℕ) → ends_line bytes ≡ true → EndsLf bytes
last_lf [] e = let q : ⊥ = cc in absurd q
last_lf (b ∷ []) e = record { front = []; is = ap (λ z. z ∷ []) (eqb-true b 10 e) }
last_lf (b ∷ c ∷ bs) e = let r = last_lf (c ∷ bs) e in record { front = b ∷ r.front; is = ap (λ z. b ∷ z) r.is }

-- no token is among the parts
abbrev pub NoTokens : List Part → Type 0
NoTokens [] = Unit {0}
NoTokens (Passed s ∷ ps) = NoTokens ps
NoTokens (Spelled k s ∷ ps) = ⊥

lines_passed : (ls : List (List ℕ)) → NoTokens (line_parts ls)
lines_passed [] = tt
lines_passed (l ∷ ls) = lines_passed ls

-- a source, its last LF and a table are one list of parts
pub record Grows (bytes table : List ℕ) (xs : List Part) : Type 0 where
  pub more : List Part
  pub bytes_are : all_bytes more ≡ line_end bytes ++ table
  pub are : AreParts AtEnd true false (bytes ++ (line_end bytes ++ table)) (xs ++ more)
  pub passed : NoTokens more

pub grows : (bytes : List ℕ) (ls : List (List ℕ)) (xs : List Part) → AllClean ls → AreParts AtEnd true false bytes xs → Grows bytes (all_bytes (line_parts ls)) xs
grows bytes ls xs clean a = by_end (ends_line bytes) refl
  where
    table : List ℕ
    table = all_bytes (line_parts ls)

    feed : List Part
    feed = Passed (codes "\n") ∷ line_parts ls

    feed_stands : StandAnywhere (10 ∷ table) feed
    feed_stands fresh number = (
      (λ n. refl),
      (table, refl, inl (record { byte = 10; cut = refl; blank = refl }), lines_stand ls (is_fresh_behind fresh (Passed (codes "\n"))) false clean),
    )

    by_end : (t : Bool) → ends_line bytes ≡ t → Grows bytes table xs
    by_end false e =
        let same : line_end bytes ≡ 10 ∷ [] = ap (λ t. cond t [] (codes "\n")) e in
        record {
          more = feed;
          bytes_are = ap (λ z. z ++ table) (sym same);
          are = subst (λ z. AreParts AtEnd true false (bytes ++ (z ++ table)) (xs ++ feed)) (sym same) (grown xs true false bytes table feed feed_stands a);
          passed = lines_passed ls;
        }
    by_end true e =
        let r = last_lf bytes e in
        let same : line_end bytes ≡ [] = ap (λ t. cond t [] (codes "\n")) e in
        let row : r.front ++ 10 ∷ table ≡ bytes ++ (line_end bytes ++ table) =
        sym (append_assoc r.front (10 ∷ []) table) ∙ (ap (λ z. z ++ table) (sym r.is) ∙ ap (λ z. bytes ++ (z ++ table)) (sym same)) in
        record {
          more = line_parts ls;
          bytes_are = ap (λ z. z ++ table) (sym same);
          are = subst (λ z. AreParts AtEnd true false z (xs ++ line_parts ls)) row
              (grown_line xs true false r.front table (line_parts ls) (λ fresh number. lines_stand ls fresh number clean)
              (subst (λ z. AreParts AtEnd true false z xs) r.is a));
          passed = lines_passed ls;
        }
