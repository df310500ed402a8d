-- What can not stand at one place together.
use Rattle.std.proofs.Common.{◌≡◌, ◌≢◌, ℕ, ◌+◌, ◌≤◌, ◌<◌, Bool, true, false, List, [], ◌∷◌, ◌++◌, length, refl, sym, ap, subst, ◌∙◌, arith, nat_eq, append_assoc, ◌⊎◌, inl, inr, codes, pos}
use Rattle.std.specs.List.{list_all}
use Rattle.std.proofs.lemmas.Bool.Decides.{nat_tests}
use Rattle.c_tree.specs.declared.lexer.tokens.Kind.{Kind}
use Rattle.c_tree.specs.declared.lexer.tokens.Kind.TheVariants as kind
use Rattle.c_tree.specs.Spelling.{blank, letter, digit, value_of, IsFigure, textual, all_escaped, HasForm}
use Rattle.c_tree.specs.Lexed.{EndsLine, HasNoClose, IsPassed, IsLongest, FitsIn, is_closed, CannotGoOn, HasBadByte, BeginsNothing, IsTooLarge}
use Rattle.c_tree.proofs.lexer.Forms.{Begins, begins, not_empty, one_kind, text_begins, figure_head}
use Rattle.c_tree.proofs.lexer.Units.{units_one, unit_none, closed_through, nil_right}
use Rattle.c_tree.proofs.lexer.Longest.{text_row}
use Rattle.std.proofs.lemmas.Bool.{true≢false}

-- parts of one row of bytes that are equally long are the same
pub same_front : (s r s' r' : List ℕ) → s ++ r ≡ s' ++ r' → length s ≡ length s' → (s ≡ s') × (r ≡ r')
same_front [] r [] r' e l = (refl, e)
same_front [] r (y ∷ s') r' e l = absurd (omega arith)
same_front (x ∷ s) r [] r' e l = absurd (omega arith)
same_front (x ∷ s) r (y ∷ s') r' e l =
    let q = same_front s r s' r' (let z : s ++ r ≡ s' ++ r' = cc in z) (omega arith) in
    let first : x ≡ y = cc in
    (ap (λ z. z ∷ s) first ∙ ap (λ z. y ∷ z) q.0, q.1)

-- what is passed over begins with a blank, `/` or `#`
pub passed_begins : (fresh : Bool) (s rest : List ℕ) (b : ℕ) (bs : List ℕ) → IsPassed fresh s rest → b ∷ bs ≡ s ++ rest → (blank b ≡ true) ⊎ ((b ≡ 47) ⊎ (b ≡ 35))
passed_begins fresh s rest b bs (inl p) e =
    let row : b ∷ bs ≡ p.byte ∷ rest = e ∙ ap (λ z. z ++ rest) p.cut in
    let same : b ≡ p.byte = cc in
    inl (subst (λ z. blank z ≡ true) (sym same) p.blank)
passed_begins fresh s rest b bs (inr (inl p)) e =
    let row : b ∷ bs ≡ 47 ∷ 47 ∷ (p.body ++ rest) = e ∙ ap (λ z. z ++ rest) p.cut in
    inr (inl (let same : b ≡ 47 = cc in same))
passed_begins fresh s rest b bs (inr (inr (inl p))) e =
    let row : b ∷ bs ≡ 47 ∷ 42 ∷ ((p.body ++ codes "*/") ++ rest) = e ∙ ap (λ z. z ++ rest) p.cut in
    inr (inl (let same : b ≡ 47 = cc in same))
passed_begins fresh s rest b bs (inr (inr (inr p))) e =
    let row : b ∷ bs ≡ 35 ∷ (codes "include" ++ (p.body ++ rest)) = e ∙ ap (λ z. z ++ rest) p.cut in
    inr (inr (let same : b ≡ 35 = cc in same))

pub quote_passed : (b : ℕ) → b ≡ 34 → (blank b ≡ true) ⊎ ((b ≡ 47) ⊎ (b ≡ 35)) → ⊥
quote_passed b h (inl p) = let q : blank 34 ≡ true = subst (λ z. blank z ≡ true) h p in cc
quote_passed b h (inr (inl p)) = absurd (omega arith)
quote_passed b h (inr (inr p)) = absurd (omega arith)

pub digit_bounds : (b : ℕ) → digit b ≡ true → (48 ≤ b) × (b ≤ 57)
digit_bounds b h = grind (arith, nat_tests)

pub blank_bounds : (b : ℕ) → blank b ≡ true → b ≤ 32
blank_bounds b h = grind (arith, nat_tests)

pub letter_bounds : (b : ℕ) → letter b ≡ true → 65 ≤ b
letter_bounds b h = grind (arith, nat_tests)

pub digit_passed : (b : ℕ) → digit b ≡ true → (blank b ≡ true) ⊎ ((b ≡ 47) ⊎ (b ≡ 35)) → ⊥
digit_passed b h (inl p) = let r = digit_bounds b h in let q = blank_bounds b p in absurd (omega arith)
digit_passed b h (inr (inl p)) = let r = digit_bounds b h in absurd (omega arith)
digit_passed b h (inr (inr p)) = let r = digit_bounds b h in absurd (omega arith)

-- no token begins with a blank, and none with `#`
pub blank_begins : (k : Kind) (b : ℕ) → blank b ≡ true → Begins k b → ⊥
blank_begins (kind.Word w) b h g = let r = letter_bounds b g in let q = blank_bounds b h in absurd (omega arith)
blank_begins (kind.Name x) b h g = let r = letter_bounds b g in let q = blank_bounds b h in absurd (omega arith)
blank_begins (kind.Number z) b h g = let r = digit_bounds b g in let q = blank_bounds b h in absurd (omega arith)
blank_begins (kind.Text t) b h g = let q = blank_bounds b h in absurd (omega arith)
blank_begins (kind.Sign s) b h g = true≢false (sym h ∙ g.0.no_blank)

pub hash_begins : (k : Kind) (b : ℕ) → b ≡ 35 → Begins k b → ⊥
hash_begins (kind.Word w) b h g = let r = letter_bounds b g in absurd (omega arith)
hash_begins (kind.Name x) b h g = let r = letter_bounds b g in absurd (omega arith)
hash_begins (kind.Number z) b h g = let r = digit_bounds b g in absurd (omega arith)
hash_begins (kind.Text t) b h g = absurd (omega arith)
hash_begins (kind.Sign s) b h g = let q : nat_eq 35 35 ≡ false = subst (λ z. nat_eq z 35 ≡ false) h g.1 in cc

pub form_begins : (k : Kind) (s rest : List ℕ) (b : ℕ) (bs : List ℕ) → HasForm k s → b ∷ bs ≡ s ++ rest → Begins k b
form_begins k [] rest b bs f e = absurd (not_empty k f)
form_begins k (c ∷ s) rest b bs f e = let same : b ≡ c = cc in subst (Begins k) (sym same) (begins k c s f)

-- what is passed over is no token
pub passed_token : (fresh : Bool) (s rest : List ℕ) (k : Kind) (s' rest' : List ℕ) → IsPassed fresh s rest → IsLongest k s' rest' → s ++ rest ≡ s' ++ rest' → ⊥
passed_token fresh s rest k s' rest' (inl p) t e =
    let row : p.byte ∷ rest ≡ s' ++ rest' = sym (ap (λ z. z ++ rest) p.cut) ∙ e in
    blank_begins k p.byte p.blank (form_begins k s' rest' p.byte rest t.form row)
passed_token fresh s rest k s' rest' (inr (inl p)) t e =
    t.no_comment.0 (p.body ++ rest) (sym e ∙ ap (λ z. z ++ rest) p.cut)
passed_token fresh s rest k s' rest' (inr (inr (inl p))) t e =
    t.no_comment.1 ((p.body ++ codes "*/") ++ rest) (sym e ∙ ap (λ z. z ++ rest) p.cut)
passed_token fresh s rest k s' rest' (inr (inr (inr p))) t e =
    let row : 35 ∷ (codes "include" ++ (p.body ++ rest)) ≡ s' ++ rest' = sym (ap (λ z. z ++ rest) p.cut) ∙ e in
    hash_begins k 35 refl (form_begins k s' rest' 35 (codes "include" ++ (p.body ++ rest)) t.form row)

pub blank_slash : (b : ℕ) (x y : List ℕ) → blank b ≡ true → b ∷ x ≡ 47 ∷ y → ⊥
blank_slash b x y h e =
    let same : b ≡ 47 = cc in
    let r = blank_bounds b h in absurd (omega arith)

pub two_comments : (x y : List ℕ) → 47 ∷ 47 ∷ x ≡ 47 ∷ 42 ∷ y → ⊥
two_comments x y e = let q : ◌≡◌ {A = ℕ} 47 42 = cc in absurd (omega arith)

pub hash_slash : (x y : List ℕ) → 35 ∷ x ≡ 47 ∷ y → ⊥
hash_slash x y e = let q : ◌≡◌ {A = ℕ} 35 47 = cc in absurd (omega arith)

pub comment_tail : (x y : List ℕ) → 47 ∷ 42 ∷ x ≡ 47 ∷ 42 ∷ y → x ≡ y
comment_tail x y e = cc

pub passed_open : (fresh : Bool) (s rest x : List ℕ) → IsPassed fresh s rest → s ++ rest ≡ 47 ∷ 42 ∷ x → HasNoClose x → ⊥
passed_open fresh s rest x (inl p) e h =
    blank_slash p.byte rest (42 ∷ x) p.blank (sym (ap (λ z. z ++ rest) p.cut) ∙ e)
passed_open fresh s rest x (inr (inl p)) e h =
    two_comments (p.body ++ rest) x (sym (ap (λ z. z ++ rest) p.cut) ∙ e)
passed_open fresh s rest x (inr (inr (inl p))) e h =
    let tail = comment_tail ((p.body ++ codes "*/") ++ rest) x (sym (ap (λ z. z ++ rest) p.cut) ∙ e) in
    h p.body rest (sym tail ∙ append_assoc p.body (codes "*/") rest)
passed_open fresh s rest x (inr (inr (inr p))) e h =
    hash_slash (codes "include" ++ (p.body ++ rest)) (42 ∷ x) (sym (ap (λ z. z ++ rest) p.cut) ∙ e)

-- lines end at one place
pub line_one : (s r s' r' : List ℕ) → EndsLine s r → EndsLine s' r' → s ++ r ≡ s' ++ r' → s ≡ s'
line_one [] r [] r' a b e = refl
line_one [] r (y ∷ s') r' a b e =
    let feed = a.ended y (s' ++ r') e in
    absurd (b.no_line_feed [] s' (ap (λ z. z ∷ s') feed))
line_one (x ∷ s) r [] r' a b e =
    let feed = b.ended x (s ++ r) (sym e) in
    absurd (a.no_line_feed [] s (ap (λ z. z ∷ s) feed))
line_one (x ∷ s) r (y ∷ s') r' a b e =
    let first : x ≡ y = cc in
    let q = line_one s r s' r' (shorter x s r a) (shorter y s' r' b) (let z : s ++ r ≡ s' ++ r' = cc in z) in
    ap (λ z. z ∷ s) first ∙ ap (λ z. y ∷ z) q
  where
    shorter : (x : ℕ) (s r : List ℕ) → EndsLine (x ∷ s) r → EndsLine s r
    shorter x s r a = record {
      no_line_feed = λ p q e. a.no_line_feed (x ∷ p) q (ap (λ z. x ∷ z) e);
      ended = a.ended;
    }

-- a comment is closed at one place
pub close_one : (a r b q : List ℕ) → HasNoClose (a ++ codes "*") → HasNoClose (b ++ codes "*") → a ++ 42 ∷ 47 ∷ r ≡ b ++ 42 ∷ 47 ∷ q → a ≡ b
close_one [] r [] q h g e = refl
close_one [] r (y ∷ []) q h g e = cc
close_one [] r (y ∷ z ∷ b) q h g e =
    let first : y ≡ 42 = cc in
    let second : z ≡ 47 = cc in
    absurd (g [] (b ++ codes "*") (rw (first, second) refl))
close_one (x ∷ []) r [] q h g e = cc
close_one (x ∷ z ∷ a) r [] q h g e =
    let first : x ≡ 42 = cc in
    let second : z ≡ 47 = cc in
    absurd (h [] (a ++ codes "*") (rw (first, second) refl))
close_one (x ∷ a) r (y ∷ b) q h g e =
    let first : x ≡ y = cc in
    let rest = close_one a r b q (λ p t i. h (x ∷ p) t (ap (λ z. x ∷ z) i)) (λ p t i. g (y ∷ p) t (ap (λ z. y ∷ z) i)) (let z : a ++ 42 ∷ 47 ∷ r ≡ b ++ 42 ∷ 47 ∷ q = cc in z) in
    ap (λ z. z ∷ a) first ∙ ap (λ z. y ∷ z) rest

-- what is passed over is one row of bytes
pub passed_one : (fresh : Bool) (s r s' r' : List ℕ) → IsPassed fresh s r → IsPassed fresh s' r' → s ++ r ≡ s' ++ r' → s ≡ s'
passed_one fresh s r s' r' (inl p) (inl q) e =
    let row : p.byte ∷ r ≡ q.byte ∷ r' = sym (ap (λ z. z ++ r) p.cut) ∙ e ∙ ap (λ z. z ++ r') q.cut in
    let same : p.byte ≡ q.byte = cc in
    p.cut ∙ ap (λ z. z ∷ []) same ∙ sym q.cut
passed_one fresh s r s' r' (inl p) (inr (inl q)) e =
    let row : p.byte ∷ r ≡ 47 ∷ 47 ∷ (q.body ++ r') = sym (ap (λ z. z ++ r) p.cut) ∙ e ∙ ap (λ z. z ++ r') q.cut in
    let same : p.byte ≡ 47 = cc in let z : blank 47 ≡ true = subst (λ z. blank z ≡ true) same p.blank in cc
passed_one fresh s r s' r' (inl p) (inr (inr (inl q))) e =
    let row : p.byte ∷ r ≡ 47 ∷ 42 ∷ ((q.body ++ codes "*/") ++ r') = sym (ap (λ z. z ++ r) p.cut) ∙ e ∙ ap (λ z. z ++ r') q.cut in
    let same : p.byte ≡ 47 = cc in let z : blank 47 ≡ true = subst (λ z. blank z ≡ true) same p.blank in cc
passed_one fresh s r s' r' (inl p) (inr (inr (inr q))) e =
    let row : p.byte ∷ r ≡ 35 ∷ (codes "include" ++ (q.body ++ r')) = sym (ap (λ z. z ++ r) p.cut) ∙ e ∙ ap (λ z. z ++ r') q.cut in
    let same : p.byte ≡ 35 = cc in let z : blank 35 ≡ true = subst (λ z. blank z ≡ true) same p.blank in cc
passed_one fresh s r s' r' (inr (inl p)) (inl q) e =
    let row : 47 ∷ 47 ∷ (p.body ++ r) ≡ q.byte ∷ r' = sym (ap (λ z. z ++ r) p.cut) ∙ e ∙ ap (λ z. z ++ r') q.cut in
    let same : q.byte ≡ 47 = cc in let z : blank 47 ≡ true = subst (λ z. blank z ≡ true) same q.blank in cc
passed_one fresh s r s' r' (inr (inl p)) (inr (inl q)) e = line_one s r s' r' p.ends q.ends e
passed_one fresh s r s' r' (inr (inl p)) (inr (inr (inl q))) e =
    let row : 47 ∷ 47 ∷ (p.body ++ r) ≡ 47 ∷ 42 ∷ ((q.body ++ codes "*/") ++ r') = sym (ap (λ z. z ++ r) p.cut) ∙ e ∙ ap (λ z. z ++ r') q.cut in cc
passed_one fresh s r s' r' (inr (inl p)) (inr (inr (inr q))) e = line_one s r s' r' p.ends q.ends e
passed_one fresh s r s' r' (inr (inr (inl p))) (inl q) e =
    let row : 47 ∷ 42 ∷ ((p.body ++ codes "*/") ++ r) ≡ q.byte ∷ r' = sym (ap (λ z. z ++ r) p.cut) ∙ e ∙ ap (λ z. z ++ r') q.cut in
    let same : q.byte ≡ 47 = cc in let z : blank 47 ≡ true = subst (λ z. blank z ≡ true) same q.blank in cc
passed_one fresh s r s' r' (inr (inr (inl p))) (inr (inl q)) e =
    let row : 47 ∷ 42 ∷ ((p.body ++ codes "*/") ++ r) ≡ 47 ∷ 47 ∷ (q.body ++ r') = sym (ap (λ z. z ++ r) p.cut) ∙ e ∙ ap (λ z. z ++ r') q.cut in cc
passed_one fresh s r s' r' (inr (inr (inl p))) (inr (inr (inl q))) e =
    let row : 47 ∷ 42 ∷ ((p.body ++ codes "*/") ++ r) ≡ 47 ∷ 42 ∷ ((q.body ++ codes "*/") ++ r') = sym (ap (λ z. z ++ r) p.cut) ∙ e ∙ ap (λ z. z ++ r') q.cut in
    let tails : (p.body ++ codes "*/") ++ r ≡ (q.body ++ codes "*/") ++ r' = cc in
    let bodies = close_one p.body r q.body r' p.next q.next (sym (append_assoc p.body (codes "*/") r) ∙ tails ∙ append_assoc q.body (codes "*/") r') in
    p.cut ∙ ap (λ z. 47 ∷ 42 ∷ (z ++ codes "*/")) bodies ∙ sym q.cut
passed_one fresh s r s' r' (inr (inr (inl p))) (inr (inr (inr q))) e =
    let row : 47 ∷ 42 ∷ ((p.body ++ codes "*/") ++ r) ≡ 35 ∷ (codes "include" ++ (q.body ++ r')) = sym (ap (λ z. z ++ r) p.cut) ∙ e ∙ ap (λ z. z ++ r') q.cut in cc
passed_one fresh s r s' r' (inr (inr (inr p))) (inl q) e =
    let row : 35 ∷ (codes "include" ++ (p.body ++ r)) ≡ q.byte ∷ r' = sym (ap (λ z. z ++ r) p.cut) ∙ e ∙ ap (λ z. z ++ r') q.cut in
    let same : q.byte ≡ 35 = cc in let z : blank 35 ≡ true = subst (λ z. blank z ≡ true) same q.blank in cc
passed_one fresh s r s' r' (inr (inr (inr p))) (inr (inl q)) e = line_one s r s' r' p.ends q.ends e
passed_one fresh s r s' r' (inr (inr (inr p))) (inr (inr (inl q))) e =
    let row : 35 ∷ (codes "include" ++ (p.body ++ r)) ≡ 47 ∷ 42 ∷ ((q.body ++ codes "*/") ++ r') = sym (ap (λ z. z ++ r) p.cut) ∙ e ∙ ap (λ z. z ++ r') q.cut in cc
passed_one fresh s r s' r' (inr (inr (inr p))) (inr (inr (inr q))) e = line_one s r s' r' p.ends q.ends e

-- a form that is one of the longest at the front is the longest
pub longest_size : (k k' : Kind) (s r s' r' : List ℕ) → IsLongest k s r → IsLongest k' s' r' → s ++ r ≡ s' ++ r' → length s ≡ length s'
longest_size k k' s r s' r' a b e =
    let one = a.longest k' s' r' b.form e in
    let two = b.longest k s r a.form (sym e) in
    omega arith

pub kinds_one : (k k' : Kind) (s : List ℕ) → HasForm k s → HasForm k' s → k ≡ k'
kinds_one k k' [] f g = absurd (not_empty k f)
kinds_one k k' (b ∷ s) f g = one_kind k k' b s f g

-- a text at the front
pub token_text : (k : Kind) (s r rest : List ℕ) → HasForm k s → s ++ r ≡ 34 ∷ rest → (t : List ℕ) × (list_all textual t ≡ true) × (rest ≡ all_escaped t ++ 34 ∷ r)
token_text k s r rest f e =
    let t = text_begins k 34 refl (form_begins k s r 34 rest f (sym e)) s f in
    let row = sym e ∙ ap (λ z. z ++ r) t.1.0 ∙ text_row t.0 r in
    (t.0, t.1.1, let z : rest ≡ all_escaped t.0 ++ 34 ∷ r = cc in z)

pub bad_stops : (bs : List ℕ) → CannotGoOn bs → Rattle.c_tree.specs.Front.unit_of bs ≡ Rattle.std.proofs.Common.None
bad_stops bs h = unit_none bs (λ c more t e. h.no_unit c more t (e ∙ ap (λ z. z ++ more) (sym (nil_right (Rattle.c_tree.specs.Spelling.escaped c)))))

pub bad_row : (good bs : List ℕ) (b : HasBadByte good bs) → bs ≡ 34 ∷ (all_escaped b.text ++ b.rest)
bad_row good bs b = b.cut ∙ ap (λ z. z ++ b.rest) b.before

pub token_bad : (k : Kind) (s r good bs : List ℕ) → HasForm k s → HasBadByte good bs → bs ≡ s ++ r → ⊥
token_bad k s r good bs f b e =
    let t = token_text k s r (all_escaped b.text ++ b.rest) f (sym e ∙ bad_row good bs b) in
    let one = units_one b.text t.0 b.rest (34 ∷ r) b.held t.1 (bad_stops b.rest b.bad) refl t.2 in
    let row : b.bad.byte ∷ b.bad.rest ≡ 34 ∷ r = sym b.bad.front ∙ one.1 in
    b.bad.no_quote (let same : b.bad.byte ≡ 34 = cc in same)

pub token_open_text : (k : Kind) (s r rest : List ℕ) → HasForm k s → s ++ r ≡ 34 ∷ rest → is_closed rest ≡ false → ⊥
token_open_text k s r rest f e h =
    let t = token_text k s r rest f e in
    true≢false (sym (closed_through t.0 (34 ∷ r)) ∙ sym (ap is_closed t.2) ∙ h)

pub token_large : (k : Kind) (s r bs : List ℕ) → IsLongest k s r → FitsIn k s → IsTooLarge bs → bs ≡ s ++ r → ⊥
token_large k s r bs a f l e =
    let form : HasForm (kind.Number (pos (value_of l.figure))) l.figure = (l.form, refl) in
    let row = sym e ∙ l.cut in
    let one = a.longest (kind.Number (pos (value_of l.figure))) l.figure l.rest form row in
    let two = l.longest k s r a.form e in
    let same = same_front s r l.figure l.rest row (omega arith) in
    let kinds = kinds_one k (kind.Number (pos (value_of l.figure))) s a.form (subst (HasForm (kind.Number (pos (value_of l.figure)))) (sym same.0) form) in
    let fits : value_of s < 2147483648 = subst (λ z. FitsIn z s) kinds f in
    let same_value = ap value_of same.0 in
    let large = l.large in
    absurd (omega arith)

pub large_digit : (bs : List ℕ) → IsTooLarge bs → (b : ℕ) (rest : List ℕ) → bs ≡ b ∷ rest → digit b ≡ true
large_digit bs l b rest e = by_figure l.figure l.form (sym l.cut ∙ e)
  where
    by_figure : (f : List ℕ) → IsFigure f → f ++ l.rest ≡ b ∷ rest → digit b ≡ true
    by_figure [] h e = absurd h
    by_figure (c ∷ f) h e = let same : c ≡ b = cc in subst (λ z. digit z ≡ true) same (figure_head c f h)

pub large_nothing : (fresh : Bool) (bs : List ℕ) → IsTooLarge bs → BeginsNothing fresh bs → ⊥
large_nothing fresh bs l n = n.no_token (kind.Number (pos (value_of l.figure))) l.figure l.rest (l.form, refl) l.cut

pub large_other : (bs : List ℕ) → IsTooLarge bs → (b : ℕ) (rest : List ℕ) → bs ≡ b ∷ rest → digit b ≡ false → ⊥
large_other bs l b rest e h = true≢false (sym (large_digit bs l b rest e) ∙ h)

pub large_some : (bs : List ℕ) → IsTooLarge bs → bs ≢ []
large_some bs l e = by_figure l.figure l.form (sym l.cut ∙ e)
  where
    by_figure : (f : List ℕ) → IsFigure f → f ++ l.rest ≡ [] → ⊥
    by_figure [] h e = h
    by_figure (c ∷ f) h e = let z : ⊥ = cc in z

pub bad_one : (good good' bs : List ℕ) → HasBadByte good bs → HasBadByte good' bs → good ≡ good'
bad_one good good' bs a b =
    let row = sym (bad_row good bs a) ∙ bad_row good' bs b in
    let one = units_one a.text b.text a.rest b.rest a.held b.held (bad_stops a.rest a.bad) (bad_stops b.rest b.bad) (let z : all_escaped a.text ++ a.rest ≡ all_escaped b.text ++ b.rest = cc in z) in
    a.before ∙ ap (λ z. 34 ∷ all_escaped z) one.0 ∙ sym b.before

-- a bad byte isn't in a text that isn't closed
pub bad_open : (good bs rest : List ℕ) → HasBadByte good bs → bs ≡ 34 ∷ rest → is_closed rest ≡ false → ⊥
bad_open good bs rest b e h =
    let row = sym e ∙ bad_row good bs b in
    let same : rest ≡ all_escaped b.text ++ b.rest = cc in
    true≢false (sym b.closed ∙ sym (closed_through b.text b.rest) ∙ sym (ap is_closed same) ∙ h)
