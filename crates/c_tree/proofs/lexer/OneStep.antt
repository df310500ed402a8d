-- What stands at a place is one thing.
use Rattle.std.proofs.Common.{◌≡◌, ◌≢◌, ℕ, Bool, false, List, [], ◌∷◌, ◌++◌, refl, sym, ap, subst, ◌∙◌, ◌⊎◌, inl, inr, codes}
use Rattle.c_tree.specs.declared.lexer.tokens.Kind.{Kind}
use Rattle.c_tree.specs.Spelling.{all_escaped, HasForm}
use Rattle.c_tree.specs.Lexed.{HasNoClose, IsPassed, is_closed, HasBadByte, BeginsNothing, IsTooLarge, Stop, AtEnd, AtBadByte, AtOpenComment, AtOpenText, AtNumberTooLarge, Part, Passed, Spelled, bytes_of, IsPartBefore}
use Rattle.c_tree.proofs.lexer.Forms.{not_empty}
use Rattle.c_tree.proofs.lexer.Apart.{same_front, passed_begins, quote_passed, digit_passed, passed_token, passed_open, passed_one, longest_size, kinds_one, bad_row, token_bad, token_open_text, token_large, large_digit, large_nothing, large_other, large_some, bad_one, bad_open}

-- a part, or a stop
pub data Step : Type 0 where
  Goes : Part → Step
  Ends : Stop → Step

-- what stands at a place, a number before it aside
abbrev pub IsStep : Bool → List ℕ → Step → Type 0
IsStep fresh bs (Goes x) = (rest : List ℕ) × (bs ≡ bytes_of x ++ rest) × IsPartBefore fresh x rest
IsStep fresh bs (Ends AtEnd) = bs ≡ []
IsStep fresh bs (Ends (AtBadByte good)) = ((good ≡ []) × BeginsNothing fresh bs) ⊎ HasBadByte good bs
IsStep fresh bs (Ends AtOpenComment) = (rest : List ℕ) × (bs ≡ codes "/*" ++ rest) × HasNoClose rest
IsStep fresh bs (Ends AtOpenText) = (rest : List ℕ) × (bs ≡ 34 ∷ rest) × (is_closed rest ≡ false)
IsStep fresh bs (Ends AtNumberTooLarge) = IsTooLarge bs

passed_some : (fresh : Bool) (s rest : List ℕ) → IsPassed fresh s rest → s ++ rest ≢ []
passed_some fresh s rest (inl p) e = let row : p.byte ∷ rest ≡ [] = sym (ap (λ z. z ++ rest) p.cut) ∙ e in let z : ⊥ = cc in z
passed_some fresh s rest (inr (inl p)) e = let row : 47 ∷ 47 ∷ (p.body ++ rest) ≡ [] = sym (ap (λ z. z ++ rest) p.cut) ∙ e in let z : ⊥ = cc in z
passed_some fresh s rest (inr (inr (inl p))) e = let row : 47 ∷ 42 ∷ ((p.body ++ codes "*/") ++ rest) ≡ [] = sym (ap (λ z. z ++ rest) p.cut) ∙ e in let z : ⊥ = cc in z
passed_some fresh s rest (inr (inr (inr p))) e = let row : 35 ∷ (codes "include" ++ (p.body ++ rest)) ≡ [] = sym (ap (λ z. z ++ rest) p.cut) ∙ e in let z : ⊥ = cc in z

form_not_nil : (k : Kind) (s rest : List ℕ) → HasForm k s → s ++ rest ≢ []
form_not_nil k [] rest f e = not_empty k f
form_not_nil k (b ∷ s) rest f e = let z : ⊥ = cc in z

nil_cons : (b : ℕ) (bs : List ℕ) → [] ≡ b ∷ bs → ⊥
nil_cons b bs e = let z : ⊥ = cc in z

slash_quote : (x y : List ℕ) → 47 ∷ x ≡ 34 ∷ y → ⊥
slash_quote x y e = let z : ⊥ = cc in z

large_passed : (fresh : Bool) (bs s rest : List ℕ) → IsTooLarge bs → IsPassed fresh s rest → bs ≡ s ++ rest → ⊥
large_passed fresh [] s rest l p e = large_some [] l refl
large_passed fresh (b ∷ bs) s rest l p e = digit_passed b (large_digit (b ∷ bs) l b bs refl) (passed_begins fresh s rest b bs p e)

passed-token : (fresh : Bool) (bs : List ℕ) (s : List ℕ) (k' : Kind) (s' : List ℕ) → IsStep fresh bs (Goes (Passed s)) → IsStep fresh bs (Goes (Spelled k' s')) → ⊥
passed-token fresh bs s k' s' a b = passed_token fresh s a.0 k' s' b.0 a.2 b.2.0 (sym a.1 ∙ b.1)

passed-end : (fresh : Bool) (bs : List ℕ) (s : List ℕ) → IsStep fresh bs (Goes (Passed s)) → IsStep fresh bs (Ends AtEnd) → ⊥
passed-end fresh bs s a b = passed_some fresh s a.0 a.2 (sym a.1 ∙ b)

passed-bad : (fresh : Bool) (bs : List ℕ) (s : List ℕ) (g' : List ℕ) → IsStep fresh bs (Goes (Passed s)) → IsStep fresh bs (Ends (AtBadByte g')) → ⊥
passed-bad fresh bs s g' a (inl n) = n.1.no_passed s a.0 a.2 a.1
passed-bad fresh bs s g' a (inr h) = quote_passed 34 refl (passed_begins fresh s a.0 34 (all_escaped h.text ++ h.rest) a.2 (sym (bad_row g' bs h) ∙ a.1))

passed-comment : (fresh : Bool) (bs : List ℕ) (s : List ℕ) → IsStep fresh bs (Goes (Passed s)) → IsStep fresh bs (Ends AtOpenComment) → ⊥
passed-comment fresh bs s a b = passed_open fresh s a.0 b.0 a.2 (sym a.1 ∙ b.1) b.2

passed-text : (fresh : Bool) (bs : List ℕ) (s : List ℕ) → IsStep fresh bs (Goes (Passed s)) → IsStep fresh bs (Ends AtOpenText) → ⊥
passed-text fresh bs s a b = quote_passed 34 refl (passed_begins fresh s a.0 34 b.0 a.2 (sym b.1 ∙ a.1))

passed-large : (fresh : Bool) (bs : List ℕ) (s : List ℕ) → IsStep fresh bs (Goes (Passed s)) → IsStep fresh bs (Ends AtNumberTooLarge) → ⊥
passed-large fresh bs s a b = large_passed fresh bs s a.0 b a.2 a.1

token-end : (fresh : Bool) (bs : List ℕ) (k : Kind) (s : List ℕ) → IsStep fresh bs (Goes (Spelled k s)) → IsStep fresh bs (Ends AtEnd) → ⊥
token-end fresh bs k s a b = form_not_nil k s a.0 a.2.0.form (sym a.1 ∙ b)

token-bad : (fresh : Bool) (bs : List ℕ) (k : Kind) (s : List ℕ) (g' : List ℕ) → IsStep fresh bs (Goes (Spelled k s)) → IsStep fresh bs (Ends (AtBadByte g')) → ⊥
token-bad fresh bs k s g' a (inl n) = n.1.no_token k s a.0 a.2.0.form a.1
token-bad fresh bs k s g' a (inr h) = token_bad k s a.0 g' bs a.2.0.form h a.1

token-comment : (fresh : Bool) (bs : List ℕ) (k : Kind) (s : List ℕ) → IsStep fresh bs (Goes (Spelled k s)) → IsStep fresh bs (Ends AtOpenComment) → ⊥
token-comment fresh bs k s a b = a.2.0.no_comment.1 b.0 (sym a.1 ∙ b.1)

token-text : (fresh : Bool) (bs : List ℕ) (k : Kind) (s : List ℕ) → IsStep fresh bs (Goes (Spelled k s)) → IsStep fresh bs (Ends AtOpenText) → ⊥
token-text fresh bs k s a b = token_open_text k s a.0 b.0 a.2.0.form (sym a.1 ∙ b.1) b.2

token-large : (fresh : Bool) (bs : List ℕ) (k : Kind) (s : List ℕ) → IsStep fresh bs (Goes (Spelled k s)) → IsStep fresh bs (Ends AtNumberTooLarge) → ⊥
token-large fresh bs k s a b = token_large k s a.0 bs a.2.0 a.2.1 b a.1

end-bad : (fresh : Bool) (bs : List ℕ) (g' : List ℕ) → IsStep fresh bs (Ends AtEnd) → IsStep fresh bs (Ends (AtBadByte g')) → ⊥
end-bad fresh bs g' a (inl n) = n.1.some a
end-bad fresh bs g' a (inr h) = nil_cons 34 (all_escaped h.text ++ h.rest) (sym a ∙ bad_row g' bs h)

end-comment : (fresh : Bool) (bs : List ℕ) → IsStep fresh bs (Ends AtEnd) → IsStep fresh bs (Ends AtOpenComment) → ⊥
end-comment fresh bs a b = nil_cons 47 (42 ∷ b.0) (sym a ∙ b.1)

end-text : (fresh : Bool) (bs : List ℕ) → IsStep fresh bs (Ends AtEnd) → IsStep fresh bs (Ends AtOpenText) → ⊥
end-text fresh bs a b = nil_cons 34 b.0 (sym a ∙ b.1)

end-large : (fresh : Bool) (bs : List ℕ) → IsStep fresh bs (Ends AtEnd) → IsStep fresh bs (Ends AtNumberTooLarge) → ⊥
end-large fresh bs a b = large_some bs b a

bad-comment : (fresh : Bool) (bs : List ℕ) (g : List ℕ) → IsStep fresh bs (Ends (AtBadByte g)) → IsStep fresh bs (Ends AtOpenComment) → ⊥
bad-comment fresh bs g (inl n) b = n.1.no_comment.1 b.0 b.1
bad-comment fresh bs g (inr h) b = slash_quote (42 ∷ b.0) (all_escaped h.text ++ h.rest) (sym b.1 ∙ bad_row g bs h)

bad-text : (fresh : Bool) (bs : List ℕ) (g : List ℕ) → IsStep fresh bs (Ends (AtBadByte g)) → IsStep fresh bs (Ends AtOpenText) → ⊥
bad-text fresh bs g (inl n) b = n.1.no_text b.0 b.1
bad-text fresh bs g (inr h) b = bad_open g bs b.0 h b.1 b.2

bad-large : (fresh : Bool) (bs : List ℕ) (g : List ℕ) → IsStep fresh bs (Ends (AtBadByte g)) → IsStep fresh bs (Ends AtNumberTooLarge) → ⊥
bad-large fresh bs g (inl n) b = large_nothing fresh bs b n.1
bad-large fresh bs g (inr h) b = large_other bs b 34 (all_escaped h.text ++ h.rest) (bad_row g bs h) refl

comment-text : (fresh : Bool) (bs : List ℕ) → IsStep fresh bs (Ends AtOpenComment) → IsStep fresh bs (Ends AtOpenText) → ⊥
comment-text fresh bs a b = slash_quote (42 ∷ a.0) b.0 (sym a.1 ∙ b.1)

comment-large : (fresh : Bool) (bs : List ℕ) → IsStep fresh bs (Ends AtOpenComment) → IsStep fresh bs (Ends AtNumberTooLarge) → ⊥
comment-large fresh bs a b = large_other bs b 47 (42 ∷ a.0) a.1 refl

text-large : (fresh : Bool) (bs : List ℕ) → IsStep fresh bs (Ends AtOpenText) → IsStep fresh bs (Ends AtNumberTooLarge) → ⊥
text-large fresh bs a b = large_other bs b 34 a.0 a.1 refl

bad-bad : (fresh : Bool) (bs g g' : List ℕ) → IsStep fresh bs (Ends (AtBadByte g)) → IsStep fresh bs (Ends (AtBadByte g')) → g ≡ g'
bad-bad fresh bs g g' (inl n) (inl m) = n.0 ∙ sym m.0
bad-bad fresh bs g g' (inl n) (inr h) = absurd (n.1.no_text (all_escaped h.text ++ h.rest) (bad_row g' bs h))
bad-bad fresh bs g g' (inr h) (inl n) = absurd (n.1.no_text (all_escaped h.text ++ h.rest) (bad_row g bs h))
bad-bad fresh bs g g' (inr h) (inr i) = bad_one g g' bs h i

-- What stands at a place is one thing.
pub one_step : (fresh : Bool) (bs : List ℕ) (x y : Step) → IsStep fresh bs x → IsStep fresh bs y → x ≡ y
one_step fresh bs (Goes (Passed s)) (Goes (Passed s')) a b = ap (λ z. Goes (Passed z)) (passed_one fresh s a.0 s' b.0 a.2 b.2 (sym a.1 ∙ b.1))
one_step fresh bs (Goes (Passed s)) (Goes (Spelled k' s')) a b = absurd (passed-token fresh bs s k' s' a b)
one_step fresh bs (Goes (Passed s)) (Ends AtEnd) a b = absurd (passed-end fresh bs s a b)
one_step fresh bs (Goes (Passed s)) (Ends (AtBadByte g')) a b = absurd (passed-bad fresh bs s g' a b)
one_step fresh bs (Goes (Passed s)) (Ends AtOpenComment) a b = absurd (passed-comment fresh bs s a b)
one_step fresh bs (Goes (Passed s)) (Ends AtOpenText) a b = absurd (passed-text fresh bs s a b)
one_step fresh bs (Goes (Passed s)) (Ends AtNumberTooLarge) a b = absurd (passed-large fresh bs s a b)
one_step fresh bs (Goes (Spelled k s)) (Goes (Passed s')) a b = absurd (passed-token fresh bs s' k s b a)
one_step fresh bs (Goes (Spelled k s)) (Goes (Spelled k' s')) a b = let row = sym a.1 ∙ b.1 in let same =
    same_front s a.0 s' b.0 row (longest_size k k' s a.0 s' b.0 a.2.0 b.2.0 row) in let kinds =
    kinds_one k k' s a.2.0.form (subst (HasForm k') (sym same.0) b.2.0.form) in ap (λ z. Goes (Spelled z s)) kinds
    ∙ ap (λ z. Goes (Spelled k' z)) same.0
one_step fresh bs (Goes (Spelled k s)) (Ends AtEnd) a b = absurd (token-end fresh bs k s a b)
one_step fresh bs (Goes (Spelled k s)) (Ends (AtBadByte g')) a b = absurd (token-bad fresh bs k s g' a b)
one_step fresh bs (Goes (Spelled k s)) (Ends AtOpenComment) a b = absurd (token-comment fresh bs k s a b)
one_step fresh bs (Goes (Spelled k s)) (Ends AtOpenText) a b = absurd (token-text fresh bs k s a b)
one_step fresh bs (Goes (Spelled k s)) (Ends AtNumberTooLarge) a b = absurd (token-large fresh bs k s a b)
one_step fresh bs (Ends AtEnd) (Goes (Passed s')) a b = absurd (passed-end fresh bs s' b a)
one_step fresh bs (Ends AtEnd) (Goes (Spelled k' s')) a b = absurd (token-end fresh bs k' s' b a)
one_step fresh bs (Ends AtEnd) (Ends AtEnd) a b = refl
one_step fresh bs (Ends AtEnd) (Ends (AtBadByte g')) a b = absurd (end-bad fresh bs g' a b)
one_step fresh bs (Ends AtEnd) (Ends AtOpenComment) a b = absurd (end-comment fresh bs a b)
one_step fresh bs (Ends AtEnd) (Ends AtOpenText) a b = absurd (end-text fresh bs a b)
one_step fresh bs (Ends AtEnd) (Ends AtNumberTooLarge) a b = absurd (end-large fresh bs a b)
one_step fresh bs (Ends (AtBadByte g)) (Goes (Passed s')) a b = absurd (passed-bad fresh bs s' g b a)
one_step fresh bs (Ends (AtBadByte g)) (Goes (Spelled k' s')) a b = absurd (token-bad fresh bs k' s' g b a)
one_step fresh bs (Ends (AtBadByte g)) (Ends AtEnd) a b = absurd (end-bad fresh bs g b a)
one_step fresh bs (Ends (AtBadByte g)) (Ends (AtBadByte g')) a b = ap (λ z. Ends (AtBadByte z)) (bad-bad fresh bs g g' a b)
one_step fresh bs (Ends (AtBadByte g)) (Ends AtOpenComment) a b = absurd (bad-comment fresh bs g a b)
one_step fresh bs (Ends (AtBadByte g)) (Ends AtOpenText) a b = absurd (bad-text fresh bs g a b)
one_step fresh bs (Ends (AtBadByte g)) (Ends AtNumberTooLarge) a b = absurd (bad-large fresh bs g a b)
one_step fresh bs (Ends AtOpenComment) (Goes (Passed s')) a b = absurd (passed-comment fresh bs s' b a)
one_step fresh bs (Ends AtOpenComment) (Goes (Spelled k' s')) a b = absurd (token-comment fresh bs k' s' b a)
one_step fresh bs (Ends AtOpenComment) (Ends AtEnd) a b = absurd (end-comment fresh bs b a)
one_step fresh bs (Ends AtOpenComment) (Ends (AtBadByte g')) a b = absurd (bad-comment fresh bs g' b a)
one_step fresh bs (Ends AtOpenComment) (Ends AtOpenComment) a b = refl
one_step fresh bs (Ends AtOpenComment) (Ends AtOpenText) a b = absurd (comment-text fresh bs a b)
one_step fresh bs (Ends AtOpenComment) (Ends AtNumberTooLarge) a b = absurd (comment-large fresh bs a b)
one_step fresh bs (Ends AtOpenText) (Goes (Passed s')) a b = absurd (passed-text fresh bs s' b a)
one_step fresh bs (Ends AtOpenText) (Goes (Spelled k' s')) a b = absurd (token-text fresh bs k' s' b a)
one_step fresh bs (Ends AtOpenText) (Ends AtEnd) a b = absurd (end-text fresh bs b a)
one_step fresh bs (Ends AtOpenText) (Ends (AtBadByte g')) a b = absurd (bad-text fresh bs g' b a)
one_step fresh bs (Ends AtOpenText) (Ends AtOpenComment) a b = absurd (comment-text fresh bs b a)
one_step fresh bs (Ends AtOpenText) (Ends AtOpenText) a b = refl
one_step fresh bs (Ends AtOpenText) (Ends AtNumberTooLarge) a b = absurd (text-large fresh bs a b)
one_step fresh bs (Ends AtNumberTooLarge) (Goes (Passed s')) a b = absurd (passed-large fresh bs s' b a)
one_step fresh bs (Ends AtNumberTooLarge) (Goes (Spelled k' s')) a b = absurd (token-large fresh bs k' s' b a)
one_step fresh bs (Ends AtNumberTooLarge) (Ends AtEnd) a b = absurd (end-large fresh bs b a)
one_step fresh bs (Ends AtNumberTooLarge) (Ends (AtBadByte g')) a b = absurd (bad-large fresh bs g' b a)
one_step fresh bs (Ends AtNumberTooLarge) (Ends AtOpenComment) a b = absurd (comment-large fresh bs b a)
one_step fresh bs (Ends AtNumberTooLarge) (Ends AtOpenText) a b = absurd (text-large fresh bs b a)
one_step fresh bs (Ends AtNumberTooLarge) (Ends AtNumberTooLarge) a b = refl
