-- The bytes have one outcome.
use Rattle.std.proofs.Common.{◌≡◌, ℕ, Bool, true, false, List, [], ◌∷◌, ◌++◌, refl, sym, ap, subst, ◌∙◌, ◌⊎◌, inl, inr}
use Rattle.c_tree.specs.Spelling.{all_escaped}
use Rattle.c_tree.specs.Lexed.{IsApart, BeginsWithPart, Stop, AtEnd, AtBadByte, AtOpenComment, AtOpenText, AtNumberTooLarge, Stops, Part, bytes_of, is_fresh_behind, is_number_part, AreParts, Outcome, outcome_of, Lexes}
use Rattle.c_tree.proofs.lexer.OneStep.{Goes, Ends, IsStep, one_step}
use Rattle.std.proofs.lemmas.Bool.{true≢false}
use Rattle.std.proofs.lemmas.List.{append_cancel_left}

-- where tokens end at what may not stand behind a number
pub record Clashes (number : Bool) (bs : List ℕ) (stop : Stop) : Type 0 where
  pub number_before : number ≡ true
  pub bad : stop ≡ AtBadByte []
  pub there : BeginsWithPart bs

apart_not : (bs : List ℕ) → IsApart bs → BeginsWithPart bs → ⊥
apart_not [] a b = b
apart_not (c ∷ bs) a b = true≢false (sym b ∙ a)

quote_apart : (bs rest : List ℕ) → bs ≡ 34 ∷ rest → IsApart bs
quote_apart bs rest e = subst IsApart (sym e) refl

slash_apart : (bs rest : List ℕ) → bs ≡ 47 ∷ rest → IsApart bs
slash_apart bs rest e = subst IsApart (sym e) refl

-- a stop is such a place, or what stands there itself
stop_is : (fresh number : Bool) (bs : List ℕ) (stop : Stop) → Stops fresh number bs stop → Clashes number bs stop ⊎ ((number ≡ true → IsApart bs) × IsStep fresh bs (Ends stop))
stop_is fresh number bs AtEnd h = inr (λ _. subst IsApart (sym h) tt, h)
stop_is fresh number bs (AtBadByte g) (inl c) =
    inl (record { number_before = c.0; bad = ap AtBadByte c.1; there = c.2 })
stop_is fresh number bs (AtBadByte g) (inr (inl n)) = inr (n.0, inl (n.1, n.2))
stop_is fresh number bs (AtBadByte g) (inr (inr b)) =
    inr (λ _. quote_apart bs (all_escaped b.text ++ b.rest) (b.cut ∙ ap (λ z. z ++ b.rest) b.before), inr b)
stop_is fresh number bs AtOpenComment h = inr (λ _. slash_apart bs (42 ∷ h.0) h.1, h)
stop_is fresh number bs AtOpenText h = inr (λ _. quote_apart bs h.0 h.1, h)
stop_is fresh number bs AtNumberTooLarge h = inr (h.0, h.1)

clash_apart : (number : Bool) (bs : List ℕ) (stop : Stop) → Clashes number bs stop → (number ≡ true → IsApart bs) → ⊥
clash_apart number bs stop c a = apart_not bs (a c.number_before) c.there

step_part : (x y : Part) → Goes x ≡ Goes y → x ≡ y
step_part x y h = cc

step_stop : (x y : Stop) → Ends x ≡ Ends y → x ≡ y
step_stop x y h = cc

step_apart : (x : Part) (y : Stop) → Goes x ≡ Ends y → ⊥
step_apart x y h = let z : ⊥ = cc in z

stops_one : (fresh number : Bool) (bs : List ℕ) (x y : Stop) → Stops fresh number bs x → Stops fresh number bs y → x ≡ y
stops_one fresh number bs x y a b = by_sides (stop_is fresh number bs x a) (stop_is fresh number bs y b)
  where
    by_sides : Clashes number bs x ⊎ ((number ≡ true → IsApart bs) × IsStep fresh bs (Ends x)) → Clashes number bs y ⊎ ((number ≡ true → IsApart bs) × IsStep fresh bs (Ends y)) → x ≡ y
    by_sides (inl c) (inl d) = c.bad ∙ sym d.bad
    by_sides (inl c) (inr d) = absurd (clash_apart number bs x c d.0)
    by_sides (inr c) (inl d) = absurd (clash_apart number bs y d c.0)
    by_sides (inr c) (inr d) = step_stop x y (one_step fresh bs (Ends x) (Ends y) c.1 d.1)

part_stop : (fresh number : Bool) (bs : List ℕ) (x : Part) (y : Stop) → (number ≡ true → IsApart bs) → IsStep fresh bs (Goes x) → Stops fresh number bs y → ⊥
part_stop fresh number bs x y a s b = by_side (stop_is fresh number bs y b)
  where
    by_side : Clashes number bs y ⊎ ((number ≡ true → IsApart bs) × IsStep fresh bs (Ends y)) → ⊥
    by_side (inl d) = clash_apart number bs y d a
    by_side (inr d) = step_apart x y (one_step fresh bs (Goes x) (Ends y) s d.1)

-- the parts of the bytes, and where they end, are the same
parts_one : (xs ys : List Part) (x y : Stop) (fresh number : Bool) (bs : List ℕ) → AreParts x fresh number bs xs → AreParts y fresh number bs ys → (xs ≡ ys) × (x ≡ y)
parts_one [] [] x y fresh number bs a b = (refl, stops_one fresh number bs x y a b)
parts_one [] (q ∷ ys) x y fresh number bs a b =
    absurd (part_stop fresh number bs q x b.0 (b.1.0, b.1.1, b.1.2) a)
parts_one (p ∷ xs) [] x y fresh number bs a b =
    absurd (part_stop fresh number bs p y a.0 (a.1.0, a.1.1, a.1.2) b)
parts_one (p ∷ xs) (q ∷ ys) x y fresh number bs a b =
    let same = step_part p q (one_step fresh bs (Goes p) (Goes q) (a.1.0, a.1.1, a.1.2) (b.1.0, b.1.1, b.1.2)) in
    let rest : a.1.0 ≡ b.1.0 = append_cancel_left (bytes_of q) a.1.0 b.1.0 (ap (λ z. bytes_of z ++ a.1.0) (sym same) ∙ sym a.1.1 ∙ b.1.1) in
    let more = subst (λ z. AreParts x (is_fresh_behind fresh z) (is_number_part z) a.1.0 xs) same a.1.3 in
    let r = parts_one xs ys x y (is_fresh_behind fresh q) (is_number_part q) b.1.0 (subst (λ z. AreParts x (is_fresh_behind fresh q) (is_number_part q) z xs) rest more) b.1.3 in
    (ap (λ z. z ∷ xs) same ∙ ap (λ z. q ∷ z) r.0, r.1)

-- The bytes have one outcome.
pub one_outcome : (bs : List ℕ) (a b : Outcome) → Lexes bs a → Lexes bs b → a ≡ b
one_outcome bs a b h g =
    let r = parts_one h.parts g.parts h.stop g.stop true false bs h.are g.are in
    h.gives ∙ ap (λ z. outcome_of z h.stop) r.0 ∙ ap (outcome_of g.parts) r.1 ∙ sym g.gives
