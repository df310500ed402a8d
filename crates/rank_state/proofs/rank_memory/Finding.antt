-- The oldest unread letter of a pair.
use Rattle.std.proofs.Common.{◌≡◌, ℕ, zero, suc, ℤ, ◌+◌, ◌<◌, ◌≤◌, Bool, true, false, cond, ◌==◌, ◌&&◌, List, [], ◌∷◌, length, get_or, set, Option, Some, None, refl, sym, ap, ◌∙◌, arith, subst}
use Rattle.std.proofs.lemmas.Grind.{common_steps}
use Rattle.rank_state.specs.declared.rank_memory.mail.Letter.{Letter}
use Rattle.rank_state.specs.Mail.{Post, is_of, first_post, without_first, Carries_as}
use Rattle.rank_state.specs.Spans.{cells_at}
use Rattle.rank_state.specs.Letters.{post_of, posts_in, unread_cells, InOrder, letter_of, index_of, found, no_letter, read_of}
use Rattle.rank_state.proofs.rank_memory.Letters.{order_at}

-- a letter's message comes first or not
first_with : (s r : ℕ) (p : Post) (ps : List Post) (b : Bool) → first_post s r (cond b ps (p ∷ ps)) ≡ cond (cond b false (is_of s r p)) (Some p) (first_post s r ps)
first_with s r p ps true = refl
first_with s r p ps false = refl

first_cons : (s r : ℕ) (l : Letter) (ls : List Letter) (cs : List ℤ) → first_post s r (posts_in (l ∷ ls) cs) ≡ cond (letter_of s r l) (Some (post_of l cs)) (first_post s r (posts_in ls cs))
first_cons s r l ls cs = first_with s r (post_of l cs) (posts_in ls cs) l.is_read

pub has_letter : (s r k n : ℕ) (ls : List Letter) (cs : List ℤ) → Carries_as k n (first_post s r (posts_in ls cs)) → index_of s r ls < length ls
has_letter s r k n [] cs h = absurd h
has_letter s r k n (l ∷ ls) cs h =
    let h' = subst (Carries_as k n) (first_cons s r l ls cs) h in
    by (letter_of s r l) (has_letter s r k n ls cs) h'
  where
    by : (b : Bool) → (Carries_as k n (first_post s r (posts_in ls cs)) → index_of s r ls < length ls)
        → Carries_as k n (cond b (Some (post_of l cs)) (first_post s r (posts_in ls cs))) → cond b 0 (suc (index_of s r ls)) < suc (length ls)
    by true ih h = omega arith
    by false ih h = omega (arith, ih h)

pub first_found : (s r : ℕ) (ls : List Letter) (cs : List ℤ) → index_of s r ls < length ls → first_post s r (posts_in ls cs) ≡ Some (post_of (found s r ls) cs)
first_found s r [] cs h = absurd (omega arith)
first_found s r (l ∷ ls) cs h =
    first_cons s r l ls cs ∙ by (letter_of s r l) (first_found s r ls cs) h
  where
    by : (b : Bool) → (index_of s r ls < length ls → first_post s r (posts_in ls cs) ≡ Some (post_of (found s r ls) cs))
        → cond b 0 (suc (index_of s r ls)) < suc (length ls)
        → cond b (Some (post_of l cs)) (first_post s r (posts_in ls cs)) ≡ Some
        (post_of (get_or (l ∷ ls) (cond b 0 (suc (index_of s r ls))) no_letter) cs)
    by true ih h = refl
    by false ih h = ih (omega arith)

-- the messages when the letter was read
pub rest_read : (s r : ℕ) (ls : List Letter) (cs : List ℤ) → index_of s r ls < length ls → posts_in (set ls (index_of s r ls) (read_of (found s r ls))) cs ≡ without_first s r (posts_in ls cs)
rest_read s r [] cs h = absurd (omega arith)
rest_read s r (l ∷ ls) cs h =
    by l.is_read (is_of s r (post_of l cs)) (rest_read s r ls cs) refl h ∙ sym (without_with l.is_read)
  where
    without_with : (b : Bool) → without_first s r (cond b (posts_in ls cs) (post_of l cs ∷ posts_in ls cs))
        ≡ cond b (without_first s r (posts_in ls cs)) (cond (is_of s r (post_of l cs)) (posts_in ls cs) (post_of l cs ∷ without_first s r (posts_in ls cs)))
    without_with true = refl
    without_with false = refl

    by : (b e : Bool) → (index_of s r ls < length ls → posts_in (set ls (index_of s r ls) (read_of (found s r ls))) cs ≡ without_first s r (posts_in ls cs))
        → l.is_read ≡ b → cond (cond b false e) 0 (suc (index_of s r ls)) < suc (length ls)
        → posts_in (set (l ∷ ls) (cond (cond b false e) 0 (suc (index_of s r ls))) (read_of (get_or (l ∷ ls) (cond (cond b false e) 0 (suc (index_of s r ls))) no_letter))) cs
        ≡ cond b (without_first s r (posts_in ls cs)) (cond e (posts_in ls cs) (post_of l cs ∷ without_first s r (posts_in ls cs)))
    by true e ih q h = rw q (ih (omega arith))
    by false true ih q h = refl
    by false false ih q h = rw q (ap (λ ps. post_of l cs ∷ ps) (ih (omega arith)))

pub unread_read : (s r : ℕ) (ls : List Letter) → index_of s r ls < length ls → unread_cells (set ls (index_of s r ls) (read_of (found s r ls))) + (found s r ls).count ≡ unread_cells ls
unread_read s r [] h = absurd (omega arith)
unread_read s r (l ∷ ls) h = by l.is_read ((l.from == s) && (l.to == r)) (unread_read s r ls) refl h
  where
    by : (b e : Bool) → (index_of s r ls < length ls → unread_cells (set ls (index_of s r ls) (read_of (found s r ls))) + (found s r ls).count ≡ unread_cells ls)
        → l.is_read ≡ b → cond (cond b false e) 0 (suc (index_of s r ls)) < suc (length ls)
        → unread_cells (set (l ∷ ls) (cond (cond b false e) 0 (suc (index_of s r ls))) (read_of (get_or (l ∷ ls) (cond (cond b false e) 0 (suc (index_of s r ls))) no_letter)))
        + (get_or (l ∷ ls) (cond (cond b false e) 0 (suc (index_of s r ls))) no_letter).count ≡ cond b (unread_cells ls) (l.count + unread_cells ls)
    by true e ih q h = rw q (ih (omega arith))
    by false true ih q h = omega arith
    by false false ih q h = rw q (omega (arith, ih (omega arith)))

pub order_read : (a b i : ℕ) (ls : List Letter) → InOrder a b ls → InOrder a b (set ls i (read_of (get_or ls i no_letter)))
order_read a b i [] h = h
order_read a b zero (l ∷ ls) h = (h.0, h.1, h.2)
order_read a b (suc i) (l ∷ ls) h = (h.0, h.1, order_read (l.at + l.count) b i ls h.2)

taken_length : (a n : ℕ) (cs : List ℤ) → a + n ≤ length cs → length (cells_at a n cs) ≡ n
taken_length a n cs h = grind (arith, common_steps)

-- the oldest message has the letter's count of cells
counted : (k n : ℕ) (p : Post) (o : Option Post) → o ≡ Some p → Carries_as k n o → length p.values ≡ n
counted k n p None e h = absurd h
counted k n p (Some q) e h = let same : Some q ≡ Some p = e in let t : q ≡ p = cc in ap (λ (w : Post). length w.values) (sym t) ∙ h.1

pub whole_message : (s r k n b : ℕ) (ls : List Letter) (cs : List ℤ) → Carries_as k n (first_post s r (posts_in ls cs)) → InOrder 0 b ls → b ≤ length cs → n ≡ (found s r ls).count
whole_message s r k n b ls cs h order le =
    let has = has_letter s r k n ls cs h in
    let e = counted k n (post_of (found s r ls) cs) (first_post s r (posts_in ls cs)) (first_found s r ls cs has) h in
    let inside = order_at 0 b (index_of s r ls) ls order has in
    sym e ∙ taken_length (found s r ls).at (found s r ls).count cs (omega arith)
