-- Letters whose cells stand in order in one buffer.
use Rattle.std.proofs.Common.{◌≡◌, ℕ, zero, suc, ℤ, ◌+◌, ◌-◌, ◌<◌, ◌≤◌, Bool, true, false, cond, List, [], ◌∷◌, ◌++◌, length, take, drop, get_or, refl, sym, ap, ap₂, ◌∙◌, arith}
use Rattle.std.proofs.lemmas.List.{drop-take, take-take}
use lib.Seq.{drop-drop}
use Rattle.rank_state.specs.declared.rank_memory.mail.Letter.{Letter}
use Rattle.rank_state.specs.Spans.{cells_at}
use Rattle.rank_state.specs.Letters.{post_with, post_of, posts_in, unread_cells, InOrder, no_letter}

pub order_within : (a b : ℕ) (ls : List Letter) → InOrder a b ls → a ≤ b
order_within a b [] h = h
order_within a b (l ∷ ls) h = omega (arith, h.0, order_within (l.at + l.count) b ls h.2)

pub order_lower : (a b c : ℕ) (ls : List Letter) → c ≤ a → InOrder a b ls → InOrder c b ls
order_lower a b c [] k h = omega arith
order_lower a b c (l ∷ ls) k h = (omega (arith, h.0), h.1, h.2)

pub order_upper : (a b c : ℕ) (ls : List Letter) → b ≤ c → InOrder a b ls → InOrder a c ls
order_upper a b c [] k h = omega arith
order_upper a b c (l ∷ ls) k h = (h.0, h.1, order_upper (l.at + l.count) b c ls k h.2)

pub order_append : (a b c : ℕ) (ks bs : List Letter) → InOrder a b ks → InOrder b c bs → InOrder a c (ks ++ bs)
order_append a b c [] bs h k = order_lower b c a bs h k
order_append a b c (l ∷ ks) bs h k = (h.0, h.1, order_append (l.at + l.count) b c ks bs h.2 k)

pub order_length : (a b : ℕ) (ls : List Letter) → InOrder a b ls → a + length ls ≤ b
order_length a b [] h = omega arith
order_length a b (l ∷ ls) h = omega (arith, h.0, h.1, order_length (l.at + l.count) b ls h.2)

pub order_at : (a b i : ℕ) (ls : List Letter) → InOrder a b ls → i < length ls → (get_or ls i no_letter).at + (get_or ls i no_letter).count ≤ b
order_at a b i [] h k = absurd (omega arith)
order_at a b zero (l ∷ ls) h k = order_within (l.at + l.count) b ls h.2
order_at a b (suc i) (l ∷ ls) h k = order_at (l.at + l.count) b i ls h.2 (omega arith)

pub unread_within : (a b : ℕ) (ls : List Letter) → InOrder a b ls → a + unread_cells ls ≤ b
unread_within a b [] h = omega arith
unread_within a b (l ∷ ls) h = counted l.is_read (unread_within (l.at + l.count) b ls h.2)
  where
    counted : (r : Bool) → l.at + l.count + unread_cells ls ≤ b → a + cond r (unread_cells ls) (l.count + unread_cells ls) ≤ b
    counted true ih = omega (arith, h.0)
    counted false ih = omega (arith, h.0)

pub unread_append : (ks bs : List Letter) → unread_cells (ks ++ bs) ≡ unread_cells ks + unread_cells bs
unread_append [] bs = omega arith
unread_append (l ∷ ks) bs = counted l.is_read (unread_append ks bs)
  where
    counted : (r : Bool) → unread_cells (ks ++ bs) ≡ unread_cells ks + unread_cells bs
        → cond r (unread_cells (ks ++ bs)) (l.count + unread_cells (ks ++ bs)) ≡ cond r (unread_cells ks) (l.count + unread_cells ks) + unread_cells bs
    counted true ih = ih
    counted false ih = omega arith

pub posts_append : (ks bs : List Letter) (cs : List ℤ) → posts_in (ks ++ bs) cs ≡ posts_in ks cs ++ posts_in bs cs
posts_append [] bs cs = refl
posts_append (l ∷ ks) bs cs = shown l.is_read (posts_append ks bs cs)
  where
    shown : (r : Bool) → posts_in (ks ++ bs) cs ≡ posts_in ks cs ++ posts_in bs cs
        → cond r (posts_in (ks ++ bs) cs) (post_of l cs ∷ posts_in (ks ++ bs) cs) ≡ cond r (posts_in ks cs) (post_of l cs ∷ posts_in ks cs) ++ posts_in bs cs
    shown true ih = ih
    shown false ih = ap (λ ps. post_of l cs ∷ ps) ih

-- buffers that agree on the letters' cells
posts_same : (a b : ℕ) (ls : List Letter) (cs ds : List ℤ) → InOrder a b ls → ((n k : ℕ) → a ≤ n → n + k ≤ b → cells_at n k cs ≡ cells_at n k ds) → posts_in ls cs ≡ posts_in ls ds
posts_same a b [] cs ds h same = refl
posts_same a b (l ∷ ls) cs ds h same =
    let rest = posts_same (l.at + l.count) b ls cs ds h.2 (λ n k low high. same n k (omega (arith, h.0)) high) in
    let here = same l.at l.count h.0 (order_within (l.at + l.count) b ls h.2) in
    ap₂ (λ vs ps. cond l.is_read ps (post_with l vs ∷ ps)) here rest

window_in_front : (b n k : ℕ) (cs : List ℤ) → n + k ≤ b → cells_at n k (take b cs) ≡ cells_at n k cs
window_in_front b n k cs h =
    let e : b ≡ n + (b - n) = omega arith in
    ap (λ m. take k (drop n (take m cs))) e ∙ ap (take k) (drop-take n (b - n) cs) ∙ take-take k (b - n) (drop n cs) (omega arith)

-- what stands in front of a place
pub front_same : (b : ℕ) (ls : List Letter) (cs ds : List ℤ) → InOrder 0 b ls → take b cs ≡ take b ds → posts_in ls cs ≡ posts_in ls ds
front_same b ls cs ds h e = posts_same 0 b ls cs ds h (λ n k low high. sym (window_in_front b n k cs high) ∙ ap (cells_at n k) e ∙ window_in_front b n k ds high)

window_behind : (a n k : ℕ) (cs : List ℤ) → a ≤ n → cells_at (n - a) k (drop a cs) ≡ cells_at n k cs
window_behind a n k cs h =
    let e : a + (n - a) ≡ n = omega arith in
    ap (take k) (drop-drop (n - a) a cs ∙ ap (λ m. drop m cs) e)

-- what stands behind a place
pub behind_same : (a b : ℕ) (ls : List Letter) (cs ds : List ℤ) → InOrder a b ls → drop a cs ≡ drop a ds → posts_in ls cs ≡ posts_in ls ds
behind_same a b ls cs ds h e = posts_same a b ls cs ds h (λ n k low high. sym (window_behind a n k cs low) ∙ ap (cells_at (n - a) k) e ∙ window_behind a n k ds low)
