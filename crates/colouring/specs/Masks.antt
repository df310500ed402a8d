-- The colours of targets in words of 32, and what is known of words that are full.
use Rattle.std.specs.Prelude.{◌≡◌, ◌<◌, ◌≤◌, ◌+◌, ◌*◌, ◌⊎◌, ◌↔◌, ◌&&◌, ◌==◌, Bool, nat_eq, cond, ℕ, List, Some, get_or, unwrap_or, length}
use Rattle.std.specs.Int.{bit_at}
use Rattle.std.specs.HashMap.{get}
use Rattle.colouring.specs.Rows.{In}
use Rattle.colouring.specs.declared.masks.Masks.{Masks}

-- whether two keys are of one target and word
abbrev pub same_word : ℕ × ℕ → ℕ × ℕ → Bool
same_word x y = nat_eq x.0 y.0 && nat_eq x.1 y.1

-- whether two keys are of the same two targets and word
abbrev pub same_words : ℕ × ℕ × ℕ → ℕ × ℕ × ℕ → Bool
same_words x y = (nat_eq x.0 y.0 && nat_eq x.1 y.1) && nat_eq x.2 y.2

-- the word v of the target t
abbrev pub mask_of : Masks → ℕ → ℕ → ℕ
mask_of m t v = cond (v == 0) (get_or m.first.items t 0) (unwrap_or (get same_word m.later (t, v)) 0)

-- the target t has colour b of the word v
abbrev pub Has : Masks → ℕ → ℕ → ℕ → Type 0
Has m t v b = bit_at (mask_of m t v) b ≡ 1

-- each colour of the word v is one of either target's
abbrev pub Fill : Masks → ℕ → ℕ → ℕ → Type 0
Fill m s t v = (b : ℕ) → b < 32 → Has m s v b ⊎ Has m t v b

-- each colour of the words from v up to n is one of either target's
abbrev pub AreFilled : Masks → ℕ → ℕ → ℕ → ℕ → Type 0
AreFilled m s t v n = (u : ℕ) → v ≤ u → u < n → Fill m s t u

-- what is kept of words that are passed over is true: each colour is one of either target's
abbrev pub IsSound : Masks → Type 0
IsSound m = (s t v n : ℕ) → get same_words m.passed (s, t, v) ≡ Some n → AreFilled m s t v n

-- the targets have the same colours before and after
abbrev pub IsKept : Masks → Masks → Type 0
IsKept m n = (n.first ≡ m.first) × (n.later ≡ m.later)

-- no target has a colour
pub record IsClear (m : Masks) : Type 0 where
  pub words : (t v : ℕ) → mask_of m t v ≡ 0
  pub sound : IsSound m

-- these targets together have each colour below n
abbrev pub Cover : Masks → List ℕ → ℕ → ℕ → ℕ → Type 0
Cover m ts start end n = (v b : ℕ) → b < 32 → 32 * v + b < n → (k : ℕ) × (start ≤ k) × (k < end) × Has m (get_or ts k 0) v b

-- a target has the colours of the rows before p that have it, of w targets each
abbrev pub Tell : List ℕ → ℕ → List ℕ → ℕ → Masks → Type 0
Tell ts w cs p m =
    (t v b : ℕ) → t < length m.first.items → b < 32
    → Has m t v b
    ↔ ((q : ℕ) × (k : ℕ) × (q < p) × In ts w q k × (get_or ts k 0 ≡ t) × (get_or cs q 0 ≡ 32 * v + b))
