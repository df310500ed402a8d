-- Places at which words can be left out.
use Rattle.std.proofs.Common.{◌≡◌, ◌∙◌, ℕ, zero, suc, ◌+◌, ◌<◌, true, false, List, ◌++◌, map, take, drop, Some, Ok, Err, is_ok, refl, sym, ap, ap₂, arith}
use Rattle.std.proofs.lemmas.List.{take-map, drop-map, drop-drop}
use Rattle.command_words.specs.Refusal.{Refusal}
use Rattle.command_words.specs.Words.{Command, WordsAre}
use Rattle.explanations.specs.Wrong.{is_call, without_at, last_place}

-- ---- calls

pub call_of : (words : List (List ℕ)) (c : Command) → WordsAre words (Ok c) → true ≡ is_call words
unfolding is_call
call_of words c w = sym (ap is_ok w)

pub no_call : (words : List (List ℕ)) (r : Refusal) → WordsAre words (Err r) → false ≡ is_call words
unfolding is_call
no_call words r w = sym (ap is_ok w)

-- ---- places

-- at the last place a call is left
pub found : (words : List (List ℕ)) (count n : ℕ) → 0 < n → is_call (without_at n count words) ≡ true → last_place words count n ≡ Some n
found words count zero lt is = absurd (omega (arith, lt))
found words count (suc n) lt is = rw is refl

-- ---- words left out

pub left_out : {X : Type 0} (f : X → List ℕ) (all front back tail : List X) (place count : ℕ)
    → front ≡ take place all → back ≡ drop place all → tail ≡ drop count back
    → map f front ++ map f tail ≡ without_at place count (map f all)
left_out f all front back tail place count first rest behind =
    ap₂ (λ (x y : List (List ℕ)). x ++ y) (ap (map f) first ∙ sym (take-map f place all))
    (ap (map f) (behind ∙ (ap (drop count) rest ∙ drop-drop count place all)) ∙ sym (drop-map f (place + count) all))

pub chosen : {X : Type 0} (f : X → List ℕ) (all back part : List X) (place count : ℕ)
    → back ≡ drop place all → part ≡ take count back
    → map f part ≡ take count (drop place (map f all))
chosen f all back part place count rest front =
    ap (map f) (front ∙ ap (take count) rest) ∙ (sym (take-map f count (drop place all)) ∙ ap (take count) (sym (drop-map f place all)))
