-- A part of a list that was written, and the parts beside it.
use Rattle.std.proofs.Common.{◌≡◌, ℕ, ℤ, ◌+◌, ◌-◌, ◌≤◌, List, ◌++◌, length, take, drop, sym, ap, ◌∙◌, arith, append_assoc, length-drop, length-append}
use Rattle.std.proofs.lemmas.List.{take-append-le, drop-append-le, drop-take, take-take, length-take-le}
use Rattle.std.proofs.Math.Seq.{take-append_seam, drop-append_seam, drop-append-add}
use lib.Seq.{drop-drop}
use borrow.Rule.Slice.PartMut.{put_mid}
use Rattle.rank_state.specs.Spans.{cells_at}

drop_front : (a : ℕ) (xs rest : List ℤ) → a ≤ length xs → drop a (take a xs ++ rest) ≡ rest
drop_front a xs rest h = ap (λ n. drop n (take a xs ++ rest)) (sym (length-take-le a xs h)) ∙ drop-append_seam (take a xs) rest

pub mid_same : (a k : ℕ) (xs w : List ℤ) → a + k ≤ length xs → length w ≡ k → cells_at a k (put_mid a (a + k - a) xs w) ≡ w
mid_same a k xs w h l =
    ap (take k) (drop_front a xs _ (omega arith)) ∙ ap (λ n. take n (w ++ drop (a + k - a) (drop a xs))) (sym l) ∙ take-append_seam w _

pub before_mid : (a k b n : ℕ) (xs w : List ℤ) → a + k ≤ length xs → b + n ≤ a → cells_at b n (put_mid a (a + k - a) xs w) ≡ cells_at b n xs
before_mid a k b n xs w h le =
    let lf : length (take a xs) ≡ a = length-take-le a xs (omega arith) in
    let m : a ≡ b + (a - b) = omega arith in
    let ld : n ≤ length (drop b (take a xs)) = omega (arith, length-drop b (take a xs)) in
    ap (take n) (drop-append-le b (take a xs) (w ++ drop (a + k - a) (drop a xs)) (omega arith))
    ∙ take-append-le n (drop b (take a xs)) (w ++ drop (a + k - a) (drop a xs)) ld
    ∙ ap (λ j. take n (drop b (take j xs))) m
    ∙ ap (take n) (drop-take b (a - b) xs)
    ∙ take-take n (a - b) (drop b xs) (omega arith)

pub after_mid : (a k b n : ℕ) (xs w : List ℤ) → a + k ≤ length xs → length w ≡ k → a + k ≤ b → cells_at b n (put_mid a (a + k - a) xs w) ≡ cells_at b n xs
after_mid a k b n xs w h l le =
    let lf : length (take a xs) ≡ a = length-take-le a xs (omega arith) in
    let lp : length (take a xs ++ w) ≡ a + k = omega (arith, length-append (take a xs) w) in
    let m : b ≡ length (take a xs ++ w) + (b - (a + k)) = omega arith in
    let j : a + ((a + k - a) + (b - (a + k))) ≡ b = omega arith in
    ap (take n)
    (ap (drop b) (sym (append_assoc (take a xs) w (drop (a + k - a) (drop a xs))))
    ∙ ap (λ i. drop i ((take a xs ++ w) ++ drop (a + k - a) (drop a xs))) m
    ∙ drop-append-add (take a xs ++ w) (drop (a + k - a) (drop a xs)) (b - (a + k))
    ∙ drop-drop (b - (a + k)) (a + k - a) (drop a xs)
    ∙ drop-drop ((a + k - a) + (b - (a + k))) a xs
    ∙ ap (λ i. drop i xs) j)
