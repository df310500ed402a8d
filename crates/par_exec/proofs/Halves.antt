-- The windows of two parts of a buffer.
use Rattle.std.proofs.Common.{◌≡◌, ℕ, zero, suc, ℤ, ◌+◌, ◌-◌, ◌*◌, ◌<◌, ◌≤◌, nat_lt, Bool, true, false, List, ◌++◌, length, take, drop, refl, sym, ap, ap₂, ◌∙◌, arith, length-drop}
use Rattle.std.proofs.lemmas.List.{take-append-le, take-append-drop, drop-append-le, drop-drop}
use Rattle.std.proofs.Math.Seq.{drop-append-add}
use Rattle.std.proofs.Math.Nat.{mul-le-mul_right}
use Rattle.std.proofs.lemmas.Bool.Decides.{nat_tests}
use Rattle.par_exec.specs.Windows.{replaced, window, EachWindow}
use Rattle.lemmas.proofs.Lists.{empty_from_length}

-- what is past the first windows
pub rest_cells : (count low stride len : ℕ) → low ≤ count → len ≡ count * stride → len - low * stride ≡ (count - low) * stride
rest_cells count low stride len h e = grind arith

-- a window of the front part
pub window-front : (stride i low : ℕ) (a b : List ℤ) → length a ≡ low * stride → i < low → window stride i (a ++ b) ≡ window stride i a
window-front stride i low a b h lt =
    let room : suc i * stride ≤ low * stride = mul-le-mul_right stride lt in
    let start : i * stride ≤ length a = omega arith in
    let stop : stride ≤ length (drop (i * stride) a) = omega (arith, length-drop (i * stride) a) in
    ap (take stride) (drop-append-le (i * stride) a b start) ∙ take-append-le stride (drop (i * stride) a) b stop

-- a window of the back part
pub window-back : (stride j low : ℕ) (a b : List ℤ) → length a ≡ low * stride → window stride (low + j) (a ++ b) ≡ window stride j b
window-back stride j low a b h =
    let e : (low + j) * stride ≡ length a + j * stride = grind arith in
    ap (λ n. take stride (drop n (a ++ b))) e ∙ ap (take stride) (drop-append-add a b (j * stride))

-- the windows of both parts are those of the whole
pub each-halves : (f : ℕ → List ℤ → List ℤ) (stride first count low : ℕ) (a b a' b' s : List ℤ) → low ≤ count → length a ≡ low * stride
    → length a' ≡ low * stride → a ++ b ≡ s → EachWindow f stride first low a a' → EachWindow f stride (first + low) (count - low) b b'
    → EachWindow f stride first count s (a' ++ b')
each-halves f stride first count low a b a' b' s le la la' e front back = record { became = λ i lt. go i lt (nat_lt i low) refl }
  where
    go : (i : ℕ) → i < count → (test : Bool) → nat_lt i low ≡ test → window stride i (a' ++ b') ≡ f (first + i) (window stride i s)
    go i lt true h =
        let below : i < low = grind (arith, nat_tests) in
        window-front stride i low a' b' la' below ∙ front.became i below ∙ ap (f (first + i)) (sym (window-front stride i low a b la below) ∙ ap (window stride i) e)
    go i lt false h =
        let above : low ≤ i = grind (arith, nat_tests) in
        let at : low + (i - low) ≡ i = omega arith in
        let number : first + low + (i - low) ≡ first + i = omega arith in
        let within : i - low < count - low = omega arith in
        ap (λ n. window stride n (a' ++ b')) (sym at) ∙ window-back stride (i - low) low a' b' la' ∙ back.became (i - low) within
        ∙ ap (λ n. f n (window stride (i - low) b)) number
        ∙ ap (f (first + i)) (sym (window-back stride (i - low) low a b la) ∙ ap (λ n. window stride n (a ++ b)) at ∙ ap (window stride i) e)

window-next : (stride j : ℕ) (s : List ℤ) → window stride j (drop stride s) ≡ window stride (suc j) s
window-next stride j s =
    let e : stride + j * stride ≡ suc j * stride = omega arith in
    ap (take stride) (drop-drop (j * stride) stride s ∙ ap (λ n. drop n s) e)

-- a buffer whose windows became what a function makes of them is the buffer with its windows replaced
pub replaced-each : (f : ℕ → List ℤ → List ℤ) (stride i n : ℕ) (old new : List ℤ) → length old ≡ n * stride → length new ≡ n * stride
    → EachWindow f stride i n old new → new ≡ replaced f stride i n old
replaced-each f stride i zero old new lo ln each = empty_from_length new (omega (arith, ln)) ∙ sym (empty_from_length old (omega (arith, lo)))
replaced-each f stride i (suc n) old new lo ln each =
    let start : 0 * stride ≡ 0 = omega arith in
    let number : i + 0 ≡ i = omega arith in
    let first : take stride new ≡ f i (take stride old) =
    ap (λ k. take stride (drop k new)) (sym start) ∙ each.became 0 (omega arith)
    ∙ ap₂ f number (ap (λ k. take stride (drop k old)) start) in
    let rest_old : length (drop stride old) ≡ n * stride = omega (arith, length-drop stride old) in
    let rest_new : length (drop stride new) ≡ n * stride = omega (arith, length-drop stride new) in
    let later : EachWindow f stride (suc i) n (drop stride old) (drop stride new) = record {
      became = λ j lt.
          let next : i + suc j ≡ suc i + j = omega arith in
          window-next stride j new ∙ each.became (suc j) (omega arith) ∙ ap₂ f next (sym (window-next stride j old));
    } in
    sym (take-append-drop stride new) ∙ ap₂ ◌++◌ first (replaced-each f stride (suc i) n (drop stride old) (drop stride new) rest_old rest_new later)
