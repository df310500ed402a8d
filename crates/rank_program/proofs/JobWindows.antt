-- Windows after the runs of a kernel for tasks.
use Rattle.std.proofs.Common.{◌≡◌, ℕ, zero, suc, ℤ, pos, ◌+◌, ◌*◌, ◌/◌, ◌<◌, ◌≤◌, List, [], ◌∷◌, ◌++◌, map, length, take, get_or, refl, sym, ap, subst, ◌∙◌, arith}
use Rattle.std.proofs.lemmas.Grind.{common_steps}
use Rattle.std.proofs.lemmas.List.{get_or-append-add}
use Rattle.std.proofs.lemmas.Nat.{div-mul-add}
use Rattle.std.proofs.Math.Nat.{mul-le-mul_right}
use Rattle.std.proofs.Math.Seq.{take-append_seam}
use Rattle.std.specs.Prelude.{slice_index_or}
use Rattle.kernel_model.specs.Meaning as kernel
use Rattle.kernel_model.specs.Meaning.{target_at}
use Rattle.kernel_model.specs.Independence.{Fits, store_after}
use Rattle.run_model.specs.OnWindows.{core_of}
use Rattle.kernel_model.specs.declared.types.views.frame.Place.{Place}
use Rattle.kernel_model.specs.Framed.{no_place, target_of, PlacesIn}
use Rattle.rank_program.specs.Jobs.{RanIn, part, flagged, left_after}

-- ---- windows

-- as many windows as there are tasks
pub count_windows : (len n w : ℕ) → 0 < w → len ≡ n * w → len / w ≡ n
count_windows len n w some e =
    let padded : len ≡ n * w + 0 = omega arith in
    ap (λ m. m / w) padded ∙ div-mul-add n w 0 some

pub part_length : (w i n : ℕ) (s : List ℤ) → i < n → length s ≡ n * w → length (part w i s) ≡ w
part_length w i n s lt h =
    let next : suc i * w ≤ n * w = mul-le-mul_right w lt in
    let room : i * w + w ≤ length s = omega arith in
    grind (arith, common_steps)

-- ---- places as targets

target_is : (ps : List Place) (a : ℕ) → target_at (map target_of ps) a ≡ target_of (get_or ps a no_place)
target_is [] a = refl
target_is (p ∷ ps) zero = refl
target_is (p ∷ ps) (suc a) = target_is ps a

place_in : (n : ℕ) (ps : List Place) → PlacesIn n ps → (a : ℕ) → (get_or ps a no_place).from + (get_or ps a no_place).count ≤ n
place_in n [] h a = omega arith
place_in n (p ∷ ps) h zero = h 0 (omega arith)
place_in n (p ∷ ps) h (suc a) = place_in n ps (λ i lt. h (suc i) (omega arith)) a

-- places within a list fit it
pub places_fit : (ps : List Place) (ws : List ℤ) → PlacesIn (length ws) ps → Fits (map target_of ps) (ws ∷ [])
places_fit ps ws h = record {
  arrays = λ a i lt. subst (λ (t : kernel.Target). t.array < 1) (sym (target_is ps a)) (omega arith);
  cells = λ a i lt.
      let at = target_is ps a in
      let inside = place_in (length ws) ps h a in
      let below : i < (get_or ps a no_place).count = subst (λ (t : kernel.Target). i < t.count) at lt in
      subst (λ (t : kernel.Target). t.from + i < length (slice_index_or (ws ∷ []) t.array [])) (sym at) (omega arith);
}

-- ---- what a run leaves

behind : (x : List ℤ) (n m : ℕ) (v : ℤ) → length x ≡ n → 0 < m → get_or (x ++ flagged v m) n (pos 0) ≡ v
behind x n zero v len some = absurd (omega arith)
behind x n (suc m) v len some =
    let at : n ≡ length x + 0 = omega arith in
    ap (λ i. get_or (x ++ flagged v (suc m)) i (pos 0)) at ∙ get_or-append-add x (flagged v (suc m)) 0 (pos 0)

pub ran_in : (ran : kernel.Ran) (n m : ℕ) (w : List ℤ) → length (slice_index_or (store_after ran) 0 []) ≡ n → 0 < m → w ≡ left_after ran m → RanIn (core_of ran) n w
ran_in (kernel.Finished l) n m w len some e = (
  ap (take n) e ∙ (ap (λ i. take i (slice_index_or l 0 [] ++ flagged (pos 0) m)) (sym len) ∙ take-append_seam (slice_index_or l 0 []) (flagged (pos 0) m)),
  ap (λ v. get_or v n (pos 0)) e ∙ behind (slice_index_or l 0 []) n m (pos 0) len some,
)
ran_in (kernel.Stopped l f) n m w len some e = ap (λ v. get_or v n (pos 0)) e ∙ behind (slice_index_or l 0 []) n m (pos 1) len some
