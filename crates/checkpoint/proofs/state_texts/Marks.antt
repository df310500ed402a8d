-- The last mark of a file.
use Rattle.std.proofs.Common.{◌≡◌, ℕ, ◌+◌, ◌<◌, ◌≤◌, sym, ap, ◌∙◌, arith, List, ◌++◌, length, take, drop, length-append, ⊎_elim, Option, Some, None, MatchOption, length-take-le}
use Rattle.std.proofs.Math.Seq.{take-append_seam, drop-append_seam}
use Rattle.std.proofs.lemmas.Bool.{cases_lt}
use Rattle.std.proofs.lemmas.List.{take-append-drop}
use Rattle.memchr.specs.Find.{OccursAt, Nowhere, NoneAfter, IsLast}
use Rattle.memchr.proofs.lemmas.MatchLemmas.{OccursAt-from_part, OccursAt-split}
use Rattle.checkpoint.specs.Reading.{mark, IsSplit, HasNoMark}

module _ (bytes : List ℕ) where
  occurs : (x y : List ℕ) → bytes ≡ x ++ (mark ++ y) → OccursAt bytes mark (length x)
  occurs x y e =
      let long : length bytes ≡ length x + length (mark ++ y) = ap length e ∙ length-append x (mark ++ y) in
      let more : length (mark ++ y) ≡ length mark + length y = length-append mark y in
      OccursAt-from_part bytes mark (length x) (omega arith)
      (ap (λ (z : List ℕ). take (length mark) (drop (length x) z)) e ∙ (ap (take (length mark)) (drop-append_seam x (mark ++ y)) ∙ take-append_seam mark y))

  below : (x y : List ℕ) → bytes ≡ x ++ (mark ++ y) → length x < length bytes + 1
  below x y e = let f = (occurs x y e).fits in omega arith

  mark_none : Nowhere (OccursAt bytes mark) 0 (length bytes + 1) → HasNoMark bytes
  mark_none h x y e = h (length x) (omega arith) (below x y e) (occurs x y e)

  mark_at : (k : ℕ) → NoneAfter (OccursAt bytes mark) 0 (length bytes + 1) k → OccursAt bytes mark k
      → IsSplit bytes (take k bytes) (drop (k + length mark) bytes)
  mark_at k n o = record {
    whole = sym (take-append-drop k bytes) ∙ ap (λ z. take k bytes ++ z) (OccursAt-split bytes mark k o);
    last = λ x y e. (
        let long : length (take k bytes) ≡ k = length-take-le k bytes (let f = o.fits in omega arith) in
        ⊎_elim
        (λ (l : k < length x). absurd (n.after (length x) (omega arith) (below x y e) (occurs x y e)))
        (λ (g : length x ≤ k). (let r : length x ≤ length (take k bytes) = omega arith in r))
        (cases_lt k (length x)));
  }

  pub mark_found : (r : Option ℕ) → IsLast (OccursAt bytes mark) 0 (length bytes + 1) r
      → MatchOption r (HasNoMark bytes) (λ at. (at + length mark ≤ length bytes) × IsSplit bytes (take at bytes) (drop (at + length mark) bytes))
  mark_found None h = mark_none h
  mark_found (Some k) h = (h.1.fits, mark_at k h.0 h.1)
