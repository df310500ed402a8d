-- The first target that is no element.
use Rattle.std.proofs.Common.{◌≡◌, ℕ, zero, suc, ℤ, pos, ◌<◌, true, false, List, [], ◌∷◌, length, take, get_or, refl, ap, arith}
use Rattle.std.proofs.lemmas.List.Elements.{All-cons, All-head, All-tail}
use Rattle.mesh_decl.specs.Mesh.{is_element, AreElements, IsFirstBad}

pub bad_here : (size i : ℕ) (ts : List ℤ) → AreElements size (take i ts) → i < length ts → is_element size (get_or ts i (pos 0)) ≡ false → IsFirstBad size ts i
bad_here size i [] a h e = absurd (omega arith)
bad_here size zero (t ∷ ts) a h e = record { good = []; bad = t; later = ts; whole = refl; at = refl; before = a; no_element = e }
bad_here size (suc i) (t ∷ ts) a h e =
    let r = bad_here size i ts (All-tail (λ t. is_element size t ≡ true) t (take i ts) a) (omega arith) e in
    record {
      good = t ∷ r.good;
      bad = r.bad;
      later = r.later;
      whole = ap (λ xs. t ∷ xs) r.whole;
      at = ap suc r.at;
      before = All-cons (λ t. is_element size t ≡ true) t r.good (All-head (λ t. is_element size t ≡ true) t (take i ts) a) r.before;
      no_element = r.no_element;
    }
