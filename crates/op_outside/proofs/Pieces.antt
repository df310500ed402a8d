-- Pieces of a list, one after another.
use Rattle.std.proofs.Common.{◌≡◌, ℕ, ◌+◌, ◌-◌, ◌≤◌, List, ◌++◌, length, take, drop, Option, None, Some, IfSome, IsSomeAnd, refl, sym, ap, ap₂, ◌∙◌, arith, append_assoc, length-append, length-drop}
use Rattle.std.proofs.Math.Seq.{take-add}
use Rattle.std.proofs.lemmas.List.{take_all, drop-drop, length-take-le}
use Rattle.op_outside.specs.Outside.{Files, IsPart, Holds, appended}

-- a front of the bytes was written, and this is the rest
pub record IsWritten (old : Option (List ℕ)) (bytes rest : List ℕ) (new : Option (List ℕ)) : Type 0 where
  pub count : ℕ
  pub within : count ≤ length bytes
  pub left : rest ≡ drop count bytes
  pub appends : new ≡ appended old (take count bytes)

-- where the files are told and one is held under the name, these are its first bytes
abbrev pub IsFront : Option Files → List ℕ → List ℕ → Type 0
IsFront told name bytes = IfSome told (λ files. IfSome (files name) (λ file. (bytes ≡ take (length bytes) file) × (length bytes ≤ length file)))

-- a slice from a place on
pub sliced : (xs : List ℕ) (n : ℕ) → take (length xs - n) (drop n xs) ≡ drop n xs
sliced xs n = take_all (length xs - n) (drop n xs) (omega (arith, length-drop n xs))

pub appended-twice : (old : Option (List ℕ)) (a b c : List ℕ) → c ≡ a ++ b → appended (appended old a) b ≡ appended old c
appended-twice None a b c e = refl
appended-twice (Some x) a b c e = rw e (ap Some (append_assoc x a b))

-- n bytes more were written
pub written_more : (old : Option (List ℕ)) (bytes rest : List ℕ) (now new : Option (List ℕ)) (n : ℕ) → IsWritten old bytes rest now
    → n ≤ length rest → new ≡ appended now (take n rest) → IsWritten old bytes (take (length rest - n) (drop n rest)) new
written_more old bytes rest now new n w h e = record {
  count = w.count + n;
  within = omega (arith, w.within, ap length w.left, length-drop w.count bytes);
  left = sliced rest n ∙ ap (drop n) w.left ∙ drop-drop n w.count bytes;
  appends = e ∙ ap (λ v. appended v (take n rest)) w.appends ∙ ap (λ r. appended (appended old (take w.count bytes)) (take n r)) w.left
      ∙ appended-twice old (take w.count bytes) (take n (drop w.count bytes)) (take (w.count + n) bytes) (take-add w.count n bytes);
}

-- a front of the file, and the part that was read behind it
front_file-more : (file bytes into : List ℕ) (n : ℕ) → bytes ≡ take (length bytes) file → length bytes ≤ length file
    → IsPart file (length bytes) n into → (bytes ++ take n into ≡ take (length (bytes ++ take n into)) file)
    × (length (bytes ++ take n into) ≤ length file)
front_file-more file bytes into n e le part =
    let whole : length (take n (drop (length bytes) file)) ≡ n = length-take-le n (drop (length bytes) file) part.within in
    let count : length (take n into) ≡ n = ap length part.same ∙ whole in
    let sum : length (bytes ++ take n into) ≡ length bytes + n = length-append bytes (take n into) ∙ ap (λ k. length bytes + k) count in
    (ap₂ ◌++◌ e part.same ∙ sym (take-add (length bytes) n file) ∙ ap (λ k. take k file) (sym sum), omega (arith, sum, part.within, length-drop (length bytes) file))

pub front-more : (told : Option Files) (name bytes into : List ℕ) (from n : ℕ) → from ≡ length bytes → IsFront told name bytes
    → Holds told name (λ file. IsPart file from n into) → IsFront told name (bytes ++ take n into)
front-more None name bytes into from n start front part = tt
front-more (Some files) name bytes into from n start front part = go (files name) front (rw start at part)
  where
    go : (found : Option (List ℕ)) → IfSome found (λ file. (bytes ≡ take (length bytes) file) × (length bytes ≤ length file))
        → IsSomeAnd found (λ file. IsPart file (length bytes) n into)
        → IfSome found (λ file. (bytes ++ take n into ≡ take (length (bytes ++ take n into)) file)
        × (length (bytes ++ take n into) ≤ length file))
    go None f p = tt
    go (Some file) f p = front_file-more file bytes into n f.0 f.1 p
