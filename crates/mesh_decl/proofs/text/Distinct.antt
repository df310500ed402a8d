-- Entries of a map have distinct names.
use Rattle.std.proofs.Common.{◌≡◌, ℕ, Bool, true, false, List, [], ◌∷◌, ◌++◌, All, refl, sym, subst, append_assoc}
use Rattle.std.proofs.lemmas.Slice.Eq.{bytes_eq-Decides}
use Rattle.std.proofs.lemmas.List.{map-append}
use Rattle.std.proofs.lemmas.List.Elements.{All-head, All-tail}
use Rattle.std.specs.List.{AllByRecursion, IsDistinct}
use Rattle.std.specs.Map.{keys_of}
use Rattle.std.specs.Str.{bytes_eq}
use Rattle.mesh_decl.specs.Spelling.{Named, has_name}
use Rattle.mesh_decl.specs.Canonical.{HasI32, CanBeSpelled, HaveSpelling}

unequal : (xs ys : List ℕ) → bytes_eq xs ys ≡ false → bytes_eq ys xs ≡ false
unequal xs ys t = go (bytes_eq ys xs) refl
  where
    go : (b : Bool) → bytes_eq ys xs ≡ b → bytes_eq ys xs ≡ false
    go true b = let e : xs ≡ ys = sym ((bytes_eq-Decides ys xs).0 b) in let u : bytes_eq xs ys ≡ true = (bytes_eq-Decides xs ys).1 e in cc
    go false b = b

-- of all, the one in the middle
middle : {K : Type 0} (P : K → Type 0) (xs ys : List K) (y : K) → AllByRecursion P (xs ++ y ∷ ys) → P y
middle P [] ys y a = a.0
middle P (x ∷ xs) ys y a = middle P xs ys y a.1

-- an entry has another name than those before
apart : (before es : List Named) (e : Named) → IsDistinct bytes_eq (keys_of (before ++ e ∷ es)) → has_name e.0 before ≡ false
unfolding IsDistinct
apart [] es e d = refl
apart (b ∷ bs) es e d =
    let other : bytes_eq e.0 b.0 ≡ false = unequal b.0 e.0
    (middle (λ y. bytes_eq b.0 y ≡ false) (keys_of bs) (keys_of es) e.0
    (subst (AllByRecursion (λ y. bytes_eq b.0 y ≡ false)) (map-append (λ (n : Named). n.0) bs (e ∷ es)) d.0)) in
    rw other (apart bs es e d.1)

pub have_spelling : (before es : List Named) → IsDistinct bytes_eq (keys_of (before ++ es)) → CanBeSpelled es → All (λ (e : Named). HasI32 e.1) es → HaveSpelling before es
have_spelling before [] d c a = tt
have_spelling before (e ∷ es) d c a = (
  (c.0, apart before es e d),
  c.1,
  All-head (λ (e : Named). HasI32 e.1) e es a,
  have_spelling (before ++ e ∷ []) es (subst (λ xs. IsDistinct bytes_eq (keys_of xs)) (sym (append_assoc before (e ∷ []) es)) d) c.2 (All-tail (λ (e : Named). HasI32 e.1) e es a),
)
