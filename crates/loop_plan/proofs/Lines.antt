-- Lines by parts with a space in front.
use Rattle.std.proofs.Common.{◌≡◌, ◌<◌, ◌+◌, ℕ, refl, sym, ap, ◌∙◌, List, [], ◌∷◌, ◌++◌, append_assoc, append-nil, length, get_or, take, map}
use Rattle.std.proofs.lemmas.List.{take_more, map-append}
use Rattle.op_num.specs.Lines.{line_of}
use Rattle.loop_plan.specs.Spaced.{spaced}

pub line_is_spaced : (t : List ℕ) (ts : List (List ℕ)) → line_of (t ∷ ts) ≡ t ++ (spaced ts ++ (10 ∷ []))
line_is_spaced t [] = refl
line_is_spaced t (u ∷ us) = ap (λ (z : List ℕ). t ++ (32 ∷ z)) (line_is_spaced u us ∙ sym (append_assoc u (spaced us) (10 ∷ [])))

pub spaced_append : (xs ys : List (List ℕ)) → spaced (xs ++ ys) ≡ spaced xs ++ spaced ys
spaced_append [] ys = refl
spaced_append (t ∷ ts) ys =
    ap (λ (z : List ℕ). 32 ∷ (t ++ z)) (spaced_append ts ys) ∙ ap (λ (z : List ℕ). 32 ∷ z) (sym (append_assoc t (spaced ts) (spaced ys)))

-- a space and then a part
pub part_put : (old between now part : List ℕ)
    → between ≡ old ++ 32 ∷ []
    → now ≡ between ++ part
    → now ≡ old ++ spaced (part ∷ [])
part_put old between now part b n =
    n
    ∙ (ap (λ (z : List ℕ). z ++ part) b
    ∙ (append_assoc old (32 ∷ []) part ∙ ap (λ (z : List ℕ). old ++ 32 ∷ z) (sym (append-nil part))))

-- parts behind others
pub parts_put : (old between now : List ℕ) (xs ys : List (List ℕ))
    → between ≡ old ++ spaced xs
    → now ≡ between ++ spaced ys
    → now ≡ old ++ spaced (xs ++ ys)
parts_put old between now xs ys b n =
    n
    ∙ (ap (λ (z : List ℕ). z ++ spaced ys) b
    ∙ (append_assoc old (spaced xs) (spaced ys) ∙ ap (λ (z : List ℕ). old ++ z) (sym (spaced_append xs ys))))

-- a whole line: its first part, the others, and LF
pub line_put : (old first between now head : List ℕ) (parts : List (List ℕ))
    → first ≡ old ++ head
    → between ≡ first ++ spaced parts
    → now ≡ between ++ 10 ∷ []
    → now ≡ old ++ line_of (head ∷ parts)
line_put old first between now head parts f b n =
    n
    ∙ (ap (λ (z : List ℕ). z ++ 10 ∷ []) (b ∙ ap (λ (z : List ℕ). z ++ spaced parts) f ∙ append_assoc old head (spaced parts))
    ∙ (append_assoc old (head ++ spaced parts) (10 ∷ [])
    ∙ (ap (λ (z : List ℕ). old ++ z) (append_assoc head (spaced parts) (10 ∷ [])) ∙ ap (λ (z : List ℕ). old ++ z) (sym (line_is_spaced head parts)))))

-- one part more
pub parts_more : (f : ℕ → List ℕ) (xs : List ℕ) (i : ℕ) (part old between now : List ℕ)
    → i < length xs
    → part ≡ f (get_or xs i 0)
    → between ≡ old ++ spaced (map f (take i xs))
    → now ≡ between ++ spaced (part ∷ [])
    → now ≡ old ++ spaced (map f (take (i + 1) xs))
parts_more f xs i part old between now l e b n =
    parts_put old between now (map f (take i xs)) (part ∷ []) b n
    ∙ (ap (λ z. old ++ spaced (map f (take i xs) ++ z ∷ [])) e
    ∙ ap (λ (z : List (List ℕ)). old ++ spaced z) (sym (map-append f (take i xs) (get_or xs i 0 ∷ [])) ∙ sym (ap (map f) (take_more xs i 0 l))))
