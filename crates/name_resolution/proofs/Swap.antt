-- The first of two lists of breaches doesn't turn on which of them comes first.
use Rattle.std.proofs.Common.{◌≡◌, ◌∙◌, ◌⊎◌, inl, inr, List, [], ◌∷◌, ◌++◌, Option, Some, None, refl, sym, ap, append-nil}
use Rattle.std.specs.List.{Contains}
use Rattle.std.proofs.lemmas.List.Elements.{Contains-append_cases, Contains-append_right, Contains-append_left}
use Rattle.name_resolution.specs.declared.breaches.Breach.{Breach}
use Rattle.name_resolution.specs.First.{IsFirst, least_from}
use Rattle.name_resolution.proofs.Firsts.{least_append}
use Rattle.name_resolution.proofs.Least.{kept_is_first, keeps_some}
use Rattle.name_resolution.proofs.Unique.{one_first}

-- lists with the same members have the same first
same_members : (a : Breach) (cs : List Breach) (b : Breach) (bs : List Breach) → ((r : Breach) → Contains (a ∷ cs) r → Contains (b ∷ bs) r)
    → ((r : Breach) → Contains (b ∷ bs) r → Contains (a ∷ cs) r) → least_from (Some a) cs ≡ least_from (Some b) bs
same_members a cs b bs f g = by (least_from (Some a) cs) (least_from (Some b) bs) refl refl
  where
    by : (o p : Option Breach) → least_from (Some a) cs ≡ o → least_from (Some b) bs ≡ p → o ≡ p
    by None p h k = absurd (keeps_some a cs (sym h))
    by (Some r) None h k = absurd (keeps_some b bs (sym k))
    by (Some r) (Some s) h k =
        let u : IsFirst (a ∷ cs) r = kept_is_first a r cs h in
        let v : IsFirst (b ∷ bs) s = kept_is_first b s bs k in
        ap Some (one_first r s (u.first s (g s v.there)) (v.first r (f r u.there)))

swapped : (xs ys : List Breach) (r : Breach) → Contains (xs ++ ys) r → Contains (ys ++ xs) r
swapped xs ys r h = by (Contains-append_cases xs ys r h)
  where
    by : Contains xs r ⊎ Contains ys r → Contains (ys ++ xs) r
    by (inl p) = Contains-append_right ys xs r p
    by (inr q) = Contains-append_left ys xs r q

swapped_behind : (a : Breach) (xs ys : List Breach) (r : Breach) → Contains (a ∷ (xs ++ ys)) r → Contains (a ∷ (ys ++ xs)) r
swapped_behind a xs ys r h = by (Contains-append_cases (a ∷ []) (xs ++ ys) r h)
  where
    by : Contains (a ∷ []) r ⊎ Contains (xs ++ ys) r → Contains (a ∷ (ys ++ xs)) r
    by (inl p) = Contains-append_left (a ∷ []) (ys ++ xs) r p
    by (inr q) = Contains-append_right (a ∷ []) (ys ++ xs) r (swapped xs ys r q)

least_swap : (f : Option Breach) (xs ys : List Breach) → least_from f (xs ++ ys) ≡ least_from f (ys ++ xs)
least_swap None [] ys = ap (λ zs. least_from None zs) (sym (append-nil ys))
least_swap None (x ∷ xs) [] = ap (λ zs. least_from None zs) (append-nil (x ∷ xs))
least_swap None (x ∷ xs) (y ∷ ys) = same_members x (xs ++ y ∷ ys) y (ys ++ x ∷ xs) (swapped (x ∷ xs) (y ∷ ys)) (swapped (y ∷ ys) (x ∷ xs))
least_swap (Some a) xs ys = same_members a (xs ++ ys) a (ys ++ xs) (swapped_behind a xs ys) (swapped_behind a ys xs)

-- the second of them before the first
pub least_behind : (f : Option Breach) (a b : List Breach) → least_from f (a ++ b) ≡ least_from (least_from f b) a
least_behind f a b = least_swap f a b ∙ least_append f b a
