-- The greatest number of a list, with one number more.
use Rattle.std.proofs.Common.{◌≡◌, ◌<◌, ◌+◌, max, ℕ, List, [], ◌∷◌, ◌++◌, All, map, length, take, get_or, refl, sym, ap, ◌∙◌, subst, arith}
use Rattle.std.proofs.lemmas.List.{map-append, take_more, length-map, get_or-map}
use Rattle.bound_program.specs.declared.sites.Site.{Site}
use Rattle.bound_program.specs.Values.{BoundValue, SiteValue, site_of, no_site}
use Rattle.bound_program.specs.Fits.{SiteFits}
use Rattle.rank_layout.specs.Tables.{most}

pub most_more : (xs : List ℕ) (y : ℕ) → most (xs ++ y ∷ []) ≡ max y (most xs)
most_more [] y = refl
most_more (x ∷ xs) y = let more = most_more xs y in ap (max x) more ∙ swapped x y (most xs)
  where
    swapped : (a b d : ℕ) → max a (max b d) ≡ max b (max a d)
    swapped a b d = omega arith

pub widest_more : {X : Type 0} (f : X → ℕ) (xs : List X) (i : ℕ) (d : X) → i < length xs
    → most (map f (take (i + 1) xs)) ≡ max (f (get_or xs i d)) (most (map f (take i xs)))
widest_more f xs i d lt =
    ap (λ z. most (map f z)) (take_more xs i d lt) ∙ ap most (map-append f (take i xs) (get_or xs i d ∷ []))
    ∙ most_more (map f (take i xs)) (f (get_or xs i d))

-- a loop, as it is read
pub site_at : (sites : List Site) (i : ℕ) (x : Site) → i < length sites → x ≡ get_or sites i x → get_or (map site_of sites) i no_site ≡ site_of x
site_at sites i x lt e = get_or-map site_of sites i x no_site lt ∙ ap site_of (sym e)

pub site_fits_at : (b : BoundValue) (sites : List Site) (i : ℕ) (x : Site) → All (SiteFits b) (map site_of sites) → i < length sites → x ≡ get_or sites i x
    → SiteFits b (site_of x)
site_fits_at b sites i x all lt e = subst (SiteFits b) (site_at sites i x lt e) (all i no_site (omega (arith, length-map sites site_of)))

pub widest_site : (f : SiteValue → ℕ) (sites : List Site) (i : ℕ) (x : Site) (now width new : ℕ) → i < length sites → x ≡ get_or sites i x
    → now ≡ most (map f (take i (map site_of sites))) → width ≡ f (site_of x) → new ≡ max width now
    → new ≡ most (map f (take (i + 1) (map site_of sites)))
widest_site f sites i x now width new lt e is w m =
    m ∙ ap (λ z. max z now) (w ∙ sym (ap f (site_at sites i x lt e))) ∙ ap (max (f (get_or (map site_of sites) i no_site))) is
    ∙ sym (widest_more f (map site_of sites) i no_site (omega (arith, length-map sites site_of)))
