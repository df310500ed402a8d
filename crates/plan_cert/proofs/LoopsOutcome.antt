-- The lines of all loops are there, and are those of plans whose colours keep conflicts apart, or one is refused.
use Rattle.std.proofs.Common.{◌≡◌, ℕ, suc, ◌+◌, ◌^◌, ◌<◌, refl, sym, ap, subst, ◌∙◌, arith, List, [], ◌∷◌, ◌++◌, append-nil, length, length-append, get_or, map, cond, Bool, true, false}
use Rattle.std.proofs.lemmas.Grind.{flat_map-append}
use Rattle.std.proofs.lemmas.List.{map-append}
use Rattle.local_mesh.specs.declared.types.RankMesh.{RankMesh}
use Rattle.colouring.specs.declared.types.Colours.{Colours}
use Rattle.bound_program.specs.Values.{BoundValue}
use Rattle.bound_program.specs.Fits.{site_at}
use Rattle.loop_plan.specs.Values.{SitePlanValue}
use Rattle.loop_plan.specs.Places.{places_of, runs_free}
use Rattle.loop_plan.specs.Proper.{Separate, HasColours, IsSitePlan}
use Rattle.loop_plan.specs.SitePlans.{AreSitePlans}
use Rattle.loop_plan.proofs.Public.{one_each, plans_kept, plans_added, table, length_table, table_at}
use Rattle.plan_cert.specs.Awaited.{ColoursOf, awaited_ranks, awaited_sites, ColourLists, places_in}
use Rattle.plan_cert.specs.Certified.{lists_of, colours_in}
use Rattle.plan_cert.proofs.Outcomes.{Outcome, none_taken, each_taken}
use Rattle.plan_cert.proofs.SiteOutcome.{AreApart, site_taken}

module _ (b : BoundValue) (meshes : List RankMesh) (size : ℕ) where
  -- the first ranks have colours of the loop that keep conflicts apart
  pub record OfRanks (s n : ℕ) (cs : List ColourLists) : Type 0 where
    pub colours : List Colours
    pub are : cs ≡ map lists_of colours
    pub many : length colours ≡ n
    pub apart : (r : ℕ) (d : Colours) → r < n → HasColours b meshes Separate size s r (get_or colours r d)

  -- those of all ranks where the loop runs, else none
  abbrev OfLoop : ℕ → Bool → List ColourLists → Type 0
  OfLoop s true cs = OfRanks s (length meshes) cs
  OfLoop s false cs = cs ≡ []

  -- of the loops below n, those that run have plans with these colours
  pub record OfLoops (n : ℕ) (cs : List ColourLists) : Type 0 where
    pub entries : List (ℕ × SitePlanValue)
    pub are : cs ≡ colours_in entries
    pub plans : AreSitePlans b meshes size n entries

  one_more : (s n : ℕ) (cs ds : List ColourLists) → OfRanks s n cs → AreApart b meshes size s n ds → OfRanks s (suc n) (cs ++ ds)
  one_more s n cs ds t h = record {
    colours = t.colours ++ h.0 ∷ [];
    are = ap (λ z. z ++ ds) t.are ∙ (ap (λ z. map lists_of t.colours ++ z) h.1 ∙ sym (map-append lists_of t.colours (h.0 ∷ [])));
    many = (let e = t.many in omega (arith, length-append t.colours (h.0 ∷ [])));
    apart = λ r d l. one_each t.colours h.0 n (λ r c. HasColours b meshes Separate size s r c) t.many h.2 t.apart r d (omega arith);
  }

  -- the plan of a loop with such colours
  plan_of : (s : ℕ) (cs : List ColourLists) → OfRanks s (length meshes) cs → SitePlanValue
  plan_of s cs t = record { places = table (length meshes) (places_of meshes (site_at b s)); colours = t.colours }

  plan_is : (s : ℕ) (cs : List ColourLists) (t : OfRanks s (length meshes) cs) → IsSitePlan b meshes size s (plan_of s cs t)
  unfolding plan_of
  plan_is s cs t = record {
    places_count = length_table (length meshes) (places_of meshes (site_at b s));
    places = λ r l. table_at (length meshes) (places_of meshes (site_at b s)) r 0 l;
    colours_count = t.many;
    colours = λ r d l. t.apart r d l;
  }

  more_loops : (n : ℕ) (cs ds : List ColourLists) → OfLoops n cs → (t : Bool) → runs_free b n ≡ t → OfLoop n t ds → OfLoops (suc n) (cs ++ ds)
  unfolding plan_of
  more_loops n cs ds h true e t =
      let l : SitePlanValue = plan_of n ds t in
      let next : n + 1 ≡ suc n = omega arith in
      record {
        entries = h.entries ++ (n, l) ∷ [];
        are =
            ap (λ z. z ++ ds) h.are
            ∙ (ap (λ z. colours_in h.entries ++ z) (t.are ∙ sym (append-nil (map lists_of t.colours)))
            ∙ sym (flat_map-append (λ (e : ℕ × SitePlanValue). map lists_of e.1.colours) h.entries ((n, l) ∷ [])));
        plans = subst (λ z. AreSitePlans b meshes size z (h.entries ++ (n, l) ∷ [])) next
            (plans_added b (IsSitePlan b meshes size) n h.entries (h.entries ++ (n, l) ∷ []) l e (plan_is n ds t) refl h.plans);
      }
  more_loops n cs ds h false e t =
      let next : n + 1 ≡ suc n = omega arith in
      record {
        entries = h.entries;
        are = ap (λ z. cs ++ z) t ∙ (append-nil cs ∙ h.are);
        plans = subst (λ z. AreSitePlans b meshes size z h.entries) next (plans_kept b (IsSitePlan b meshes size) n h.entries e h.plans);
      }

  module _ (some : 0 < size) (few : (s r : ℕ) → s < length b.sites → runs_free b s ≡ true → r < length meshes → places_in b meshes s r < 2 ^ 63) where
    loop_taken : (s : ℕ) → s < length b.sites → (t : Bool) → runs_free b s ≡ t → (bytes : List ℕ) → Outcome b meshes size (cond t (awaited_ranks b meshes s) []) bytes (OfLoop s t)
    loop_taken s l true e bytes =
        each_taken b meshes size (λ r. ColoursOf s r ∷ []) (OfRanks s) (AreApart b meshes size s) (length meshes)
        (record { colours = []; are = refl; many = refl; apart = λ r d lr. absurd (omega arith) })
        (λ r cs ds lr. one_more s r cs ds)
        (λ r rest lr. site_taken b meshes size s r some (few s r l e lr) rest) bytes
    loop_taken s l false e bytes = none_taken b meshes size bytes (λ cs. cs ≡ []) refl

    pub loops_taken : (bytes : List ℕ) → Outcome b meshes size (awaited_sites b meshes (length b.sites)) bytes (OfLoops (length b.sites))
    loops_taken bytes =
        each_taken b meshes size (λ s. cond (runs_free b s) (awaited_ranks b meshes s) []) OfLoops (λ s. OfLoop s (runs_free b s)) (length b.sites)
        (record { entries = []; are = refl; plans = record { keys = refl; plans = λ s l run. absurd (omega arith) } })
        (λ s cs ds l h t. more_loops s cs ds h (runs_free b s) refl t)
        (λ s rest l. loop_taken s l (runs_free b s) refl rest) bytes
