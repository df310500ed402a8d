-- The loops of a chain, item by item.
use Rattle.std.proofs.Common.{◌≡◌, ◌<◌, ◌+◌, ℕ, suc, false, List, [], ◌∷◌, ◌++◌, length, map, get_or, append_assoc, append-nil, Some, None, refl, sym, ap, subst, ◌∙◌, arith, ⊎_elim}
use Rattle.std.proofs.lemmas.Bool.{cases_eq}
use Rattle.std.proofs.lemmas.List.{map-append, length_push, get_or_push, get_or_append_left}
use Rattle.schedule_model.specs.Program as program
use Rattle.schedule_model.specs.Program.{is_free}
use Rattle.bound_program.specs.Values.{BoundValue, ItemValue, Free, Reduce, Ordered, Host}
use Rattle.bound_program.specs.Fits.{Fits, site_at}
use Rattle.run_model.specs.Programs.{kind_of, loop_of, item_at}
use Rattle.run_model.specs.Laws.{LoopsAreThere, site_of}
use Rattle.chain_model.specs.Slices.{loops_from}
use Rattle.chain_model.proofs.Public.{no_loops, next_loop}
use Rattle.chain_needs.specs.FreeSites.{free_site_of}

pub free_is : (i : ItemValue) (s : ℕ) → free_site_of i ≡ Some s → i ≡ Free s
free_is (Free n) s h = let e : n ≡ s = cc in ap Free e
free_is (Reduce n) s h = let e : ⊥ = cc in absurd e
free_is (Ordered n) s h = let e : ⊥ = cc in absurd e
free_is (Host a) s h = let e : ⊥ = cc in absurd e

free_none : (i : ItemValue) → free_site_of i ≡ None → is_free (kind_of i) ≡ false
free_none (Free n) h = let e : ⊥ = cc in absurd e
free_none (Reduce n) h = refl
free_none (Ordered n) h = refl
free_none (Host a) h = refl

module _ (b : BoundValue) where
  -- one loop more
  pub with_next : (k s item : ℕ) (sites : List ℕ) → free_site_of (item_at b k) ≡ Some s → map (site_at b) sites ++ loops_from b k ≡ loops_from b item
      → map (site_at b) (sites ++ s ∷ []) ++ loops_from b (k + 1) ≡ loops_from b item
  with_next k s item sites h same =
      let i : item_at b k ≡ Free s = free_is (item_at b k) s h in
      let next : loops_from b k ≡ site_at b s ∷ loops_from b (suc k) = next_loop b k (ap kind_of i) ∙ ap (λ z. site_at b (loop_of z) ∷ loops_from b (suc k)) i in
      let one : k + 1 ≡ suc k = omega arith in
      ap (λ z. z ++ loops_from b (k + 1)) (map-append (site_at b) sites (s ∷ []))
      ∙ (append_assoc (map (site_at b) sites) (site_at b s ∷ []) (loops_from b (k + 1))
      ∙ (ap (λ z. map (site_at b) sites ++ (site_at b s ∷ loops_from b z)) one
      ∙ (ap (λ z. map (site_at b) sites ++ z) (sym next) ∙ same)))

  -- the chain ends
  pub without_next : (k item : ℕ) (sites : List ℕ) → free_site_of (item_at b k) ≡ None → map (site_at b) sites ++ loops_from b k ≡ loops_from b item → map (site_at b) sites ≡ loops_from b item
  without_next k item sites h same =
      sym (append-nil (map (site_at b) sites)) ∙ (ap (λ z. map (site_at b) sites ++ z) (sym (no_loops b k (free_none (item_at b k) h))) ∙ same)

  -- the loop is there
  pub one_there : Fits b → LoopsAreThere → (k s : ℕ) (sites : List ℕ) → free_site_of (item_at b k) ≡ Some s
      → ((i : ℕ) → i < length sites → get_or sites i 0 < length b.sites) → (i : ℕ) → i < length (sites ++ s ∷ []) → get_or (sites ++ s ∷ []) i 0 < length b.sites
  one_there fits loops k s sites h there i l =
      let e : item_at b k ≡ Free s = free_is (item_at b k) s h in
      let here : s < length b.sites = subst (λ z. loop_of z < length b.sites) e (loops b k fits (ap (λ z. program.is_loop (kind_of z)) e)) in
      ⊎_elim
      (λ (q : i ≡ length sites). subst (λ z. z < length b.sites) (sym (get_or_push sites s 0 i (sym q))) here)
      (λ (q : i ≡ length sites → ⊥).
      let m : i < length sites = omega (arith, length_push sites s) in
      subst (λ z. z < length b.sites) (sym (get_or_append_left sites (s ∷ []) 0 i m)) (there i m))
      (cases_eq i (length sites))

  -- the loop of an item, by its number
  pub site_is : (k s : ℕ) → free_site_of (item_at b k) ≡ Some s → site_of b k ≡ site_at b s
  site_is k s h = ap (λ z. site_at b (loop_of z)) (free_is (item_at b k) s h)

  pub site_there : Fits b → LoopsAreThere → (k s : ℕ) → free_site_of (item_at b k) ≡ Some s → s < length b.sites
  site_there fits loops k s h =
      let e : item_at b k ≡ Free s = free_is (item_at b k) s h in
      subst (λ z. loop_of z < length b.sites) e (loops b k fits (ap (λ z. program.is_loop (kind_of z)) e))
