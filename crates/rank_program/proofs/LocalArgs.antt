-- Arguments by local numbers have their cells where the arguments have them.
use Rattle.std.proofs.Common.{◌≡◌, ◌<◌, ◌≤◌, ◌+◌, ◌*◌, ℕ, zero, suc, refl, sym, ap, ap₂, ◌∙◌, subst, Option, Some, None, ⊎_elim, arith, List, [], ◌∷◌, All, map, take, length, get_or, set, get_or-set_other, get_or-set_same}
use Rattle.std.specs.Prelude.{slice_index}
use Rattle.std.proofs.lemmas.Bool.{cases_eq}
use Rattle.std.proofs.lemmas.List.{get_or_default}
use Rattle.kernel_model.specs.declared.types.views.frame.Place.{Place}
use Rattle.mesh_decl.specs.Mesh.{MeshValue, dat_dim}
use Rattle.local_mesh.specs.declared.types.RankMesh.{RankMesh}
use Rattle.bound_program.specs.declared.sites.Arg.{Arg}
use Rattle.bound_program.specs.declared.sites.Arg.TheVariants.{Dat, Global}
use Rattle.run_model.specs.Arguments.{no_arg}
use Rattle.kernel_runs.specs.declared.row_batches.batch_tables.args.LocalArg.{LocalArg}
use Rattle.rank_layout.specs.DatWindows.{local_by, ArgHere}
use Rattle.rank_program.specs.Here.{arg_place}
use Rattle.kernel_runs.specs.Ways.{local_in}
use Rattle.rank_program.specs.LocalArgs.{IsArg, AreArgs, InBuffer, place_in, places_in}

module _ (x : ℕ) where
  -- one more is put down
  next_place : (ls : List (Option LocalArg)) (ps : List Place) (i : ℕ) (l : Option LocalArg) (p : Place) → i < length ls → length ps ≡ length ls
      → set (places_in x (take i ls) ps) i (place_in x (get_or ls i l) (get_or (places_in x (take i ls) ps) i p)) ≡ places_in x (take (suc i) ls) ps
  next_place [] ps i l p lt n = absurd (omega arith)
  next_place (k ∷ ls) [] i l p lt n = absurd (omega (arith, n))
  next_place (k ∷ ls) (q ∷ ps) zero l p lt n = refl
  next_place (k ∷ ls) (q ∷ ps) (suc i) l p lt n = ap (λ z. place_in x k q ∷ z) (next_place ls ps i l p (omega (arith, lt)) (omega (arith, n)))

  pub put_next : (ls : List (Option LocalArg)) (ps qs : List Place) (i : ℕ) (l : Option LocalArg) (p new : Place) → i < length ls → length ps ≡ length ls
      → qs ≡ places_in x (take i ls) ps → new ≡ place_in x (get_or ls i l) (get_or qs i p) → set qs i new ≡ places_in x (take (i + 1) ls) ps
  put_next ls ps qs i l p new lt n so is =
      let next : suc i ≡ i + 1 = omega arith in
      ap (set qs i) is ∙ ap (λ zs. set zs i (place_in x (get_or ls i l) (get_or zs i p))) so
      ∙ next_place ls ps i l p lt n ∙ ap (λ k. places_in x (take k ls) ps) next

-- the places of another place of the rank, and then those of this one
put_again : (x y : ℕ) (l : Option LocalArg) (p : Place) → place_in y l (place_in x l p) ≡ place_in y l p
put_again x y None p = refl
put_again x y (Some a) p = refl

pub all_again : (x y : ℕ) (ls : List (Option LocalArg)) (ps : List Place) → places_in y ls (places_in x ls ps) ≡ places_in y ls ps
all_again x y [] ps = refl
all_again x y (l ∷ ls) [] = refl
all_again x y (l ∷ ls) (p ∷ ps) = ap₂ (λ z zs. z ∷ zs) (put_again x y l p) (all_again x y ls ps)

module _ (g : MeshValue) (m : RankMesh) where
  others : (a : Arg) (rest : List Arg) (l : Option LocalArg) (ls : List (Option LocalArg)) → AreArgs g m (a ∷ rest) (l ∷ ls) → AreArgs g m rest ls
  others a rest l ls are = (let n = are.0 in omega (arith, n), λ i d e lt. are.1 (suc i) d e (omega (arith, lt)))

  -- one more is put down
  pub one_more : (args : List Arg) (locals : List (Option LocalArg)) (k : ℕ) (new : Option LocalArg) → k < length locals
      → ((i : ℕ) (a : Arg) (l : Option LocalArg) → i < k → IsArg g m (get_or args i a) (get_or locals i l))
      → (b : Arg) → k < length args → IsArg g m (get_or args k b) new
      → (i : ℕ) (a : Arg) (l : Option LocalArg) → i < k + 1 → IsArg g m (get_or args i a) (get_or (set locals k new) i l)
  one_more args locals k new there before b is one i a l lt =
      ⊎_elim
      (λ (e : i ≡ k). subst (λ j. IsArg g m (get_or args j a) (get_or (set locals k new) j l)) (sym e)
      (subst (IsArg g m (get_or args k a)) (sym (get_or-set_same locals k new l there)) (subst (λ z. IsArg g m z new) (get_or_default args k b a is) one)))
      (λ (ne : i ≡ k → ⊥). subst (IsArg g m (get_or args i a)) (sym (get_or-set_other locals k i new l ne)) (before i a l (omega (arith, lt, ne))))
      (cases_eq i k)

  module _ (x : ℕ) where
    -- where the rank has the argument for a place, its cells stand there
    stands : (a : Arg) (l : Option LocalArg) → IsArg g m a l → ArgHere g m x a → InBuffer x m.cells l × ((p : Place) → place_in x l p ≡ arg_place g m x p a)
    stands (Dat d v acc) None is here = absurd is
    stands (Dat d v acc) (Some y) is here =
        let via = is.2.1 x here.2 in
        let reached : y.base + local_in y.via x * y.dim ≡ slice_index m.bases.items d + local_by g m x v * dat_dim g d =
        ap₂ (λ n k. n + k) is.0 (ap₂ (λ n k. n * k) via.1 is.1) in
        let end : y.base + (local_in y.via x + 1) * y.dim ≡ slice_index m.bases.items d + (local_by g m x v + 1) * dat_dim g d =
        ap₂ (λ n k. n + k) is.0 (ap₂ (λ n k. (n + 1) * k) via.1 is.1) in
        ((via.0, subst (λ n. n ≤ m.cells) (sym end) here.3), λ p. ap₂ (λ n k. record { from = n; count = k }) reached is.1)
    stands (Global v acc) None is here = (tt, λ p. refl)
    stands (Global v acc) (Some y) is here = absurd is

    -- where the arguments stand, if those on variables stand at these places
    pub same_places : (at : Arg → Place) (args : List Arg) (locals : List (Option LocalArg)) → AreArgs g m args locals → All (ArgHere g m x) args
        → places_in x locals (map at args) ≡ map (λ y. arg_place g m x (at y) y) args
    same_places at [] [] are here = refl
    same_places at [] (l ∷ ls) are here = let n = are.0 in absurd (omega (arith, n))
    same_places at (a ∷ rest) [] are here = let n = are.0 in absurd (omega (arith, n))
    same_places at (a ∷ rest) (l ∷ ls) are here =
        ap₂ (λ z zs. z ∷ zs) ((stands a l (are.1 0 a l (omega arith)) (here 0 a (omega arith))).1 (at a))
        (same_places at rest ls (others a rest l ls are) (λ i d lt. here (suc i) d (omega (arith, lt))))

    pub in_buffer : (args : List Arg) (locals : List (Option LocalArg)) → AreArgs g m args locals → All (ArgHere g m x) args → All (InBuffer x m.cells) locals
    in_buffer args locals are here i d lt =
        let n = are.0 in
        let there : i < length args = omega (arith, lt, n) in
        (stands (get_or args i no_arg) (get_or locals i d) (are.1 i no_arg d there) (here i no_arg there)).0
