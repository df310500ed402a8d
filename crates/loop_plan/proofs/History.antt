-- Exchanges by one bit a dat are those of the history.
use Rattle.std.proofs.Common.{◌≡◌, ◌<◌, ◌≤◌, ℕ, Bool, true, false, sym, ap, ◌∙◌, arith, ⊎_elim, List, [], ◌∷◌, length}
use Rattle.std.specs.Prelude.{◌&&◌, nat_eq}
use Rattle.std.specs.List.{list_any}
use Rattle.std.proofs.lemmas.Bool.{cases_Bool, cases_lt, false≢true, or_cases, and_parts, eqb-true}
use Rattle.std.proofs.lemmas.List.{get_or_past}
use Rattle.lemmas.specs.Below.{listed}
use Rattle.lemmas.proofs.Below.{listed_agree}
use Rattle.mesh_decl.specs.Mesh.{dat_count}
use Rattle.schedule_model.proofs.Public.{from_bit}
use Rattle.bound_program.specs.declared.sites.Arg.{Arg}
use Rattle.bound_program.specs.declared.sites.Arg.TheVariants.{Dat, Global}
use Rattle.bound_program.specs.Values.{Exit, ItemValue, Free, Reduce, Ordered, Host, BoundValue}
use Rattle.bound_program.specs.Classes.{scatters}
use Rattle.loop_plan.specs.Values.{PlanValue, item_plan, no_item_plan}
use Rattle.loop_plan.specs.Needs.{arg_needs, reads_copies, needs, item_at, free_args, run_of, item_modifies, item_needs, exchanges, stale_before, exchanged_at, AreOfDats, IsLoopOf, IsInRange, AreExchanges}
use Rattle.loop_plan.proofs.Numbers.{is_listed, not_listed}
use Rattle.std.proofs.Math.Bool.{and_comm}

-- what arguments need is one of their dats
needed_within : (n d : ℕ) (scattering : Bool) (args : List Arg) → AreOfDats n args → list_any (arg_needs scattering d) args ≡ true → d < n
needed_within n d scattering [] h t = absurd (false≢true t)
needed_within n d scattering (Dat e v a ∷ xs) h t = ⊎_elim
    (λ (u : (nat_eq e d && reads_copies scattering v a) ≡ true). let q : e ≡ d = eqb-true e d (and_parts (nat_eq e d) (reads_copies scattering v a) u).0 in let l : e < n = h.0 in omega arith)
    (λ (u : list_any (arg_needs scattering d) xs ≡ true). needed_within n d scattering xs h.1 u)
    (or_cases (nat_eq e d && reads_copies scattering v a) (list_any (arg_needs scattering d) xs) t)
needed_within n d scattering (Global v a ∷ xs) h t = needed_within n d scattering xs h t

module _ (b : BoundValue) (r : IsInRange b) where
  of_dats : (i : ItemValue) → IsLoopOf (length b.sites) (run_of i) → AreOfDats (dat_count b.mesh) (free_args b i)
  of_dats (Free s) l = r.dats s l
  of_dats (Ordered s) l = tt
  of_dats (Reduce s) l = tt
  of_dats (Host a) l = tt

  within : (k d : ℕ) → k < length b.trace → item_needs b k d ≡ true → d < dat_count b.mesh
  within k d l t = needed_within (dat_count b.mesh) d (scatters (free_args b (item_at b k))) (free_args b (item_at b k)) (of_dats (item_at b k) (r.loops k l)) t

  past : (k d : ℕ) → length b.trace ≤ k → item_needs b k d ≡ false
  unfolding item_at
  past k d l = ap (λ i. needs (free_args b i) d) (get_or_past b.trace k (Host Exit) l)

  not_exchanged : (k d : ℕ) → item_needs b k d ≡ false → exchanged_at b k d ≡ false
  not_exchanged k d h = ap (λ z. stale_before b k d && z) h ∙ and_comm (stale_before b k d) false

  module _ (p : PlanValue) (n : length p.items ≡ length b.trace) (h : (k : ℕ) → k < length b.trace → (item_plan p k).exchange ≡ listed (dat_count b.mesh) (exchanged_at b k)) where
    no_item : (k : ℕ) → length b.trace ≤ k → item_plan p k ≡ no_item_plan
    unfolding item_plan
    no_item k l = get_or_past p.items k no_item_plan (omega arith)

    in_item : (k d : ℕ) → k < length b.trace → exchanges b p k d ≡ exchanged_at b k d
    in_item k d l = ⊎_elim
        (λ (m : d < dat_count b.mesh). ap (list_any (nat_eq d)) (h k l) ∙ is_listed d (dat_count b.mesh) (exchanged_at b k) m)
        (λ (m : dat_count b.mesh ≤ d).
        ap (list_any (nat_eq d)) (h k l)
        ∙ (not_listed d (dat_count b.mesh) (exchanged_at b k) m
        ∙ sym (⊎_elim
        (λ (t : item_needs b k d ≡ true). let z : d < dat_count b.mesh = within k d l t in absurd (omega arith))
        (λ (f : item_needs b k d ≡ false). not_exchanged k d f)
        (cases_Bool (item_needs b k d)))))
        (cases_lt d (dat_count b.mesh))

    same : (k d : ℕ) → exchanges b p k d ≡ exchanged_at b k d
    same k d = ⊎_elim
        (λ (l : k < length b.trace). in_item k d l)
        (λ (l : length b.trace ≤ k). ap (λ i. list_any (nat_eq d) i.exchange) (no_item k l) ∙ sym (not_exchanged k d (past k d l)))
        (cases_lt k (length b.trace))

    pub are_exchanges : AreExchanges b p
    are_exchanges = record {
      history = λ d. from_bit (λ k. item_modifies b k d) (λ k. item_needs b k d) (λ k. exchanges b p k d) (λ k. same k d ∙ and_comm (stale_before b k d) (item_needs b k d));
      in_order = λ k l. h k l ∙ listed_agree (dat_count b.mesh) (exchanged_at b k) (exchanges b p k) (λ d m. sym (same k d));
    }
