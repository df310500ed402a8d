-- All items.
use Rattle.std.proofs.Common.{◌≡◌, ℕ, ℤ, zero, suc, ◌<◌, ◌≤◌, Bool, true, false, ◌⊎◌, inl, inr, refl, sym, ap, subst, ◌∙◌, arith, ⊎_elim, Option, Some, None, List}
use Rattle.std.specs.Prelude.{◌&&◌, ◌==◌, is_some}
use Rattle.std.proofs.lemmas.Bool.{cases_Bool, false≢true, false_from_ne_true, cond_both, cond-true, cond-false, eq-eqb}
use Rattle.schedule_model.specs.Cells.{Data, Variable, DatCell, VarCell, Store}
use Rattle.schedule_model.specs.Program.{Free, is_free, elements}
use Rattle.schedule_model.specs.Setup.{Setup, owner_of}
use Rattle.schedule_model.specs.Sequential.{Seq, Stopped, Going, seq, sequential}
use Rattle.schedule_model.specs.Machine.{unit_at}
use Rattle.schedule_model.specs.Laws.{Lawful}
use Rattle.schedule_model.specs.Tests.{free_kind}
use Rattle.schedule_model.proofs.Public.{Reductions, good_unit, last, owner_below, store_of, output_of, is_going, store_at, going_down, is_reduce, reduce_kind, source, source_self}
use Rattle.chain_model.specs.Slicing.{pair_owner}
use Rattle.chain_model.specs.Machine.{pair_values, ChainState, chain_start, gathered, supplied, item_run, chain_items, chain_machine, ChainAgrees}
use Rattle.chain_model.specs.ChainLaws.{AreSlices, IsHeld, KeepsNeeds, sliced}
use Rattle.chain_model.proofs.Given.{Given, chains, Comes, part}
use Rattle.chain_model.proofs.Stores.{IsValue, cell_is, some_is, GoodPair}
use Rattle.chain_model.proofs.Invariants.{Doing, During, Before}
use Rattle.chain_model.proofs.Ranks.{supplies, free_item}
use Rattle.chain_model.proofs.Joins.{Halted, join_item}

held_from : (o : Option (ℕ → ℤ)) (u : ℕ → ℤ) → ((i : ℕ) → IsValue o i (u i)) → IsHeld o u
held_from None u h = h 0
held_from (Some v) u h = h

module _ {F : Type 0} (g : Given F) where
  not_reduce_first : is_reduce (g.p.program.kind 0) ≡ false
  not_reduce_first = ⊎_elim (λ t. absurd (g.q.lawful.items.first_item (reduce_kind (g.p.program.kind 0) t))) (λ t. t) (cases_Bool (is_reduce (g.p.program.kind 0)))

  starts : Before g 0 (chain_start (chains g))
  starts = record {
    running = refl;
    told = refl;
    sane = record {
      stores = λ r d y. cond_both (pair_owner (chains g) d y == r) (Some (pair_values g.p.program.start d y)) None GoodPair
          (λ h i. g.q.lawful.kernels.start_in_range (Data (record { dat = d; element = y; component = i }))) (λ h. tt);
      variables = λ v. g.q.lawful.kernels.start_in_range (Variable v);
      parts = λ r s v. good_unit g.p g.q (g.p.reduces s v);
    };
    recorded = tt;
    kept = λ j e f l. absurd (omega arith);
    went = λ j l. absurd (omega arith);
    own = λ go r lr x o. some_is (pair_owner (chains g) x.dat x.element == r) (pair_values g.p.program.start x.dat x.element) None
        x.component (g.p.program.start (Data x)) (eq-eqb (pair_owner (chains g) x.dat x.element) r o) refl;
    inside = λ go f. absurd (false≢true f);
    variables = λ go v. refl;
    parts = λ go r lr s v. sym (cond-false (is_reduce (g.p.program.kind 0) && (s == g.p.program.site 0)) (part g (source g.p 0) r (elements g.p.program (source g.p 0)) v) (unit_at (g.p.reduces s v))
        (ap (λ x. x && (s == g.p.program.site 0)) not_reduce_first));
  }

  one_item : (k : ℕ) → k < g.p.program.items → (st : ChainState F) → Before g k st
      → Before g (suc k) (item_run (chains g) k (g.p.program.kind k) st) ⊎ Halted g (suc k) (item_run (chains g) k (g.p.program.kind k) st)
  one_item k low st b = ⊎_elim
      (λ (f : is_free (g.p.program.kind k) ≡ true).
      let free : g.p.program.kind k ≡ Free = free_kind (g.p.program.kind k) f in
      inl (subst (λ y. Before g (suc k) (item_run (chains g) k y st)) (sym free) (free_item g k free st b)))
      (λ (f : is_free (g.p.program.kind k) ≡ false). join_item g k low f st b)
      (cases_Bool (is_free (g.p.program.kind k)))

  pub holds : (k : ℕ) → k ≤ g.p.program.items → Before g k (chain_items (chains g) k) ⊎ Halted g k (chain_items (chains g) k)
  holds zero le = inl starts
  holds (suc k) le = ⊎_elim
      (λ (b : Before g k (chain_items (chains g) k)).
      subst (λ u. Before g (suc k) u ⊎ Halted g (suc k) u)
      (sym (cond-false (is_some (chain_items (chains g) k).stop) (chain_items (chains g) k) (item_run (chains g) k (g.p.program.kind k) (chain_items (chains g) k)) (ap is_some b.running)))
      (one_item k (omega arith) (chain_items (chains g) k) b))
      (λ (h : Halted g k (chain_items (chains g) k)).
      subst (λ u. Before g (suc k) u ⊎ Halted g (suc k) u)
      (sym (cond-true (is_some (chain_items (chains g) k).stop) (chain_items (chains g) k) (item_run (chains g) k (g.p.program.kind k) (chain_items (chains g) k)) h.halted))
      (inr (record {
        halted = h.halted;
        over = false_from_ne_true (is_going (seq g.p.program (suc k))) (λ t. false≢true (sym h.over ∙ going_down g.p k (suc k) (omega arith) t));
        agrees = h.agrees;
      })))
      (holds k (omega arith))

  last_going : (st : ChainState F) (n : ℕ) → g.p.program.items ≡ n → Before g n st → is_going (seq g.p.program n) ≡ true
  last_going st zero e b = refl
  last_going st (suc n) e b = b.went n (omega arith) (last g.p g.q n e)

  last_source : (n : ℕ) → g.p.program.items ≡ n → source g.p n ≡ n
  last_source zero e = refl
  last_source (suc n) e = source_self g.p (suc n) (⊎_elim
      (λ (t : is_reduce (g.p.program.kind (suc n)) ≡ true). absurd (g.q.lawful.items.last_item n e (g.q.lawful.items.reduce_after n (reduce_kind (g.p.program.kind (suc n)) t)).0))
      (λ t. t)
      (cases_Bool (is_reduce (g.p.program.kind (suc n)))))

  at_end : (st : ChainState F) → Before g g.p.program.items st → ChainAgrees (chains g) (sequential g.p.program) st
  at_end st b = ends_going (seq g.p.program g.p.program.items) refl
    where
      going : is_going (seq g.p.program g.p.program.items) ≡ true
      going = last_going st g.p.program.items refl b

      owned : (x : DatCell) → gathered (chains g) st (Data x) ≡ store_at g.p g.p.program.items (Data x)
      owned x = cell_is (st.stores (owner_of g.p x)) x (store_at g.p g.p.program.items (Data x)) (b.own going (owner_of g.p x) (owner_below g.p g.q x) x refl)

      held : (v : VarCell) → st.variables v ≡ store_at g.p g.p.program.items (Variable v)
      held v = b.variables going v ∙ ap (λ j. store_at g.p j (Variable v)) (last_source g.p.program.items refl)

      ends_going : (s : Seq F) → seq g.p.program g.p.program.items ≡ s → ChainAgrees (chains g) s st
      ends_going (Stopped x t o) e = absurd (false≢true (ap is_going (sym e) ∙ going))
      ends_going (Going s o) e = (b.running, b.told ∙ ap output_of e, λ x. owned x ∙ ap (λ z. store_of z (Data x)) e, λ v. held v ∙ ap (λ z. store_of z (Variable v)) e)

  all_agree : ChainAgrees (chains g) (sequential g.p.program) (chain_machine (chains g))
  all_agree = ⊎_elim
      (λ (b : Before g g.p.program.items (chain_machine (chains g))). at_end (chain_machine (chains g)) b)
      (λ (h : Halted g g.p.program.items (chain_machine (chains g))). h.agrees)
      (holds g.p.program.items (omega arith))

  -- ---- what the ranks need
  doing_at : (k r : ℕ) (st : ChainState F) → During g k 0 0 st → Comes g k → r < g.p.ranks → Doing g k r 0 st
  doing_at k zero st d go lr = d.now go lr
  doing_at k (suc r) st d go lr = d.behind go (suc r) (omega arith) lr

  needs_hold : (k r d y : ℕ) (s : Store) (o : List ℕ) → g.p.program.kind k ≡ Free → seq g.p.program k ≡ Going s o → r < g.p.ranks → g.needs k r d y ≡ true
      → (st : ChainState F) → Before g k st → IsHeld ((supplied (chains g) k st).stores r d y) (pair_values s d y)
  needs_hold k r d y s o free e lr need st b = held_from ((supplied (chains g) k st).stores r d y) (pair_values s d y)
      (λ i. subst (λ z. IsValue ((supplied (chains g) k st).stores r d y) i (z (Data (record { dat = d; element = y; component = i })))) (ap store_of e)
      ((doing_at k r (supplied (chains g) k st) (supplies g k free st b) (ap is_going e) lr).cells (record { dat = d; element = y; component = i }) need))

  keeps_needs : KeepsNeeds (chains g)
  keeps_needs k r d y s o low free e lr need = ⊎_elim
      (λ (b : Before g k (chain_items (chains g) k)). needs_hold k r d y s o free e lr need (chain_items (chains g) k) b)
      (λ (h : Halted g k (chain_items (chains g) k)). absurd (false≢true (sym h.over ∙ ap is_going e)))
      (holds k (omega arith))

given : Reductions → {F : Type 0} (p : Setup F) (needs : ℕ → ℕ → ℕ → ℕ → Bool) (executes : ℕ → ℕ → ℕ → Bool) → Lawful p → AreSlices p needs executes → Given F
given laws p needs executes lawful are = record { p = p; q = record { lawful = lawful; reductions = laws }; needs = needs; executes = executes; are = are }

pub agrees : Reductions → {F : Type 0} (p : Setup F) (needs : ℕ → ℕ → ℕ → ℕ → Bool) (executes : ℕ → ℕ → ℕ → Bool) → Lawful p → AreSlices p needs executes
    → ChainAgrees (sliced p needs executes) (sequential p.program) (chain_machine (sliced p needs executes))
unfolding given
agrees laws p needs executes lawful are = all_agree (given laws p needs executes lawful are)

pub kept : Reductions → {F : Type 0} (p : Setup F) (needs : ℕ → ℕ → ℕ → ℕ → Bool) (executes : ℕ → ℕ → ℕ → Bool) → Lawful p → AreSlices p needs executes → KeepsNeeds (sliced p needs executes)
unfolding given
kept laws p needs executes lawful are = keeps_needs (given laws p needs executes lawful are)
