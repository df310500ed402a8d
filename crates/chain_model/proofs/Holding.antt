-- What stores hold, and that recorded faults are of elements.
use Rattle.std.proofs.Common.{◌≡◌, ℕ, ℤ, zero, suc, Bool, true, false, cond, refl, sym, ap, subst, ◌∙◌, Option, Some, None, List, [], ◌∷◌, ◌++◌}
use Rattle.std.specs.Prelude.{◌==◌, not, is_some}
use Rattle.std.proofs.lemmas.Bool.{cond_both, cond-true, cond-false, and_left, eqb-true}
use Rattle.schedule_model.specs.Cells.{Store}
use Rattle.schedule_model.specs.Effects.{Ran, Faulted, Finished}
use Rattle.schedule_model.specs.Program.{Kind, Free, Reduce, Ordered, Host, Hosted, Halts, Goes, is_free, elements}
use Rattle.schedule_model.specs.Sequential.{Stop, Loop, Broke, Ran_through, loop}
use Rattle.schedule_model.specs.Machine.{least}
use Rattle.schedule_model.specs.Kept.{OfElements}
use Rattle.chain_model.specs.Chains.{begins, follows_free}
use Rattle.chain_model.specs.Slicing.{Slicing, pair_owner}
use Rattle.chain_model.specs.Machine.{Holding, replaced, pair_values, left_in, ChainState, gathered, exchanged, supplied, view, ran, one_run, rank_run, ranks_run, reduced, spread, looped, hosted, unless_recorded, item_run, chain_items}
use Rattle.chain_model.specs.Held.{held_at, NeedsOwn, StoresHold}

replaced_some : (u : ℕ → ℤ) (o : Option (ℕ → ℤ)) → is_some (replaced u o) ≡ is_some o
replaced_some u None = refl
replaced_some u (Some v) = refl

of_push : {F : Type 0} (l : List (Stop F)) (x : Stop F) (e : ℕ) → x.element ≡ Some e → OfElements l → OfElements (l ++ (x ∷ []))
of_push [] x e h all = ((e, h), tt)
of_push (z ∷ l) x e h all = (all.0, of_push l x e h all.1)

-- b holds what a holds, is stopped as a is, and has recorded faults of elements where a has
record Like {F : Type 0} (a b : ChainState F) : Type 0 where
  held : (r d y : ℕ) → is_some (b.stores r d y) ≡ is_some (a.stores r d y)
  stop : b.stop ≡ a.stop
  elements : OfElements a.faults → OfElements b.faults

like_self : {F : Type 0} (a : ChainState F) → Like a a
like_self a = record { held = λ r d y. refl; stop = refl; elements = λ h. h }

then : {F : Type 0} (a b c : ChainState F) → Like a b → Like b c → Like a c
then a b c h l = record { held = λ r d y. l.held r d y ∙ h.held r d y; stop = l.stop ∙ h.stop; elements = λ x. l.elements (h.elements x) }

module _ {F : Type 0} (c : Slicing F) (k : ℕ) where
  ran_like : (n e : ℕ) (x : Ran F) (st : ChainState F) → Like st (ran c k n e x st)
  ran_like n e (Faulted f) st = cond_both (c.owner (c.program.set k) e == n) (record st { faults = st.faults ++ (record { item = k; element = Some e; fault = f } ∷ []) }) st (Like st)
      (λ t. record { held = λ r d y. refl; stop = refl; elements = of_push st.faults (record { item = k; element = Some e; fault = f }) e refl })
      (λ t. like_self st)
  ran_like n e (Finished t) st = record {
    held = λ r d y. cond_both (r == n) (left_in t (st.stores n)) (st.stores r) (λ (h : Holding). is_some (h d y) ≡ is_some (st.stores r d y))
        (λ q. replaced_some (pair_values t d y) (st.stores n d y) ∙ ap (λ z. is_some (st.stores z d y)) (sym (eqb-true r n q)))
        (λ q. refl);
    stop = refl;
    elements = λ h. h;
  }

  one_like : (n e : ℕ) (st : ChainState F) → Like st (one_run c k n e st)
  one_like n e st = cond_both (c.executes k n e) (ran c k n e (c.program.run k e (view c k n st)) st) st (Like st)
      (λ t. ran_like n e (c.program.run k e (view c k n st)) st) (λ t. like_self st)

  rank_like : (n m : ℕ) (st : ChainState F) → Like st (rank_run c k n m st)
  rank_like n zero st = like_self st
  rank_like n (suc m) st = then st (rank_run c k n m st) (one_run c k n m (rank_run c k n m st)) (rank_like n m st) (one_like n m (rank_run c k n m st))

  ranks_like : (n : ℕ) (st : ChainState F) → Like st (ranks_run c k n st)
  ranks_like zero st = like_self st
  ranks_like (suc n) st = then st (ranks_run c k n st) (rank_run c k n (elements c.program k) (ranks_run c k n st)) (ranks_like n st) (rank_like n (elements c.program k) (ranks_run c k n st))

  -- the state behind item k
  record Behind (st : ChainState F) : Type 0 where
    held : st.stop ≡ None → (r d y : ℕ) → is_some (st.stores r d y) ≡ held_at c (suc k) r d y
    elements : OfElements st.faults

  module _ (own : NeedsOwn c) (st : ChainState F) (run : st.stop ≡ None) (held : (r d y : ℕ) → is_some (st.stores r d y) ≡ held_at c k r d y) (all : OfElements st.faults) where
    supplied_by : (b : Bool) → begins c.program.kind k ≡ b → (r d y : ℕ) → is_some ((cond b (exchanged c k st) st).stores r d y) ≡ held_at c (suc k) r d y
    supplied_by true h r d y = some_cond (c.needs k r d y) (pair_values (gathered c st) d y) ∙ sym (cond-true (begins c.program.kind k) (c.needs k r d y) (held_at c k r d y) h)
      where
        some_cond : (b : Bool) (u : ℕ → ℤ) → is_some (cond b (Some u) None) ≡ b
        some_cond true u = refl
        some_cond false u = refl
    supplied_by false h r d y = held r d y ∙ sym (cond-false (begins c.program.kind k) (c.needs k r d y) (held_at c k r d y) h)

    supplied_stop : (b : Bool) → (cond b (exchanged c k st) st).faults ≡ st.faults
    supplied_stop true = refl
    supplied_stop false = refl

    free_behind : Behind (item_run c k Free st)
    free_behind =
        let l : Like (supplied c k st) (ranks_run c k c.ranks (supplied c k st)) = ranks_like c.ranks (supplied c k st) in
        record {
          held = λ s r d y. l.held r d y ∙ supplied_by (begins c.program.kind k) refl r d y;
          elements = l.elements (subst OfElements (sym (supplied_stop (begins c.program.kind k))) all);
        }

    -- an item that isn't Free
    module _ (joins : is_free (c.program.kind k) ≡ false) where
      still : (r d y : ℕ) → held_at c (suc k) r d y ≡ held_at c k r d y
      still r d y = cond-false (begins c.program.kind k) (c.needs k r d y) (held_at c k r d y) (and_left (is_free (c.program.kind k)) (not (follows_free c.program.kind k)) joins)

      same_behind : (u : ChainState F) → u.faults ≡ st.faults → (u.stop ≡ None → (r d y : ℕ) → is_some (u.stores r d y) ≡ held_at c k r d y) → Behind u
      same_behind u faults h = record { held = λ s r d y. h s r d y ∙ sym (still r d y); elements = subst OfElements (sym faults) all }

      owns_held : (n r d y : ℕ) → (pair_owner c d y == r) ≡ true → held_at c n r d y ≡ true
      owns_held zero r d y h = h
      owns_held (suc n) r d y h = cond_both (begins c.program.kind n) (c.needs n r d y) (held_at c n r d y) (λ z. z ≡ true) (λ t. own n r d y h) (λ t. owns_held n r d y h)

      spread_held : (t : Store) (r d y : ℕ) → is_some ((spread c t st).stores r d y) ≡ held_at c k r d y
      spread_held t r d y = cond_both (pair_owner c d y == r) (Some (pair_values t d y)) (st.stores r d y) (λ o. is_some o ≡ held_at c k r d y)
          (λ h. sym (owns_held k r d y h)) (λ h. held r d y)

      looped_behind : (x : Loop F) → Behind (looped c k x st)
      looped_behind (Broke e f t) = same_behind (looped c k (Broke e f t) st) refl (λ s. let q : ⊥ = cc in absurd q)
      looped_behind (Ran_through t) = same_behind (spread c t st) refl (λ s r d y. spread_held t r d y)

      hosted_behind : (x : Hosted F) → Behind (hosted k x st)
      hosted_behind (Halts f) = same_behind (hosted k (Halts f) st) refl (λ s. let q : ⊥ = cc in absurd q)
      hosted_behind (Goes v w) = same_behind (hosted k (Goes v w) st) refl (λ s r d y. held r d y)

      unless_behind : (o : Option (Stop F)) (next : ChainState F) → Behind next → Behind (unless_recorded o st next)
      unless_behind None next h = h
      unless_behind (Some x) next h = same_behind (record st { stop = Some x }) refl (λ s. let q : ⊥ = cc in absurd q)

      join_behind : (x : Kind) → c.program.kind k ≡ x → Behind (item_run c k x st)
      join_behind Free i = free_behind
      join_behind Reduce i = unless_behind (least k st.faults) (reduced c k st) (same_behind (reduced c k st) refl (λ s r d y. held r d y))
      join_behind Ordered i = unless_behind (least k st.faults) (looped c k (loop c.program k (elements c.program k) (gathered c st)) st)
          (looped_behind (loop c.program k (elements c.program k) (gathered c st)))
      join_behind Host i = unless_behind (least k st.faults) (hosted k (c.program.host k (gathered c st)) st) (hosted_behind (c.program.host k (gathered c st)))

    by_kind : (x : Kind) → c.program.kind k ≡ x → Behind (item_run c k x st)
    by_kind Free i = free_behind
    by_kind Reduce i = join_behind (ap is_free i) Reduce i
    by_kind Ordered i = join_behind (ap is_free i) Ordered i
    by_kind Host i = join_behind (ap is_free i) Host i

  stopped_behind : (st : ChainState F) → is_some st.stop ≡ true → OfElements st.faults → Behind st
  stopped_behind st h all = record { held = λ s. let q : ⊥ = cc (ap is_some s) in absurd q; elements = all }

none_if : {F : Type 0} (o : Option (Stop F)) → is_some o ≡ false → o ≡ None
none_if None h = refl
none_if (Some x) h = let q : ⊥ = cc in absurd q

pub hold : {F : Type 0} (c : Slicing F) → NeedsOwn c → (k : ℕ) → StoresHold c k
hold c own zero = record { held = λ s r d y. some_own (pair_owner c d y == r) (pair_values c.program.start d y); elements = tt }
  where
    some_own : (b : Bool) (u : ℕ → ℤ) → is_some (cond b (Some u) None) ≡ b
    some_own true u = refl
    some_own false u = refl
hold c own (suc k) =
    let h : StoresHold c k = hold c own k in
    let behind : Behind c k (chain_items c (suc k)) = cond_both (is_some (chain_items c k).stop) (chain_items c k) (item_run c k (c.program.kind k) (chain_items c k)) (Behind c k)
    (λ t. stopped_behind c k (chain_items c k) t h.elements)
    (λ t. let run : (chain_items c k).stop ≡ None = none_if (chain_items c k).stop t in by_kind c k own (chain_items c k) run (h.held run) h.elements (c.program.kind k) refl) in
    record { held = behind.held; elements = behind.elements }
