-- The exchange before a chain, as the machine has it.
use Rattle.std.proofs.Common.{◌≡◌, ◌<◌, ◌≤◌, ⊎_elim, ℕ, ℤ, pos, Bool, true, false, not, cond, ◌&&◌, nat_lt, List, get_or, Option, Some, None, is_some, refl, sym, ap, ap₂, ◌∙◌, arith}
use Rattle.std.proofs.lemmas.Bool.{eq-eqb, eqb-true, lt-ltb, false≢true}
use Rattle.kernel_model.specs.declared.types.faults.KernelFault.{KernelFault}
use Rattle.mesh_decl.specs.declared.owners.Owners.{Owners}
use Rattle.mesh_decl.specs.Mesh.{IsInRange, dat_set, set_size}
use Rattle.mesh_decl.specs.Owners.{AreOwners, owner_of}
use Rattle.schedule_model.specs.Cells.{Data, Variable, DatCell, VarCell}
use Rattle.bound_program.specs.Values.{BoundValue}
use Rattle.run_model.specs.Memory.{has_cell}
use Rattle.run_model.proofs.Public.{dat_there}
use Rattle.chain_model.specs.Slicing.{pair_owner}
use Rattle.chain_model.specs.Machine.{ChainState, value_in, exchanged, gathered, pair_values}
use Rattle.chain_model.specs.Slices.{needs, owns_pair, slicing_of}
use Rattle.chain_model.proofs.Public.{owns_needed}
use Rattle.deep_halo.specs.Places.{in_block}
use Rattle.deep_halo.specs.Cells.{Values, BlocksHold}
use Rattle.deep_halo.specs.declared.chain_ranks.chain_exchange.exchanges.Exchange.TheVariants.{Drop, Take}
use Rattle.deep_halo.specs.Exchanged.{is_copy, exchanged_all}
use Rattle.deep_halo.proofs.chain_ranks.chain_exchange.Exchanging.{owns_there}
use Rattle.deep_halo.specs.Running.{StoresStand}
use Rattle.deep_halo.proofs.chain_ranks.OneElement.{read}
use Rattle.deep_halo.specs.Programs.{IsHolding}
use Rattle.lemmas.proofs.Truth.{cases_bool}

module _ (b : BoundValue) (o : Owners) (owners : AreOwners b.mesh o) (st : ChainState KernelFault) where
  -- of a pair that a rank doesn't hold there are zeros
  none_held : (x : Option (ℕ → ℤ)) (i : ℕ) → is_some x ≡ false → value_in x i ≡ pos 0
  none_held None i h = refl
  none_held (Some u) i h = absurd (false≢true (sym h))

  -- the ranks have their own pairs alone, with zeros elsewhere
  abbrev pub HasOwn : Values → Type 0
  HasOwn f = (r : ℕ) (c : DatCell) → r < o.ranks → has_cell b (Data c) ≡ true
      → f r (Data c) ≡ cond (owns_pair b o r c.dat c.element) (value_in (st.stores r c.dat c.element) c.component) (pos 0)

  module _ (old : List ℤ) (stand : StoresStand b o old st) where
    -- where no chain began
    pub own_first : ((r : ℕ) → r < o.ranks → IsHolding b o None r (st.stores r)) → HasOwn (read b old)
    own_first held r c lr h =
        let d = dat_there b c h in
        stand.pairs r c lr h ∙ ⊎_elim
        (λ (q : owns_pair b o r c.dat c.element ≡ true). sym (ap (λ z. cond z (value_in (st.stores r c.dat c.element) c.component) (pos 0)) q))
        (λ (q : owns_pair b o r c.dat c.element ≡ false).
        none_held (st.stores r c.dat c.element) c.component (held r lr c.dat c.element d.dat d.element ∙ q)
        ∙ sym (ap (λ z. cond z (value_in (st.stores r c.dat c.element) c.component) (pos 0)) q))
        (cases_bool (owns_pair b o r c.dat c.element))

    -- where a chain's copies are dropped
    pub own_dropped : (j : ℕ) → ((r : ℕ) → r < o.ranks → IsHolding b o (Some j) r (st.stores r)) → HasOwn (exchanged_all b o j Drop (read b old))
    own_dropped j held r c lr h = ⊎_elim
        (λ (q : owns_pair b o r c.dat c.element ≡ true).
        ap (λ z. cond (nat_lt r o.ranks && (needs b o j r c.dat c.element && not z)) (pos 0) (read b old r (Data c))) q
        ∙ no_test (nat_lt r o.ranks) (needs b o j r c.dat c.element) (pos 0) (read b old r (Data c))
        ∙ stand.pairs r c lr h ∙ sym (ap (λ z. cond z (value_in (st.stores r c.dat c.element) c.component) (pos 0)) q))
        (λ (q : owns_pair b o r c.dat c.element ≡ false).
        ap₂ (λ y z. cond (y && (needs b o j r c.dat c.element && not z)) (pos 0) (read b old r (Data c))) (lt-ltb r o.ranks lr) q
        ∙ unowned (needs b o j r c.dat c.element) refl
        ∙ sym (ap (λ z. cond z (value_in (st.stores r c.dat c.element) c.component) (pos 0)) q))
        (cases_bool (owns_pair b o r c.dat c.element))
      where
        no_test : (x y : Bool) (z v : ℤ) → cond (x && (y && false)) z v ≡ v
        no_test true true z v = refl
        no_test true false z v = refl
        no_test false y z v = refl

        unowned : (x : Bool) → needs b o j r c.dat c.element ≡ x → cond (x && true) (pos 0) (read b old r (Data c)) ≡ pos 0
        unowned true e = refl
        unowned false e =
            let d = dat_there b c h in
            stand.pairs r c lr h ∙ none_held (st.stores r c.dat c.element) c.component (held r lr c.dat c.element d.dat d.element ∙ e)

  -- the new chain's copies come
  module _ (f : Values) (own : HasOwn f) (variables : (v : VarCell) → has_cell b (Variable v) ≡ true → f o.ranks (Variable v) ≡ st.variables v)
      (k : ℕ) (new : List ℤ) (take : BlocksHold b o.ranks new (exchanged_all b o k Take f)) where
    owner_there : (c : DatCell) → has_cell b (Data c) ≡ true → pair_owner (slicing_of b o) c.dat c.element ≡ owner_of o (dat_set b.mesh c.dat) c.element
    owner_there c h = ap (λ t. cond t (owner_of o (dat_set b.mesh c.dat) c.element) 0) (lt-ltb c.element (set_size b.mesh (dat_set b.mesh c.dat)) (dat_there b c h).element)

    -- what an owner has
    from_owner : IsInRange b.mesh → (c : DatCell) → has_cell b (Data c) ≡ true
        → f (owner_of o (dat_set b.mesh c.dat) c.element) (Data c) ≡ pair_values (gathered (slicing_of b o) st) c.dat c.element c.component
    from_owner ranges c h =
        let d = dat_there b c h in
        let r = owner_of o (dat_set b.mesh c.dat) c.element in
        let lr : r < o.ranks = owners.below (dat_set b.mesh c.dat) c.element (ranges.dats c.dat d.dat).set d.element in
        own r c lr h
        ∙ ap (λ z. cond z (value_in (st.stores r c.dat c.element) c.component) (pos 0)) (owns_there b o k r c.dat c.element d.element ∙ eq-eqb r r refl)
        ∙ ap (λ x. value_in (st.stores x c.dat c.element) c.component) (sym (owner_there c h))

    pub exchanged_stand : IsInRange b.mesh → StoresStand b o new (exchanged (slicing_of b o) k st)
    exchanged_stand ranges = record { count = take.count; pairs = pair; variables = λ v h. take.cells o.ranks (Variable v) (let q : o.ranks ≤ o.ranks = omega arith in q) h ∙ variables v h }
      where
        by : (r : ℕ) (c : DatCell) → r < o.ranks → has_cell b (Data c) ≡ true → (n w : Bool) → needs b o k r c.dat c.element ≡ n → owns_pair b o r c.dat c.element ≡ w
            → cond (true && (n && not w)) (f (owner_of o (dat_set b.mesh c.dat) c.element) (Data c)) (f r (Data c))
            ≡ value_in (cond n (Some (pair_values (gathered (slicing_of b o) st) c.dat c.element)) None) c.component
        by r c lr h true false en ew = from_owner ranges c h
        by r c lr h true true en ew =
            let d = dat_there b c h in
            let same : owner_of o (dat_set b.mesh c.dat) c.element ≡ r =
            eqb-true (owner_of o (dat_set b.mesh c.dat) c.element) r (sym (owns_there b o k r c.dat c.element d.element) ∙ ew) in
            ap (λ x. f x (Data c)) (sym same) ∙ from_owner ranges c h
        by r c lr h false true en ew = absurd (false≢true (sym en ∙ owns_needed b o k r c.dat c.element ew))
        by r c lr h false false en ew = own r c lr h ∙ ap (λ z. cond z (value_in (st.stores r c.dat c.element) c.component) (pos 0)) ew

        pair : (r : ℕ) (c : DatCell) → r < o.ranks → has_cell b (Data c) ≡ true
            → get_or new (in_block b r (Data c)) (pos 0) ≡ value_in (cond (needs b o k r c.dat c.element) (Some (pair_values (gathered (slicing_of b o) st) c.dat c.element)) None) c.component
        pair r c lr h =
            take.cells r (Data c) (omega (arith, lr)) h
            ∙ ap (λ z. cond (z && is_copy b o k r c) (f (owner_of o (dat_set b.mesh c.dat) c.element) (Data c)) (f r (Data c))) (lt-ltb r o.ranks lr)
            ∙ by r c lr h (needs b o k r c.dat c.element) (owns_pair b o r c.dat c.element) refl refl
