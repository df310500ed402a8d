-- Pairs come from the last block to their owners', element by element and dat by dat; and the memory that begins with zeros.
use Rattle.std.proofs.Common.{◌≡◌, ◌≢◌, ◌<◌, ◌≤◌, ◌+◌, ◌-◌, ◌*◌, ⊎_elim, ℕ, suc, ℤ, pos, Bool, true, false, cond, ◌&&◌, nat_eq, nat_lt, List, ◌++◌, None, replicate, length, get_or, refl, sym, ap, ap₂, subst, ◌∙◌, arith}
use Rattle.std.proofs.lemmas.Bool.{and_parts, eq-eqb, eqb-true, ne_eqb, cases_eq, cases_lt, lt-ltb, le-ltb}
use Rattle.std.proofs.lemmas.List.{length-append, length-replicate, get_or-replicate, get_or_append_left, get_or-append_right}
use Rattle.std.proofs.Math.Nat.{mul_comm, mul-le-mul_right, suc-mul}
use Rattle.mesh_decl.specs.declared.owners.Owners.{Owners}
use Rattle.mesh_decl.specs.Mesh.{IsInRange, dat_set, set_size}
use Rattle.mesh_decl.specs.Owners.{AreOwners}
use Rattle.schedule_model.specs.Cells.{Cell, Data, Variable, DatCell}
use Rattle.bound_program.specs.Values.{BoundValue}
use Rattle.run_model.specs.Windows.{Element, cell_in}
use Rattle.run_model.specs.Memory.{Holds, memory_length, place_of, has_cell, first_memory, FirstMemoryHolds}
use Rattle.run_model.specs.Programs.{program_of, first_values}
use Rattle.run_model.proofs.Public.{inside, dat_there}
use Rattle.deep_halo.specs.Places.{block_at, in_block, all_cells}
use Rattle.deep_halo.proofs.chain_memory.chain_stores.Listing.{more}
use Rattle.deep_halo.specs.Cells.{Values, BlocksHold, with_target, first_in_last, taken_by_owners, is_below, is_earlier}
use Rattle.lemmas.proofs.Numbers.{lt_next}
use Rattle.lemmas.proofs.Truth.{cases_bool, cond_never, cond_or}

-- ---- element by element

module _ (b : BoundValue) (o : Owners) where
  abbrev own : Cell → ℕ
  own c = block_at b o None c

  -- the last block stays, where a pair's owner is a rank
  last_stays : (test : ℕ → ℕ → Bool) (f : Values) (c : DatCell) → own (Data c) < o.ranks → taken_by_owners b o test f o.ranks (Data c) ≡ f o.ranks (Data c)
  last_stays test f c lt =
      ap (λ t. cond (t && test c.dat c.element) (f o.ranks (Data c)) (f o.ranks (Data c))) (ne_eqb o.ranks (own (Data c)) (λ q. omega (arith, q, lt)))

  -- a value by the element that it is of
  own_value : (test : ℕ → ℕ → Bool) (f : Values) (m d e : ℕ) (c : DatCell) (v : ℤ) → own (cell_in (Element d e) 0) < o.ranks
      → cond (nat_eq m (own (cell_in (Element d e) 0)) && (nat_eq c.dat d && nat_eq c.element e)) (taken_by_owners b o test f o.ranks (cell_in (Element d e) c.component)) v
      ≡ cond (nat_eq m (own (Data c)) && (nat_eq c.dat d && nat_eq c.element e)) (f o.ranks (Data c)) v
  own_value test f m d e c v lt = ⊎_elim
      (λ (h : (nat_eq c.dat d && nat_eq c.element e) ≡ true).
      let q = and_parts (nat_eq c.dat d) (nat_eq c.element e) h in
      let same : cell_in (Element d e) c.component ≡ Data c =
      ap₂ (λ x y. Data (record { dat = x; element = y; component = c.component })) (sym (eqb-true c.dat d q.0))
      (sym (eqb-true c.element e q.1)) in
      ap₂ (λ k z. cond (nat_eq m k && (nat_eq c.dat d && nat_eq c.element e)) z v) (ap own same)
      (last_stays test f (record { dat = d; element = e; component = c.component }) lt ∙ ap (f o.ranks) same))
      (λ (h : (nat_eq c.dat d && nat_eq c.element e) ≡ false).
      ap (λ t. cond (nat_eq m (own (cell_in (Element d e) 0)) && t) (taken_by_owners b o test f o.ranks (cell_in (Element d e) c.component)) v) h
      ∙ cond_never (nat_eq m (own (cell_in (Element d e) 0))) (taken_by_owners b o test f o.ranks (cell_in (Element d e) c.component)) v
      ∙ sym (cond_never (nat_eq m (own (Data c))) (f o.ranks (Data c)) v)
      ∙ sym (ap (λ t. cond (nat_eq m (own (Data c)) && t) (f o.ranks (Data c)) v) h))
      (cases_bool (nat_eq c.dat d && nat_eq c.element e))

  pub elements_none : (d : ℕ) (f : Values) (m : ℕ) (c : Cell) → f m c ≡ taken_by_owners b o (is_below d 0) f m c
  elements_none d f m (Data c) =
      sym (ap (λ t. cond (nat_eq m (own (Data c)) && t) (f o.ranks (Data c)) (f m (Data c))) (and_no (nat_eq c.dat d) ∙ refl)
      ∙ cond_never (nat_eq m (own (Data c))) (f o.ranks (Data c)) (f m (Data c)))
    where
      and_no : (a : Bool) → (a && nat_lt c.element 0) ≡ false
      and_no true = le-ltb c.element 0 (omega arith)
      and_no false = refl
  elements_none d f m (Variable v) = refl

  pub elements_more : (d n to : ℕ) (f : Values) → to ≡ own (cell_in (Element d n) 0) → to < o.ranks → (m : ℕ) (c : Cell)
      → with_target to (Element d n) (λ j. taken_by_owners b o (is_below d n) f o.ranks (cell_in (Element d n) j)) (taken_by_owners b o (is_below d n) f) m c
      ≡ taken_by_owners b o (is_below d (n + 1)) f m c
  elements_more d n to f at lt m (Data c) =
      ap (λ k. cond (nat_eq m k && (nat_eq c.dat d && nat_eq c.element n))
      (taken_by_owners b o (is_below d n) f o.ranks (cell_in (Element d n) c.component))
      (taken_by_owners b o (is_below d n) f m (Data c))) at
      ∙ own_value (is_below d n) f m d n c (taken_by_owners b o (is_below d n) f m (Data c)) (subst (λ k. k < o.ranks) at lt)
      ∙ more (nat_eq m (own (Data c))) (nat_eq c.dat d) (nat_lt c.element n) (nat_eq c.element n) (f o.ranks (Data c)) (f m (Data c))
      ∙ ap (λ t. cond (nat_eq m (own (Data c)) && (nat_eq c.dat d && t)) (f o.ranks (Data c)) (f m (Data c))) (sym (lt_next c.element n))
  elements_more d n to f at lt m (Variable v) =
      cond_never (nat_eq m to) (taken_by_owners b o (is_below d n) f o.ranks (cell_in (Element d n) v.component)) (f m (Variable v))

  -- ---- dat by dat

  pub dats_none : (f : Values) (m : ℕ) (c : Cell) → f m c ≡ taken_by_owners b o (is_earlier 0) f m c
  dats_none f m (Data c) =
      sym (ap (λ t. cond (nat_eq m (own (Data c)) && t) (f o.ranks (Data c)) (f m (Data c))) (le-ltb c.dat 0 (omega arith)) ∙ cond_never (nat_eq m (own (Data c))) (f o.ranks (Data c)) (f m (Data c)))
  dats_none f m (Variable v) = refl

  pub dats_more : IsInRange b.mesh → AreOwners b.mesh o → (d : ℕ) (f : Values) (m : ℕ) (c : Cell) → has_cell b c ≡ true
      → taken_by_owners b o (is_below d (set_size b.mesh (dat_set b.mesh d))) (taken_by_owners b o (is_earlier d) f) m c ≡ taken_by_owners b o (is_earlier (d + 1)) f m c
  dats_more ranges owners d f m (Data c) h =
      let t = dat_there b c h in
      let below : own (Data c) < o.ranks = owners.below (dat_set b.mesh c.dat) c.element (ranges.dats c.dat t.dat).set t.element in
      ap₂ (λ s z. cond (nat_eq m (own (Data c)) && s) z (taken_by_owners b o (is_earlier d) f m (Data c))) (there t.element) (last_stays (is_earlier d) f c below)
      ∙ cond_or (nat_eq m (own (Data c))) (nat_lt c.dat d) (nat_eq c.dat d) (f o.ranks (Data c)) (f m (Data c))
      ∙ ap (λ s. cond (nat_eq m (own (Data c)) && s) (f o.ranks (Data c)) (f m (Data c))) (sym (lt_next c.dat d))
    where
      there : c.element < set_size b.mesh (dat_set b.mesh c.dat) → (nat_eq c.dat d && nat_lt c.element (set_size b.mesh (dat_set b.mesh d))) ≡ nat_eq c.dat d
      there lt = ⊎_elim
          (λ (e : c.dat ≡ d). ap₂ (λ s t. s && t) (eq-eqb c.dat d e)
          (lt-ltb c.element (set_size b.mesh (dat_set b.mesh d)) (subst (λ k. c.element < set_size b.mesh (dat_set b.mesh k)) e lt))
          ∙ sym (eq-eqb c.dat d e))
          (λ (e : c.dat ≢ d). ap (λ s. s && nat_lt c.element (set_size b.mesh (dat_set b.mesh d))) (ne_eqb c.dat d e) ∙ sym (ne_eqb c.dat d e))
          (cases_eq c.dat d)
  dats_more ranges owners d f m (Variable v) h = refl

-- ---- zeros, and the first values behind them

pub first_held : FirstMemoryHolds → (b : BoundValue) (ranks count : ℕ) (first memory : List ℤ) → IsInRange b.mesh → first ≡ first_memory b → count ≡ length first * ranks
    → memory ≡ replicate count (pos 0) ++ first → BlocksHold b ranks memory (first_in_last b ranks)
first_held law b ranks count first memory ranges is times all = record { count = size; cells = value }
  where
    held : Holds b (first_memory b) (program_of b).start
    held = law b ranges.dats

    long : length first ≡ memory_length b
    long = ap length is ∙ held.length

    zeros : count ≡ ranks * memory_length b
    zeros = times ∙ ap (λ k. k * ranks) long ∙ mul_comm (memory_length b) ranks

    size : length memory ≡ all_cells b ranks
    size = let e : length memory ≡ count + length first = ap length all ∙ length-append (replicate count (pos 0)) first ∙ ap (λ k. k + length first) (length-replicate count (pos 0)) in
        omega (arith, e, zeros, long, suc-mul ranks (memory_length b))

    value : (n : ℕ) (c : Cell) → n ≤ ranks → has_cell b c ≡ true → get_or memory (in_block b n c) (pos 0) ≡ first_in_last b ranks n c
    value n c le h = ap (λ l. get_or l (in_block b n c) (pos 0)) all ∙ ⊎_elim
        (λ (lt : n < ranks).
        let s : suc n * memory_length b ≤ ranks * memory_length b = mul-le-mul_right (memory_length b) (let q : suc n ≤ ranks = omega arith in q) in
        let at : in_block b n c < count = omega (arith, suc-mul n (memory_length b), s, zeros, inside b c h) in
        get_or_append_left (replicate count (pos 0)) first (pos 0) (in_block b n c) (let q = length-replicate count (pos 0) in omega (arith, q, at))
        ∙ get_or-replicate count (in_block b n c) (pos 0) (pos 0) at
        ∙ sym (ap (λ t. cond t (first_values b c) (pos 0)) (ne_eqb n ranks (λ q. omega (arith, q, lt)))))
        (λ (ge : ranks ≤ n).
        let same : n ≡ ranks = omega (arith, le, ge) in
        let m : n * memory_length b ≡ ranks * memory_length b = ap (λ k. k * memory_length b) same in
        let behind : in_block b n c - count ≡ place_of b c = omega (arith, m, zeros) in
        get_or-append_right (replicate count (pos 0)) first count (in_block b n c) (pos 0) (length-replicate count (pos 0)) (omega (arith, m, zeros))
        ∙ ap₂ (λ l k. get_or l k (pos 0)) is behind
        ∙ held.values c h
        ∙ sym (ap (λ t. cond t (first_values b c) (pos 0)) (eq-eqb n ranks same)))
        (cases_lt n ranks)
