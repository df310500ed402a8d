-- The cells of a target in a block are written.
use Rattle.std.proofs.Common.{◌≡◌, ◌≢◌, ◌<◌, ◌≤◌, ◌+◌, ◌-◌, ◌*◌, ◌⊎◌, inl, inr, ⊎_elim, ℕ, suc, ℤ, pos, true, false, cond, ◌&&◌, nat_eq, List, length, get_or, refl, sym, ap, ap₂, subst, ◌∙◌, arith, w32, FitsSigned, to_z, of_z}
use Rattle.std.proofs.lemmas.Bool.{cases_lt, and_parts, eq-eqb, eqb-true, false≢true}
use Rattle.std.proofs.lemmas.Int.{to_z-of_z}
use Rattle.std.proofs.Math.Nat.{mul-le-mul_right, suc-mul}
use Rattle.std.proofs.lemmas.Nat.{same_from_place}
use Rattle.mesh_decl.specs.Mesh.{dat_count, dat_set, set_size}
use Rattle.schedule_model.specs.Cells.{Cell, Data, Variable}
use Rattle.bound_program.specs.Values.{BoundValue}
use Rattle.run_model.specs.Windows.{Reached, Element, Whole, cell_in, width}
use Rattle.run_model.specs.Arguments.{dat_width, var_width}
use Rattle.run_model.specs.Memory.{memory_length, place_of, has_cell}
use Rattle.run_model.proofs.Public.{inside, apart, follow, dat_there, var_there, has_dat, has_var}
use Rattle.deep_halo.proofs.chain_memory.Within.{pair_within, variable_within}
use Rattle.deep_halo.specs.Places.{in_block}
use Rattle.deep_halo.specs.Cells.{Values, BlocksHold, component_of, is_cell_of, with_target}
use Rattle.lemmas.proofs.Truth.{cases_bool}

module _ (b : BoundValue) where
  -- what is reached is there
  abbrev pub IsTarget : Reached → Type 0
  IsTarget (Element d y) = (d < dat_count b.mesh) × (y < set_size b.mesh (dat_set b.mesh d))
  IsTarget (Whole v) = v < length b.vars

  pub has_of : (t : Reached) (i : ℕ) → IsTarget t → i < width b t → has_cell b (cell_in t i) ≡ true
  has_of (Element d y) i is li = has_dat b d y i is.0 is.1 li
  has_of (Whole v) i is li = has_var b v i is li

  -- cells of blocks have places of their own
  pub blocks_apart : (n m : ℕ) (c d : Cell) → has_cell b c ≡ true → has_cell b d ≡ true → in_block b n c ≡ in_block b m d → (n ≡ m) × (c ≡ d)
  blocks_apart n m c d hc hd e =
      let s = same_from_place n (place_of b c) m (place_of b d) (memory_length b) (inside b c hc) (inside b d hd) e in
      (s.0, apart b c d hc hd s.1)

  -- a cell of a target is one of its components
  pub is_component : (t : Reached) (c : Cell) → has_cell b c ≡ true → is_cell_of t c ≡ true → (component_of c < width b t) × (c ≡ cell_in t (component_of c))
  is_component (Element d y) (Data c) h e =
      let p = and_parts (nat_eq c.dat d) (nat_eq c.element y) e in
      let ed : c.dat ≡ d = eqb-true c.dat d p.0 in
      let ey : c.element ≡ y = eqb-true c.element y p.1 in
      let w : dat_width b c.dat ≡ dat_width b d = ap (dat_width b) ed in
      (subst (λ k. c.component < k) w (dat_there b c h).component, ap₂ (λ x z. Data (record { dat = x; element = z; component = c.component })) ed ey)
  is_component (Whole v) (Variable c) h e =
      let ev : c.variable ≡ v = eqb-true c.variable v e in
      let w : var_width b c.variable ≡ var_width b v = ap (var_width b) ev in
      (subst (λ k. c.component < k) w (var_there b c h).component, ap (λ x. Variable (record { variable = x; component = c.component })) ev)
  is_component (Element d y) (Variable c) h e = absurd (false≢true e)
  is_component (Whole v) (Data c) h e = absurd (false≢true e)

  -- and its components are cells of it
  pub component_is : (t : Reached) (i : ℕ) → is_cell_of t (cell_in t i) ≡ true
  component_is (Element d y) i = ap₂ (λ x z. x && z) (eq-eqb d d refl) (eq-eqb y y refl)
  component_is (Whole v) i = eq-eqb v v refl

  -- the components of a target follow one another in a block
  pub block_follow : (n : ℕ) (t : Reached) (i : ℕ) → in_block b n (cell_in t i) ≡ in_block b n (cell_in t 0) + i
  block_follow n t i = omega (arith, follow b t i)

  -- with new values where a target stands, and the old ones elsewhere
  pub written : (ranks n : ℕ) (t : Reached) (u : ℕ → ℤ) (old new : List ℤ) (f : Values) → IsTarget t
      → length new ≡ length old
      → ((i : ℕ) → i < width b t → get_or new (in_block b n (cell_in t 0) + i) (pos 0) ≡ u i)
      → ((k : ℕ) → (k < in_block b n (cell_in t 0)) ⊎ (in_block b n (cell_in t 0) + width b t ≤ k) → get_or new k (pos 0) ≡ get_or old k (pos 0))
      → BlocksHold b ranks old f → BlocksHold b ranks new (with_target n t u f)
  written ranks n t u old new f is count there others holds = record {
    count = count ∙ holds.count;
    cells = λ m c le h. ⊎_elim (here m c le h) (elsewhere m c le h) (cases_bool (nat_eq m n && is_cell_of t c));
  }
    where
      here : (m : ℕ) (c : Cell) → m ≤ ranks → has_cell b c ≡ true → (nat_eq m n && is_cell_of t c) ≡ true → get_or new (in_block b m c) (pos 0) ≡ with_target n t u f m c
      here m c le h e =
          let p = and_parts (nat_eq m n) (is_cell_of t c) e in
          let i = is_component t c h p.1 in
          let em : m ≡ n = eqb-true m n p.0 in
          let at : in_block b m c ≡ in_block b n (cell_in t 0) + component_of c = ap₂ (in_block b) em i.1 ∙ block_follow n t (component_of c) in
          ap (λ k. get_or new k (pos 0)) at ∙ there (component_of c) i.0 ∙ sym (ap (λ z. cond z (u (component_of c)) (f m c)) e)

      beside : (m : ℕ) (c : Cell) → has_cell b c ≡ true → (nat_eq m n && is_cell_of t c) ≡ false
          → (in_block b m c < in_block b n (cell_in t 0)) ⊎ (in_block b n (cell_in t 0) + width b t ≤ in_block b m c)
      beside m c h e = ⊎_elim
          (λ (l : in_block b m c < in_block b n (cell_in t 0)). inl l)
          (λ (l : in_block b n (cell_in t 0) ≤ in_block b m c). ⊎_elim
          (λ (k : in_block b m c < in_block b n (cell_in t 0) + width b t).
          let i : ℕ = in_block b m c - in_block b n (cell_in t 0) in
          let li : i < width b t = omega (arith, l, k) in
          let at : in_block b m c ≡ in_block b n (cell_in t i) = (let q : in_block b m c ≡ in_block b n (cell_in t 0) + i = omega (arith, l) in q ∙ sym (block_follow n t i)) in
          let s = blocks_apart m n c (cell_in t i) h (has_of t i is li) at in
          absurd (false≢true (sym e ∙ ap₂ (λ x y. x && y) (eq-eqb m n s.0) (ap (is_cell_of t) s.1 ∙ component_is t i))))
          (λ (k : in_block b n (cell_in t 0) + width b t ≤ in_block b m c). inr k)
          (cases_lt (in_block b m c) (in_block b n (cell_in t 0) + width b t)))
          (cases_lt (in_block b m c) (in_block b n (cell_in t 0)))

      elsewhere : (m : ℕ) (c : Cell) → m ≤ ranks → has_cell b c ≡ true → (nat_eq m n && is_cell_of t c) ≡ false → get_or new (in_block b m c) (pos 0) ≡ with_target n t u f m c
      elsewhere m c le h e =
          others (in_block b m c) (beside m c h e) ∙ holds.cells m c le h ∙ sym (ap (λ z. cond z (u (component_of c)) (f m c)) e)

  -- the same values by other names
  pub held_as : (ranks : ℕ) (memory : List ℤ) (f g : Values) → ((n : ℕ) (c : Cell) → n ≤ ranks → has_cell b c ≡ true → f n c ≡ g n c) → BlocksHold b ranks memory f → BlocksHold b ranks memory g
  held_as ranks memory f g same holds = record { count = holds.count; cells = λ n c le h. holds.cells n c le h ∙ same n c le h }

  -- a target's cells are set to a value
  pub filled : (ranks n : ℕ) (t : Reached) (z : ℤ) (old new : List ℤ) (f : Values) (at count : ℕ) → IsTarget t → length new ≡ length old → at ≡ in_block b n (cell_in t 0) → count ≡ width b t
      → ((i : ℕ) → i < count → get_or new (at + i) (pos 0) ≡ z)
      → ((k : ℕ) → (k < at) ⊎ (at + count ≤ k) → get_or new k (pos 0) ≡ get_or old k (pos 0))
      → BlocksHold b ranks old f → BlocksHold b ranks new (with_target n t (λ i. z) f)
  filled ranks n t z old new f at count is same e w there others holds =
      written ranks n t (λ i. z) old new f is same
      (λ i lt. ap (λ k. get_or new (k + i) (pos 0)) (sym e) ∙ there i (subst (λ k. i < k) (sym w) lt))
      (λ k l. others k (subst (λ m. (k < m) ⊎ (m + count ≤ k)) (sym e) (subst (λ m. (k < in_block b n (cell_in t 0)) ⊎ (in_block b n (cell_in t 0) + m ≤ k)) (sym w) l)))
      holds

  -- they are copied from another block
  pub copied : (ranks m n : ℕ) (t : Reached) (old new : List ℤ) (f : Values) (from at count : ℕ) → IsTarget t → m ≤ ranks → length new ≡ length old
      → from ≡ in_block b m (cell_in t 0) → at ≡ in_block b n (cell_in t 0) → count ≡ width b t
      → ((i : ℕ) → i < count → get_or new (at + i) (pos 0) ≡ get_or old (from + i) (pos 0))
      → ((k : ℕ) → (k < at) ⊎ (at + count ≤ k) → get_or new k (pos 0) ≡ get_or old k (pos 0))
      → BlocksHold b ranks old f → BlocksHold b ranks new (with_target n t (λ i. f m (cell_in t i)) f)
  copied ranks m n t old new f from at count is le same e g w there others holds =
      written ranks n t (λ i. f m (cell_in t i)) old new f is same
      (λ i lt. ap (λ k. get_or new (k + i) (pos 0)) (sym g) ∙ there i (subst (λ k. i < k) (sym w) lt)
      ∙ ap (λ k. get_or old k (pos 0)) (let q : from + i ≡ in_block b m (cell_in t 0) + i = omega (arith, e) in q ∙ sym (block_follow m t i))
      ∙ holds.cells m (cell_in t i) le (has_of t i is lt))
      (λ k l. others k (subst (λ j. (k < j) ⊎ (j + count ≤ k)) (sym g) (subst (λ j. (k < in_block b n (cell_in t 0)) ⊎ (in_block b n (cell_in t 0) + j ≤ k)) (sym w) l)))
      holds

  -- a target's cells in two blocks are apart
  pub beside : (m n : ℕ) (t : Reached) (from at count : ℕ) → IsTarget t → m ≢ n → from ≡ in_block b m (cell_in t 0) → at ≡ in_block b n (cell_in t 0) → count ≡ width b t
      → (from + count ≤ at) ⊎ (at + count ≤ from)
  beside m n t from at count is apart e g w = ⊎_elim
      (λ (l : m < n). let s : suc m * memory_length b ≤ n * memory_length b = mul-le-mul_right (memory_length b) (let q : suc m ≤ n = omega arith in q) in
      inl (let q : from + count ≤ at = omega (arith, suc-mul m (memory_length b), s, e, g, w, target_within t is) in q))
      (λ (l : n ≤ m). let s : suc n * memory_length b ≤ m * memory_length b = mul-le-mul_right (memory_length b) (let q : suc n ≤ m = omega (arith, l, apart) in q) in
      inr (let q : at + count ≤ from = omega (arith, suc-mul n (memory_length b), s, e, g, w, target_within t is) in q))
      (cases_lt m n)
    where
      target_within : (r : Reached) → IsTarget r → place_of b (cell_in r 0) + width b r ≤ memory_length b
      target_within (Element d y) h = pair_within b d y h.0 h.1
      target_within (Whole v) h = variable_within b v h

-- an `i32` is itself
pub same_number : (z : ℤ) → FitsSigned w32 z → to_z w32 (of_z w32 z) ≡ z
same_number z fits = to_z-of_z w32 z fits
