-- Copies, list by list, rank by rank and dat by dat.
use Rattle.std.proofs.Common.{◌≡◌, ◌≢◌, ◌<◌, ◌+◌, ℕ, ℤ, pos, Bool, true, false, not, cond, ◌&&◌, ◌||◌, nat_eq, nat_lt, List, None, length, get_or, refl, sym, ap, ap₂, subst, ◌∙◌, arith}
use Rattle.std.specs.List.{list_any}
use Rattle.std.proofs.lemmas.Bool.{and_parts, eq-eqb, eqb-true, lt-ltb, le-ltb, false≢true}
use Rattle.lemmas.specs.Below.{listed}
use Rattle.lemmas.proofs.Below.{at_listed, length_listed}
use Rattle.loop_plan.proofs.Public.{is_listed}
use Rattle.mesh_decl.specs.declared.owners.Owners.{Owners}
use Rattle.mesh_decl.specs.Mesh.{dat_count, dat_set, set_size}
use Rattle.mesh_decl.specs.Owners.{owner_of}
use Rattle.schedule_model.specs.Cells.{Cell, Data, Variable, DatCell}
use Rattle.bound_program.specs.Values.{BoundValue}
use Rattle.run_model.specs.Memory.{has_cell}
use Rattle.run_model.proofs.Public.{dat_there}
use Rattle.chain_model.specs.Slices.{needs, owns_pair}
use Rattle.deep_halo.specs.Places.{block_at}
use Rattle.deep_halo.specs.Cells.{Values, cleared, taken}
use Rattle.deep_halo.specs.declared.chain_ranks.chain_exchange.exchanges.Exchange.{Exchange}
use Rattle.deep_halo.specs.declared.chain_ranks.chain_exchange.exchanges.Exchange.TheVariants.{Drop, Take}
use Rattle.deep_halo.specs.Exchanged.{is_copy, brought, exchanged_where, exchanged_all}
use Rattle.lemmas.proofs.Numbers.{lt_next}
use Rattle.lemmas.proofs.Truth.{cond_never, or_and_right}

-- ---- tests

grouped : (a d l k : Bool) → (a ≡ true → d ≡ true → l ≡ k) → (a && (d && l)) ≡ ((a && d) && k)
grouped true true l k e = e refl refl
grouped true false l k e = refl
grouped false d l k e = refl

twice : (p q k : Bool) (z v : ℤ) → cond (q && k) z (cond (p && k) z v) ≡ cond ((p || q) && k) z v
twice true true true z v = refl
twice true true false z v = refl
twice true false true z v = refl
twice true false false z v = refl
twice false true k z v = refl
twice false false k z v = refl

or_apart : (a c d : Bool) → ((a && c) || (a && d)) ≡ (a && (c || d))
or_apart true c d = refl
or_apart false c d = refl

-- a number is among those of a list that pass
one_listed : (x n : ℕ) (p : ℕ → Bool) → x < n → list_any (nat_eq x) (listed n p) ≡ p x
one_listed x n p lt = is_listed x n p lt

module _ (b : BoundValue) (o : Owners) (k : ℕ) where
  -- the pairs that a rank needs of others
  abbrev pub copies : ℕ → ℕ → List ℕ
  copies r d = listed (set_size b.mesh (dat_set b.mesh d)) (λ y. needs b o k r d y && not (owns_pair b o r d y))

  pub copy_within : (r d i : ℕ) → i < length (copies r d) → get_or (copies r d) i 0 < set_size b.mesh (dat_set b.mesh d)
  copy_within r d i lt =
      let n = set_size b.mesh (dat_set b.mesh d) in
      (at_listed n i 0 (λ y. needs b o k r d y && not (owns_pair b o r d y)) (let q = length_listed n (λ y. needs b o k r d y && not (owns_pair b o r d y)) in omega (arith, q, lt))).0

  -- a pair of a dat and an element of its set is its owner's
  pub owns_there : (r d y : ℕ) → y < set_size b.mesh (dat_set b.mesh d) → owns_pair b o r d y ≡ nat_eq (owner_of o (dat_set b.mesh d) y) r
  owns_there r d y lt = ap (λ t. nat_eq (cond t (owner_of o (dat_set b.mesh d) y) 0) r) (lt-ltb y (set_size b.mesh (dat_set b.mesh d)) lt)

  pub copy_other : (r d i : ℕ) → i < length (copies r d) → owner_of o (dat_set b.mesh d) (get_or (copies r d) i 0) ≢ r
  copy_other r d i lt own =
      let n = set_size b.mesh (dat_set b.mesh d) in
      let y = get_or (copies r d) i 0 in
      let w = at_listed n i 0 (λ y. needs b o k r d y && not (owns_pair b o r d y)) (let q = length_listed n (λ y. needs b o k r d y && not (owns_pair b o r d y)) in omega (arith, q, lt)) in
      let p = and_parts (needs b o k r d y) (not (owns_pair b o r d y)) w.1 in
      let owns : owns_pair b o r d y ≡ true = owns_there r d y w.0 ∙ eq-eqb (owner_of o (dat_set b.mesh d) y) r own in
      false≢true (sym (ap not owns) ∙ p.1)

  -- its owner's is no copy
  pub own_no_copy : (c : DatCell) → has_cell b (Data c) ≡ true → is_copy b o k (block_at b o None (Data c)) c ≡ false
  own_no_copy c h =
      let r = owner_of o (dat_set b.mesh c.dat) c.element in
      let owns : owns_pair b o r c.dat c.element ≡ true = owns_there r c.dat c.element (dat_there b c h).element ∙ eq-eqb r r refl in
      ap (λ t. needs b o k r c.dat c.element && not t) owns ∙ and_no (needs b o k r c.dat c.element)
    where
      and_no : (a : Bool) → (a && false) ≡ false
      and_no true = refl
      and_no false = refl

  brought_same : (what : Exchange) (chosen : ℕ → ℕ → Bool) (f : Values) (c : DatCell) → has_cell b (Data c) ≡ true → brought b o k what (exchanged_where b o k what chosen f) c ≡ brought b o k what f c
  brought_same Drop chosen f c h = refl
  brought_same Take chosen f c h =
      let r = block_at b o None (Data c) in
      ap (λ t. cond (chosen r c.dat && t) (brought b o k Take f c) (f r (Data c))) (own_no_copy c h) ∙ cond_never (chosen r c.dat) (brought b o k Take f c) (f r (Data c))

  -- two exchanges, one after the other
  both : (what : Exchange) (p q s : ℕ → ℕ → Bool) (f : Values) (m : ℕ) (c : Cell) → has_cell b c ≡ true → ((r d : ℕ) → (p r d || q r d) ≡ s r d)
      → exchanged_where b o k what q (exchanged_where b o k what p f) m c ≡ exchanged_where b o k what s f m c
  both what p q s f m (Data c) h e =
      ap (λ z. cond (q m c.dat && is_copy b o k m c) z (exchanged_where b o k what p f m (Data c))) (brought_same what p f c h)
      ∙ twice (p m c.dat) (q m c.dat) (is_copy b o k m c) (brought b o k what f c) (f m (Data c))
      ∙ ap (λ t. cond (t && is_copy b o k m c) (brought b o k what f c) (f m (Data c))) (e m c.dat)
  both what p q s f m (Variable v) h e = refl

  -- none is chosen
  none : (what : Exchange) (s : ℕ → ℕ → Bool) (f : Values) (m : ℕ) (c : Cell) → ((r d : ℕ) → s r d ≡ false) → f m c ≡ exchanged_where b o k what s f m c
  none what s f m (Data c) e = sym (ap (λ t. cond (t && is_copy b o k m c) (brought b o k what f c) (f m (Data c))) (e m c.dat))
  none what s f m (Variable v) e = refl

  -- ---- a list

  among_is : (r d : ℕ) (m : ℕ) (c : DatCell) → has_cell b (Data c) ≡ true → (ys : List ℕ) → ys ≡ copies r d
      → (nat_eq m r && (nat_eq c.dat d && list_any (nat_eq c.element) ys)) ≡ ((nat_eq m r && nat_eq c.dat d) && is_copy b o k m c)
  among_is r d m c h ys is = grouped (nat_eq m r) (nat_eq c.dat d) (list_any (nat_eq c.element) ys) (is_copy b o k m c) (λ e g.
      let em : m ≡ r = eqb-true m r e in
      let ed : c.dat ≡ d = eqb-true c.dat d g in
      let lt : c.element < set_size b.mesh (dat_set b.mesh d) = subst (λ x. c.element < set_size b.mesh (dat_set b.mesh x)) ed (dat_there b c h).element in
      ap (list_any (nat_eq c.element)) is ∙ one_listed c.element (set_size b.mesh (dat_set b.mesh d)) (λ y. needs b o k r d y && not (owns_pair b o r d y)) lt
      ∙ sym (ap₂ (λ x y. needs b o k x y c.element && not (owns_pair b o x y c.element)) em ed))

  pub list_dropped : (r d : ℕ) (ys : List ℕ) (f : Values) → ys ≡ copies r d → (m : ℕ) (c : Cell) → has_cell b c ≡ true
      → cleared r d ys f m c ≡ exchanged_where b o k Drop (λ x e. nat_eq x r && nat_eq e d) f m c
  list_dropped r d ys f is m (Data c) h = ap (λ t. cond t (pos 0) (f m (Data c))) (among_is r d m c h ys is)
  list_dropped r d ys f is m (Variable v) h = cond_never (nat_eq m r) (pos 0) (f m (Variable v))

  pub list_taken : (r d : ℕ) (ys : List ℕ) (f : Values) → ys ≡ copies r d → (m : ℕ) (c : Cell) → has_cell b c ≡ true
      → taken b o r d ys f m c ≡ exchanged_where b o k Take (λ x e. nat_eq x r && nat_eq e d) f m c
  list_taken r d ys f is m (Data c) h = ap (λ t. cond t (f (block_at b o None (Data c)) (Data c)) (f m (Data c))) (among_is r d m c h ys is)
  list_taken r d ys f is m (Variable v) h = cond_never (nat_eq m r) (f (block_at b o None (Variable v)) (Variable v)) (f m (Variable v))

  -- ---- ranks

  pub ranks_none : (what : Exchange) (d : ℕ) (f : Values) (m : ℕ) (c : Cell) → f m c ≡ exchanged_where b o k what (λ x e. nat_lt x 0 && nat_eq e d) f m c
  ranks_none what d f m c = none what (λ x e. nat_lt x 0 && nat_eq e d) f m c (λ x e. ap (λ t. t && nat_eq e d) (le-ltb x 0 (omega arith)))

  pub ranks_more : (what : Exchange) (n d : ℕ) (f : Values) (m : ℕ) (c : Cell) → has_cell b c ≡ true
      → exchanged_where b o k what (λ x e. nat_eq x n && nat_eq e d) (exchanged_where b o k what (λ x e. nat_lt x n && nat_eq e d) f) m c
      ≡ exchanged_where b o k what (λ x e. nat_lt x (n + 1) && nat_eq e d) f m c
  ranks_more what n d f m c h = both what (λ x e. nat_lt x n && nat_eq e d) (λ x e. nat_eq x n && nat_eq e d) (λ x e. nat_lt x (n + 1) && nat_eq e d) f m c h
      (λ x e. or_and_right (nat_lt x n) (nat_eq x n) (nat_eq e d) ∙ ap (λ t. t && nat_eq e d) (sym (lt_next x n)))

  -- ---- dats

  pub dats_none : (what : Exchange) (ranks : ℕ) (f : Values) (m : ℕ) (c : Cell) → f m c ≡ exchanged_where b o k what (λ x e. nat_lt x ranks && nat_lt e 0) f m c
  dats_none what ranks f m c = none what (λ x e. nat_lt x ranks && nat_lt e 0) f m c (λ x e. ap (λ t. nat_lt x ranks && t) (le-ltb e 0 (omega arith)) ∙ and_no (nat_lt x ranks))
    where
      and_no : (a : Bool) → (a && false) ≡ false
      and_no true = refl
      and_no false = refl

  pub dats_more : (what : Exchange) (ranks n : ℕ) (f : Values) (m : ℕ) (c : Cell) → has_cell b c ≡ true
      → exchanged_where b o k what (λ x e. nat_lt x ranks && nat_eq e n) (exchanged_where b o k what (λ x e. nat_lt x ranks && nat_lt e n) f) m c
      ≡ exchanged_where b o k what (λ x e. nat_lt x ranks && nat_lt e (n + 1)) f m c
  dats_more what ranks n f m c h = both what (λ x e. nat_lt x ranks && nat_lt e n) (λ x e. nat_lt x ranks && nat_eq e n) (λ x e. nat_lt x ranks && nat_lt e (n + 1)) f m c h
      (λ x e. or_apart (nat_lt x ranks) (nat_lt e n) (nat_eq e n) ∙ ap (λ t. nat_lt x ranks && t) (sym (lt_next e n)))

  -- all of them
  pub all_dats : (what : Exchange) (f : Values) (m : ℕ) (c : Cell) → has_cell b c ≡ true
      → exchanged_where b o k what (λ x e. nat_lt x o.ranks && nat_lt e (dat_count b.mesh)) f m c ≡ exchanged_all b o k what f m c
  all_dats what f m (Data c) h =
      ap (λ t. cond ((nat_lt m o.ranks && t) && is_copy b o k m c) (brought b o k what f c) (f m (Data c))) (lt-ltb c.dat (dat_count b.mesh) (dat_there b c h).dat)
      ∙ ap (λ t. cond (t && is_copy b o k m c) (brought b o k what f c) (f m (Data c))) (and_yes (nat_lt m o.ranks))
    where
      and_yes : (a : Bool) → (a && true) ≡ a
      and_yes true = refl
      and_yes false = refl
  all_dats what f m (Variable v) h = refl
