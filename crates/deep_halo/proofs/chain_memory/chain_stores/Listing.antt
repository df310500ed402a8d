-- Pairs of a dat and the elements of a list, one after another.
use Rattle.std.proofs.Common.{◌≡◌, ◌≢◌, ◌<◌, ◌+◌, ⊎_elim, ℕ, ℤ, pos, Bool, true, false, cond, ◌&&◌, ◌||◌, nat_eq, List, [], ◌∷◌, ◌++◌, None, take, length, get_or, refl, sym, ap, ap₂, ◌∙◌}
use Rattle.std.specs.List.{list_any}
use Rattle.std.proofs.lemmas.Bool.{and_parts, eqb-true, ne_eqb}
use Rattle.std.proofs.lemmas.List.{take_more}
use Rattle.mesh_decl.specs.declared.owners.Owners.{Owners}
use Rattle.schedule_model.specs.Cells.{Cell, Data, Variable, DatCell}
use Rattle.bound_program.specs.Values.{BoundValue}
use Rattle.run_model.specs.Windows.{Element, cell_in}
use Rattle.deep_halo.specs.Places.{block_at}
use Rattle.deep_halo.specs.Cells.{Values, is_among, with_target, cleared, taken}
use Rattle.lemmas.proofs.Truth.{cases_bool, cond_never}

-- one element more
list_any_more : (ys : List ℕ) (i x e : ℕ) → i < length ys → get_or ys i 0 ≡ e → list_any (nat_eq x) (take (i + 1) ys) ≡ (list_any (nat_eq x) (take i ys) || nat_eq x e)
list_any_more ys i x e lt is = ap (list_any (nat_eq x)) (take_more ys i 0 lt) ∙ any_snoc (take i ys) ∙ ap (λ z. list_any (nat_eq x) (take i ys) || nat_eq x z) is
  where
    or_nil : (a : Bool) → (a || false) ≡ a
    or_nil true = refl
    or_nil false = refl

    any_snoc : (zs : List ℕ) → list_any (nat_eq x) (zs ++ get_or ys i 0 ∷ []) ≡ (list_any (nat_eq x) zs || nat_eq x (get_or ys i 0))
    any_snoc [] = or_nil (nat_eq x (get_or ys i 0))
    any_snoc (z ∷ zs) = ap (λ q. nat_eq x z || q) (any_snoc zs) ∙ or_assoc (nat_eq x z) (list_any (nat_eq x) zs) (nat_eq x (get_or ys i 0))
      where
        or_assoc : (p q r : Bool) → (p || (q || r)) ≡ ((p || q) || r)
        or_assoc true q r = refl
        or_assoc false q r = refl

-- a test more
pub more : (a d l e : Bool) (z v : ℤ) → cond (a && (d && e)) z (cond (a && (d && l)) z v) ≡ cond (a && (d && (l || e))) z v
more false d l e z v = refl
more true false l e z v = refl
more true true true true z v = refl
more true true true false z v = refl
more true true false true z v = refl
more true true false false z v = refl

none_there : (a d : Bool) (z v : ℤ) → cond (a && (d && false)) z v ≡ v
none_there true true z v = refl
none_there true false z v = refl
none_there false d z v = refl

pub cleared_none : (n d : ℕ) (f : Values) (m : ℕ) (c : Cell) → f m c ≡ cleared n d [] f m c
cleared_none n d f m (Data c) = sym (none_there (nat_eq m n) (nat_eq c.dat d) (pos 0) (f m (Data c)))
cleared_none n d f m (Variable v) = sym (cond_never (nat_eq m n) (pos 0) (f m (Variable v)))

pub cleared_more : (n d : ℕ) (ys : List ℕ) (i e : ℕ) (f : Values) → i < length ys → get_or ys i 0 ≡ e → (m : ℕ) (c : Cell)
    → with_target n (Element d e) (λ j. pos 0) (cleared n d (take i ys) f) m c ≡ cleared n d (take (i + 1) ys) f m c
cleared_more n d ys i e f lt is m (Data c) =
    more (nat_eq m n) (nat_eq c.dat d) (list_any (nat_eq c.element) (take i ys)) (nat_eq c.element e) (pos 0) (f m (Data c))
    ∙ ap (λ t. cond (nat_eq m n && (nat_eq c.dat d && t)) (pos 0) (f m (Data c))) (sym (list_any_more ys i c.element e lt is))
cleared_more n d ys i e f lt is m (Variable v) =
    cond_never (nat_eq m n) (pos 0) (cond (nat_eq m n && false) (pos 0) (f m (Variable v)))
    ∙ cond_never (nat_eq m n) (pos 0) (f m (Variable v)) ∙ sym (cond_never (nat_eq m n) (pos 0) (f m (Variable v)))

module _ (b : BoundValue) (o : Owners) where
  abbrev own : Cell → ℕ
  own c = block_at b o None c

  pub taken_none : (n d : ℕ) (f : Values) (m : ℕ) (c : Cell) → f m c ≡ taken b o n d [] f m c
  taken_none n d f m (Data c) = sym (none_there (nat_eq m n) (nat_eq c.dat d) (f (own (Data c)) (Data c)) (f m (Data c)))
  taken_none n d f m (Variable v) = sym (cond_never (nat_eq m n) (f (own (Variable v)) (Variable v)) (f m (Variable v)))

  -- the owner's block isn't the one that is written
  kept_at : (n d : ℕ) (ys : List ℕ) (f : Values) (c : Cell) → own c ≢ n → taken b o n d ys f (own c) c ≡ f (own c) c
  kept_at n d ys f c apart = ap (λ t. cond (t && is_among d ys c) (f (own c) c) (f (own c) c)) (ne_eqb (own c) n apart)

  -- a value by the element that it is of
  cell_value : (n d : ℕ) (ys : List ℕ) (f : Values) (m e : ℕ) (c : DatCell) (v : ℤ) → own (cell_in (Element d e) 0) ≢ n
      → cond (nat_eq m n && (nat_eq c.dat d && nat_eq c.element e)) (taken b o n d ys f (own (cell_in (Element d e) 0)) (cell_in (Element d e) c.component)) v
      ≡ cond (nat_eq m n && (nat_eq c.dat d && nat_eq c.element e)) (f (own (Data c)) (Data c)) v
  cell_value n d ys f m e c v apart = ⊎_elim
      (λ (h : (nat_eq m n && (nat_eq c.dat d && nat_eq c.element e)) ≡ true).
      let p = and_parts (nat_eq m n) (nat_eq c.dat d && nat_eq c.element e) h in
      let q = and_parts (nat_eq c.dat d) (nat_eq c.element e) p.1 in
      let same : cell_in (Element d e) c.component ≡ Data c =
      ap₂ (λ x y. Data (record { dat = x; element = y; component = c.component })) (sym (eqb-true c.dat d q.0))
      (sym (eqb-true c.element e q.1)) in
      ap (λ z. cond (nat_eq m n && (nat_eq c.dat d && nat_eq c.element e)) z v)
      (kept_at n d ys f (cell_in (Element d e) c.component) apart ∙ ap (λ x. f (own x) x) same))
      (λ (h : (nat_eq m n && (nat_eq c.dat d && nat_eq c.element e)) ≡ false).
      ap (λ t. cond t (taken b o n d ys f (own (cell_in (Element d e) 0)) (cell_in (Element d e) c.component)) v) h ∙ sym (ap (λ t. cond t (f (own (Data c)) (Data c)) v) h))
      (cases_bool (nat_eq m n && (nat_eq c.dat d && nat_eq c.element e)))

  pub taken_more : (n d : ℕ) (ys : List ℕ) (i e from : ℕ) (f : Values) → i < length ys → get_or ys i 0 ≡ e → from ≡ own (cell_in (Element d e) 0) → from ≢ n → (m : ℕ) (c : Cell)
      → with_target n (Element d e) (λ j. taken b o n d (take i ys) f from (cell_in (Element d e) j)) (taken b o n d (take i ys) f) m c ≡ taken b o n d (take (i + 1) ys) f m c
  taken_more n d ys i e from f lt is at apart m (Data c) =
      ap (λ k. cond (nat_eq m n && (nat_eq c.dat d && nat_eq c.element e)) (taken b o n d (take i ys) f k (cell_in (Element d e) c.component)) (taken b o n d (take i ys) f m (Data c))) at
      ∙ cell_value n d (take i ys) f m e c (taken b o n d (take i ys) f m (Data c)) (λ q. apart (at ∙ q))
      ∙ more (nat_eq m n) (nat_eq c.dat d) (list_any (nat_eq c.element) (take i ys)) (nat_eq c.element e) (f (own (Data c)) (Data c)) (f m (Data c))
      ∙ ap (λ t. cond (nat_eq m n && (nat_eq c.dat d && t)) (f (own (Data c)) (Data c)) (f m (Data c))) (sym (list_any_more ys i c.element e lt is))
  taken_more n d ys i e from f lt is at apart m (Variable v) =
      cond_never (nat_eq m n) (taken b o n d (take i ys) f from (cell_in (Element d e) v.component)) (taken b o n d (take i ys) f m (Variable v))
      ∙ cond_never (nat_eq m n) (f (own (Variable v)) (Variable v)) (f m (Variable v)) ∙ sym (cond_never (nat_eq m n) (f (own (Variable v)) (Variable v)) (f m (Variable v)))
