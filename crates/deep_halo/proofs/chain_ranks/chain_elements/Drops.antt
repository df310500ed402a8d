-- Pairs are dropped argument by argument.
use Rattle.std.proofs.Common.{◌≡◌, ◌<◌, ◌+◌, ℕ, ℤ, pos, Option, Bool, true, false, not, cond, ◌&&◌, nat_eq, List, [], take, length, get_or, refl, sym, ap, ap₂, ◌∙◌}
use Rattle.std.specs.List.{list_any}
use Rattle.std.proofs.lemmas.Bool.{and_parts, eqb-true, false≢true}
use Rattle.op_num.specs.declared.reductions.access.Access.{Access}
use Rattle.mesh_decl.specs.declared.access.Via.{Via}
use Rattle.mesh_decl.specs.declared.owners.Owners.{Owners}
use Rattle.schedule_model.specs.Cells.{Cell, Data, Variable, DatCell}
use Rattle.bound_program.specs.declared.sites.Arg.{Arg}
use Rattle.bound_program.specs.declared.sites.Arg.TheVariants.{Dat}
use Rattle.bound_program.specs.Values.{BoundValue}
use Rattle.run_model.specs.Windows.{Element, element_by}
use Rattle.run_model.specs.Arguments.{no_arg}
use Rattle.chain_model.specs.Slices.{needs}
use Rattle.deep_halo.specs.Cells.{Values, with_target}
use Rattle.deep_halo.proofs.chain_memory.chain_stores.Listing.{more}
use Rattle.deep_halo.specs.Dropping.{leads_to, dropped, dropped_by}
use Rattle.deep_halo.proofs.chain_ranks.chain_elements.Lists.{any_taken}
use Rattle.lemmas.proofs.Truth.{cond_never}

gated : (a n q : Bool) (z v : ℤ) → (q ≡ true → n ≡ true) → cond (a && q) z v ≡ cond (a && (n && q)) z v
gated false n q z v h = refl
gated true true q z v h = refl
gated true false true z v h = let e = h refl in absurd (false≢true e)
gated true false false z v h = refl

ungated : (a n q : Bool) (z v : ℤ) → (q ≡ true → n ≡ false) → v ≡ cond (a && (n && q)) z v
ungated false n q z v h = refl
ungated true true true z v h = let e = h refl in absurd (false≢true (sym e))
ungated true true false z v h = refl
ungated true false q z v h = refl

gone : (a n : Bool) (z v : ℤ) → v ≡ cond (a && (n && false)) z v
gone a n z v = ungated a n false z v (λ q. absurd (false≢true q))

module _ (b : BoundValue) (o : Owners) (k r e : ℕ) where
  same_needs : (d : ℕ) (v : Option Via) (c : DatCell) → (nat_eq c.dat d && nat_eq c.element (element_by b v e)) ≡ true
      → needs b o k r c.dat c.element ≡ needs b o k r d (element_by b v e)
  same_needs d v c h =
      let p = and_parts (nat_eq c.dat d) (nat_eq c.element (element_by b v e)) h in
      ap₂ (λ x y. needs b o k r x y) (eqb-true c.dat d p.0) (eqb-true c.element (element_by b v e) p.1)

  -- where the pair isn't held
  pub drops : (d : ℕ) (v : Option Via) (a : Access) (y : ℕ) (f : Values) → y ≡ element_by b v e → needs b o k r d y ≡ false → (m : ℕ) (c : Cell)
      → with_target r (Element d y) (λ i. pos 0) f m c ≡ dropped_by b o k r e (Dat d v a) f m c
  drops d v a y f is none m (Data c) =
      ap (λ t. cond (nat_eq m r && (nat_eq c.dat d && nat_eq c.element t)) (pos 0) (f m (Data c))) is
      ∙ gated (nat_eq m r) (not (needs b o k r c.dat c.element)) (nat_eq c.dat d && nat_eq c.element (element_by b v e)) (pos 0) (f m (Data c))
      (λ h. ap not (same_needs d v c h ∙ ap (needs b o k r d) (sym is) ∙ none))
  drops d v a y f is none m (Variable x) = cond_never (nat_eq m r) (pos 0) (f m (Variable x))

  pub dropped_none : (f : Values) (m : ℕ) (c : Cell) → f m c ≡ dropped b o k r e [] f m c
  dropped_none f m (Data c) = gone (nat_eq m r) (not (needs b o k r c.dat c.element)) (pos 0) (f m (Data c))
  dropped_none f m (Variable x) = refl

  pub dropped_more : (xs : List Arg) (i : ℕ) (f : Values) → i < length xs → (m : ℕ) (c : Cell)
      → dropped_by b o k r e (get_or xs i no_arg) (dropped b o k r e (take i xs) f) m c ≡ dropped b o k r e (take (i + 1) xs) f m c
  dropped_more xs i f lt m (Data c) =
      more (nat_eq m r) (not (needs b o k r c.dat c.element)) (list_any (leads_to b o k r e c) (take i xs)) (leads_to b o k r e c (get_or xs i no_arg)) (pos 0) (f m (Data c))
      ∙ ap (λ t. cond (nat_eq m r && (not (needs b o k r c.dat c.element) && t)) (pos 0) (f m (Data c))) (sym (any_taken (leads_to b o k r e c) xs i (get_or xs i no_arg) lt refl))
  dropped_more xs i f lt m (Variable x) = refl
