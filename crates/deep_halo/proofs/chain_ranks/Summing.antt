-- Units and sums of partials.
use Rattle.std.proofs.Common.{◌≡◌, ◌≢◌, ◌<◌, ◌≤◌, ◌+◌, ◌⊎◌, ⊎_elim, ℕ, zero, suc, ℤ, pos, Bool, true, false, cond, ◌&&◌, nat_eq, List, length, get_or, Some, None, refl, sym, ap, ap₂, subst, ◌∙◌, arith}
use Rattle.std.specs.List.{list_any}
use Rattle.std.proofs.lemmas.Bool.{and_parts, eqb-true, eq-eqb, ne_eqb, lt-ltb}
use Rattle.std.proofs.lemmas.List.Folds.{list_any_at}
use Rattle.op_num.specs.Reduction.{Reduction, unit_of, merged}
use Rattle.schedule_model.specs.Cells.{Cell, Variable, VarCell}
use Rattle.schedule_model.specs.Machine.{window_of}
use Rattle.bound_program.specs.Values.{BoundValue, no_site}
use Rattle.bound_program.specs.Fits.{Fits, site_at}
use Rattle.run_model.specs.Memory.{has_cell}
use Rattle.run_model.specs.Windows.{Reached, Whole, cell_in}
use Rattle.run_model.specs.Arguments.{no_arg, var_width}
use Rattle.run_model.specs.Variables.{of_vars}
use Rattle.bound_plan.specs.Variables.{reduced_by, reduces_at}
use Rattle.bound_plan.proofs.Public.{Merges, merges}
use Rattle.chain_model.specs.Machine.{merged_over}
use Rattle.deep_halo.specs.Places.{in_block}
use Rattle.deep_halo.specs.Cells.{Values, BlocksHold, is_cell_of, component_of, with_target}
use Rattle.deep_halo.proofs.chain_memory.chain_stores.Writing.{is_component, component_is, has_of, block_follow, written}
use Rattle.deep_halo.specs.Globals.{is_on}
use Rattle.deep_halo.specs.Merging.{changed_all}
use Rattle.deep_halo.specs.Partials.{units}
use Rattle.lemmas.proofs.Truth.{cases_bool}

-- where there's no reduction nothing is merged
pub merged_plain : (part : ℕ → ℤ) (n : ℕ) (z : ℤ) → merged_over None part n z ≡ z
merged_plain part zero z = refl
merged_plain part (suc n) z = merged_plain part n z

-- a target's own values change nothing
pub with_own : (b : BoundValue) (n : ℕ) (t : Reached) (f : Values) (m : ℕ) (c : Cell) → has_cell b c ≡ true → f m c ≡ with_target n t (λ i. f n (cell_in t i)) f m c
with_own b n t f m c h = ⊎_elim
    (λ (q : (nat_eq m n && is_cell_of t c) ≡ true).
    let p = and_parts (nat_eq m n) (is_cell_of t c) q in
    ap₂ f (eqb-true m n p.0) (is_component b t c h p.1).1 ∙ sym (ap (λ z. cond z (f n (cell_in t (component_of c))) (f m c)) q))
    (λ (q : (nat_eq m n && is_cell_of t c) ≡ false). sym (ap (λ z. cond z (f n (cell_in t (component_of c))) (f m c)) q))
    (cases_bool (nat_eq m n && is_cell_of t c))

-- the values of a target that were put there
put_there : (b : BoundValue) (n : ℕ) (v : ℕ) (u : ℕ → ℤ) (f : Values) (i : ℕ) → with_target n (Whole v) u f n (cell_in (Whole v) i) ≡ u i
put_there b n v u f i = ap (λ z. cond z (u i) (f n (cell_in (Whole v) i))) (ap₂ (λ x y. x && y) (eq-eqb n n refl) (component_is b (Whole v) i))

-- they are put there twice
pub with_twice : (b : BoundValue) (n v : ℕ) (h : ℤ → ℕ → ℤ) (u : ℕ → ℤ) (f : Values) (m : ℕ) (c : Cell)
    → with_target n (Whole v) (λ i. h (with_target n (Whole v) u f n (cell_in (Whole v) i)) i) (with_target n (Whole v) u f) m c ≡ with_target n (Whole v) (λ i. h (u i) i) f m c
with_twice b n v h u f m c =
    ap (λ z. cond (nat_eq m n && is_cell_of (Whole v) c) (h z (component_of c)) (with_target n (Whole v) u f m c)) (put_there b n v u f (component_of c))
    ∙ same (nat_eq m n && is_cell_of (Whole v) c) (h (u (component_of c)) (component_of c)) (u (component_of c)) (f m c)
  where
    same : (t : Bool) (x y z : ℤ) → cond t x (cond t y z) ≡ cond t x z
    same true x y z = refl
    same false x y z = refl

-- ---- units

module _ (b : BoundValue) (fits : Fits b) (s : ℕ) (ls : s < length b.sites) where
  -- the loop has an argument on a variable into which it merges amounts
  pub on_argument : (v : VarCell) (q : Reduction) → reduces_at b s v ≡ Some q → (list_any (is_on v.variable) (site_at b s).args ≡ true) × (reduced_by (site_at b s).args v.variable ≡ Some q)
  on_argument v q is =
      let m : Merges b s (fits.sites s no_site ls) v q = merges b s (fits.sites s no_site ls) v q is in
      let a = m.argument in (
        list_any_at (is_on v.variable) (site_at b s).args a.number no_arg a.there (ap (is_on v.variable) a.is ∙ eq-eqb v.variable v.variable refl),
        sym (ap (λ t. cond t (reduced_by (site_at b s).args v.variable) None) (lt-ltb v.component (var_width b v.variable) m.component)) ∙ is,
      )

  pub unit_put : (n : ℕ) (p : Values) (v : VarCell) (q : Reduction) → reduces_at b s v ≡ Some q → changed_all units n (site_at b s).args (site_at b s).args p n (Variable v) ≡ unit_of q
  unit_put n p v q is =
      let w = on_argument v q is in
      ap (λ z. cond z (window_of (reduced_by (site_at b s).args v.variable) (p n (Variable v))) (p n (Variable v))) (ap₂ (λ x y. x && y) (eq-eqb n n refl) w.0)
      ∙ ap (λ o. window_of o (p n (Variable v))) w.1

  pub unit_else : (n r : ℕ) (p : Values) (v : VarCell) → r ≢ n → changed_all units n (site_at b s).args (site_at b s).args p r (Variable v) ≡ p r (Variable v)
  unit_else n r p v ne =
      ap (λ z. cond (z && list_any (is_on v.variable) (site_at b s).args) (window_of (reduced_by (site_at b s).args v.variable) (p r (Variable v))) (p r (Variable v))) (ne_eqb r n ne)

-- ---- sums

-- a rank's partials of a variable are merged in, behind the ranks' blocks
pub summed : (b : BoundValue) (ranks r v : ℕ) (how : Reduction) (old new sums : List ℤ) (g p : Values) (at from count : ℕ) → r < ranks → v < length b.vars
    → BlocksHold b ranks old g → BlocksHold (of_vars b.vars) ranks sums p → length new ≡ length old
    → at ≡ in_block b ranks (cell_in (Whole v) 0) → from ≡ in_block (of_vars b.vars) r (cell_in (Whole v) 0) → count ≡ var_width b v
    → ((i : ℕ) → i < count → get_or new (at + i) (pos 0) ≡ merged how (get_or old (at + i) (pos 0)) (get_or sums (from + i) (pos 0)))
    → ((k : ℕ) → (k < at) ⊎ (at + count ≤ k) → get_or new k (pos 0) ≡ get_or old k (pos 0))
    → BlocksHold b ranks new (with_target ranks (Whole v) (λ i. merged how (g ranks (cell_in (Whole v) i)) (p r (cell_in (Whole v) i))) g)
summed b ranks r v how old new sums g p at from count lr lv holds parts same e w wide there others =
    written b ranks ranks (Whole v) (λ i. merged how (g ranks (cell_in (Whole v) i)) (p r (cell_in (Whole v) i))) old new g lv same
    (λ i lt.
    ap (λ k. get_or new (k + i) (pos 0)) (sym e) ∙ there i (subst (λ k. i < k) (sym wide) lt)
    ∙ ap₂ (merged how)
    (ap (λ k. get_or old k (pos 0)) (ap (λ k. k + i) e ∙ sym (block_follow b ranks (Whole v) i)) ∙ holds.cells ranks (cell_in (Whole v) i) (omega arith) (has_of b (Whole v) i lv lt))
    (ap (λ k. get_or sums k (pos 0)) (ap (λ k. k + i) w ∙ sym (block_follow (of_vars b.vars) r (Whole v) i))
    ∙ parts.cells r (cell_in (Whole v) i) (omega (arith, lr)) (has_of (of_vars b.vars) (Whole v) i lv lt)))
    (λ k l. others k (subst (λ j. (k < j) ⊎ (j + count ≤ k)) (sym e) (subst (λ j. (k < in_block b ranks (cell_in (Whole v) 0)) ⊎ (in_block b ranks (cell_in (Whole v) 0) + j ≤ k)) (sym wide) l)))
    holds
