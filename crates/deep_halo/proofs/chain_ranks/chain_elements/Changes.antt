-- Variables are changed argument by argument.
use Rattle.std.proofs.Common.{◌≡◌, ◌<◌, ◌+◌, ◌⊎◌, inl, inr, ⊎_elim, ℕ, ℤ, Bool, true, false, cond, ◌&&◌, ◌||◌, nat_eq, List, [], take, length, get_or, Option, Some, None, refl, sym, ap, ap₂, ◌∙◌, arith}
use Rattle.std.specs.List.{list_any}
use Rattle.std.proofs.lemmas.Bool.{and_parts, eqb-true}
use Rattle.op_num.specs.Reduction.{Reduction}
use Rattle.op_num.specs.declared.reductions.access.Access.{Access}
use Rattle.schedule_model.specs.Cells.{Cell, Data, Variable, VarCell}
use Rattle.bound_program.specs.declared.sites.Arg.{Arg}
use Rattle.bound_program.specs.declared.sites.Arg.TheVariants.{Dat, Global}
use Rattle.bound_program.specs.Fits.{AllApart}
use Rattle.run_model.specs.Windows.{Whole, cell_in}
use Rattle.run_model.specs.Arguments.{no_arg}
use Rattle.bound_plan.specs.Variables.{reduction_of, reduced_by}
use Rattle.bound_plan.proofs.Public.{named_once}
use Rattle.deep_halo.specs.Cells.{Values}
use Rattle.deep_halo.specs.Globals.{is_on}
use Rattle.deep_halo.specs.Merging.{Change, changed_by, changed_all}
use Rattle.deep_halo.proofs.chain_ranks.chain_elements.Lists.{any_taken, on_taken}
use Rattle.deep_halo.proofs.chain_ranks.chain_elements.Putting.{how_all}
use Rattle.lemmas.proofs.Truth.{cases_bool, cond_never, or_true}
use Rattle.std.proofs.Math.Bool.{or-false}

pub some_or_none : (r : Option Reduction) → (r ≡ None) ⊎ ((o : Reduction) × (r ≡ Some o))
some_or_none None = inl refl
some_or_none (Some o) = inr (o, refl)

module _ (ch : Change) (plain : (z : ℤ) (m : ℕ) (c : Cell) → ch None z m c ≡ z) where
  -- nothing is changed
  pub unchanged : (r v : ℕ) (a : Access) (p : Values) → reduction_of a ≡ None → (m : ℕ) (c : Cell) → p m c ≡ changed_by ch r (Global v a) p m c
  unchanged r v a p none m (Data c) = sym (cond_never (nat_eq m r) (ch (reduction_of a) (p r (cell_in (Whole v) c.component)) r (cell_in (Whole v) c.component)) (p m (Data c)))
  unchanged r v a p none m (Variable n) = ⊎_elim
      (λ (h : (nat_eq m r && nat_eq n.variable v) ≡ true).
      let q = and_parts (nat_eq m r) (nat_eq n.variable v) h in
      let cell : cell_in (Whole v) n.component ≡ Variable n = ap (λ y. Variable (record { variable = y; component = n.component })) (sym (eqb-true n.variable v q.1)) in
      ap₂ (λ x y. p x y) (eqb-true m r q.0) (sym cell)
      ∙ sym (plain (p r (cell_in (Whole v) n.component)) r (cell_in (Whole v) n.component))
      ∙ sym (ap (λ t. ch t (p r (cell_in (Whole v) n.component)) r (cell_in (Whole v) n.component)) none)
      ∙ sym (ap (λ t. cond t (ch (reduction_of a) (p r (cell_in (Whole v) n.component)) r (cell_in (Whole v) n.component)) (p m (Variable n))) h))
      (λ (h : (nat_eq m r && nat_eq n.variable v) ≡ false).
      sym (ap (λ t. cond t (ch (reduction_of a) (p r (cell_in (Whole v) n.component)) r (cell_in (Whole v) n.component)) (p m (Variable n))) h))
      (cases_bool (nat_eq m r && nat_eq n.variable v))

  pub changed_none : (r : ℕ) (all : List Arg) (p : Values) (m : ℕ) (c : Cell) → p m c ≡ changed_all ch r all [] p m c
  changed_none r all p m (Data c) = refl
  changed_none r all p m (Variable n) = sym (cond_never (nat_eq m r) (ch (reduced_by all n.variable) (p m (Variable n)) m (Variable n)) (p m (Variable n)))

  module _ (r : ℕ) (all : List Arg) (p : Values) (i : ℕ) (apart : AllApart all) (lt : i < length all) (m : ℕ) where
    abbrev g : Values
    g = changed_all ch r all (take i all) p

    module _ (v : ℕ) (a : Access) (is : get_or all i no_arg ≡ Global v a) (n : VarCell) where
      unmerged_yet : reduced_by all n.variable ≡ None → g m (Variable n) ≡ p m (Variable n)
      unmerged_yet none = ap (λ t. cond (nat_eq m r && list_any (is_on n.variable) (take i all)) (ch t (p m (Variable n)) m (Variable n)) (p m (Variable n))) none
          ∙ ap (λ z. cond (nat_eq m r && list_any (is_on n.variable) (take i all)) z (p m (Variable n))) (plain (p m (Variable n)) m (Variable n))
          ∙ same (nat_eq m r && list_any (is_on n.variable) (take i all)) (p m (Variable n))
        where
          same : (t : Bool) (z : ℤ) → cond t z z ≡ z
          same true z = refl
          same false z = refl

      fresh : n.variable ≡ v → (q : Reduction) → reduced_by all n.variable ≡ Some q → g m (Variable n) ≡ p m (Variable n)
      fresh ev q how = ⊎_elim
          (λ (h : list_any (is_on n.variable) (take i all) ≡ true).
          let w = on_taken all i n.variable (omega arith) h in
          let mine : get_or all i no_arg ≡ Global n.variable a = is ∙ ap (λ z. Global z a) (sym ev) in
          let red : reduction_of a ≡ Some q = sym (how_all all apart i n.variable a lt mine) ∙ how in
          let same : w.0.number ≡ i = named_once all apart w.0.number i n.variable w.0.access a q w.0.there lt w.0.is mine red in
          absurd (omega (arith, same, w.1)))
          (λ (h : list_any (is_on n.variable) (take i all) ≡ false).
          ap (λ t. cond (nat_eq m r && t) (ch (reduced_by all n.variable) (p m (Variable n)) m (Variable n)) (p m (Variable n))) h
          ∙ cond_never (nat_eq m r) (ch (reduced_by all n.variable) (p m (Variable n)) m (Variable n)) (p m (Variable n)))
          (cases_bool (list_any (is_on n.variable) (take i all)))

      -- changed once, or not at all
      once : n.variable ≡ v → ch (reduced_by all n.variable) (g m (Variable n)) m (Variable n) ≡ ch (reduced_by all n.variable) (p m (Variable n)) m (Variable n)
      once ev = ⊎_elim
          (λ (none : reduced_by all n.variable ≡ None). ap (λ z. ch (reduced_by all n.variable) z m (Variable n)) (unmerged_yet none))
          (λ (w : (q : Reduction) × (reduced_by all n.variable ≡ Some q)). ap (λ z. ch (reduced_by all n.variable) z m (Variable n)) (fresh ev w.0 w.1))
          (some_or_none (reduced_by all n.variable))

      abbrev now : Bool → ℤ
      now t = cond t (ch (reduction_of a) (g r (cell_in (Whole v) n.component)) r (cell_in (Whole v) n.component)) (g m (Variable n))

      abbrev later : Bool → ℤ
      later t = cond t (ch (reduced_by all n.variable) (p m (Variable n)) m (Variable n)) (p m (Variable n))

      here : (nat_eq m r && nat_eq n.variable v) ≡ true → now (nat_eq m r && nat_eq n.variable v) ≡ later (nat_eq m r && list_any (is_on n.variable) (take (i + 1) all))
      here h =
          let q = and_parts (nat_eq m r) (nat_eq n.variable v) h in
          let em : m ≡ r = eqb-true m r q.0 in
          let ev : n.variable ≡ v = eqb-true n.variable v q.1 in
          let cell : cell_in (Whole v) n.component ≡ Variable n = ap (λ y. Variable (record { variable = y; component = n.component })) (sym ev) in
          let how : reduction_of a ≡ reduced_by all n.variable = sym (how_all all apart i v a lt is) ∙ ap (reduced_by all) (sym ev) in
          ap now h
          ∙ ap (λ t. ch t (g r (cell_in (Whole v) n.component)) r (cell_in (Whole v) n.component)) how
          ∙ ap₂ (λ x y. ch (reduced_by all n.variable) (g x y) x y) (sym em) cell
          ∙ once ev
          ∙ sym (ap later (ap₂ (λ x y. x && y) q.0
          (any_taken (is_on n.variable) all i (Global v a) lt is ∙ ap (λ t. list_any (is_on n.variable) (take i all) || t) q.1
          ∙ or_true (list_any (is_on n.variable) (take i all)))))

      drop_it : (x l y : Bool) → (x && y) ≡ false → (x && (l || y)) ≡ (x && l)
      drop_it false l y e = refl
      drop_it true l y e = ap (λ t. l || t) e ∙ or-false l

      elsewhere : (nat_eq m r && nat_eq n.variable v) ≡ false → now (nat_eq m r && nat_eq n.variable v) ≡ later (nat_eq m r && list_any (is_on n.variable) (take (i + 1) all))
      elsewhere h = ap now h ∙ ap later
          (sym (ap (λ t. nat_eq m r && t) (any_taken (is_on n.variable) all i (Global v a) lt is)
          ∙ drop_it (nat_eq m r) (list_any (is_on n.variable) (take i all)) (nat_eq n.variable v) h))

    by : (x : Arg) → get_or all i no_arg ≡ x → (d : Cell) → changed_by ch r x g m d ≡ changed_all ch r all (take (i + 1) all) p m d
    by (Dat d v a) is (Data x) = refl
    by (Dat d v a) is (Variable n) =
        ap (λ t. cond (nat_eq m r && t) (ch (reduced_by all n.variable) (p m (Variable n)) m (Variable n)) (p m (Variable n)))
        (sym (any_taken (is_on n.variable) all i (Dat d v a) lt is ∙ or-false (list_any (is_on n.variable) (take i all))))
    by (Global v a) is (Data x) = cond_never (nat_eq m r) (ch (reduction_of a) (g r (cell_in (Whole v) x.component)) r (cell_in (Whole v) x.component)) (p m (Data x))
    by (Global v a) is (Variable n) = ⊎_elim (here v a is n) (elsewhere v a is n) (cases_bool (nat_eq m r && nat_eq n.variable v))

    pub changed_more : (c : Cell) → changed_by ch r (get_or all i no_arg) g m c ≡ changed_all ch r all (take (i + 1) all) p m c
    changed_more c = by (get_or all i no_arg) refl c
