-- Columns of arguments on dats, put down one argument after another.
use Rattle.std.proofs.Common.{◌≡◌, ◌≢◌, ◌<◌, ◌≤◌, ◌+◌, ◌-◌, ℕ, List, length, get_or, set, get_or-set_other, get_or-set_same, Option, Some, None, sym, ap, ◌∙◌, subst, ⊎_elim, arith}
use Rattle.std.specs.Prelude.{slice_index}
use Rattle.std.proofs.lemmas.Bool.{cases_eq, cases_lt}
use Rattle.op_num.specs.declared.reductions.access.Access.{Access}
use Rattle.kernel_model.specs.declared.types.views.frame.Place.{Place}
use Rattle.kernel_model.specs.Framed.{no_place}
use Rattle.bound_program.specs.declared.sites.Arg.{Arg}
use Rattle.kernel_runs.specs.declared.row_batches.rows.RowColumn.{RowColumn}
use Rattle.kernel_runs.specs.RowLoops.{no_column}
use Rattle.kernel_runs.specs.declared.row_batches.batch_tables.args.LocalArg.{LocalArg}
use Rattle.kernel_runs.specs.Alike.{same_column, IsFirst}
use Rattle.kernel_runs.specs.Tables.{place_at, local_at, IsShared, HasColumns, AreColumns}
use Rattle.kernel_runs.proofs.row_batches.batch_tables.Firsts.{unique}

module _ (args : List Arg) (locals : List (Option LocalArg)) (numbers : List ℕ) (columns : List RowColumn) (places : List Place) (n count : ℕ)
    (before : AreColumns args locals numbers columns places n count) where
  -- an argument on a variable has none
  pub skipped : local_at args locals n ≡ None → AreColumns args locals numbers columns places (n + 1) count
  skipped none = record {
    few = before.few;
    opened = λ a y lt o. ⊎_elim
        (λ (e : a ≡ n). absurd (no_local a y e o.local))
        (λ (ne : a ≡ n → ⊥). before.opened a y (omega (arith, lt, ne)) o)
        (cases_eq a n);
    stands = λ a b y lt is first. ⊎_elim
        (λ (e : a ≡ n). absurd (no_local a y e is))
        (λ (ne : a ≡ n → ⊥). before.stands a b y (omega (arith, lt, ne)) is first)
        (cases_eq a n);
    counts = λ a y lt is. ⊎_elim
        (λ (e : a ≡ n). absurd (no_local a y e is))
        (λ (ne : a ≡ n → ⊥). before.counts a y (omega (arith, lt, ne)) is)
        (cases_eq a n);
    each = λ c lt. let o = before.each c lt in (o.0, o.1, o.2, (let l = o.3 in omega (arith, l)), o.4, o.5, o.6);
  }
    where
      no_local : (a : ℕ) (y : LocalArg) → a ≡ n → local_at args locals a ≡ Some y → ⊥
      no_local a y e is = let gone : None ≡ Some y = sym none ∙ subst (λ k. local_at args locals k ≡ Some y) e is in cc

  module _ (there : n < length places) (y : LocalArg) (local : local_at args locals n ≡ Some y) (first : ℕ) (is_first : IsFirst same_column args n first) where
    same_local : (a : ℕ) (z : LocalArg) → a ≡ n → local_at args locals a ≡ Some z → z ≡ y
    same_local a z e is = let same : Some z ≡ Some y = sym (subst (λ k. local_at args locals k ≡ Some z) e is) ∙ local in cc

    module _ (from : ℕ) where
      abbrev put : List Place
      put = set places n (record { from = from; count = y.dim })

      put_here : place_at put n ≡ record { from = from; count = y.dim }
      put_here = get_or-set_same places n (record { from = from; count = y.dim }) no_place there

      put_other : (a : ℕ) → (a ≡ n → ⊥) → place_at put a ≡ place_at places a
      put_other a ne = get_or-set_other places n a (record { from = from; count = y.dim }) no_place ne

      -- places that stay
      from_before : (a : ℕ) → (a ≡ n → ⊥) → (place_at put a).from ≡ (place_at places a).from
      from_before a ne = ap (λ (p : Place). p.from) (put_other a ne)

      all_count : (a : ℕ) (z : LocalArg) → a < n + 1 → local_at args locals a ≡ Some z → (place_at put a).count ≡ z.dim
      all_count a z lt is = ⊎_elim
          (λ (e : a ≡ n). ap (λ (p : Place). p.count) (subst (λ k. place_at put k ≡ record { from = from; count = y.dim }) (sym e) put_here)
          ∙ ap (λ (x : LocalArg). x.dim) (sym (same_local a z e is)))
          (λ (ne : a ≡ n → ⊥). ap (λ (p : Place). p.count) (put_other a ne) ∙ before.counts a z (omega (arith, lt, ne)) is)
          (cases_eq a n)

      -- where the next argument stands as the first that is like it
      all_stand : from ≡ (place_at put first).from
          → (a b : ℕ) (z : LocalArg) → a < n + 1 → local_at args locals a ≡ Some z → IsFirst same_column args a b → (place_at put a).from ≡ (place_at put b).from
      all_stand same a b z lt is one = ⊎_elim
          (λ (e : a ≡ n).
          let b_is : b ≡ first = unique same_column args n b first (subst (λ k. IsFirst same_column args k b) e one) is_first in
          subst (λ k. (place_at put k).from ≡ (place_at put b).from) (sym e)
          (subst (λ k. (place_at put n).from ≡ (place_at put k).from) (sym b_is) (ap (λ (p : Place). p.from) put_here ∙ same)))
          (λ (ne : a ≡ n → ⊥).
          let upto = one.upto in
          from_before a ne ∙ before.stands a b z (omega (arith, lt, ne)) is one
          ∙ sym (from_before b (λ e. omega (arith, upto, lt, ne, e))))
          (cases_eq a n)

    -- an argument that stands in columns that are there
    pub shared : first ≢ n → AreColumns args locals numbers columns (set places n (record { from = (place_at places first).from; count = y.dim })) (n + 1) count
    shared ne = record {
      few = before.few;
      opened = λ a z lt o. ⊎_elim
          (λ (e : a ≡ n). absurd (ne (unique same_column args n first n is_first (subst (λ k. IsFirst same_column args k k) e o.first))))
          (λ (other : a ≡ n → ⊥). subst (λ f. HasColumns args locals numbers columns a z f count) (sym (from_before (place_at places first).from a other))
          (before.opened a z (omega (arith, lt, other)) o))
          (cases_eq a n);
      stands = all_stand (place_at places first).from (sym (from_before (place_at places first).from first ne));
      counts = all_count (place_at places first).from;
      each = λ c lt.
          let o = before.each c lt in
          let l = o.3 in
          (o.0, o.1, o.2, omega (arith, l), o.4, o.5, o.6 ∙ ap (λ k. k + o.2) (sym (from_before (place_at places first).from o.0 (λ e. omega (arith, l, e)))));
    }

    -- an argument whose columns are put down
    module _ (opens : first ≡ n) (listed : n < length args) (access : Access) (is_shared : IsShared args n access)
        (more : List RowColumn) (long : length more ≡ length columns) (room : count + y.dim ≤ length columns)
        (stay : (c : ℕ) → c < count → get_or more c no_column ≡ get_or columns c no_column)
        (are : (j : ℕ) → j < y.dim → get_or more (count + j) no_column ≡ record { way = slice_index numbers n; cell = y.base + j; dim = y.dim; access = access }) where
      kept : (a : ℕ) (z : LocalArg) (f : ℕ) → HasColumns args locals numbers columns a z f count → HasColumns args locals numbers more a z f (count + y.dim)
      kept a z f has = record {
        inside = (let fits = has.inside in omega (arith, fits));
        shared = has.shared;
        is_shared = has.is_shared;
        are = λ j lt. stay (f + j) (let fits = has.inside in omega (arith, fits, lt)) ∙ has.are j lt;
      }

      new : HasColumns args locals numbers more n y count (count + y.dim)
      new = record { inside = omega arith; shared = access; is_shared = is_shared; are = are }

      pub opened : AreColumns args locals numbers more (set places n (record { from = count; count = y.dim })) (n + 1) (count + y.dim)
      opened = record {
        few = omega (arith, long, room);
        opened = λ a z lt o. ⊎_elim
            (λ (e : a ≡ n).
            let z_is : z ≡ y = same_local a z e o.local in
            subst (λ k. HasColumns args locals numbers more k z (place_at (put count) k).from (count + y.dim)) (sym e)
            (subst (λ x. HasColumns args locals numbers more n x (place_at (put count) n).from (count + y.dim)) (sym z_is)
            (subst (λ f. HasColumns args locals numbers more n y f (count + y.dim)) (sym (ap (λ (p : Place). p.from) (put_here count))) new)))
            (λ (other : a ≡ n → ⊥). subst (λ f. HasColumns args locals numbers more a z f (count + y.dim)) (sym (from_before count a other))
            (kept a z (place_at places a).from (before.opened a z (omega (arith, lt, other)) o)))
            (cases_eq a n);
        stands = all_stand count (sym (subst (λ k. (place_at (put count) k).from ≡ count) (sym opens) (ap (λ (p : Place). p.from) (put_here count))));
        counts = all_count count;
        each = λ c lt. ⊎_elim
            (λ (old : c < count).
            let o = before.each c old in
            let l = o.3 in
            (o.0, o.1, o.2, omega (arith, l), o.4, o.5, o.6 ∙ ap (λ k. k + o.2) (sym (from_before count o.0 (λ e. omega (arith, l, e))))))
            (λ (le : count ≤ c). (
              n,
              y,
              c - count,
              omega arith,
              record { there = listed; local = local; first = subst (λ k. IsFirst same_column args n k) opens is_first },
              omega (arith, lt, le),
              (let at : (place_at (put count) n).from ≡ count = ap (λ (p : Place). p.from) (put_here count) in omega (arith, at, le)),
            ))
            (cases_lt c count);
      }
