-- Ways of arguments, put down one after another.
use Rattle.std.proofs.Common.{◌≡◌, ◌≢◌, ◌<◌, ◌+◌, ℕ, List, length, get_or, set, get_or-set_other, get_or-set_same, Option, None, sym, ◌∙◌, subst, ⊎_elim, arith}
use Rattle.std.proofs.lemmas.Bool.{cases_eq}
use Rattle.bound_program.specs.declared.sites.Arg.{Arg}
use Rattle.kernel_runs.specs.declared.row_batches.ways.LocalVia.{LocalVia}
use Rattle.kernel_runs.specs.declared.row_batches.batch_tables.args.LocalArg.{LocalArg}
use Rattle.kernel_runs.specs.Alike.{same_way, IsFirst}
use Rattle.kernel_runs.specs.Tables.{via_of, local_at, AreWays}

module _ (args : List Arg) (locals : List (Option LocalArg)) (numbers : List ℕ) (ways : List (Option LocalVia)) (n : ℕ)
    (before : AreWays args locals numbers ways n) (there : n < length numbers) (room : n < length ways) where
  module _ (r : ℕ) (first : IsFirst same_way args n r) (way : Option LocalVia) (own : r ≡ n → way ≡ via_of (local_at args locals n)) (none : r ≢ n → way ≡ None) where
    number_here : get_or (set numbers n r) n 0 ≡ r
    number_here = get_or-set_same numbers n r 0 there

    number_other : (a : ℕ) → (a ≡ n → ⊥) → get_or (set numbers n r) a 0 ≡ get_or numbers a 0
    number_other a ne = get_or-set_other numbers n a r 0 ne

    pub one_more : AreWays args locals (set numbers n r) (set ways n way) (n + 1)
    one_more = record {
      numbered = λ a lt. ⊎_elim
          (λ (e : a ≡ n). subst (λ k. IsFirst same_way args k (get_or (set numbers n r) k 0)) (sym e) (subst (IsFirst same_way args n) (sym number_here) first))
          (λ (ne : a ≡ n → ⊥). subst (IsFirst same_way args a) (sym (number_other a ne)) (before.numbered a (omega (arith, lt, ne))))
          (cases_eq a n);
      first = λ a lt is. ⊎_elim
          (λ (e : a ≡ n). subst (λ k. get_or (set ways n way) k None ≡ via_of (local_at args locals k)) (sym e)
          (get_or-set_same ways n way None room ∙ own (sym number_here ∙ subst (λ k. get_or (set numbers n r) k 0 ≡ k) e is)))
          (λ (ne : a ≡ n → ⊥). get_or-set_other ways n a way None ne ∙ before.first a (omega (arith, lt, ne)) (sym (number_other a ne) ∙ is))
          (cases_eq a n);
      other = λ a lt not. ⊎_elim
          (λ (e : a ≡ n). subst (λ k. get_or (set ways n way) k None ≡ None) (sym e)
          (get_or-set_same ways n way None room ∙ none (λ same. not (subst (λ k. get_or (set numbers n r) k 0 ≡ k) (sym e) (number_here ∙ same)))))
          (λ (ne : a ≡ n → ⊥). get_or-set_other ways n a way None ne ∙ before.other a (omega (arith, lt, ne)) (λ same. not (number_other a ne ∙ same)))
          (cases_eq a n);
    }
