-- Arguments as they are read, and the first of several like ones.
use Rattle.std.proofs.Common.{◌≡◌, ◌<◌, ◌≤◌, ℕ, Bool, true, List, None, length, get_or, sym, ◌∙◌, ⊎_elim, arith}
use Rattle.std.proofs.lemmas.Bool.{cases_lt, false≢true}
use Rattle.std.proofs.lemmas.List.{get_or_default}
use Rattle.op_num.specs.declared.reductions.access.Access.TheVariants.{Read}
use Rattle.bound_program.specs.declared.sites.Arg.{Arg}
use Rattle.bound_program.specs.declared.sites.Arg.TheVariants.{Dat}
use Rattle.run_model.specs.Arguments.{no_arg}
use Rattle.kernel_runs.specs.Alike.{arg_in, IsFirst}

-- an argument that is there, as it is read
pub read_is : (args : List Arg) (a : ℕ) → a < length args → get_or args a (Dat 0 None Read) ≡ arg_in args a
read_is args a lt = get_or_default args a (Dat 0 None Read) no_arg lt

module _ (like : Arg → Arg → Bool) (args : List Arg) (a : ℕ) where
  -- none is before the first
  not_before : (b c : ℕ) → IsFirst like args a b → IsFirst like args a c → b < c → ⊥
  not_before b c some other lt = ⊎_elim
      (λ (e : b ≡ a). let le = other.upto in absurd (omega (arith, le, lt, e)))
      (λ (t : like (arg_in args b) (arg_in args a) ≡ true). absurd (false≢true (sym (other.least b lt) ∙ t)))
      some.alike

  pub unique : (b c : ℕ) → IsFirst like args a b → IsFirst like args a c → b ≡ c
  unique b c some other = ⊎_elim
      (λ (lt : b < c). absurd (not_before b c some other lt))
      (λ (le : c ≤ b). ⊎_elim
      (λ (lt : c < b). absurd (not_before c b other some lt))
      (λ (ge : b ≤ c). omega (arith, le, ge))
      (cases_lt c b))
      (cases_lt b c)
