-- A loop's arguments reach constants by OP_READ alone.
use Rattle.std.proofs.Common.{◌≡◌, ℕ, true, Option, Some, None, refl, sym, ap, ◌∙◌}
use Rattle.std.specs.Prelude.{◌==◌, nat_lt}
use Rattle.std.proofs.lemmas.Bool.{false≢true, and_parts, eqb-true}
use Rattle.op_num.specs.Access.{OpRead, access_of}
use Rattle.op_num.specs.declared.reductions.access.Access.{Access}
use Rattle.op_num.specs.declared.reductions.access.Access.TheVariants.{Read, Write, Rw, Inc, Min, Max}
use Rattle.schedule_model.specs.Cells.{Cell, Data, Variable}
use Rattle.schedule_model.specs.Arguments.{reaches}
use Rattle.schedule_model.specs.Arguments as laws
use Rattle.bound_program.specs.declared.sites.Arg.{Arg}
use Rattle.bound_program.specs.declared.sites.Arg.TheVariants.{Dat, Global}
use Rattle.bound_program.specs.Values.{BoundValue}
use Rattle.bound_program.specs.Fits.{ArgFits, GlobalAccess, var_at}
use Rattle.run_model.specs.Arguments.{no_arg, is_there, argument_of, arg_at, entries, dat_width, var_width, is_constant}
use Rattle.run_model.specs.Constants.{ConstantsAreRead}

not_there : (c : Option ℕ) → c ≡ None → is_there c ≡ true → ⊥
not_there c e h = false≢true (sym (ap is_there e) ∙ h)

read_alone : (a : Access) (c : Option ℕ) → GlobalAccess a c → is_there c ≡ true → access_of a ≡ OpRead
read_alone Read c g h = refl
read_alone Write c g h = absurd g
read_alone Rw c g h = absurd g
read_alone Inc c g h = absurd (not_there c g h)
read_alone Min c g h = absurd (not_there c g h)
read_alone Max c g h = absurd (not_there c g h)

module _ (b : BoundValue) (set e : ℕ) where
  read_by : (x : Arg) (c : Cell) → ArgFits b set x → is_constant b c ≡ true → reaches (entries b) (dat_width b) (var_width b) e (argument_of x) c ≡ true → laws.access_of (argument_of x) ≡ OpRead
  read_by (Dat d None a) (Variable c) fit k h = absurd (false≢true h)
  read_by (Dat d (Some v) a) (Variable c) fit k h = absurd (false≢true h)
  read_by (Global v a) (Variable c) fit k h =
      let same : v ≡ c.variable = eqb-true v c.variable (and_parts (v == c.variable) (nat_lt c.component (var_width b v)) h).0 in
      let there : is_there (var_at b c.variable).constant ≡ true = (and_parts (is_there (var_at b c.variable).constant) (nat_lt c.component (var_width b c.variable)) k).0 in
      read_alone a (var_at b v).constant fit.3 (ap (λ n. is_there (var_at b n).constant) same ∙ there)
  read_by x (Data c) fit k h = absurd (false≢true k)

pub constants_are_read : ConstantsAreRead
constants_are_read b site e fits c k a lt h = read_by b site.set e (arg_at site a) c (fits.args a no_arg lt) k h
