-- Nothing in a program sets a variable that is `const`.
use Rattle.std.specs.Prelude.{◌≡◌, false, true, All}
use Rattle.op_num.specs.declared.reductions.access.Access.TheVariants.{Read}
use Rattle.bound_program.specs.declared.sites.Arg.{Arg}
use Rattle.bound_program.specs.declared.sites.Arg.TheVariants.{Dat, Global}
use Rattle.bound_program.specs.Values.{ActValue, Clear, Assign, ItemValue, Host, SiteValue, BoundValue}
use Rattle.bound_program.specs.Fits.{var_at}

module _ (b : BoundValue) where
  -- a statement sets none
  abbrev pub ActLeaves : ActValue → Type 0
  ActLeaves (Clear v) = (var_at b v).is_const ≡ false
  ActLeaves (Assign v i op op_at e at) = (var_at b v).is_const ≡ false
  ActLeaves _ = Unit {0}

  -- nor does an item
  abbrev pub ItemLeaves : ItemValue → Type 0
  ItemLeaves (Host a) = ActLeaves a
  ItemLeaves _ = Unit {0}

  -- an argument reads one at most
  abbrev pub ArgLeaves : Arg → Type 0
  ArgLeaves (Dat d v a) = Unit {0}
  ArgLeaves (Global v a) = (var_at b v).is_const ≡ true → a ≡ Read

  -- no statement and no loop sets a variable that is `const`
  pub record LeavesConstants : Type 0 where
    pub items : All ItemLeaves b.trace
    pub args : All (λ (s : SiteValue). All ArgLeaves s.args) b.sites
