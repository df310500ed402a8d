-- Turns of the loops of the walk over the text.
use Rattle.std.proofs.Common.{◌≡◌, List, [], ◌∷◌, refl, ℕ, zero, suc, ◌<◌, ◌≤◌, map, length, get_or, Vec, Global, arith}
use Rattle.c_tree.specs.declared.hosts.Host.{Host, Block}
use Rattle.c_tree.specs.Tree.{HostBlock}
use Rattle.c_tree.specs.View.{host_of, hosts_of}
use Rattle.c_tree.proofs.Public as blocks
use Rattle.bound_program.specs.declared.programs.Var.{Var}
use Rattle.bound_program.specs.Values.{var_of}
use Rattle.loop_bind.specs.Arguments.{slot_constant}
use Rattle.std.specs.Prelude.{is_some, false}

pub host_block : (at : ℕ) (v : Vec Host Global) → host_of (Block at v) ≡ HostBlock at (hosts_of v.items)
host_block at v = blocks.host_block at v

pub constant_in : (vs : List Var) (i : ℕ) (d : Var) → i < length vs → slot_constant (map var_of vs) i ≡ is_some (get_or vs i d).constant
constant_in [] zero d h = absurd (omega arith)
constant_in [] (suc i) d h = absurd (omega arith)
constant_in (v ∷ vs) zero d h = refl
constant_in (v ∷ vs) (suc i) d h = constant_in vs i d (omega arith)

pub constant_none : (vs : List Var) (i : ℕ) → length vs ≤ i → slot_constant (map var_of vs) i ≡ false
constant_none [] zero h = refl
constant_none [] (suc i) h = refl
constant_none (v ∷ vs) zero h = absurd (omega arith)
constant_none (v ∷ vs) (suc i) h = constant_none vs i (omega arith)
