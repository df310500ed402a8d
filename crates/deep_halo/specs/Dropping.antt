-- What an element leaves in pairs that its rank doesn't hold is dropped.
use Rattle.std.specs.Prelude.{ℕ, pos, Bool, false, not, cond, ◌&&◌, nat_eq, List}
use Rattle.std.specs.List.{list_any}
use Rattle.mesh_decl.specs.declared.owners.Owners.{Owners}
use Rattle.schedule_model.specs.Cells.{Data, Variable, DatCell}
use Rattle.bound_program.specs.declared.sites.Arg.{Arg}
use Rattle.bound_program.specs.declared.sites.Arg.TheVariants.{Dat, Global}
use Rattle.bound_program.specs.Values.{BoundValue}
use Rattle.run_model.specs.Windows.{element_by}
use Rattle.chain_model.specs.Slices.{needs}
use Rattle.deep_halo.specs.Cells.{Values}

module _ (b : BoundValue) (o : Owners) (k r e : ℕ) where
  -- element e reaches the cell's pair by the argument
  abbrev pub leads_to : DatCell → Arg → Bool
  leads_to c (Dat d v a) = nat_eq c.dat d && nat_eq c.element (element_by b v e)
  leads_to c (Global v a) = false

  -- with zeros in block r for the pairs to which these arguments lead and that the rank doesn't need before item k
  abbrev pub dropped : List Arg → Values → Values
  dropped these f m (Data c) =
      cond (nat_eq m r && (not (needs b o k r c.dat c.element) && list_any (leads_to c) these)) (pos 0) (f m (Data c))
  dropped these f m (Variable v) = f m (Variable v)

  -- of one argument
  abbrev pub dropped_by : Arg → Values → Values
  dropped_by x f m (Data c) = cond (nat_eq m r && (not (needs b o k r c.dat c.element) && leads_to c x)) (pos 0) (f m (Data c))
  dropped_by x f m (Variable v) = f m (Variable v)
