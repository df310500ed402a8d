-- What an exchange makes of the cells of all blocks.
use Rattle.std.specs.Prelude.{ℕ, ℤ, pos, Bool, not, ◌&&◌, cond, None, nat_lt}
use Rattle.mesh_decl.specs.declared.owners.Owners.{Owners}
use Rattle.schedule_model.specs.Cells.{Data, Variable, DatCell}
use Rattle.bound_program.specs.Values.{BoundValue}
use Rattle.chain_model.specs.Slices.{needs, owns_pair}
use Rattle.deep_halo.specs.Places.{block_at}
use Rattle.deep_halo.specs.Cells.{Values}
use Rattle.deep_halo.specs.declared.chain_ranks.chain_exchange.exchanges.Exchange.{Exchange}
use Rattle.deep_halo.specs.declared.chain_ranks.chain_exchange.exchanges.Exchange.TheVariants.{Drop, Take}

module _ (b : BoundValue) (o : Owners) (k : ℕ) where
  -- the rank needs the cell's pair before item k, and doesn't own it
  abbrev pub is_copy : ℕ → DatCell → Bool
  is_copy r c = needs b o k r c.dat c.element && not (owns_pair b o r c.dat c.element)

  -- what comes to a copy: nothing, or the owner's value
  abbrev pub brought : Exchange → Values → DatCell → ℤ
  brought Drop f c = pos 0
  brought Take f c = f (block_at b o None (Data c)) (Data c)

  -- after the exchange of the copies on chosen ranks and of chosen dats
  abbrev pub exchanged_where : Exchange → (ℕ → ℕ → Bool) → Values → Values
  exchanged_where what chosen f r (Data c) = cond (chosen r c.dat && is_copy r c) (brought what f c) (f r (Data c))
  exchanged_where what chosen f r (Variable v) = f r (Variable v)

  -- of all copies
  abbrev pub exchanged_all : Exchange → Values → Values
  exchanged_all what f r (Data c) = cond (nat_lt r o.ranks && is_copy r c) (brought what f c) (f r (Data c))
  exchanged_all what f r (Variable v) = f r (Variable v)
