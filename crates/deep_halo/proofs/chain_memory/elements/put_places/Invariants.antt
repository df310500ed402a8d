use Rattle.std.proofs.Common.{◌≡◌, [], map, take}
use Rattle.deep_halo.specs.Placed.{arg_place}
use Rattle.deep_halo.specs.Places.{stands_at}
use Rattle.deep_halo.specs.Sound.{program_in}
use Rattle.deep_halo.proofs.chain_memory.elements.put_places.Given as goal

abbrev pub invariant-loop-i : goal.invariant-loop-i
invariant-loop-i l = take l.i l.places ≡ map (arg_place (program_in l.blocks) [] l.element (stands_at (program_in l.blocks) l.blocks.owners.now l.at)) (take l.i l.all.args.now)
