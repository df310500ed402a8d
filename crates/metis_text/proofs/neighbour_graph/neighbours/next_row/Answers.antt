use Rattle.std.proofs.Common.{eqb}
use Rattle.std.proofs.lemmas.List.Filters.{dedup_is}
use Rattle.metis_text.proofs.neighbour_graph.Near.{near_row}
use Rattle.metis_text.proofs.neighbour_graph.neighbours.next_row.Goals as goal

pub returns : goal.returns
returns c =
    near_row c.args.mesh.now c.args.map c.args.element c.args.seen.now c.unseen_neighbours.new.found.items c.dedup.new.self.items c.in_ok-unseen_neighbours.ensures
    c.requires.none (dedup_is eqb c.unseen_neighbours.new.found.items c.dedup.new.self.items c.dedup.ensures.filtered)
