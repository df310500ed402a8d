use Rattle.bound_plan.proofs.given.meshes_and_items.Goals as goal

pub returns : goal.returns
returns c = record {
  numbers = record {
    owned = c.owned_come_first.ensures;
    executed = c.executed_come_first.ensures;
    distinct = c.originals_are_distinct.ensures;
    copies = c.originals_are_copies.ensures;
  };
  items = record { loops = c.items_are_there.ensures.loops };
  halos = record {
    imported = c.execute_halo_owns_a_target.ensures;
    targets = c.executed_targets_are_copies.ensures;
    core = c.core_targets_are_owned.ensures;
    others = c.imports_are_of_others.ensures;
    maps = c.declarations_hold.ensures.maps;
    dats = c.declarations_hold.ensures.dats;
    messages = c.imports_are_exports.ensures;
    conflicts = c.common_targets_conflict.ensures;
    listed = c.numbers_are_listed.ensures;
  };
  outlines = c.alike_outlines_accept_alike.ensures;
}
