use Rattle.std.proofs.Common.{◌≡◌, Ok, subst}
use Rattle.metis_text.specs.Numbers.{ranks_in}
use Rattle.metis_text.specs.Owned.{AreOneGiven}
use Rattle.metis_text.proofs.owner_text.metis.Owned.{given_fits}
use Rattle.metis_text.proofs.owner_text.metis.owners.owners_by_metis.Goals as goal

pub derive-requires-clause-given : goal.derive-requires-clause-given
derive-requires-clause-given c =
    let g = c.args.mesh.now in
    let owners = c.in_ok-owners.owners.items in
    let read = subst (λ n. ranks_in c.args.ranks n c.args.bytes.now ≡ Ok owners) c.set_size.ensures c.in_ok-owners.ensures in
    let one = subst (λ n. AreOneGiven n c.args.set owners c.in_ok-given.given.items) c.set_count.ensures.count c.in_ok-given.ensures in
    given_fits g c.args.ranks c.args.set c.args.bytes.now owners c.in_ok-given.given.items read one
