use Rattle.std.proofs.Common.{◌&&◌, ◌||◌, nat_eq, ap, ◌∙◌}
use Rattle.std.specs.Prelude.{not}
use Rattle.local_mesh.specs.RankSet.{has}
use Rattle.chain_needs.proofs.chain_slices.lists.other_ranks.Goals as goal

pub returns : goal.returns
returns c = λ r l.
    c.minus.ensures r l ∙ ap (λ z. has c.args.ranks r && not z) (c.with.ensures r ∙ ap (λ z. z || nat_eq r c.args.owner) (c.empty.ensures r))
