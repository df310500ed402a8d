use Rattle.std.proofs.Common.{◌≡◌, ◌*◌, ◌++◌, ap, ◌∙◌, length, arith}
use Rattle.std.proofs.lemmas.Grind.{common_steps}
use Rattle.deep_halo.proofs.chain_memory.chain_stores.Starting.{first_held}
use Rattle.deep_halo.proofs.chain_memory.chain_stores.starts.first_cells.Goals as goal

times : (c : goal.In_ok-extend_from_slice) → c.in_ok-count.count ≡ length c.args.first.now * c.args.ranks
times c = let h : c.in_ok-count.count ≡ length c.args.first.now * c.args.ranks = grind (arith, common_steps, c.checked_mul.ensures, c.in_ok-count.ensures.value) in h

pub returns : goal.returns
returns c b ranges is =
    first_held c.memory_holds.ensures.first b c.args.ranks c.in_ok-count.count c.args.first.now c.extend_from_slice.new.self.items ranges is
    (times c)
    (c.in_ok-extend_from_slice.ensures.items ∙ ap (λ z. z ++ c.args.first.now) (c.in_ok-memory.ensures.items_if_clones_equal (λ y e. e)))
