use Rattle.std.proofs.Common.{ℕ, List, [], ◌∷◌, ◌++◌}
use Rattle.std.specs.Prelude.{codes}
use Rattle.std.specs.Fmt.{decimal}
use Rattle.loop_plan.specs.PlanText.{Line}
use Rattle.loop_plan.proofs.Lines.{parts_put, line_put}
use Rattle.loop_plan.proofs.writing.put_sizes.Goals as goal

pub returns : goal.returns
returns c =
    let first : List ℕ = c.extend_from_slice.new.self.items in
    let a : Line = decimal c.args.ranks ∷ [] in
    let b : Line = codes "block" ∷ decimal c.args.block ∷ [] in
    let p2 = parts_put first c.put_number.new.out.items c.put_count.new.out.items a b c.in_ok-put_number.ensures c.in_ok-put_count.ensures in
    line_put c.args.out.now.items first c.put_count.new.out.items c.extend_from_slice-2.new.self.items (codes "ranks") (a ++ b)
    c.in_ok-extend_from_slice.ensures.items p2 c.in_ok-extend_from_slice-2.ensures.items
