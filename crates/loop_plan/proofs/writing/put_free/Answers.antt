use Rattle.std.proofs.Common.{map, ℕ, List, [], ◌∷◌, ◌++◌}
use Rattle.std.specs.Prelude.{codes}
use Rattle.std.specs.Fmt.{decimal}
use Rattle.mesh_decl.specs.Mesh.{dat_name}
use Rattle.loop_plan.specs.PlanText.{Line}
use Rattle.loop_plan.proofs.Lines.{parts_put, line_put}
use Rattle.loop_plan.proofs.writing.put_free.Goals as goal

pub returns : goal.returns
returns c =
    let first : List ℕ = c.extend_from_slice.new.self.items in
    let a : Line = decimal c.args.number ∷ [] in
    let b : Line = codes "free" ∷ decimal c.args.site ∷ [] in
    let d : Line = codes "exchange" ∷ [] in
    let e : Line = map (dat_name c.args.mesh.now) c.args.exchange.now in
    let p2 = parts_put first c.put_number.new.out.items c.put_count.new.out.items a b c.in_ok-put_number.ensures c.in_ok-put_count.ensures in
    let p3 = parts_put first c.put_count.new.out.items c.put_word.new.out.items (a ++ b) d p2 c.in_ok-put_word.ensures in
    let p4 = parts_put first c.put_word.new.out.items c.put_names.new.out.items (a ++ b ++ d) e p3 c.in_ok-put_names.ensures in
    line_put c.args.out.now.items first c.put_names.new.out.items c.extend_from_slice-2.new.self.items (codes "item") ((a ++ b ++ d) ++ e)
    c.in_ok-extend_from_slice.ensures.items p4 c.in_ok-extend_from_slice-2.ensures.items
