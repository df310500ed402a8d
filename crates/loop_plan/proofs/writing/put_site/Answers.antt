use Rattle.std.proofs.Common.{◌∙◌, ap, map, ℕ, List, [], ◌∷◌, ◌++◌}
use Rattle.std.specs.Prelude.{codes}
use Rattle.std.specs.Fmt.{decimal}
use Rattle.op_num.specs.Lines.{line_of}
use Rattle.loop_plan.specs.PlanText.{Line}
use Rattle.loop_plan.proofs.Lines.{parts_put, line_put}
use Rattle.loop_plan.proofs.writing.put_site.Goals as goal

pub returns : goal.returns
returns c =
    let old : List ℕ = c.args.out.now.items in
    let first : List ℕ = c.extend_from_slice.new.self.items in
    let blocks : List ℕ = c.deref.result.now in
    let inner : List ℕ = c.deref-2.result.now in
    let a : Line = decimal c.args.site ∷ [] in
    let b : Line = codes "rank" ∷ decimal c.args.rank ∷ [] in
    let d : Line = codes "places" ∷ decimal c.args.places ∷ [] in
    let e : Line = codes "blocks" ∷ map decimal blocks in
    let f : Line = codes "inner" ∷ map decimal inner in
    let p2 = parts_put first c.put_number.new.out.items c.put_count.new.out.items a b c.in_ok-put_number.ensures c.in_ok-put_count.ensures in
    let p3 = parts_put first c.put_count.new.out.items c.put_count-2.new.out.items (a ++ b) d p2 c.in_ok-put_count-2.ensures in
    let p4 = parts_put first c.put_count-2.new.out.items c.put_list.new.out.items (a ++ b ++ d) e p3 c.in_ok-put_list.ensures in
    let p5 = parts_put first c.put_list.new.out.items c.put_list-2.new.out.items ((a ++ b ++ d) ++ e) f p4 c.in_ok-put_list-2.ensures in
    line_put old first c.put_list-2.new.out.items c.extend_from_slice-2.new.self.items (codes "site") (((a ++ b ++ d) ++ e) ++ f)
    c.in_ok-extend_from_slice.ensures.items p5 c.in_ok-extend_from_slice-2.ensures.items
    ∙ (ap (λ (z : List ℕ). old ++ line_of (codes "site" ∷ (((a ++ b ++ d) ++ codes "blocks" ∷ map decimal z) ++ f))) c.deref.ensures.value
    ∙ ap (λ (z : List ℕ). old ++ line_of (codes "site" ∷ (((a ++ b ++ d) ++ codes "blocks" ∷ map decimal c.args.colours.now.blocks.items) ++ codes "inner" ∷ map decimal z))) c.deref-2.ensures.value)
