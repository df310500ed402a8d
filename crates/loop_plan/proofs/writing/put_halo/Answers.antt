use Rattle.std.proofs.Common.{◌∙◌, ap, map, take, drop, ℕ, List, [], ◌∷◌, ◌++◌}
use Rattle.std.specs.Prelude.{codes}
use Rattle.std.specs.Fmt.{decimal}
use Rattle.loop_plan.specs.PlanText.{Line}
use Rattle.loop_plan.specs.Spaced.{spaced}
use Rattle.loop_plan.proofs.Lines.{parts_put, line_put}
use Rattle.loop_plan.proofs.writing.put_halo.Goals as goal

pub returns : goal.returns
returns c =
    let old : List ℕ = c.args.out.now.items in
    let first : List ℕ = c.extend_from_slice.new.self.items in
    let a : Line = c.args.name.now ∷ [] in
    let b : Line = decimal c.args.rank ∷ [] in
    let d : Line = codes "owned" ∷ map decimal (take c.args.own c.args.originals.now) in
    let e : Line = codes "exec" ∷ map decimal (drop c.args.own (take c.args.executed c.args.originals.now)) in
    let f : Line = codes "nonexec" ∷ map decimal (drop c.args.executed c.args.originals.now) in
    let exec = c.in_ok-put_list-2.ensures ∙ ap (λ (z : List ℕ). c.put_list.new.out.items ++ spaced (codes "exec" ∷ map decimal z)) c.between.ensures in
    let nonexec = c.in_ok-put_list-3.ensures ∙ ap (λ (z : List ℕ). c.put_list-2.new.out.items ++ spaced (codes "nonexec" ∷ map decimal z)) c.rest_from.ensures in
    let p2 = parts_put first c.put_word.new.out.items c.put_number.new.out.items a b c.in_ok-put_word.ensures c.in_ok-put_number.ensures in
    let p3 = parts_put first c.put_number.new.out.items c.put_list.new.out.items (a ++ b) d p2 c.in_ok-put_list.ensures in
    let p4 = parts_put first c.put_list.new.out.items c.put_list-2.new.out.items (a ++ b ++ d) e p3 exec in
    let p5 = parts_put first c.put_list-2.new.out.items c.put_list-3.new.out.items ((a ++ b ++ d) ++ e) f p4 nonexec in
    line_put old first c.put_list-3.new.out.items c.extend_from_slice-2.new.self.items (codes "halo") (((a ++ b ++ d) ++ e) ++ f)
    c.in_ok-extend_from_slice.ensures.items p5 c.in_ok-extend_from_slice-2.ensures.items
