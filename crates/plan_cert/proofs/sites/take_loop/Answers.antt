use Rattle.std.proofs.Common.{◌+◌, ℕ, List, [], ◌∷◌, length, map, sym, subst, arith}
use Rattle.std.proofs.lemmas.List.{length_push, map-append}
use Rattle.colouring.specs.declared.types.Colours.{Colours}
use Rattle.bound_program.specs.Values.{bound_of}
use Rattle.loop_plan.specs.Proper.{Separate, HasColours}
use Rattle.loop_plan.proofs.Public.{one_each}
use Rattle.plan_cert.specs.Awaited.{ColoursOf, ColourLists, each_below, awaited_ranks}
use Rattle.plan_cert.specs.Certified.{lists_of}
use Rattle.plan_cert.specs.Judged.{FitsAmong}
use Rattle.plan_cert.proofs.Reading.{fits_more, refused_at, passed_on}
use Rattle.plan_cert.proofs.sites.take_loop.Goals as goal

pub returns-in_err-told-clause-judged : goal.returns-in_err-told-clause-judged
returns-in_err-told-clause-judged c =
    let b = bound_of c.args.bound.now in
    let meshes = c.args.ranks.now in
    passed_on b meshes c.args.size (awaited_ranks b meshes c.args.site) c.args.lines.now _ (λ p. map lists_of p.colours.items)
    c.from_residual-in_err-told.result c.in_err-told.field-0.0 c.from_residual-in_err-told.ensures.1
    (refused_at b meshes c.args.size (λ r. ColoursOf c.args.site r ∷ []) c.loop-rank.rank (length meshes) c.args.lines.now c.loop-rank.lines
    (map lists_of c.loop-rank.colours.items) c.in_err-told.field-0.0
    (omega arith) c.loop-rank.invariant.judged c.in_err-told.ensures.judged)

pub loop-rank-preserved : goal.loop-rank-preserved
loop-rank-preserved c =
    let b = bound_of c.args.bound.now in
    let meshes = c.args.ranks.now in
    let size : ℕ = c.args.size in
    let s : ℕ = c.args.site in
    let k : ℕ = c.loop-rank.rank in
    let xs : List Colours = c.loop-rank.colours.items in
    let told : Colours = c.in_ok-told.told in
    rw c.in_ok-push_colours.ensures (record {
      judged = subst (λ (z : List ColourLists). FitsAmong b meshes size (each_below (λ r. ColoursOf s r ∷ []) (k + 1)) c.args.lines.now
          c.take_colours.new.lines z) (sym (map-append lists_of xs (told ∷ [])))
          (fits_more b meshes size (λ r. ColoursOf s r ∷ []) k c.args.lines.now c.loop-rank.lines c.take_colours.new.lines (map lists_of xs)
          (lists_of told ∷ []) c.loop-rank.invariant.judged c.in_ok-told.ensures.judged);
      count = omega (arith, length_push xs told, c.loop-rank.invariant.count);
      separate = one_each xs told k (λ r x. HasColours b meshes Separate size s r x) c.loop-rank.invariant.count c.in_ok-told.ensures.separate c.loop-rank.invariant.separate;
    })
