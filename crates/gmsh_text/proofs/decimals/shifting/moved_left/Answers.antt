use Rattle.std.proofs.Common.{◌≡◌, ◌+◌, ◌-◌, ◌*◌, ◌/◌, ◌^◌, ◌++◌, length, refl, sym, ap, ◌∙◌, arith}
use Rattle.std.proofs.lemmas.List.{take-append-drop}
use Rattle.gmsh_text.specs.Bounded.{bounded}
use Rattle.gmsh_text.specs.Decimal.{number_from}
use Rattle.gmsh_text.proofs.decimals.Bounds.{small-some}
use Rattle.gmsh_text.proofs.decimals.Quotients.{left-far, left-near}
use Rattle.gmsh_text.proofs.decimals.shifting.moved_left.Goals as goal

pub returns-then-by-places : goal.returns-then-by-places
returns-then-by-places c =
    let s = c.args.scale in
    let w = c.args.whole.now in
    let f = c.args.fraction.now in
    let low = c.lowered-low.ensures.value ∙ ap (λ x. (s * number_from 0 w + x) / 10 ^ length w) c.lowered-carry.ensures.value in
    let value = c.quotient.ensures ∙ ap (λ x. x / 10 ^ (c.args.by - length w)) low ∙ left-far s w f c.args.by c.if-by-places.true in
    sym (small-some c.quotient.result (omega (arith, c.quotient.type_inv))) ∙ ap bounded value

pub returns : goal.returns
returns c =
    let s = c.args.scale in
    let h = c.split_at.result.0.now in
    let l = c.split_at.result.1.now in
    let f = c.args.fraction.now in
    let whole : h ++ l ≡ c.args.whole.now = rw c.split_at.ensures.front (rw c.split_at.ensures.back (take-append-drop _ c.args.whole.now)) in
    let size : length l ≡ c.args.by = omega (arith, c.split_at.ensures.back_len, c.if-by-places.false) in
    let low = c.lowered.ensures.value ∙ ap (λ x. (s * number_from 0 l + x) / 10 ^ length l) c.lowered-carry.ensures.value in
    c.joined.ensures (number_from 0 h) (c.grown.ensures 0 refl)
    ∙ ap (λ x. bounded (s * number_from 0 h + x)) low
    ∙ ap bounded (left-near s h l f)
    ∙ ap (λ x. bounded (s * number_from 0 (x ++ f) / 10 ^ (length l + length f))) whole
    ∙ ap (λ k. bounded (s * number_from 0 (c.args.whole.now ++ f) / 10 ^ (k + length f))) size
