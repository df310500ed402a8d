use Rattle.std.proofs.Common.{◌≡◌, ◌+◌, ◌*◌, ◌/◌, ◌^◌, ◌++◌, length, refl, sym, ap, ◌∙◌, arith}
use Rattle.std.proofs.lemmas.List.{take-append-drop}
use Rattle.gmsh_text.specs.Bounded.{bounded}
use Rattle.gmsh_text.specs.Decimal.{number_from}
use Rattle.gmsh_text.proofs.decimals.Numbers.{from-append}
use Rattle.gmsh_text.proofs.decimals.Quotients.{right-far, right-near}
use Rattle.gmsh_text.proofs.decimals.shifting.moved_right.Goals as goal

pub returns-then-by-places : goal.returns-then-by-places
returns-then-by-places c =
    let s = c.args.scale in
    let w = c.args.whole.now in
    let f = c.args.fraction.now in
    let all = c.grown-all.ensures (number_from 0 w) (c.grown-high.ensures 0 refl) ∙ ap bounded (sym (from-append 0 w f)) in
    c.joined.ensures _ (c.raised.ensures (number_from 0 (w ++ f)) all)
    ∙ ap bounded (right-far s (number_from 0 (w ++ f)) (length f) c.args.by c.if-by-places.true)

pub returns : goal.returns
returns c =
    let s = c.args.scale in
    let w = c.args.whole.now in
    let f = c.args.fraction.now in
    let a = c.split_at.result.0.now in
    let l = c.split_at.result.1.now in
    let whole : a ++ l ≡ f = rw c.split_at.ensures.front (rw c.split_at.ensures.back (take-append-drop _ f)) in
    let size : length a ≡ c.args.by = omega (arith, c.split_at.ensures.front_len) in
    let high = c.grown.ensures (number_from 0 w) (c.grown-high.ensures 0 refl) ∙ ap bounded (sym (from-append 0 w a)) in
    c.joined-2.ensures (number_from 0 (w ++ a)) high
    ∙ ap (λ x. bounded (s * number_from 0 (w ++ a) + x)) c.lowered.ensures.value
    ∙ ap bounded (right-near s w a l)
    ∙ ap (λ x. bounded (s * number_from 0 (w ++ x) * 10 ^ length a / 10 ^ length x)) whole
    ∙ ap (λ k. bounded (s * number_from 0 (w ++ f) * 10 ^ k / 10 ^ length f)) size
