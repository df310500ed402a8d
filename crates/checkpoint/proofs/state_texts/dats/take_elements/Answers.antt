use Rattle.std.proofs.Common.{◌≡◌, ℕ, [], ◌∷◌, ◌∙◌, ap, subst, map, arith}
use Rattle.std.proofs.lemmas.List.Concat.{flat_map_single}
use Rattle.run_model.specs.Windows.{numbers}
use Rattle.checkpoint.specs.Reading.{Values}
use Rattle.checkpoint.specs.Judged.{PushesAmong}
use Rattle.checkpoint.proofs.state_texts.Judging.{push_passed_on, refuses_same, pushed_none}
use Rattle.checkpoint.proofs.state_texts.Below.{below, pushes_next, refused_next}
use Rattle.checkpoint.proofs.state_texts.dats.take_elements.Goals as goal

-- a line for each element
rows : (dim n : ℕ) → below (λ e. Values dim ∷ []) n ≡ map (λ e. Values dim) (numbers n)
rows dim n = flat_map_single (λ (e : ℕ). Values dim) (numbers n)

pub loop-element-init : goal.loop-element-init
loop-element-init c = λ b k. pushed_none b k c.args.lines.now c.args.values.now.items

pub returns-in_err-take_values : goal.returns-in_err-take_values
returns-in_err-take_values c = λ b k.
    push_passed_on b k (map (λ e. Values c.args.dim) (numbers c.args.size)) c.args.lines.now c.take_values.new.lines c.args.values.now.items
    c.take_values.new.values.items c.from_residual.result c.in_err-take_values.field-0.0 c.from_residual.ensures.1
    (refuses_same b k (below (λ e. Values c.args.dim ∷ []) c.args.size) (map (λ e. Values c.args.dim) (numbers c.args.size))
    c.args.lines.now c.in_err-take_values.field-0.0 (rows c.args.dim c.args.size)
    (let p = c.loop-element.invariant b k in
    refused_next (λ e. Values c.args.dim ∷ []) b k c.loop-element._element c.args.size c.args.lines.now c.loop-element.lines p.more
    c.in_err-take_values.field-0.0 c.loop-element-test.true p.fits (c.in_err-take_values.ensures b k)))

pub loop-element-preserved : goal.loop-element-preserved
loop-element-preserved c = λ b k.
    pushes_next (λ e. Values c.args.dim ∷ []) b k c.loop-element._element c.args.lines.now c.loop-element.lines c.take_values.new.lines
    c.args.values.now.items c.loop-element.values.items c.take_values.new.values.items
    (c.loop-element.invariant b k) (c.in_ok-take_values.ensures b k)

pub returns : goal.returns
returns c = λ b k.
    let e : c.loop-element._element ≡ c.args.size = (let l = c.loop-element.auto._element-end in let g = c.loop-element-test.false in omega arith) in
    subst (λ (z : _). PushesAmong b k z c.args.lines.now c.loop-element.lines c.args.values.now.items c.loop-element.values.items)
    (ap (below (λ e. Values c.args.dim ∷ [])) e ∙ rows c.args.dim c.args.size) (c.loop-element.invariant b k)
