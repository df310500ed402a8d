use Rattle.std.proofs.Common.{◌≡◌, ◌+◌, ◌∷◌, [], ℕ, List, length, map, refl, ap, ◌∙◌}
use Rattle.std.proofs.lemmas.List.FromFn.{length-map-range_with_len}
use Rattle.std.proofs.lemmas.Result.{IfOk-weaker}
use Rattle.kernel_model.specs.View.{Scalar}
use Rattle.bound_program.specs.HostExpr.{closed}
use Rattle.bound_program.specs.Values.{Host, Line}
use Rattle.run_model.specs.Windows.{numbers}
use Rattle.checkpoint.proofs.heads.says_var.Goals as goal

-- no name that is told stands in cells of variables
closed_scalars : (ks : List ℕ) → map (closed []) (map Scalar ks) ≡ map Scalar ks
closed_scalars [] = refl
closed_scalars (k ∷ ks) = ap (λ es. Scalar k ∷ es) (closed_scalars ks)

pub returns : goal.returns
returns c =
    let cells = map (λ i. c.args.from + i) (numbers c.args.count) in
    let long : length cells ≡ c.args.count = length-map-range_with_len (λ i. c.args.from + i) 0 c.args.count in
    IfOk-weaker c.host.result _ _
    (λ i is.
    is ∙ ap (λ es. Host (Line c.new-text.result es)) (ap (map (closed [])) c.in_ok-values.ensures ∙ closed_scalars cells)
    ∙ ap (λ t. Host (Line t (map Scalar cells))) (c.new-text.ensures ∙ c.in_ok-var_text.ensures cells long))
    c.host.ensures
