use Rattle.std.proofs.Common.{◌≡◌, ◌<◌, ◌∙◌, ℕ, get_or, ap, sym}
use Rattle.mesh_decl.specs.Mesh.{set_size}
use Rattle.renumber.proofs.Kept.{kept_numbers}
use Rattle.renumber.proofs.orders.set_order.Goals as goal

pub returns : goal.returns
returns c =
    let n : ℕ = set_size c.args.mesh.now c.args.set in
    let q : c.set_size.result ≡ n = c.set_size.ensures in
    let kept : (x : ℕ) → x < n → get_or c.in_ok-kept.kept.items x 0 ≡ x = λ x l. c.in_ok-kept.ensures.kept x (rw q l) in
    record {
      numbering = kept_numbers n c.in_ok-kept.kept.items (c.in_ok-kept.ensures.length ∙ q) kept;
      reached = λ e. absurd (c.if-set-to.false (e ∙ sym (ap (λ z. z.1) c.map_ends-from.ensures)));
      leading = λ e. absurd (c.if-set-from.false (e ∙ sym (ap (λ z. z.0) c.map_ends-from.ensures)));
      others = λ _ _. kept;
    }
