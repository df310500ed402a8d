use Rattle.std.proofs.Common.{◌≡◌, ◌^◌, ◌*◌, ◌<◌, sym, ◌∙◌, arith}
use Rattle.std.proofs.Math.Nat.{mul_comm}
use Rattle.gmsh_text.proofs.decimals.Bounds.{none-large, large-none, some-same, times-large, ten-pos}
use Rattle.gmsh_text.proofs.decimals.shifting.raised.Goals as goal

pub returns-in_err-value : goal.returns-in_err-value
returns-in_err-value c n h =
    let large = none-large n (sym h ∙ c.in_err-value.was) in
    c.from_residual.ensures ∙ sym (large-none (n * 10 ^ c.args.by) (times-large n (10 ^ c.args.by) (ten-pos c.args.by) large))

pub returns-in_err-power : goal.returns-in_err-power
returns-in_err-power c n h =
    let same = some-same n c.in_ok-value.value (sym (c.in_ok-value.was) ∙ h) in
    let pos : 0 < n = omega (arith, c.if-value-eq0.false, same.0) in
    let large = none-large (10 ^ c.args.by) (sym c.power.ensures ∙ c.in_err-power.was) in
    let more = times-large (10 ^ c.args.by) n pos large in
    let turned : 10 ^ c.args.by * n ≡ n * 10 ^ c.args.by = mul_comm (10 ^ c.args.by) n in
    c.from_residual-in_err-power.ensures ∙ sym (large-none (n * 10 ^ c.args.by) (omega (arith, more, turned)))
