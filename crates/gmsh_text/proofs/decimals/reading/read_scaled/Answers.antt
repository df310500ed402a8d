use Rattle.std.proofs.Common.{◌≡◌, ◌+◌, ◌++◌, ◌<◌, true, length, ap, ◌∙◌, arith}
use Rattle.std.specs.Char.{is_ascii_digit}
use Rattle.std.proofs.lemmas.List.Elements.{All-append}
use Rattle.gmsh_text.specs.Decimal.{front, behind, fraction, behind_fraction}
use Rattle.gmsh_text.proofs.decimals.Cuts.{from-parts, some-first, same-parts}
use Rattle.gmsh_text.proofs.decimals.Rounding.{number-low}
use Rattle.gmsh_text.proofs.decimals.reading.read_scaled.Goals as goal
use Rattle.gmsh_text.proofs.decimals.reading.read_scaled.Goals.{else-is_empty-via-then-is_empty+else-is_empty-2, else-is_empty-via-else-is_empty}

pub returns : goal.returns
returns c =
    let w = c.split_digits.result.0.now in
    let f = c.split_fraction.result.0.now in
    let minus = c.split_sign-minus.result.0 in
    let all = All-append (λ d. is_ascii_digit d ≡ true) w f c.split_digits.ensures.digits c.split_fraction.ensures.digits in
    let some : 0 < length w + length f =
    elim c.else-is_empty.branch [ else-is_empty-via-then-is_empty+else-is_empty-2 e ↦ grind arith | else-is_empty-via-else-is_empty e ↦ some-first _ _ _ c.is_empty.ensures e.if-is_empty.false ] in
    let power = c.in-Some.ensures in
    let to_front = c.split_digits.ensures.front ∙ ap front c.split_sign-minus.ensures.rest in
    let to_behind = c.split_digits.ensures.behind ∙ ap behind c.split_sign-minus.ensures.rest in
    let to_fraction = c.split_fraction.ensures.fraction ∙ ap fraction to_behind in
    let to_rest = c.split_fraction.ensures.behind ∙ ap behind_fraction to_behind in
    c.rounded.ensures
    ∙ from-parts c.args.scale minus w f c.requires c.ranges.scale.fits c.split_digits.ensures.few c.split_fraction.ensures.few (number-low (w ++ f) all)
    c.in-Some.shift _ power some
    ∙ same-parts c.args.scale _ _ _ _ _ _ _ _ c.split_sign-minus.ensures.minus to_front to_fraction to_rest
