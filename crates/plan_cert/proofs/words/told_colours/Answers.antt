use Rattle.std.proofs.Common.{◌∙◌, ◌∷◌, ◌++◌, [], List, ℕ, sym, ap, arith, rules, append_assoc}
use Rattle.std.proofs.lemmas.List.{length_push}
use Rattle.plan_cert.proofs.Telling.{word_there, colour_there, colours_push}
use Rattle.plan_cert.proofs.words.told_colours.Goals as goal

pub returns-in_default : goal.returns-in_default
returns-in_default c = λ ws more cs e told n.
    let i = c.loop-told.invariant in
    word_there ws i.0 more c.loop-told.words cs c.loop-told.found.items told i.2 (omega (arith, i.3, n, c.loop-told-test.true)) (sym i.1 ∙ e) c.in_default.ensures.0

pub returns-in_default-told_colour : goal.returns-in_default-told_colour
returns-in_default-told_colour c = λ ws more cs e told n.
    let i = c.loop-told.invariant in
    colour_there ws i.0 more c.next.new.self cs c.loop-told.found.items told i.2 (omega (arith, i.3, n, c.loop-told-test.true)) c.in-Some.word.now
    (ap (λ (z : List (List ℕ)). i.0 ++ z) (sym c.in-Some.ensures) ∙ (sym i.1 ∙ e)) c.in_default-told_colour.ensures

pub loop-told-preserved : goal.loop-told-preserved
loop-told-preserved c =
    let i = c.loop-told.invariant in
    let w : List ℕ = c.in-Some.word.now in
    let n : ℕ = c.in-Some-told_colour.colour in
    rw c.in_ok-push.ensures.items (
      i.0 ++ w ∷ [],
      i.1 ∙ (ap (λ (z : List (List ℕ)). i.0 ++ z) c.in-Some.ensures ∙ sym (append_assoc i.0 (w ∷ []) c.next.new.self)),
      colours_push i.0 c.loop-told.found.items w n c.in-Some-told_colour.ensures (search rules) i.2,
      omega (arith, i.3, length_push c.loop-told.found.items n),
    )
