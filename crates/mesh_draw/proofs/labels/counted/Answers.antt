use Rattle.std.proofs.Common.{◌<◌, ◌++◌, ◌∷◌, [], ◌∙◌, List, All, sym, ap, subst, arith, rules}
use Rattle.std.proofs.lemmas.List.FromFn.{map-range_with_len_more}
use Rattle.std.proofs.lemmas.List.Elements.{All-push}
use Rattle.mesh_draw.specs.declared.picture.legend.Label.{Label}
use Rattle.mesh_draw.specs.Picture.{HasColour}
use Rattle.mesh_draw.specs.Fills.{numbered}
use Rattle.mesh_draw.proofs.labels.counted.Goals as goal

pub loop-fill-preserved : goal.loop-fill-preserved
loop-fill-preserved c =
    let word = c.args.word.now in
    let fill = c.loop-fill.fill in
    let old = c.loop-fill.labels.items in
    let few : fill < 64 = (let within = c.loop-fill-test.true in let most = c.requires in omega (arith, within, most)) in
    record {
      labels = c.in_ok-push.ensures.items ∙ ap (λ (l : Label). old ++ l ∷ []) c.in_ok-numbered.ensures
          ∙ ap (λ (ls : List Label). ls ++ numbered word fill ∷ []) c.loop-fill.invariant.labels
          ∙ sym (map-range_with_len_more (numbered word) 0 fill fill (omega arith));
      count = search rules;
      colours = subst (λ (ls : List Label). All HasColour ls) (sym c.in_ok-push.ensures.items)
          (All-push HasColour old c.in_ok-numbered.field-0 c.loop-fill.invariant.colours
          (subst HasColour (sym c.in_ok-numbered.ensures) few));
    }
