use Rattle.std.proofs.Common.{◌≡◌, ◌∙◌, ◌∷◌, ◌++◌, string_bytes, OnOk, ap, drop, subst}
use Rattle.std.specs.List.{flat_map}
use Rattle.explanations.proofs.wrong_words.LeftOut.{chosen}
use Rattle.explanations.proofs.wrong_words.telling.put_chosen.Goals as goal

pub returns : goal.returns
returns c =
    subst (λ ws. OnOk c.put_words.result (c.put_words.new.out.items ≡ c.args.out.now.items ++ flat_map (λ w. 32 ∷ w) ws))
    (chosen string_bytes c.args.words.now.items c.from_place.result.now c.front_of.result.now c.args.place c.args.count
    (c.from_place.ensures ∙ ap (drop c.args.place) c.deref.ensures.value) c.front_of.ensures) c.put_words.ensures
