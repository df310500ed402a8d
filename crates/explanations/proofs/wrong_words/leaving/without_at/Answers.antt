use Rattle.std.proofs.Common.{string_bytes, ap, ◌∙◌, ◌++◌, map, take, drop}
use Rattle.explanations.proofs.wrong_words.LeftOut.{left_out}
use Rattle.explanations.proofs.wrong_words.leaving.without_at.Goals as goal

pub returns : goal.returns
returns c =
    let front = c.split_at.result.0.now in
    let tail = c.from_place.result.now in
    c.in_ok-push_words-2.ensures
    ∙ (ap (λ xs. xs ++ map string_bytes tail) (c.in_ok-push_words.ensures ∙ ap (λ xs. map string_bytes xs ++ map string_bytes front) c.new-out.ensures.items)
    ∙ left_out string_bytes c.args.words.now.items front c.split_at.result.1.now tail c.args.place c.args.count
    (c.split_at.ensures.front ∙ ap (take c.args.place) c.deref.ensures.value) (c.split_at.ensures.back ∙ ap (drop c.args.place) c.deref.ensures.value)
    c.from_place.ensures)
