use Rattle.std.proofs.Common.{ap}
use Rattle.std.specs.Map.{lookup}
use Rattle.colouring.specs.Masks.{same_word, same_words}
use Rattle.colouring.proofs.Words.{none_written, none_kept}
use Rattle.colouring.proofs.masks.Masks.new.Goals as goal

pub returns-clause-clear : goal.returns-clause-clear
returns-clause-clear c = record {
  words = λ t v. none_written c.in_ok-vec.field-0.items c.args.total _ (c.in_ok-vec.ensures.items_if_clones_equal (λ y e. e)) (ap (λ es. lookup (same_word (t, v)) es) c.new.ensures.empty) t v;
  sound = λ s t v n e. absurd (none_kept (lookup (same_words (s, t, v)) c.new-3.result.entries) n (ap (λ es. lookup (same_words (s, t, v)) es) c.new-3.ensures.empty) e);
}
