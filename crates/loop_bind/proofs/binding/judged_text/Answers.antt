use Rattle.std.proofs.Common.{subst, sym}
use Rattle.std.proofs.lemmas.List.Elements.{All-nil}
use Rattle.main_declarations.specs.KnownSets.{SetsKnown}
use Rattle.main_declarations.specs.SoFar.{nothing_declared}
use Rattle.loop_bind.proofs.binding.judged_text.Goals as goal

none_known : SetsKnown nothing_declared
none_known = (All-nil _, All-nil _)

pub judged_hosts-requires : goal.judged_hosts-requires
judged_hosts-requires c = c.in_ok-judged_tops.ensures.sets (subst SetsKnown (sym c.new-k.ensures) none_known)
