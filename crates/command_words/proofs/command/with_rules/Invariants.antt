use Rattle.std.proofs.Common.{◌≡◌, map, length}
use Rattle.clap.specs.Simple.{app_of}
use Rattle.command_words.specs.Words.{with_rules}
use Rattle.command_words.specs.Values.{word_rule}
use Rattle.command_words.proofs.command.with_rules.Given as goal

-- with the rules that are left it is the whole
abbrev pub invariant-loop-rest : goal.invariant-loop-rest
invariant-loop-rest l = with_rules (app_of l.command) (map word_rule l.rest) ≡ with_rules (app_of l.fn.command) (map word_rule l.fn.rules)

abbrev pub decreases-loop-rest : goal.decreases-loop-rest
decreases-loop-rest l = length l.rest
