-- What the walk found so far, as its definition has it.
use Rattle.std.specs.Prelude.{Option, Some, None}
use Rattle.kernel_model.specs.Refusals as model
use Rattle.kernel_model.specs.Walk as walk
use Rattle.access_check.specs.declared.found.Rule.{Rule}
use Rattle.access_check.specs.declared.found.Rule.TheVariants as rule
use Rattle.access_check.specs.declared.found.Breach.{Breach}

-- a rule
abbrev pub rule_of : Rule → model.Rule
rule_of rule.WritesRead = model.WritesRead
rule_of rule.ReadsInc = model.ReadsInc
rule_of rule.IncNotSum = model.IncNotSum
rule_of rule.ReadsUnwritten = model.ReadsUnwritten
rule_of rule.NotAllWritten = model.NotAllWritten
rule_of rule.WriteIndexNotStatic = model.WriteIndexNotStatic
rule_of rule.LiteralIndexOut = model.LiteralIndexOut
rule_of rule.MinMaxForm = model.MinMaxForm

-- a breach
abbrev pub breach_of : Breach → walk.Breach
breach_of b = record { rule = rule_of b.rule; at = b.at }

-- a breach, or none
abbrev pub found_of : Option Breach → Option walk.Breach
found_of None = None
found_of (Some b) = Some (breach_of b)
