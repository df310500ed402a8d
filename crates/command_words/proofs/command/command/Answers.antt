use Rattle.std.proofs.Common.{◌≡◌, codes, Result, Ok, Err, IfOk, ap, ◌∙◌}
use Rattle.clap.specs.Simple.{App, app_of, app_of_fields, new_app}
use Rattle.command_words.specs.Words.{versioned, with_rules, rules, command}
use Rattle.command_words.proofs.command.command.Goals as goal

-- what is so of what came is so where it follows
if_ok_weaker : {X E : Type 0} (r : Result X E) (P Q : X → Type 0) → ((x : X) → P x → Q x) → IfOk r P → IfOk r Q
if_ok_weaker (Ok x) P Q step h = step x h
if_ok_weaker (Err e) P Q step h = tt

-- with all rules behind the program's name, the whole command
whole : (own all : App) → own ≡ versioned (new_app (codes "op2")) → all ≡ with_rules own rules → all ≡ command
whole own all e is = is ∙ ap (λ a. with_rules a rules) e

pub returns : goal.returns
returns c =
    let own : app_of c.version-command.result ≡ versioned (new_app (codes "op2")) = ap app_of_fields c.version-command.ensures ∙ ap versioned c.new.ensures.app in
    if_ok_weaker c.with_rules.result _ _ (λ x e. whole _ _ own e) c.with_rules.ensures
