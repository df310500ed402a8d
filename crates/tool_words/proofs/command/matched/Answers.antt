use Rattle.std.proofs.Common.{ap, map, rules, string_bytes}
use Rattle.clap.specs.Simple.{app_of}
use Rattle.tool_words.proofs.Asking.{matched_ok, matched_err}
use Rattle.tool_words.proofs.command.matched.Goals as goal

pub returns-clause-ok : goal.returns-clause-ok
returns-clause-ok c =
    matched_ok (app_of c.in_ok-command.field-0) _ (map string_bytes c.args.words.now.items) c.try_get_matches_from.result (search rules)
    (ap (map string_bytes) c.as_slice.ensures.value) c.try_get_matches_from.ensures.matches c.try_get_matches_from.ensures.kinds

pub returns-clause-err : goal.returns-clause-err
returns-clause-err c =
    matched_err (app_of c.in_ok-command.field-0) _ (map string_bytes c.args.words.now.items) c.try_get_matches_from.result (search rules)
    (ap (map string_bytes) c.as_slice.ensures.value) c.try_get_matches_from.ensures.kinds
