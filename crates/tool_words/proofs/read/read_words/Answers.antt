use Rattle.std.proofs.Common.{map, string_bytes}
use Rattle.tool_words.proofs.Asking.{matched_reads, refused_reads, call_reads, with_call}
use Rattle.tool_words.proofs.Within.{in_range}
use Rattle.tool_words.proofs.read.read_words.Goals as goal

pub returns-in-Some : goal.returns-in-Some
returns-in-Some c =
    let words = map string_bytes c.args.words.now.items in
    let is = with_call words c.args.call.now c.explained.result c.requires (rw c.in-Some.is (call_reads words _ c.explained.result c.explained.ensures)) in
    record { is = is; in_range = in_range c.option_words_are_within.ensures words c.explained.result is }

pub returns-in-Ok : goal.returns-in-Ok
returns-in-Ok c =
    let words = map string_bytes c.args.words.now.items in
    let is = with_call words c.args.call.now c.job_of.result c.requires
    (rw c.in_default.is (matched_reads words c.in-Ok.matches c.job_of.result c.in-Ok.ensures.ok.0 c.in-Ok.ensures.ok.1 c.job_of.ensures)) in
    record { is = is; in_range = in_range c.option_words_are_within.ensures words c.job_of.result is }

pub returns-in-Err : goal.returns-in-Err
returns-in-Err c =
    let words = map string_bytes c.args.words.now.items in
    let is = with_call words c.args.call.now c.refused.result c.requires
    (rw c.in_default.is (refused_reads words c.in-Err.error c.refused.result c.in-Err.ensures.err c.refused.ensures.asks c.refused.ensures.memory)) in
    record { is = is; in_range = in_range c.option_words_are_within.ensures words c.refused.result is }
