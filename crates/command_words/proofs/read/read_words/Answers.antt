use Rattle.std.proofs.Common.{map, string_bytes}
use Rattle.command_words.proofs.Asking.{matched_reads, refused_reads}
use Rattle.command_words.proofs.read.read_words.Goals as goal

pub returns-in-Ok : goal.returns-in-Ok
returns-in-Ok c =
    let r = matched_reads c.options_are_within.ensures (map string_bytes c.args.words.now.items) c.in-Ok.matches c.job_of.result c.in-Ok.ensures.ok.0 c.in-Ok.ensures.ok.1 c.job_of.ensures in
    record { ok = r.ok; in_range = r.in_range; only = r.only; refused = r.refused; refuses = r.refuses }

pub returns-in-Err : goal.returns-in-Err
returns-in-Err c =
    let r = refused_reads c.options_are_within.ensures (map string_bytes c.args.words.now.items) c.in-Err.error c.refused.result
    (c.one_fault.ensures (map string_bytes c.args.words.now.items)) c.in-Err.ensures.err c.refused.ensures.kind c.refused.ensures.memory
    in
    record { ok = r.ok; in_range = r.in_range; only = r.only; refused = r.refused; refuses = r.refuses }
