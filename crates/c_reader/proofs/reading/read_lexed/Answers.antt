use Rattle.std.proofs.Common.{sym, subst, Ok}
use Rattle.c_tree.specs.View.{program_of}
use Rattle.c_tree.specs.Refused.{places, place_at, CanRefuse}
use Rattle.c_tree.specs.declared.refusals.SourceRefusal.TheVariants.{TooDeep}
use Rattle.c_reader.specs.declared.faults.ReadError.{ReadError}
use Rattle.c_reader.specs.declared.faults.ReadError.TheVariants.{Fault}
use Rattle.c_reader.specs.Descent.{Fails}
use Rattle.c_reader.specs.Whole.{whole}
use Rattle.c_reader.specs.Kinds.{kinds}
use Rattle.c_reader.proofs.Programs.{reads, given_only, given_deep, refused_only, refused_deep, can_refuse, is_refusal}
use Rattle.c_reader.proofs.reading.read_lexed.Goals as goal

pub returns-in-Ok-clause-found : goal.returns-in-Ok-clause-found
returns-in-Ok-clause-found c = reads c.args.bytes.now c.args.tokens.now (program_of c.in-Ok.program) c.requires.lexed c.in-Ok.ensures

pub returns-in-Ok-clause-only : goal.returns-in-Ok-clause-only
returns-in-Ok-clause-only c =
    given_only c.args.bytes.now c.args.tokens.now (program_of c.in-Ok.program)
    (λ o l. c.one_outcome.ensures c.args.bytes.now (Ok c.args.tokens.now) o c.requires.lexed l) c.in-Ok.ensures

pub returns-in-Ok-clause-deep : goal.returns-in-Ok-clause-deep
returns-in-Ok-clause-deep c =
    given_deep c.args.bytes.now c.args.tokens.now (program_of c.in-Ok.program)
    (λ o l. c.one_outcome.ensures c.args.bytes.now (Ok c.args.tokens.now) o c.requires.lexed l) c.in-Ok.ensures

pub returns-in-Err-Fault-clause-only : goal.returns-in-Err-Fault-clause-only
returns-in-Err-Fault-clause-only c =
    let ts = c.args.tokens.now in
    let h : Fails (Fault c.in-Err-Fault.fault) (whole (kinds ts) (places ts)) = subst (λ (z : ReadError). Fails z (whole (kinds ts) (places ts))) c.in-Err-Fault.field-0-is c.in-Err-Fault.ensures in
    λ p r. absurd (refused_only c.args.bytes.now ts c.in-Err-Fault.fault
    (λ o l. c.one_outcome.ensures c.args.bytes.now (Ok ts) o c.requires.lexed l) h p r)

pub returns-in-Err-Fault-clause-deep : goal.returns-in-Err-Fault-clause-deep
returns-in-Err-Fault-clause-deep c =
    let ts = c.args.tokens.now in
    let h : Fails (Fault c.in-Err-Fault.fault) (whole (kinds ts) (places ts)) = subst (λ (z : ReadError). Fails z (whole (kinds ts) (places ts))) c.in-Err-Fault.field-0-is c.in-Err-Fault.ensures in
    λ p n r. is_refusal (places ts) c.args.bytes.now c.in-Err-Fault.fault (TooDeep (place_at p.places c.args.bytes.now n)) c.refused.result c.refused.ensures
    (refused_deep c.args.bytes.now ts c.in-Err-Fault.fault (λ o l. c.one_outcome.ensures c.args.bytes.now (Ok ts) o c.requires.lexed l) h p n r)

pub returns-in-Err-Fault-clause-refused : goal.returns-in-Err-Fault-clause-refused
returns-in-Err-Fault-clause-refused c =
    let ts = c.args.tokens.now in
    let h : Fails (Fault c.in-Err-Fault.fault) (whole (kinds ts) (places ts)) = subst (λ (z : ReadError). Fails z (whole (kinds ts) (places ts))) c.in-Err-Fault.field-0-is c.in-Err-Fault.ensures in
    subst (CanRefuse c.args.bytes.now) (sym c.refused.ensures) (can_refuse c.args.bytes.now ts c.in-Err-Fault.fault c.requires.lexed h)
