use Rattle.std.proofs.Common.{◌≤◌, suc, vec_len, ap, subst, ◌∙◌, add-one}
use Rattle.op_outside.specs.Outside.{Rose}
use Rattle.command_words.specs.Lines.{most}
use Rattle.command_words.specs.Halts.{limit_of}
use Rattle.job_inputs.specs.Readings.{Finds}
use Rattle.std.specs.Prelude.{IsSomeAnd, length, ◌<◌, refl, []}
use Rattle.job_inputs.proofs.Reading.{file_read, file_missing, file_large, file_unread}
use Rattle.job_inputs.proofs.files.file_of.Goals as goal

pub returns-in-Ok-clause-read : goal.returns-in-Ok-clause-read
returns-in-Ok-clause-read g c =
    file_read (g.F.Shelf.told c.args.shelf.now) (Rose 0 0) (limit_of c.args.limit) c.args.name.now c.args.kept.now c.read.new.self c.in-Ok.bytes.items
    (subst (λ n. n ≤ most (limit_of c.args.limit)) c.in-Ok.bytes.ok.0 (subst (λ m. vec_len c.in-Ok.bytes ≤ m) c.most-most.ensures c.in-Ok.ensures.fits))
    c.in-Ok.ensures.read

pub returns-in-Err-Failed-clause-err : goal.returns-in-Err-Failed-clause-err
returns-in-Err-Failed-clause-err g c =
    file_unread (g.F.Shelf.told c.args.shelf.now) (Rose (g.F.Shelf.faults c.args.shelf.now) (g.F.Shelf.faults c.read.new.shelf)) (limit_of c.args.limit)
    c.args.name.now c.args.kept.now (rw c.in-Err-Failed.field-0-is at c.in-Err-Failed.ensures.failed refl) c.requires.next
    (rw c.in-Err-Failed.field-0-is at c.in-Err-Failed.ensures.unseen refl)

pub returns-in-Err-Missing-clause-err : goal.returns-in-Err-Missing-clause-err
returns-in-Err-Missing-clause-err g c =
    file_missing (g.F.Shelf.told c.args.shelf.now) (Rose 0 0) (limit_of c.args.limit)
    c.args.name.now c.args.kept.now (rw c.in-Err-Missing.field-0-is at c.in-Err-Missing.ensures.missing refl)

pub returns-in-Err-TooLarge-clause-err : goal.returns-in-Err-TooLarge-clause-err
returns-in-Err-TooLarge-clause-err g c =
    let large = rw c.in-Err-TooLarge.field-0-is at c.in-Err-TooLarge.ensures.too_large refl in
    file_large (g.F.Shelf.told c.args.shelf.now) (Rose 0 0) (limit_of c.args.limit) c.args.name.now c.args.kept.now _
    (add-one c.most-most.result ∙ ap suc c.most-most.ensures)
    (subst (λ m. Finds (g.F.Shelf.told c.args.shelf.now) c.args.kept.now [] (λ files. IsSomeAnd (files c.args.name.now) (λ bytes. m < length bytes)))
    c.most-most.ensures large)
