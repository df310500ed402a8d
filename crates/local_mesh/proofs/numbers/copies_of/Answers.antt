use Rattle.std.proofs.Common.{◌<◌, ◌∙◌, length}
use Rattle.lemmas.proofs.Rows.{row_read}
use Rattle.local_mesh.proofs.numbers.copies_of.Goals as goal

pub returns-in_ok-copies-in-Some-clause-some : goal.returns-in_ok-copies-in-Some-clause-some
returns-in_ok-copies-in-Some-clause-some c =
    let l : c.args.rank < length c.in-Some.lists.items = rw c.in-Some.is at c.requires in
    (c.in-Some.lists, c.in-Some.is, c.in_ok-copies-in-Some.ensures.items ∙ (c.deref.ensures.value ∙ row_read c.in-Some.lists.items c.args.rank c.index.result.now l c.index.ensures))
