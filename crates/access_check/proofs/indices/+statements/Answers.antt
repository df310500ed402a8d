use Rattle.std.proofs.Common.{◌≡◌, ◌∙◌, sym, ap, ◌||◌, ◌+◌, ◌∷◌, drop}
use Rattle.kernel_model.specs.declared.types.statements.RStmt.{RStmt}
use Rattle.access_check.specs.Indices.{names_of, stmt_names, list_names}
use Rattle.access_check.proofs.Walks.{names_of_block, drop_here}
use Rattle.access_check.proofs.indices.+statements.Goals as goal
use Rattle.lemmas.proofs.Truth.{or_swap}

pub loop-inner-init : goal.loop-inner-init
loop-inner-init t c = λ k.
    ap (λ b. b || names_of c.args.named.now k) (ap (λ l. list_names l k) c.deref-inner-items.ensures.value
    ∙ sym (names_of_block c.in-Block.all k) ∙ ap (λ (st : RStmt). stmt_names st k) (sym c.in-Block.is))

pub loop-inner-preserved : goal.loop-inner-preserved
loop-inner-preserved t c =
    let items = c.deref-inner-items.result.now in
    let st = c.inner-item.result in
    let rest = drop (c.loop-inner.inner-index + 1) items in
    let cut : drop c.loop-inner.inner-index items ≡ st ∷ rest = drop_here items c.loop-inner.inner-index st c.loop-inner-test.true c.inner-item.is in
    λ k.
    ap (λ b. list_names rest k || b) (c.note_indices.ensures k)
    ∙ or_swap (list_names rest k) (stmt_names st k) (names_of c.loop-inner.named k)
    ∙ ap (λ l. list_names l k || names_of c.loop-inner.named k) (sym cut)
    ∙ c.loop-inner.invariant k
