use Rattle.std.proofs.Common.{ℕ, ◌<◌, ◌∙◌, sym, ap, subst, List, Vec, length}
use Rattle.std.specs.declared.alloc.Global.{Global}
use Rattle.lemmas.specs.Below.{row}
use Rattle.cell_numbers.proofs.Halos.{exec_read, row_read}
use Rattle.cell_numbers.proofs.owned.executed_by.Goals as goal

pub index-requires : goal.index-requires
index-requires c =
    subst (λ (n : ℕ). c.args.rank < n) (sym c.index-halo.result.now.exec.ok.0) (subst (λ (xs : List (Vec ℕ Global)). c.args.rank < length xs)
    (exec_read c.args.halos.now c.args.set c.index-halo.result.now c.requires.set c.index-halo.ensures) c.requires.rank)

pub returns : goal.returns
returns c =
    let lists = exec_read c.args.halos.now c.args.set c.index-halo.result.now c.requires.set c.index-halo.ensures in
    let within = subst (λ (xs : List (Vec ℕ Global)). c.args.rank < length xs) lists c.requires.rank in
    c.deref.ensures.value ∙ sym (row_read c.index-halo.result.now.exec.items c.args.rank c.index.result.now within c.index.ensures)
    ∙ sym (ap (λ (xs : List (Vec ℕ Global)). row xs c.args.rank) lists)
