use Rattle.std.proofs.Common.{Some, Err, ap, sym, ◌∙◌, inr}
use Rattle.partition.specs.Token.{keyword_of}
use Rattle.partition.specs.Reading.{Between, SetName, step, finish}
use Rattle.op_num.proofs.Public.{run_end}
use Rattle.partition.proofs.part_text.Running.{passes_to_set, set_begun, set_named, set_refused, all_done, strays}
use Rattle.partition.proofs.part_text.read.next_set.Goals as goal

pub returns-in_err-token-clause-leads : goal.returns-in_err-token-clause-leads
returns-in_err-token-clause-leads c =
    passes_to_set c.args.mesh.now c.args.ranks c.args.table.now _ _ _ _ c.from_residual.ensures.1
    (run_end (step c.args.mesh.now c.args.ranks) finish (Between c.args.table.now) _ _ c.in_err-token.ensures.none.0
    (ap Err (sym c.in_err-token.ensures.none.1)))

pub returns-in_err-next_in_set-in-Some-Set-clause-leads : goal.returns-in_err-next_in_set-in-Some-Set-clause-leads
returns-in_err-next_in_set-in-Some-Set-clause-leads c =
    passes_to_set c.args.mesh.now c.args.ranks c.args.table.now _ _ _ _ c.from_residual-in_err-next_in_set-in-Some-Set.ensures.1
    (set_begun c.args.mesh.now c.args.ranks c.args.table.now _ _ c.in_ok-token.token c.in_ok-token.ensures.some
    (ap Some (sym c.in-Some-Set.field-0-is) ∙ c.in-Some-Set.ensures ∙ ap keyword_of c.text.ensures)
    ∙ run_end (step c.args.mesh.now c.args.ranks) finish (SetName c.args.table.now) _ _ c.in_err-next_in_set-in-Some-Set.ensures.none.0 (ap Err (sym c.in_err-next_in_set-in-Some-Set.ensures.none.1)))

pub returns-in_err-set-in-Some-Set-clause-leads : goal.returns-in_err-set-in-Some-Set-clause-leads
returns-in_err-set-in-Some-Set-clause-leads c =
    passes_to_set c.args.mesh.now c.args.ranks c.args.table.now _ _ _ _ c.from_residual-in_err-set-in-Some-Set.ensures.1
    (set_begun c.args.mesh.now c.args.ranks c.args.table.now _ _ c.in_ok-token.token c.in_ok-token.ensures.some
    (ap Some (sym c.in-Some-Set.field-0-is) ∙ c.in-Some-Set.ensures ∙ ap keyword_of c.text.ensures)
    ∙ set_refused c.args.mesh.now c.args.ranks c.args.table.now _ _ c.in_ok-next_in_set-in-Some-Set.field-0 _ c.in_ok-next_in_set-in-Some-Set.ensures.some c.in_err-set-in-Some-Set.ensures.is)

pub returns-in_ok-set-in-Some-Set-clause-leads : goal.returns-in_ok-set-in-Some-Set-clause-leads
returns-in_ok-set-in-Some-Set-clause-leads c =
    set_begun c.args.mesh.now c.args.ranks c.args.table.now _ _ c.in_ok-token.token c.in_ok-token.ensures.some
    (ap Some (sym c.in-Some-Set.field-0-is) ∙ c.in-Some-Set.ensures ∙ ap keyword_of c.text.ensures)
    ∙ set_named c.args.mesh.now c.args.ranks c.args.table.now _ _ c.in_ok-next_in_set-in-Some-Set.field-0 c.in_ok-set-in-Some-Set.set
    c.in_ok-next_in_set-in-Some-Set.ensures.some c.in_ok-set-in-Some-Set.ensures.is

pub returns-in-Some-Done-clause-leads : goal.returns-in-Some-Done-clause-leads
returns-in-Some-Done-clause-leads c =
    all_done c.args.mesh.now c.args.ranks c.args.table.now _ _ c.in_ok-token.token c.in_ok-token.ensures.some
    (ap Some (sym c.in-Some-Done.field-0-is) ∙ c.in-Some-Done.ensures ∙ ap keyword_of c.text.ensures)

pub returns-in-None-clause-leads : goal.returns-in-None-clause-leads
returns-in-None-clause-leads c =
    rw c.stray_token.ensures (inr (strays c.args.mesh.now c.args.ranks c.args.table.now _ _ c.in_ok-token.token c.in_ok-token.ensures.some (c.in-None.ensures ∙ ap keyword_of c.text.ensures)))
