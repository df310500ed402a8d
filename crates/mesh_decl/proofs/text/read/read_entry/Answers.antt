use Rattle.std.proofs.Common.{Some, Err, ap, sym, ◌∙◌, inr, rules, w32, FitsSigned}
use Rattle.std.proofs.lemmas.Int.{to_z-of_z}
use Rattle.mesh_decl.specs.Token.{keyword_of}
use Rattle.mesh_decl.specs.Piece.{piece_of}
use Rattle.mesh_decl.specs.declared.text.entry.MeshRefusal.TheVariants.{OutOfMemory}
use Rattle.mesh_decl.specs.Reading.{Between, OneName, ManyName, End, began, step, finish}
use Rattle.op_num.proofs.Public.{run_token, run_refused, run_end, passes_on, further}
use Rattle.mesh_decl.proofs.text.Running.{step-between}
use Rattle.mesh_decl.proofs.text.read.read_entry.Goals as goal

pub returns-in_err-token-clause-leads : goal.returns-in_err-token-clause-leads
returns-in_err-token-clause-leads c =
    passes_on step finish OutOfMemory (Between c.args.form c.args.entries.now.entries) _ _ _ _ _ c.from_residual.ensures.1
    (inr (run_end step finish (Between c.args.form c.args.entries.now.entries) _ _ c.in_err-token.ensures.none.0
    (ap Err (sym c.in_err-token.ensures.none.1))))

pub returns-in_err-name-in-Some-Int-clause-leads : goal.returns-in_err-name-in-Some-Int-clause-leads
returns-in_err-name-in-Some-Int-clause-leads c =
    passes_on step finish OutOfMemory (Between c.args.form c.args.entries.now.entries) _ _ _ _ _
    c.from_residual-in_err-name-in-Some-Int.ensures.1
    (further step finish OutOfMemory (Between c.args.form c.args.entries.now.entries) (OneName c.args.form c.args.entries.now.entries) _
    _ _ (run_token step finish (Between c.args.form c.args.entries.now.entries) (OneName c.args.form c.args.entries.now.entries) _ _
    c.in_ok-token.token c.in_ok-token.ensures.some (step-between c.args.form c.args.entries.now.entries c.in_ok-token.token
    ∙ ap (λ k. began c.args.form c.args.entries.now.entries k (piece_of c.args.form c.in_ok-token.token.text) c.in_ok-token.token.line)
    (ap keyword_of (sym c.text.ensures) ∙ sym c.in-Some-Int.ensures ∙ ap Some c.in-Some-Int.field-0-is)))
    (c.in_err-name-in-Some-Int.ensures.leads c.args.form))

pub returns-in_err-name-in-Some-Ints-clause-leads : goal.returns-in_err-name-in-Some-Ints-clause-leads
returns-in_err-name-in-Some-Ints-clause-leads c =
    passes_on step finish OutOfMemory (Between c.args.form c.args.entries.now.entries) _ _ _ _ _
    c.from_residual-in_err-name-in-Some-Ints.ensures.1
    (further step finish OutOfMemory (Between c.args.form c.args.entries.now.entries) (ManyName c.args.form c.args.entries.now.entries)
    _ _ _ (run_token step finish (Between c.args.form c.args.entries.now.entries) (ManyName c.args.form c.args.entries.now.entries) _ _
    c.in_ok-token.token c.in_ok-token.ensures.some (step-between c.args.form c.args.entries.now.entries c.in_ok-token.token
    ∙ ap (λ k. began c.args.form c.args.entries.now.entries k (piece_of c.args.form c.in_ok-token.token.text) c.in_ok-token.token.line)
    (ap keyword_of (sym c.text.ensures) ∙ sym c.in-Some-Ints.ensures ∙ ap Some c.in-Some-Ints.field-0-is)))
    c.in_err-name-in-Some-Ints.ensures.leads)

pub returns-in_ok-name-in-Some-Int-clause-leads : goal.returns-in_ok-name-in-Some-Int-clause-leads
returns-in_ok-name-in-Some-Int-clause-leads c =
    let fits : FitsSigned w32 c.in_ok-name-in-Some-Int.value = search rules in
    rw (to_z-of_z w32 c.in_ok-name-in-Some-Int.value fits)
    (run_token step finish (Between c.args.form c.args.entries.now.entries) (OneName c.args.form c.args.entries.now.entries) _ _
    c.in_ok-token.token c.in_ok-token.ensures.some (step-between c.args.form c.args.entries.now.entries c.in_ok-token.token
    ∙ ap (λ k. began c.args.form c.args.entries.now.entries k (piece_of c.args.form c.in_ok-token.token.text) c.in_ok-token.token.line)
    (ap keyword_of (sym c.text.ensures) ∙ sym c.in-Some-Int.ensures ∙ ap Some c.in-Some-Int.field-0-is))
    ∙ (c.in_ok-name-in-Some-Int.ensures.leads c.args.form))

pub returns-in_ok-name-in-Some-Ints-clause-leads : goal.returns-in_ok-name-in-Some-Ints-clause-leads
returns-in_ok-name-in-Some-Ints-clause-leads c =
    run_token step finish (Between c.args.form c.args.entries.now.entries) (ManyName c.args.form c.args.entries.now.entries) _ _
    c.in_ok-token.token c.in_ok-token.ensures.some (step-between c.args.form c.args.entries.now.entries c.in_ok-token.token
    ∙ ap (λ k. began c.args.form c.args.entries.now.entries k (piece_of c.args.form c.in_ok-token.token.text) c.in_ok-token.token.line)
    (ap keyword_of (sym c.text.ensures) ∙ sym c.in-Some-Ints.ensures ∙ ap Some c.in-Some-Ints.field-0-is))
    ∙ c.in_ok-name-in-Some-Ints.ensures.leads

pub returns-in-Some-Done-clause-leads : goal.returns-in-Some-Done-clause-leads
returns-in-Some-Done-clause-leads c =
    run_token step finish (Between c.args.form c.args.entries.now.entries) (End c.args.entries.now.entries) _ _ c.in_ok-token.token
    c.in_ok-token.ensures.some (step-between c.args.form c.args.entries.now.entries c.in_ok-token.token
    ∙ ap (λ k. began c.args.form c.args.entries.now.entries k (piece_of c.args.form c.in_ok-token.token.text) c.in_ok-token.token.line)
    (ap keyword_of (sym c.text.ensures) ∙ sym c.in-Some-Done.ensures ∙ ap Some c.in-Some-Done.field-0-is))

pub returns-in-None-clause-leads : goal.returns-in-None-clause-leads
returns-in-None-clause-leads c =
    rw c.stray_token.ensures (inr (run_refused step finish (Between c.args.form c.args.entries.now.entries) _ _ c.in_ok-token.token _
    c.in_ok-token.ensures.some (step-between c.args.form c.args.entries.now.entries c.in_ok-token.token
    ∙ ap (λ k. began c.args.form c.args.entries.now.entries k (piece_of c.args.form c.in_ok-token.token.text) c.in_ok-token.token.line)
    (ap keyword_of (sym c.text.ensures) ∙ sym c.in-None.ensures))))
