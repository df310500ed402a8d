use Rattle.std.proofs.Common.{◌≡◌, [], ◌∷◌, ◌++◌, None, Ok, Err, IfErr, ap, subst, ◌∙◌}
use Rattle.op_outside.specs.Outside.{Rose}
use Rattle.job_inputs.specs.Readings.{readings_of, Finds}
use Rattle.job_inputs.proofs.kept_files.Finding.{finds_last}
use Rattle.command_words.specs.Halts.{limit_of}
use Rattle.answers.specs.Judgements.{IsHeld}
use Rattle.job_inputs.specs.Chains.{HaltsOver}
use Rattle.job_inputs.proofs.Chained.{if_ok_weaker}
use Rattle.job_inputs.proofs.files.sole_file.Goals as goal

pub returns-clause-read : goal.returns-clause-read
returns-clause-read g c =
    let name = c.args.name.now in
    let told = g.F.Shelf.told c.args.shelf.now in
    let e : c.push.new.self ≡ readings_of (name ∷ []) = c.in_ok-push.ensures ∙ ap (λ z. z ++ (name, None) ∷ []) c.new-kept.ensures in
    if_ok_weaker c.file_of.result _ _
    (λ v found. finds_last told (readings_of (name ∷ [])) c.file_of.new.kept (λ files. IsHeld (limit_of c.args.limit) name (files name) (Ok v.items))
    (subst (λ rs. Finds told rs c.file_of.new.kept (λ files. IsHeld (limit_of c.args.limit) name (files name) (Ok v.items))) e found))
    c.file_of.ensures.read

pub returns-clause-err : goal.returns-clause-err
returns-clause-err g c =
    let name = c.args.name.now in
    let told = g.F.Shelf.told c.args.shelf.now in
    let e : c.push.new.self ≡ readings_of (name ∷ []) = c.in_ok-push.ensures ∙ ap (λ z. z ++ (name, None) ∷ []) c.new-kept.ensures in
    subst (λ rs. IfErr c.file_of.result (HaltsOver told rs (λ files r. IsHeld (limit_of c.args.limit) name (files name) (Err r))
    (Rose (g.F.Shelf.faults c.args.shelf.now) (g.F.Shelf.faults c.file_of.new.shelf)))) e c.file_of.ensures.err
