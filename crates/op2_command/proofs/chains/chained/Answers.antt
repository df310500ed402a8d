use Rattle.std.proofs.Common.{◌≡◌, Ok}
use Rattle.std.proofs.lemmas.Result.{err_from_is_err_and}
use Rattle.op_outside.specs.Outside.{Rose}
use Rattle.mesh_decl.specs.declared.owners.Owners.{Owners}
use Rattle.bound_program.specs.Values.{bound_of}
use Rattle.command_words.specs.Values.{chain_job_in, chain_options_in}
use Rattle.command_words.specs.Lines.{Answer}
use Rattle.answers.specs.Answers.{chain_answer}
use Rattle.job_inputs.proofs.Public.{owned_unread, owned_refused, owned_answered}
use Rattle.op2_command.proofs.chains.chained.Goals as goal

pub returns-in_err-text : goal.returns-in_err-text
returns-in_err-text g c =
    let p = err_from_is_err_and c.from_residual.result c.from_residual.ensures.1 in
    let o = chain_options_in c.args.options.now in
    rw (p.1, p.2) (owned_unread (λ (u : Owners) (a : Answer). a ≡ chain_answer (chain_job_in c.args.job) o.dumps (bound_of c.args.bound.now) u) o.ranks o.parting
    (bound_of c.args.bound.now) c.requires.fits (g.F.Shelf.told c.args.shelf.now)
    (Rose (g.F.Shelf.faults c.args.shelf.now) (g.F.Shelf.faults c.partition_of.new.shelf)) c.args.kept.now c.in_err-text.field-0.0 c.in_err-text.ensures.err)

pub returns-in_err-owners : goal.returns-in_err-owners
returns-in_err-owners g c =
    let p = err_from_is_err_and c.from_residual-in_err-owners.result c.from_residual-in_err-owners.ensures.1 in
    let o = chain_options_in c.args.options.now in
    rw (p.1, p.2) (owned_refused (λ (u : Owners) (a : Answer). a ≡ chain_answer (chain_job_in c.args.job) o.dumps (bound_of c.args.bound.now) u) o.ranks o.parting
    (bound_of c.args.bound.now) c.requires.fits (g.F.Shelf.told c.args.shelf.now)
    (Rose (g.F.Shelf.faults c.args.shelf.now) (g.F.Shelf.faults c.partition_of.new.shelf)) c.args.kept.now
    c.partition_of.new.kept c.in_ok-text.text.items c.in_ok-text.ensures.read
    c.in_err-owners.field-0.0 (rw c.deref.ensures.value at c.in_err-owners.ensures.err))

pub returns : goal.returns
returns g c =
    let o = chain_options_in c.args.options.now in
    owned_answered (λ (u : Owners) (a : Answer). a ≡ chain_answer (chain_job_in c.args.job) o.dumps (bound_of c.args.bound.now) u) o.ranks o.parting
    (bound_of c.args.bound.now) c.requires.fits (g.F.Shelf.told c.args.shelf.now)
    (Rose (g.F.Shelf.faults c.args.shelf.now) (g.F.Shelf.faults c.partition_of.new.shelf)) c.args.kept.now
    c.partition_of.new.kept c.in_ok-text.text.items c.in_ok-text.ensures.read c.in_ok-owners.owners (Ok c.in_ok-chain_answer.field-0)
    (rw c.deref.ensures.value at c.in_ok-owners.ensures.ok) c.in_ok-chain_answer.ensures
