use Rattle.std.proofs.Common.{[], Err, ap, sym, ◌∙◌, inr}
use Rattle.mesh_decl.specs.Token.{is_magic, version_of}
use Rattle.mesh_decl.specs.declared.text.entry.MeshRefusal.TheVariants.{OutOfMemory}
use Rattle.mesh_decl.specs.Reading.{Magic, Version, Between, versioned, step, finish}
use Rattle.op_num.proofs.Public.{run_token, run_refused, run_end, passes_on}
use Rattle.mesh_decl.proofs.text.Running.{step-magic, step-no_magic, step-version}
use Rattle.mesh_decl.proofs.text.read.read_header.Goals as goal

pub returns-in_err-magic : goal.returns-in_err-magic
returns-in_err-magic c =
    passes_on step finish OutOfMemory Magic _ _ _ _ _ c.from_residual.ensures.1 (inr (run_end step finish (Magic) _ _ c.in_err-magic.ensures.none.0 (ap Err (sym c.in_err-magic.ensures.none.1))))

pub returns-then-not-is_magic : goal.returns-then-not-is_magic
returns-then-not-is_magic c =
    rw c.line.ensures (inr (run_refused step finish Magic _ _ c.in_ok-magic.magic _ c.in_ok-magic.ensures.some
    (step-no_magic c.in_ok-magic.magic (ap is_magic (sym c.text.ensures) ∙ sym c.is_magic.ensures ∙ c.if-not-is_magic.true))))

pub returns-in_err-version : goal.returns-in_err-version
returns-in_err-version c =
    passes_on step finish OutOfMemory Magic _ _ _ _ _ c.from_residual-in_err-version.ensures.1
    (inr (run_token step finish Magic Version _ _ c.in_ok-magic.magic c.in_ok-magic.ensures.some
    (step-magic c.in_ok-magic.magic (ap is_magic (sym c.text.ensures) ∙ sym c.is_magic.ensures ∙ c.if-not-is_magic.false))
    ∙ run_end step finish (Version) _ _ c.in_err-version.ensures.none.0 (ap Err (sym c.in_err-version.ensures.none.1))))

pub returns-in-Some : goal.returns-in-Some
returns-in-Some c =
    run_token step finish Magic Version _ _ c.in_ok-magic.magic c.in_ok-magic.ensures.some
    (step-magic c.in_ok-magic.magic (ap is_magic (sym c.text.ensures) ∙ sym c.is_magic.ensures ∙ c.if-not-is_magic.false))
    ∙ run_token step finish Version (Between c.in-Some.form []) _ _ c.in_ok-version.version c.in_ok-version.ensures.some
    (step-version c.in_ok-version.version ∙ ap (λ o. versioned o c.in_ok-version.version.line)
    (ap version_of (sym c.text-2.ensures) ∙ sym c.in-Some.ensures))

pub returns-in-None : goal.returns-in-None
returns-in-None c =
    rw c.line-in-None.ensures (inr (run_token step finish Magic Version _ _ c.in_ok-magic.magic c.in_ok-magic.ensures.some
    (step-magic c.in_ok-magic.magic (ap is_magic (sym c.text.ensures) ∙ sym c.is_magic.ensures ∙ c.if-not-is_magic.false))
    ∙ run_refused step finish Version _ _ c.in_ok-version.version _ c.in_ok-version.ensures.some
    (step-version c.in_ok-version.version ∙ ap (λ o. versioned o c.in_ok-version.version.line)
    (ap version_of (sym c.text-2.ensures) ∙ sym c.in-None.ensures))))
