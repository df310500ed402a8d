use Rattle.std.proofs.Common.{Err, ap, sym, ◌∙◌, inr}
use Rattle.partition.specs.Token.{is_magic, is_version}
use Rattle.partition.specs.declared.part_text.refusals.PartRefusal.TheVariants.{OutOfMemory}
use Rattle.partition.specs.Spelling.{no_ranks}
use Rattle.partition.specs.Reading.{Magic, Version, Between, step, finish}
use Rattle.op_num.proofs.Public.{run_token, run_refused, run_end, passes_on}
use Rattle.partition.proofs.part_text.Running.{step-magic, step-no_magic, step-version, step-no_version}
use Rattle.partition.proofs.part_text.read.read_header.Goals as goal

pub returns-in_err-magic : goal.returns-in_err-magic
returns-in_err-magic c =
    passes_on (step c.args.mesh.now c.args.ranks) finish OutOfMemory Magic _ _ _ _ _ c.from_residual.ensures.1
    (inr (run_end (step c.args.mesh.now c.args.ranks) finish Magic _ _ c.in_err-magic.ensures.none.0
    (ap Err (sym c.in_err-magic.ensures.none.1))))

pub returns-then-not-is_magic : goal.returns-then-not-is_magic
returns-then-not-is_magic c =
    rw c.line.ensures (inr (run_refused (step c.args.mesh.now c.args.ranks) finish Magic _ _ c.in_ok-magic.magic _
    c.in_ok-magic.ensures.some (step-no_magic c.args.mesh.now c.args.ranks c.in_ok-magic.magic
    (ap is_magic (sym c.text.ensures) ∙ sym c.is_magic.ensures ∙ c.if-not-is_magic.true))))

pub returns-in_err-version : goal.returns-in_err-version
returns-in_err-version c =
    passes_on (step c.args.mesh.now c.args.ranks) finish OutOfMemory Magic _ _ _ _ _ c.from_residual-in_err-version.ensures.1
    (inr (run_token (step c.args.mesh.now c.args.ranks) finish Magic Version _ _ c.in_ok-magic.magic c.in_ok-magic.ensures.some
    (step-magic c.args.mesh.now c.args.ranks c.in_ok-magic.magic
    (ap is_magic (sym c.text.ensures) ∙ sym c.is_magic.ensures ∙ c.if-not-is_magic.false))
    ∙ run_end (step c.args.mesh.now c.args.ranks) finish Version _ _ c.in_err-version.ensures.none.0 (ap Err (sym c.in_err-version.ensures.none.1))))

pub returns-then-not-is_version : goal.returns-then-not-is_version
returns-then-not-is_version c =
    rw c.line-then-not-is_version.ensures
    (inr (run_token (step c.args.mesh.now c.args.ranks) finish Magic Version _ _ c.in_ok-magic.magic c.in_ok-magic.ensures.some
    (step-magic c.args.mesh.now c.args.ranks c.in_ok-magic.magic
    (ap is_magic (sym c.text.ensures) ∙ sym c.is_magic.ensures ∙ c.if-not-is_magic.false))
    ∙ run_refused (step c.args.mesh.now c.args.ranks) finish Version _ _ c.in_ok-version.version _ c.in_ok-version.ensures.some
    (step-no_version c.args.mesh.now c.args.ranks c.in_ok-version.version
    (ap is_version (sym c.text-2.ensures) ∙ sym c.is_version.ensures ∙ c.if-not-is_version.true))))

pub returns : goal.returns
returns c =
    run_token (step c.args.mesh.now c.args.ranks) finish Magic Version _ _ c.in_ok-magic.magic c.in_ok-magic.ensures.some
    (step-magic c.args.mesh.now c.args.ranks c.in_ok-magic.magic
    (ap is_magic (sym c.text.ensures) ∙ sym c.is_magic.ensures ∙ c.if-not-is_magic.false))
    ∙ run_token (step c.args.mesh.now c.args.ranks) finish Version (Between (no_ranks c.args.mesh.now)) _ _ c.in_ok-version.version
    c.in_ok-version.ensures.some (step-version c.args.mesh.now c.args.ranks c.in_ok-version.version
    (ap is_version (sym c.text-2.ensures) ∙ sym c.is_version.ensures ∙ c.if-not-is_version.false))
