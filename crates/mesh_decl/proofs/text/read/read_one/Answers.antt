use Rattle.std.proofs.Common.{Err, ap, sym, ◌∙◌, inr, rules, w32, FitsSigned}
use Rattle.std.proofs.lemmas.Int.{to_z-of_z}
use Rattle.mesh_decl.specs.declared.text.entry.MeshRefusal.TheVariants.{OutOfMemory}
use Rattle.mesh_decl.specs.Reading.{OneName, OneValue, step, finish}
use Rattle.op_num.proofs.Public.{run_end, passes_on, further}
use Rattle.mesh_decl.proofs.text.Running.{one_named, one_unnamed, one_valued, one_refused}
use Rattle.mesh_decl.proofs.text.read.read_one.Goals as goal

pub returns-in_err-next_in_entry-clause-leads : goal.returns-in_err-next_in_entry-clause-leads
returns-in_err-next_in_entry-clause-leads c f =
    passes_on step finish OutOfMemory (OneName f c.args.entries.now.entries) _ _ _ _ _ c.from_residual.ensures.1
    (inr (run_end step finish (OneName f c.args.entries.now.entries) _ _ c.in_err-next_in_entry.ensures.none.0
    (ap Err (sym c.in_err-next_in_entry.ensures.none.1))))

pub returns-in_err-name-clause-leads : goal.returns-in_err-name-clause-leads
returns-in_err-name-clause-leads c f =
    passes_on step finish OutOfMemory (OneName f c.args.entries.now.entries) _ _ _ _ _ c.from_residual-in_err-name.ensures.1
    (one_unnamed f c.args.entries.now.entries _ _ c.in_ok-next_in_entry.field-0 _ c.in_ok-next_in_entry.ensures.some
    c.in_err-name.ensures.told)

pub returns-in_err-next_in_entry-2-clause-leads : goal.returns-in_err-next_in_entry-2-clause-leads
returns-in_err-next_in_entry-2-clause-leads c f =
    passes_on step finish OutOfMemory (OneName f c.args.entries.now.entries) _ _ _ _ _ c.from_residual-in_err-next_in_entry-2.ensures.1
    (inr (one_named f c.args.entries.now.entries _ _ c.in_ok-next_in_entry.field-0 c.in_ok-name.name c.in_ok-next_in_entry.ensures.some
    c.in_ok-name.ensures.told ∙ run_end step finish (OneValue f c.args.entries.now.entries c.in_ok-name.name) _ _
    c.in_err-next_in_entry-2.ensures.none.0 (ap Err (sym c.in_err-next_in_entry-2.ensures.none.1))))

pub returns-in_err-value-clause-leads : goal.returns-in_err-value-clause-leads
returns-in_err-value-clause-leads c f =
    passes_on step finish OutOfMemory (OneName f c.args.entries.now.entries) _ _ _ _ _ c.from_residual-in_err-value.ensures.1
    (further step finish OutOfMemory (OneName f c.args.entries.now.entries) (OneValue f c.args.entries.now.entries c.in_ok-name.name) _ _ _
    (one_named f c.args.entries.now.entries _ _ c.in_ok-next_in_entry.field-0 c.in_ok-name.name c.in_ok-next_in_entry.ensures.some
    c.in_ok-name.ensures.told)
    (one_refused f c.args.entries.now.entries c.in_ok-name.name c.args.total _ _ c.in_ok-next_in_entry-2.field-0 _ c.requires.total c.in_ok-next_in_entry-2.ensures.some c.in_err-value.ensures.is))

pub returns-clause-leads : goal.returns-clause-leads
returns-clause-leads c f =
    let fits : FitsSigned w32 c.in_ok-value.value = search rules in
    rw (to_z-of_z w32 c.in_ok-value.value fits) (one_named f c.args.entries.now.entries _ _ c.in_ok-next_in_entry.field-0 c.in_ok-name.name c.in_ok-next_in_entry.ensures.some c.in_ok-name.ensures.told
    ∙ one_valued f c.args.entries.now.entries c.in_ok-name.name c.args.total _ _ c.in_ok-next_in_entry-2.field-0 c.in_ok-value.value
    c.requires.total c.in_ok-next_in_entry-2.ensures.some c.in_ok-value.ensures.is)
