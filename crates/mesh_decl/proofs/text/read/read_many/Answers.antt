use Rattle.std.proofs.Common.{[], Err, ap, sym, ◌∙◌, inr}
use Rattle.mesh_decl.specs.declared.text.entry.MeshRefusal.TheVariants.{OutOfMemory}
use Rattle.mesh_decl.specs.Reading.{ManyName, Count, filled, step, finish}
use Rattle.op_num.proofs.Public.{run_end, passes_on, further}
use Rattle.mesh_decl.proofs.text.Running.{many_named, many_unnamed, counted, count_refused}
use Rattle.mesh_decl.proofs.text.read.read_many.Goals as goal

pub returns-in_err-next_in_entry-clause-leads : goal.returns-in_err-next_in_entry-clause-leads
returns-in_err-next_in_entry-clause-leads c =
    passes_on step finish OutOfMemory (ManyName c.args.form c.args.entries.now.entries) _ _ _ _ _ c.from_residual.ensures.1
    (inr (run_end step finish (ManyName c.args.form c.args.entries.now.entries) _ _ c.in_err-next_in_entry.ensures.none.0
    (ap Err (sym c.in_err-next_in_entry.ensures.none.1))))

pub returns-in_err-name-clause-leads : goal.returns-in_err-name-clause-leads
returns-in_err-name-clause-leads c =
    passes_on step finish OutOfMemory (ManyName c.args.form c.args.entries.now.entries) _ _ _ _ _ c.from_residual-in_err-name.ensures.1
    (many_unnamed c.args.form c.args.entries.now.entries _ _ c.in_ok-next_in_entry.field-0 _ c.in_ok-next_in_entry.ensures.some
    c.in_err-name.ensures.told)

pub returns-in_err-next_in_entry-2-clause-leads : goal.returns-in_err-next_in_entry-2-clause-leads
returns-in_err-next_in_entry-2-clause-leads c =
    passes_on step finish OutOfMemory (ManyName c.args.form c.args.entries.now.entries) _ _ _ _ _ c.from_residual-in_err-next_in_entry-2.ensures.1
    (inr (many_named c.args.form c.args.entries.now.entries _ _ c.in_ok-next_in_entry.field-0 c.in_ok-name.name
    c.in_ok-next_in_entry.ensures.some c.in_ok-name.ensures.told
    ∙ run_end step finish (Count c.args.form c.args.entries.now.entries c.in_ok-name.name) _ _ c.in_err-next_in_entry-2.ensures.none.0
    (ap Err (sym c.in_err-next_in_entry-2.ensures.none.1))))

pub returns-in_err-count-clause-leads : goal.returns-in_err-count-clause-leads
returns-in_err-count-clause-leads c =
    passes_on step finish OutOfMemory (ManyName c.args.form c.args.entries.now.entries) _ _ _ _ _ c.from_residual-in_err-count.ensures.1
    (further step finish OutOfMemory (ManyName c.args.form c.args.entries.now.entries)
    (Count c.args.form c.args.entries.now.entries c.in_ok-name.name) _ _ _
    (many_named c.args.form c.args.entries.now.entries _ _ c.in_ok-next_in_entry.field-0 c.in_ok-name.name
    c.in_ok-next_in_entry.ensures.some c.in_ok-name.ensures.told)
    (count_refused c.args.form c.args.entries.now.entries c.in_ok-name.name c.args.total _ _ c.in_ok-next_in_entry-2.field-0 _
    c.requires.total c.in_ok-next_in_entry-2.ensures.some c.in_err-count.ensures.is))

pub returns-in_err-values-clause-leads : goal.returns-in_err-values-clause-leads
returns-in_err-values-clause-leads c =
    passes_on step finish OutOfMemory (ManyName c.args.form c.args.entries.now.entries) _ _ _ _ _ c.from_residual-in_err-values.ensures.1
    (further step finish OutOfMemory (ManyName c.args.form c.args.entries.now.entries)
    (filled c.args.form c.args.entries.now.entries c.in_ok-name.name c.in_ok-count.count []) _ _ _
    (many_named c.args.form c.args.entries.now.entries _ _ c.in_ok-next_in_entry.field-0 c.in_ok-name.name
    c.in_ok-next_in_entry.ensures.some c.in_ok-name.ensures.told
    ∙ counted c.args.form c.args.entries.now.entries c.in_ok-name.name c.args.total _ _ c.in_ok-next_in_entry-2.field-0
    c.in_ok-count.count c.requires.total c.in_ok-next_in_entry-2.ensures.some c.in_ok-count.ensures.is)
    (c.in_err-values.ensures.leads c.args.entries.now.entries c.in_ok-name.name))

pub returns-clause-leads : goal.returns-clause-leads
returns-clause-leads c =
    many_named c.args.form c.args.entries.now.entries _ _ c.in_ok-next_in_entry.field-0 c.in_ok-name.name c.in_ok-next_in_entry.ensures.some c.in_ok-name.ensures.told
    ∙ counted c.args.form c.args.entries.now.entries c.in_ok-name.name c.args.total _ _ c.in_ok-next_in_entry-2.field-0 c.in_ok-count.count
    c.requires.total c.in_ok-next_in_entry-2.ensures.some c.in_ok-count.ensures.is
    ∙ c.in_ok-values.ensures.leads c.args.entries.now.entries c.in_ok-name.name
