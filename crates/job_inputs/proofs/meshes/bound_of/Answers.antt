use Rattle.job_inputs.proofs.meshes.bound_of.Goals as goal

pub returns-in-Ok-clause-fits : goal.returns-in-Ok-clause-fits
returns-in-Ok-clause-fits c =
    let judged = c.requires.judged in
    c.in-Ok.ensures.fits judged.source c.requires.entries.0 judged.reads judged.resolves c.requires.entries.1

pub returns-in-Ok-clause-narrow : goal.returns-in-Ok-clause-narrow
returns-in-Ok-clause-narrow c =
    let judged = c.requires.judged in
    c.bound_maps_are_narrow.ensures _ c.args.resolved _ _
    (c.resolved_sources_are.ensures judged.source _ _ judged.reads judged.resolves)
    (c.spelled_entries_fit.ensures c.requires.entries.0 _ c.requires.entries.1)
    c.in-Ok.ensures.judged

pub returns-in-Ok-clause-start : goal.returns-in-Ok-clause-start
returns-in-Ok-clause-start c =
    let judged = c.requires.judged in
    c.bound_programs_start_in_range.ensures _ c.args.resolved c.requires.entries.0 _ _
    (c.resolved_sources_are.ensures judged.source _ _ judged.reads judged.resolves)
    c.requires.entries.1
    c.in-Ok.ensures.judged
