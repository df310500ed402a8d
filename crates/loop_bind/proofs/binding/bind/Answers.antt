use Rattle.std.proofs.Common.{List, Ok, Err}
use Rattle.std.specs.Prelude.{Result, IfOk}
use Rattle.c_tree.specs.Tree.{ProgramTree}
use Rattle.c_tree.specs.View.{program_of}
use Rattle.kernel_model.specs.declared.types.kernels.Resolved.{Resolved}
use Rattle.mesh_decl.specs.Spelling.{Named}
use Rattle.bound_program.specs.declared.refusals.refusals.BindRefusal.{BindRefusal}
use Rattle.bound_program.specs.Refusals.{JudgesBy}
use Rattle.bound_program.specs.declared.programs.Bound.{Bound}
use Rattle.bound_program.specs.Fits.{Fits}
use Rattle.bound_program.specs.Values.{bound_of}
use Rattle.loop_bind.specs.ResolvedSources.{IsResolvedSource}
use Rattle.loop_bind.specs.Sources.{HaveNumbers}
use Rattle.loop_bind.specs.Bound.{bound}
use Rattle.loop_bind.specs.Resolvable.{BoundProgramsFit}
use Rattle.loop_bind.proofs.binding.bind.Goals as goal

fits : (p : ProgramTree) (r : Resolved) (es : List Named) (answer : Result Bound BindRefusal) → BoundProgramsFit → IsResolvedSource p r
    → HaveNumbers es → JudgesBy bound_of answer (bound p r es) → IfOk answer (λ b. Fits (bound_of b))
fits p r es (Ok b) law h n j = law p r es (bound_of b) h n j
fits p r es (Err e) law h n j = tt

pub returns-clause-fits : goal.returns-clause-fits
returns-clause-fits c = λ source mesh reads resolves spells.
    fits (program_of c.args.program.now) c.args.resolved c.args.entries.now.entries c.judged_program.result c.bound_programs_fit.ensures
    (c.resolved_sources_are.ensures source (program_of c.args.program.now) c.args.resolved reads resolves)
    (c.spelled_entries_fit.ensures mesh c.args.entries.now.entries spells) c.judged_program.ensures
