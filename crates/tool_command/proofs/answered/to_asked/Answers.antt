use Rattle.std.proofs.Common.{zero, arith, rules, [], ◌∷◌, ◌++◌}
use Rattle.tool_words.specs.Words.{ShowsUsage, ShowsVersion}
use Rattle.tool_words.specs.Values.{job_of, plan_job_of}
use Rattle.command_words.specs.Words.{names_by, names_in_blocks}
use Rattle.command_words.specs.Values.{options_in}
use Rattle.command_words.specs.Halts.{answer_of}
use Rattle.tool_command.specs.ToolAnswers.{CommandAnswers}
use Rattle.tool_command.specs.Endings.{names_for, names_for_plan, names_behind, names_of}
use Rattle.job_inputs.proofs.Public.{all_left, all_right}
use Rattle.tool_command.proofs.Wording.{over_all}
use Rattle.tool_command.proofs.answered.to_asked.Goals as goal

pub on_program-requires-clause-input : goal.on_program-requires-clause-input
on_program-requires-clause-input g c =
    all_left (g.F.Shelf.lends c.args.shelf.now) (c.in-OnProgram.source.now ∷ c.in-OnProgram.mesh.now ∷ []) (names_for (job_of c.in-OnProgram.job))
    (rw c.in-OnProgram.is at c.requires.lent)

pub on_program-requires-clause-own : goal.on_program-requires-clause-own
on_program-requires-clause-own g c =
    all_right (g.F.Shelf.lends c.args.shelf.now) (c.in-OnProgram.source.now ∷ c.in-OnProgram.mesh.now ∷ []) (names_for (job_of c.in-OnProgram.job))
    (rw c.in-OnProgram.is at c.requires.lent)

pub on_program-requires-clause-few : goal.on_program-requires-clause-few
on_program-requires-clause-few g c = rw c.in-OnProgram.is at c.requires.in_range

pub returns-in-OnProgram : goal.returns-in-OnProgram
returns-in-OnProgram g c = rw c.in-OnProgram.is c.on_program.ensures

pub on_plan-requires-clause-input : goal.on_plan-requires-clause-input
on_plan-requires-clause-input g c =
    all_left (g.F.Shelf.lends c.args.shelf.now) (c.in-OnPlan.source.now ∷ c.in-OnPlan.mesh.now ∷ [])
    (names_behind (plan_job_of c.in-OnPlan.job) (options_in c.in-OnPlan.options)) (rw c.in-OnPlan.is at c.requires.lent)

pub on_plan-requires-clause-parting : goal.on_plan-requires-clause-parting
on_plan-requires-clause-parting g c =
    let o = options_in c.in-OnPlan.options in
    all_left (g.F.Shelf.lends c.args.shelf.now) (names_by o.parting) (names_in_blocks o.blocks)
    (all_left (g.F.Shelf.lends c.args.shelf.now) (names_by o.parting ++ names_in_blocks o.blocks) (names_for_plan (plan_job_of c.in-OnPlan.job))
    (all_right (g.F.Shelf.lends c.args.shelf.now) (c.in-OnPlan.source.now ∷ c.in-OnPlan.mesh.now ∷ [])
    (names_behind (plan_job_of c.in-OnPlan.job) o) (rw c.in-OnPlan.is at c.requires.lent)))

pub on_plan-requires-clause-blocks : goal.on_plan-requires-clause-blocks
on_plan-requires-clause-blocks g c =
    let o = options_in c.in-OnPlan.options in
    all_right (g.F.Shelf.lends c.args.shelf.now) (names_by o.parting) (names_in_blocks o.blocks)
    (all_left (g.F.Shelf.lends c.args.shelf.now) (names_by o.parting ++ names_in_blocks o.blocks) (names_for_plan (plan_job_of c.in-OnPlan.job))
    (all_right (g.F.Shelf.lends c.args.shelf.now) (c.in-OnPlan.source.now ∷ c.in-OnPlan.mesh.now ∷ [])
    (names_behind (plan_job_of c.in-OnPlan.job) o) (rw c.in-OnPlan.is at c.requires.lent)))

pub on_plan-requires-clause-own : goal.on_plan-requires-clause-own
on_plan-requires-clause-own g c =
    let o = options_in c.in-OnPlan.options in
    all_right (g.F.Shelf.lends c.args.shelf.now) (names_by o.parting ++ names_in_blocks o.blocks) (names_for_plan (plan_job_of c.in-OnPlan.job))
    (all_right (g.F.Shelf.lends c.args.shelf.now) (c.in-OnPlan.source.now ∷ c.in-OnPlan.mesh.now ∷ [])
    (names_behind (plan_job_of c.in-OnPlan.job) o) (rw c.in-OnPlan.is at c.requires.lent))

pub returns-in-OnPlan : goal.returns-in-OnPlan
returns-in-OnPlan g c = rw c.in-OnPlan.is c.on_plan.ensures

pub from_gmsh_file-requires-clause-lent : goal.from_gmsh_file-requires-clause-lent
from_gmsh_file-requires-clause-lent g c = λ _ _. (let h = rw c.in-Convert.is at c.requires.lent in h zero c.in-Convert.file.now (omega arith))

pub from_gmsh_file-requires-clause-scale : goal.from_gmsh_file-requires-clause-scale
from_gmsh_file-requires-clause-scale g c = λ _ _. rw c.in-Convert.is at c.requires.in_range

pub returns-in-Convert : goal.returns-in-Convert
returns-in-Convert g c = rw c.in-Convert.is c.from_gmsh_file.ensures

pub explained-requires : goal.explained-requires
explained-requires g c = (search rules, rw c.in-Explain.is at c.requires.lent)

pub returns-in-Explain : goal.returns-in-Explain
returns-in-Explain g c = rw c.in-Explain.is c.explained.ensures

pub returns-in_ok-done-in-Usage : goal.returns-in_ok-done-in-Usage
returns-in_ok-done-in-Usage g c =
    rw c.in-Usage.is (over_all (g.F.Shelf.told c.args.shelf.now) (names_of ShowsUsage) (CommandAnswers ShowsUsage) (answer_of c.in_ok-done-in-Usage.field-0)
    (λ files. c.in_ok-done-in-Usage.ensures))

pub returns-in_ok-done-in-Version : goal.returns-in_ok-done-in-Version
returns-in_ok-done-in-Version g c =
    rw c.in-Version.is (over_all (g.F.Shelf.told c.args.shelf.now) (names_of ShowsVersion) (CommandAnswers ShowsVersion) (answer_of c.in_ok-done-in-Version.field-0)
    (λ files. c.in_ok-done-in-Version.ensures))
