-- The one line that the program writes about a refusal or a fault, and its answers.
use Rattle.std.specs.Prelude.{ℕ, List, [], ◌++◌, Option, Some, None, codes}
use Rattle.std.specs.List.{flat_map}
use Rattle.std.specs.Fmt.{decimal}
use Rattle.c_tree.specs.declared.lexer.tokens.Pos.{Pos}
use Rattle.op_num.specs.declared.refusals.Fault.{Fault}
use Rattle.op_num.specs.declared.refusals.Fault.TheVariants as fault
use Rattle.kernel_model.specs.declared.types.faults.KernelFault.{KernelFault}
use Rattle.mesh_decl.specs.declared.text.entry.TheConstants.{MESH_BYTES, MESH_VALUES}
use Rattle.bound_program.specs.Limits.{max_sets, max_maps, max_dats, max_size, max_dim, max_cells, max_arguments, max_trace, max_weight}
use Rattle.schedule_model.specs.Sequential.{Stop}
use Rattle.schedule_steps.specs.declared.step.Step.{Step}
use Rattle.schedule_steps.specs.declared.text.lines.TheConstants.{SCHEDULE_STEPS}
use Rattle.schedule_steps.specs.Written.{tokens_of}
use Rattle.loop_plan.specs.StepCounts.{max_steps}
use Rattle.command_words.specs.declared.answer_lines.limits.TheConstants.{SOURCE_BYTES, STATE_BYTES, PARTITION_BYTES, PLAN_BYTES, SCHEDULE_BYTES}
use Rattle.command_words.specs.Refusal.{Limit, SourceBytes, MeshBytes, MeshValues, Sets, Maps, Dats, SetSize, Dim, MeshCells, Arguments, Trace, PrintWeight, StateBytes, PartitionBytes, PlanBytes, Steps, ScheduleBytes, ScheduleSteps, Refusal, Usage, CannotRead, NoTokens, NoTree, TooDeep, BadName, BadBinding, BadTarget, BadAccess, BadMesh, BadCut, BadState, BadPart, BadPartition, BadPlan, BadSchedule, BadStep, EarlyStep, LeftStep, BadStub, BeyondLimit, status_of}

-- the name of a limit
abbrev pub limit_name : Limit → List ℕ
limit_name SourceBytes = codes "source-bytes"
limit_name MeshBytes = codes "mesh-bytes"
limit_name MeshValues = codes "mesh-values"
limit_name Sets = codes "sets"
limit_name Maps = codes "maps"
limit_name Dats = codes "dats"
limit_name SetSize = codes "set-size"
limit_name Dim = codes "dim"
limit_name MeshCells = codes "mesh-cells"
limit_name Arguments = codes "arguments"
limit_name Trace = codes "trace"
limit_name PrintWeight = codes "print-weight"
limit_name StateBytes = codes "state-bytes"
limit_name PartitionBytes = codes "partition-bytes"
limit_name PlanBytes = codes "plan-bytes"
limit_name Steps = codes "steps"
limit_name ScheduleBytes = codes "schedule-bytes"
limit_name ScheduleSteps = codes "schedule-steps"

-- the greatest size that is allowed
abbrev pub most : Limit → ℕ
most SourceBytes = SOURCE_BYTES
most MeshBytes = MESH_BYTES
most MeshValues = MESH_VALUES
most Sets = max_sets
most Maps = max_maps
most Dats = max_dats
most SetSize = max_size
most Dim = max_dim
most MeshCells = max_cells
most Arguments = max_arguments
most Trace = max_trace
most PrintWeight = max_weight
most StateBytes = STATE_BYTES
most PartitionBytes = PARTITION_BYTES
most PlanBytes = PLAN_BYTES
most Steps = max_steps
most ScheduleBytes = SCHEDULE_BYTES
most ScheduleSteps = SCHEDULE_STEPS

-- ` at L:C`
abbrev pub at_place : Pos → List ℕ
at_place at = codes " at " ++ decimal at.line ++ codes ":" ++ decimal at.column

-- what is refused, its number and its place
abbrev pub numbered : List ℕ → ℕ → Pos → List ℕ
numbered what n at = what ++ codes " " ++ decimal n ++ at_place at

-- a step: its first word and its numbers, each with a space before it
abbrev pub step_name : Step → List ℕ
step_name s = flat_map (λ t. codes " " ++ t) (tokens_of s)

-- what stands behind `op2: ` for a refusal
abbrev pub said_of : Refusal → List ℕ
said_of Usage = codes "usage"
said_of (CannotRead name) = codes "cannot read " ++ name
said_of (NoTokens n at) = numbered (codes "source lex") n at
said_of (NoTree at) = codes "source syntax" ++ at_place at
said_of (TooDeep at) = codes "source depth" ++ at_place at
said_of (BadName n at) = numbered (codes "source type") n at
said_of (BadBinding n at) = numbered (codes "source bind") n at
said_of (BadTarget at map e p) =
    numbered (codes "source bind") 10 at ++ codes " map " ++ map ++ codes " element " ++ decimal e ++ codes " place " ++ decimal p
said_of (BadAccess n at) = numbered (codes "source access") n at
said_of (BadMesh n line) = codes "mesh " ++ decimal n ++ codes " line " ++ decimal line
said_of (BadCut item) = codes "state item " ++ decimal item
said_of (BadState n line) = codes "state " ++ decimal n ++ codes " line " ++ decimal line
said_of (BadPart name) = codes "partition name " ++ name
said_of (BadPartition n line) = codes "partition " ++ decimal n ++ codes " line " ++ decimal line
said_of (BadPlan n line) = codes "plan " ++ decimal n ++ codes " line " ++ decimal line
said_of (BadSchedule n line) = codes "schedule text " ++ decimal n ++ codes " line " ++ decimal line
said_of (BadStep n line s) = codes "schedule step " ++ decimal n ++ codes " line " ++ decimal line ++ step_name s
said_of (EarlyStep line s t) = codes "schedule step 3 line " ++ decimal line ++ step_name s ++ codes " needs" ++ step_name t
said_of (LeftStep line t) = codes "schedule step 4 line " ++ decimal line ++ codes " needs" ++ step_name t
said_of (BadStub n at) = numbered (codes "translate") n at
said_of (BeyondLimit l size) =
    codes "limit " ++ limit_name l ++ codes " " ++ decimal (most l) ++ codes " " ++ decimal size

-- a whole line
abbrev pub whole_line : List ℕ → List ℕ
whole_line text = codes "op2: " ++ text ++ codes "\n"

-- the line of a refusal
abbrev pub line_of : Refusal → List ℕ
line_of r = whole_line (said_of r)

-- the name of a kind of fault
abbrev pub fault_name : Fault → List ℕ
fault_name fault.DivZero = codes "div-zero"
fault_name fault.ShiftCount = codes "shift-count"
fault_name fault.Index = codes "index"

-- where in an item a run stopped: at an element of a loop, or at a statement of `main` that is no loop
abbrev pub part_name : Option ℕ → List ℕ
part_name (Some e) = codes "element " ++ decimal e
part_name None = codes "host"

-- the line of a fault
abbrev pub fault_line : Stop KernelFault → List ℕ
fault_line x =
    whole_line (codes "fault item " ++ decimal x.item ++ codes " " ++ part_name x.element
    ++ codes " " ++ fault_name x.fault.kind ++ at_place x.fault.at)

-- the status, the bytes for `out`, and the line for `err`
pub record Answer : Type 0 where
  pub status : ℕ
  pub out : List ℕ
  pub line : List ℕ

-- these bytes are written, and nothing is wrong
abbrev pub done : List ℕ → Answer
done bytes = record { status = 0; out = bytes; line = [] }

-- nothing is written, and the line says why
abbrev pub refused : Refusal → Answer
refused r = record { status = status_of r; out = []; line = line_of r }

-- these bytes were printed before the fault of a run
abbrev pub faulted : List ℕ → Stop KernelFault → Answer
faulted bytes x = record { status = 9; out = bytes; line = fault_line x }
