-- The refusals and answers of the code as the definitions have them, and what ends a judgement.
use Rattle.std.specs.Prelude.{[]}
use Rattle.command_words.specs.Refusal as answer
use Rattle.command_words.specs.Lines as lines
use Rattle.command_words.specs.declared.answer_lines.refusals.Limit.{Limit}
use Rattle.command_words.specs.declared.answer_lines.refusals.Limit.TheVariants as limit
use Rattle.command_words.specs.declared.answer_lines.refusals.Refusal.{Refusal}
use Rattle.command_words.specs.declared.answer_lines.refusals.Refusal.TheVariants as refusal
use Rattle.command_words.specs.declared.answer_lines.refusals.Failure.TheVariants.{Unread, OutOfMemory}
use Rattle.command_words.specs.declared.answer_lines.refusals.Halt.{Halt}
use Rattle.command_words.specs.declared.answer_lines.refusals.Halt.TheVariants.{Refused, Failed}
use Rattle.command_words.specs.declared.answer_lines.call_answer.Answer.{Answer}
use Rattle.command_words.specs.declared.answer_lines.call_answer.Answer.TheVariants as called

-- a limit
abbrev pub limit_of : Limit → answer.Limit
limit_of limit.SourceBytes = answer.SourceBytes
limit_of limit.MeshBytes = answer.MeshBytes
limit_of limit.MeshValues = answer.MeshValues
limit_of limit.Sets = answer.Sets
limit_of limit.Maps = answer.Maps
limit_of limit.Dats = answer.Dats
limit_of limit.SetSize = answer.SetSize
limit_of limit.Dim = answer.Dim
limit_of limit.MeshCells = answer.MeshCells
limit_of limit.Arguments = answer.Arguments
limit_of limit.Trace = answer.Trace
limit_of limit.PrintWeight = answer.PrintWeight
limit_of limit.StateBytes = answer.StateBytes
limit_of limit.PartitionBytes = answer.PartitionBytes
limit_of limit.PlanBytes = answer.PlanBytes
limit_of limit.Steps = answer.Steps
limit_of limit.ScheduleBytes = answer.ScheduleBytes
limit_of limit.ScheduleSteps = answer.ScheduleSteps

-- a refusal
abbrev pub refusal_of : Refusal → answer.Refusal
refusal_of refusal.Usage = answer.Usage
refusal_of (refusal.CannotRead name) = answer.CannotRead name.now
refusal_of (refusal.NoTokens n at) = answer.NoTokens n at
refusal_of (refusal.NoTree at) = answer.NoTree at
refusal_of (refusal.TooDeep at) = answer.TooDeep at
refusal_of (refusal.BadName n at) = answer.BadName n at
refusal_of (refusal.BadBinding n at) = answer.BadBinding n at
refusal_of (refusal.BadTarget at map e p) = answer.BadTarget at map e p
refusal_of (refusal.BadAccess n at) = answer.BadAccess n at
refusal_of (refusal.BadMesh n line) = answer.BadMesh n line
refusal_of (refusal.BadCut item) = answer.BadCut item
refusal_of (refusal.BadState n line) = answer.BadState n line
refusal_of (refusal.BadPart name) = answer.BadPart name.now
refusal_of (refusal.BadPartition n line) = answer.BadPartition n line
refusal_of (refusal.BadPlan n line) = answer.BadPlan n line
refusal_of (refusal.BadSchedule n line) = answer.BadSchedule n line
refusal_of (refusal.BadStep n line s) = answer.BadStep n line s
refusal_of (refusal.EarlyStep line s t) = answer.EarlyStep line s t
refusal_of (refusal.LeftStep line t) = answer.LeftStep line t
refusal_of (refusal.BadStub n at) = answer.BadStub n at
refusal_of (refusal.BeyondLimit l size) = answer.BeyondLimit (limit_of l) size

-- an answer
abbrev pub answer_of : Answer → lines.Answer
answer_of (called.Done out) = lines.done out.items
answer_of (called.Faulted out line) = record { status = 9; out = out.items; line = line.items }
answer_of (called.Refused status line) = record { status = status; out = []; line = line.items }

-- ---- halts

-- A judgement ended with a refusal of which P is so, or memory ran out.
abbrev pub StopsWhere : (answer.Refusal → Type 0) → Halt → Type 0
StopsWhere P (Refused r) = P (refusal_of r)
StopsWhere P (Failed (Unread name)) = ⊥
StopsWhere P (Failed OutOfMemory) = Unit {0}
