-- What stands on the errors, and the lines that take no memory with their statuses.
use Rattle.std.specs.Prelude.{◌≡◌, ℕ, ◌⊎◌, List, Option, codes}
use Rattle.op_outside.specs.Outside.{Rose, appended, AppendsFront}
use Rattle.command_words.specs.Refusal as answer
use Rattle.command_words.specs.Lines.{line_of, whole_line}
use Rattle.command_words.specs.declared.answer_lines.reports.Line.{Line}
use Rattle.command_words.specs.declared.answer_lines.reports.Line.TheVariants as report

-- a line stands behind what was told before, or a front of it where the count of faults rose
abbrev pub Stands : (faults : ℕ × ℕ) (told : Option (List ℕ) × Option (List ℕ)) → List ℕ → Type 0
Stands faults told line = (told.1 ≡ appended told.0 line) ⊎ (Rose faults.0 faults.1 × AppendsFront told.0 line told.1)

-- the status of a line that takes no memory
abbrev pub report_status : Line → ℕ
report_status report.OutOfMemory = 1
report_status report.Usage = 2
report_status (report.CannotRead name) = 3
report_status report.CannotWrite = 4

-- the line
abbrev pub report_line : Line → List ℕ
report_line report.OutOfMemory = whole_line (codes "out of memory")
report_line report.Usage = line_of answer.Usage
report_line (report.CannotRead name) = line_of (answer.CannotRead name.now)
report_line report.CannotWrite = whole_line (codes "cannot write")
