-- How a call ends.
use Rattle.std.proofs.Common.{◌≡◌, ℕ, inl, inr, Err}
use Rattle.op_outside.specs.Outside.{Rose}
use Rattle.command_words.specs.Lines.{Answer}
use Rattle.answers.specs.Endings as ending
use Rattle.answers.specs.Endings.{Answered, Unwritten, Call, Ends, IsReported, Tells, ending_status, ending_line, ending_of, Writes, IsComplete, IsUsage, IsUnread, IsShown, AreReported, IsSilent}
use Rattle.command_words.specs.declared.answer_lines.refusals.Failure.{Failure}
use Rattle.command_words.specs.declared.answer_lines.refusals.Failure.TheVariants.{Unread, OutOfMemory}
use Rattle.op2_command.specs.Writes.{CallAnswers, EndsAsDefined}

-- with an answer
pub ended : (c : Call) (status : ℕ) (a : Answer) → Tells c.words c.told a → Writes a status c.writes c.out (IsReported c) → Ends c status
ended c status a t (inl x) = record { ending = Answered a; is = x.0; cause = (t, x.1); report = x.2 }
ended c status a t (inr x) = record { ending = Unwritten a; is = x.0; cause = (x.1, t, x.2, x.3); report = x.4 }

-- without one
pub failed : (c : Call) (status : ℕ) (f : Failure)
    → CallAnswers c.words c.told (Rose c.reads.0 c.reads.1) (Err f)
    → c.out.1 ≡ c.out.0
    → status ≡ ending_status (ending_of f)
    → IsReported c (ending_line (ending_of f))
    → Ends c status
failed c status (Unread name) h same is report =
    record { ending = ending.Unread name.now; is = is; cause = (h.0, h.1, h.2, same); report = report }
failed c status OutOfMemory h same is report = record { ending = ending.OutOfMemory; is = is; cause = same; report = report }

-- and what follows of that
pub defined : (c : Call) (status : ℕ)
    → ((c : Call) (n : ℕ) → Ends c n → IsComplete c n)
    → ((c : Call) (n : ℕ) → Ends c n → IsUsage c n)
    → ((c : Call) (n : ℕ) → Ends c n → IsUnread c n)
    → ((c : Call) (n : ℕ) → Ends c n → IsShown c n)
    → ((c : Call) (n : ℕ) → Ends c n → AreReported c n)
    → ((c : Call) (n : ℕ) → Ends c n → IsSilent c n)
    → Ends c status
    → EndsAsDefined c status
defined c status complete usage unread shown reported silent e = record {
  ends = e;
  complete = complete c status e;
  usage = usage c status e;
  unread = unread c status e;
  shown = shown c status e;
  reported = reported c status e;
  silent = silent c status e;
}
