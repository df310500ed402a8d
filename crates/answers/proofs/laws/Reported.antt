-- What a call leaves on `err`.
use Rattle.std.proofs.Common.{◌≡◌, ◌⊎◌, inl, inr, ℕ, List, refl, ◌∙◌}
use Rattle.command_words.specs.Lines.{Answer}
use Rattle.answers.specs.Endings.{Ending, Answered, OutOfMemory, Unread, Unwritten, ending_status, ending_line, unwritten_status, unwritten_line, Call, Tells, EndsBy, Ends, AreReported}
use Rattle.answers.specs.Laws.{Agree, AnswersAgree, SourceLacksTree}
use Rattle.answers.proofs.laws.Complete.{tells_answer}
use Rattle.answers.proofs.laws.Shown.{unwritten_by}

faulty_line : (b : Answer) → b.status ≡ 9 → unwritten_line b ≡ b.line
faulty_line b e = rw e refl

pub reported : AnswersAgree → (c : Call) (status : ℕ) → Ends c status → AreReported c status
reported agree c status ends files a known answers = record {
  line = ending_line ends.ending;
  reported = ends.report;
  of_answer = λ m r w. by_ending m r w ends.ending ends.is ends.cause;
}
  where
    same : (b : Answer) → Tells c.words c.told b → Agree c.words files b a
    same b h = agree c.words files b a (tells_answer c files b known h) answers

    behind : (line : List ℕ) (b : Answer) → line ≡ b.line → (b.line ≡ a.line) ⊎ SourceLacksTree c.words files → (line ≡ a.line) ⊎ SourceLacksTree c.words files
    behind line b e (inl f) = inl (e ∙ f)
    behind line b e (inr n) = inr n

    by_ending : ¬ (status ≡ 1) → ¬ (status ≡ 3) → ¬ (status ≡ 4) → (e : Ending) → status ≡ ending_status e → EndsBy c e → (ending_line e ≡ a.line) ⊎ SourceLacksTree c.words files
    by_ending m r w (Answered b) is h = (same b h.0).line
    by_ending m r w OutOfMemory is h = absurd (m is)
    by_ending m r w (Unread name) is h = absurd (r is)
    by_ending m r w (Unwritten b) is h = by_status (unwritten_by b h.2)
      where
        by_status : ((b.status ≡ 0) × (unwritten_status b ≡ 4)) ⊎ ((b.status ≡ 9) × (unwritten_status b ≡ 9)) → (unwritten_line b ≡ a.line) ⊎ SourceLacksTree c.words files
        by_status (inl s) = absurd (w (is ∙ s.1))
        by_status (inr s) = behind (unwritten_line b) b (faulty_line b s.0) (same b h.1).line
