-- The counters give the peak.
use Rattle.std.proofs.Common.{◌≡◌, ℕ, ◌≤◌, ◌∙◌, arith, List, [], ◌∷◌}
use Rattle.std.specs.Prelude.{max}
use Rattle.schedule_steps.specs.declared.step.Step.{Step}
use Rattle.schedule_steps.specs.Peaks.{open_step, mail_step, greatest, IsPeak}
use Rattle.step_judge.specs.declared.marks.load.Load.{Load}
use Rattle.step_judge.specs.Load.{loaded, loaded_all, no_load}

at_least : (f : Step → ℕ → ℕ) (n : ℕ) (l : List Step) → n ≤ greatest f n l
at_least f n [] = omega arith
at_least f n (s ∷ l) = omega arith

-- the greatest of what was and what comes
regroup : (k n m g : ℕ) → n ≤ k → m ≤ g → max (max k m) g ≡ max k (max n g)
regroup k n m g a b = omega arith

frames_from : (f : ℕ → ℕ → ℕ → ℕ) (l : List Step) (c : Load) → c.open_elements ≤ c.peak.frames
    → (loaded_all f l c).peak.frames ≡ max c.peak.frames (greatest open_step c.open_elements l)
frames_from f [] c h = omega arith
frames_from f (s ∷ l) c h =
    frames_from f l (loaded f s c) (omega arith)
    ∙ regroup c.peak.frames c.open_elements (open_step s c.open_elements) (greatest open_step (open_step s c.open_elements) l) h
    (at_least open_step (open_step s c.open_elements) l)

mail_from : (f : ℕ → ℕ → ℕ → ℕ) (l : List Step) (c : Load) → c.cells ≤ c.peak.mail
    → (loaded_all f l c).peak.mail ≡ max c.peak.mail (greatest (mail_step f) c.cells l)
mail_from f [] c h = omega arith
mail_from f (s ∷ l) c h =
    mail_from f l (loaded f s c) (omega arith)
    ∙ regroup c.peak.mail c.cells (mail_step f s c.cells) (greatest (mail_step f) (mail_step f s c.cells) l) h
    (at_least (mail_step f) (mail_step f s c.cells) l)

pub peak : (f : ℕ → ℕ → ℕ → ℕ) (l : List Step) → IsPeak f l (loaded_all f l no_load).peak
peak f l = record {
  frames = frames_from f l no_load (omega arith) ∙ zero_max (greatest open_step 0 l);
  mail = mail_from f l no_load (omega arith) ∙ zero_max (greatest (mail_step f) 0 l);
}
  where
    zero_max : (n : ℕ) → max 0 n ≡ n
    zero_max n = omega arith
