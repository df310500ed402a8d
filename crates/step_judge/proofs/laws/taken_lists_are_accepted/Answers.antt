use Rattle.std.proofs.Common.{◌≡◌, List, ◌++◌, ◌∷◌}
use Rattle.schedule_steps.specs.declared.step.Step.{Step}
use Rattle.schedule_steps.specs.Members.{split_at}
use Rattle.schedule_steps.specs.Standard.{standard}
use Rattle.step_judge.proofs.TakenWhole.{whole, refused}
use Rattle.step_judge.proofs.laws.taken_lists_are_accepted.Goals as goal

pub returns-clause-whole : goal.returns-clause-whole
returns-clause-whole c o m n l fresh h = whole o
    (λ t i. (let at : (x : List Step) × (y : List Step) × (standard o 1 ≡ x ++ (t ∷ y)) = split_at (standard o 1) t i in (c.standard_is_accepted.ensures o 1).steps at.0 t at.1 at.2))
    (c.tests_decide.ensures.steps o) (c.tests_decide.ensures.accepted o) m n l fresh h

pub returns-clause-refused : goal.returns-clause-refused
returns-clause-refused c o m n l fresh h s e j rest a = refused o
    (λ t i. (let at : (x : List Step) × (y : List Step) × (standard o 1 ≡ x ++ (t ∷ y)) = split_at (standard o 1) t i in (c.standard_is_accepted.ensures o 1).steps at.0 t at.1 at.2))
    (c.tests_decide.ensures.steps o) (c.tests_decide.ensures.accepted o) m n l fresh h s e j rest a
