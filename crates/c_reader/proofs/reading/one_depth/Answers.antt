use Rattle.std.proofs.Common.{◌≡◌, ℕ, Result, Ok, Err, sym, ◌∙◌}
use Rattle.c_tree.specs.Tree.{ProgramTree}
use Rattle.c_reader.specs.declared.faults.Fault.{Fault}
use Rattle.c_reader.specs.declared.faults.Fault.TheVariants.{TooDeep}
use Rattle.c_reader.proofs.Programs.{read_once, read_deep}
use Rattle.c_reader.proofs.reading.one_depth.Goals as goal

never : (a : ProgramTree) (n : ℕ) → ◌≡◌ {A = Result ProgramTree Fault} (Ok a) (Err (TooDeep n)) → ⊥
never a n h = cc

equal : (n m : ℕ) → ◌≡◌ {A = Result ProgramTree Fault} (Err (TooDeep n)) (Err (TooDeep m)) → n ≡ m
equal n m h = cc

pub returns-clause-both : goal.returns-clause-both
returns-clause-both c = λ bytes a b n r d. never a n
    (sym (read_once bytes r.tokens a (λ o l. c.one_outcome.ensures bytes (Ok r.tokens) o r.lexed l) r)
    ∙ read_deep bytes r.tokens b n (λ o l. c.one_outcome.ensures bytes (Ok r.tokens) o r.lexed l) d)

pub returns-clause-same : goal.returns-clause-same
returns-clause-same c = λ bytes a b n m r d. equal n m
    (sym (read_deep bytes r.tokens a n (λ o l. c.one_outcome.ensures bytes (Ok r.tokens) o r.lexed l) r)
    ∙ read_deep bytes r.tokens b m (λ o l. c.one_outcome.ensures bytes (Ok r.tokens) o r.lexed l) d)
