use Rattle.std.proofs.Common.{sym, subst, Err}
use Rattle.c_reader.specs.Answered.{IsTree, IsRefusal}
use Rattle.c_tree.specs.Refused.{place_at, CanRefuse}
use Rattle.c_tree.specs.declared.refusals.SourceRefusal.TheVariants.{Lex, TooDeep}
use Rattle.c_reader.proofs.Programs.{given_lexed, unlexed_only, unlexed_deep, unlexed_same, unlexed_can}
use Rattle.c_reader.proofs.reading.read_program.Goals as goal

pub returns-in-Err-clause-only : goal.returns-in-Err-clause-only
returns-in-Err-clause-only c =
    λ p h. subst (λ z. IsTree p (Err z)) (sym c.unlexed.ensures) (unlexed_only c.args.bytes.now c.in-Err.refusal c.in-Err.ensures.only p h)

pub returns-in-Err-clause-deep : goal.returns-in-Err-clause-deep
returns-in-Err-clause-deep c =
    λ p n h. subst (λ z. IsRefusal (TooDeep (place_at p.places c.args.bytes.now n)) (Err z)) (sym c.unlexed.ensures)
    (unlexed_deep c.args.bytes.now c.in-Err.refusal (TooDeep (place_at p.places c.args.bytes.now n)) c.in-Err.ensures.only p n h)

pub returns-in-Err-clause-lexed : goal.returns-in-Err-clause-lexed
returns-in-Err-clause-lexed c =
    λ r l. subst (λ z. IsRefusal (Lex r) (Err z)) (sym c.unlexed.ensures) (unlexed_same c.args.bytes.now c.in-Err.refusal c.in-Err.ensures.only r l)

pub returns-in-Err-clause-refused : goal.returns-in-Err-clause-refused
returns-in-Err-clause-refused c =
    subst (CanRefuse c.args.bytes.now) (sym c.unlexed.ensures) (unlexed_can c.args.bytes.now c.in-Err.refusal c.in-Err.ensures.found)

pub returns-clause-lexed : goal.returns-clause-lexed
returns-clause-lexed c =
    λ r l. absurd (given_lexed c.args.bytes.now c.in-Ok.tokens.items c.in-Ok.ensures.only r l)
