use Rattle.std.proofs.Common.{◌≡◌, ⊎_elim, sym, ap, ◌∙◌, rules, arith}
use Rattle.partition.specs.declared.part_text.refusals.PartRefusal.TheVariants.{OutOfMemory}
use Rattle.partition.specs.Parts.{Unspelled}
use Rattle.partition.proofs.distribute.owners.read.Goals as goal

pub returns-in-Ok-clause-refuses : goal.returns-in-Ok-clause-refuses
returns-in-Ok-clause-refuses c = λ r w. c.in-Ok.ensures.refuses w.0 w.1

pub returns-in-Err-clause-refuses : goal.returns-in-Err-clause-refuses
returns-in-Err-clause-refuses c = λ r w. ⊎_elim
    (λ (e : c.in-Err.refusal ≡ OutOfMemory). let no : c.in-Err.refusal ≡ OutOfMemory → ⊥ = first_of (search rules, grind arith) in absurd (no e))
    (λ e. ap Unspelled e ∙ sym w.2)
    (c.in-Err.ensures.refuses w.0 w.1)
