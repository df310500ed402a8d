-- The refusals of owners, and of the text that tells them.
use Rattle.std.proofs.Common.{◌≡◌, ℕ, Err, refl, sym, subst}
use Rattle.partition.specs.Parts.{Parts, OwnersRefusal, NoDat, NoMap, Unspelled, UnownedWhere}
use Rattle.partition.specs.declared.distribute.types.OwnersRefusal.{OwnersRefusal as Unowned}
use Rattle.partition.specs.declared.distribute.types.OwnersRefusal.TheVariants as unowned
use Rattle.partition.specs.Judgements.{OwnersAre}
use Rattle.bound_program.specs.Values.{BoundValue}
use Rattle.answers.specs.Said.{SaysOwners}
use Rattle.answers.specs.Judgements.{OwnersOf}
use Rattle.command_words.specs.declared.answer_lines.refusals.Failure.TheVariants.{OutOfMemory}
use Rattle.command_words.specs.declared.answer_lines.refusals.Halt.{Halt}
use Rattle.command_words.specs.declared.answer_lines.refusals.Halt.TheVariants.{Failed}
use Rattle.command_words.specs.Halts.{StopsWhere}
use Rattle.command_words.proofs.Public.{stops_weaker}

-- a refusal that says why owners aren't there is one of theirs
pub owners_refused_by : (ranks : ℕ) (b : BoundValue) (parts : Parts) (e : OwnersRefusal) (h : Halt)
    → OwnersAre b.mesh ranks parts (Err e)
    → StopsWhere (SaysOwners e) h
    → StopsWhere (λ r. OwnersOf ranks b parts (Err r)) h
owners_refused_by ranks b parts e h is says =
    stops_weaker (SaysOwners e) (λ r. OwnersOf ranks b parts (Err r)) h (λ r x. (e, is, x)) says

-- and so is what ends the judgement of owners
pub unowned_refuses : (ranks : ℕ) (b : BoundValue) (rule : Parts) (e : Unowned) (h : Halt)
    → UnownedWhere (λ r. OwnersAre b.mesh ranks rule (Err r)) e
    → UnownedWhere (λ r. StopsWhere (SaysOwners r) h) e
    → (e ≡ unowned.OutOfMemory → h ≡ Failed OutOfMemory)
    → StopsWhere (λ r. OwnersOf ranks b rule (Err r)) h
unowned_refuses ranks b rule (unowned.UnknownDat name) h is says memory = owners_refused_by ranks b rule (NoDat name.now) h is says
unowned_refuses ranks b rule (unowned.UnknownMap name) h is says memory = owners_refused_by ranks b rule (NoMap name.now) h is says
unowned_refuses ranks b rule (unowned.Text r) h is says memory = owners_refused_by ranks b rule (Unspelled r) h is says
unowned_refuses ranks b rule unowned.OutOfMemory h is says memory =
    subst (StopsWhere (λ r. OwnersOf ranks b rule (Err r))) (sym (memory refl)) tt
