-- The refusals of what the text of a mesh spells, as those of the chain over it.
use Rattle.std.proofs.Common.{ℕ, List, Ok, Err, inl, inr, refl}
use Rattle.c_tree.specs.Tree.{ProgramTree}
use Rattle.kernel_model.specs.declared.types.kernels.Resolved.{Resolved}
use Rattle.mesh_decl.specs.Spelling.{Named}
use Rattle.bound_program.specs.Values.{BoundValue}
use Rattle.command_words.specs.Lines.{refused}
use Rattle.command_words.specs.Refusal.{Refusal}
use Rattle.answers.specs.Judgements.{EntriesAre, BoundIs, AccessesAre}
use Rattle.command_words.specs.declared.answer_lines.refusals.Halt.{Halt}
use Rattle.command_words.specs.Halts.{StopsWhere}
use Rattle.job_inputs.specs.Chains.{Never, TextOver}
use Rattle.command_words.proofs.Public.{stops_weaker}

module _ (p : ProgramTree) (types : Resolved) (text : List ℕ) where
  abbrev Refuses : Refusal → Type 0
  Refuses r = TextOver Never p types text (refused r)

  weaker : (J : Refusal → Type 0) (h : Halt) → ((r : Refusal) → J r → Refuses r) → StopsWhere J h → StopsWhere Refuses h
  weaker J h step s = stops_weaker J Refuses h step s

  pub entries_refused : (h : Halt) → StopsWhere (λ r. EntriesAre text (Err r)) h → StopsWhere Refuses h
  entries_refused h s = weaker (λ r. EntriesAre text (Err r)) h (λ r j. inl (r, j, refl)) s

  pub bound_refused : (es : List Named) (h : Halt) → EntriesAre text (Ok es) → StopsWhere (λ r. BoundIs p types es (Err r)) h → StopsWhere Refuses h
  bound_refused es h entries s = weaker (λ r. BoundIs p types es (Err r)) h (λ r j. inr (es, entries, inl (r, j, refl))) s

  pub accesses_refused : (es : List Named) (b : BoundValue) (h : Halt) → EntriesAre text (Ok es) → BoundIs p types es (Ok b) → StopsWhere (λ r. AccessesAre b (Err r)) h → StopsWhere Refuses h
  accesses_refused es b h entries bound s = weaker (λ r. AccessesAre b (Err r)) h (λ r j. inr (es, entries, inr (b, bound, inl (r, j, refl)))) s
