use Rattle.std.proofs.Common.{◌≡◌, ◌<◌, ◌≤◌, ◌∙◌, inl, inr, refl, length, ⊎_elim}
use Rattle.std.proofs.lemmas.Bool.{cases_lt}
use Rattle.std.proofs.lemmas.List.{get_or_past}
use Rattle.partition.proofs.Votes.{count, votes_stand}
use Rattle.partition.proofs.elect.clear_ranks.Goals as goal

pub loop-rank-init : goal.loop-rank-init
loop-rank-init c = (
  refl,
  λ r. ⊎_elim
      (λ (l : r < length c.args.votes.now). ⊎_elim
      (λ (z : count c.args.list.now r ≡ 0). inl (c.requires.count r l ∙ z))
      (λ s. inr s)
      (votes_stand c.args.list.now r))
      (λ (l : length c.args.votes.now ≤ r). inl (get_or_past c.args.votes.now r 0 l))
      (cases_lt r (length c.args.votes.now)),
)
