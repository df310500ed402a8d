-- Outlines that are alike are so both ways.
use Rattle.std.proofs.Common.{◌≡◌, ℕ, ◌<◌, true, sym, subst, ◌∙◌}
use Rattle.schedule_steps.specs.Outline.{Outline}
use Rattle.schedule_steps.specs.Alike.{AlikeOutlines}

module _ (o n : Outline) (a : AlikeOutlines o n) where
  item : (k : ℕ) → k < n.items → k < o.items
  item k l = subst (λ z. k < z) (sym a.items) l

  rank : (r : ℕ) → r < n.ranks → r < o.ranks
  rank r l = subst (λ z. r < z) (sym a.ranks) l

  free : (k : ℕ) → k < n.items → n.is_free k ≡ true → o.is_free k ≡ true
  free k l h = a.is_free k (item k l) ∙ h

  pub alike_back : AlikeOutlines n o
  alike_back = record {
    items = sym a.items;
    ranks = sym a.ranks;
    is_free = λ k lk. sym (a.is_free k (item k lk));
    sends = λ k s r lk h ls lr. sym (a.sends k s r (item k lk) (free k lk h) (rank s ls) (rank r lr));
    executed = λ k r e lk h lr. sym (a.executed k r e (item k lk) (free k lk h) (rank r lr));
    core = λ k r e lk h lr run.
        sym (a.core k r e (item k lk) (free k lk h) (rank r lr) (a.executed k r e (item k lk) (free k lk h) (rank r lr) ∙ run));
    colours = λ k r e f lk h lr re rf.
        sym (a.colours k r e f (item k lk) (free k lk h) (rank r lr)
        (a.executed k r e (item k lk) (free k lk h) (rank r lr) ∙ re)
        (a.executed k r f (item k lk) (free k lk h) (rank r lr) ∙ rf));
  }
