-- Outlines that agree wherever the plan has steps accept the same lists.
use Rattle.std.proofs.Common.{◌≡◌, ◌<◌, ℕ, true, sym, subst, ◌∙◌, List}
use Rattle.schedule_steps.specs.Outline.{Outline}
use Rattle.schedule_steps.specs.declared.step.Step.{Step}
use Rattle.schedule_steps.specs.declared.step.Step.TheVariants.{Send, Recv, Begin, End, Join}
use Rattle.schedule_steps.specs.Steps.{IsStep, Executes, Earlier, by_item, sent, sent_first, received, begun, coloured, Accepted}
use Rattle.schedule_steps.specs.Alike.{AlikeOutlines}

module _ (o n : Outline) (a : AlikeOutlines o n) where
  executes_there : (k r e : ℕ) → Executes o k r e → Executes n k r e
  executes_there k r e h = (subst (λ z. k < z) a.items h.0, sym (a.is_free k h.0) ∙ h.1, subst (λ z. r < z) a.ranks h.2, sym (a.executed k r e h.0 h.1 h.2) ∙ h.3)

  executes_back : (k r e : ℕ) → Executes n k r e → Executes o k r e
  executes_back k r e h =
      let lt : k < o.items = subst (λ z. k < z) (sym a.items) h.0 in
      let fr : o.is_free k ≡ true = a.is_free k lt ∙ h.1 in
      let lr : r < o.ranks = subst (λ z. r < z) (sym a.ranks) h.2 in
      (lt, fr, lr, a.executed k r e lt fr lr ∙ h.3)

  there : (s : Step) → IsStep o s → IsStep n s
  there (Send k s r) h = (subst (λ z. k < z) a.items h.0, sym (a.is_free k h.0) ∙ h.1, subst (λ z. s < z) a.ranks h.2, subst (λ z. r < z) a.ranks h.3, sym (a.sends k s r h.0 h.1 h.2 h.3) ∙ h.4)
  there (Recv k r s) h = (subst (λ z. k < z) a.items h.0, sym (a.is_free k h.0) ∙ h.1, subst (λ z. s < z) a.ranks h.2, subst (λ z. r < z) a.ranks h.3, sym (a.sends k s r h.0 h.1 h.2 h.3) ∙ h.4)
  there (Begin k r e) h = executes_there k r e h
  there (End k r e) h = executes_there k r e h
  there (Join k) h = (subst (λ z. k < z) a.items h.0, sym (a.is_free k h.0) ∙ h.1)

  back : (s : Step) → IsStep n s → IsStep o s
  back (Send k s r) h =
      let lt : k < o.items = subst (λ z. k < z) (sym a.items) h.0 in
      let fr : o.is_free k ≡ true = a.is_free k lt ∙ h.1 in
      let ls : s < o.ranks = subst (λ z. s < z) (sym a.ranks) h.2 in
      let lr : r < o.ranks = subst (λ z. r < z) (sym a.ranks) h.3 in
      (lt, fr, ls, lr, a.sends k s r lt fr ls lr ∙ h.4)
  back (Recv k r s) h =
      let lt : k < o.items = subst (λ z. k < z) (sym a.items) h.0 in
      let fr : o.is_free k ≡ true = a.is_free k lt ∙ h.1 in
      let ls : s < o.ranks = subst (λ z. s < z) (sym a.ranks) h.2 in
      let lr : r < o.ranks = subst (λ z. r < z) (sym a.ranks) h.3 in
      (lt, fr, ls, lr, a.sends k s r lt fr ls lr ∙ h.4)
  back (Begin k r e) h = executes_back k r e h
  back (End k r e) h = executes_back k r e h
  back (Join k) h = let lt : k < o.items = subst (λ z. k < z) (sym a.items) h.0 in (lt, a.is_free k lt ∙ h.1)

  earlier_back : (t s : Step) → IsStep n t → IsStep n s → Earlier n t s → Earlier o t s
  earlier_back t s x y (by_item r b c h) = by_item r b c h
  earlier_back _ _ x y sent = sent
  earlier_back _ _ x y sent_first = sent_first
  earlier_back _ _ x y (received {k} {r} {s} {e} h) =
      let z : Executes o k r e = executes_back k r e y in
      received (a.core k r e z.0 z.1 z.2 z.3 ∙ h)
  earlier_back _ _ x y begun = begun
  earlier_back _ _ x y (coloured {k} {r} {e} {f} h) =
      let z : Executes o k r e = executes_back k r e x in
      let w : Executes o k r f = executes_back k r f y in
      coloured (a.colours k r e f z.0 z.1 z.2 z.3 w.3 ∙ h)

  pub accepts_alike : (l : List Step) → Accepted o l → Accepted n l
  accepts_alike l h = record {
    whole = λ s plan. h.whole s (back s plan);
    steps = λ pre s post e. there s (h.steps pre s post e);
    once = h.once;
    order = λ pre s post e t plan early. h.order pre s post e t (back t plan) (earlier_back t s plan (there s (h.steps pre s post e)) early);
  }
