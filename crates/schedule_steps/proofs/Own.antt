-- A rank's own steps.
use Rattle.std.proofs.Common.{◌≡◌, ℕ, ◌<◌, ◌≤◌, Bool, true, false, refl, sym, subst, arith, ⊎_elim, List, [], ◌∷◌, ◌++◌}
use Rattle.std.proofs.lemmas.Bool.{false≢true, cond_both, cond-true}
use Rattle.schedule_steps.specs.Outline.{Outline}
use Rattle.schedule_steps.specs.declared.step.Step.{Step}
use Rattle.schedule_steps.specs.declared.step.Step.TheVariants.{Send, Recv, Begin, End, Join}
use Rattle.schedule_steps.specs.Steps.{item, IsOf, IsStep, Earlier, has}
use Rattle.schedule_steps.specs.Members.{has_left, has_right}
use Rattle.schedule_steps.specs.Standard.{sends_of, receives_of, element_steps}
use Rattle.schedule_steps.specs.Drawn.{own_item, own}
use Rattle.schedule_steps.proofs.Keys.{Less, key, tail, earlier_less, Each, each_append, each_at, each_has, Sorted, sorted_pair, sorted_once, sorted_before}
use Rattle.schedule_steps.proofs.Layers.{each_below, has_below, Layer, layer_below, rest_of, rest_append, layer_append, layer_shorter}
use Rattle.schedule_steps.proofs.Standard.{element_layer, send_layer, receive_layer, each_send, each_receive, each_element, has_send, has_receive, has_begin, has_end}

abbrev pub is_join : Step → Bool
is_join (Join k) = true
is_join _ = false

abbrev pub is_send : Step → Bool
is_send (Send k s r) = true
is_send _ = false

module _ (o : Outline) (g r : ℕ) where
  own_layer : (k : ℕ) → Layer o g (k ∷ []) (own_item o g r k)
  own_layer k = cond_both (o.is_free k) (sends_of o k r ++ (receives_of o k r ++ element_steps o g k r)) [] (Layer o g (k ∷ []))
      (λ t. layer_append o g (k ∷ []) 0 (sends_of o k r) (receives_of o k r ++ element_steps o g k r)
      (layer_shorter o g (k ∷ 0 ∷ []) r (sends_of o k r) (send_layer o g k r))
      (rest_append o g (k ∷ []) 0 1 (receives_of o k r) (element_steps o g k r) (omega arith)
      (layer_shorter o g (k ∷ 1 ∷ []) r (receives_of o k r) (receive_layer o g k r))
      (rest_of o g (k ∷ []) 1 2 (element_steps o g k r) (omega arith) (layer_shorter o g (k ∷ 2 ∷ []) r (element_steps o g k r) (element_layer o g k r)))))
      (λ t. record { sorted = tt; begins = tt })

  own_sorted : Sorted o g (own o g r)
  own_sorted = (layer_below o g [] (own_item o g r) o.items (λ k lt. own_layer k)).sorted

  abbrev pub Mine : Step → Type 0
  Mine s = IsStep o s × IsOf s r × (is_join s ≡ false)

  each_mine : r < o.ranks → Each Mine (own o g r)
  each_mine lr = each_below Mine (own_item o g r) o.items (λ k lt. cond_both (o.is_free k) (sends_of o k r ++ (receives_of o k r ++ element_steps o g k r)) [] (Each Mine)
      (λ fr. each_append Mine (sends_of o k r) (receives_of o k r ++ element_steps o g k r)
      (each_send o g Mine k r (λ x lx t. ((lt, fr, lr, lx, t), refl, refl)))
      (each_append Mine (receives_of o k r) (element_steps o g k r)
      (each_receive o g Mine k r (λ x lx t. ((lt, fr, lx, lr, t), refl, refl)))
      (each_element o g Mine k r (λ x u. (((lt, fr, lr, u), refl, refl), ((lt, fr, lr, u), refl, refl))))))
      (λ fr. tt))

  in_item : (k : ℕ) (t : Step) → k < o.items → o.is_free k ≡ true → has (sends_of o k r ++ (receives_of o k r ++ element_steps o g k r)) t ≡ true → has (own o g r) t ≡ true
  in_item k t lt fr h = has_below (own_item o g r) o.items k t lt (subst (λ z. has z t ≡ true) (sym (cond-true (o.is_free k) (sends_of o k r ++ (receives_of o k r ++ element_steps o g k r)) [] fr)) h)

  in_elements : (k : ℕ) (t : Step) → has (element_steps o g k r) t ≡ true → has (sends_of o k r ++ (receives_of o k r ++ element_steps o g k r)) t ≡ true
  in_elements k t h = has_right (sends_of o k r) (receives_of o k r ++ element_steps o g k r) t (has_right (receives_of o k r) (element_steps o g k r) t h)

  -- each step of the rank is there
  pub own_all : (s : Step) → IsStep o s → is_join s ≡ false → IsOf s r → has (own o g r) s ≡ true
  own_all (Send k s x) h j of = in_item k (Send k s x) h.0 h.1 (has_left (sends_of o k r) (receives_of o k r ++ element_steps o g k r) (Send k s x)
      (subst (λ z. has (sends_of o k z) (Send k s x) ≡ true) of (has_send o g k s x h.3 h.4)))
  own_all (Recv k x s) h j of = in_item k (Recv k x s) h.0 h.1 (has_right (sends_of o k r) (receives_of o k r ++ element_steps o g k r) (Recv k x s)
      (has_left (receives_of o k r) (element_steps o g k r) (Recv k x s) (subst (λ z. has (receives_of o k z) (Recv k x s) ≡ true) of (has_receive o g k x s h.2 h.4))))
  own_all (Begin k x e) h j of = in_item k (Begin k x e) h.0 h.1 (in_elements k (Begin k x e) (subst (λ z. has (element_steps o g k z) (Begin k x e) ≡ true) of (has_begin o g k x e h.3)))
  own_all (End k x e) h j of = in_item k (End k x e) h.0 h.1 (in_elements k (End k x e) (subst (λ z. has (element_steps o g k z) (End k x e) ≡ true) of (has_end o g k x e h.3)))
  own_all (Join k) h j of = absurd (false≢true (sym j))

  pub own_mine : r < o.ranks → (pre : List Step) (s : Step) (post : List Step) → own o g r ≡ pre ++ (s ∷ post) → Mine s
  own_mine lr pre s post e = each_at Mine pre s post (subst (Each Mine) e (each_mine lr))

  pub own_once : (pre : List Step) (s : Step) (post : List Step) → own o g r ≡ pre ++ (s ∷ post) → has pre s ≡ false
  own_once pre s post e = sorted_once o g (own o g r) own_sorted pre s post e

  -- what is earlier stands before
  pub own_order : (pre : List Step) (s : Step) (post : List Step) → own o g r ≡ pre ++ (s ∷ post) → (t : Step) → IsStep o t → is_join t ≡ false → IsOf t r → Earlier o t s → has pre t ≡ true
  own_order pre s post e t plan j of early = sorted_before o g (own o g r) own_sorted pre s post e t (own_all t plan j of) (earlier_less o g t s early)

  after_less : (pre : List Step) (s : Step) (post : List Step) → own o g r ≡ pre ++ (s ∷ post) → (t : Step) → has post t ≡ true → Less (key o g s) (key o g t)
  after_less pre s post e t h = each_has (λ y. Less (key o g s) (key o g y)) post t (sorted_pair o g pre s post (subst (Sorted o g) e own_sorted)).1 h

  -- items never fall
  pub own_items : (pre : List Step) (s : Step) (post : List Step) → own o g r ≡ pre ++ (s ∷ post) → (t : Step) → has post t ≡ true → item s ≤ item t
  own_items pre s post e t h = ⊎_elim
      (λ (l : item s < item t). omega arith)
      (λ (l : (item s ≡ item t) × Less (tail o g s) (tail o g t)). let i : item s ≡ item t = l.0 in omega arith)
      (after_less pre s post e t h)

  -- the sends of an item stand first
  pub own_sends : (pre : List Step) (s : Step) (post : List Step) → own o g r ≡ pre ++ (s ∷ post) → (k x : ℕ) → has post (Send k r x) ≡ true → item s ≡ k → is_send s ≡ true
  own_sends pre s post e k x h i = ⊎_elim
      (λ (l : item s < k). absurd (omega arith))
      (λ (l : (item s ≡ k) × Less (tail o g s) (0 ∷ r ∷ x ∷ [])). by_tail s l.1)
      (after_less pre s post e (Send k r x) h)
    where
      by_tail : (u : Step) → Less (tail o g u) (0 ∷ r ∷ x ∷ []) → is_send u ≡ true
      by_tail (Send a b c) l = refl
      by_tail (Recv a b c) l = absurd (⊎_elim (λ (z : 1 < 0). omega arith) (λ (z : (1 ≡ 0) × Less (b ∷ c ∷ []) (r ∷ x ∷ [])). let q : 1 ≡ 0 = z.0 in omega arith) l)
      by_tail (Begin a b c) l = absurd (⊎_elim (λ (z : 2 < 0). omega arith) (λ z. let q : 2 ≡ 0 = z.0 in omega arith) l)
      by_tail (End a b c) l = absurd (⊎_elim (λ (z : 2 < 0). omega arith) (λ z. let q : 2 ≡ 0 = z.0 in omega arith) l)
      by_tail (Join a) l = absurd (⊎_elim (λ (z : 0 < 0). omega arith) (λ (z : (0 ≡ 0) × Less [] (r ∷ x ∷ [])). z.1) l)
