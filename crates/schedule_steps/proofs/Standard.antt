-- The standard order is sorted, and has each step of the plan.
use Rattle.std.proofs.Common.{◌≡◌, ℕ, zero, suc, ◌<◌, true, false, refl, sym, ap, subst, ◌∙◌, arith, ⊎_elim, [], ◌∷◌, ◌++◌}
use Rattle.std.specs.Prelude.{◌&&◌, ◌==◌, nat_lt}
use Rattle.std.proofs.lemmas.Bool.{cases_eq, cond_both, cond-true, cond-false, and_parts, and_from, eqb-true, eq-eqb, ltb-true, or_left}
use Rattle.schedule_steps.specs.Outline.{Outline, runs}
use Rattle.schedule_steps.specs.declared.step.Step.{Step}
use Rattle.schedule_steps.specs.declared.step.Step.TheVariants.{Send, Recv, Begin, End, Join}
use Rattle.schedule_steps.specs.Steps.{IsStep, same, has, Accepted}
use Rattle.schedule_steps.specs.Members.{same_refl, has_left, has_right}
use Rattle.schedule_steps.specs.Standard.{below, where_true, above, sends_of, receives_of, is_member, group_of, in_group, group_steps, block_steps, blocks, element_steps, item_steps, standard}
use Rattle.schedule_steps.proofs.Keys.{Each, each_append, Sorted, sorted_accepted}
use Rattle.schedule_steps.proofs.Layers.{each_below, each_where, has_below, has_where, Layer, one, layer_where, layer_below, rest_of, rest_append, layer_append}

pub above_each : (f : ℕ → ℕ) (n i : ℕ) → i < n → f i < above f n
above_each f zero i lt = absurd (omega arith)
above_each f (suc n) i lt = ⊎_elim
    (λ (e : i ≡ n). let h : f i ≡ f n = ap f e in omega arith)
    (λ (ne : i ≡ n → ⊥). let h : f i < above f n = above_each f n i (omega arith) in omega arith)
    (cases_eq i n)

has_self : (s : Step) → has (s ∷ []) s ≡ true
has_self s = or_left (same s s) false (same_refl s)

module _ (o : Outline) (g : ℕ) where
  -- what an element of a run has
  record Member (k r b c j x : ℕ) : Type 0 where
    run : runs o k r x ≡ true
    block_is : o.block k r x ≡ b
    colour_is : o.colour k r x ≡ c
    group_is : group_of o g k r x ≡ j

  member : (k r b c j x : ℕ) → in_group o g k r b c j x ≡ true → Member k r b c j x
  member k r b c j x h =
      let u : (is_member o k r b c x ≡ true) × ((group_of o g k r x == j) ≡ true) = and_parts (is_member o k r b c x) (group_of o g k r x == j) h in
      let v : (runs o k r x ≡ true) × (((o.block k r x == b) && (o.colour k r x == c)) ≡ true) = and_parts (runs o k r x) ((o.block k r x == b) && (o.colour k r x == c)) u.0 in
      let w : ((o.block k r x == b) ≡ true) × ((o.colour k r x == c) ≡ true) = and_parts (o.block k r x == b) (o.colour k r x == c) v.1 in
      record { run = v.0; block_is = eqb-true (o.block k r x) b w.0; colour_is = eqb-true (o.colour k r x) c w.1; group_is = eqb-true (group_of o g k r x) j u.1 }

  -- the element's own run
  in_own : (k r x : ℕ) → runs o k r x ≡ true → in_group o g k r (o.block k r x) (o.colour k r x) (group_of o g k r x) x ≡ true
  in_own k r x h = and_from (is_member o k r (o.block k r x) (o.colour k r x) x) (group_of o g k r x == group_of o g k r x)
      (and_from (runs o k r x) ((o.block k r x == o.block k r x) && (o.colour k r x == o.colour k r x)) h
      (and_from (o.block k r x == o.block k r x) (o.colour k r x == o.colour k r x) (eq-eqb (o.block k r x) (o.block k r x) refl) (eq-eqb (o.colour k r x) (o.colour k r x) refl)))
      (eq-eqb (group_of o g k r x) (group_of o g k r x) refl)

  run_below : (k r x : ℕ) → runs o k r x ≡ true → x < o.count k r
  run_below k r x h = ltb-true x (o.count k r) (and_parts (nat_lt x (o.count k r)) (o.executes k r x) h).0

  -- ---- keys
  key_is : (k r h b c j x half : ℕ) → o.block_colour k r b ≡ h → Member k r b c j x
      → (k ∷ 2 ∷ r ∷ o.block_colour k r (o.block k r x) ∷ o.block k r x ∷ o.colour k r x ∷ group_of o g k r x ∷ half ∷ x ∷ []) ≡ (k ∷ 2 ∷ r ∷ h ∷ b ∷ c ∷ j ∷ half ∷ []) ++ (x ∷ [])
  key_is k r h b c j x half e m =
      ap (λ z. k ∷ 2 ∷ r ∷ z ∷ o.block k r x ∷ o.colour k r x ∷ group_of o g k r x ∷ half ∷ x ∷ []) (ap (o.block_colour k r) m.block_is ∙ e)
      ∙ (ap (λ z. k ∷ 2 ∷ r ∷ h ∷ z ∷ o.colour k r x ∷ group_of o g k r x ∷ half ∷ x ∷ []) m.block_is
      ∙ (ap (λ z. k ∷ 2 ∷ r ∷ h ∷ b ∷ z ∷ group_of o g k r x ∷ half ∷ x ∷ []) m.colour_is
      ∙ ap (λ z. k ∷ 2 ∷ r ∷ h ∷ b ∷ c ∷ z ∷ half ∷ x ∷ []) m.group_is))

  key_whole : (k r h b c j x half : ℕ) → o.block_colour k r b ≡ h → Member k r b c j x
      → (k ∷ 2 ∷ r ∷ o.block_colour k r (o.block k r x) ∷ o.block k r x ∷ o.colour k r x ∷ group_of o g k r x ∷ half ∷ x ∷ []) ≡ (k ∷ 2 ∷ r ∷ h ∷ b ∷ c ∷ j ∷ half ∷ x ∷ []) ++ []
  key_whole k r h b c j x half e m = key_is k r h b c j x half e m

  group_layer : (k r h b c j : ℕ) → o.block_colour k r b ≡ h → Layer o g (k ∷ 2 ∷ r ∷ h ∷ b ∷ c ∷ j ∷ []) (group_steps o g k r b c j)
  group_layer k r h b c j e = layer_append o g (k ∷ 2 ∷ r ∷ h ∷ b ∷ c ∷ j ∷ []) 0
      (below (λ x. where_true (in_group o g k r b c j x) (Begin k r x ∷ [])) (o.count k r)) (below (λ x. where_true (in_group o g k r b c j x) (End k r x ∷ [])) (o.count k r))
      (layer_below o g (k ∷ 2 ∷ r ∷ h ∷ b ∷ c ∷ j ∷ 0 ∷ []) (λ x. where_true (in_group o g k r b c j x) (Begin k r x ∷ [])) (o.count k r)
      (λ x lt. layer_where o g (k ∷ 2 ∷ r ∷ h ∷ b ∷ c ∷ j ∷ 0 ∷ x ∷ []) (in_group o g k r b c j x) (Begin k r x ∷ [])
      (λ t. one o g (k ∷ 2 ∷ r ∷ h ∷ b ∷ c ∷ j ∷ 0 ∷ x ∷ []) (Begin k r x) [] (key_whole k r h b c j x 0 e (member k r b c j x t)))))
      (rest_of o g (k ∷ 2 ∷ r ∷ h ∷ b ∷ c ∷ j ∷ []) 0 1 (below (λ x. where_true (in_group o g k r b c j x) (End k r x ∷ [])) (o.count k r)) (omega arith)
      (layer_below o g (k ∷ 2 ∷ r ∷ h ∷ b ∷ c ∷ j ∷ 1 ∷ []) (λ x. where_true (in_group o g k r b c j x) (End k r x ∷ [])) (o.count k r)
      (λ x lt. layer_where o g (k ∷ 2 ∷ r ∷ h ∷ b ∷ c ∷ j ∷ 1 ∷ x ∷ []) (in_group o g k r b c j x) (End k r x ∷ [])
      (λ t. one o g (k ∷ 2 ∷ r ∷ h ∷ b ∷ c ∷ j ∷ 1 ∷ x ∷ []) (End k r x) [] (key_whole k r h b c j x 1 e (member k r b c j x t))))))

  pub element_layer : (k r : ℕ) → Layer o g (k ∷ 2 ∷ r ∷ []) (element_steps o g k r)
  element_layer k r = layer_below o g (k ∷ 2 ∷ r ∷ []) (λ h. below (λ b. where_true (o.block_colour k r b == h) (block_steps o g k r b)) (blocks o k r)) (above (o.block_colour k r) (blocks o k r))
      (λ h lh. layer_below o g (k ∷ 2 ∷ r ∷ h ∷ []) (λ b. where_true (o.block_colour k r b == h) (block_steps o g k r b)) (blocks o k r)
      (λ b lb. layer_where o g (k ∷ 2 ∷ r ∷ h ∷ b ∷ []) (o.block_colour k r b == h) (block_steps o g k r b)
      (λ t. layer_below o g (k ∷ 2 ∷ r ∷ h ∷ b ∷ []) (λ c. below (λ j. group_steps o g k r b c j) (above (group_of o g k r) (o.count k r))) (above (o.colour k r) (o.count k r))
      (λ c lc. layer_below o g (k ∷ 2 ∷ r ∷ h ∷ b ∷ c ∷ []) (λ j. group_steps o g k r b c j) (above (group_of o g k r) (o.count k r))
      (λ j lj. group_layer k r h b c j (eqb-true (o.block_colour k r b) h t))))))

  pub send_layer : (k s : ℕ) → Layer o g (k ∷ 0 ∷ s ∷ []) (sends_of o k s)
  send_layer k s = layer_below o g (k ∷ 0 ∷ s ∷ []) (λ r. where_true (o.sends k s r) (Send k s r ∷ [])) o.ranks
      (λ r lt. layer_where o g (k ∷ 0 ∷ s ∷ r ∷ []) (o.sends k s r) (Send k s r ∷ []) (λ t. one o g (k ∷ 0 ∷ s ∷ r ∷ []) (Send k s r) [] refl))

  pub receive_layer : (k r : ℕ) → Layer o g (k ∷ 1 ∷ r ∷ []) (receives_of o k r)
  receive_layer k r = layer_below o g (k ∷ 1 ∷ r ∷ []) (λ s. where_true (o.sends k s r) (Recv k r s ∷ [])) o.ranks
      (λ s lt. layer_where o g (k ∷ 1 ∷ r ∷ s ∷ []) (o.sends k s r) (Recv k r s ∷ []) (λ t. one o g (k ∷ 1 ∷ r ∷ s ∷ []) (Recv k r s) [] refl))

  item_layer : (k : ℕ) → Layer o g (k ∷ []) (item_steps o g k)
  item_layer k = cond_both (o.is_free k) (below (sends_of o k) o.ranks ++ (below (receives_of o k) o.ranks ++ below (element_steps o g k) o.ranks)) (Join k ∷ []) (Layer o g (k ∷ []))
      (λ t. layer_append o g (k ∷ []) 0 (below (sends_of o k) o.ranks) (below (receives_of o k) o.ranks ++ below (element_steps o g k) o.ranks)
      (layer_below o g (k ∷ 0 ∷ []) (sends_of o k) o.ranks (λ s lt. send_layer k s))
      (rest_append o g (k ∷ []) 0 1 (below (receives_of o k) o.ranks) (below (element_steps o g k) o.ranks) (omega arith)
      (layer_below o g (k ∷ 1 ∷ []) (receives_of o k) o.ranks (λ r lt. receive_layer k r))
      (rest_of o g (k ∷ []) 1 2 (below (element_steps o g k) o.ranks) (omega arith) (layer_below o g (k ∷ 2 ∷ []) (element_steps o g k) o.ranks (λ r lt. element_layer k r)))))
      (λ t. one o g (k ∷ []) (Join k) (0 ∷ []) refl)

  standard_sorted : Sorted o g (standard o g)
  standard_sorted = (layer_below o g [] (item_steps o g) o.items (λ k lt. item_layer k)).sorted

  -- ---- each of them is a step of the plan
  pub each_send : (P : Step → Type 0) (k s : ℕ) → ((r : ℕ) → r < o.ranks → o.sends k s r ≡ true → P (Send k s r)) → Each P (sends_of o k s)
  each_send P k s h = each_below P (λ r. where_true (o.sends k s r) (Send k s r ∷ [])) o.ranks (λ r lt. each_where P (o.sends k s r) (Send k s r ∷ []) (λ t. (h r lt t, tt)))

  pub each_receive : (P : Step → Type 0) (k r : ℕ) → ((s : ℕ) → s < o.ranks → o.sends k s r ≡ true → P (Recv k r s)) → Each P (receives_of o k r)
  each_receive P k r h = each_below P (λ s. where_true (o.sends k s r) (Recv k r s ∷ [])) o.ranks (λ s lt. each_where P (o.sends k s r) (Recv k r s ∷ []) (λ t. (h s lt t, tt)))

  pub each_element : (P : Step → Type 0) (k r : ℕ) → ((x : ℕ) → runs o k r x ≡ true → P (Begin k r x) × P (End k r x)) → Each P (element_steps o g k r)
  each_element P k r h = each_below P (λ h. below (λ b. where_true (o.block_colour k r b == h) (block_steps o g k r b)) (blocks o k r)) (above (o.block_colour k r) (blocks o k r))
      (λ i li. each_below P (λ b. where_true (o.block_colour k r b == i) (block_steps o g k r b)) (blocks o k r)
      (λ b lb. each_where P (o.block_colour k r b == i) (block_steps o g k r b)
      (λ t. each_below P (λ c. below (λ j. group_steps o g k r b c j) (above (group_of o g k r) (o.count k r))) (above (o.colour k r) (o.count k r))
      (λ c lc. each_below P (λ j. group_steps o g k r b c j) (above (group_of o g k r) (o.count k r))
      (λ j lj. each_append P (below (λ x. where_true (in_group o g k r b c j x) (Begin k r x ∷ [])) (o.count k r)) (below (λ x. where_true (in_group o g k r b c j x) (End k r x ∷ [])) (o.count k r))
      (each_below P (λ x. where_true (in_group o g k r b c j x) (Begin k r x ∷ [])) (o.count k r)
      (λ x lx. each_where P (in_group o g k r b c j x) (Begin k r x ∷ []) (λ u. ((h x (member k r b c j x u).run).0, tt))))
      (each_below P (λ x. where_true (in_group o g k r b c j x) (End k r x ∷ [])) (o.count k r)
      (λ x lx. each_where P (in_group o g k r b c j x) (End k r x ∷ []) (λ u. ((h x (member k r b c j x u).run).1, tt)))))))))

  each_item : (k : ℕ) → k < o.items → Each (IsStep o) (item_steps o g k)
  each_item k lt = cond_both (o.is_free k) (below (sends_of o k) o.ranks ++ (below (receives_of o k) o.ranks ++ below (element_steps o g k) o.ranks)) (Join k ∷ []) (Each (IsStep o))
      (λ fr. each_append (IsStep o) (below (sends_of o k) o.ranks) (below (receives_of o k) o.ranks ++ below (element_steps o g k) o.ranks)
      (each_below (IsStep o) (sends_of o k) o.ranks (λ s ls. each_send (IsStep o) k s (λ r lr t. (lt, fr, ls, lr, t))))
      (each_append (IsStep o) (below (receives_of o k) o.ranks) (below (element_steps o g k) o.ranks)
      (each_below (IsStep o) (receives_of o k) o.ranks (λ r lr. each_receive (IsStep o) k r (λ s ls t. (lt, fr, ls, lr, t))))
      (each_below (IsStep o) (element_steps o g k) o.ranks (λ r lr. each_element (IsStep o) k r (λ x u. ((lt, fr, lr, u), (lt, fr, lr, u)))))))
      (λ fr. ((lt, fr), tt))

  -- ---- each step of the plan is there
  pub has_send : (k s r : ℕ) → r < o.ranks → o.sends k s r ≡ true → has (sends_of o k s) (Send k s r) ≡ true
  has_send k s r lt t = has_below (λ r. where_true (o.sends k s r) (Send k s r ∷ [])) o.ranks r (Send k s r) lt (has_where (o.sends k s r) (Send k s r ∷ []) (Send k s r) t (has_self (Send k s r)))

  pub has_receive : (k r s : ℕ) → s < o.ranks → o.sends k s r ≡ true → has (receives_of o k r) (Recv k r s) ≡ true
  has_receive k r s lt t = has_below (λ s. where_true (o.sends k s r) (Recv k r s ∷ [])) o.ranks s (Recv k r s) lt (has_where (o.sends k s r) (Recv k r s ∷ []) (Recv k r s) t (has_self (Recv k r s)))

  -- in the part of its run, colour, block and block colour
  in_part : (k r x : ℕ) (t : Step) → runs o k r x ≡ true → has (group_steps o g k r (o.block k r x) (o.colour k r x) (group_of o g k r x)) t ≡ true → has (element_steps o g k r) t ≡ true
  in_part k r x t run h =
      let lt : x < o.count k r = run_below k r x run in
      let lb : o.block k r x < blocks o k r = above_each (o.block k r) (o.count k r) x lt in
      has_below (λ h. below (λ b. where_true (o.block_colour k r b == h) (block_steps o g k r b)) (blocks o k r))
      (above (o.block_colour k r) (blocks o k r)) (o.block_colour k r (o.block k r x)) t
      (above_each (o.block_colour k r) (blocks o k r) (o.block k r x) lb)
      (has_below (λ b. where_true (o.block_colour k r b == o.block_colour k r (o.block k r x)) (block_steps o g k r b)) (blocks o k r) (o.block k r x) t lb
      (has_where (o.block_colour k r (o.block k r x) == o.block_colour k r (o.block k r x)) (block_steps o g k r (o.block k r x)) t
      (eq-eqb (o.block_colour k r (o.block k r x)) (o.block_colour k r (o.block k r x)) refl)
      (has_below (λ c. below (λ j. group_steps o g k r (o.block k r x) c j) (above (group_of o g k r) (o.count k r)))
      (above (o.colour k r) (o.count k r)) (o.colour k r x) t (above_each (o.colour k r) (o.count k r) x lt)
      (has_below (λ j. group_steps o g k r (o.block k r x) (o.colour k r x) j) (above (group_of o g k r) (o.count k r)) (group_of o g k r x) t (above_each (group_of o g k r) (o.count k r) x lt) h))))

  pub has_begin : (k r x : ℕ) → runs o k r x ≡ true → has (element_steps o g k r) (Begin k r x) ≡ true
  has_begin k r x run = in_part k r x (Begin k r x) run
      (has_left (below (λ y. where_true (in_group o g k r (o.block k r x) (o.colour k r x) (group_of o g k r x) y) (Begin k r y ∷ []))
      (o.count k r)) (below (λ y. where_true (in_group o g k r (o.block k r x) (o.colour k r x) (group_of o g k r x) y)
      (End k r y ∷ [])) (o.count k r)) (Begin k r x)
      (has_below (λ y. where_true (in_group o g k r (o.block k r x) (o.colour k r x) (group_of o g k r x) y) (Begin k r y ∷ [])) (o.count k r) x (Begin k r x) (run_below k r x run)
      (has_where (in_group o g k r (o.block k r x) (o.colour k r x) (group_of o g k r x) x) (Begin k r x ∷ []) (Begin k r x) (in_own k r x run) (has_self (Begin k r x)))))

  pub has_end : (k r x : ℕ) → runs o k r x ≡ true → has (element_steps o g k r) (End k r x) ≡ true
  has_end k r x run = in_part k r x (End k r x) run
      (has_right (below (λ y. where_true (in_group o g k r (o.block k r x) (o.colour k r x) (group_of o g k r x) y) (Begin k r y ∷ []))
      (o.count k r)) (below (λ y. where_true (in_group o g k r (o.block k r x) (o.colour k r x) (group_of o g k r x) y)
      (End k r y ∷ [])) (o.count k r)) (End k r x)
      (has_below (λ y. where_true (in_group o g k r (o.block k r x) (o.colour k r x) (group_of o g k r x) y) (End k r y ∷ [])) (o.count k r) x (End k r x) (run_below k r x run)
      (has_where (in_group o g k r (o.block k r x) (o.colour k r x) (group_of o g k r x) x) (End k r x ∷ []) (End k r x) (in_own k r x run) (has_self (End k r x)))))

  in_free : (k : ℕ) (t : Step) → k < o.items → o.is_free k ≡ true
      → has (below (sends_of o k) o.ranks ++ (below (receives_of o k) o.ranks ++ below (element_steps o g k) o.ranks)) t ≡ true
      → has (standard o g) t ≡ true
  in_free k t lt fr h = has_below (item_steps o g) o.items k t lt
      (subst (λ z. has z t ≡ true) (sym (cond-true (o.is_free k) (below (sends_of o k) o.ranks ++ (below (receives_of o k) o.ranks ++ below (element_steps o g k) o.ranks)) (Join k ∷ []) fr)) h)

  in_elements : (k r : ℕ) (t : Step) → r < o.ranks → has (element_steps o g k r) t ≡ true
      → has (below (sends_of o k) o.ranks ++ (below (receives_of o k) o.ranks ++ below (element_steps o g k) o.ranks)) t ≡ true
  in_elements k r t lr h = has_right (below (sends_of o k) o.ranks) (below (receives_of o k) o.ranks ++ below (element_steps o g k) o.ranks) t
      (has_right (below (receives_of o k) o.ranks) (below (element_steps o g k) o.ranks) t (has_below (element_steps o g k) o.ranks r t lr h))

  whole : (s : Step) → IsStep o s → has (standard o g) s ≡ true
  whole (Send k s r) h = in_free k (Send k s r) h.0 h.1 (has_left (below (sends_of o k) o.ranks) (below (receives_of o k) o.ranks ++ below (element_steps o g k) o.ranks) (Send k s r)
      (has_below (sends_of o k) o.ranks s (Send k s r) h.2 (has_send k s r h.3 h.4)))
  whole (Recv k r s) h = in_free k (Recv k r s) h.0 h.1 (has_right (below (sends_of o k) o.ranks) (below (receives_of o k) o.ranks ++ below (element_steps o g k) o.ranks) (Recv k r s)
      (has_left (below (receives_of o k) o.ranks) (below (element_steps o g k) o.ranks) (Recv k r s) (has_below (receives_of o k) o.ranks r (Recv k r s) h.3 (has_receive k r s h.2 h.4))))
  whole (Begin k r e) h = in_free k (Begin k r e) h.0 h.1 (in_elements k r (Begin k r e) h.2 (has_begin k r e h.3))
  whole (End k r e) h = in_free k (End k r e) h.0 h.1 (in_elements k r (End k r e) h.2 (has_end k r e h.3))
  whole (Join k) h = has_below (item_steps o g) o.items k (Join k) h.0
      (subst (λ z. has z (Join k) ≡ true)
      (sym (cond-false (o.is_free k) (below (sends_of o k) o.ranks ++
      (below (receives_of o k) o.ranks ++ below (element_steps o g k) o.ranks)) (Join k ∷ []) h.1)) (has_self (Join k)))

  pub accepted : Accepted o (standard o g)
  accepted = sorted_accepted o g (standard o g) standard_sorted (each_below (IsStep o) (item_steps o g) o.items each_item) whole
