-- All that is left of an item, and its steps one after another.
use Rattle.std.proofs.Common.{◌≡◌, ℕ, zero, suc, ◌<◌, ◌+◌, refl, sym, ap, ◌∙◌, arith, Bool, true, false, cond, List, [], ◌∷◌, ◌++◌, append-nil, append_assoc, map}
use Rattle.std.proofs.lemmas.List.{map-append}
use Rattle.std.specs.Prelude.{◌==◌}
use Rattle.schedule_steps.specs.Outline.{Outline}
use Rattle.schedule_steps.specs.declared.step.Step.{Step}
use Rattle.schedule_steps.specs.declared.step.Step.TheVariants.{Send, Recv, Begin, End, Join}
use Rattle.schedule_steps.specs.Drawn.{numbers}
use Rattle.schedule_steps.specs.Standard.{below, where_true, above, group_of, in_group, group_steps, block_steps, blocks, element_steps, sends_of, receives_of, item_steps}
use Rattle.step_orders.specs.declared.walks.ItemPlace.{ItemPlace}
use Rattle.step_orders.specs.ElementRuns.{joined, unless_empty, run_of, block_runs, runs_of}
use Rattle.step_orders.specs.Left.{upward, onward, begins, ends, in_runs, runs_left, send_steps, receive_steps, run_steps, free_left, item_left}
use Rattle.step_orders.proofs.Places.{on_head, on_next, upward_all, all_runs}

upward_last : (f : ℕ → List Step) (i n j : ℕ) → j ≡ i + n → upward f i (suc n) ≡ upward f i n ++ f j
upward_last f i zero j e = append-nil (f i) ∙ (let h : i ≡ j = omega arith in ap f h)
upward_last f i (suc n) j e = ap (λ z. f i ++ z) (upward_last f (suc i) n j (omega arith)) ∙ sym (append_assoc (f i) (upward f (suc i) n) (f j))

pub upward_below : (f : ℕ → List Step) (n : ℕ) → upward f 0 n ≡ below f n
upward_below f zero = refl
upward_below f (suc n) = upward_last f 0 n n (omega arith) ∙ ap (λ z. z ++ f n) (upward_below f n)

below_same : (f h : ℕ → List Step) (n : ℕ) → ((i : ℕ) → f i ≡ h i) → below f n ≡ below h n
below_same f h zero e = refl
below_same f h (suc n) e = ap (λ z. z ++ f n) (below_same f h n e) ∙ ap (λ z. below h n ++ z) (e n)

pub map_numbers : (f : ℕ → Step) (t : ℕ → Bool) (n : ℕ) → map f (numbers t n) ≡ below (λ x. where_true (t x) (f x ∷ [])) n
map_numbers f t zero = refl
map_numbers f t (suc n) =
    map-append f (numbers t n) (cond (t n) (n ∷ []) [])
    ∙ (ap (λ z. z ++ map f (cond (t n) (n ∷ []) [])) (map_numbers f t n)
    ∙ ap (λ z. below (λ x. where_true (t x) (f x ∷ [])) n ++ z) (one (t n)))
  where
    one : (b : Bool) → map f (cond b (n ∷ []) []) ≡ where_true b (f n ∷ [])
    one true = refl
    one false = refl

module _ (k r : ℕ) where
  runs_append : (xs ys : List (List ℕ)) → in_runs k r (xs ++ ys) ≡ in_runs k r xs ++ in_runs k r ys
  runs_append [] ys = refl
  runs_append (x ∷ xs) ys =
      ap (λ z. (begins k r x ++ ends k r x) ++ z) (runs_append xs ys)
      ∙ sym (append_assoc (begins k r x ++ ends k r x) (in_runs k r xs) (in_runs k r ys))

  runs_joined : (f : ℕ → List (List ℕ)) (n : ℕ) → in_runs k r (joined f n) ≡ below (λ i. in_runs k r (f i)) n
  runs_joined f zero = refl
  runs_joined f (suc n) = runs_append (joined f n) (f n) ∙ ap (λ z. z ++ in_runs k r (f n)) (runs_joined f n)

  runs_where : (b : Bool) (xs : List (List ℕ)) → in_runs k r (cond b xs []) ≡ where_true b (in_runs k r xs)
  runs_where true xs = refl
  runs_where false xs = refl

  one_run : (xs : List ℕ) → in_runs k r (unless_empty xs) ≡ begins k r xs ++ ends k r xs
  one_run [] = refl
  one_run (x ∷ xs) = append-nil (begins k r (x ∷ xs) ++ ends k r (x ∷ xs))

module _ (o : Outline) (g k r : ℕ) where
  run_is : (b c j : ℕ) → in_runs k r (run_of o g k r b c j) ≡ group_steps o g k r b c j
  run_is b c j =
      one_run k r (numbers (in_group o g k r b c j) (o.count k r))
      ∙ (ap (λ z. z ++ ends k r (numbers (in_group o g k r b c j) (o.count k r))) (map_numbers (Begin k r) (in_group o g k r b c j) (o.count k r))
      ∙ ap (λ z. below (λ x. where_true (in_group o g k r b c j x) (Begin k r x ∷ [])) (o.count k r) ++ z) (map_numbers (End k r) (in_group o g k r b c j) (o.count k r)))

  colour_is : (b c n : ℕ) → in_runs k r (joined (run_of o g k r b c) n) ≡ below (λ j. group_steps o g k r b c j) n
  colour_is b c n =
      runs_joined k r (run_of o g k r b c) n
      ∙ below_same (λ j. in_runs k r (run_of o g k r b c j)) (λ j. group_steps o g k r b c j) n (run_is b c)

  block_is : (b : ℕ) → in_runs k r (block_runs o g k r b) ≡ block_steps o g k r b
  block_is b =
      runs_joined k r (λ c. joined (run_of o g k r b c) (above (group_of o g k r) (o.count k r))) (above (o.colour k r) (o.count k r))
      ∙ below_same
      (λ c. in_runs k r (joined (run_of o g k r b c) (above (group_of o g k r) (o.count k r))))
      (λ c. below (λ j. group_steps o g k r b c j) (above (group_of o g k r) (o.count k r)))
      (above (o.colour k r) (o.count k r))
      (λ c. colour_is b c (above (group_of o g k r) (o.count k r)))

  among_is : (h b : ℕ) → in_runs k r (cond (o.block_colour k r b == h) (block_runs o g k r b) []) ≡ where_true (o.block_colour k r b == h) (block_steps o g k r b)
  among_is h b = runs_where k r (o.block_colour k r b == h) (block_runs o g k r b) ∙ ap (where_true (o.block_colour k r b == h)) (block_is b)

  -- the runs are those of the standard order
  pub elements_are : in_runs k r (runs_of o g k r) ≡ element_steps o g k r
  elements_are =
      runs_joined k r (λ h. joined (λ b. cond (o.block_colour k r b == h) (block_runs o g k r b) []) (blocks o k r)) (above (o.block_colour k r) (blocks o k r))
      ∙ below_same
      (λ h. in_runs k r (joined (λ b. cond (o.block_colour k r b == h) (block_runs o g k r b) []) (blocks o k r)))
      (λ h. below (λ b. where_true (o.block_colour k r b == h) (block_steps o g k r b)) (blocks o k r))
      (above (o.block_colour k r) (blocks o k r))
      (λ h. runs_joined k r (λ b. cond (o.block_colour k r b == h) (block_runs o g k r b) []) (blocks o k r)
      ∙ below_same (λ b. in_runs k r (cond (o.block_colour k r b == h) (block_runs o g k r b) [])) (λ b. where_true (o.block_colour k r b == h) (block_steps o g k r b)) (blocks o k r) (among_is h))

-- the first place in an item
abbrev pub at_first : ItemPlace
at_first = record {
  sends = record { rank = 0; at = 0 };
  receives = record { rank = 0; at = 0 };
  elements = record { rank = 0; runs = record { run = 0; at = 0; ending = false } };
}

module _ (o : Outline) (g k : ℕ) where
  sends_are : upward (send_steps o g k) 0 o.ranks ≡ below (sends_of o k) o.ranks
  sends_are = upward_below (send_steps o g k) o.ranks ∙ below_same (send_steps o g k) (sends_of o k) o.ranks (λ s. map_numbers (Send k s) (o.sends k s) o.ranks)

  receives_are : upward (receive_steps o g k) 0 o.ranks ≡ below (receives_of o k) o.ranks
  receives_are =
      upward_below (receive_steps o g k) o.ranks
      ∙ below_same (receive_steps o g k) (receives_of o k) o.ranks (λ r. map_numbers (Recv k r) (λ s. o.sends k s r) o.ranks)

  all_elements_are : upward (run_steps o g k) 0 o.ranks ≡ below (element_steps o g k) o.ranks
  all_elements_are = upward_below (run_steps o g k) o.ranks ∙ below_same (run_steps o g k) (element_steps o g k) o.ranks (elements_are o g k)

  free_all : free_left o g k at_first ≡ below (sends_of o k) o.ranks ++ (below (receives_of o k) o.ranks ++ below (element_steps o g k) o.ranks)
  free_all =
      ap (λ z. z ++ (onward (receive_steps o g k 0) (receive_steps o g k) 0 o.ranks ++ elements)) (upward_all (send_steps o g k) o.ranks ∙ sends_are)
      ∙ (ap (λ z. below (sends_of o k) o.ranks ++ (z ++ elements)) (upward_all (receive_steps o g k) o.ranks ∙ receives_are)
      ∙ ap (λ z. below (sends_of o k) o.ranks ++ (below (receives_of o k) o.ranks ++ z))
      (ap (λ z. onward z (run_steps o g k) 0 o.ranks) (all_runs k 0 (runs_of o g k 0)) ∙ (upward_all (run_steps o g k) o.ranks ∙ all_elements_are)))
    where
      elements : List Step
      elements = onward (runs_left k 0 (runs_of o g k 0) (record { run = 0; at = 0; ending = false })) (run_steps o g k) 0 o.ranks

  -- from the first place all steps are left
  pub all_left : (p : ItemPlace) → p ≡ at_first → item_left o g k p ≡ item_steps o g k
  all_left p e = ap (item_left o g k) e ∙ ap (λ z. cond (o.is_free k) z (Join k ∷ [])) free_all

-- the join of an item, and its next item
pub join_head : (o : Outline) (g k : ℕ) (p q : ItemPlace) → k < o.items → o.is_free k ≡ false → q ≡ at_first
    → onward (item_left o g k p) (item_steps o g) k o.items ≡ Join k ∷ onward (item_left o g (k + 1) q) (item_steps o g) (k + 1) o.items
join_head o g k p q lt e first =
    on_head (item_left o g k p) [] (item_steps o g) k o.items (Join k) lt (ap (λ b. cond b (free_left o g k p) (Join k ∷ [])) e)
    ∙ ap (λ z. Join k ∷ z) (on_next [] (item_steps o g) k o.items lt refl
    ∙ ap (λ z. onward z (item_steps o g) (k + 1) o.items) (sym (all_left o g (k + 1) q first)))

-- a Free item is over
pub item_over : (o : Outline) (g k : ℕ) (p q : ItemPlace) → k < o.items → o.is_free k ≡ true → free_left o g k p ≡ [] → q ≡ at_first
    → onward (item_left o g k p) (item_steps o g) k o.items ≡ onward (item_left o g (k + 1) q) (item_steps o g) (k + 1) o.items
item_over o g k p q lt e none first =
    on_next (item_left o g k p) (item_steps o g) k o.items lt (ap (λ b. cond b (free_left o g k p) (Join k ∷ [])) e ∙ none)
    ∙ ap (λ z. onward z (item_steps o g) (k + 1) o.items) (sym (all_left o g (k + 1) q first))
