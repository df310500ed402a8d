-- The standard order has as many steps as are counted item by item.
use Rattle.std.proofs.Common.{◌≡◌, ◌<◌, ◌+◌, ◌*◌, ℕ, zero, suc, Bool, true, false, cond, refl, sym, ap, ◌∙◌, arith, ⊎_elim, List, [], ◌∷◌, ◌++◌, length, length-append}
use Rattle.std.specs.Prelude.{◌&&◌, ◌==◌}
use Rattle.std.proofs.lemmas.Bool.{cases_eq, ne_eqb, eq-eqb}
use Rattle.schedule_steps.specs.Outline.{Outline, runs}
use Rattle.schedule_steps.specs.declared.step.Step.{Step}
use Rattle.schedule_steps.specs.declared.step.Step.TheVariants.{Send, Recv, Begin, End, Join}
use Rattle.schedule_steps.specs.Standard.{below, where_true, above, one_if, tally, sends_of, receives_of, is_member, group_of, in_group, group_steps, block_steps, blocks, element_steps, item_steps, standard}
use Rattle.loop_plan.specs.Counted.{sum_below, messages, element_runs, steps_of, counted_steps}
use Rattle.schedule_steps.proofs.Public.{above_each}

-- ---- sums
pub same_sum : (f g : ℕ → ℕ) (n : ℕ) → ((i : ℕ) → i < n → f i ≡ g i) → sum_below f n ≡ sum_below g n
same_sum f g zero h = refl
same_sum f g (suc n) h =
    let a : sum_below f n ≡ sum_below g n = same_sum f g n (λ i l. h i (omega arith)) in
    let b : f n ≡ g n = h n (omega arith) in
    omega arith

no_sum : (f : ℕ → ℕ) (n : ℕ) → ((i : ℕ) → i < n → f i ≡ 0) → sum_below f n ≡ 0
no_sum f zero h = refl
no_sum f (suc n) h =
    let a : sum_below f n ≡ 0 = no_sum f n (λ i l. h i (omega arith)) in
    let b : f n ≡ 0 = h n (omega arith) in
    omega arith

sum_plus : (f g : ℕ → ℕ) (n : ℕ) → sum_below (λ i. f i + g i) n ≡ sum_below f n + sum_below g n
sum_plus f g zero = refl
sum_plus f g (suc n) = let a : sum_below (λ i. f i + g i) n ≡ sum_below f n + sum_below g n = sum_plus f g n in omega arith

sum_swap : (f : ℕ → ℕ → ℕ) (n m : ℕ) → sum_below (λ i. sum_below (f i) m) n ≡ sum_below (λ j. sum_below (λ i. f i j) n) m
sum_swap f zero m = sym (no_sum (λ j. 0) m (λ j l. refl))
sum_swap f (suc n) m =
    ap (λ z. z + sum_below (f n) m) (sum_swap f n m) ∙ sym (sum_plus (λ j. sum_below (λ i. f i j) n) (f n) m)

tally_sum : (t : ℕ → Bool) (n : ℕ) → tally t n ≡ sum_below (λ i. one_if (t i)) n
tally_sum t zero = refl
tally_sum t (suc n) = ap (λ z. z + one_if (t n)) (tally_sum t n)

-- one number of those below n is a
one_number : (a n : ℕ) → a < n → sum_below (λ i. one_if (a == i)) n ≡ 1
one_number a zero l = absurd (omega arith)
one_number a (suc n) l = ⊎_elim
    (λ (e : a ≡ n).
    let h : sum_below (λ i. one_if (a == i)) n ≡ 0 = no_sum (λ i. one_if (a == i)) n (λ i m. ap one_if (ne_eqb a i (λ z. omega arith))) in
    let g : one_if (a == n) ≡ 1 = ap one_if (eq-eqb a n e) in
    omega arith)
    (λ (ne : a ≡ n → ⊥).
    let h : sum_below (λ i. one_if (a == i)) n ≡ 1 = one_number a n (omega arith) in
    let g : one_if (a == n) ≡ 0 = ap one_if (ne_eqb a n ne) in
    omega arith)
    (cases_eq a n)

-- what holds at one number is counted once
picked_once : (b : Bool) (a n : ℕ) → a < n → sum_below (λ i. one_if (b && (a == i))) n ≡ one_if b
picked_once true a n l = one_number a n l
picked_once false a n l = no_sum (λ i. 0) n (λ i m. refl)

and_assoc : (a b c : Bool) → (a && (b && c)) ≡ ((a && b) && c)
and_assoc true b c = refl
and_assoc false b c = refl

-- ---- lengths
length_below : (f : ℕ → List Step) (n : ℕ) → length (below f n) ≡ sum_below (λ i. length (f i)) n
length_below f zero = refl
length_below f (suc n) =
    let a : length (below f n) ≡ sum_below (λ i. length (f i)) n = length_below f n in
    length-append (below f n) (f n) ∙ ap (λ z. z + length (f n)) a

length_one : (b : Bool) (s : Step) → length (where_true b (s ∷ [])) ≡ one_if b
length_one true s = refl
length_one false s = refl

-- steps where a test holds
length_where : (t : ℕ → Bool) (s : ℕ → Step) (n : ℕ) → length (below (λ i. where_true (t i) (s i ∷ [])) n) ≡ tally t n
length_where t s n =
    length_below (λ i. where_true (t i) (s i ∷ [])) n
    ∙ (same_sum (λ i. length (where_true (t i) (s i ∷ []))) (λ i. one_if (t i)) n (λ i l. length_one (t i) (s i)) ∙ sym (tally_sum t n))

length_cond : (b : Bool) (l : List Step) → length (where_true b l) ≡ one_if b * length l
length_cond true l = omega arith
length_cond false l = omega arith

one_of : (a n m : ℕ) → a < n → sum_below (λ i. one_if (a == i) * m) n ≡ m
one_of a zero m l = absurd (omega arith)
one_of a (suc n) m l = ⊎_elim
    (λ (e : a ≡ n).
    let h : sum_below (λ i. one_if (a == i) * m) n ≡ 0 = no_sum (λ i. one_if (a == i) * m) n (λ i k. ap (λ z. one_if z * m) (ne_eqb a i (λ z. omega arith)) ∙ nothing) in
    let g : one_if (a == n) * m ≡ 1 * m = ap (λ z. one_if z * m) (eq-eqb a n e) in
    omega arith)
    (λ (ne : a ≡ n → ⊥).
    let h : sum_below (λ i. one_if (a == i) * m) n ≡ m = one_of a n m (omega arith) in
    let g : one_if (a == n) * m ≡ 0 * m = ap (λ z. one_if z * m) (ne_eqb a n ne) in
    omega arith)
    (cases_eq a n)
  where
    nothing : 0 * m ≡ 0
    nothing = omega arith

module _ (o : Outline) (g k r : ℕ) where
  abbrev n : ℕ
  n = o.count k r

  -- the element is in run j of colour c of block b: one or nothing
  abbrev mark : ℕ → ℕ → ℕ → ℕ → ℕ
  mark b c j x = one_if (in_group o g k r b c j x)

  group_length : (b c j : ℕ) → length (group_steps o g k r b c j) ≡ 2 * sum_below (mark b c j) n
  group_length b c j =
      let e : length (below (λ x. where_true (in_group o g k r b c j x) (Begin k r x ∷ [])) n) ≡ tally (in_group o g k r b c j) n = length_where (in_group o g k r b c j) (λ x. Begin k r x) n in
      let f : length (below (λ x. where_true (in_group o g k r b c j x) (End k r x ∷ [])) n) ≡ tally (in_group o g k r b c j) n = length_where (in_group o g k r b c j) (λ x. End k r x) n in
      let h : tally (in_group o g k r b c j) n ≡ sum_below (mark b c j) n = tally_sum (in_group o g k r b c j) n in
      let a : length (group_steps o g k r b c j) ≡ length (below (λ x. where_true (in_group o g k r b c j x) (Begin k r x ∷ [])) n) + length
      (below (λ x. where_true (in_group o g k r b c j x) (End k r x ∷ [])) n) =
      length-append (below (λ x. where_true (in_group o g k r b c j x) (Begin k r x ∷ [])) n) (below (λ x. where_true (in_group o g k r b c j x) (End k r x ∷ [])) n) in
      omega arith

  abbrev colours : ℕ
  colours = above (o.colour k r) n

  abbrev groups : ℕ
  groups = above (group_of o g k r) n

  doubled : (f : ℕ → ℕ) (m : ℕ) → sum_below (λ i. 2 * f i) m ≡ 2 * sum_below f m
  doubled f zero = refl
  doubled f (suc m) = let a : sum_below (λ i. 2 * f i) m ≡ 2 * sum_below f m = doubled f m in omega arith

  -- in a block, element by element
  block_length : (b : ℕ) → length (block_steps o g k r b) ≡ 2 * sum_below (λ x. sum_below (λ c. sum_below (λ j. mark b c j x) groups) colours) n
  block_length b =
      length_below (λ c. below (λ j. group_steps o g k r b c j) groups) colours
      ∙ (same_sum (λ c. length (below (λ j. group_steps o g k r b c j) groups)) (λ c. 2 * sum_below (λ x. sum_below (λ j. mark b c j x) groups) n) colours (λ c l. colour_length c)
      ∙ (doubled (λ c. sum_below (λ x. sum_below (λ j. mark b c j x) groups) n) colours
      ∙ ap (λ z. 2 * z) (sum_swap (λ c x. sum_below (λ j. mark b c j x) groups) colours n)))
    where
      colour_length : (c : ℕ) → length (below (λ j. group_steps o g k r b c j) groups) ≡ 2 * sum_below (λ x. sum_below (λ j. mark b c j x) groups) n
      colour_length c =
          length_below (λ j. group_steps o g k r b c j) groups
          ∙ (same_sum (λ j. length (group_steps o g k r b c j)) (λ j. 2 * sum_below (mark b c j) n) groups (λ j l. group_length b c j)
          ∙ (doubled (λ j. sum_below (mark b c j) n) groups
          ∙ ap (λ z. 2 * z) (sum_swap (mark b c) groups n)))

  -- an element is in one run of one colour of its block
  marked_once : (x : ℕ) → x < n → sum_below (λ b. sum_below (λ c. sum_below (λ j. mark b c j x) groups) colours) (blocks o k r) ≡ one_if (runs o k r x)
  marked_once x l =
      same_sum (λ b. sum_below (λ c. sum_below (λ j. mark b c j x) groups) colours) (λ b. one_if (runs o k r x && (o.block k r x == b))) (blocks o k r) (λ b m. in_block b)
      ∙ picked_once (runs o k r x) (o.block k r x) (blocks o k r) (above_each (o.block k r) n x l)
    where
      in_colour : (b c : ℕ) → sum_below (λ j. mark b c j x) groups ≡ one_if ((runs o k r x && (o.block k r x == b)) && (o.colour k r x == c))
      in_colour b c =
          picked_once (is_member o k r b c x) (group_of o g k r x) groups (above_each (group_of o g k r) n x l)
          ∙ ap one_if (and_assoc (runs o k r x) (o.block k r x == b) (o.colour k r x == c))

      in_block : (b : ℕ) → sum_below (λ c. sum_below (λ j. mark b c j x) groups) colours ≡ one_if (runs o k r x && (o.block k r x == b))
      in_block b =
          same_sum (λ c. sum_below (λ j. mark b c j x) groups) (λ c. one_if ((runs o k r x && (o.block k r x == b)) && (o.colour k r x == c))) colours (λ c m. in_colour b c)
          ∙ picked_once (runs o k r x && (o.block k r x == b)) (o.colour k r x) colours (above_each (o.colour k r) n x l)

  -- the blocks of one colour after another are all blocks
  all_blocks : length (element_steps o g k r) ≡ sum_below (λ b. length (block_steps o g k r b)) (blocks o k r)
  all_blocks =
      length_below (λ h. below (λ b. where_true (o.block_colour k r b == h) (block_steps o g k r b)) (blocks o k r)) (above (o.block_colour k r) (blocks o k r))
      ∙ (same_sum (λ h. length (below (λ b. where_true (o.block_colour k r b == h) (block_steps o g k r b)) (blocks o k r)))
      (λ h. sum_below (λ b. one_if (o.block_colour k r b == h) * length (block_steps o g k r b)) (blocks o k r))
      (above (o.block_colour k r) (blocks o k r)) (λ h l. of_colour h)
      ∙ (sum_swap (λ h b. one_if (o.block_colour k r b == h) * length (block_steps o g k r b)) (above (o.block_colour k r) (blocks o k r)) (blocks o k r)
      ∙ same_sum (λ b. sum_below (λ h. one_if (o.block_colour k r b == h) * length (block_steps o g k r b))
      (above (o.block_colour k r) (blocks o k r))) (λ b. length (block_steps o g k r b)) (blocks o k r)
      (λ b l. one_of (o.block_colour k r b) (above (o.block_colour k r) (blocks o k r)) (length (block_steps o g k r b)) (above_each (o.block_colour k r) (blocks o k r) b l))))
    where
      of_colour : (h : ℕ) → length (below (λ b. where_true (o.block_colour k r b == h) (block_steps o g k r b)) (blocks o k r)) ≡ sum_below
          (λ b. one_if (o.block_colour k r b == h) * length (block_steps o g k r b)) (blocks o k r)
      of_colour h =
          length_below (λ b. where_true (o.block_colour k r b == h) (block_steps o g k r b)) (blocks o k r)
          ∙ same_sum (λ b. length (where_true (o.block_colour k r b == h) (block_steps o g k r b)))
          (λ b. one_if (o.block_colour k r b == h) * length (block_steps o g k r b)) (blocks o k r)
          (λ b l. length_cond (o.block_colour k r b == h) (block_steps o g k r b))

  -- an element that the rank runs has two steps
  pub element_length : length (element_steps o g k r) ≡ 2 * tally (runs o k r) n
  element_length =
      all_blocks
      ∙ (same_sum (λ b. length (block_steps o g k r b)) (λ b. 2 * sum_below (λ x. sum_below (λ c. sum_below (λ j. mark b c j x) groups) colours) n) (blocks o k r) (λ b l. block_length b)
      ∙ (doubled (λ b. sum_below (λ x. sum_below (λ c. sum_below (λ j. mark b c j x) groups) colours) n) (blocks o k r)
      ∙ ap (λ z. 2 * z)
      (sum_swap (λ b x. sum_below (λ c. sum_below (λ j. mark b c j x) groups) colours) (blocks o k r) n
      ∙ (same_sum (λ x. sum_below (λ b. sum_below (λ c. sum_below (λ j. mark b c j x) groups) colours) (blocks o k r)) (λ x. one_if (runs o k r x)) n (λ x l. marked_once x l)
      ∙ sym (tally_sum (runs o k r) n)))))

module _ (o : Outline) (g : ℕ) where
  send_length : (k : ℕ) → length (below (sends_of o k) o.ranks) ≡ messages o k
  send_length k =
      length_below (sends_of o k) o.ranks
      ∙ same_sum (λ s. length (sends_of o k s)) (λ s. tally (o.sends k s) o.ranks) o.ranks (λ s l. length_where (o.sends k s) (λ r. Send k s r) o.ranks)

  receive_length : (k : ℕ) → length (below (receives_of o k) o.ranks) ≡ messages o k
  receive_length k =
      length_below (receives_of o k) o.ranks
      ∙ (same_sum (λ r. length (receives_of o k r)) (λ r. sum_below (λ s. one_if (o.sends k s r)) o.ranks) o.ranks
      (λ r l. length_where (λ s. o.sends k s r) (λ s. Recv k r s) o.ranks ∙ tally_sum (λ s. o.sends k s r) o.ranks)
      ∙ (sum_swap (λ r s. one_if (o.sends k s r)) o.ranks o.ranks
      ∙ same_sum (λ s. sum_below (λ r. one_if (o.sends k s r)) o.ranks) (λ s. tally (o.sends k s) o.ranks) o.ranks (λ s l. sym (tally_sum (o.sends k s) o.ranks))))

  run_length : (k : ℕ) → length (below (element_steps o g k) o.ranks) ≡ 2 * element_runs o k
  run_length k =
      length_below (element_steps o g k) o.ranks
      ∙ (same_sum (λ r. length (element_steps o g k r)) (λ r. 2 * tally (runs o k r) (o.count k r)) o.ranks (λ r l. element_length o g k r)
      ∙ doubled o g k 0 (λ r. tally (runs o k r) (o.count k r)) o.ranks)

  free_length : (k : ℕ) → length (below (sends_of o k) o.ranks ++ (below (receives_of o k) o.ranks ++ below (element_steps o g k) o.ranks)) ≡ 2 * messages o k + 2 * element_runs o k
  free_length k =
      let a : length (below (sends_of o k) o.ranks) ≡ messages o k = send_length k in
      let b : length (below (receives_of o k) o.ranks) ≡ messages o k = receive_length k in
      let c : length (below (element_steps o g k) o.ranks) ≡ 2 * element_runs o k = run_length k in
      let d : length (below (sends_of o k) o.ranks ++ (below (receives_of o k) o.ranks ++ below (element_steps o g k) o.ranks)) ≡ length
      (below (sends_of o k) o.ranks) + length (below (receives_of o k) o.ranks ++ below (element_steps o g k) o.ranks) =
      length-append (below (sends_of o k) o.ranks) (below (receives_of o k) o.ranks ++ below (element_steps o g k) o.ranks) in
      let e : length (below (receives_of o k) o.ranks ++ below (element_steps o g k) o.ranks) ≡ length (below (receives_of o k) o.ranks) + length (below (element_steps o g k) o.ranks) =
      length-append (below (receives_of o k) o.ranks) (below (element_steps o g k) o.ranks) in
      omega arith

  length_if : (b : Bool) (x y : List Step) → length (cond b x y) ≡ cond b (length x) (length y)
  length_if true x y = refl
  length_if false x y = refl

  item_length : (k : ℕ) → length (item_steps o g k) ≡ steps_of o k
  item_length k =
      length_if (o.is_free k) (below (sends_of o k) o.ranks ++ (below (receives_of o k) o.ranks ++ below (element_steps o g k) o.ranks)) (Join k ∷ [])
      ∙ ap (λ z. cond (o.is_free k) z 1) (free_length k)

  pub standard_length : length (standard o g) ≡ counted_steps o
  standard_length =
      length_below (item_steps o g) o.items ∙ same_sum (λ k. length (item_steps o g k)) (steps_of o) o.items (λ k l. item_length k)
