-- How much the standard order has open and under way at once.
use Rattle.std.proofs.Common.{◌≡◌, ◌<◌, ◌≤◌, ◌+◌, ◌-◌, ◌*◌, ℕ, zero, suc, Bool, true, false, cond, refl, sym, ap, subst, ◌∙◌, arith, ⊎_elim, List, [], ◌∷◌, ◌++◌, length, take, drop}
use Rattle.std.specs.Prelude.{◌==◌, min, sum_by}
use Rattle.std.proofs.lemmas.Bool.{cases_lt}
use Rattle.std.proofs.lemmas.List.{length-take, length-append}
use Rattle.std.proofs.lemmas.List.Sums.{sum_by-append, sum_by-cons}
use Rattle.schedule_steps.specs.Outline.{Outline}
use Rattle.schedule_steps.specs.declared.step.Step.{Step}
use Rattle.schedule_steps.specs.declared.step.Step.TheVariants.{Send, Recv, Begin, End, Join}
use Rattle.schedule_steps.specs.Drawn.{numbers}
use Rattle.schedule_steps.specs.Standard.{below, where_true, above, one_if, tally, sends_of, receives_of, is_member, group_of, in_group, blocks, group_steps, block_steps, element_steps, item_steps, standard}
use Rattle.schedule_steps.specs.Peaks.{open_step, mail_step, count_after, greatest}
use Rattle.loop_plan.specs.Counted.{sum_below}
use Rattle.rank_exec.specs.Room.{cells_sent, item_cells}
use Rattle.rank_exec.proofs.Driving.{count_append}

-- ---- counts along lists

-- from n the count goes to n' and never above m
record Goes (f : Step → ℕ → ℕ) (m n : ℕ) (l : List Step) (after : ℕ) : Type 0 where
  end : count_after f n l ≡ after
  most : greatest f n l ≤ m

module _ (f : Step → ℕ → ℕ) (m : ℕ) where
  greatest_append : (n : ℕ) (a b : List Step) → greatest f n a ≤ m → greatest f (count_after f n a) b ≤ m → greatest f n (a ++ b) ≤ m
  greatest_append n [] b h i = i
  greatest_append n (s ∷ a) b h i =
      let rest : greatest f (f s n) (a ++ b) ≤ m = greatest_append (f s n) a b (omega arith) i in
      omega arith

  goes_on : (n u w : ℕ) (a b : List Step) → Goes f m n a u → Goes f m u b w → Goes f m n (a ++ b) w
  goes_on n u w a b g h = record {
    end = count_append f n a b ∙ (ap (λ z. count_after f z b) g.end ∙ h.end);
    most = greatest_append n a b g.most (subst (λ z. greatest f z b ≤ m) (sym g.end) h.most);
  }

  nothing : (n : ℕ) → n ≤ m → Goes f m n [] n
  nothing n le = record { end = refl; most = le }

  one_step : (s : Step) (n : ℕ) → n ≤ m → f s n ≤ m → Goes f m n (s ∷ []) (f s n)
  one_step s n le step = record { end = refl; most = omega arith }

  below_goes : (F : ℕ → List Step) (c : ℕ → ℕ) (n : ℕ) → c 0 ≤ m → ((i : ℕ) → i < n → Goes f m (c i) (F i) (c (suc i))) → Goes f m (c 0)
      (below F n) (c n)
  below_goes F c zero le h = nothing (c 0) le
  below_goes F c (suc n) le h =
      goes_on (c 0) (c n) (c (suc n)) (below F n) (F n)
      (below_goes F c n le (λ i lt. h i (omega arith))) (h n (omega arith))

  -- where each part leaves the count as it was
  still_below : (F : ℕ → List Step) (n count : ℕ) → n ≤ m → ((i : ℕ) → i < count → Goes f m n (F i) n) → Goes f m n (below F count) n
  still_below F n count le h = below_goes F (λ i. n) count le h

  cond_goes : (b : Bool) (n : ℕ) (l : List Step) → n ≤ m → Goes f m n l n → Goes f m n (cond b l []) n
  cond_goes true n l le h = h
  cond_goes false n l le h = nothing n le

-- ---- sums

sum_same : (f g : ℕ → ℕ) (n : ℕ) → ((i : ℕ) → f i ≡ g i) → sum_below f n ≡ sum_below g n
sum_same f g zero h = refl
sum_same f g (suc n) h =
    let rest : sum_below f n ≡ sum_below g n = sum_same f g n h in
    let last : f n ≡ g n = h n in
    omega arith

sum_zero : (n : ℕ) → sum_below (λ i. 0) n ≡ 0
sum_zero zero = refl
sum_zero (suc n) = let rest : sum_below (λ i. 0) n ≡ 0 = sum_zero n in omega arith

sum_add : (f g : ℕ → ℕ) (n : ℕ) → sum_below (λ i. f i + g i) n ≡ sum_below f n + sum_below g n
sum_add f g zero = refl
sum_add f g (suc n) = let rest : sum_below (λ i. f i + g i) n ≡ sum_below f n + sum_below g n = sum_add f g n in omega arith

-- the sum of all rows is that of all columns
by_columns : (v : ℕ → ℕ → ℕ) (n m : ℕ) → sum_below (λ s. sum_below (v s) n) m ≡ sum_below (λ r. sum_below (λ s. v s r) m) n
by_columns v n zero = sym (sum_zero n)
by_columns v n (suc m) =
    ap (λ z. z + sum_below (v m) n) (by_columns v n m)
    ∙ sym (sum_add (λ r. sum_below (λ s. v s r) m) (v m) n)

one_more : (f : ℕ → ℕ) (b : Bool) (n : ℕ) → sum_by f (cond b (n ∷ []) []) ≡ cond b (f n) 0
one_more f true n = sum_by-cons f n [] ∙ (let e : f n + 0 ≡ f n = omega arith in e)
one_more f false n = refl

next_number : (f : ℕ → ℕ) (t : ℕ → Bool) (n : ℕ) → sum_by f (numbers t (suc n)) ≡ sum_by f (numbers t n) + cond (t n) (f n) 0
next_number f t n = sum_by-append f (numbers t n) (cond (t n) (n ∷ []) []) ∙ ap (λ z. sum_by f (numbers t n) + z) (one_more f (t n) n)

sum_numbers : (f : ℕ → ℕ) (t : ℕ → Bool) (n : ℕ) → sum_by f (numbers t n) ≡ sum_below (λ i. cond (t i) (f i) 0) n
sum_numbers f t zero = refl
sum_numbers f t (suc n) = next_number f t n ∙ ap (λ z. z + cond (t n) (f n) 0) (sum_numbers f t n)

-- ---- tallies

tally_up : (t : ℕ → Bool) (i n : ℕ) → i ≤ n → tally t i ≤ tally t n
tally_up t i zero le = let e : i ≡ 0 = omega arith in subst (λ z. tally t z ≤ 0) (sym e) (omega arith)
tally_up t i (suc n) le = ⊎_elim
    (λ (lt : n < i). let e : i ≡ suc n = omega arith in subst (λ z. tally t z ≤ tally t (suc n)) (sym e) (omega arith))
    (λ (ge : i ≤ n). let rest : tally t i ≤ tally t n = tally_up t i n ge in omega arith)
    (cases_lt n i)

one_at_most : (b : Bool) → one_if b ≤ 1
one_at_most true = omega arith
one_at_most false = omega arith

tally_few : (t : ℕ → Bool) (n : ℕ) → tally t n ≤ n
tally_few t zero = omega arith
tally_few t (suc n) = let rest : tally t n ≤ n = tally_few t n in let one : one_if (t n) ≤ 1 = one_at_most (t n) in omega arith

length_numbers : (t : ℕ → Bool) (n : ℕ) → length (numbers t n) ≡ tally t n
length_numbers t zero = refl
length_numbers t (suc n) =
    length-append (numbers t n) (cond (t n) (n ∷ []) [])
    ∙ (ap (λ z. z + length (cond (t n) (n ∷ []) [])) (length_numbers t n) ∙ ap (λ z. tally t n + z) (one (t n)))
  where
    one : (b : Bool) → length (cond b (n ∷ []) []) ≡ one_if b
    one true = refl
    one false = refl

-- a run in the standard order has some of the elements of its block and colour, as many as are begun together at most
abbrev pub RunsAreWindows : Type 0
RunsAreWindows =
    (o : Outline) (g k r b c j n : ℕ) → 0 < g
    → numbers (in_group o g k r b c j) n ≡ take g (drop (j * g) (numbers (is_member o k r b c) n))

run_tally : RunsAreWindows → (o : Outline) (g k r b c j n : ℕ) → 0 < g → tally (in_group o g k r b c j) n ≤ min g n
run_tally windows o g k r b c j n pos =
    let few : tally (in_group o g k r b c j) n ≤ n = tally_few (in_group o g k r b c j) n in
    let e : tally (in_group o g k r b c j) n ≡ length (take g (drop (j * g) (numbers (is_member o k r b c) n))) =
    sym (length_numbers (in_group o g k r b c j) n) ∙ ap length (windows o g k r b c j n pos) in
    let l : length (take g (drop (j * g) (numbers (is_member o k r b c) n))) ≡ min g
    (length (drop (j * g) (numbers (is_member o k r b c) n))) =
    length-take g (drop (j * g) (numbers (is_member o k r b c) n)) in
    omega arith

-- ---- open elements

module _ (m k r : ℕ) where
  begin_one : (b : Bool) (x n : ℕ) → n + one_if b ≤ m → Goes open_step m n (where_true b (Begin k r x ∷ [])) (n + one_if b)
  begin_one true x n le = record { end = omega arith; most = omega arith }
  begin_one false x n le = record { end = omega arith; most = omega arith }

  end_one : (b : Bool) (x n : ℕ) → n ≤ m → Goes open_step m n (where_true b (End k r x ∷ [])) (n - one_if b)
  end_one true x n le = record { end = refl; most = omega arith }
  end_one false x n le = record { end = omega arith; most = omega arith }

  begins_go : (t : ℕ → Bool) (n : ℕ) → tally t n ≤ m → Goes open_step m 0 (below (λ x. where_true (t x) (Begin k r x ∷ [])) n) (tally t n)
  begins_go t n le = below_goes open_step m (λ x. where_true (t x) (Begin k r x ∷ [])) (tally t) n (omega arith)
      (λ i lt. let up : tally t (suc i) ≤ tally t n = tally_up t (suc i) n (omega arith) in begin_one (t i) i (tally t i) (omega arith))

  ends_go : (t : ℕ → Bool) (n : ℕ) → tally t n ≤ m → Goes open_step m (tally t n) (below (λ x. where_true (t x) (End k r x ∷ [])) n) 0
  ends_go t n le =
      let last : tally t n - tally t n ≡ 0 = omega arith in
      let start : tally t n - 0 ≡ tally t n = omega arith in
      subst (λ z. Goes open_step m (tally t n) (below (λ x. where_true (t x) (End k r x ∷ [])) n) z) last
      (subst (λ z. Goes open_step m z (below (λ x. where_true (t x) (End k r x ∷ [])) n) (tally t n - tally t n)) start
      (below_goes open_step m (λ x. where_true (t x) (End k r x ∷ [])) (λ i. tally t n - tally t i) n (omega arith)
      (λ i lt.
      let less : tally t n - tally t i - one_if (t i) ≡ tally t n - tally t (suc i) = omega arith in
      subst (λ z. Goes open_step m (tally t n - tally t i) (where_true (t i) (End k r i ∷ [])) z) less
      (end_one (t i) i (tally t n - tally t i) (omega arith)))))

  run_goes : (t : ℕ → Bool) (n : ℕ) → tally t n ≤ m
      → Goes open_step m 0 (below (λ x. where_true (t x) (Begin k r x ∷ [])) n ++ below (λ x. where_true (t x) (End k r x ∷ [])) n) 0
  run_goes t n le = goes_on open_step m 0 (tally t n) 0 (below (λ x. where_true (t x) (Begin k r x ∷ [])) n)
      (below (λ x. where_true (t x) (End k r x ∷ [])) n)
      (begins_go t n le) (ends_go t n le)

module _ (windows : RunsAreWindows) (o : Outline) (g m : ℕ) (pos : 0 < g) where
  group_goes : (k r b c j : ℕ) → min g (o.count k r) ≤ m → Goes open_step m 0 (group_steps o g k r b c j) 0
  group_goes k r b c j le =
      let few : tally (in_group o g k r b c j) (o.count k r) ≤ min g (o.count k r) = run_tally windows o g k r b c j (o.count k r) pos in
      run_goes m k r (in_group o g k r b c j) (o.count k r) (omega arith)

  colour_goes : (k r b : ℕ) → min g (o.count k r) ≤ m → Goes open_step m 0 (block_steps o g k r b) 0
  colour_goes k r b le =
      still_below open_step m (λ c. below (λ j. group_steps o g k r b c j) (above (group_of o g k r) (o.count k r))) 0
      (above (o.colour k r) (o.count k r)) (omega arith) (λ c lc.
      still_below open_step m (λ j. group_steps o g k r b c j) 0 (above (group_of o g k r) (o.count k r)) (omega arith)
      (λ j lj. group_goes k r b c j le))

  elements_go : (k r : ℕ) → min g (o.count k r) ≤ m → Goes open_step m 0 (element_steps o g k r) 0
  elements_go k r le =
      still_below open_step m (λ h. below (λ b. where_true (o.block_colour k r b == h) (block_steps o g k r b)) (blocks o k r)) 0
      (above (o.block_colour k r) (blocks o k r)) (omega arith) (λ h lh.
      still_below open_step m (λ b. where_true (o.block_colour k r b == h) (block_steps o g k r b)) 0 (blocks o k r) (omega arith) (λ b lb.
      cond_goes open_step m (o.block_colour k r b == h) 0 (block_steps o g k r b) (omega arith) (colour_goes k r b le)))

  sends_open : (k s : ℕ) → Goes open_step m 0 (sends_of o k s) 0
  sends_open k s = still_below open_step m (λ r. where_true (o.sends k s r) (Send k s r ∷ [])) 0 o.ranks (omega arith)
      (λ r lr. cond_goes open_step m (o.sends k s r) 0 (Send k s r ∷ []) (omega arith)
      (one_step open_step m (Send k s r) 0 (omega arith) (omega arith)))

  receives_open : (k r : ℕ) → Goes open_step m 0 (receives_of o k r) 0
  receives_open k r = still_below open_step m (λ s. where_true (o.sends k s r) (Recv k r s ∷ [])) 0 o.ranks (omega arith)
      (λ s ls. cond_goes open_step m (o.sends k s r) 0 (Recv k r s ∷ []) (omega arith)
      (one_step open_step m (Recv k r s) 0 (omega arith) (omega arith)))

  item_opens : (k : ℕ) → (o.is_free k ≡ true → (r : ℕ) → r < o.ranks → min g (o.count k r) ≤ m) → Goes open_step m 0 (item_steps o g k) 0
  item_opens k le = by (o.is_free k) refl
    where
      by : (b : Bool) → o.is_free k ≡ b → Goes open_step m 0
          (cond b (below (sends_of o k) o.ranks ++ (below (receives_of o k) o.ranks ++ below (element_steps o g k) o.ranks)) (Join k ∷ []))
          0
      by true e =
          goes_on open_step m 0 0 0 (below (sends_of o k) o.ranks) (below (receives_of o k) o.ranks ++ below (element_steps o g k) o.ranks)
          (still_below open_step m (sends_of o k) 0 o.ranks (omega arith) (λ s ls. sends_open k s))
          (goes_on open_step m 0 0 0 (below (receives_of o k) o.ranks) (below (element_steps o g k) o.ranks)
          (still_below open_step m (receives_of o k) 0 o.ranks (omega arith) (λ r lr. receives_open k r))
          (still_below open_step m (element_steps o g k) 0 o.ranks (omega arith) (λ r lr. elements_go k r (le e r lr))))
      by false e = one_step open_step m (Join k) 0 (omega arith) (omega arith)

  pub few_open : ((k r : ℕ) → k < o.items → o.is_free k ≡ true → r < o.ranks → min g (o.count k r) ≤ m) → greatest open_step 0
      (standard o g) ≤ m
  few_open le =
      let goes : Goes open_step m 0 (standard o g) 0 =
      still_below open_step m (item_steps o g) 0 o.items (omega arith) (λ k lk. item_opens k (λ e r lr. le k r lk e lr)) in
      goes.most

-- ---- cells under way

module _ (o : Outline) (cells : ℕ → ℕ → ℕ → ℕ) (m k : ℕ) where
  -- the cells that rank r receives
  abbrev received : ℕ → ℕ
  received r = sum_by (λ s. cells k s r) (numbers (λ s. o.sends k s r) o.ranks)

  all_received : item_cells o cells k ≡ sum_below received o.ranks
  all_received =
      sum_same (cells_sent o cells k) (λ s. sum_below (λ r. cond (o.sends k s r) (cells k s r) 0) o.ranks) o.ranks
      (λ s. sum_numbers (cells k s) (o.sends k s) o.ranks)
      ∙ (by_columns (λ s r. cond (o.sends k s r) (cells k s r) 0) o.ranks o.ranks
      ∙ sym (sum_same received (λ r. sum_below (λ s. cond (o.sends k s r) (cells k s r) 0) o.ranks) o.ranks
      (λ r. sum_numbers (λ s. cells k s r) (λ s. o.sends k s r) o.ranks)))

  send_one : (b : Bool) (s r n : ℕ) → n + cond b (cells k s r) 0 ≤ m
      → Goes (mail_step cells) m n (where_true b (Send k s r ∷ [])) (n + cond b (cells k s r) 0)
  send_one true s r n le = record { end = refl; most = omega arith }
  send_one false s r n le = record { end = omega arith; most = omega arith }

  receive_one : (b : Bool) (s r n : ℕ) → n ≤ m
      → Goes (mail_step cells) m n (where_true b (Recv k r s ∷ [])) (n - cond b (cells k s r) 0)
  receive_one true s r n le = record { end = refl; most = omega arith }
  receive_one false s r n le = record { end = omega arith; most = omega arith }

  sum_up : (f : ℕ → ℕ) (t : ℕ → Bool) (i n : ℕ) → i ≤ n → sum_by f (numbers t i) ≤ sum_by f (numbers t n)
  sum_up f t i zero le = let e : i ≡ 0 = omega arith in subst (λ z. sum_by f (numbers t z) ≤ 0) (sym e) (omega arith)
  sum_up f t i (suc n) le = ⊎_elim
      (λ (lt : n < i). let e : i ≡ suc n = omega arith in subst (λ z. sum_by f (numbers t z) ≤ sum_by f (numbers t (suc n))) (sym e)
      (omega arith))
      (λ (ge : i ≤ n).
      let rest : sum_by f (numbers t i) ≤ sum_by f (numbers t n) = sum_up f t i n ge in
      let more : sum_by f (numbers t (suc n)) ≡ sum_by f (numbers t n) + cond (t n) (f n) 0 = next_number f t n in
      omega arith)
      (cases_lt n i)

  below_up : (f : ℕ → ℕ) (i n : ℕ) → i ≤ n → sum_below f i ≤ sum_below f n
  below_up f i zero le = let e : i ≡ 0 = omega arith in subst (λ z. sum_below f z ≤ 0) (sym e) (omega arith)
  below_up f i (suc n) le = ⊎_elim
      (λ (lt : n < i). let e : i ≡ suc n = omega arith in subst (λ z. sum_below f z ≤ sum_below f (suc n)) (sym e) (omega arith))
      (λ (ge : i ≤ n). let rest : sum_below f i ≤ sum_below f n = below_up f i n ge in omega arith)
      (cases_lt n i)

  sends_go : (s n : ℕ) → n + cells_sent o cells k s ≤ m → Goes (mail_step cells) m n (sends_of o k s) (n + cells_sent o cells k s)
  sends_go s n le =
      let start : n + 0 ≡ n = omega arith in
      subst (λ z. Goes (mail_step cells) m z (sends_of o k s) (n + cells_sent o cells k s)) start
      (below_goes (mail_step cells) m (λ r. where_true (o.sends k s r) (Send k s r ∷ []))
      (λ i. n + sum_by (cells k s) (numbers (o.sends k s) i)) o.ranks
      (omega arith) (λ i lt.
      let more : sum_by (cells k s) (numbers (o.sends k s) (suc i)) ≡ sum_by (cells k s) (numbers (o.sends k s) i) + cond (o.sends k s i)
      (cells k s i) 0 =
      next_number (cells k s) (o.sends k s) i in
      let up : sum_by (cells k s) (numbers (o.sends k s) (suc i)) ≤ sum_by (cells k s) (numbers (o.sends k s) o.ranks) =
      sum_up (cells k s) (o.sends k s) (suc i) o.ranks (omega arith) in
      let e : n + sum_by (cells k s) (numbers (o.sends k s) i) + cond (o.sends k s i) (cells k s i) 0 ≡ n + sum_by (cells k s)
      (numbers (o.sends k s) (suc i)) =
      omega arith in
      subst (λ z. Goes (mail_step cells) m (n + sum_by (cells k s) (numbers (o.sends k s) i)) (where_true (o.sends k s i) (Send k s i ∷ []))
      z) e
      (send_one (o.sends k s i) s i (n + sum_by (cells k s) (numbers (o.sends k s) i)) (omega arith))))

  all_sends_go : item_cells o cells k ≤ m → Goes (mail_step cells) m 0 (below (sends_of o k) o.ranks) (item_cells o cells k)
  all_sends_go le = below_goes (mail_step cells) m (sends_of o k) (sum_below (cells_sent o cells k)) o.ranks (omega arith) (λ i lt.
      let up : sum_below (cells_sent o cells k) (suc i) ≤ item_cells o cells k = below_up (cells_sent o cells k) (suc i) o.ranks
      (omega arith) in
      sends_go i (sum_below (cells_sent o cells k) i) (omega arith))

  receives_go : (r n : ℕ) → n ≤ m → Goes (mail_step cells) m n (receives_of o k r) (n - received r)
  receives_go r n le =
      let start : n - 0 ≡ n = omega arith in
      subst (λ z. Goes (mail_step cells) m z (receives_of o k r) (n - received r)) start
      (below_goes (mail_step cells) m (λ s. where_true (o.sends k s r) (Recv k r s ∷ []))
      (λ i. n - sum_by (λ s. cells k s r) (numbers (λ s. o.sends k s r) i)) o.ranks (omega arith) (λ i lt.
      let more : sum_by (λ s. cells k s r) (numbers (λ s. o.sends k s r) (suc i)) ≡ sum_by (λ s. cells k s r)
      (numbers (λ s. o.sends k s r) i) + cond (o.sends k i r) (cells k i r) 0 =
      next_number (λ s. cells k s r) (λ s. o.sends k s r) i in
      let e : n - sum_by (λ s. cells k s r) (numbers (λ s. o.sends k s r) i) - cond (o.sends k i r) (cells k i r) 0 ≡ n - sum_by
      (λ s. cells k s r) (numbers (λ s. o.sends k s r) (suc i)) =
      omega arith in
      subst (λ z. Goes (mail_step cells) m (n - sum_by (λ s. cells k s r) (numbers (λ s. o.sends k s r) i))
      (where_true (o.sends k i r) (Recv k r i ∷ [])) z) e
      (receive_one (o.sends k i r) i r (n - sum_by (λ s. cells k s r) (numbers (λ s. o.sends k s r) i)) (omega arith))))

  all_receives_go : item_cells o cells k ≤ m → Goes (mail_step cells) m (item_cells o cells k) (below (receives_of o k) o.ranks) 0
  all_receives_go le =
      let sum : item_cells o cells k ≡ sum_below received o.ranks = all_received in
      let start : item_cells o cells k - 0 ≡ item_cells o cells k = omega arith in
      let last : item_cells o cells k - sum_below received o.ranks ≡ 0 = omega arith in
      subst (λ z. Goes (mail_step cells) m (item_cells o cells k) (below (receives_of o k) o.ranks) z) last
      (subst (λ z. Goes (mail_step cells) m z (below (receives_of o k) o.ranks) (item_cells o cells k - sum_below received o.ranks)) start
      (below_goes (mail_step cells) m (receives_of o k) (λ i. item_cells o cells k - sum_below received i) o.ranks (omega arith) (λ i lt.
      let e : item_cells o cells k - sum_below received i - received i ≡ item_cells o cells k - sum_below received (suc i) = omega arith in
      subst (λ z. Goes (mail_step cells) m (item_cells o cells k - sum_below received i) (receives_of o k i) z) e
      (receives_go i (item_cells o cells k - sum_below received i) (omega arith)))))

  begins_pass : (b : Bool) (r x n : ℕ) → n ≤ m → Goes (mail_step cells) m n (where_true b (Begin k r x ∷ [])) n
  begins_pass true r x n le = record { end = refl; most = omega arith }
  begins_pass false r x n le = record { end = refl; most = omega arith }

  ends_pass : (b : Bool) (r x n : ℕ) → n ≤ m → Goes (mail_step cells) m n (where_true b (End k r x ∷ [])) n
  ends_pass true r x n le = record { end = refl; most = omega arith }
  ends_pass false r x n le = record { end = refl; most = omega arith }

  module _ (g r : ℕ) where
    group_passes : (b c j : ℕ) → Goes (mail_step cells) m 0 (group_steps o g k r b c j) 0
    group_passes b c j = goes_on (mail_step cells) m 0 0 0
        (below (λ x. where_true (in_group o g k r b c j x) (Begin k r x ∷ [])) (o.count k r))
        (below (λ x. where_true (in_group o g k r b c j x) (End k r x ∷ [])) (o.count k r))
        (still_below (mail_step cells) m (λ x. where_true (in_group o g k r b c j x) (Begin k r x ∷ [])) 0 (o.count k r) (omega arith)
        (λ x lx. begins_pass (in_group o g k r b c j x) r x 0 (omega arith)))
        (still_below (mail_step cells) m (λ x. where_true (in_group o g k r b c j x) (End k r x ∷ [])) 0 (o.count k r) (omega arith)
        (λ x lx. ends_pass (in_group o g k r b c j x) r x 0 (omega arith)))

    block_passes : (b : ℕ) → Goes (mail_step cells) m 0 (block_steps o g k r b) 0
    block_passes b =
        still_below (mail_step cells) m (λ c. below (λ j. group_steps o g k r b c j) (above (group_of o g k r) (o.count k r))) 0
        (above (o.colour k r) (o.count k r)) (omega arith) (λ c lc.
        still_below (mail_step cells) m (λ j. group_steps o g k r b c j) 0 (above (group_of o g k r) (o.count k r)) (omega arith)
        (λ j lj. group_passes b c j))

    elements_pass : Goes (mail_step cells) m 0 (element_steps o g k r) 0
    elements_pass =
        still_below (mail_step cells) m (λ h. below (λ b. where_true (o.block_colour k r b == h) (block_steps o g k r b)) (blocks o k r)) 0
        (above (o.block_colour k r) (blocks o k r)) (omega arith) (λ h lh.
        still_below (mail_step cells) m (λ b. where_true (o.block_colour k r b == h) (block_steps o g k r b)) 0 (blocks o k r) (omega arith)
        (λ b lb.
        cond_goes (mail_step cells) m (o.block_colour k r b == h) 0 (block_steps o g k r b) (omega arith) (block_passes b)))

  item_goes : (g : ℕ) → (o.is_free k ≡ true → item_cells o cells k ≤ m) → Goes (mail_step cells) m 0 (item_steps o g k) 0
  item_goes g le = by (o.is_free k) refl
    where
      by : (b : Bool) → o.is_free k ≡ b
          → Goes (mail_step cells) m 0 (cond b
          (below (sends_of o k) o.ranks ++ (below (receives_of o k) o.ranks ++ below (element_steps o g k) o.ranks)) (Join k ∷ [])) 0
      by true e =
          goes_on (mail_step cells) m 0 (item_cells o cells k) 0 (below (sends_of o k) o.ranks)
          (below (receives_of o k) o.ranks ++ below (element_steps o g k) o.ranks)
          (all_sends_go (le e))
          (goes_on (mail_step cells) m (item_cells o cells k) 0 0 (below (receives_of o k) o.ranks) (below (element_steps o g k) o.ranks)
          (all_receives_go (le e))
          (still_below (mail_step cells) m (element_steps o g k) 0 o.ranks (omega arith) (λ r lr. elements_pass g r)))
      by false e = one_step (mail_step cells) m (Join k) 0 (omega arith) (omega arith)

pub few_under_way : (o : Outline) (g m : ℕ) (cells : ℕ → ℕ → ℕ → ℕ)
    → ((k : ℕ) → k < o.items → o.is_free k ≡ true → item_cells o cells k ≤ m) → greatest (mail_step cells) 0 (standard o g) ≤ m
few_under_way o g m cells le =
    let goes : Goes (mail_step cells) m 0 (standard o g) 0 =
    still_below (mail_step cells) m (item_steps o g) 0 o.items (omega arith) (λ k lk. item_goes o cells m k g (le k lk)) in
    goes.most
