-- Places of which none has begun.
use Rattle.std.proofs.Common.{◌≡◌, ℕ, zero, suc, ◌+◌, ◌-◌, ◌*◌, ◌/◌, ◌%◌, ◌<◌, ◌≤◌, ◌^◌, Bool, true, false, refl, sym, ap, subst, ◌∙◌, arith, ⊎_elim, List, [], ◌∷◌, ◌++◌, length, get_or, take, drop, replicate, min}
use Rattle.std.specs.Prelude.{◌&&◌, ◌||◌, ◌==◌, ◌↔◌, nat_lt}
use Rattle.std.proofs.lemmas.Bool.{ne_eqb, cases_eq, cases_lt, false≢true, lt-ltb, le-ltb}
use Rattle.std.proofs.lemmas.List.{get_or_past, length-replicate, get_or-take, get_or-drop, get_or_push, get_or_append_left, length-take, length-drop}
use Rattle.std.proofs.lemmas.Nat.{mod_below, div-add-mod'}
use Rattle.step_judge.specs.Marks.{Marks, no_marks, AllDone}
use Rattle.step_judge.specs.Ranked.{Ranked}
use Rattle.step_judge.specs.Run.{Run, block_at, colour, inner, ended_at}
use Rattle.step_judge.specs.RunKept.{Whole}
use Rattle.step_judge.specs.NewRun.{IsFresh, IsNewRun}
use Rattle.lemmas.proofs.Numbers.{all_false}

-- tests of orders that are one are one
lt_same : (a b x y : ℕ) → (a < b) ↔ (x < y) → nat_lt a b ≡ nat_lt x y
lt_same a b x y h = ⊎_elim
    (λ (l : a < b). lt-ltb a b l ∙ sym (lt-ltb x y (h.0 l)))
    (λ (g : b ≤ a). le-ltb a b g ∙ sym (le-ltb x y (⊎_elim (λ (l : x < y). (let k : a < b = h.1 l in absurd (omega arith))) (λ (m : y ≤ x). m) (cases_lt x y))))
    (cases_lt a b)

-- one more behind others
pub one_more : (P : ℕ → Marks → Type 0) (xs : List Marks) (v : Marks) (k : ℕ) → length xs ≡ k → P k v → ((a : ℕ) → a < k → P a (get_or xs a no_marks))
    → (a : ℕ) → a < k + 1 → P a (get_or (xs ++ (v ∷ [])) a no_marks)
one_more P xs v k n last before a lt = ⊎_elim
    (λ (e : a ≡ k). subst (λ z. P z (get_or (xs ++ (v ∷ [])) z no_marks)) (sym e) (subst (P k) (sym (get_or_push xs v no_marks k n)) last))
    (λ (ne : a ≡ k → ⊥). (let l : a < k = omega arith in subst (P a) (sym (get_or_append_left xs (v ∷ []) no_marks a (omega arith))) (before a l)))
    (cases_eq a k)

-- there are no more blocks than places
pub few_blocks : (size n : ℕ) (blocks : List ℕ) → 0 < size → ((a : ℕ) → (a < length blocks) ↔ (a * size < n)) → length blocks ≤ n
few_blocks size n blocks some h = ⊎_elim
    (λ (l : n < length blocks). (let k : n * size < n = (h n).0 l in let j : n * 1 ≤ n * size = grows n size some in absurd (omega arith)))
    (λ (g : length blocks ≤ n). g)
    (cases_lt n (length blocks))
  where
    grows : (a b : ℕ) → 0 < b → a * 1 ≤ a * b
    grows a zero h = absurd (omega arith)
    grows a (suc b) h = grind arith

module _ (size : ℕ) (blocks inners : List ℕ) (core : List Bool) (ms : List Marks) (cs : Marks)
    (some : 0 < size)
    (few : length inners < 2 ^ 32)
    (count : (a : ℕ) → (a < length blocks) ↔ (a * size < length inners))
    (cores : length core ≡ length inners)
    (each : length ms ≡ length blocks)
    (fresh : (a : ℕ) → a < length blocks → IsFresh (take size (drop (a * size) inners)) (get_or ms a no_marks))
    (outer : IsFresh blocks cs)
  where
    abbrev part : ℕ → List ℕ
    part a = take size (drop (a * size) inners)

    abbrev v : Run
    v = record { size = size; begun = replicate (length inners) false; blocks = ms; colours = cs; core = core }

    part_length : (a : ℕ) → length (part a) ≡ min size (length inners - a * size)
    part_length a = length-take size (drop (a * size) inners) ∙ ap (min size) (length-drop (a * size) inners)

    split : (p : ℕ) → p / size * size + p % size ≡ p
    split p = div-add-mod' p size

    below : (p : ℕ) → p % size < size
    below p = mod_below p size some

    block_of : (p : ℕ) → p < length inners → p / size < length blocks
    block_of p lt = (count (p / size)).1 (let e : p / size * size + p % size ≡ p = split p in omega arith)

    within : (p : ℕ) → p < length inners → p % size < length (part (p / size))
    within p lt =
        let e : p / size * size + p % size ≡ p = split p in
        let b : p % size < size = below p in
        subst (λ z. p % size < z) (sym (part_length (p / size))) (omega arith)

    of_length : (a : ℕ) → a < length blocks → length (block_at v a).of ≡ length (part a)
    of_length a lt = (fresh a lt).order.size

    done_length : (a : ℕ) → a < length blocks → length (block_at v a).done ≡ length (part a)
    done_length a lt = ap length (fresh a lt).done ∙ length-replicate (length (part a)) false

    not_done : (a i : ℕ) → a < length blocks → get_or (block_at v a).done i false ≡ false
    not_done a i lt = ap (λ z. get_or z i false) (fresh a lt).done ∙ all_false (length (part a)) i

    none_ended : (p : ℕ) → ended_at v p ≡ false
    none_ended p = ⊎_elim
        (λ (l : p / size < length blocks). not_done (p / size) (p % size) l)
        (λ (g : length blocks ≤ p / size). ap (λ z. get_or z.done (p % size) false) (get_or_past ms (p / size) no_marks (subst (λ z. z ≤ p / size) (sym each) g)))
        (cases_lt (p / size) (length blocks))

    fewer : (a t : ℕ) → a < length blocks → t < length (block_at v a).of → (t < size) × (a * size + t < length inners)
    fewer a t al tl =
        let s : t < min size (length inners - a * size) = subst (λ z. t < z) (of_length a al ∙ part_length a) tl in
        (omega arith, omega arith)

    -- a block has a place, which is not done
    open_block : (a : ℕ) → a < length blocks → AllDone (block_at v a) → get_or cs.done a false ≡ true
    open_block a lt h =
        let l : a * size < length inners = (count a).0 lt in
        let s : 0 < length (block_at v a).of = subst (λ z. 0 < z) (sym (of_length a lt ∙ part_length a)) (omega arith) in
        absurd (false≢true (sym (not_done a 0 lt) ∙ h 0 s))

    pub new_whole : Whole v
    new_whole = record {
      sized = omega arith;
      fits = subst (λ z. z < 2 ^ 32) (sym (length-replicate (length inners) false)) few;
      colours_of = outer.order.size ∙ sym each;
      colours_done = ap length outer.done ∙ (length-replicate (length blocks) false ∙ sym each);
      block_done = λ a lt. (let l : a < length blocks = subst (λ z. a < z) each lt in done_length a l ∙ sym (of_length a l));
      block_in = λ p lt. subst (λ z. p / size < z) (sym each) (block_of p (subst (λ z. p < z) (length-replicate (length inners) false) lt));
      place_in = λ p lt. (let l : p < length inners = subst (λ z. p < z) (length-replicate (length inners) false) lt in
          subst (λ z. p % size < z) (sym (of_length (p / size) (block_of p l))) (within p l));
      short = λ a t al tl. (fewer a t (subst (λ z. a < z) each al) tl).0;
      in_place = λ a t al tl. subst (λ z. a * size + t < z) (sym (length-replicate (length inners) false)) (fewer a t (subst (λ z. a < z) each al) tl).1;
      closed = λ a lt. (
        (λ h. absurd (false≢true (sym (ap (λ z. get_or z a false) outer.done ∙ all_false (length blocks) a) ∙ h))),
        (λ h. open_block a (subst (λ z. a < z) each lt) h),
      );
      core_each = cores ∙ sym (length-replicate (length inners) false);
      begins_first = λ p lt h. absurd (false≢true (sym (none_ended p) ∙ h));
    }

    -- a place's colour stands in the part of its block
    part_at : (p : ℕ) → get_or (part (p / size)) (p % size) 0 ≡ get_or inners p 0
    part_at p = get_or-take size (drop (p / size * size) inners) (p % size) 0 (below p) ∙ (get_or-drop (p / size * size) inners (p % size) 0 ∙ ap (λ z. get_or inners z 0) (split p))

    outer_same : (q p : ℕ) → q < length inners → p < length inners
        → nat_lt (colour v q) (colour v p) ≡ nat_lt (get_or blocks (q / size) 0) (get_or blocks (p / size) 0)
    outer_same q p ql pl = lt_same _ _ _ _ (outer.order.order (q / size) (p / size) (block_of q ql) (block_of p pl))

    -- within the block of p
    inner_same : (q p : ℕ) → q < length inners → p < length inners → q / size ≡ p / size
        → nat_lt (inner v q) (inner v p) ≡ nat_lt (get_or inners q 0) (get_or inners p 0)
    inner_same q p ql pl e =
        let ranked : Ranked (part (p / size)) (block_at v (p / size)).of = (fresh (p / size) (block_of p pl)).order in
        let ql2 : q % size < length (part (p / size)) = subst (λ z. q % size < length (part z)) e (within q ql) in
        let low : nat_lt (get_or (block_at v (p / size)).of (q % size) 0) (inner v p) ≡ nat_lt (get_or (part (p / size)) (q % size) 0)
        (get_or (part (p / size)) (p % size) 0) = lt_same _ _ _ _ (ranked.order (q % size) (p % size) ql2 (within p pl)) in
        ap (λ z. nat_lt (get_or (block_at v z).of (q % size) 0) (inner v p)) e
        ∙ (low
        ∙ (ap (λ z. nat_lt (get_or (part z) (q % size) 0) (get_or (part (p / size)) (p % size) 0)) (sym e)
        ∙ (ap (λ z. nat_lt z (get_or (part (p / size)) (p % size) 0)) (part_at q) ∙ ap (λ z. nat_lt (get_or inners q 0) z) (part_at p))))

    in_block : (q p : ℕ) → q < length inners → p < length inners
        → ((q / size == p / size) && nat_lt (inner v q) (inner v p)) ≡ ((q / size == p / size) && nat_lt (get_or inners q 0) (get_or inners p 0))
    in_block q p ql pl = ⊎_elim
        (λ (e : q / size ≡ p / size). ap (λ z. (q / size == p / size) && z) (inner_same q p ql pl e))
        (λ (ne : q / size ≡ p / size → ⊥). ap (λ z. z && nat_lt (inner v q) (inner v p)) (ne_eqb _ _ ne) ∙ sym (ap (λ z. z && nat_lt (get_or inners q 0) (get_or inners p 0)) (ne_eqb _ _ ne)))
        (cases_eq (q / size) (p / size))

    pub new_run : IsNewRun size blocks inners core v
    new_run = record {
      sized = refl;
      begun = refl;
      cores = refl;
      ended = none_ended;
      order = λ q p ql pl. ap (λ z. z || ((q / size == p / size) && nat_lt (inner v q) (inner v p))) (outer_same q p ql pl)
          ∙ ap (λ z. nat_lt (get_or blocks (q / size) 0) (get_or blocks (p / size) 0) || z) (in_block q p ql pl);
    }
