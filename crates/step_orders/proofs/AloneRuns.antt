-- Runs of one element each.
use Rattle.std.proofs.Common.{◌≡◌, ℕ, zero, suc, ◌<◌, ◌≤◌, ◌+◌, ◌-◌, refl, sym, ap, ◌∙◌, arith, add-one, true, false, not, cond, List, [], ◌∷◌, ◌++◌, append_assoc, length, take, drop, get_or}
use Rattle.std.proofs.lemmas.Bool.{not-true}
use Rattle.schedule_steps.specs.Outline.{Outline}
use Rattle.schedule_steps.specs.declared.step.Step.{Step}
use Rattle.schedule_steps.specs.declared.step.Step.TheVariants.{Begin, End, Join}
use Rattle.step_orders.specs.declared.walks.RunPlace.{RunPlace}
use Rattle.step_orders.specs.declared.walks.ItemPlace.{ItemPlace}
use Rattle.step_orders.specs.Alone.{alone}
use Rattle.step_orders.specs.Runs.{each_alone}
use Rattle.step_orders.specs.Left.{upward, onward, onward_by, in_runs, run_left, runs_left, free_left, item_left}
use Rattle.step_orders.proofs.Places.{in_runs_from, run_over}

pub alone_push : (k r : ℕ) (xs : List ℕ) (x : ℕ) (rest : List Step) → alone k r (xs ++ (x ∷ [])) ++ rest ≡ alone k r xs ++ (Begin k r x ∷ End k r x ∷ rest)
alone_push k r [] x rest = refl
alone_push k r (y ∷ xs) x rest = ap (λ z. Begin k r y ∷ End k r y ∷ z) (alone_push k r xs x rest)

only : (xs : List ℕ) → length xs ≡ 1 → xs ≡ get_or xs 0 0 ∷ []
only [] e = absurd (omega (arith, e))
only (x ∷ []) e = refl
only (x ∷ y ∷ xs) e = absurd (omega (arith, e))

-- the run has one element
pub one_more : (k r : ℕ) (runs : List (List ℕ)) (i : ℕ) → length (get_or runs i []) ≡ 1
    → in_runs k r (drop i runs) ≡ Begin k r (get_or (get_or runs i []) 0 0) ∷ End k r (get_or (get_or runs i []) 0 0) ∷ in_runs k r (drop (i + 1) runs)
one_more k r runs i e =
    in_runs_from k r runs i
    ∙ (ap (λ z. run_left k r z 0 false ++ in_runs k r (drop (suc i) runs)) (only (get_or runs i []) e)
    ∙ ap (λ j. Begin k r (get_or (get_or runs i []) 0 0) ∷ End k r (get_or (get_or runs i []) 0 0) ∷ in_runs k r (drop j runs)) (sym (add-one i)))

-- no run is on
pub at_run : (k r : ℕ) (runs : List (List ℕ)) (i : ℕ) → runs_left k r runs (record { run = i; at = 0; ending = false }) ≡ in_runs k r (drop i runs)
at_run k r runs i = sym (in_runs_from k r runs i)

-- the ends of a run are over
pub run_ended : (k r : ℕ) (runs : List (List ℕ)) (p : RunPlace) → length (get_or runs p.run []) ≤ p.at → p.ending ≡ true
    → runs_left k r runs p ≡ in_runs k r (drop (p.run + 1) runs)
run_ended k r runs p le e =
    ap (λ b. runs_left k r runs (record { run = p.run; at = p.at; ending = b })) e
    ∙ (run_over k r runs p.run p.at le ∙ at_run k r runs (p.run + 1))

-- no element of a run was begun
pub run_unbegun : (k r : ℕ) (runs : List (List ℕ)) (p : RunPlace) → p.at ≡ 0 → not p.ending ≡ true → runs_left k r runs p ≡ in_runs k r (drop p.run runs)
run_unbegun k r runs p none e =
    ap (λ b. runs_left k r runs (record { run = p.run; at = p.at; ending = b })) (not-true p.ending e)
    ∙ (ap (λ a. runs_left k r runs (record { run = p.run; at = a; ending = false })) none ∙ at_run k r runs p.run)

-- of the first some are taken
pub on_more : (first rest some : List Step) (f : ℕ → List Step) (i n : ℕ) → i < n → first ≡ some ++ rest → onward first f i n ≡ some ++ onward rest f i n
on_more first rest some f i n lt e = by (n - i) (omega arith)
  where
    by : (m : ℕ) → 0 < m → onward_by first f i m ≡ some ++ onward_by rest f i m
    by zero h = absurd (omega arith)
    by (suc m) h = ap (λ z. z ++ upward f (suc i) m) e ∙ append_assoc some rest (upward f (suc i) m)

-- of a Free item some are taken
pub item_more : (o : Outline) (g k : ℕ) (p q : ItemPlace) (some : List Step) → o.is_free k ≡ true → free_left o g k p ≡ some ++ free_left o g k q
    → item_left o g k p ≡ some ++ item_left o g k q
item_more o g k p q some e h =
    ap (λ b. cond b (free_left o g k p) (Join k ∷ [])) e
    ∙ (h ∙ ap (λ z. some ++ z) (sym (ap (λ b. cond b (free_left o g k q) (Join k ∷ [])) e)))

-- ---- each element a run of its own

pub length_alone : (xs : List ℕ) → length (each_alone xs) ≡ length xs
length_alone [] = refl
length_alone (x ∷ xs) = ap suc (length_alone xs)

pub alone_at : (xs : List ℕ) (i : ℕ) → i < length xs → get_or (each_alone xs) i [] ≡ get_or xs i 0 ∷ []
alone_at [] i lt = absurd (omega (arith, lt))
alone_at (x ∷ xs) zero lt = refl
alone_at (x ∷ xs) (suc i) lt = alone_at xs i (omega (arith, lt))

pub one_at : (xs : List ℕ) (i : ℕ) → i < length xs → take (i + 1 - i) (drop i xs) ≡ get_or (each_alone xs) i []
one_at xs i lt =
    let one : i + 1 - i ≡ 1 = omega arith in
    ap (λ n. take n (drop i xs)) one ∙ (first xs i lt ∙ sym (alone_at xs i lt))
  where
    first : (ys : List ℕ) (j : ℕ) → j < length ys → take 1 (drop j ys) ≡ get_or ys j 0 ∷ []
    first [] j l = absurd (omega (arith, l))
    first (y ∷ ys) zero l = refl
    first (y ∷ ys) (suc j) l = first ys j (omega (arith, l))

-- an element more is taken
pub alone_more : (k r : ℕ) (xs places : List ℕ) (i : ℕ) → i < length xs
    → alone k r places ++ in_runs k r (drop i (each_alone xs)) ≡ alone k r (places ++ get_or xs i 0 ∷ []) ++ in_runs k r (drop (i + 1) (each_alone xs))
alone_more k r xs places i lt =
    let x = get_or xs i 0 in
    let is : get_or (get_or (each_alone xs) i []) 0 0 ≡ x = ap (λ ys. get_or ys 0 0) (alone_at xs i lt) in
    ap (λ z. alone k r places ++ z) (one_more k r (each_alone xs) i (ap length (alone_at xs i lt))
    ∙ ap (λ y. Begin k r y ∷ End k r y ∷ in_runs k r (drop (i + 1) (each_alone xs))) is)
    ∙ sym (alone_push k r places x (in_runs k r (drop (i + 1) (each_alone xs))))
