-- What is left from a place in an order on.
use Rattle.std.proofs.Common.{◌≡◌, ℕ, zero, suc, ◌<◌, ◌≤◌, ◌+◌, ◌-◌, refl, sym, ap, ◌∙◌, arith, add-one, Bool, true, false, cond, not, List, [], ◌∷◌, ◌++◌, length, map, drop, get_or}
use Rattle.std.proofs.lemmas.List.{drop_all, length-map}
use Rattle.schedule_steps.specs.declared.step.Step.{Step}
use Rattle.schedule_steps.specs.declared.step.Step.TheVariants.{Begin, End}
use Rattle.step_orders.specs.declared.walks.RunPlace.{RunPlace}
use Rattle.step_orders.specs.Left.{upward, onward, onward_by, ends, in_runs, run_left, runs_left}

drop_suc : (f : ℕ → Step) (xs : List ℕ) (i : ℕ) → i < length xs → drop i (map f xs) ≡ f (get_or xs i 0) ∷ drop (suc i) (map f xs)
drop_suc f [] i lt = absurd (omega arith)
drop_suc f (x ∷ xs) zero lt = refl
drop_suc f (x ∷ xs) (suc i) lt = drop_suc f xs i (omega arith)

pub drop_head : (f : ℕ → Step) (xs : List ℕ) (i : ℕ) → i < length xs → drop i (map f xs) ≡ f (get_or xs i 0) ∷ drop (i + 1) (map f xs)
drop_head f xs i lt = drop_suc f xs i lt ∙ ap (λ j. f (get_or xs i 0) ∷ drop j (map f xs)) (sym (add-one i))

pub drop_end : (f : ℕ → Step) (xs : List ℕ) (i : ℕ) → length xs ≤ i → drop i (map f xs) ≡ []
drop_end f xs i le = drop_all i (map f xs) (omega (arith, length-map xs f))

upward_is : (f : ℕ → List Step) (i n : ℕ) → upward f i n ≡ onward_by (f i) f i n
upward_is f i zero = refl
upward_is f i (suc n) = refl

-- from the first on
pub upward_all : (f : ℕ → List Step) (n : ℕ) → onward (f 0) f 0 n ≡ upward f 0 n
upward_all f n = let e : n - 0 ≡ n = omega arith in ap (λ m. onward_by (f 0) f 0 m) e ∙ sym (upward_is f 0 n)

pub on_head : (first rest : List Step) (f : ℕ → List Step) (i n : ℕ) (s : Step)
    → i < n → first ≡ s ∷ rest → onward first f i n ≡ s ∷ onward rest f i n
on_head first rest f i n s lt e = by (n - i) (omega arith)
  where
    by : (m : ℕ) → 0 < m → onward_by first f i m ≡ s ∷ onward_by rest f i m
    by zero h = absurd (omega arith)
    by (suc m) h = ap (λ z. z ++ upward f (suc i) m) e

pub on_next : (first : List Step) (f : ℕ → List Step) (i n : ℕ)
    → i < n → first ≡ [] → onward first f i n ≡ onward (f (i + 1)) f (i + 1) n
on_next first f i n lt e = by (n - i) (n - (i + 1)) (omega arith)
  where
    less : (m l : ℕ) → suc m ≡ suc l → m ≡ l
    less m l h = omega arith

    by : (m l : ℕ) → m ≡ suc l → onward_by first f i m ≡ onward_by (f (i + 1)) f (i + 1) l
    by zero l h = absurd (omega arith)
    by (suc m) l h = ap (λ z. z ++ upward f (suc i) m) e ∙ (upward_is f (suc i) m ∙ (ap (λ j. onward_by (f j) f j m) (sym (add-one i)) ∙ ap (λ x. onward_by (f (i + 1)) f (i + 1) x) (less m l h)))

pub in_runs_from : (k r : ℕ) (runs : List (List ℕ)) (i : ℕ)
    → in_runs k r (drop i runs) ≡ run_left k r (get_or runs i []) 0 false ++ in_runs k r (drop (suc i) runs)
in_runs_from k r [] zero = refl
in_runs_from k r [] (suc i) = refl
in_runs_from k r (xs ∷ runs) zero = refl
in_runs_from k r (xs ∷ runs) (suc i) = in_runs_from k r runs i

-- all of a rank's runs
pub all_runs : (k r : ℕ) (runs : List (List ℕ)) → runs_left k r runs (record { run = 0; at = 0; ending = false }) ≡ in_runs k r runs
all_runs k r runs = sym (in_runs_from k r runs 0)

pub run_head : (k r : ℕ) (runs : List (List ℕ)) (i at : ℕ) (ending : Bool) → at < length (get_or runs i [])
    → runs_left k r runs (record { run = i; at = at; ending = ending })
    ≡ cond ending (End k r (get_or (get_or runs i []) at 0)) (Begin k r (get_or (get_or runs i []) at 0))
    ∷ runs_left k r runs (record { run = i; at = at + 1; ending = ending })
run_head k r runs i at true lt = ap (λ z. z ++ in_runs k r (drop (suc i) runs)) (drop_head (End k r) (get_or runs i []) at lt)
run_head k r runs i at false lt =
    ap (λ z. (z ++ ends k r (get_or runs i [])) ++ in_runs k r (drop (suc i) runs)) (drop_head (Begin k r) (get_or runs i []) at lt)

pub run_ends : (k r : ℕ) (runs : List (List ℕ)) (i at : ℕ) → length (get_or runs i []) ≤ at
    → runs_left k r runs (record { run = i; at = at; ending = false }) ≡ runs_left k r runs (record { run = i; at = 0; ending = true })
run_ends k r runs i at le =
    ap (λ z. (z ++ ends k r (get_or runs i [])) ++ in_runs k r (drop (suc i) runs)) (drop_end (Begin k r) (get_or runs i []) at le)

pub run_over : (k r : ℕ) (runs : List (List ℕ)) (i at : ℕ) → length (get_or runs i []) ≤ at
    → runs_left k r runs (record { run = i; at = at; ending = true }) ≡ runs_left k r runs (record { run = i + 1; at = 0; ending = false })
run_over k r runs i at le =
    ap (λ z. z ++ in_runs k r (drop (suc i) runs)) (drop_end (End k r) (get_or runs i []) at le)
    ∙ (ap (λ j. in_runs k r (drop j runs)) (sym (add-one i)) ∙ in_runs_from k r runs (i + 1))

pub no_runs : (k r : ℕ) (runs : List (List ℕ)) (p : RunPlace) → length runs ≤ p.run → runs_left k r runs p ≡ []
no_runs k r runs p le = by runs p.run le p.at p.ending
  where
    none : (at : ℕ) (ending : Bool) → run_left k r [] at ending ≡ []
    none zero true = refl
    none zero false = refl
    none (suc at) true = refl
    none (suc at) false = refl

    by : (runs : List (List ℕ)) (i : ℕ) → length runs ≤ i → (at : ℕ) (ending : Bool) → run_left k r (get_or runs i []) at ending ++ in_runs k r (drop (suc i) runs) ≡ []
    by [] i le at ending = ap (λ z. z ++ []) (none at ending)
    by (xs ∷ runs) zero le at ending = absurd (omega arith)
    by (xs ∷ runs) (suc i) le at ending = by runs i (omega arith) at ending

-- the ends of a run are over
pub turns_to_begins : (k r : ℕ) (runs : List (List ℕ)) (p q : RunPlace) → length (get_or runs p.run []) ≤ p.at → p.ending ≡ true
    → q ≡ record { run = p.run + 1; at = 0; ending = p.ending }
    → runs_left k r runs p ≡ runs_left k r runs (record { run = q.run; at = q.at; ending = not q.ending })
turns_to_begins k r runs p q le e is =
    ap (λ b. runs_left k r runs (record { run = p.run; at = p.at; ending = b })) e
    ∙ (run_over k r runs p.run p.at le
    ∙ sym (ap (λ (z : RunPlace). runs_left k r runs (record { run = z.run; at = z.at; ending = not z.ending })) is
    ∙ ap (λ b. runs_left k r runs (record { run = p.run + 1; at = 0; ending = not b })) e))

-- its begins are over
pub turns_to_ends : (k r : ℕ) (runs : List (List ℕ)) (p q : RunPlace) → length (get_or runs p.run []) ≤ p.at → p.ending ≡ false
    → q ≡ record { run = p.run; at = 0; ending = p.ending }
    → runs_left k r runs p ≡ runs_left k r runs (record { run = q.run; at = q.at; ending = not q.ending })
turns_to_ends k r runs p q le e is =
    ap (λ b. runs_left k r runs (record { run = p.run; at = p.at; ending = b })) e
    ∙ (run_ends k r runs p.run p.at le
    ∙ sym (ap (λ (z : RunPlace). runs_left k r runs (record { run = z.run; at = z.at; ending = not z.ending })) is
    ∙ ap (λ b. runs_left k r runs (record { run = p.run; at = 0; ending = not b })) e))

-- the next message of a rank
pub message_head : (f : ℕ → ℕ → Step) (g : ℕ → List ℕ) (n rank at : ℕ) (xs : List ℕ) → xs ≡ g rank → at < length xs → rank < n
    → onward (drop at (map (f rank) (g rank))) (λ s. map (f s) (g s)) rank n
    ≡ f rank (get_or xs at 0) ∷ onward (drop (at + 1) (map (f rank) (g rank))) (λ s. map (f s) (g s)) rank n
message_head f g n rank at xs e lt within =
    on_head (drop at (map (f rank) (g rank))) (drop (at + 1) (map (f rank) (g rank))) (λ s. map (f s) (g s)) rank n (f rank (get_or xs at 0)) within
    (ap (λ z. drop at (map (f rank) z)) (sym e) ∙ (drop_head (f rank) xs at lt ∙ ap (λ z. f rank (get_or xs at 0) ∷ drop (at + 1) (map (f rank) z)) e))

-- its messages are over
pub messages_over : (f : ℕ → ℕ → Step) (g : ℕ → List ℕ) (n rank at : ℕ) (xs : List ℕ) → xs ≡ g rank → length xs ≤ at → rank < n
    → onward (drop at (map (f rank) (g rank))) (λ s. map (f s) (g s)) rank n
    ≡ onward (map (f (rank + 1)) (g (rank + 1))) (λ s. map (f s) (g s)) (rank + 1) n
messages_over f g n rank at xs e le within =
    on_next (drop at (map (f rank) (g rank))) (λ s. map (f s) (g s)) rank n within
    (ap (λ z. drop at (map (f rank) z)) (sym e) ∙ drop_end (f rank) xs at le)
