-- The begins of a group, one after another.
use Rattle.std.proofs.Common.{◌≡◌, ℕ, zero, suc, ◌+◌, ◌<◌, Bool, true, false, refl, sym, ap, ◌∙◌, arith, List, [], ◌∷◌, ◌++◌, length, take, drop, get_or}
use Rattle.std.specs.Prelude.{◌==◌, ◌||◌}
use Rattle.std.proofs.lemmas.Bool.{false≢true, eq-eqb}
use Rattle.schedule_steps.specs.declared.step.Step.{Step}
use Rattle.schedule_steps.specs.declared.step.Step.TheVariants.{Begin, End}
use Rattle.step_orders.specs.Alone.{alone}
use Rattle.schedule_steps.specs.Peaks.{open_step, mail_step, count_after}
use Rattle.rank_state.specs.Frames.{Pane, Shut, pane_at}
use Rattle.rank_state.specs.Groups.{begins, is_in, AllShut}

pub take_next : (l : List ℕ) (i d : ℕ) → i < length l → take (i + 1) l ≡ take i l ++ (get_or l i d ∷ [])
take_next [] i d lt = absurd (omega arith)
take_next (s ∷ l) zero d lt = refl
take_next (s ∷ l) (suc i) d lt = (let e : suc i + 1 ≡ suc (i + 1) = omega arith in ap (λ n. take n (s ∷ l)) e) ∙ ap (λ z. s ∷ z)
    (take_next l i d (omega arith))

pub begins_push : (k r : ℕ) (xs : List ℕ) (x : ℕ) → begins k r (xs ++ (x ∷ [])) ≡ begins k r xs ++ (Begin k r x ∷ [])
begins_push k r [] x = refl
begins_push k r (y ∷ xs) x = ap (λ z. Begin k r y ∷ z) (begins_push k r xs x)

pub begins_length : (k r : ℕ) (xs : List ℕ) → length (begins k r xs) ≡ length xs
begins_length k r [] = refl
begins_length k r (x ∷ xs) = ap suc (begins_length k r xs)

pub opened_by : (k r n : ℕ) (xs : List ℕ) → count_after open_step n (begins k r xs) ≡ n + length xs
opened_by k r n [] = omega arith
opened_by k r n (x ∷ xs) = let e = opened_by k r (suc n) xs in omega (arith, e)

pub no_mail_by : (cells : ℕ → ℕ → ℕ → ℕ) (k r n : ℕ) (xs : List ℕ) → count_after (mail_step cells) n (begins k r xs) ≡ n
no_mail_by cells k r n [] = refl
no_mail_by cells k r n (x ∷ xs) = no_mail_by cells k r n xs

-- a place is none of the others
not_in : (x y : ℕ) (ys : List ℕ) → (b c : Bool) → (x == y) ≡ b → is_in x ys ≡ c → (b || c) ≡ false → ((y ≡ x → ⊥) × (is_in x ys ≡ false))
not_in x y ys true c e i h = absurd (false≢true (sym h))
not_in x y ys false true e i h = absurd (false≢true (sym h))
not_in x y ys false false e i h = ((λ q. false≢true (sym e ∙ eq-eqb x y (sym q))), i)

pub still_shut : (old new : List (List Pane)) (r x : ℕ) (xs : List ℕ) → is_in x xs ≡ false →
    ((y : ℕ) → (y ≡ x → ⊥) → pane_at old r y ≡ Shut → pane_at new r y ≡ Shut) → AllShut old r xs → AllShut new r xs
still_shut old new r x [] none keep h = tt
still_shut old new r x (y ∷ ys) none keep h =
    let apart = not_in x y ys (x == y) (is_in x ys) refl refl none in
    (keep y apart.0 h.0, still_shut old new r x ys apart.1 keep h.1)

-- one begin and what follows it
pub after_one : (k r x : ℕ) (ys : List ℕ) (m left : List Step) → length ys ≡ 1 → begins k r ys ++ m ≡ Begin k r x ∷ left → m ≡ left
after_one k r x [] m left n e = absurd (omega (arith, n))
after_one k r x (y ∷ []) m left n e = cc
after_one k r x (y ∷ z ∷ ys) m left n e = absurd (omega (arith, n))

pub one_place : (k r x : ℕ) (ys : List ℕ) (m left : List Step) → length ys ≡ 1 → begins k r ys ++ m ≡ Begin k r x ∷ left → ys ≡ x ∷ []
one_place k r x [] m left n e = absurd (omega (arith, n))
one_place k r x (y ∷ []) m left n e = cc
one_place k r x (y ∷ z ∷ ys) m left n e = absurd (omega (arith, n))

-- at one of several elements that begin and end one after another
pub alone_at : (k r : ℕ) (xs : List ℕ) (i : ℕ) → i < length xs
    → alone k r xs ≡ alone k r (take i xs) ++ (Begin k r (get_or xs i 0) ∷ End k r (get_or xs i 0) ∷ alone k r (drop (suc i) xs))
alone_at k r [] i lt = absurd (omega arith)
alone_at k r (x ∷ xs) zero lt = refl
alone_at k r (x ∷ xs) (suc i) lt = ap (λ z. Begin k r x ∷ End k r x ∷ z) (alone_at k r xs i (omega arith))

pub alone_append : (k r : ℕ) (xs ys : List ℕ) → alone k r (xs ++ ys) ≡ alone k r xs ++ alone k r ys
alone_append k r [] ys = refl
alone_append k r (x ∷ xs) ys = ap (λ z. Begin k r x ∷ End k r x ∷ z) (alone_append k r xs ys)

-- one more
pub alone_next : (k r : ℕ) (xs : List ℕ) (i : ℕ) → i < length xs
    → alone k r (take (i + 1) xs) ≡ alone k r (take i xs) ++ (Begin k r (get_or xs i 0) ∷ End k r (get_or xs i 0) ∷ [])
alone_next k r xs i lt = ap (alone k r) (take_next xs i 0 lt) ∙ alone_append k r (take i xs) (get_or xs i 0 ∷ [])

-- none
pub alone_none : (k r : ℕ) (xs : List ℕ) → alone k r (take 0 xs) ≡ []
alone_none k r [] = refl
alone_none k r (x ∷ xs) = refl
