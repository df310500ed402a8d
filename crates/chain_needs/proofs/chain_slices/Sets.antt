-- Lists of sets, read after a push.
use Rattle.std.proofs.Common.{◌≡◌, ℕ, ◌<◌, ◌≤◌, ◌+◌, List, [], ◌∷◌, ◌++◌, length, get_or, map, Vec, sym, ap, ◌∙◌, arith, ⊎_elim}
use Rattle.std.proofs.lemmas.Bool.{cases_eq, cases_lt}
use Rattle.std.proofs.lemmas.List.{get_or-map, get_or_past, length-map, length_push, get_or_append_left, get_or_push}
use Rattle.std.specs.declared.alloc.Global.{Global}
use Rattle.local_mesh.specs.declared.rank_sets.rank_set.RankSet.{RankSet}
use Rattle.local_mesh.specs.Sets.{sets_in}

pub sets_at : (xs : List (Vec RankSet Global)) (s : ℕ) (d : Vec RankSet Global) → s < length xs → (get_or xs s d).items ≡ sets_in xs s
unfolding sets_in
sets_at xs s d l = sym (get_or-map (λ (q : Vec RankSet Global). q.items) xs s d [] l)

pub sets_push_left : (xs : List (Vec RankSet Global)) (v : Vec RankSet Global) (s : ℕ) → s < length xs → sets_in (xs ++ v ∷ []) s ≡ sets_in xs s
sets_push_left xs v s l =
    sym (sets_at (xs ++ v ∷ []) s v (omega (arith, length_push xs v)))
    ∙ (ap (λ (z : Vec RankSet Global). z.items) (get_or_append_left xs (v ∷ []) v s l) ∙ sets_at xs s v l)

pub sets_push : (xs : List (Vec RankSet Global)) (v : Vec RankSet Global) (s : ℕ) → length xs ≡ s → sets_in (xs ++ v ∷ []) s ≡ v.items
sets_push xs v s e = sym (sets_at (xs ++ v ∷ []) s v (omega (arith, length_push xs v))) ∙ ap (λ (z : Vec RankSet Global). z.items) (get_or_push xs v v s e)

pub sets_past : (xs : List (Vec RankSet Global)) (s : ℕ) → length xs ≤ s → sets_in xs s ≡ []
unfolding sets_in
sets_past xs s l = get_or_past (map (λ (q : Vec RankSet Global). q.items) xs) s [] (omega (arith, length-map xs (λ (q : Vec RankSet Global). q.items)))

-- one more list copied
pub same_more : (xs ys : List (Vec RankSet Global)) (v : Vec RankSet Global) (n : ℕ) → length xs ≡ n → v.items ≡ sets_in ys n → ((s : ℕ) → s < n → sets_in xs s ≡ sets_in ys s)
    → (s : ℕ) → s < n + 1 → sets_in (xs ++ v ∷ []) s ≡ sets_in ys s
same_more xs ys v n e q h s l = ⊎_elim
    (λ (t : s ≡ n). rw t (sets_push xs v n e ∙ q))
    (λ (t : s ≡ n → ⊥). let ls : s < n = omega arith in sets_push_left xs v s (rw e ls) ∙ h s ls)
    (cases_eq s n)

-- lists of one length that agree on each place agree past their end too
pub same_all : (xs ys : List (Vec RankSet Global)) → length xs ≡ length ys → ((s : ℕ) → s < length ys → sets_in xs s ≡ sets_in ys s) → (s : ℕ) → sets_in xs s ≡ sets_in ys s
same_all xs ys e h s = ⊎_elim
    (λ (l : s < length ys). h s l)
    (λ (l : length ys ≤ s). sets_past xs s (omega arith) ∙ sym (sets_past ys s l))
    (cases_lt s (length ys))
