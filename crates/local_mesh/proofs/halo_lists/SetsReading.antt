-- One set's sets of ranks, read from the list of all.
use Rattle.std.proofs.Common.{◌≡◌, ℕ, ◌+◌, ◌<◌, Bool, List, [], ◌∷◌, ◌++◌, length, get_or, Vec, sym, ap, ◌∙◌, arith, ⊎_elim, subst}
use Rattle.std.proofs.lemmas.Bool.{cases_eq}
use Rattle.std.proofs.lemmas.List.{get_or-map, length_push, get_or_append_left, get_or_push}
use Rattle.local_mesh.specs.RankSet.{has_at}
use Rattle.std.specs.declared.alloc.Global.{Global}
use Rattle.local_mesh.specs.declared.rank_sets.rank_set.RankSet.{RankSet}
use Rattle.local_mesh.specs.Sets.{sets_in}

pub sets_read : (ranks : List (Vec RankSet Global)) (s : ℕ) (v : Vec RankSet Global) → s < length ranks → v ≡ get_or ranks s v → v.items ≡ sets_in ranks s
unfolding sets_in
sets_read ranks s v l e = ap (λ (q : Vec RankSet Global). q.items) e ∙ sym (get_or-map (λ (q : Vec RankSet Global). q.items) ranks s v [] l)

sets_at : (ranks : List (Vec RankSet Global)) (s : ℕ) (d : Vec RankSet Global) → s < length ranks → (get_or ranks s d).items ≡ sets_in ranks s
unfolding sets_in
sets_at ranks s d l = sym (get_or-map (λ (q : Vec RankSet Global). q.items) ranks s d [] l)

sets_push_left : (xs : List (Vec RankSet Global)) (v : Vec RankSet Global) (s : ℕ) → s < length xs → sets_in (xs ++ v ∷ []) s ≡ sets_in xs s
sets_push_left xs v s l =
    sym (sets_at (xs ++ v ∷ []) s v (omega (arith, length_push xs v)))
    ∙ (ap (λ (z : Vec RankSet Global). z.items) (get_or_append_left xs (v ∷ []) v s l) ∙ sets_at xs s v l)

sets_push : (xs : List (Vec RankSet Global)) (v : Vec RankSet Global) (s : ℕ) → length xs ≡ s → sets_in (xs ++ v ∷ []) s ≡ v.items
sets_push xs v s e = sym (sets_at (xs ++ v ∷ []) s v (omega (arith, length_push xs v))) ∙ ap (λ (z : Vec RankSet Global). z.items) (get_or_push xs v v s e)

pub sets_more : (xs : List (Vec RankSet Global)) (v : Vec RankSet Global) (n : ℕ) (size : ℕ → ℕ) → length xs ≡ n → length v.items ≡ size n
    → ((s : ℕ) → s < n → length (sets_in xs s) ≡ size s) → (s : ℕ) → s < n + 1 → length (sets_in (xs ++ v ∷ []) s) ≡ size s
sets_more xs v n size e q h s l = ⊎_elim
    (λ (t : s ≡ n). rw t (ap (length {A = RankSet}) (sets_push xs v n e) ∙ q))
    (λ (t : s ≡ n → ⊥). let ls : s < n = omega arith in ap (length {A = RankSet}) (sets_push_left xs v s (rw e ls)) ∙ h s ls)
    (cases_eq s n)

pub sets_has_more : (xs : List (Vec RankSet Global)) (v : Vec RankSet Global) (n : ℕ) (size : ℕ → ℕ) (p : ℕ → ℕ → ℕ → Bool) → length xs ≡ n
    → ((x r : ℕ) → x < size n → has_at v.items x r ≡ p n x r) → ((s x r : ℕ) → s < n → x < size s → has_at (sets_in xs s) x r ≡ p s x r)
    → (s x r : ℕ) → s < n + 1 → x < size s → has_at (sets_in (xs ++ v ∷ []) s) x r ≡ p s x r
sets_has_more xs v n size p e q h s x r l lx = ⊎_elim
    (λ (t : s ≡ n).
    let ln : x < size n = subst (λ z. x < size z) t lx in
    rw t (ap (λ (z : List RankSet). has_at z x r) (sets_push xs v n e) ∙ q x r ln))
    (λ (t : s ≡ n → ⊥). let ls : s < n = omega arith in ap (λ (z : List RankSet). has_at z x r) (sets_push_left xs v s (rw e ls)) ∙ h s x r ls lx)
    (cases_eq s n)
