use Rattle.std.proofs.Common.{◌≡◌, ◌<◌, ◌≤◌, ℕ, List, length, get_or, Err, arith, sym, ◌∙◌, ⊎_elim, subst}
use Rattle.std.specs.Prelude.{Contains}
use Rattle.std.specs.Ordering.{nat_cmp}
use Rattle.std.specs.List.Sorted.{IsBinarySearchResult}
use Rattle.std.proofs.lemmas.Bool.{cases_lt}
use Rattle.std.proofs.lemmas.List.{get_or_default}
use Rattle.std.proofs.lemmas.List.Sorted.{searched}
use Rattle.local_mesh.specs.Lookup.{IsLookup}
use Rattle.local_mesh.proofs.lookup.Lookup.local_of.Goals as goal

-- what a search doesn't find isn't there
absent : (xs : List ℕ) (x i : ℕ) → IsBinarySearchResult (λ y. nat_cmp y x) xs (Err i) → ((i j : ℕ) → i ≤ j → j < length xs → get_or xs i 0 ≤ get_or xs j 0) → Contains xs x → ⊥
absent xs x i pos rising c =
    let s = searched xs x (Err i) pos rising in
    let e : get_or xs c.0 0 ≡ x = get_or_default xs c.0 0 x c.1 ∙ c.2 in
    ⊎_elim
    (λ (l : c.0 < i). let h = s.1 c.0 l in absurd (omega arith))
    (λ (l : i ≤ c.0). let h = s.2 c.0 l c.1 in absurd (omega arith))
    (cases_lt c.0 i)

pub returns-in-Err-clause-none : goal.returns-in-Err-clause-none
returns-in-Err-clause-none c = λ k l e. (
    let h : IsLookup c.args.numbers.now c.in-Sorted.copies.items c.in-Sorted.locals.items = rw c.in-Sorted.is at c.requires in
    absent c.deref.result.now c.args.original c.in-Err.field-0 c.in-Err.ensures.position (rw c.deref.ensures.value h.rising)
    (subst (λ (q : List ℕ). Contains q c.args.original) (sym c.deref.ensures.value) (subst (λ z. Contains c.in-Sorted.copies.items z) e (h.all k l))))
