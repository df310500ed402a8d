-- The look-up of local numbers, and local targets, from a scratch list of local numbers.
use Rattle.std.proofs.Common.{◌≡◌, ◌+◌, ◌*◌, ◌<◌, ◌≤◌, ◌∙◌, ℕ, List, length, get_or, take, arith, sym, ap, subst}
use Rattle.std.specs.List.{Contains}
use Rattle.std.proofs.lemmas.List.{get_or-take, length-take-le}
use Rattle.mesh_decl.specs.Mesh.{MeshValue, IsMapAt, map_count, map_from, map_to, map_dim, target}
use Rattle.local_mesh.specs.declared.types.LocalSet.{LocalSet}
use Rattle.local_mesh.specs.Lookup.{IsLookup}
use Rattle.local_mesh.specs.Parts.{AreParts, AreSorted}
use Rattle.local_mesh.specs.LocalMesh.{originals_in, executed_in, AreClosed, AreLocalTargets}
use Rattle.lemmas.proofs.Lists.{contains_at}

pub lookup_is : (room : ℕ) (original copies read locals scratch : List ℕ) → AreParts room original → AreSorted original copies
    → read ≡ copies → length locals ≡ length read → ((k : ℕ) → k < length read → get_or locals k 0 ≡ get_or scratch (get_or read k 0) 0)
    → ((k : ℕ) → k < length original → get_or scratch (get_or original k 0) 0 ≡ k) → IsLookup original copies locals
lookup_is room original copies read locals scratch parts sorted e ll at num = record {
  same = ll ∙ ap (length {A = ℕ}) e;
  within = λ k l. (let c = sorted.found k l in rw (local_is k l) c.1);
  stands = λ k l. rw (local_is k l) (contains_at original (get_or copies k 0) (sorted.found k l));
  all = sorted.all;
  rising = sorted.rising;
  apart = parts.apart;
}
  where
    read_at : (k : ℕ) → k < length copies → get_or locals k 0 ≡ get_or scratch (get_or copies k 0) 0
    read_at = subst (λ (z : List ℕ). (k : ℕ) → k < length z → get_or locals k 0 ≡ get_or scratch (get_or z k 0) 0) e at

    local_is : (k : ℕ) (l : k < length copies) → get_or locals k 0 ≡ (sorted.found k l).0
    local_is k l =
        let c = sorted.found k l in
        read_at k l ∙ (ap (λ z. get_or scratch z 0) (sym (contains_at original (get_or copies k 0) c)) ∙ num c.0 c.1)

pub targets_are : (g : MeshValue) (m : ℕ) (sets : List LocalSet) (here there elements scratch table : List ℕ) (n : ℕ) → AreClosed g sets
    → m < map_count g → IsMapAt g m → there ≡ originals_in sets (map_to g m) → here ≡ originals_in sets (map_from g m)
    → n ≡ executed_in sets (map_from g m) → elements ≡ take n here → ((k : ℕ) → k < length there → get_or scratch (get_or there k 0) 0 ≡ k)
    → length table ≡ length elements * map_dim g m →
    ((k i : ℕ) → k < length elements → i < map_dim g m → get_or table (k * map_dim g m + i) 0 ≡ get_or scratch
    (target g m (get_or elements k 0) i) 0) → AreLocalTargets g m sets table
targets_are g m sets here there elements scratch table n closed lm at et eh en ee num lt values = record {
  count = lt ∙ ap (λ z. z * map_dim g m) (len ∙ en);
  within = λ k i lk li. (let c = found k i lk li in rw (entry k i lk li) c.1);
  targets = λ k i lk li. rw (entry k i lk li) (contains_at (originals_in sets (map_to g m)) (target g m (get_or (originals_in sets (map_from g m)) k 0) i) (found k i lk li));
}
  where
    len : length elements ≡ n
    len =
        let a : length here ≡ length (originals_in sets (map_from g m)) = ap (length {A = ℕ}) eh in
        let b = closed.executed (map_from g m) at.from in
        let l : n ≤ length here = omega arith in
        ap (length {A = ℕ}) ee ∙ length-take-le n here l

    found : (k i : ℕ) → k < executed_in sets (map_from g m) → i < map_dim g m → Contains (originals_in sets (map_to g m)) (target g m (get_or (originals_in sets (map_from g m)) k 0) i)
    found k i lk li = closed.targets m k i lm lk li

    element : (k : ℕ) → k < n → get_or elements k 0 ≡ get_or (originals_in sets (map_from g m)) k 0
    element k l = ap (λ (z : List ℕ). get_or z k 0) ee ∙ (get_or-take n here k 0 l ∙ ap (λ (z : List ℕ). get_or z k 0) eh)

    numbers : (k : ℕ) → k < length (originals_in sets (map_to g m)) → get_or scratch (get_or (originals_in sets (map_to g m)) k 0) 0 ≡ k
    numbers = subst (λ (z : List ℕ). (k : ℕ) → k < length z → get_or scratch (get_or z k 0) 0 ≡ k) et num

    entry : (k i : ℕ) (lk : k < executed_in sets (map_from g m)) (li : i < map_dim g m) → get_or table (k * map_dim g m + i) 0 ≡ (found k i lk li).0
    entry k i lk li =
        let c = found k i lk li in
        let l : k < length elements = omega (arith, len) in
        let ln : k < n = omega arith in
        values k i l li ∙ (ap (λ z. get_or scratch (target g m z i) 0) (element k ln)
        ∙ (ap (λ z. get_or scratch z 0) (sym (contains_at (originals_in sets (map_to g m)) (target g m (get_or (originals_in sets (map_from g m)) k 0) i) c)) ∙ numbers c.0 c.1))
