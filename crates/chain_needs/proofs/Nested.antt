-- The sets of one dat, read after a write.
use Rattle.std.proofs.Common.{◌≡◌, ◌≢◌, ℕ, ◌<◌, List, [], length, get_or, set, map, Vec, sym, ap, ◌∙◌}
use Rattle.std.specs.declared.alloc.Global.{Global}
use Rattle.std.specs.Vec.{with_items}
use Rattle.std.proofs.lemmas.List.{get_or-map, map-set, get_or-set_same, get_or-set_other, length-map, with_items_is}
use Rattle.local_mesh.specs.declared.rank_sets.rank_set.RankSet.{RankSet}
use Rattle.local_mesh.specs.Sets.{sets_in}

sets_set_same : (xs : List (Vec RankSet Global)) (i : ℕ) (v : Vec RankSet Global) → i < length xs → sets_in (set xs i v) i ≡ v.items
unfolding sets_in
sets_set_same xs i v l =
    let h : i < length (map (λ (q : Vec RankSet Global). q.items) xs) = rw (length-map xs (λ (q : Vec RankSet Global). q.items)) l in
    ap (λ z. get_or z i []) (map-set (λ (q : Vec RankSet Global). q.items) xs i v) ∙ get_or-set_same (map (λ (q : Vec RankSet Global). q.items) xs) i v.items [] h

pub sets_set_other : (xs : List (Vec RankSet Global)) (i j : ℕ) (v : Vec RankSet Global) → j ≢ i → sets_in (set xs i v) j ≡ sets_in xs j
unfolding sets_in
sets_set_other xs i j v n =
    ap (λ z. get_or z j []) (map-set (λ (q : Vec RankSet Global). q.items) xs i v) ∙ get_or-set_other (map (λ (q : Vec RankSet Global). q.items) xs) i j v.items [] n

pub sets_at : (xs : List (Vec RankSet Global)) (i : ℕ) (v : Vec RankSet Global) → i < length xs → (get_or xs i v).items ≡ sets_in xs i
unfolding sets_in
sets_at xs i v l = sym (get_or-map (λ (q : Vec RankSet Global). q.items) xs i v [] l)

pub put_back : (xs : List (Vec RankSet Global)) (i : ℕ) (v : Vec RankSet Global) (new : List RankSet) → i < length xs → length new ≡ v.len → sets_in (set xs i (with_items v new)) i ≡ new
put_back xs i v new l n = sets_set_same xs i (with_items v new) l ∙ with_items_is v new n
