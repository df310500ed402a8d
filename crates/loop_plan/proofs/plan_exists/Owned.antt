-- Owners, as they are asked for.
use Rattle.std.proofs.Common.{◌≡◌, ◌<◌, ◌≤◌, ℕ, List, [], ◌∷◌, slice_set, length, get_or, map, Option, Some, None, Result, Ok, Err, refl, sym, ap, ◌∙◌, subst, arith}
use Rattle.std.proofs.lemmas.List.{length-map, length-set, length-replicate}
use Rattle.mesh_decl.specs.declared.owners.Owners.{Owners}
use Rattle.mesh_decl.specs.Mesh.{MeshValue, IsMesh, IsMapAt, IsDatAt, set_count, map_count, dat_count, set_size, map_to, map_name, dat_set, dat_dim, dat_values, dat_name}
use Rattle.mesh_decl.specs.Owners.{owner_of}
use Rattle.mesh_decl.specs.Named.{Names}
use Rattle.renumber.specs.Neighbours.{are_neighbours}
use Rattle.partition.specs.Spelling.{Table, Given, no_ranks, AreSets, Spells}
use Rattle.partition.specs.Reading.{Read, Reads}
use Rattle.partition.specs.Grow.{IsGrown}
use Rattle.partition.specs.Bisect.{IsBisected}
use Rattle.partition.specs.Parts.{Parts, Block, Bisect, Grow, Text, OwnersRefusal, NoDat, NoMap, Unspelled}
use Rattle.partition.specs.Judgements.{AreBisected, AreGrown, OwnersAre}
use Rattle.loop_plan.proofs.plan_exists.Built.{vec_of, items_are}
use Rattle.loop_plan.proofs.plan_exists.Named.{some_named}
use Rattle.loop_plan.proofs.plan_exists.Blocks.{some_blocks}
use Rattle.loop_plan.proofs.plan_exists.Derived.{from_one}
use Rattle.loop_plan.proofs.plan_exists.Grown.{grown_list, length_grown, grown_below, is_grown}
use Rattle.loop_plan.proofs.plan_exists.Halved.{bisected_list, length_bisected, bisected_below, is_bisected}

-- ---- the owners that a text spells are as many lists as the mesh has sets

table_kept : (g : MeshValue) (ranks : ℕ) (ts : List (List ℕ)) (ss : List Given) (before after : Table) → AreSets g ranks ts ss before after → length after ≡ length before
table_kept g ranks ts [] before after a = ap length (sym a.1)
table_kept g ranks ts (s ∷ ss) before after a = table_kept g ranks a.1 ss (slice_set before s.0 (Some s.1)) after a.5 ∙ length-set before s.0 (Some s.1)

spelled_count : (g : MeshValue) (ranks : ℕ) (bytes : List ℕ) (lists : List (List ℕ)) → Spells g ranks bytes lists → length lists ≡ set_count g
spelled_count g ranks bytes lists s =
    sym (length-map lists (λ rs. Some rs))
    ∙ (table_kept g ranks s.2.0 s.2.1 (no_ranks g) (map (λ rs. Some rs) lists) s.2.3 ∙ length-replicate (set_count g) None)

-- ---- what is asked for

module _
    (maps : (g : MeshValue) → IsMesh g → (m : ℕ) → m < map_count g → IsMapAt g m)
    (dats : (g : MeshValue) → IsMesh g → (d : ℕ) → d < dat_count g → IsDatAt g d)
    (some_read : (g : MeshValue) (ranks : ℕ) (bytes : List ℕ) → (o : Read) × Reads g ranks bytes o)
    (g : MeshValue) (mesh : IsMesh g) (ranks : ℕ) (some : 0 < ranks) (few : ranks ≤ 64)
  where
    some_bisected : (d : ℕ) → d < dat_count g → (o : Owners) × AreBisected g ranks d o
    some_bisected d l =
        let at = dats g mesh d l in
        let n : ℕ = set_size g (dat_set g d) in
        let xs = bisected_list ranks some n (dat_values g d) (dat_dim g d) at.some in
        let from = from_one ranks some few g mesh (dat_set g d) xs at.set
        (length_bisected ranks some n (dat_values g d) (dat_dim g d) at.some)
        (bisected_below ranks some n (dat_values g d) (dat_dim g d) at.some) in (
          from.owners,
          record {
            count = from.ranks_are;
            cuts = subst (IsBisected n ranks (dat_values g d) (dat_dim g d)) (sym from.kept) (is_bisected ranks some n (dat_values g d) (dat_dim g d) at.some);
            derived = from.derived;
          },
        )

    some_grown : (m : ℕ) → m < map_count g → (o : Owners) × AreGrown g ranks m o
    unfolding owner_of
    some_grown m l =
        let at = maps g mesh m l in
        let n : ℕ = set_size g (map_to g m) in
        let xs = grown_list ranks some n (are_neighbours g m) in
        let from = from_one ranks some few g mesh (map_to g m) xs at.to
        (length_grown ranks some n (are_neighbours g m))
        (grown_below ranks some n (are_neighbours g m)) in (
          from.owners,
          record {
            count = from.ranks_are;
            grown = subst (λ z. IsGrown n ranks (are_neighbours g m) (λ y. get_or z y 0)) (sym from.kept) (is_grown ranks some n (are_neighbours g m));
            derived = from.derived;
          },
        )

    -- owners that a text spells
    spelled : (bytes : List ℕ) (lists : List (List ℕ)) → Spells g ranks bytes lists → (o : Owners) × (o.ranks ≡ ranks) × Spells g ranks bytes o.sets.items
    spelled bytes lists h =
        let e : (vec_of lists).items ≡ lists = items_are lists (let c = spelled_count g ranks bytes lists h in let f = mesh.few_sets in omega arith) in
        (record { ranks = ranks; sets = vec_of lists }, refl, subst (Spells g ranks bytes) (sym e) h)

    pub some_owners : (parts : Parts) → (r : Result Owners OwnersRefusal) × OwnersAre g ranks parts r
    some_owners Block = let b = some_blocks ranks some few g mesh in (Ok b.0, b.1)
    some_owners (Bisect name) = by_name (some_named (dat_name g) name (dat_count g))
      where
        by_name : (o : Option ℕ) × Names (dat_count g) (dat_name g) name o → (r : Result Owners OwnersRefusal) × OwnersAre g ranks (Bisect name) r
        by_name (None, h) = (Err (NoDat name), (h, refl))
        by_name (Some d, h) = let o = some_bisected d h.within in (Ok o.0, (d, h, o.1))
    some_owners (Grow name) = by_name (some_named (map_name g) name (map_count g))
      where
        by_name : (o : Option ℕ) × Names (map_count g) (map_name g) name o → (r : Result Owners OwnersRefusal) × OwnersAre g ranks (Grow name) r
        by_name (None, h) = (Err (NoMap name), (h, refl))
        by_name (Some m, h) = let o = some_grown m h.within in (Ok o.0, (m, h, o.1))
    some_owners (Text bytes) = by_text (some_read g ranks bytes)
      where
        by_text : (o : Read) × Reads g ranks bytes o → (r : Result Owners OwnersRefusal) × OwnersAre g ranks (Text bytes) r
        by_text (Ok lists, h) = let o = spelled bytes lists h in (Ok o.0, (o.1, o.2))
        by_text (Err e, h) = (Err (Unspelled e), (e, h, refl))
