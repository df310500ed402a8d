use Rattle.std.proofs.Common.{◌≡◌, ◌<◌, ℕ, List, length, get_or, arith, subst}
use Rattle.std.proofs.lemmas.List.{length_push, get_or_read}
use Rattle.local_mesh.specs.declared.halo_lists.types.SetHalo.{SetHalo}
use Rattle.local_mesh.specs.declared.types.Groups.{Groups}
use Rattle.local_mesh.specs.declared.types.LocalSet.{LocalSet}
use Rattle.local_mesh.specs.Parts.{IsJoinedFrom}
use Rattle.local_mesh.proofs.Growing.{each_more}
use Rattle.local_mesh.proofs.numbers.local_sets.Goals as goal

joined_at : (r : ℕ) (groups : List Groups) (halos : List SetHalo) (n : ℕ) (x : Groups) (y : SetHalo) (v : LocalSet) → n < length groups
    → n < length halos → x ≡ get_or groups n x → y ≡ get_or halos n y → IsJoinedFrom r x y v → (t : Groups) (h : SetHalo)
    → IsJoinedFrom r (get_or groups n t) (get_or halos n h) v
joined_at r groups halos n x y v l m ex ey j t h =
    subst (λ (z : Groups). IsJoinedFrom r z (get_or halos n h) v) (get_or_read groups n x l ex t) (subst (λ (z : SetHalo). IsJoinedFrom r x z v) (get_or_read halos n y m ey h) j)

pub loop-set-preserved : goal.loop-set-preserved
loop-set-preserved c =
    let groups = c.args.groups.now in
    let halos = c.args.halos.now.sets.items in
    let n : ℕ = c.loop-set.set in
    let xs = c.loop-set.sets.items in
    let v = c.in_ok-set_of_rank.field-0 in
    let each = each_more xs v n (λ s z. (t : Groups) (h : SetHalo) → IsJoinedFrom c.args.rank (get_or groups s t) (get_or halos s h) z) c.loop-set.invariant.0
    (joined_at c.args.rank groups halos n c.index-groups-set.result c.index-halo.result.now v c.loop-set-test.true
    (rw c.requires.halos c.loop-set-test.true) c.index-groups-set.is c.index-halo.ensures c.in_ok-set_of_rank.ensures)
    (λ s d l t h. c.loop-set.invariant.1 s t h d l) in
    rw c.in_ok-push.ensures.items (
      omega (arith, length_push xs v, c.loop-set.invariant.0),
      λ s t h d l. each s d l t h,
    )
