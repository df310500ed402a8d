use Rattle.std.proofs.Common.{◌≡◌, ◌<◌, ◌/◌, ◌%◌, ◌∙◌, ◌++◌, ◌∷◌, [], ◌+◌, ◌*◌, ℕ, length, get_or, set, ap, subst, sym, length-set, arith}
use Rattle.mesh_decl.specs.Mesh.{set_size, map_from, map_dim, target}
use Rattle.lemmas.specs.Below.{count_below}
use Rattle.lemmas.proofs.Below.{count_lt}
use Rattle.partition.specs.Elected.{names, entries, gathered}
use Rattle.std.proofs.lemmas.Nat.{div-mul-add}
use Rattle.partition.specs.Named.{AreNamed}
use Rattle.partition.proofs.Gathered.{length_gathered}
use Rattle.partition.proofs.Naming.{it_names, naming_rowed, entry_target, entry_before}
use Rattle.partition.proofs.derived.push_owner.Goals as goal

pub loop-place-init : goal.loop-place-init
loop-place-init c =
    let s : c.args.element * map_dim c.args.mesh.now c.args.map ≡ c.args.element * map_dim c.args.mesh.now c.args.map + 0 = omega arith in
    subst (λ z. AreNamed c.args.mesh.now c.args.map c.args.owners.now z c.args.filling.now) s c.requires.rows

pub push-requires-clause-room : goal.push-requires-clause-room
push-requires-clause-room c =
    let g = c.args.mesh.now in
    let m : ℕ = c.args.map in
    let f : ℕ → ℕ = λ i. get_or c.args.owners.now (i / map_dim g m) 0 in
    let e : ℕ = c.args.element * map_dim g m + c.loop-place.place in
    let t : ℕ = c.target-target.result in
    let d : c.map_ends-dim.result.2 ≡ map_dim g m = ap (λ (z : ℕ × ℕ × ℕ). z.2) c.map_ends-dim.ensures in
    let li : c.loop-place.place < map_dim g m = omega (arith, d, c.loop-place-test.true) in
    let q : t ≡ target g m (e / map_dim g m) (e % map_dim g m) = entry_target g m c.args.element c.loop-place.place t li c.target-target.ensures.value in
    let inv = c.loop-place.invariant in
    let here : length (get_or c.loop-place.filling.rows t []) ≡ count_below e (names g m t) = ap (length {A = ℕ}) (inv.rows t c.target-target.ensures.within) ∙ length_gathered e (names g m t) f in
    let more = count_lt e (entries g m) (names g m t) (entry_before c.args.element (map_dim g m) c.loop-place.place (set_size g (map_from g m)) c.requires.element li) (it_names g m e t q) in
    let room = inv.room t c.target-target.ensures.within in
    omega (arith, here, more, room)

pub loop-place-preserved : goal.loop-place-preserved
loop-place-preserved c =
    let g = c.args.mesh.now in
    let m : ℕ = c.args.map in
    let f : ℕ → ℕ = λ i. get_or c.args.owners.now (i / map_dim g m) 0 in
    let e : ℕ = c.args.element * map_dim g m + c.loop-place.place in
    let t : ℕ = c.target-target.result in
    let d : c.map_ends-dim.result.2 ≡ map_dim g m = ap (λ (z : ℕ × ℕ × ℕ). z.2) c.map_ends-dim.ensures in
    let li : c.loop-place.place < map_dim g m = omega (arith, d, c.loop-place-test.true) in
    let q : t ≡ target g m (e / map_dim g m) (e % map_dim g m) = entry_target g m c.args.element c.loop-place.place t li c.target-target.ensures.value in
    let rows = c.loop-place.filling.rows in
    let inv = c.loop-place.invariant in
    let o : ℕ = get_or c.args.owners.now c.args.element 0 in
    let of : o ≡ f e = ap (λ z. get_or c.args.owners.now z 0) (sym (div-mul-add c.args.element (map_dim g m) c.loop-place.place li)) in
    let within : t < length rows = rw inv.count c.target-target.ensures.within in
    let s : e + 1 ≡ c.args.element * map_dim g m + (c.loop-place.place + 1) = omega arith in
    rw c.push.ensures (record {
      count = length-set rows t (get_or rows t [] ++ o ∷ []) ∙ inv.count;
      room = inv.room;
      rows = λ y l. subst (λ z. get_or (set rows t (get_or rows t [] ++ o ∷ [])) y [] ≡ gathered z (names g m y) f) s
          (naming_rowed g m e t q f o rows y of within (inv.rows t c.target-target.ensures.within) (inv.rows y l));
    })

pub returns : goal.returns
returns c =
    let g = c.args.mesh.now in
    let m : ℕ = c.args.map in
    let d : c.map_ends-dim.result.2 ≡ map_dim g m = ap (λ (z : ℕ × ℕ × ℕ). z.2) c.map_ends-dim.ensures in
    let s : c.args.element * map_dim g m + c.loop-place.place ≡ (c.args.element + 1) * map_dim g m = omega (arith, d, c.loop-place-test.false, c.loop-place.auto.place-end) in
    subst (λ z. AreNamed g m c.args.owners.now z c.loop-place.filling) s c.loop-place.invariant
