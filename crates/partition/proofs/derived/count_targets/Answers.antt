use Rattle.std.proofs.Common.{◌≡◌, ◌<◌, ◌≤◌, ◌/◌, ◌%◌, ◌+◌, ◌*◌, ℕ, length, get_or, set, ap, subst, arith}
use Rattle.mesh_decl.specs.Mesh.{map_dim, target}
use Rattle.lemmas.specs.Below.{count_below}
use Rattle.partition.specs.Elected.{names}
use Rattle.partition.proofs.Naming.{count_most, naming_counted, entry_target, entry_fits}
use Rattle.partition.proofs.derived.count_targets.Goals as goal

pub loop-place-init : goal.loop-place-init
loop-place-init c = λ y l. (let s : c.args.element * map_dim c.args.mesh.now c.args.map ≡ c.args.element * map_dim c.args.mesh.now
    c.args.map + 0 = omega arith in subst (λ z. get_or c.args.counts.now y 0 ≡ count_below z (names c.args.mesh.now c.args.map y)) s
    (c.requires.counts y l))

pub overflow_add-counts : goal.overflow_add-counts
overflow_add-counts c =
    let g = c.args.mesh.now in
    let m : ℕ = c.args.map in
    let t : ℕ = c.target-target.result in
    let e : ℕ = c.args.element * map_dim g m + c.loop-place.place in
    let d : c.map_ends-dim.result.2 ≡ map_dim g m = ap (λ (z : ℕ × ℕ × ℕ). z.2) c.map_ends-dim.ensures in
    let most : count_below e (names g m t) ≤ e = count_most e (names g m t) in
    let v : get_or c.loop-place.counts t 0 ≤ e = rw (c.loop-place.invariant t c.target-target.ensures.within) most in
    let fits = entry_fits c.args.element (map_dim g m) c.loop-place.place (get_or c.loop-place.counts t 0) (omega (arith, c.ranges.element))
    (omega (arith, d, c.map_ends-dim.type_inv)) (omega (arith, d, c.loop-place-test.true)) v in
    omega (arith, fits)

pub loop-place-preserved : goal.loop-place-preserved
loop-place-preserved c =
    let g = c.args.mesh.now in
    let m : ℕ = c.args.map in
    let e : ℕ = c.args.element * map_dim g m + c.loop-place.place in
    let t : ℕ = c.target-target.result in
    let d : c.map_ends-dim.result.2 ≡ map_dim g m = ap (λ (z : ℕ × ℕ × ℕ). z.2) c.map_ends-dim.ensures in
    let li : c.loop-place.place < map_dim g m = omega (arith, d, c.loop-place-test.true) in
    let q : t ≡ target g m (e / map_dim g m) (e % map_dim g m) = entry_target g m c.args.element c.loop-place.place t li c.target-target.ensures.value in
    let counts = c.loop-place.counts in
    let within : t < length counts = rw (c.loop-place.auto.counts, c.requires.length) c.target-target.ensures.within in
    let s : e + 1 ≡ c.args.element * map_dim g m + (c.loop-place.place + 1) = omega arith in
    λ y l. subst (λ z. get_or (set counts t (get_or counts t 0 + 1)) y 0 ≡ count_below z (names g m y)) s
    (naming_counted g m e t q counts (get_or counts t 0) y within (c.loop-place.invariant t c.target-target.ensures.within) (c.loop-place.invariant y l))

pub returns : goal.returns
returns c =
    let g = c.args.mesh.now in
    let m : ℕ = c.args.map in
    let d : c.map_ends-dim.result.2 ≡ map_dim g m = ap (λ (z : ℕ × ℕ × ℕ). z.2) c.map_ends-dim.ensures in
    let s : c.args.element * map_dim g m + c.loop-place.place ≡ (c.args.element + 1) * map_dim g m = omega (arith, d, c.loop-place-test.false, c.loop-place.auto.place-end) in
    λ y l. subst (λ z. get_or c.loop-place.counts y 0 ≡ count_below z (names g m y)) s (c.loop-place.invariant y l)
