use Rattle.std.proofs.Common.{◌≡◌, ◌∙◌, ◌*◌, ◌++◌, ℕ, List, length, get_or, take, drop, ap, subst, sym, arith}
use Rattle.std.proofs.lemmas.List.{take_all, take-append-le}
use Rattle.mesh_decl.specs.Mesh.{set_size, map_from, map_dim}
use Rattle.lemmas.specs.Below.{count_below}
use Rattle.partition.specs.Elected.{names}
use Rattle.partition.proofs.derived.naming_counts.Goals as goal

pub count_targets-requires-clause-counts : goal.count_targets-requires-clause-counts
count_targets-requires-clause-counts c =
    let g = c.args.mesh.now in
    let m : ℕ = c.args.map in
    λ y l. subst (λ (z : List ℕ). get_or z y 0 ≡ count_below (c.loop-element.element * map_dim g m) (names g m y)) (sym c.deref_mut.ensures.value) (c.loop-element.invariant.1 y l)

pub loop-element-preserved : goal.loop-element-preserved
loop-element-preserved c =
    let g = c.args.mesh.now in
    let m : ℕ = c.args.map in
    let xs : List ℕ = c.count_targets.new.counts in
    let old : List ℕ = c.loop-element.counts.items in
    let n : ℕ = c.loop-element.counts.len in
    let l : length xs ≡ n = omega (arith, c.count_targets.auto.counts, c.deref_mut.ensures.len) in
    let o : length xs ≡ length old = c.count_targets.auto.counts ∙ ap (length {A = ℕ}) c.deref_mut.ensures.value in
    let e : take n (xs ++ drop (length xs) old) ≡ xs = take-append-le n xs (drop (length xs) old) (omega (arith, l)) ∙ take_all n xs (omega (arith, l)) in
    rw e (o ∙ c.loop-element.invariant.0, c.count_targets.ensures)

pub returns-clause-counts : goal.returns-clause-counts
returns-clause-counts c =
    let g = c.args.mesh.now in
    let m : ℕ = c.args.map in
    let n : c.set_size-element-end.result ≡ set_size g (map_from g m) = c.set_size-element-end.ensures ∙ ap (λ (z : ℕ × ℕ × ℕ). set_size g z.0) c.map_ends-from.ensures in
    let s : c.loop-element.element ≡ set_size g (map_from g m) = omega (arith, n, c.loop-element-test.false, c.loop-element.auto.element-end) in
    λ y l. subst (λ z. get_or c.loop-element.counts.items y 0 ≡ count_below (z * map_dim g m) (names g m y)) s (c.loop-element.invariant.1 y l)
