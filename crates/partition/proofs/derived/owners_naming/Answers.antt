use Rattle.std.proofs.Common.{◌*◌, ◌≡◌, ◌<◌, ◌/◌, ◌∙◌, [], ℕ, List, length, get_or, ap, subst, sym, arith}
use Rattle.std.proofs.lemmas.List.{length-map, get_or-map}
use Rattle.mesh_decl.specs.Mesh.{set_size, map_from, map_to, map_dim}
use Rattle.lemmas.specs.Below.{count_below}
use Rattle.renumber.specs.Parts.{FillingValue}
use Rattle.partition.specs.Elected.{names, gathered}
use Rattle.partition.proofs.Gathered.{length_gathered}
use Rattle.partition.proofs.derived.owners_naming.Goals as goal

abbrev no_numbers : List ℕ
no_numbers = []

pub loop-element-init : goal.loop-element-init
loop-element-init c =
    let e = c.in_ok-filling.ensures in
    let g = c.args.mesh.now in
    let m : ℕ = c.args.map in
    let lengths : List ℕ = c.deref.result.now in
    let d : lengths ≡ c.in_ok-counts.counts.items = c.deref.ensures.value in
    let n : length lengths ≡ set_size g (map_to g m) = ap (length {A = ℕ}) d ∙ c.in_ok-counts.ensures.length in
    let none : 0 ≡ 0 * map_dim g m = omega arith in
    record {
      count = ap (λ (z : FillingValue). length z.rows) e ∙ (length-map lengths (λ (n : ℕ). no_numbers) ∙ n);
      room = λ y l. ap (λ (z : FillingValue). get_or z.room y 0) e ∙ (ap (λ (z : List ℕ). get_or z y 0) d ∙ c.in_ok-counts.ensures.counts y l);
      rows = λ y l. subst (λ z. get_or c.in_ok-filling.filling.rows y [] ≡ gathered z (names g m y) (λ i. get_or c.args.owners.now (i / map_dim g m) 0)) none
          (ap (λ (z : FillingValue). get_or z.rows y []) e ∙ get_or-map (λ (n : ℕ). no_numbers) lengths y 0 [] (rw n l));
    }

pub finish-requires : goal.finish-requires
finish-requires c =
    let g = c.args.mesh.now in
    let m : ℕ = c.args.map in
    let f : ℕ → ℕ = λ i. get_or c.args.owners.now (i / map_dim g m) 0 in
    let n : c.set_size-element-end.result ≡ set_size g (map_from g m) = c.set_size-element-end.ensures ∙ ap (λ (z : ℕ × ℕ × ℕ). set_size g z.0) c.map_ends-from.ensures in
    let s : c.loop-element.element ≡ set_size g (map_from g m) = omega (arith, n, c.loop-element-test.false, c.loop-element.auto.element-end) in
    let inv = c.loop-element.invariant in
    λ k l.
    let lk : k < set_size g (map_to g m) = rw (sym inv.count) l in
    ap (length {A = ℕ}) (inv.rows k lk)
    ∙ (length_gathered (c.loop-element.element * map_dim g m) (names g m k) f
    ∙ (ap (λ n. count_below (n * map_dim g m) (names g m k)) s ∙ sym (inv.room k lk)))

pub returns : goal.returns
returns c =
    let g = c.args.mesh.now in
    let m : ℕ = c.args.map in
    let n : c.set_size-element-end.result ≡ set_size g (map_from g m) = c.set_size-element-end.ensures ∙ ap (λ (z : ℕ × ℕ × ℕ). set_size g z.0) c.map_ends-from.ensures in
    let s : c.loop-element.element ≡ set_size g (map_from g m) = omega (arith, n, c.loop-element-test.false, c.loop-element.auto.element-end) in
    let inv = c.loop-element.invariant in
    rw c.finish.ensures (record {
      length = inv.count;
      lists = λ y l. inv.rows y l ∙ ap (λ z. gathered (z * map_dim g m) (names g m y) (λ e. get_or c.args.owners.now (e / map_dim g m) 0)) s;
    })
