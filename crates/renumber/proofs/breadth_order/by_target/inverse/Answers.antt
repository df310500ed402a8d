use Rattle.std.proofs.Common.{◌≡◌, ◌<◌, ◌≤◌, ◌+◌, ◌++◌, ◌∷◌, [], ℕ, List, length, replicate, map, get_or, arith, ap, sym, ◌∙◌, refl, zero, suc}
use Rattle.std.proofs.lemmas.List.{length-map}
use Rattle.mesh_decl.specs.Mesh.{MeshValue, set_size, map_from, map_to}
use Rattle.renumber.specs.Parts.{FillingValue}
use Rattle.renumber.specs.Neighbours.{times, havers}
use Rattle.renumber.proofs.breadth_order.Having.{havers_more, length_more, length_le}
use Rattle.renumber.proofs.breadth_order.by_target.inverse.Goals as goal

empty_at : (lengths : List ℕ) (k : ℕ) → get_or (map {A = ℕ} {B = List ℕ} (λ (n : ℕ). []) lengths) k [] ≡ []
empty_at [] k = refl
empty_at (n ∷ lengths) zero = refl
empty_at (n ∷ lengths) (suc k) = empty_at lengths k

-- a row has room for one more element
row_fits : (g : MeshValue) (m e x n room : ℕ) (row : List ℕ) → e < n → row ≡ havers g m e x → room ≡ length (havers g m n x) → length row + times g m e x ≤ room
row_fits g m e x n room row l q r =
    let a = length_more g m e x in
    let b = length_le g m (e + 1) n x (omega (arith, l)) in
    let s = ap (length {A = ℕ}) q in
    omega (arith, a, b, s, r)

pub loop-element-init : goal.loop-element-init
loop-element-init c =
    let e = c.in_ok-filling.ensures in
    let lengths : List ℕ = c.deref.result.now in
    let d : lengths ≡ c.in_ok-counts.counts.items = c.deref.ensures.value in
    record {
      count = ap (λ (z : FillingValue). length z.rows) e ∙ (length-map {A = ℕ} {B = List ℕ} lengths (λ (n : ℕ). []) ∙ (ap (length {A = ℕ}) d ∙ c.in_ok-counts.ensures.length));
      room = λ x l. ap (λ (z : FillingValue). get_or z.room x 0) e ∙ (ap (λ (z : List ℕ). get_or z x 0) d ∙ c.in_ok-counts.ensures.counts x l);
      rows = λ x l. ap (λ (z : FillingValue). get_or z.rows x []) e ∙ empty_at lengths x;
    }

pub add_to_targets-requires-clause-room : goal.add_to_targets-requires-clause-room
add_to_targets-requires-clause-room c = λ x l.
    let g = c.args.mesh.now in
    let m : ℕ = c.args.map in
    let inv = c.loop-element.invariant in
    let lx : x < set_size g (map_to g m) = omega (arith, l, inv.count) in
    let from : c.set_size-element-end.result ≡ set_size g (map_from g m) = c.set_size-element-end.ensures ∙ ap (set_size g) (ap (λ z. z.0) c.map_ends-from.ensures) in
    row_fits g m c.loop-element.element x (set_size g (map_from g m)) (get_or c.loop-element.filling.room x 0)
    (get_or c.loop-element.filling.rows x []) (omega (arith, from, c.loop-element-test.true)) (inv.rows x lx) (inv.room x lx)

pub loop-element-preserved : goal.loop-element-preserved
loop-element-preserved c =
    let g = c.args.mesh.now in
    let m : ℕ = c.args.map in
    let e : ℕ = c.loop-element.element in
    let inv = c.loop-element.invariant in
    let ens = c.add_to_targets.ensures in
    record {
      count = ens.count ∙ inv.count;
      room = λ x l. ap (λ (z : List ℕ). get_or z x 0) ens.room ∙ inv.room x l;
      rows = λ x l. ens.rows x (omega (arith, l, inv.count)) ∙ (ap (λ (z : List ℕ). z ++ replicate (times g m e x) e) (inv.rows x l) ∙ sym (havers_more g m e x));
    }
