use Rattle.std.proofs.Common.{◌≡◌, ◌∙◌, ℕ, List, [], arith, refl, reverse, get_or, ap, sym, subst}
use Rattle.std.proofs.lemmas.List.{length_push}
use Rattle.mesh_decl.specs.Mesh.{set_count, set_size, map_from, map_to}
use Rattle.mesh_decl.specs.Owners.{IsNumbering, perm_in}
use Rattle.lemmas.proofs.Growing.{list_more}
use Rattle.renumber.specs.Neighbours.{are_neighbours}
use Rattle.renumber.specs.Degrees.{degree_order}
use Rattle.renumber.specs.CuthillMcKee.{IsSetOrder, IsByTargets}
use Rattle.renumber.proofs.Reversed.{reversed_numbering}
use Rattle.renumber.proofs.cuthill_mckee.Goals as goal

pub set_order-requires-clause-order : goal.set_order-requires-clause-order
set_order-requires-clause-order c =
    let g = c.args.mesh.now in
    let n : ℕ = set_size g (map_to g c.args.map) in
    let e = c.deref-in-loop-set.ensures.value ∙ (c.in_ok-order.ensures ∙ ap (reverse {A = ℕ}) c.deref.ensures.value) in
    subst (λ (z : List ℕ). IsNumbering n z) (sym e)
    (reversed_numbering n (are_neighbours g c.args.map) (degree_order g c.args.map) c.in_ok-taken.taken.items
    c.in_ok-taken.ensures.length c.in_ok-taken.ensures.all c.in_ok-taken.ensures.taken)

pub loop-set-preserved : goal.loop-set-preserved
loop-set-preserved c =
    let g = c.args.mesh.now in
    let m : ℕ = c.args.map in
    let xs = c.loop-set.sets.items in
    let y : List ℕ = c.new.result in
    let n : ℕ = c.loop-set.set in
    let order = c.in_ok-order.order.items in
    let q = subst (λ (z : List ℕ). IsSetOrder g m z n c.in_ok-set_order.field-0.items) c.deref-in-loop-set.ensures.value c.in_ok-set_order.ensures in
    rw c.in_ok-push.ensures.items (
      omega (arith, length_push xs y, c.loop-set.invariant.0),
      list_more xs y n (λ s z. IsSetOrder g m order s z) c.loop-set.invariant.0 c.loop-set.invariant.1 (subst (λ (z : List ℕ). IsSetOrder g m order n z) (sym c.new.ensures) q),
    )

pub returns : goal.returns
unfolding perm_in
returns c =
    let g = c.args.mesh.now in
    let m : ℕ = c.args.map in
    let inv = c.loop-set.invariant in
    let xs = c.loop-set.sets.items in
    let n : c.loop-set.set ≡ set_count g = omega (arith, c.set_count-set-end.ensures.count, c.loop-set-test.false, c.loop-set.auto.set-end) in
    let at = c.is_in_range.ensures.maps m c.requires in
    let to = inv.1 (map_to g m) (rw n at.to) in
    let from = inv.1 (map_from g m) (rw n at.from) in
    let e : get_or xs (map_to g m) [] ≡ c.in_ok-order.order.items = to.reached refl in
    record {
      perms = record {
        sets = inv.0 ∙ n;
        numbers = λ s l. (inv.1 s (rw n l)).numbering;
      };
      order = c.in_ok-taken.taken.items;
      taken = c.in_ok-taken.ensures.taken;
      reversed = e ∙ (c.in_ok-order.ensures ∙ ap (reverse {A = ℕ}) c.deref.ensures.value);
      leading = λ ne. subst (λ (z : List ℕ). IsByTargets g m z (get_or xs (map_from g m) [])) (sym e) (from.leading refl ne);
      others = λ s x l lx nf nt. (inv.1 s (rw n l)).others nf nt x lx;
    }
