use Rattle.std.proofs.Common.{◌≡◌, ◌<◌, ◌+◌, ◌++◌, ◌∷◌, [], ℕ, List, length, get_or, arith, ap, sym, ◌∙◌, ⊎_elim, subst}
use Rattle.std.proofs.lemmas.Bool.{cases_eq}
use Rattle.std.proofs.lemmas.List.{with_items_is, length_push, get_or_push, get_or_append_left}
use Rattle.mesh_decl.specs.Mesh.{MeshValue, set_size, map_from, map_to}
use Rattle.renumber.specs.Degrees.{degree}
use Rattle.renumber.specs.Neighbours.{havers}
use Rattle.renumber.proofs.breadth_order.Having.{haver_at}
use Rattle.renumber.proofs.breadth_order.Marking.{degree_is}
use Rattle.renumber.proofs.breadth_order.counts.degrees.Goals as goal

number_more : (xs : List ℕ) (y n : ℕ) (f : ℕ → ℕ) → length xs ≡ n → ((k : ℕ) → k < n → get_or xs k 0 ≡ f k) → y ≡ f n → (k : ℕ) → k < n + 1 → get_or (xs ++ y ∷ []) k 0 ≡ f k
number_more xs y n f e h q k l = ⊎_elim
    (λ (s : k ≡ n). rw s (get_or_push xs y 0 n e ∙ q))
    (λ (s : k ≡ n → ⊥). let lk : k < n = omega arith in get_or_append_left xs (y ∷ []) 0 k (rw e lk) ∙ h k lk)
    (cases_eq k n)

-- what stands in a row of the inverse is an element
row_within : (g : MeshValue) (m x k : ℕ) (having : List ℕ) → having ≡ havers g m (set_size g (map_from g m)) x → k < length having → get_or having k 0 < set_size g (map_from g m)
row_within g m x k having e l = subst (λ (z : List ℕ). get_or z k 0 < set_size g (map_from g m)) (sym e) (haver_at g m (set_size g (map_from g m)) x k (subst (λ (z : List ℕ). k < length z) e l)).0

pub mark_neighbours-requires-clause-having : goal.mark_neighbours-requires-clause-having
mark_neighbours-requires-clause-having c = λ k l.
    let g = c.args.mesh.now in
    let m : ℕ = c.args.map in
    let x : ℕ = c.loop-number.number in
    let size : c.set_size-size.result ≡ set_size g (map_to g m) = c.set_size-size.ensures ∙ ap (set_size g) (ap (λ z. z.1) c.map_ends-to.ensures) in
    let lx : x < set_size g (map_to g m) = omega (arith, size, c.loop-number-test.true) in
    row_within g m x k c.row-having.result.now (c.row-having.ensures ∙ c.requires.by.row x lx) l

pub mark_neighbours-requires-clause-none : goal.mark_neighbours-requires-clause-none
mark_neighbours-requires-clause-none c = λ y l e.
    let v = c.loop-number.last in
    let inv = c.loop-number.invariant in
    inv.free y c.loop-number.number (omega (arith, l, c.deref_mut.ensures.len, v.ok.0, inv.size)) (omega arith) c.loop-number-test.true
    (ap (λ (q : List ℕ). get_or q y 0) (sym c.deref_mut.ensures.value) ∙ e)

pub loop-number-preserved : goal.loop-number-preserved
loop-number-preserved c =
    let g = c.args.mesh.now in
    let m : ℕ = c.args.map in
    let x : ℕ = c.loop-number.number in
    let v = c.loop-number.last in
    let news = c.mark_neighbours.new.last in
    let xs = c.loop-number.found.items in
    let inv = c.loop-number.invariant in
    let size : c.set_size-size.result ≡ set_size g (map_to g m) = c.set_size-size.ensures ∙ ap (set_size g) (ap (λ z. z.1) c.map_ends-to.ensures) in
    let lx : x < set_size g (map_to g m) = omega (arith, size, c.loop-number-test.true) in
    let row : c.row-having.result.now ≡ havers g m (set_size g (map_from g m)) x = c.row-having.ensures ∙ c.requires.by.row x lx in
    let n : length news ≡ v.len = omega (arith, c.mark_neighbours.auto.last, c.deref_mut.ensures.len) in
    let d : length c.deref_mut.result.now ≡ set_size g (map_to g m) = omega (arith, c.deref_mut.ensures.len, v.ok.0, inv.size, size) in
    let is : c.mark_neighbours.result ≡ degree g m x = c.mark_neighbours.ensures.count ∙ degree_is g m x (length c.deref_mut.result.now) c.row-having.result.now row d in
    rw (c.in_ok-push.ensures.items, with_items_is v news n) (record {
      count = omega (arith, length_push xs c.mark_neighbours.result, inv.count);
      degrees = number_more xs c.mark_neighbours.result x (degree g m) inv.count inv.degrees is;
      size = omega (arith, n, v.ok.0, inv.size);
      free = λ y z ly lz ls e. inv.free y z ly (omega (arith, lz)) ls
          (ap (λ (q : List ℕ). get_or q y 0) (sym c.deref_mut.ensures.value) ∙ c.mark_neighbours.ensures.others y z (λ s. absurd (omega (arith, s, lz))) e);
    })
