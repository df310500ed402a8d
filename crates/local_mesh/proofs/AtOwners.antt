-- Local numbers of elements on their owners, rank by rank; and what is read at lists of elements.
use Rattle.std.proofs.Common.{◌≡◌, ℕ, ◌+◌, ◌<◌, ◌≤◌, Bool, true, ◌&&◌, ◌||◌, List, length, take, get_or, sym, ap, ◌∙◌, arith, ⊎_elim, subst}
use Rattle.std.specs.Prelude.{slice_index}
use Rattle.std.specs.List.{Contains, range_with_len}
use Rattle.std.proofs.lemmas.Bool.{cases_eq, and_parts, or_left, or_right, eqb-true, eq-eqb}
use Rattle.std.proofs.lemmas.List.{get_or-take, length-take-le}
use Rattle.std.proofs.lemmas.List.FromFn.{length-range_with_len, get_or-range_with_len}
use Rattle.mesh_decl.specs.declared.owners.Owners.{Owners}
use Rattle.mesh_decl.specs.Mesh.{MeshValue, set_count, set_size}
use Rattle.mesh_decl.specs.Owners.{AreOwners, owner_of}
use Rattle.lemmas.specs.Below.{listed, row, rows}
use Rattle.lemmas.proofs.Below.{at_listed, length_listed}
use Rattle.local_mesh.specs.Halo.{owns, imports, imports_execute, imports_nonexecute, has_copy}
use Rattle.local_mesh.specs.declared.halo_lists.types.SetHalo.{SetHalo}
use Rattle.local_mesh.specs.Halos.{IsSetHalo}
use Rattle.local_mesh.specs.declared.types.LocalSet.{LocalSet}
use Rattle.local_mesh.specs.declared.types.RankMesh.{RankMesh}
use Rattle.local_mesh.specs.Parts.{IsKept}
use Rattle.local_mesh.specs.LocalMesh.{originals_in}
use Rattle.local_mesh.specs.Numbers.{own_in}
use Rattle.local_mesh.specs.Lists.{IsLocal, AreLocals, AreRead, AreAtOwners, IsHeld, originals_of}
use Rattle.lemmas.proofs.Lists.{contains_at}

-- one more rank's own elements have their numbers
at_step : (n : ℕ) (owner : ℕ → ℕ) (orig : ℕ → List ℕ) (r own : ℕ) (was now mine : List ℕ) → mine ≡ take own (orig r) → own ≤ length (orig r)
    → ((k : ℕ) → k < own → owner (get_or (orig r) k 0) ≡ r)
    → ((x : ℕ) → x < n → owner x ≡ r → (k : ℕ) × (k < own) × (get_or (orig r) k 0 ≡ x))
    → ((k : ℕ) → k < length mine → get_or now (get_or mine k 0) 0 ≡ k)
    → ((y : ℕ) → ¬ Contains mine y → get_or now y 0 ≡ get_or was y 0)
    → ((x : ℕ) → x < n → owner x < r → IsLocal (orig (owner x)) x (get_or was x 0))
    → (x : ℕ) → x < n → owner x < r + 1 → IsLocal (orig (owner x)) x (get_or now x 0)
at_step n owner orig r own was now mine em few mineown all at others inv x lx lo =
    let len : length mine ≡ own = ap (λ (z : List ℕ). length z) em ∙ length-take-le own (orig r) few in
    let read : (k : ℕ) → k < own → get_or mine k 0 ≡ get_or (orig r) k 0 = λ k l. ap (λ (z : List ℕ). get_or z k 0) em ∙ get_or-take own (orig r) k 0 l in
    ⊎_elim
    (λ (e : owner x ≡ r).
    let w = all x lx e in
    let q : get_or mine w.0 0 ≡ x = read w.0 w.1 ∙ w.2 in
    let h : get_or now x 0 ≡ w.0 = subst (λ z. get_or now z 0 ≡ w.0) q (at w.0 (omega (arith, w.1))) in
    subst (λ z. IsLocal (orig z) x (get_or now x 0)) (sym e) (subst (λ z. IsLocal (orig r) x z) (sym h) (omega (arith, w.1), w.2)))
    (λ (ne : owner x ≡ r → ⊥).
    let absent : ¬ Contains mine x = λ c. (let l : c.0 < own = (let z : c.0 < length mine = c.1 in omega arith) in ne (ap owner (sym (sym (read c.0 l) ∙ contains_at mine x c)) ∙ mineown c.0 l)) in
    subst (λ z. IsLocal (orig (owner x)) x z) (sym (others x absent)) (inv x lx (omega arith)))
    (cases_eq (owner x) r)

is_owner : (o : Owners) (s x r : ℕ) → owns o s x r ≡ true → owner_of o s x ≡ r
unfolding owns
is_owner o s x r t = eqb-true (owner_of o s x) r t

is_owned : (o : Owners) (s x r : ℕ) → owner_of o s x ≡ r → owns o s x r ≡ true
unfolding owns
is_owned o s x r e = eq-eqb (owner_of o s x) r e

module _ (g : MeshValue) (o : Owners) (meshes : List RankMesh) (s : ℕ) where
  pub owners_step : (r : ℕ) (sets : List LocalSet) (was now mine : List ℕ) → IsHeld g o s r sets → originals_of meshes r s ≡ originals_in sets s → mine ≡ take (own_in sets s) (originals_in sets s)
      → ((k : ℕ) → k < length mine → get_or now (get_or mine k 0) 0 ≡ k)
      → ((y : ℕ) → ¬ Contains mine y → get_or now y 0 ≡ get_or was y 0)
      → ((x : ℕ) → x < set_size g s → owner_of o s x < r → IsLocal (originals_of meshes (owner_of o s x) s) x (get_or was x 0))
      → (x : ℕ) → x < set_size g s → owner_of o s x < r + 1 → IsLocal (originals_of meshes (owner_of o s x) s) x (get_or now x 0)
  owners_step r sets was now mine held es em at others inv =
      at_step (set_size g s) (owner_of o s) (λ q. originals_of meshes q s) r (own_in sets s) was now mine
      (em ∙ ap (λ (z : List ℕ). take (own_in sets s) z) (sym es))
      (subst (λ (z : List ℕ). own_in sets s ≤ length z) (sym es) held.held)
      (subst (λ (z : List ℕ). (k : ℕ) → k < own_in sets s → owner_of o s (get_or z k 0) ≡ r) (sym es)
      (λ k l. let b = held.held in is_owner o s (get_or (originals_in sets s) k 0) r ((held.owned k (omega arith)).0 l)))
      (subst (λ (z : List ℕ). (x : ℕ) → x < set_size g s → owner_of o s x ≡ r → (k : ℕ) × (k < own_in sets s) × (get_or z k 0 ≡ x)) (sym es)
      (λ x lx e.
      let t : owns o s x r ≡ true = is_owned o s x r e in
      let c : Contains (originals_in sets s) x = (held.copies x).1 (lx, or_left (owns o s x r) (imports_execute g o s x r || imports_nonexecute g o s x r) t) in
      let q : get_or (originals_in sets s) c.0 0 ≡ x = contains_at (originals_in sets s) x c in
      (c.0, (held.owned c.0 c.1).1 (subst (λ z. owns o s z r ≡ true) (sym q) t), q)))
      at others inv

-- where the one rank has all elements in order, each has its own number there
pub own_numbers : (g : MeshValue) (o : Owners) (meshes : List RankMesh) (s : ℕ) (original : List ℕ) → AreOwners g o → s < set_count g → o.ranks ≡ 1
    → original ≡ originals_of meshes 0 s → length original ≡ set_size g s → IsKept (length original) (slice_index original)
    → AreAtOwners g o meshes s (range_with_len 0 (set_size g s))
own_numbers g o meshes s original owners ls one is size kept =
    let n : ℕ = set_size g s in
    record {
      count = length-range_with_len 0 n;
      each = λ x lx.
          let first : owner_of o s x ≡ 0 = (let b = owners.below s x ls lx in omega arith) in
          let at : get_or (range_with_len 0 n) x 0 ≡ x = get_or-range_with_len 0 n x 0 lx ∙ (let e : 0 + x ≡ x = omega arith in e) in
          let lo : x < length original = omega (arith, size, lx) in
          let here : IsLocal original x x = (lo, kept x lo) in
          subst (λ (r : ℕ). IsLocal (originals_of meshes r s) x (get_or (range_with_len 0 n) x 0)) (sym first)
          (subst (λ (k : ℕ). IsLocal (originals_of meshes 0 s) x k) (sym at) (subst (λ (z : List ℕ). IsLocal z x x) is here));
    }

-- what is read at a list of elements are their local numbers, where each has its own in the table
pub read_locals : (numbers elements locals original : List ℕ) → AreRead numbers elements locals
    → ((k : ℕ) → k < length elements → IsLocal original (get_or elements k 0) (get_or numbers (get_or elements k 0) 0))
    → AreLocals original elements locals
read_locals numbers elements locals original h each = record {
  count = h.count;
  each = λ k l. subst (λ z. IsLocal original (get_or elements k 0) z) (sym (h.each k l)) (each k l);
}

-- what is exported is below the bound, imported by the one and owned by the other
pub exported : (g : MeshValue) (o : Owners) (s a r : ℕ) (xs : List ℕ) → xs ≡ listed (set_size g s) (λ x. imports g o s x r && owns o s x a) → (k : ℕ) → k < length xs
    → (get_or xs k 0 < set_size g s) × (owner_of o s (get_or xs k 0) ≡ a) × (has_copy g o s (get_or xs k 0) r ≡ true)
unfolding imports
exported g o s a r xs e k l =
    let p : ℕ → Bool = λ x. imports g o s x r && owns o s x a in
    subst (λ (z : List ℕ). k < length z → (get_or z k 0 < set_size g s) × (owner_of o s (get_or z k 0) ≡ a) × (has_copy g o s (get_or z k 0) r ≡ true)) (sym e)
    (λ lk.
    let b = at_listed (set_size g s) k 0 p (rw (← length_listed (set_size g s) p) lk) in
    let x : ℕ = get_or (listed (set_size g s) p) k 0 in
    let t = and_parts (imports g o s x r) (owns o s x a) b.1 in
    (b.0, is_owner o s x a t.1, or_right (owns o s x r) (imports_execute g o s x r || imports_nonexecute g o s x r) t.0))
    l

module _ (g : MeshValue) (o : Owners) (s : ℕ) (h : SetHalo) (is : IsSetHalo g o s h) where
  -- what a rank has stands in the table where that has the number of each of its elements
  held_local : (r : ℕ) (sets : List LocalSet) (numbers : List ℕ) → IsHeld g o s r sets → ((k : ℕ) → k < length (originals_in sets s) → get_or numbers (get_or (originals_in sets s) k 0) 0 ≡ k)
      → (x : ℕ) → x < set_size g s → has_copy g o s x r ≡ true → IsLocal (originals_in sets s) x (get_or numbers x 0)
  held_local r sets numbers held at x lx t =
      let c : Contains (originals_in sets s) x = (held.copies x).1 (lx, t) in
      let q : get_or (originals_in sets s) c.0 0 ≡ x = contains_at (originals_in sets s) x c in
      let e : get_or numbers x 0 ≡ c.0 = subst (λ z. get_or numbers z 0 ≡ c.0) q (at c.0 c.1) in
      subst (λ z. IsLocal (originals_in sets s) x z) (sym e) (c.1, q)

  pub export_within : (a r : ℕ) → a < o.ranks → r < o.ranks → (k : ℕ) → k < length (row (rows h.exports.items a) r) → get_or (row (rows h.exports.items a) r) k 0 < set_size g s
  export_within a r la lr k l = (exported g o s a r (row (rows h.exports.items a) r) (is.exports a r la lr) k l).0

  -- local numbers of the exports, from those on owners
  pub export_locals : (meshes : List RankMesh) (numbers : List ℕ) → AreAtOwners g o meshes s numbers → (a r : ℕ) → a < o.ranks → r < o.ranks
      → (locals : List ℕ) → AreRead numbers (row (rows h.exports.items a) r) locals
      → AreLocals (originals_of meshes a s) (row (rows h.exports.items a) r) locals
  export_locals meshes numbers at a r la lr locals read =
      read_locals numbers (row (rows h.exports.items a) r) locals (originals_of meshes a s) read
      (λ k l.
      let x : ℕ = get_or (row (rows h.exports.items a) r) k 0 in
      let e = exported g o s a r (row (rows h.exports.items a) r) (is.exports a r la lr) k l in
      subst (λ z. IsLocal (originals_of meshes z s) x (get_or numbers x 0)) e.1 (at.each x e.0))

  -- local numbers of a rank's imports, from those of all its elements
  pub import_locals : (r : ℕ) (sets : List LocalSet) (numbers : List ℕ) → r < o.ranks → IsHeld g o s r sets
      → ((k : ℕ) → k < length (originals_in sets s) → get_or numbers (get_or (originals_in sets s) k 0) 0 ≡ k)
      → (a : ℕ) → a < o.ranks → (locals : List ℕ) → AreRead numbers (row (rows h.exports.items a) r) locals → AreLocals (originals_in sets s) (row (rows h.exports.items a) r) locals
  import_locals r sets numbers lr held at a la locals read =
      read_locals numbers (row (rows h.exports.items a) r) locals (originals_in sets s) read
      (λ k l.
      let x : ℕ = get_or (row (rows h.exports.items a) r) k 0 in
      let e = exported g o s a r (row (rows h.exports.items a) r) (is.exports a r la lr) k l in
      held_local r sets numbers held at x e.0 e.2)
