use Rattle.std.proofs.Common.{◌≡◌, ◌<◌, ℕ, List, Vec, length, get_or, arith, sym, subst, ◌∙◌}
use Rattle.std.specs.declared.alloc.Global.{Global}
use Rattle.std.proofs.lemmas.List.{length_push, with_items_is}
use Rattle.mesh_decl.specs.Mesh.{set_size}
use Rattle.lemmas.specs.Below.{row, rows}
use Rattle.local_mesh.specs.Lists.{AreLocals, AreRead, IsBelow, sets_of, originals_of}
use Rattle.local_mesh.proofs.AtOwners.{export_within, import_locals}
use Rattle.local_mesh.proofs.Growing.{each_rows}
use Rattle.local_mesh.proofs.lists.locals_of_imports.Goals as goal

pub read_imports-requires-clause-within : goal.read_imports-requires-clause-within
read_imports-requires-clause-within c =
    let g = c.args.mesh.now in
    let o = c.args.owners.now in
    let v = c.loop-rank.numbers in
    let r : ℕ = c.loop-rank.rank in
    let n : length c.number_locals.new.numbers ≡ v.len = omega (arith, c.number_locals.auto.numbers, c.deref_mut.ensures.len) in
    let table : List ℕ = c.deref-in-loop-rank.result.now in
    let e : table ≡ c.number_locals.new.numbers = c.deref-in-loop-rank.ensures.value ∙ with_items_is v c.number_locals.new.numbers n in
    let size : length table ≡ set_size g c.args.set = rw e (omega (arith, n, v.ok.0, c.loop-rank.invariant.0)) in
    subst (λ (z : List (Vec (Vec ℕ Global) Global)). (a : ℕ) → a < length z → IsBelow (length table) (row (rows z a) r)) (sym c.deref.ensures.value)
    (λ a la k lk.
    let x = export_within g o c.args.set c.args.halo.now c.requires.halo a r (omega (arith, c.requires.halo.export_count)) c.loop-rank-test.true k lk in
    omega arith)

pub loop-rank-preserved : goal.loop-rank-preserved
loop-rank-preserved c =
    let g = c.args.mesh.now in
    let o = c.args.owners.now in
    let s : ℕ = c.args.set in
    let h = c.args.halo.now in
    let v = c.loop-rank.numbers in
    let r : ℕ = c.loop-rank.rank in
    let xs = c.loop-rank.imports.items in
    let w = c.in_ok-read_imports.field-0 in
    let n : length c.number_locals.new.numbers ≡ v.len = omega (arith, c.number_locals.auto.numbers, c.deref_mut.ensures.len) in
    let e = with_items_is v c.number_locals.new.numbers n in
    let table : List ℕ = c.deref-in-loop-rank.result.now in
    let t : table ≡ c.number_locals.new.numbers = c.deref-in-loop-rank.ensures.value ∙ e in
    let at : (k : ℕ) → k < length (originals_of c.args.meshes.now r s) → get_or table (get_or (originals_of c.args.meshes.now r s) k 0) 0 ≡ k =
    subst (λ (z : List ℕ). (k : ℕ) → k < length (originals_of c.args.meshes.now r s) → get_or z (get_or (originals_of c.args.meshes.now r s) k 0) 0 ≡ k) (sym t)
    (subst (λ (z : List ℕ). (k : ℕ) → k < length z → get_or c.number_locals.new.numbers (get_or z k 0) 0 ≡ k) c.originals_of.ensures c.number_locals.ensures.at) in
    let count : length w.items ≡ o.ranks = subst (λ (z : List (Vec (Vec ℕ Global) Global)). length w.items ≡ length z) c.deref.ensures.value
    c.in_ok-read_imports.ensures.length ∙ c.requires.halo.export_count in
    let read : (a : ℕ) → a < length h.exports.items → AreRead table (row (rows h.exports.items a) r) (row w.items a) =
    subst (λ (z : List (Vec (Vec ℕ Global) Global)). (a : ℕ) → a < length z → AreRead table (row (rows z a) r) (row w.items a)) c.deref.ensures.value c.in_ok-read_imports.ensures.at in
    let P : ℕ → List (Vec ℕ Global) → Type 0 = λ q z. (length z ≡ o.ranks) × ((a : ℕ) → a < o.ranks → AreLocals (originals_of c.args.meshes.now q s) (row (rows h.exports.items a) q) (row z a)) in
    let here : P r w.items = (
      count,
      λ a la. import_locals g o s h c.requires.halo r (sets_of c.args.meshes.now r) table
          c.loop-rank-test.true (c.requires.held.ranks r c.loop-rank-test.true) at a la (row w.items a)
          (read a (omega (arith, c.requires.halo.export_count))),
    ) in
    rw (e, c.in_ok-push.ensures.items) (
      omega (arith, n, v.ok.0, c.loop-rank.invariant.0),
      omega (arith, length_push xs w, c.loop-rank.invariant.1),
      each_rows xs w r P c.loop-rank.invariant.1 c.loop-rank.invariant.2 here,
    )
