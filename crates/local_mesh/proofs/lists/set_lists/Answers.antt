use Rattle.std.proofs.Common.{◌≡◌, ◌<◌, ℕ, List, Vec, length, arith, sym, subst, ◌∙◌}
use Rattle.std.specs.declared.alloc.Global.{Global}
use Rattle.mesh_decl.specs.Mesh.{set_size}
use Rattle.lemmas.specs.Below.{row, rows}
use Rattle.local_mesh.specs.Lists.{AreAllRead, AreBelow}
use Rattle.local_mesh.proofs.AtOwners.{export_within, export_locals}
use Rattle.local_mesh.proofs.lists.set_lists.Goals as goal

pub read_exports-requires : goal.read_exports-requires
read_exports-requires c =
    let g = c.args.mesh.now in
    let o = c.args.owners.now in
    let h = c.requires.halo in
    let table : List ℕ = c.in_ok-at_owner.at_owner in
    let size : length table ≡ set_size g c.args.set = c.in_ok-at_owner.ensures.count in
    subst (λ (z : List (Vec (Vec ℕ Global) Global)). (a : ℕ) → a < length z → AreBelow (length table) (rows z a)) (sym c.deref.ensures.value)
    (λ a la r lr k lk.
    let ra : a < o.ranks = omega (arith, h.export_count) in
    let rr : r < o.ranks = omega (arith, h.export_counts a ra) in
    let x = export_within g o c.args.set c.args.halo.now h a r ra rr k lk in
    omega arith)

pub returns : goal.returns
returns c =
    let g = c.args.mesh.now in
    let o = c.args.owners.now in
    let h = c.args.halo.now in
    let is = c.requires.halo in
    let t : List ℕ = c.in_ok-at_owner.at_owner in
    let v = c.in_ok-exports.exports.items in
    let count : length v ≡ length h.exports.items = subst (λ (z : List (Vec (Vec ℕ Global) Global)). length v ≡ length z) c.deref.ensures.value c.in_ok-exports.ensures.length in
    let read : (a : ℕ) → a < length h.exports.items → AreAllRead t (rows h.exports.items a) (rows v a) =
    subst (λ (z : List (Vec (Vec ℕ Global) Global)). (a : ℕ) → a < length z → AreAllRead t (rows z a) (rows v a)) c.deref.ensures.value c.in_ok-exports.ensures.read in
    let within : (a : ℕ) → a < o.ranks → a < length h.exports.items = λ a la. omega (arith, is.export_count) in
    record {
      owners = c.in_ok-at_owner.ensures;
      exports = record {
        count = count ∙ is.export_count;
        counts = λ a la. (read a (within a la)).count ∙ is.export_counts a la;
        each = λ a r la lr. export_locals g o c.args.set h is c.args.meshes.now t c.in_ok-at_owner.ensures a r la lr (row (rows v a) r)
            ((read a (within a la)).each r (omega (arith, is.export_counts a la)));
      };
      imports = c.in_ok-imports.ensures;
    }
