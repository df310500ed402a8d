use Rattle.std.proofs.Common.{List, Vec, ℕ, length, sym, ap, ◌∙◌}
use Rattle.std.specs.declared.alloc.Global.{Global}
use Rattle.lemmas.specs.Below.{row}
use Rattle.mesh_decl.specs.Mesh.{set_size}
use Rattle.local_mesh.specs.Halo.{imports_execute, imports_nonexecute}
use Rattle.local_mesh.proofs.halo_lists.Importing.{owners_below}
use Rattle.local_mesh.proofs.Grouping.{listed_within, groups_are, kept_are}
use Rattle.local_mesh.proofs.groups_of.Goals as goal

pub kept_groups-requires-clause-owners : goal.kept_groups-requires-clause-owners
kept_groups-requires-clause-owners c = owners_below c.args.mesh.now c.args.owners.now c.args.set c.of_set-by.result.now c.requires.owners c.requires.set c.of_set-by.ensures

pub groups_by_rank-requires-clause-owners : goal.groups_by_rank-requires-clause-owners
groups_by_rank-requires-clause-owners c = owners_below c.args.mesh.now c.args.owners.now c.args.set c.of_set-by.result.now c.requires.owners c.requires.set c.of_set-by.ensures

pub groups_by_rank-requires-clause-exec : goal.groups_by_rank-requires-clause-exec
groups_by_rank-requires-clause-exec c =
    let g = c.args.mesh.now in
    let o = c.args.owners.now in
    let s = c.args.set in
    let halo = c.requires.halo in
    λ r k lr. listed_within (set_size g s) (length c.of_set-by.result.now) (λ x. imports_execute g o s x r) (row c.deref-2.result.now r)
    (ap (λ (z : List (Vec ℕ Global)). row z r) c.deref-2.ensures.value ∙ halo.exec r lr)
    (sym (ap (length {A = ℕ}) c.of_set-by.ensures ∙ c.requires.owners.lengths s c.requires.set)) k

pub groups_by_rank-requires-clause-nonexec : goal.groups_by_rank-requires-clause-nonexec
groups_by_rank-requires-clause-nonexec c =
    let g = c.args.mesh.now in
    let o = c.args.owners.now in
    let s = c.args.set in
    let halo = c.requires.halo in
    λ r k lr. listed_within (set_size g s) (length c.of_set-by.result.now) (λ x. imports_nonexecute g o s x r) (row c.deref-3.result.now r)
    (ap (λ (z : List (Vec ℕ Global)). row z r) c.deref-3.ensures.value ∙ halo.nonexec r lr)
    (sym (ap (length {A = ℕ}) c.of_set-by.ensures ∙ c.requires.owners.lengths s c.requires.set)) k

pub returns-then-is_kept : goal.returns-then-is_kept
returns-then-is_kept c =
    let s = c.args.set in
    let e = c.in_ok-groups.ensures in
    kept_are c.args.mesh.now c.args.owners.now c.args.perms.now s c.of_set-by.result.now c.of_set-order.result.now c.deref.result.now c.deref-then-is_kept.result.now c.args.halo.now
    c.requires.owners c.requires.set c.requires.halo (c.requires.perms.numbers s c.requires.set) c.of_set-by.ensures c.of_set-order.ensures c.deref.ensures.value c.deref-then-is_kept.ensures.value
    c.in_ok-groups.groups (c.is_kept.ensures.0 c.if-is_kept.true) e.own_count e.own e.exec_count e.exec e.nonexec_count e.nonexec e.copies

pub returns : goal.returns
returns c =
    let s = c.args.set in
    let e = c.in_ok-groups-2.ensures in
    groups_are c.args.mesh.now c.args.owners.now c.args.perms.now s c.of_set-by.result.now c.of_set-order.result.now c.deref-2.result.now c.deref-3.result.now c.args.halo.now
    c.requires.owners c.requires.set c.requires.halo (c.requires.perms.numbers s c.requires.set) c.of_set-by.ensures c.of_set-order.ensures c.deref-2.ensures.value c.deref-3.ensures.value
    c.in_ok-groups-2.groups e.copies.0 e.own_count e.own e.exec_count e.exec e.nonexec_count e.nonexec e.copies.1 e.copies.2 e.copies.3
