use Rattle.std.proofs.Common.{◌≡◌, ◌<◌, ◌≤◌, ◌++◌, ◌∷◌, ◌&&◌, [], ◌+◌, Bool, ap, ◌∙◌, arith, length, cond, List, Vec, ℕ, nat_eq, sym}
use Rattle.std.specs.declared.alloc.Global.{Global}
use Rattle.std.proofs.lemmas.List.{with_items_is, length_push}
use Rattle.lemmas.specs.Below.{row, rows, listed}
use Rattle.local_mesh.specs.RankSet.{has}
use Rattle.lemmas.proofs.Below.{listed_step}
use Rattle.local_mesh.specs.Halo.{imports_execute, imports_nonexecute, imports, owns}
use Rattle.local_mesh.proofs.halo_lists.Importing.{execute_below, nonexecute_below, imports_below, execute_has, nonexecute_has, imports_has, owned_pair, core_more}
use Rattle.local_mesh.proofs.halo_lists.split.add_element.Goals as goal

-- one more number in each of some lists
list_more : (now old : List (Vec ℕ Global)) (ranks n : ℕ) (p : ℕ → ℕ → Bool) (q : ℕ → Bool)
    → ((r : ℕ) → r < ranks → row old r ≡ listed n (λ x. p x r)) → ((r : ℕ) → r < ranks → q r ≡ p n r)
    → ((r : ℕ) → r < ranks → row now r ≡ row old r ++ cond (q r) (n ∷ []) []) → (r : ℕ) → r < ranks
    → row now r ≡ listed (n + 1) (λ x. p x r)
list_more now old ranks n p q h k m r l = listed_step (row now r) (row old r) n (λ x. p x r) (h r l) (m r l ∙ ap (λ z. row old r ++ cond z (n ∷ []) []) (k r l))

pub push_each-requires : goal.push_each-requires
push_each-requires c =
    let g = c.args.mesh.now in
    let o = c.args.owners.now in
    let n = c.deref_mut.ensures.len in
    let b = c.requires.before.exec_count in
    let k = c.args.halo.now.exec.ok.0 in
    record {
      few = omega (arith, n, b, k, c.requires.owners.few_ranks);
      ranks = λ r l t. (let lr = execute_below g o c.args.set c.args.element r c.is_in_range.ensures c.requires.owners c.requires.element
          (sym (execute_has g o c.args.set c.args.element c.rank_of-owner.result c.args.executing c.empty.result c.with.result
          c.minus-exec.result c.rank_of-owner.ensures c.requires.executing c.empty.ensures c.with.ensures c.minus-exec.ensures r l) ∙ t)
          in omega (arith, n, b, k, lr));
    }

pub push_each-requires-2 : goal.push_each-requires-2
push_each-requires-2 c =
    let g = c.args.mesh.now in
    let o = c.args.owners.now in
    let n = c.deref_mut-2.ensures.len in
    let b = c.requires.before.nonexec_count in
    let k = c.args.halo.now.nonexec.ok.0 in
    record {
      few = omega (arith, n, b, k, c.requires.owners.few_ranks);
      ranks = λ r l t. (let lr = nonexecute_below g o c.args.set c.args.element r c.is_in_range.ensures c.requires.owners
          (sym (nonexecute_has g o c.args.set c.args.element c.args.executing c.args.naming c.minus-nonexec.result c.requires.executing
          c.requires.naming c.minus-nonexec.ensures r l) ∙ t) in omega (arith, n, b, k, lr));
    }

pub push_export-requires : goal.push_export-requires
push_export-requires c =
    let g = c.args.mesh.now in
    let o = c.args.owners.now in
    let b = c.requires.before in
    let e : c.deref_mut-3.result.now ≡ c.args.halo.now.exports.items = c.deref_mut-3.ensures.value in
    let n : length c.deref_mut-3.result.now ≡ o.ranks = ap (length {A = Vec (Vec ℕ Global) Global}) e ∙ b.export_count in
    let exec = execute_has g o c.args.set c.args.element c.rank_of-owner.result c.args.executing c.empty.result c.with.result
    c.minus-exec.result c.rank_of-owner.ensures c.requires.executing c.empty.ensures c.with.ensures c.minus-exec.ensures in
    let nonexec = nonexecute_has g o c.args.set c.args.element c.args.executing c.args.naming c.minus-nonexec.result c.requires.executing c.requires.naming c.minus-nonexec.ensures in
    let either = imports_has g o c.args.set c.args.element c.minus-exec.result c.minus-nonexec.result c.union.result exec nonexec c.union.ensures in
    record {
      owner = rw n (rw c.rank_of-owner.ensures (c.requires.owners.below c.args.set c.args.element c.requires.set c.requires.element));
      few = rw n c.requires.owners.few_ranks;
      lengths = λ a l. (let la : a < o.ranks = omega (arith, l, n) in ap (λ (z : List (Vec (Vec ℕ Global) Global)). length (rows z a)) e ∙ (b.export_counts a la ∙ sym n));
      ranks = λ r l t. (let lr = imports_below g o c.args.set c.args.element r c.is_in_range.ensures c.requires.owners c.requires.element (sym (either r l) ∙ t) in rw n lr);
    }

pub returns : goal.returns
returns c =
    let g = c.args.mesh.now in
    let o = c.args.owners.now in
    let s : ℕ = c.args.set in
    let x : ℕ = c.args.element in
    let h = c.args.halo.now in
    let b = c.requires.before in
    let few : o.ranks ≤ 64 = c.requires.owners.few_ranks in
    let exec = execute_has g o s x c.rank_of-owner.result c.args.executing c.empty.result c.with.result c.minus-exec.result
    c.rank_of-owner.ensures c.requires.executing c.empty.ensures c.with.ensures c.minus-exec.ensures in
    let nonexec = nonexecute_has g o s x c.args.executing c.args.naming c.minus-nonexec.result c.requires.executing c.requires.naming c.minus-nonexec.ensures in
    let either = imports_has g o s x c.minus-exec.result c.minus-nonexec.result c.union.result exec nonexec c.union.ensures in
    let n1 : length c.push_each.new.lists ≡ h.exec.len = c.push_each.auto.lists ∙ c.deref_mut.ensures.len in
    let n2 : length c.push_each-2.new.lists ≡ h.nonexec.len = c.push_each-2.auto.lists ∙ c.deref_mut-2.ensures.len in
    let n3 : length c.push_export.new.exports ≡ h.exports.len = c.push_export.auto.exports ∙ c.deref_mut-3.ensures.len in
    let l1 : length c.deref_mut.result.now ≡ o.ranks = ap (length {A = Vec ℕ Global}) c.deref_mut.ensures.value ∙ b.exec_count in
    let l2 : length c.deref_mut-2.result.now ≡ o.ranks = ap (length {A = Vec ℕ Global}) c.deref_mut-2.ensures.value ∙ b.nonexec_count in
    let l3 : length c.deref_mut-3.result.now ≡ o.ranks = ap (length {A = Vec (Vec ℕ Global) Global}) c.deref_mut-3.ensures.value ∙ b.export_count in
    let e1 = with_items_is h.exec c.push_each.new.lists n1 in
    let e2 = with_items_is h.nonexec c.push_each-2.new.lists n2 in
    let e3 = with_items_is h.exports c.push_export.new.exports n3 in
    record {
      exec_count = rw e1 (c.push_each.auto.lists ∙ l1);
      exec = rw e1 (list_more c.push_each.new.lists h.exec.items o.ranks x (imports_execute g o s) (has c.minus-exec.result) b.exec (λ r l. exec r (omega (arith, l, few)))
          (λ r l. c.in_ok-push_each.ensures r (rw l1 l) ∙ ap (λ (z : List (Vec ℕ Global)). row z r ++ cond (has c.minus-exec.result r) (x ∷ []) []) c.deref_mut.ensures.value));
      nonexec_count = rw e2 (c.push_each-2.auto.lists ∙ l2);
      nonexec = rw e2 (list_more c.push_each-2.new.lists h.nonexec.items o.ranks x (imports_nonexecute g o s) (has c.minus-nonexec.result) b.nonexec (λ r l. nonexec r (omega (arith, l, few)))
          (λ r l. c.in_ok-push_each-2.ensures r (rw l2 l) ∙ ap (λ (z : List (Vec ℕ Global)). row z r ++ cond (has c.minus-nonexec.result r) (x ∷ []) []) c.deref_mut-2.ensures.value));
      export_count = rw e3 (c.push_export.auto.exports ∙ l3);
      export_counts = rw e3 (λ a l. c.in_ok-push_export.ensures.lengths a (rw l3 l) ∙ l3);
      exports = rw e3 (λ a r la l. list_more (rows c.push_export.new.exports a) (rows h.exports.items a) o.ranks x
          (λ y q. imports g o s y q && owns o s y a) (λ q. has c.union.result q && nat_eq c.rank_of-owner.result a)
          (λ q lq. b.exports a q la lq)
          (λ q lq. owned_pair g o s x c.rank_of-owner.result (has c.union.result q) a q c.rank_of-owner.ensures (either q (omega (arith, lq, few))))
          (λ q lq. c.in_ok-push_export.ensures.pushed a q (rw l3 la) (rw l3 lq)
          ∙ ap (λ (z : List (Vec (Vec ℕ Global) Global)). row (rows z a) q ++ cond
          (has c.union.result q && nat_eq c.rank_of-owner.result a) (x ∷ []) []) c.deref_mut-3.ensures.value) r l);
      core_count = rw c.in_ok-push.ensures.items (omega (arith, length_push h.core.items c.is_empty.result, b.core_count));
      core = rw c.in_ok-push.ensures.items (core_more g o s x h.core.items c.is_empty.result c.is_in_range.ensures c.requires.owners c.requires.set c.requires.element b.core_count b.core
          (λ t r l. sym (exec r l) ∙ c.is_empty.ensures.0 t r l, λ k. c.is_empty.ensures.1 (λ r l. exec r l ∙ k r l)));
    }
