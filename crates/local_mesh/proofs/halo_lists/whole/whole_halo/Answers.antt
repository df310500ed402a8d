use Rattle.std.proofs.Common.{Bool, true, length, ap, sym, ◌∙◌}
use Rattle.std.proofs.lemmas.List.{length-replicate}
use Rattle.local_mesh.proofs.halo_lists.OneRank.{none_executes, none_reads, none_exports, all_core}
use Rattle.local_mesh.proofs.halo_lists.whole.whole_halo.Goals as goal

pub returns : goal.returns
returns c =
    let g = c.args.mesh.now in
    let o = c.args.owners.now in
    let ok = c.requires.mesh in
    let own = c.requires.owners in
    let one = c.requires.one in
    let s = c.args.set in
    let ls = c.requires.set in
    let e = c.in_ok-core.ensures.items_if_clones_equal (λ y h. h) in
    record {
      exec_count = c.in_ok-exec.ensures.length;
      exec = λ r l. c.in_ok-exec.ensures.empty r l ∙ sym (none_executes g o ok own one s ls r);
      nonexec_count = c.in_ok-nonexec.ensures.length;
      nonexec = λ r l. c.in_ok-nonexec.ensures.empty r l ∙ sym (none_reads g o ok own one s ls r l);
      export_count = c.in_ok-exports.ensures.length;
      export_counts = c.in_ok-exports.ensures.lengths;
      exports = λ a r la lr. c.in_ok-exports.ensures.empty a r la lr ∙ sym (none_exports g o ok own one s ls a r lr);
      core_count = ap (length {A = Bool}) e ∙ (length-replicate c.set_size-size.result true ∙ c.set_size-size.ensures);
      core = all_core g o ok own one s ls c.in_ok-core.core.items c.set_size-size.result c.set_size-size.ensures e;
    }
