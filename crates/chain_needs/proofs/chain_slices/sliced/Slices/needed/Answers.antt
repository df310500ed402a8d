use Rattle.std.proofs.Common.{◌≡◌, ◌<◌, suc, List, length, sym, ap, ◌∙◌, arith}
use Rattle.local_mesh.specs.RankSet.{has_at}
use Rattle.local_mesh.specs.declared.rank_sets.rank_set.RankSet.{RankSet}
use Rattle.schedule_model.specs.Tests.{free_kind}
use Rattle.run_model.specs.Programs.{kind_of, item_at}
use Rattle.run_model.specs.Laws.{site_of}
use Rattle.local_mesh.specs.Sets.{sets_in}
use Rattle.local_mesh.proofs.Public.{sets_read}
use Rattle.chain_model.specs.Slices.{loops_from, needs, needs_before}
use Rattle.chain_model.proofs.Public.{next_loop}
use Rattle.chain_needs.specs.Levels.{IsLevel}
use Rattle.chain_needs.proofs.chain_slices.Reading.{level_of}
use Rattle.chain_needs.proofs.chain_slices.sliced.Slices.needed.Goals as goal

pub returns : goal.returns
unfolding needs
returns c = λ b o h free ld.
    let is : IsLevel b o (site_of b c.args.item) (loops_from b (suc c.args.item)) c.item_level.result.now = level_of b o c.args.item c.item_level.result.now free (c.item_level.ensures b o h free) in
    let l : c.args.dat < length c.item_level.result.now.needed.items = omega (arith, is.needed.pairs.count) in
    let e : c.deref.result.now ≡ sets_in c.item_level.result.now.needed.items c.args.dat =
    c.deref.ensures.value ∙ sets_read c.item_level.result.now.needed.items c.args.dat c.index.result.now l c.index.ensures in
    record {
      count = ap (length {A = RankSet}) e ∙ is.needed.pairs.lengths c.args.dat ld;
      has = λ y r ly. ap (λ (z : List RankSet). has_at z y r) e
          ∙ (is.needed.has c.args.dat y r ld ly ∙ ap (λ z. needs_before b o r z c.args.dat y) (sym (next_loop b c.args.item (free_kind (kind_of (item_at b c.args.item)) free.free))));
    }
