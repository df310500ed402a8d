use Rattle.std.proofs.Common.{length}
use Rattle.colouring.proofs.Numbering.{table_grows, all_below_more}
use Rattle.colouring.proofs.table.target_table.Goals as goal

pub loop-place-preserved : goal.loop-place-preserved
loop-place-preserved c =
    let n = c.in_ok-push_numbers.ensures in
    record {
      table = table_grows c.args.mesh.now c.args.rank.now.maps.items c.args.args.now c.args.starts.now c.loop-place.place
          c.loop-place.table.items c.push_numbers.new.table.items c.loop-place.invariant.table n.length n.before n.at;
      within = all_below_more c.loop-place.table.items c.push_numbers.new.table.items c.args.total (length c.args.args.now) n.length n.before n.within c.loop-place.invariant.within;
    }
