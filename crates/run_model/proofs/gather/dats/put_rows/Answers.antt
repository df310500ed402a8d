use Rattle.std.proofs.Common.{◌≡◌, ◌<◌, ◌++◌, take, length, sym, rules}
use Rattle.std.specs.List.{flat_map}
use Rattle.mesh_decl.specs.Printed.{rows, row_text}
use Rattle.run_model.proofs.gather.Growing.{grows_on}
use Rattle.run_model.proofs.gather.Rows.{row_printed, rows_left}
use Rattle.run_model.proofs.gather.dats.put_rows.Goals as goal

pub loop-element-preserved : goal.loop-element-preserved
loop-element-preserved c =
    let inside : c.loop-element._element < c.args.size = search rules in
    let row : c.put_row.new.out.items ≡ c.loop-element.out.items ++ row_text (take c.args.dim c.loop-element.rest.now) = rw (sym c.split_at.ensures.front) (c.in_ok-put_row.ensures.ok) in
    record {
      length = rows_left c.args.size c.loop-element._element c.args.dim (length c.loop-element.rest.now) (length c.split_at.result.1.now)
          inside c.loop-element.invariant.length c.split_at.ensures.back_len;
      text = rw c.split_at.ensures.back
          (row_printed c.args.size c.loop-element._element c.args.dim c.loop-element.out.items c.put_row.new.out.items
          (c.args.out.now.items ++ flat_map row_text (rows c.args.dim c.args.size c.args.values.now)) c.loop-element.rest.now inside row
          c.loop-element.invariant.text);
      grows = grows_on c.args.out.now.items c.loop-element.out.items c.put_row.new.out.items c.loop-element.invariant.grows c.put_row.ensures.grows;
    }
