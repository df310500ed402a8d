use Rattle.std.proofs.Common.{◌≤◌, ◌+◌, false, length, get_or, None, ap, ◌∙◌, arith}
use Rattle.std.proofs.lemmas.List.{get_or-map}
use Rattle.op_num.specs.declared.reductions.access.Access.TheVariants.{Read}
use Rattle.bound_program.specs.declared.sites.Arg.TheVariants.{Dat}
use Rattle.rank_layout.specs.Made.{writes_by}
use Rattle.rank_layout.specs.WindowLaws.{arg_span}
use Rattle.rank_layout.proofs.PushedWindows.{one_more, pushed_more}
use Rattle.rank_layout.proofs.element_windows.push_local_windows.Goals as goal

pub loop-i-preserved : goal.loop-i-preserved
loop-i-preserved c =
    let w = get_or c.args.writes.now c.loop-i.i false in
    let arg = get_or c.args.args.now c.loop-i.i (Dat 0 None Read) in
    let few = one_more (arg_span c.args.mesh.now c.args.part.now c.args.place (λ d. w)) arg c.loop-i.spans.items in
    let count : length c.push_window.new.spans.items ≤ c.loop-i.i + 1 = omega (arith, few, ap length c.push_window.ensures.spans, c.loop-i.invariant.1) in (
      pushed_more c.args.mesh.now c.args.part.now c.args.place c.args.args.now c.loop-i.i (Dat 0 None Read) w c.loop-i.spans.items c.push_window.new.spans.items
          c.loop-i-test.true
          (ap (λ row. get_or row c.loop-i.i false) c.requires.writes
          ∙ get_or-map (writes_by c.args.args.now) c.args.args.now c.loop-i.i (Dat 0 None Read) false c.loop-i-test.true)
          c.loop-i.invariant.0 c.push_window.ensures.spans,
      count,
      c.push_window.ensures.room ∙ c.loop-i.invariant.2,
    )
