use Rattle.std.proofs.Common.{◌<◌, ◌≤◌, length, map, reverse, refl, ap, ◌∙◌, arith}
use Rattle.std.proofs.lemmas.List.{reverse-reverse, length-set}
use Rattle.bound_program.specs.Values.{var_of}
use Rattle.checkpoint.specs.Cut.{with_vars}
use Rattle.checkpoint.proofs.TailMade.{begun-more, all-begun}
use Rattle.checkpoint.proofs.tails.set_vars.Goals as goal

pub loop-i-init : goal.loop-i-init
loop-i-init c = record {
  count = refl;
  begun = ap (with_vars (map var_of c.args.vars.now.items)) (ap reverse c.reverse.ensures.items ∙ reverse-reverse c.args.values.items);
}

pub loop-i-preserved : goal.loop-i-preserved
loop-i-preserved c =
    let l : c.loop-i.i < length c.loop-i.vars.items = omega (arith, c.loop-i.invariant.count, c.len-i-end.ensures) in
    record {
      count = length-set c.loop-i.vars.items c.loop-i.i c.start_with.new.var ∙ c.loop-i.invariant.count;
      begun = begun-more c.loop-i.vars.items _ c.loop-i.i c.index_mut.result.now c.start_with.new.var (reverse c.loop-i.values.items) (reverse c.start_with.new.values.items) _ l
          c.index_mut.ensures.value refl c.start_with.ensures.var c.start_with.ensures.values c.loop-i.invariant.begun;
    }

pub returns : goal.returns
returns c =
    let l : length c.loop-i.vars.items ≤ c.loop-i.i = omega (arith, c.loop-i.invariant.count, c.len-i-end.ensures) in
    all-begun c.loop-i.vars.items c.loop-i.i (reverse c.loop-i.values.items) _ l c.loop-i.invariant.begun
