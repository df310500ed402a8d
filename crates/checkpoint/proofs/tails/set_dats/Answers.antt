use Rattle.std.proofs.Common.{◌≡◌, ◌-◌, ◌++◌, [], ◌∷◌, length, refl, sym, ap, ◌∙◌, arith, rules}
use Rattle.std.proofs.lemmas.List.{length_push, nil_from_length}
use Rattle.checkpoint.proofs.TailMade.{last-fits, rest-kept, lengths-kept, count-kept, all-set}
use Rattle.checkpoint.proofs.tails.set_dats.Goals as goal

pub loop-last-init : goal.loop-last-init
loop-last-init c = record {
  count = c.dat_count-dat.ensures.count ∙ sym c.requires.count;
  few = omega (arith, c.dat_count-dat.ensures.count);
  lengths = c.requires.lengths;
  rest = refl;
}

pub set_values-requires : goal.set_values-requires
set_values-requires c =
    let xs = c.loop-last.values.items in
    let ys = c.pop.new.self.items in
    let z = c.in-Some.last in
    let p : c.loop-last.values.items ≡ c.pop.new.self.items ++ c.in-Some.last ∷ [] = c.in-Some.ensures.items in
    let more = ap length p ∙ length_push ys z in
    let n : c.loop-last.dat - 1 ≡ length c.pop.new.self.items = omega (arith, c.loop-last.invariant.count, more) in
    record {
      dat = omega (arith, c.loop-last.invariant.count, c.loop-last.invariant.few, more);
      size = last-fits c.loop-last.mesh xs ys z (c.loop-last.dat - 1) n p c.loop-last.invariant.lengths;
    }

pub loop-last-preserved : goal.loop-last-preserved
loop-last-preserved c =
    let xs = c.loop-last.values.items in
    let ys = c.pop.new.self.items in
    let z = c.in-Some.last in
    let p : c.loop-last.values.items ≡ c.pop.new.self.items ++ c.in-Some.last ∷ [] = c.in-Some.ensures.items in
    let more = ap length p ∙ length_push ys z in
    let e = c.loop-last.dat - 1 in
    let n : c.loop-last.dat - 1 ≡ length c.pop.new.self.items = omega (arith, c.loop-last.invariant.count, more) in
    let same = count-kept c.loop-last.mesh xs ys z e n p c.loop-last.invariant.lengths c.set_values.new.self c.set_values.ensures in
    record {
      count = n;
      few = omega (arith, c.loop-last.invariant.few, same);
      lengths = lengths-kept c.loop-last.mesh xs ys z e n p c.loop-last.invariant.lengths c.set_values.new.self c.set_values.ensures;
      rest = rest-kept c.loop-last.mesh xs ys z e n p c.loop-last.invariant.lengths c.set_values.new.self c.set_values.ensures _ c.loop-last.invariant.rest;
    }

pub returns : goal.returns
returns c =
    let none : length c.loop-last.values.items ≡ 0 = search rules in
    all-set c.loop-last.mesh _ c.loop-last.values.items (nil_from_length c.loop-last.values.items none) c.loop-last.invariant.rest
