use Rattle.std.proofs.Common.{◌≡◌, ◌<◌, ◌≤◌, ◌+◌, ◌*◌, subst, arith, get_or}
use Rattle.std.specs.Int.{bit_at}
use Rattle.colouring.specs.Masks.{Has, Cover}
use Rattle.colouring.proofs.Filling.{kept_has, kept_back, kept_twice, cover_on, cover_to}
use Rattle.colouring.proofs.masks.Masks.free_colour.Goals as goal

pub returns-in-Some-clause-below : goal.returns-in-Some-clause-below
returns-in-Some-clause-below c =
    let m = c.args.self.now in
    let n = c.loop-bit.self in
    cover_to m c.args.targets.now c.args.start c.args.end c.loop-bit.number c.in-Some.bit c.in-Some.ensures.0 c.loop-bit.invariant.covered
    (λ b l. (let g = (c.joined.ensures b).0 (c.in-Some.ensures.2 b l) in (g.0, g.1, g.2, kept_has m n c.loop-bit.invariant.kept (get_or c.args.targets.now g.0 0) c.loop-bit.number b g.3)))

pub returns-in-Some-clause-free : goal.returns-in-Some-clause-free
returns-in-Some-clause-free c k v b lo hi bl e h =
    let m = c.args.self.now in
    let n = c.loop-bit.self in
    let small : c.in-Some.bit < 32 = c.in-Some.ensures.0 in
    let word : v ≡ c.loop-bit.number = omega arith in
    let bit : b ≡ c.in-Some.bit = omega arith in
    let at : Has m (get_or c.args.targets.now k 0) c.loop-bit.number c.in-Some.bit =
    subst (λ z. Has m (get_or c.args.targets.now k 0) z c.in-Some.bit) word
    (subst (λ z. Has m (get_or c.args.targets.now k 0) v z) bit h) in
    let set : bit_at c.joined.result c.in-Some.bit ≡ 1 =
    (c.joined.ensures c.in-Some.bit).1
    (k, lo, hi, kept_back m n c.loop-bit.invariant.kept (get_or c.args.targets.now k 0) c.loop-bit.number c.in-Some.bit at) in
    let free : bit_at c.joined.result c.in-Some.bit ≡ 0 = c.in-Some.ensures.1 in
    omega arith

pub next_word-requires-clause-start : goal.next_word-requires-clause-start
next_word-requires-clause-start c =
    let g = (c.joined.ensures 0).0 (c.in-None.ensures 0 (omega arith)) in
    let a : c.args.start ≤ g.0 = g.1 in
    let b : g.0 < c.args.end = g.2 in
    omega arith

pub loop-bit-smaller : goal.loop-bit-smaller
loop-bit-smaller c =
    let m = c.args.self.now in
    let n = c.loop-bit.self in
    let all : Cover m c.args.targets.now c.args.start c.args.end (32 * (c.loop-bit.number + 1)) =
    cover_on m c.args.targets.now c.args.start c.args.end c.loop-bit.number (c.loop-bit.number + 1) c.loop-bit.invariant.covered
    (λ b l. (let g = (c.joined.ensures b).0 (c.in-None.ensures b l) in (g.0, g.1, g.2, kept_has m n c.loop-bit.invariant.kept (get_or c.args.targets.now g.0 0) c.loop-bit.number b g.3)))
    (λ v b lo lt bl. absurd (omega arith)) in
    let most : 32 * (c.loop-bit.number + 1) ≤ c.args.most = c.requires.most (32 * (c.loop-bit.number + 1)) all in
    let after : c.loop-bit.number < c.in_ok-number-in-None.number = c.in_ok-number-in-None.ensures.after in
    omega arith

pub loop-bit-preserved : goal.loop-bit-preserved
loop-bit-preserved c =
    let m = c.args.self.now in
    let n = c.loop-bit.self in
    let k = c.loop-bit.invariant.kept in
    record {
      covered = cover_on m c.args.targets.now c.args.start c.args.end c.loop-bit.number c.in_ok-number-in-None.number c.loop-bit.invariant.covered
          (λ b l. (let g = (c.joined.ensures b).0 (c.in-None.ensures b l) in (g.0, g.1, g.2, kept_has m n k (get_or c.args.targets.now g.0 0) c.loop-bit.number b g.3)))
          (λ v b lo lt bl. (let g = c.in_ok-number-in-None.ensures.covered v b lo lt bl in (g.0, g.1, g.2, kept_has m n k (get_or c.args.targets.now g.0 0) v b g.3)));
      sound = c.in_ok-number-in-None.ensures.sound;
      kept = kept_twice m n c.next_word.new.self k c.in_ok-number-in-None.ensures.kept;
    }
