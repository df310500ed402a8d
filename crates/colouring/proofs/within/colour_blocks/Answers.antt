use Rattle.std.proofs.Common.{◌≡◌, ◌≤◌, ◌<◌, ◌*◌, ◌+◌, ◌∙◌, ap, min, arith, add-mul, ⊎_elim}
use Rattle.std.proofs.lemmas.Bool.{cases_lt}
use Rattle.colouring.proofs.Blocks.{within_more}
use Rattle.colouring.proofs.within.colour_blocks.Goals as goal

pub loop-block-preserved : goal.loop-block-preserved
loop-block-preserved c =
    let b = c.loop-block.block in
    let size = c.args.size in
    let i = c.loop-block.invariant in
    let n = c.in_ok-colour_places.ensures in
    let first : c.bounds-first.result.0 ≡ b * size = ap (λ z. z.0) c.bounds-first.ensures.value in
    let last : c.bounds-first.result.1 ≡ min (b * size + size) c.args.places = ap (λ z. z.1) c.bounds-first.ensures.value in
    let next : (b + 1) * size ≡ b * size + 1 * size = add-mul b 1 size in
    record {
      least = within_more c.args.table.now c.args.width size c.args.places b c.bounds-first.result.0 c.bounds-first.result.1
          c.loop-block.inner c.colour_places.new.inner c.requires.size first last n.least n.others i.least;
      clear = n.clear;
      room = n.room ∙ i.room;
    }

pub returns-clause-least : goal.returns-clause-least
returns-clause-least c = λ p l. c.loop-block.invariant.least p (⊎_elim
    (λ (m : c.loop-block.block * c.args.size < c.args.places). absurd
    (let e : c.count-block-end.result ≤ c.loop-block.block = c.loop-block-test.false in
    let n : c.loop-block.block < c.count-block-end.result = (c.count-block-end.ensures c.loop-block.block).1 m in omega arith))
    (λ (m : c.args.places ≤ c.loop-block.block * c.args.size). omega arith)
    (cases_lt (c.loop-block.block * c.args.size) c.args.places)) l
