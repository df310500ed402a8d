use Rattle.std.proofs.Common.{◌≡◌, ◌<◌, ◌≤◌, ◌∙◌, refl, subst, length, arith, ⊎_elim}
use Rattle.std.proofs.lemmas.Bool.{cases_lt}
use Rattle.colouring.specs.Rows.{Least}
use Rattle.colouring.proofs.Telling.{clear_tell, least_row}
use Rattle.colouring.proofs.greedy.colour_rows.Goals as goal

pub loop-row-init : goal.loop-row-init
loop-row-init c = record {
  least = λ p lt. absurd (omega arith);
  told = clear_tell c.args.targets.now c.args.width c.args.colours.now c.args.masks.now c.requires.clear;
  sound = c.requires.clear.sound;
  room = refl;
  touched = λ t away. c.requires.clear.words t 0;
}

pub loop-row-preserved : goal.loop-row-preserved
loop-row-preserved c =
    let i = c.loop-row.invariant in
    let n = c.in_ok-colour_row.ensures in
    let ts = c.args.targets.now in
    record {
      least = λ p lt. ⊎_elim
          (λ (l : p < c.loop-row.row). least_row ts c.args.width c.loop-row.colours c.colour_row.new.colours p (λ q le. n.others q (λ e. omega arith)) (i.least p l))
          (λ (l : c.loop-row.row ≤ p). subst (λ z. Least ts c.args.width c.colour_row.new.colours z) (let e : c.loop-row.row ≡ p = omega arith in e) n.least)
          (cases_lt p c.loop-row.row);
      told = n.told;
      sound = n.sound;
      room = n.room ∙ i.room;
      touched = λ t away. n.touched t away ∙ i.touched t away;
    }

pub returns-clause-least : goal.returns-clause-least
returns-clause-least c = λ p lt. c.loop-row.invariant.least p (let e : length c.args.colours.now ≤ c.loop-row.row = c.loop-row-test.false in omega arith)
