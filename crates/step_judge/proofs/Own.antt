-- Marks are those of a plan.
use Rattle.std.proofs.Common.{refl, arith}
use Rattle.schedule_steps.specs.Outline.{Outline}
use Rattle.schedule_steps.specs.Alike.{AlikeOutlines}
use Rattle.step_judge.specs.Item.{run_at}
use Rattle.step_judge.specs.Marked.{Marked, item_at, outline_of}
use Rattle.step_judge.specs.Wanted.{AreMarksOf}
use Rattle.lemmas.proofs.Numbers.{div_mono}

pub alike_self : (o : Outline) → AlikeOutlines o o
alike_self o = record {
  items = refl;
  ranks = refl;
  is_free = λ k h. refl;
  sends = λ k s r h f a b. refl;
  executed = λ k r e h f a. refl;
  core = λ k r e h f a b. refl;
  colours = λ k r e f h i a b d. refl;
}

pub own : (v : Marked) → AreMarksOf (outline_of v) v
own v = record {
  alike = alike_self (outline_of v);
  in_order = λ k r x y lt. div_mono x y (run_at (item_at v k) r).size (omega arith);
}
