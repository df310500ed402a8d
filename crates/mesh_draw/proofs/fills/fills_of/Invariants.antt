use Rattle.std.proofs.Common.{◌≡◌, All, take}
use Rattle.mesh_draw.specs.Picture.{IsColour}
use Rattle.mesh_draw.specs.Fills.{fills_of}
use Rattle.mesh_draw.proofs.fills.fills_of.Given as goal

abbrev pub invariant-loop-number : goal.invariant-loop-number
invariant-loop-number l = record {
  fills : l.fills.items ≡ fills_of l.shown (take l.number-index l.numbers);
  colours : All IsColour l.fills.items;
}
