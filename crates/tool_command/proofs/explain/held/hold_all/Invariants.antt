use Rattle.std.proofs.Common.{◌≡◌, ◌≤◌, ◌↔◌, List, ℕ, map, take}
use Rattle.explanations.specs.Held.{held as held_by}
use Rattle.tool_command.specs.Held.{AreHeld}
use Rattle.tool_command.proofs.explain.held.hold_all.Given as goal

abbrev pub invariant-loop-place : goal.invariant-loop-place
invariant-loop-place g l = record {
  told : g.F.Shelf.told l.shelf ≡ g.F.Shelf.told l.fn.shelf;
  lends : (n : List ℕ) → g.F.Shelf.lends l.fn.shelf n ↔ g.F.Shelf.lends l.shelf n;
  risen : g.F.Shelf.faults l.fn.shelf ≤ g.F.Shelf.faults l.shelf;
  held : AreHeld (g.F.Shelf.told l.fn.shelf) (held_by l.held) (map (λ n. n.now) (take l.place l.names));
}
