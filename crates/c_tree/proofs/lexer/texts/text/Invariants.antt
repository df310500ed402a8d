use Rattle.std.proofs.Common.{◌≡◌, ◌∷◌, true, length, take, ◌-◌, ◌≤◌}
use Rattle.std.specs.List.{list_all}
use Rattle.c_tree.specs.Spelling.{textual, all_escaped}
use Rattle.c_tree.proofs.lexer.texts.text.Given as goal

abbrev pub invariant-loop-next : goal.invariant-loop-next
invariant-loop-next l = record {
  some : 1 ≤ l.next;
  within : l.next ≤ length l.bytes;
  textual : list_all textual l.decoded.items ≡ true;
  so_far : take l.next l.bytes ≡ 34 ∷ all_escaped l.decoded.items;
}

abbrev pub decreases-loop-next : goal.decreases-loop-next
decreases-loop-next l = length l.bytes - l.next
