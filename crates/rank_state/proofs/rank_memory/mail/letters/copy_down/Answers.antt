use Rattle.std.proofs.Common.{◌≡◌, ℕ, ℤ, ◌+◌, ◌-◌, ◌≤◌, List, length, take, drop, ap, ◌∙◌, arith}
use Rattle.std.proofs.lemmas.List.Edits.{drop-paste}
use Rattle.std.proofs.lemmas.Grind.{common_steps}
use Rattle.std.proofs.Math.Seq.{paste}
use Rattle.rank_state.specs.Spans.{cells_at}
use Rattle.rank_state.proofs.rank_memory.Moving.{paste_front, paste_here}
use Rattle.rank_state.proofs.rank_memory.mail.letters.copy_down.Goals as goal

copied : (at n to : ℕ) (cs ds : List ℤ) → ds ≡ paste cs to (drop at cs) (at + n - at) → at + n ≤ length cs → to ≤ at
    → (take to ds ≡ take to cs) × (cells_at to n ds ≡ cells_at at n cs) × (drop (to + n) ds ≡ drop (to + n) cs)
copied at n to cs ds e h le =
    let m : at + n - at ≡ n = omega arith in
    let e' : ds ≡ paste cs to (drop at cs) n = e ∙ ap (paste cs to (drop at cs)) m in
    let room : n ≤ length (drop at cs) = grind (arith, common_steps) in (
      ap (take to) e' ∙ paste_front cs to (drop at cs) n (omega arith),
      ap (cells_at to n) e' ∙ paste_here cs to (drop at cs) n (omega arith) room,
      ap (drop (to + n)) e' ∙ drop-paste cs to (drop at cs) n (omega arith) room,
    )

pub returns-clause-before : goal.returns-clause-before
returns-clause-before c = (copied c.args.at c.args.count c.args.to c.args.cells.now c.copy_within.new.self c.copy_within.ensures.after c.requires.inside c.requires.down).0

pub returns-clause-here : goal.returns-clause-here
returns-clause-here c = (copied c.args.at c.args.count c.args.to c.args.cells.now c.copy_within.new.self c.copy_within.ensures.after c.requires.inside c.requires.down).1

pub returns-clause-behind : goal.returns-clause-behind
returns-clause-behind c = (copied c.args.at c.args.count c.args.to c.args.cells.now c.copy_within.new.self c.copy_within.ensures.after c.requires.inside c.requires.down).2
