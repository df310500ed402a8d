use Rattle.std.proofs.Common.{◌≡◌, map, drop}
use Rattle.c_tree.specs.View.{top_of}
use Rattle.main_declarations.specs.File.{judged_tops}
use Rattle.main_declarations.specs.Walks.{declared_of}
use Rattle.main_declarations.proofs.file_walk.judged_tops.Given as goal

abbrev pub invariant-loop-top : goal.invariant-loop-top
invariant-loop-top l =
    judged_tops l.source.places.now l.source.consts.now l.source.entries.now.entries (declared_of l.k)
    (map top_of (drop l.top-index l.tops)) ≡ judged_tops l.source.places.now l.source.consts.now l.source.entries.now.entries
    (declared_of l.initial.k) (map top_of l.tops)
