use Rattle.std.proofs.Common.{◌≡◌, map, drop}
use Rattle.c_tree.specs.View.{declr_of}
use Rattle.main_declarations.specs.Variables.{judged_file_declrs}
use Rattle.main_declarations.specs.Walks.{declared_of}
use Rattle.main_declarations.proofs.file_walk.judged_file_declrs.Given as goal

abbrev pub invariant-loop-declr : goal.invariant-loop-declr
invariant-loop-declr l =
    judged_file_declrs l.source.places.now l.source.consts.now (declared_of l.k) l.is_const (map declr_of (drop l.declr-index l.declrs)) ≡
    judged_file_declrs l.source.places.now l.source.consts.now (declared_of l.initial.k) l.is_const (map declr_of l.declrs)
