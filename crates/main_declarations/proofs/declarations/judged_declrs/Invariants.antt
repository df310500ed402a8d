use Rattle.std.proofs.Common.{◌≡◌, map, drop}
use Rattle.c_tree.specs.View.{declr_of}
use Rattle.main_declarations.specs.Variables.{judged_declrs}
use Rattle.main_declarations.specs.Walks.{walked}
use Rattle.main_declarations.proofs.declarations.judged_declrs.Given as goal

abbrev pub invariant-loop-declr : goal.invariant-loop-declr
invariant-loop-declr l =
    judged_declrs l.source.places.now (walked l.k l.steps.items) l.spot l.is_const (map declr_of (drop l.declr-index l.declrs)) ≡
    judged_declrs l.source.places.now (walked l.initial.k l.initial.steps.items) l.spot l.is_const (map declr_of l.declrs)
