use Rattle.std.proofs.Common.{◌≡◌, map, drop}
use Rattle.c_tree.specs.View.{declr_of}
use Rattle.name_resolution.specs.First.{least_from}
use Rattle.name_resolution.specs.Mains.{own_after_declrs, main_declrs_breaches}
use Rattle.name_resolution.proofs.hosts.declare_declrs.Given as goal

abbrev pub invariant-loop-declr : goal.invariant-loop-declr
invariant-loop-declr l = record {
  own : own_after_declrs l.own.entries l.is_const (map declr_of (drop l.declr-index l.declrs)) ≡ own_after_declrs l.initial.own.entries l.is_const (map declr_of l.declrs);
  first : least_from l.first (main_declrs_breaches l.file.entries l.own.entries l.is_const (map declr_of (drop l.declr-index l.declrs))) ≡
      least_from l.initial.first (main_declrs_breaches l.file.entries l.initial.own.entries l.is_const (map declr_of l.declrs));
}
