use Rattle.std.proofs.Common.{◌≡◌, Ok, map, arith}
use Rattle.std.proofs.lemmas.Grind.{common_steps}
use Rattle.c_tree.specs.View.{top_of}
use Rattle.main_declarations.specs.Walks.{declared_of}
use Rattle.main_declarations.specs.File.{judged_tops}
use Rattle.main_declarations.proofs.KnownNames.{tops_known}
use Rattle.main_declarations.proofs.file_walk.judged_tops.Goals as goal

pub returns-clause-sets : goal.returns-clause-sets
returns-clause-sets c = λ known.
    let s = c.args.source.now in
    let e : judged_tops s.places.now s.consts.now s.entries.now.entries (declared_of c.args.k.now) (map top_of c.args.tops.now) ≡ Ok (declared_of c.loop-top.k) = grind (arith, common_steps) in
    tops_known s.places.now s.consts.now s.entries.now.entries (declared_of c.args.k.now) (declared_of c.loop-top.k) (map top_of c.args.tops.now) e known
