use Rattle.bound_program.specs.Values.{bound_of}
use Rattle.rank_layout.proofs.Putting.{kind_at, next_dat, no_next_dat}
use Rattle.rank_layout.proofs.windows.put_dat.Goals as goal

pub returns-then-is_dat-clause-put : goal.returns-then-is_dat-clause-put
returns-then-is_dat-clause-put c e are h =
    next_dat (bound_of c.args.bound.now) e c.args.args.now c.args.numbers.now are c.args.i c.requires.i
    c.args.places.now c.put_window.new.places c.args.next c.put_window.result (kind_at c.args.args.now c.args.i _ _ _ c.requires.i c.is_dat.ensures c.if-is_dat.true) c.put_window.ensures.put h

pub returns-else-is_dat-clause-put : goal.returns-else-is_dat-clause-put
returns-else-is_dat-clause-put c e are h =
    no_next_dat (bound_of c.args.bound.now) e c.args.args.now c.args.numbers.now are c.args.i c.requires.i
    c.args.places.now c.args.next (kind_at c.args.args.now c.args.i _ _ _ c.requires.i c.is_dat.ensures c.if-is_dat.false) h
