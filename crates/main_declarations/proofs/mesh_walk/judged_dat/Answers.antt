use Rattle.std.proofs.Common.{◌≡◌, ◌∙◌, None, sym, rules}
use Rattle.bound_program.specs.Refusals.{first_of}
use Rattle.main_declarations.specs.Names.{means}
use Rattle.main_declarations.specs.Meanings.{set_of, or_zero, or_none, count_of, array_of}
use Rattle.main_declarations.specs.Walks.{declared_of}
use Rattle.main_declarations.specs.Declarations.{dat_decl_found}
use Rattle.main_declarations.proofs.Shapes.{IsReady, dat_ready}
use Rattle.main_declarations.proofs.mesh_walk.judged_dat.Goals as goal

ready : (c : goal.After-unsigned_abs) → IsReady c.args.k.now.mesh
    (or_zero (set_of (means (declared_of c.args.k.now).names c.args.set.now.name))) (count_of c.args.n)
    (or_none (array_of c.args.source.now.entries.now.entries c.args.array.now.name
    (means (declared_of c.args.k.now).names c.args.array.now.name)))
ready c =
    let none : first_of (dat_decl_found c.args.source.now.places.now c.args.source.now.entries.now.entries (declared_of c.args.k.now)
    c.args.is_nested c.args.t c.args.set.now c.args.n c.args.l.now c.args.array.now) ≡ None = sym c.in_ok-first.ensures ∙ search rules
    in
    dat_ready c.args.source.now.places.now c.args.source.now.entries.now.entries (declared_of c.args.k.now) c.requires c.args.is_nested
    c.args.t c.args.n c.args.array.now c.args.set.now c.args.l.now none

pub add_dat-requires-clause-set : goal.add_dat-requires-clause-set
add_dat-requires-clause-set c =
    let e : c.or_zero-set.result ≡ or_zero (set_of (means (declared_of c.args.k.now).names c.args.set.now.name)) = search rules in
    rw e (ready c).set

pub add_dat-requires-clause-dim : goal.add_dat-requires-clause-dim
add_dat-requires-clause-dim c =
    let e : c.unsigned_abs.result ≡ count_of c.args.n = search rules in
    rw e (ready c).some

pub add_dat-requires-clause-size : goal.add_dat-requires-clause-size
add_dat-requires-clause-size c =
    let s : c.or_zero-set.result ≡ or_zero (set_of (means (declared_of c.args.k.now).names c.args.set.now.name)) = search rules in
    let d : c.unsigned_abs.result ≡ count_of c.args.n = search rules in
    let v : c.known-values.result.now ≡ or_none (array_of c.args.source.now.entries.now.entries c.args.array.now.name (means (declared_of c.args.k.now).names c.args.array.now.name)) = search rules in
    rw (s, d, v) (ready c).size
