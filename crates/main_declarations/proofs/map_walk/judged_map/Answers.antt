use Rattle.std.proofs.Common.{◌≡◌, ◌<◌, None, rules}
use Rattle.bound_program.specs.Refusals.{first_of}
use Rattle.main_declarations.specs.Names.{means}
use Rattle.main_declarations.specs.Meanings.{set_of, or_zero, or_none, count_of, array_of}
use Rattle.main_declarations.specs.Walks.{declared_of}
use Rattle.mesh_decl.specs.Mesh.{set_count}
use Rattle.main_declarations.specs.Targets.{shape_decl_found}
use Rattle.main_declarations.proofs.Shapes.{IsReady, map_ready}
use Rattle.main_declarations.proofs.map_walk.judged_map.Goals as goal

ready : (c : goal.After-unsigned_abs) → IsReady c.args.k.now.mesh
    (or_zero (set_of (means (declared_of c.args.k.now).names c.args.from.now.name))) (count_of c.args.n)
    (or_none (array_of c.args.source.now.entries.now.entries c.args.array.now.name
    (means (declared_of c.args.k.now).names c.args.array.now.name)))
    × (or_zero (set_of (means (declared_of c.args.k.now).names c.args.to.now.name)) < set_count c.args.k.now.mesh)
ready c =
    let none : first_of (shape_decl_found c.args.source.now.places.now c.args.source.now.entries.now.entries (declared_of c.args.k.now)
    c.args.is_nested c.args.t c.args.from.now c.args.to.now c.args.n c.args.array.now) ≡ None =
    c.in_ok-first.ensures.shape (search rules) in
    map_ready c.args.source.now.places.now c.args.source.now.entries.now.entries (declared_of c.args.k.now) c.requires c.args.is_nested
    c.args.t c.args.n c.args.array.now c.args.from.now c.args.to.now none

pub add_map-requires-clause-from : goal.add_map-requires-clause-from
add_map-requires-clause-from c =
    let e : c.or_zero-from.result ≡ or_zero (set_of (means (declared_of c.args.k.now).names c.args.from.now.name)) = search rules in
    rw e (ready c).0.set

pub add_map-requires-clause-to : goal.add_map-requires-clause-to
add_map-requires-clause-to c =
    let e : c.or_zero-to.result ≡ or_zero (set_of (means (declared_of c.args.k.now).names c.args.to.now.name)) = search rules in
    rw e (ready c).1

pub add_map-requires-clause-dim : goal.add_map-requires-clause-dim
add_map-requires-clause-dim c =
    let e : c.unsigned_abs.result ≡ count_of c.args.n = search rules in
    rw e (ready c).0.some

pub add_map-requires-clause-size : goal.add_map-requires-clause-size
add_map-requires-clause-size c =
    let s : c.or_zero-from.result ≡ or_zero (set_of (means (declared_of c.args.k.now).names c.args.from.now.name)) = search rules in
    let d : c.unsigned_abs.result ≡ count_of c.args.n = search rules in
    let v : c.known-values.result.now ≡ or_none (array_of c.args.source.now.entries.now.entries c.args.array.now.name (means (declared_of c.args.k.now).names c.args.array.now.name)) = search rules in
    rw (s, d, v) (ready c).0.size
