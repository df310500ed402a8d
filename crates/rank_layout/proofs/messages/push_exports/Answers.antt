use Rattle.std.proofs.Common.{◌≡◌, ℕ, length, get_or, vec_capacity, ap, ◌∙◌, arith}
use Rattle.std.specs.Prelude.{slice_index}
use Rattle.std.proofs.lemmas.List.{length-map}
use Rattle.mesh_decl.specs.Mesh.{dat_set, dat_dim}
use Rattle.rank_layout.specs.Exports.{exported_locals}
use Rattle.rank_layout.specs.Messages.{element_span, dat_spans}
use Rattle.rank_layout.proofs.MessageSpans.{room_more}
use Rattle.rank_layout.proofs.messages.push_exports.Goals as goal

pub push_dat-requires-clause-room : goal.push_dat-requires-clause-room
push_dat-requires-clause-room c =
    let g = c.args.mesh.now in
    let dat = get_or c.args.dats.now c.loop-dat.dat-index 0 in
    let room = room_more (dat_spans g c.args.part.now (λ t. exported_locals c.args.lists.now t c.args.pair.from c.args.pair.to)) c.args.spans.now.items c.args.dats.now c.loop-dat.dat-index 0
    (vec_capacity c.args.spans.now) c.loop-dat.spans.items c.loop-dat-test.true c.loop-dat.invariant.0 c.requires.room in
    let size = length-map (exported_locals c.args.lists.now (dat_set g dat) c.args.pair.from c.args.pair.to) (element_span (slice_index c.args.part.now.bases.items dat) (dat_dim g dat)) in
    let read : length c.exported_locals.result.now ≡ length (exported_locals c.args.lists.now (dat_set g dat) c.args.pair.from c.args.pair.to) =
    ap length c.exported_locals.ensures ∙ ap (λ (q : ℕ × ℕ). length (exported_locals c.args.lists.now q.0 c.args.pair.from c.args.pair.to)) c.dat_shape-set.ensures in
    omega (arith, room, size, read, c.loop-dat.invariant.1)
