use Rattle.std.proofs.Common.{◌≡◌, ◌<◌, ℕ, sym, ap, subst, arith}
use Rattle.mesh_decl.specs.Mesh.{dat_count, dat_set}
use Rattle.rank_layout.specs.Exports.{exports_in}
use Rattle.rank_layout.specs.Messages.{HasList}
use Rattle.rank_layout.proofs.rooms.pair_spans.Goals as goal

pub exported_locals-requires-clause-has : goal.exported_locals-requires-clause-has
exported_locals-requires-clause-has c =
    let lt : c.loop-dat.dat < dat_count c.args.mesh.now = omega (arith, c.loop-dat-test.true, c.dat_count-dat-end.ensures.count) in
    let set : c.dat_shape-set.result.0 ≡ dat_set c.args.mesh.now c.loop-dat.dat = ap (λ (q : ℕ × ℕ). q.0) c.dat_shape-set.ensures in
    subst (λ t. HasList (exports_in c.args.lists.now t) c.args.from c.args.to) (sym set)
    (c.requires.few.has (dat_set c.args.mesh.now c.loop-dat.dat) c.args.from c.args.to
    (c.dat_count-dat-end.ensures.dats c.loop-dat.dat lt).set c.requires.from c.requires.to)
