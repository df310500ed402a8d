use Rattle.std.proofs.Common.{◌<◌, ℕ, refl, ap, sym, List, None, length, get_or, arith}
use Rattle.std.proofs.lemmas.List.{length_push, get_or_default}
use Rattle.mesh_decl.specs.Mesh.{dat_set}
use Rattle.colouring.specs.declared.types.IncArg.{IncArg}
use Rattle.colouring.specs.Table.{copies_of}
use Rattle.colouring.proofs.Numbering.{have_more, read_copies}
use Rattle.colouring.proofs.table.give_numbers.Goals as goal

none_there : IncArg
none_there = record { dat = 0; via = None }

pub loop-a-preserved : goal.loop-a-preserved
unfolding none_there
loop-a-preserved c =
    let g = c.args.mesh.now in
    let sets = c.args.rank.now.sets.items in
    let a = c.loop-a.a in
    let la : a < length c.args.args.now = c.loop-a-test.true in
    let dat = (get_or c.args.args.now a none_there).dat in
    let v = get_or c.reserve.new.bases dat 0 in
    let ls : dat_set g dat < length sets = rw c.requires.rank.sets_count (c.is_in_range.ensures.dats dat (c.requires.args a none_there la)).set in
    let copies = read_copies sets c.dat_shape-set.result.0 (dat_set g dat) c.index.result.now c.as_slice-copies.result.now
    (ap (λ z. z.0) c.dat_shape-set.ensures) ls c.index.ensures c.as_slice-copies.ensures in
    rw c.in_ok-push.ensures.items (record {
      count = omega (arith, length_push c.loop-a.starts.items v, c.loop-a.invariant.count);
      bases = c.in_ok-total.ensures.bases (copies_of g sets) (ap (λ (z : List ℕ). length z) (sym copies)) c.loop-a.invariant.bases;
      have = have_more c.args.args.now c.loop-a.starts.items c.loop-a.bases c.reserve.new.bases a v dat c.loop-a.invariant.count
          (λ x. ap (λ (z : IncArg). z.dat) (get_or_default c.args.args.now a x none_there la)) refl c.in_ok-total.ensures.kept
          c.in_ok-total.ensures.given c.loop-a.invariant.have;
    })
