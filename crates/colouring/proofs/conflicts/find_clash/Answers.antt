use Rattle.std.proofs.Common.{◌<◌, ◌≤◌, ℕ, List, length, get_or, subst, arith}
use Rattle.local_mesh.specs.LocalMesh.{executed_in}
use Rattle.colouring.specs.Table.{copies_of, IsTable}
use Rattle.colouring.specs.declared.types.IncArg.{IncArg}
use Rattle.colouring.proofs.Numbering.{rank_is, target_within}
use Rattle.colouring.proofs.Alike.{found_blocks, no_blocks, found_places, no_places}
use Rattle.colouring.proofs.conflicts.find_clash.Goals as goal

pub first_numbers-requires-clause-rank : goal.first_numbers-requires-clause-rank
first_numbers-requires-clause-rank c = rank_is c.args.mesh.now c.requires.rank.0 c.requires.rank.1 c.requires.rank.2 c.args.rank.now c.requires.rank.3

pub target_table-requires-clause-rank : goal.target_table-requires-clause-rank
target_table-requires-clause-rank c = rank_is c.args.mesh.now c.requires.rank.0 c.requires.rank.1 c.requires.rank.2 c.args.rank.now c.requires.rank.3

pub returns-then-blocks : goal.returns-then-blocks
returns-then-blocks c =
    let g = c.args.mesh.now in
    let r = c.args.rank.now in
    let args = c.args.args.now in
    let places = c.args.places in
    let k = c.requires.args in
    let is = rank_is g c.requires.rank.0 c.requires.rank.1 c.requires.rank.2 r c.requires.rank.3 in
    let table = c.in_ok-table.table.items in
    let t = subst (λ (z : List ℕ). IsTable g r.maps.items args z places table) c.deref.ensures.value c.in_ok-table.ensures.table in
    let within = λ (p a : ℕ) (x : IncArg) (lp : p < places) (la : a < length args). target_within g r is (get_or args a x) p k.set
    (c.is_in_range.ensures.dats (get_or args a x).dat (k.each a x la).dat).set (k.each a x la)
    (let e : places ≤ executed_in r.sets.items k.set = k.executed (omega arith) in omega arith) in
    found_blocks g r.maps.items args places c.in_ok-starts.total (copies_of g r.sets.items) c.in_ok-starts.starts.items table
    c.in_ok-starts.ensures t within c.args.size c.args.colours.now.blocks.items c.in_ok-blocks.blocks c.deref-2.result.now
    c.deref-3.result.now c.deref-2.ensures.value c.deref-3.ensures.value c.in_ok-blocks.ensures c.if-blocks.true

pub returns-then-inner : goal.returns-then-inner
returns-then-inner c =
    let g = c.args.mesh.now in
    let r = c.args.rank.now in
    let args = c.args.args.now in
    let places = c.args.places in
    let k = c.requires.args in
    let is = rank_is g c.requires.rank.0 c.requires.rank.1 c.requires.rank.2 r c.requires.rank.3 in
    let table = c.in_ok-table.table.items in
    let t = subst (λ (z : List ℕ). IsTable g r.maps.items args z places table) c.deref.ensures.value c.in_ok-table.ensures.table in
    let within = λ (p a : ℕ) (x : IncArg) (lp : p < places) (la : a < length args). target_within g r is (get_or args a x) p k.set
    (c.is_in_range.ensures.dats (get_or args a x).dat (k.each a x la).dat).set (k.each a x la)
    (let e : places ≤ executed_in r.sets.items k.set = k.executed (omega arith) in omega arith) in (
      no_blocks g r.maps.items args places c.in_ok-starts.total (copies_of g r.sets.items) c.in_ok-starts.starts.items table
          c.in_ok-starts.ensures t within c.args.size c.args.colours.now.blocks.items c.in_ok-blocks.blocks c.deref-2.result.now
          c.deref-3.result.now c.deref-2.ensures.value c.deref-3.ensures.value c.in_ok-blocks.ensures c.if-blocks.false,
      found_places g r.maps.items args places c.in_ok-starts.total (copies_of g r.sets.items) c.in_ok-starts.starts.items table
          c.in_ok-starts.ensures t within c.args.size c.args.colours.now.inner.items c.in_ok-inner.inner c.deref-4.result.now
          c.deref-5.result.now c.deref-4.ensures.value c.deref-5.ensures.value c.requires.inner c.in_ok-inner.ensures c.if-inner.true,
    )

pub returns : goal.returns
returns c =
    let g = c.args.mesh.now in
    let r = c.args.rank.now in
    let args = c.args.args.now in
    let places = c.args.places in
    let k = c.requires.args in
    let is = rank_is g c.requires.rank.0 c.requires.rank.1 c.requires.rank.2 r c.requires.rank.3 in
    let table = c.in_ok-table.table.items in
    let t = subst (λ (z : List ℕ). IsTable g r.maps.items args z places table) c.deref.ensures.value c.in_ok-table.ensures.table in
    let within = λ (p a : ℕ) (x : IncArg) (lp : p < places) (la : a < length args). target_within g r is (get_or args a x) p k.set
    (c.is_in_range.ensures.dats (get_or args a x).dat (k.each a x la).dat).set (k.each a x la)
    (let e : places ≤ executed_in r.sets.items k.set = k.executed (omega arith) in omega arith) in (
      no_blocks g r.maps.items args places c.in_ok-starts.total (copies_of g r.sets.items) c.in_ok-starts.starts.items table
          c.in_ok-starts.ensures t within c.args.size c.args.colours.now.blocks.items c.in_ok-blocks.blocks c.deref-2.result.now
          c.deref-3.result.now c.deref-2.ensures.value c.deref-3.ensures.value c.in_ok-blocks.ensures c.if-blocks.false,
      no_places g r.maps.items args places c.in_ok-starts.total (copies_of g r.sets.items) c.in_ok-starts.starts.items table
          c.in_ok-starts.ensures t within c.args.size c.args.colours.now.inner.items c.in_ok-inner.inner c.deref-4.result.now
          c.deref-5.result.now c.deref-4.ensures.value c.deref-5.ensures.value c.requires.inner c.in_ok-inner.ensures c.if-inner.false,
    )
