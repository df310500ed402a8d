use Rattle.std.proofs.Common.{◌≤◌, ◌*◌, ℕ, List, length, take, subst, sym, IfOk}
use Rattle.std.proofs.lemmas.List.{length-take-le}
use Rattle.std.proofs.lemmas.Result.{IfOk-weaker}
use Rattle.colouring.specs.Colours.{AreColours}
use Rattle.colouring.specs.Table.{IsTable}
use Rattle.colouring.specs.Mapped.{AreColumns, AreRowColours}
use Rattle.colouring.proofs.Numbering.{rank_is}
use Rattle.colouring.proofs.Columns.{targets_are, rows_are, rows_fit, rows_table, table_below}
use Rattle.colouring.proofs.target_colours.Goals as goal

pub first_numbers-requires-clause-rank : goal.first_numbers-requires-clause-rank
first_numbers-requires-clause-rank c = rank_is c.args.mesh.now c.requires.rank.0 c.requires.rank.1 c.requires.rank.2 c.args.rank.now c.requires.rank.3

pub target_table-requires-clause-rank : goal.target_table-requires-clause-rank
target_table-requires-clause-rank c = rank_is c.args.mesh.now c.requires.rank.0 c.requires.rank.1 c.requires.rank.2 c.args.rank.now c.requires.rank.3

pub slice_bounds-table-end : goal.slice_bounds-table-end
slice_bounds-table-end c =
    let is = rank_is c.args.mesh.now c.requires.rank.0 c.requires.rank.1 c.requires.rank.2 c.args.rank.now c.requires.rank.3 in
    let same = targets_are c.args.mesh.now c.args.rank.now c.args.args.now c.args.places is c.requires.args c.deref.result.now c.in-Some.map
    c.in-Some.ensures c.index.result.now c.as_slice-targets.result.now c.index.ensures c.as_slice-targets.ensures.value in
    let fits : c.args.places * length c.args.args.now ≤ length c.as_slice-targets.result.now =
    rw same (rows_fit c.args.mesh.now c.args.rank.now c.args.args.now c.args.places is c.requires.args c.deref.result.now c.in-Some.map
    c.in-Some.ensures) in
    sym (length-take-le (c.args.places * length c.args.args.now) c.as_slice-targets.result.now fits)

pub row_colours-requires-clause-table : goal.row_colours-requires-clause-table
row_colours-requires-clause-table c =
    let is = rank_is c.args.mesh.now c.requires.rank.0 c.requires.rank.1 c.requires.rank.2 c.args.rank.now c.requires.rank.3 in
    let same = targets_are c.args.mesh.now c.args.rank.now c.args.args.now c.args.places is c.requires.args c.deref.result.now c.in-Some.map
    c.in-Some.ensures c.index.result.now c.as_slice-targets.result.now c.index.ensures c.as_slice-targets.ensures.value in
    let fits : c.args.places * length c.args.args.now ≤ length c.as_slice-targets.result.now =
    rw same (rows_fit c.args.mesh.now c.args.rank.now c.args.args.now c.args.places is c.requires.args c.deref.result.now c.in-Some.map
    c.in-Some.ensures) in
    length-take-le (c.args.places * length c.args.args.now) c.as_slice-targets.result.now fits

pub row_colours-requires-clause-targets : goal.row_colours-requires-clause-targets
row_colours-requires-clause-targets c i l =
    let is = rank_is c.args.mesh.now c.requires.rank.0 c.requires.rank.1 c.requires.rank.2 c.args.rank.now c.requires.rank.3 in
    let same = targets_are c.args.mesh.now c.args.rank.now c.args.args.now c.args.places is c.requires.args c.deref.result.now c.in-Some.map
    c.in-Some.ensures c.index.result.now c.as_slice-targets.result.now c.index.ensures c.as_slice-targets.ensures.value in
    let columns = subst (λ (z : List ℕ). AreColumns c.args.mesh.now c.args.args.now z c.in-Some.map) c.deref.ensures.value c.in-Some.ensures in
    let n = c.args.places * length c.args.args.now in
    let table : IsTable c.args.mesh.now c.args.rank.now.maps.items c.args.args.now c.in_ok-starts.starts.items c.args.places
    (take n c.as_slice-targets.result.now) = rw same
    (rows_table c.args.mesh.now c.args.rank.now c.args.args.now c.args.places is c.requires.args c.in_ok-starts.starts.items
    c.in-Some.map columns) in
    table_below c.args.mesh.now c.args.rank.now c.args.args.now c.args.places is c.requires.args c.is_in_range.ensures.dats
    c.in_ok-starts.starts.items (take n c.as_slice-targets.result.now) c.in_ok-starts.total c.in_ok-starts.ensures table i l

pub returns-in-Some : goal.returns-in-Some
returns-in-Some c =
    let is = rank_is c.args.mesh.now c.requires.rank.0 c.requires.rank.1 c.requires.rank.2 c.args.rank.now c.requires.rank.3 in
    let same = targets_are c.args.mesh.now c.args.rank.now c.args.args.now c.args.places is c.requires.args c.deref.result.now c.in-Some.map
    c.in-Some.ensures c.index.result.now c.as_slice-targets.result.now c.index.ensures c.as_slice-targets.ensures.value in
    let columns = subst (λ (z : List ℕ). AreColumns c.args.mesh.now c.args.args.now z c.in-Some.map) c.deref.ensures.value c.in-Some.ensures in
    let n = c.args.places * length c.args.args.now in
    let table : IsTable c.args.mesh.now c.args.rank.now.maps.items c.args.args.now c.in_ok-starts.starts.items c.args.places
    (take n c.as_slice-targets.result.now) = rw same
    (rows_table c.args.mesh.now c.args.rank.now c.args.args.now c.args.places is c.requires.args c.in_ok-starts.starts.items
    c.in-Some.map columns) in
    IfOk-weaker c.row_colours.result
    (AreRowColours (take n c.as_slice-targets.result.now) (length c.args.args.now) c.args.places c.args.size)
    (AreColours c.args.mesh.now c.args.rank.now.maps.items c.args.args.now c.args.places c.args.size)
    (λ k h. rows_are c.args.mesh.now c.args.rank.now c.args.args.now c.args.places is c.requires.args c.is_in_range.ensures.dats
    c.in_ok-starts.starts.items (take n c.as_slice-targets.result.now) c.in_ok-starts.total c.args.size k c.in_ok-starts.ensures table
    h) c.row_colours.ensures

pub returns : goal.returns
returns c =
    let is = rank_is c.args.mesh.now c.requires.rank.0 c.requires.rank.1 c.requires.rank.2 c.args.rank.now c.requires.rank.3 in
    let found = c.in_ok-table-in-None.table.items in
    let table = subst (λ (z : List ℕ). IsTable c.args.mesh.now c.args.rank.now.maps.items c.args.args.now z c.args.places found) c.deref-in-None.ensures.value c.in_ok-table-in-None.ensures.table in
    let colours = subst (λ (z : List ℕ). IfOk c.row_colours-in-None.result
    (AreRowColours z (length c.args.args.now) c.args.places c.args.size)) c.deref-in-None-2.ensures.value c.row_colours-in-None.ensures
    in
    IfOk-weaker c.row_colours-in-None.result (AreRowColours found (length c.args.args.now) c.args.places c.args.size)
    (AreColours c.args.mesh.now c.args.rank.now.maps.items c.args.args.now c.args.places c.args.size)
    (λ k h. rows_are c.args.mesh.now c.args.rank.now c.args.args.now c.args.places is c.requires.args c.is_in_range.ensures.dats
    c.in_ok-starts.starts.items found c.in_ok-starts.total c.args.size k c.in_ok-starts.ensures table h) colours
