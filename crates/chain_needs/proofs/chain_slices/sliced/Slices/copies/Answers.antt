use Rattle.std.proofs.Common.{◌≡◌, ◌<◌, List, Vec, ℕ, length, ap, ◌∙◌, arith}
use Rattle.std.specs.declared.alloc.Global.{Global}
use Rattle.lemmas.specs.Below.{listed, row, rows}
use Rattle.lemmas.proofs.Rows.{row_read, rows_at}
use Rattle.mesh_decl.specs.Mesh.{dat_set, set_size}
use Rattle.chain_model.specs.Slices.{needs}
use Rattle.chain_needs.specs.Shapes.{IsShape, needs_others}
use Rattle.chain_needs.proofs.chain_slices.sliced.Slices.copies.Goals as goal

pub index-requires-2 : goal.index-requires-2
index-requires-2 c =
    let r = c.requires in
    let is : IsShape r.0 r.1 c.item_chain.result.now = (c.item_chain.ensures r.0 r.1 r.2 r.3 r.4).0 in
    let l : c.args.dat < length c.item_chain.result.now.copies.items = omega (arith, is.dats, r.5) in
    let e : c.index.result.now.items ≡ rows c.item_chain.result.now.copies.items c.args.dat =
    ap (λ (z : Vec (Vec ℕ Global) Global). z.items) c.index.ensures ∙ rows_at c.item_chain.result.now.copies.items c.args.dat c.index.result.now l in
    omega (arith, c.index.result.now.ok.0, ap (length {A = Vec ℕ Global}) e, is.ranks c.args.dat r.5, r.6)

pub returns : goal.returns
unfolding needs
returns c = λ b o h free first ld lr.
    let both = c.item_chain.ensures b o h free first in
    let is : IsShape b o c.item_chain.result.now = both.0 in
    let l : c.args.dat < length c.item_chain.result.now.copies.items = omega (arith, is.dats) in
    let e : c.index.result.now.items ≡ rows c.item_chain.result.now.copies.items c.args.dat =
    ap (λ (z : Vec (Vec ℕ Global) Global). z.items) c.index.ensures ∙ rows_at c.item_chain.result.now.copies.items c.args.dat c.index.result.now l in
    let m : c.args.rank < length c.index.result.now.items = omega (arith, ap (length {A = Vec ℕ Global}) e, is.ranks c.args.dat ld) in
    c.deref.ensures.value
    ∙ (row_read c.index.result.now.items c.args.rank c.index-2.result.now m c.index-2.ensures
    ∙ (ap (λ (z : List (Vec ℕ Global)). row z c.args.rank) e
    ∙ (is.copies c.args.dat c.args.rank ld lr
    ∙ ap (λ z. listed (set_size b.mesh (dat_set b.mesh c.args.dat)) (needs_others b o z c.args.rank c.args.dat)) both.1)))
