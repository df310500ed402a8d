use Rattle.std.proofs.Common.{◌≡◌, ◌<◌, ℕ, arith, length, ap, ◌∙◌, Vec, List, get_or, ◌++◌, cond, ◌∷◌, []}
use Rattle.std.specs.declared.alloc.Global.{Global}
use Rattle.std.proofs.lemmas.List.{with_items_is}
use Rattle.std.specs.Vec.{with_items}
use Rattle.lemmas.specs.Below.{row, rows}
use Rattle.local_mesh.specs.RankSet.{has}
use Rattle.lemmas.proofs.Rows.{rows_at}
use Rattle.local_mesh.proofs.halo_lists.Exporting.{pushed_rows, pushed_lengths}
use Rattle.local_mesh.proofs.halo_lists.exports.push_export.Goals as goal

-- the owner's lists are as many as there are owners
many : (xs : List (Vec (Vec ℕ Global) Global)) (owner : ℕ) (d : Vec (Vec ℕ Global) Global) (now : List (Vec ℕ Global)) → owner < length xs
    → ((a : ℕ) → a < length xs → length (rows xs a) ≡ length xs) → now ≡ (get_or xs owner d).items → length now ≡ length xs
many xs owner d now l h e = ap (length {A = Vec ℕ Global}) (e ∙ rows_at xs owner d l) ∙ h owner l

pub push_each-requires-clause-few : goal.push_each-requires-clause-few
push_each-requires-clause-few c = omega (arith, many c.args.exports.now c.args.owner c.index-exports-owner.result c.deref_mut.result.now c.requires.owner c.requires.lengths c.deref_mut.ensures.value)

pub push_each-requires-clause-ranks : goal.push_each-requires-clause-ranks
push_each-requires-clause-ranks c = λ r l h. omega (
  arith,
  c.requires.ranks r l h,
  many c.args.exports.now c.args.owner c.index-exports-owner.result c.deref_mut.result.now
      c.requires.owner c.requires.lengths c.deref_mut.ensures.value,
)

pub returns-clause-lengths : goal.returns-clause-lengths
returns-clause-lengths c =
    let xs = c.args.exports.now in
    let w = get_or xs c.args.owner c.index-exports-owner.result in
    let n : length c.deref_mut.result.now ≡ length xs = many xs c.args.owner c.index-exports-owner.result c.deref_mut.result.now c.requires.owner c.requires.lengths c.deref_mut.ensures.value in
    let m : length c.push_each.new.lists ≡ w.len = c.push_each.auto.lists ∙ c.deref_mut.ensures.len in
    pushed_lengths xs c.args.owner (length xs) (with_items w c.push_each.new.lists) c.requires.owner
    (ap (length {A = Vec ℕ Global}) (with_items_is w c.push_each.new.lists m) ∙ (c.push_each.auto.lists ∙ n)) c.requires.lengths

pub returns-clause-pushed : goal.returns-clause-pushed
returns-clause-pushed c =
    let xs = c.args.exports.now in
    let w = get_or xs c.args.owner c.index-exports-owner.result in
    let n : length c.deref_mut.result.now ≡ length xs = many xs c.args.owner c.index-exports-owner.result c.deref_mut.result.now c.requires.owner c.requires.lengths c.deref_mut.ensures.value in
    let m : length c.push_each.new.lists ≡ w.len = c.push_each.auto.lists ∙ c.deref_mut.ensures.len in
    let e : c.deref_mut.result.now ≡ rows xs c.args.owner = c.deref_mut.ensures.value ∙ rows_at xs c.args.owner c.index-exports-owner.result c.requires.owner in
    pushed_rows xs c.args.owner (length xs) (with_items w c.push_each.new.lists) c.push_each.new.lists c.args.element (has c.args.ranks) c.requires.owner (with_items_is w c.push_each.new.lists m)
    (λ r l. c.in_ok-push_each.ensures r (omega arith) ∙ ap (λ (z : List (Vec ℕ Global)). row z r ++ cond (has c.args.ranks r) (c.args.element ∷ []) []) e)
