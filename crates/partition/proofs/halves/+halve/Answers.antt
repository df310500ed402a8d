use Rattle.std.proofs.Common.{◌++◌, ◌≡◌, ◌≢◌, ◌∙◌, ◌<◌, ◌≤◌, ◌+◌, ◌-◌, ◌*◌, ◌/◌, ℕ, List, length, get_or, take, drop, arith, ap, subst}
use Rattle.std.specs.List.Sorted.{IsPermutation}
use Rattle.partition.specs.Block.{block_start}
use Rattle.partition.specs.Parted.{IsParted}
use Rattle.partition.proofs.Parts.{lower_each, upper_each, upper_length, lower_once, upper_once, lower_share, upper_share, on_ok, both_ok}
use Rattle.partition.proofs.Parting.{parted_parts, halved_parted}
use Rattle.partition.proofs.halves.+halve.Goals as goal

pub halve-requires : goal.halve-requires
halve-requires t c =
    let xs : List ℕ = c.args.elements.now in
    let ys : List ℕ = c.cut.new.elements in
    let first : ℕ = c.start_of.result - c.start_of-2.result in
    let lower : List ℕ = c.split_at_mut-lower.result.0.now in
    let upper : List ℕ = c.split_at_mut-lower.result.1.now in
    let parted : IsParted c.args.values.now c.args.dim first xs ys = c.in_ok-cut.ensures in
    let perm : IsPermutation xs (lower ++ upper) = parted_parts c.args.values.now c.args.dim first xs ys lower upper parted c.split_at_mut-lower.ensures.front c.split_at_mut-lower.ensures.back in (
      omega (arith, c.decreases, c.requires.many, c.if-many-eq1.false),
      (
        c.requires.dim,
        (
          c.requires.few,
          (
            omega (arith, c.requires.many, c.if-many-eq1.false),
            (
              omega (arith, c.requires.high),
              (
                c.requires.size,
                (
                  lower_each (λ x. x < c.args.size) xs lower upper perm c.requires.below,
                  (
                    lower_each (λ x. x * c.args.dim + c.args.dim ≤ length c.args.values.now) xs lower upper perm c.requires.within,
                    (
                      lower_once xs lower upper perm c.requires.once,
                      c.split_at_mut-lower.ensures.front_len ∙ omega (arith, c.start_of.ensures, c.start_of-2.ensures),
                    ),
                  ),
                ),
              ),
            ),
          ),
        ),
      ),
    )

pub halve-requires-2 : goal.halve-requires-2
halve-requires-2 t c =
    let xs : List ℕ = c.args.elements.now in
    let ys : List ℕ = c.cut.new.elements in
    let first : ℕ = c.start_of.result - c.start_of-2.result in
    let lower : List ℕ = c.split_at_mut-lower.result.0.now in
    let upper : List ℕ = c.split_at_mut-lower.result.1.now in
    let parted : IsParted c.args.values.now c.args.dim first xs ys = c.in_ok-cut.ensures in
    let perm : IsPermutation xs (lower ++ upper) = parted_parts c.args.values.now c.args.dim first xs ys lower upper parted c.split_at_mut-lower.ensures.front c.split_at_mut-lower.ensures.back in (
      omega (arith, c.decreases, c.requires.many, c.if-many-eq1.false),
      (
        c.requires.dim,
        (
          c.requires.few,
          (
            omega (arith, c.requires.many, c.if-many-eq1.false),
            (
              omega (arith, c.requires.high),
              (
                omega (arith, c.halve.auto.owners, c.requires.size),
                (
                  upper_each (λ x. x < c.args.size) xs lower upper perm c.requires.below,
                  (
                    upper_each (λ x. x * c.args.dim + c.args.dim ≤ length c.args.values.now) xs lower upper perm c.requires.within,
                    (
                      upper_once xs lower upper perm c.requires.once,
                      upper_share c.args.size c.args.ranks c.args.low c.args.many (length lower) (length upper) (length xs)
                          (omega (arith, c.requires.many, c.requires.high)) (upper_length xs lower upper perm)
                          (c.split_at_mut-lower.ensures.front_len ∙ omega (arith, c.start_of.ensures, c.start_of-2.ensures))
                          c.requires.share,
                    ),
                  ),
                ),
              ),
            ),
          ),
        ),
      ),
    )

pub returns-clause-halved : goal.returns-clause-halved
returns-clause-halved t c =
    let xs : List ℕ = c.args.elements.now in
    let ys : List ℕ = c.cut.new.elements in
    let begin : ℕ = block_start c.args.size c.args.ranks (c.args.low + c.args.many / 2) - block_start c.args.size c.args.ranks c.args.low in
    let lower : List ℕ = c.split_at_mut-lower.result.0.now in
    let upper : List ℕ = c.split_at_mut-lower.result.1.now in
    let first : c.start_of.result - c.start_of-2.result ≡ begin = omega (arith, c.start_of.ensures, c.start_of-2.ensures) in
    let parted : IsParted c.args.values.now c.args.dim begin xs ys = subst (λ z. IsParted c.args.values.now c.args.dim z xs ys) first c.in_ok-cut.ensures in
    let fits : begin ≤ length xs = lower_share c.args.size c.args.ranks c.args.low c.args.many (length xs) (omega (arith, c.requires.many, c.requires.high)) c.requires.share in
    on_ok c.halve-2.result
    (λ h. λ depth l. halved_parted depth c.args.size c.args.ranks c.args.values.now c.args.dim (λ x. get_or c.halve.new.owners x 0)
    (λ x. get_or c.halve-2.new.owners x 0) c.args.low c.args.many xs ys lower upper
    (omega (arith, c.requires.many, c.if-many-eq1.false)) fits parted
    (c.split_at_mut-lower.ensures.front ∙ ap (λ z. take z ys) first) (c.split_at_mut-lower.ensures.back ∙ ap (λ z. drop z ys) first)
    c.requires.once c.in_ok-halve.ensures.halved h.0 h.1 l)
    (both_ok _ _ c.halve-2.result c.halve-2.ensures.kept c.halve-2.ensures.halved)

pub returns-clause-kept : goal.returns-clause-kept
returns-clause-kept t c =
    let xs : List ℕ = c.args.elements.now in
    let ys : List ℕ = c.cut.new.elements in
    let first : ℕ = c.start_of.result - c.start_of-2.result in
    let lower : List ℕ = c.split_at_mut-lower.result.0.now in
    let upper : List ℕ = c.split_at_mut-lower.result.1.now in
    let parted : IsParted c.args.values.now c.args.dim first xs ys = c.in_ok-cut.ensures in
    let perm : IsPermutation xs (lower ++ upper) = parted_parts c.args.values.now c.args.dim first xs ys lower upper parted c.split_at_mut-lower.ensures.front c.split_at_mut-lower.ensures.back in
    on_ok c.halve-2.result
    (λ h. λ x out. h x (upper_each (λ y. y ≢ x) xs lower upper perm out) ∙ c.in_ok-halve.ensures.kept x (lower_each (λ y. y ≢ x) xs lower upper perm out))
    c.halve-2.ensures.kept
