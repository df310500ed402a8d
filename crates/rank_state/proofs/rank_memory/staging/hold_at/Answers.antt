use Rattle.std.proofs.Common.{◌≡◌, ◌+◌, ◌-◌, ◌≤◌, ◌∙◌, ap, arith, length, drop, ⊎_elim}
use borrow.Rule.Slice.PartMut.{put_mid}
use Rattle.std.proofs.lemmas.List.{take-take}
use Rattle.rank_state.specs.Frames.{Holds}
use Rattle.rank_state.proofs.rank_memory.Middles.{mid_same, before_mid, after_mid}
use Rattle.rank_state.proofs.rank_memory.staging.hold_at.Goals as goal

same_length : (c : goal.After-staging-1) → length c.copy_from_slice.new.self ≡ length c.args.cells.now
same_length c = ap length c.copy_from_slice.ensures.after

within : (c : goal.After-staging-1) → c.args.at + length c.args.cells.now ≤ length c.args.staging.now
within c = omega (arith, c.requires.part, c.requires.fits)

pub returns-clause-pane : goal.returns-clause-pane
returns-clause-pane c k =
    ap (Holds k)
    (take-take (length c.args.cells.now) c.args.stride
    (drop c.args.at (put_mid c.args.at (c.args.at + length c.args.cells.now - c.args.at) c.args.staging.now c.copy_from_slice.new.self))
    c.requires.fits
    ∙ (mid_same c.args.at (length c.args.cells.now) c.args.staging.now c.copy_from_slice.new.self (within c) (same_length c) ∙ c.copy_from_slice.ensures.after))

pub returns-clause-others : goal.returns-clause-others
returns-clause-others c b n =
    ⊎_elim
    (λ (le : b + n ≤ c.args.at). before_mid c.args.at (length c.args.cells.now) b n c.args.staging.now c.copy_from_slice.new.self (within c) le)
    (λ (le : c.args.at + c.args.stride ≤ b). after_mid c.args.at (length c.args.cells.now) b n c.args.staging.now c.copy_from_slice.new.self
    (within c) (same_length c) (omega (arith, le, c.requires.fits)))
