use Rattle.std.proofs.Common.{◌≡◌, refl, zero, ◌∷◌, ◌<◌, ℕ, suc, ℤ, pos, [], List, length, get_or, set, sym, ap, ◌∙◌, arith, add-one, get_or-set_same}
use Rattle.std.proofs.lemmas.List.{set-get_or}
use Rattle.op_num.specs.Reduction.{merged}
use Rattle.rank_state.specs.Windows.{operation}
use Rattle.rank_state.specs.Joins.{merge_rows}
use Rattle.rank_state.proofs.Public.{lists, row_is}
use Rattle.rank_machine.proofs.reduce.merge_all.Goals as goal

set_again : (xs : List ℤ) (i : ℕ) (a b : ℤ) → set (set xs i a) i b ≡ set xs i b
set_again [] i a b = refl
set_again (x ∷ xs) zero a b = refl
set_again (x ∷ xs) (suc i) a b = ap (λ z. x ∷ z) (set_again xs i a b)

pub loop-row-init : goal.loop-row-init
loop-row-init c = sym (set-get_or c.args.variables.now c.args.at (pos 0))

pub merge_row-requires-clause-slot : goal.merge_row-requires-clause-slot
merge_row-requires-clause-slot c =
    let row = c.deref.ensures.value ∙ row_is c.args.rows.now c.loop-row.row-index c.row-item.result c.loop-row-test.true c.row-item.is in
    omega (arith, ap length row, c.requires.rows c.loop-row.row-index c.loop-row-test.true)

pub loop-row-preserved : goal.loop-row-preserved
loop-row-preserved c =
    let before = get_or c.args.variables.now c.args.at (pos 0) in
    let row : c.deref.result.now ≡ get_or (lists c.args.rows.now) c.loop-row.row-index [] = c.deref.ensures.value
    ∙ row_is c.args.rows.now c.loop-row.row-index c.row-item.result c.loop-row-test.true c.row-item.is in
    let o = operation c.args.how in
    let lt : c.args.at < length c.args.variables.now = c.requires.at in
    step (operation c.args.how) c.args.variables.now c.loop-row.variables c.merge_row.new.variables c.args.at
    (merge_rows (operation c.args.how) c.args.slot (lists c.args.rows.now) c.loop-row.row-index
    (get_or c.args.variables.now c.args.at (pos 0)))
    (get_or (get_or (lists c.args.rows.now) c.loop-row.row-index []) c.args.slot (pos 0)) c.requires.at c.loop-row.invariant
    (c.merge_row.ensures ∙ ap (λ r. set c.loop-row.variables c.args.at (merged (operation c.args.how) (get_or c.loop-row.variables c.args.at (pos 0)) (get_or r c.args.slot (pos 0)))) row)
    ∙ ap (λ n. set c.args.variables.now c.args.at
    (merge_rows (operation c.args.how) c.args.slot (lists c.args.rows.now) n (get_or c.args.variables.now c.args.at (pos 0))))
    (sym (add-one c.loop-row.row-index))
  where
    step : (o : Rattle.op_num.specs.Reduction.Reduction) (xs ys new : List ℤ) (i : ℕ) (a b : ℤ) → i < length xs → ys ≡ set xs i a
        → new ≡ set ys i (merged o (get_or ys i (pos 0)) b) → new ≡ set xs i (merged o a b)
    step o xs ys new i a b lt e h =
        h ∙ (ap (λ z. set z i (merged o (get_or z i (pos 0)) b)) e ∙ (ap (λ z. set (set xs i a) i (merged o z b)) (get_or-set_same xs i a (pos 0) lt) ∙ set_again xs i a (merged o a b)))
