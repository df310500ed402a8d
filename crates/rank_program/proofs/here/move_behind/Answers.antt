use Rattle.std.proofs.Common.{◌≡◌, ◌+◌, ◌-◌, ◌++◌, ℕ, List, map, take, drop, get_or, slice_set, slice_index_or, suc, sym, ap, ap₂, ◌∙◌, arith}
use Rattle.kernel_model.specs.declared.types.views.frame.Place.{Place}
use Rattle.rank_program.specs.Here.{moved}
use Rattle.rank_program.proofs.Mapped.{next_of_map, map_more}
use Rattle.rank_program.proofs.here.move_behind.Goals as goal

pub loop-i-preserved : goal.loop-i-preserved
loop-i-preserved c =
    let w = c.args.width in
    let o = c.args.others in
    let xs : List Place = c.args.windows.now in
    let i = c.loop-i.i in
    let none : Place = record { from = 0; count = 0 } in
    let f = moved w o in
    let is = c.loop-i.invariant in
    let read : slice_index_or c.loop-i.windows i none ≡ get_or xs i none = ap (λ (l : List Place). get_or l i none) is ∙ next_of_map f xs i none c.loop-i-test.true in
    let put : record { from = w + c.saturating_sub.result; count = (slice_index_or c.loop-i.windows i none).count } ≡ f (get_or xs i none) =
    ap₂ (λ (a b : ℕ). record { from = w + a; count = b }) (c.saturating_sub.ensures ∙ ap (λ (p : Place). p.from - o) read) (ap (λ (p : Place). p.count) read) in
    let next : suc i ≡ i + 1 = omega arith in
    ap₂ (λ (l : List Place) (p : Place). slice_set l i p) is put ∙ map_more f xs i none c.loop-i-test.true
    ∙ ap (λ k. map f (take k xs) ++ drop k xs) next
