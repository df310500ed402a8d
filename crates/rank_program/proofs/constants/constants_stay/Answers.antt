use Rattle.std.proofs.Common.{ap₂, ℕ, ◌≡◌, ◌<◌, ◌+◌, true, false, length, get_or, sym, ap, subst, ◌∙◌, arith, List, Bool}
use Rattle.std.proofs.lemmas.Bool.{false≢true}
use Rattle.std.proofs.lemmas.List.{length-append}
use Rattle.rank_layout.specs.Made.{row_of}
use Rattle.rank_program.specs.Constants.{Apart}
use Rattle.rank_program.proofs.ConstantsStay.{row_at, one_more}
use Rattle.rank_program.proofs.constants.constants_stay.Goals as goal

pub loop-indices-preserved : goal.loop-indices-preserved
loop-indices-preserved c =
    let rows = c.args.loops.now in
    let n = c.loop-indices.indices-index in
    let pushed = c.in_ok-push.ensures.items in
    let row : row_of rows n ≡ c.deref.result.now =
    row_at rows n c.indices-item.result c.loop-indices-test.true c.indices-item.is ∙ sym c.deref.ensures.value in (
      ap length pushed ∙ length-append c.loop-indices.stay.items _ ∙ ap (λ k. k + 1) c.loop-indices.invariant.0,
      subst (λ (l : List Bool). (s : _) → get_or l s false ≡ true → Apart (row_of rows s) c.args.constants.now) (sym pushed)
          (one_more rows c.args.constants.now c.loop-indices.stay.items n c.loop-indices.invariant.0 c.loop-indices.invariant.1 c.none_marked.result
          (λ free. subst (λ l. Apart l c.args.constants.now) (sym row)
          (λ i j li lj e. false≢true (sym (c.none_marked.ensures free i li) ∙ (ap₂ (λ (l : List Bool) (k : ℕ). get_or l k true) c.deref-in-loop-indices.ensures.value e ∙ c.in_ok-marks.ensures j lj))))),
    )
