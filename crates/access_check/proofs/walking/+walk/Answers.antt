use Rattle.std.proofs.Common.{◌≡◌, ◌∙◌, refl, sym, ap, subst, ◌+◌, ◌-◌, ◌≤◌, ◌∷◌, pos, Some, length, map, set, drop, arith, to_z, w32, length-set, false}
use Rattle.std.proofs.lemmas.Int.{to_z_pos}
use Rattle.kernel_model.specs.declared.types.statements.RStmt.{RStmt}
use Rattle.kernel_model.specs.Obeys.{with_counter}
use Rattle.kernel_model.specs.Walk.{Covered, stmt_found, covered_after, turns_found, turns_covered}
use Rattle.access_check.specs.Modes.{model_of}
use Rattle.access_check.specs.Found.{found_of}
use Rattle.access_check.specs.States.{has_component, counters_of}
use Rattle.access_check.specs.Agree.{Agree, CountersFit}
use Rattle.access_check.specs.Indices.{names_of, stmt_names}
use Rattle.access_check.specs.Rows.{list_found, list_covered, ListFits}
use Rattle.access_check.proofs.Walks.{found_of_block, covered_of_block, fits_block, found_step, covered_step, agree_then, counters_with, turn_found, turn_covered, covered_end, turn_ih, turn_it, set_again, drop_here}
use Rattle.access_check.proofs.OneTurn.{enough_find, enough_cover}
use Rattle.access_check.proofs.walking.+walk.Goals as goal

pub walk-loop-inner-init : goal.walk-loop-inner-init
walk-loop-inner-init t c =
    let modes = map model_of c.args.modes.now in
    let cs = counters_of c.args.counters.now in
    let covered = has_component c.args.covered.now in
    let found = found_of c.args.found.now in
    record {
      counters = refl;
      fits = subst (ListFits (length c.args.counters.now) (names_of c.args.named.now)) (sym c.deref-inner-items.ensures.value)
          (fits_block _ _ c.in-Block.all (subst (CountersFit (length c.args.counters.now) (names_of c.args.named.now)) c.in-Block.is c.requires.fits));
      found = ap (λ l. list_found modes l cs covered found) c.deref-inner-items.ensures.value
          ∙ sym (found_of_block modes c.in-Block.all cs covered found)
          ∙ ap (λ (st : RStmt). stmt_found modes st cs covered found) (sym c.in-Block.is);
      covered = λ a i l. ap (λ (x : Covered). x a i) (ap (λ (st : RStmt). covered_after st cs covered) c.in-Block.is
          ∙ covered_of_block c.in-Block.all cs covered
          ∙ ap (λ l. list_covered l cs covered) (sym c.deref-inner-items.ensures.value));
    }

pub walk-loop-inner-preserved : goal.walk-loop-inner-preserved
walk-loop-inner-preserved t c =
    let modes = map model_of c.args.modes.now in
    let cs = counters_of c.args.counters.now in
    let items = c.deref-inner-items.result.now in
    let st = c.inner-item.result in
    let rest = drop (c.loop-inner.inner-index + 1) items in
    let cut : drop c.loop-inner.inner-index items ≡ st ∷ rest = drop_here items c.loop-inner.inner-index st c.loop-inner-test.true c.inner-item.is in
    let before = has_component c.loop-inner.covered in
    let after = has_component c.walk.new.covered in
    let agree : Agree modes (covered_after st cs before) after =
    subst (λ l. Agree modes (covered_after st (counters_of l) before) after) c.loop-inner.invariant.counters c.walk.ensures.covered in
    let next : found_of c.walk.new.found ≡ stmt_found modes st cs before (found_of c.loop-inner.found) =
    c.walk.ensures.found ∙ ap (λ l. stmt_found modes st (counters_of l) before (found_of c.loop-inner.found)) c.loop-inner.invariant.counters in
    record {
      counters = c.walk.ensures.counters ∙ c.loop-inner.invariant.counters;
      fits = (subst (ListFits (length c.args.counters.now) (names_of c.args.named.now)) cut c.loop-inner.invariant.fits).1;
      found = found_step modes st rest cs before after (found_of c.loop-inner.found) (found_of c.walk.new.found) agree next
          ∙ ap (λ l. list_found modes l cs before (found_of c.loop-inner.found)) (sym cut) ∙ c.loop-inner.invariant.found;
      covered = agree_then modes _ _ _ c.loop-inner.invariant.covered
          (subst (λ l. Agree modes (list_covered l cs before) (list_covered rest cs after)) (sym cut) (covered_step modes st rest cs before after agree));
    }

pub walk_turns-loop-i-preserved : goal.walk_turns-loop-i-preserved
walk_turns-loop-i-preserved t c =
    let modes = map model_of c.args.modes.now in
    let body = c.args.body.now in
    let cs = counters_of c.args.counters.now in
    let k = c.args.counter in
    let i = c.loop-i.i in
    let lt = c.loop-i-test.true in
    let before = has_component c.loop-i.covered in
    let after = has_component c.walk.new.covered in
    let e : to_z w32 i ≡ pos i = to_z_pos w32 i (omega arith) in
    let same : set c.loop-i.counters k (Some (to_z w32 i)) ≡ set c.args.counters.now k (Some (pos i)) =
    c.loop-i.invariant.cells (Some (to_z w32 i)) ∙ ap (λ z. set c.args.counters.now k (Some z)) e in
    let known = ap counters_of same ∙ counters_with c.args.counters.now k (pos i) c.requires.counter in
    let agree : Agree modes (covered_after body (with_counter cs k (pos i)) before) after =
    subst (λ x. Agree modes (covered_after body x before) after) known c.walk.ensures.covered in
    let next : found_of c.walk.new.found ≡ stmt_found modes body (with_counter cs k (pos i)) before (found_of c.loop-i.found) =
    c.walk.ensures.found ∙ ap (λ x. stmt_found modes body x before (found_of c.loop-i.found)) known in
    record {
      cells = λ v. ap (λ l. set l k v) (c.walk.ensures.counters ∙ same) ∙ set_again c.args.counters.now k (Some (pos i)) v;
      long = ap length (c.walk.ensures.counters ∙ same) ∙ length-set c.args.counters.now k (Some (pos i));
      found = turn_found modes (λ j d g. stmt_found modes body (with_counter cs k (pos j)) d g)
          (λ j d. covered_after body (with_counter cs k (pos j)) d) (turn_ih modes body cs k) (turn_it modes body cs k) i c.args.past before
          after (found_of c.loop-i.found) (found_of c.walk.new.found) lt agree next
          ∙ c.loop-i.invariant.found;
      covered = agree_then modes _ _ _ c.loop-i.invariant.covered
          (turn_covered modes (λ j d g. stmt_found modes body (with_counter cs k (pos j)) d g)
          (λ j d. covered_after body (with_counter cs k (pos j)) d) (turn_ih modes body cs k) i c.args.past before after lt agree);
    }

pub walk_turns-returns-clause-covered : goal.walk_turns-returns-clause-covered
walk_turns-returns-clause-covered t c =
    let modes = map model_of c.args.modes.now in
    let body = c.args.body.now in
    let cs = counters_of c.args.counters.now in
    let k = c.args.counter in
    let le : c.args.past ≤ c.loop-i.i = omega (arith, c.loop-i-test.false) in
    λ a j l. c.loop-i.invariant.covered a j l
    ∙ ap (λ (x : Covered). x a j) (covered_end modes (λ i d g. stmt_found modes body (with_counter cs k (pos i)) d g)
    (λ i d. covered_after body (with_counter cs k (pos i)) d) c.loop-i.i c.args.past (has_component c.loop-i.covered) le)

pub walk-returns-in-For-clause-found : goal.walk-returns-in-For-clause-found
walk-returns-in-For-clause-found t c =
    let modes = map model_of c.args.modes.now in
    let cs = counters_of c.args.counters.now in
    let covered = has_component c.args.covered.now in
    let found = found_of c.args.found.now in
    let k = c.in-For.counter in
    let body = c.deref-in-For.result.now in
    let fits = subst (CountersFit (length c.args.counters.now) (names_of c.args.named.now)) c.in-For.is c.requires.fits in
    let unnamed : names_of c.args.named.now k ≡ false → stmt_names body k ≡ false = λ e. ap (λ (b : RStmt). stmt_names b k) c.deref-in-For.ensures ∙ fits.2 e in
    c.walk_turns.ensures.found
    ∙ enough_find modes body cs k (names_of c.args.named.now k) unnamed c.in-For.first c.in-For.past c.enough_turns-enough.result covered found c.enough_turns-enough.ensures
    ∙ ap (λ (b : RStmt). turns_found modes (λ i d g. stmt_found modes b (with_counter cs k (pos i)) d g)
    (λ i d. covered_after b (with_counter cs k (pos i)) d) c.in-For.first (c.in-For.past - c.in-For.first) covered found)
    c.deref-in-For.ensures
    ∙ ap (λ (st : RStmt). stmt_found modes st cs covered found) (sym c.in-For.is)

pub walk-returns-in-For-clause-covered : goal.walk-returns-in-For-clause-covered
walk-returns-in-For-clause-covered t c =
    let modes = map model_of c.args.modes.now in
    let cs = counters_of c.args.counters.now in
    let covered = has_component c.args.covered.now in
    let k = c.in-For.counter in
    let body = c.deref-in-For.result.now in
    let fits = subst (CountersFit (length c.args.counters.now) (names_of c.args.named.now)) c.in-For.is c.requires.fits in
    let unnamed : names_of c.args.named.now k ≡ false → stmt_names body k ≡ false = λ e. ap (λ (b : RStmt). stmt_names b k) c.deref-in-For.ensures ∙ fits.2 e in
    let all : covered_after c.args.st.now cs covered ≡ turns_covered (λ i d. covered_after body (with_counter cs k (pos i)) d) c.in-For.first (c.enough_turns-enough.result - c.in-For.first) covered =
    ap (λ (st : RStmt). covered_after st cs covered) c.in-For.is
    ∙ ap (λ (b : RStmt). turns_covered (λ i d. covered_after b (with_counter cs k (pos i)) d) c.in-For.first (c.in-For.past - c.in-For.first) covered) (sym c.deref-in-For.ensures)
    ∙ sym (enough_cover modes body cs k (names_of c.args.named.now k) unnamed c.in-For.first c.in-For.past c.enough_turns-enough.result covered c.enough_turns-enough.ensures) in
    λ a i l. ap (λ (x : Covered). x a i) all ∙ c.walk_turns.ensures.covered a i l
