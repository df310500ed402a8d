use Rattle.std.proofs.Common.{rules, ◌≡◌, ◌≤◌, ◌++◌, List, ℕ, ℤ, true, take, drop, length, sym, ap, ◌∙◌, subst, arith}
use Rattle.lemmas.proofs.Lists.{refilled}
use Rattle.kernel_runs.specs.Ways.{AreNumbers}
use Rattle.kernel_runs.specs.Asides.{IsAside}
use Rattle.kernel_runs.proofs.row_batches.batch.run_aside.Goals as goal

pub returns-clause-aside : goal.returns-clause-aside
returns-clause-aside c some =
    let y = c.args.rows.now in
    let m = c.args.memory.now in
    let room = c.args.room.now in
    let batch = c.args.batch.now in
    let n = c.rows_before_meeting-apart.result in
    let few : n ≤ c.rows_of_places-differ.result = c.rows_before_meeting-apart.ensures.few in
    let ran : c.run_looked_up-ran.result ≡ true = search rules in
    let numbers = c.put_all_numbers.new.numbers in
    let frame = c.run_looked_up-ran.new.frame in
    let looked : take room.numbers.len (numbers ++ drop (length numbers) room.numbers.items) ≡ numbers =
    refilled room.numbers numbers (c.put_all_numbers.auto.numbers ∙ ap length c.deref_mut.ensures.value) in
    let left : take room.frame.len (frame ++ drop (length frame) room.frame.items) ≡ frame = refilled room.frame frame (c.run_looked_up-ran.auto.frame ∙ ap length c.deref_mut-2.ensures.value) in
    let aside : IsAside y batch n c.deref-2.result.now m frame =
    c.run_looked_up-ran.ensures ran batch
    (λ must i l i_lt l_lt. c.rows_of_places-differ.ensures.differ must i l (omega (arith, i_lt, few)) (omega (arith, l_lt, few)))
    (subst (AreNumbers n y.ways.now batch) (sym (c.deref-2.ensures.value ∙ looked)) (λ w l w_lt l_lt. c.put_all_numbers.ensures w l w_lt (omega (arith, l_lt, few)))) in
    subst (λ (f : List (List ℤ)). IsAside y batch n (take room.numbers.len (numbers ++ drop (length numbers) room.numbers.items)) m f) (sym left)
    (subst (λ (k : List (List ℕ)). IsAside y batch n k m frame) c.deref-2.ensures.value aside)
