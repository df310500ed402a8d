-- The run of a head up to the cut is the program's.
use Rattle.std.proofs.Common.{◌≡◌, ◌≤◌, ◌<◌, ℕ, zero, suc, List, length, take, refl, ap, ◌∙◌, arith}
use Rattle.std.proofs.lemmas.List.{get_or_append_left, get_or-take, length-take-le}
use Rattle.kernel_model.specs.declared.types.faults.KernelFault.{KernelFault}
use Rattle.schedule_model.specs.Cells.{Store}
use Rattle.schedule_model.specs.Program.{Program, Kind, Free, Reduce, Ordered, Host, elements}
use Rattle.schedule_model.specs.Sequential.{Loop, Broke, Ran_through, loop, one_more, after_run, Seq, Stopped, Going, after_loop, after_host, item_from, after_item, seq}
use Rattle.bound_program.specs.Values.{BoundValue, Exit}
use Rattle.bound_program.specs.Values as values
use Rattle.bound_program.specs.Fits.{site_at}
use Rattle.run_model.specs.Kernels.{element_run}
use Rattle.run_model.specs.Hosts.{act_run}
use Rattle.run_model.specs.Programs.{item_at, kind_of, loop_of, act_in, program_of}
use Rattle.checkpoint.specs.Cut.{head, says_state}

-- programs with the same items up to one
module _ (b : BoundValue) (k : ℕ) where
  abbrev q : Program KernelFault
  q = program_of (head b k)

  abbrev p : Program KernelFault
  p = program_of b

  one_same : (j n : ℕ) → item_at (head b k) j ≡ item_at b j → (x : Loop KernelFault) → one_more q j n x ≡ one_more p j n x
  one_same j n same (Broke e f t) = refl
  one_same j n same (Ran_through t) = ap (λ i. after_run n t (element_run b (site_at b (loop_of i)) n t)) same

  loop_same : (j n : ℕ) (t : Store) → item_at (head b k) j ≡ item_at b j → loop q j n t ≡ loop p j n t
  loop_same j zero t same = refl
  loop_same j (suc n) t same = one_same j n same (loop q j n t) ∙ ap (one_more p j n) (loop_same j n t same)

  elements_same : (j : ℕ) → item_at (head b k) j ≡ item_at b j → elements q j ≡ elements p j
  elements_same j same = ap (λ i. p.size (site_at b (loop_of i)).set) same

  whole_same : (j : ℕ) (t : Store) (o : List ℕ) → item_at (head b k) j ≡ item_at b j → after_loop j o (loop q j (elements q j) t) ≡ after_loop j o (loop p j (elements p j) t)
  whole_same j t o same = ap (after_loop j o) (loop_same j (elements q j) t same ∙ ap (λ n. loop p j n t) (elements_same j same))

  kinds_same : (j : ℕ) (t : Store) (o : List ℕ) → item_at (head b k) j ≡ item_at b j → (kind : Kind) → item_from q j kind t o ≡ item_from p j kind t o
  kinds_same j t o same Free = whole_same j t o same
  kinds_same j t o same Reduce = refl
  kinds_same j t o same Ordered = whole_same j t o same
  kinds_same j t o same Host = ap (λ i. after_host j t o (act_run b t (act_in i))) same

  item_same : (j : ℕ) → item_at (head b k) j ≡ item_at b j → (x : Seq KernelFault) → after_item q j x ≡ after_item p j x
  item_same j same (Stopped x t o) = refl
  item_same j same (Going t o) = kinds_same j t o same (q.kind j) ∙ ap (λ i. item_from p j (kind_of i) t o) same

  items_same : (j : ℕ) → k ≤ length b.trace → j < k → item_at (head b k) j ≡ item_at b j
  items_same j le lt =
      let long : length (take k b.trace) ≡ k = length-take-le k b.trace le in
      get_or_append_left (take k b.trace) (says_state b k) (values.Host Exit) j (let l : j < length (take k b.trace) = omega (arith, long, lt) in l)
      ∙ get_or-take k b.trace j (values.Host Exit) lt

  pub seq_same : (j : ℕ) → k ≤ length b.trace → j ≤ k → seq (program_of (head b k)) j ≡ seq (program_of b) j
  seq_same zero le l = refl
  seq_same (suc j) le l =
      item_same j (items_same j le (let lt : j < k = omega (arith, l) in lt)) (seq q j)
      ∙ ap (after_item p j) (seq_same j le (let m : j ≤ k = omega (arith, l) in m))
