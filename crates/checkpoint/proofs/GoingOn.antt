-- A run that came to an item goes on as the items from there.
use Rattle.std.proofs.Common.{◌≡◌, ◌+◌, ◌-◌, ◌++◌, ℕ, zero, suc, List, [], refl, sym, ap, ◌∙◌, subst, arith, append_assoc}
use Rattle.std.proofs.lemmas.List.{append-nil}
use Rattle.kernel_model.specs.declared.types.faults.KernelFault.{KernelFault}
use Rattle.schedule_model.specs.Cells.{Store}
use Rattle.schedule_model.specs.Program.{Program, Kind, Free, Reduce, Ordered, Host, Hosted, Halts, Goes, elements}
use Rattle.schedule_model.specs.Sequential.{Loop, Broke, Ran_through, loop, one_more, Seq, Stopped, Going, after_loop, after_host, item_from, after_item, seq, sequential, with_variables}
use Rattle.checkpoint.specs.Laws.{from_item, behind, RunsGoOn}

module _ (p : Program KernelFault) (k : ℕ) (s : Store) (o : List ℕ) where
  abbrev rest : Program KernelFault
  rest = from_item p k s

  same_loop : (j n : ℕ) (t : Store) → loop p (k + j) n t ≡ loop rest j n t
  same_loop j zero t = refl
  same_loop j (suc n) t = ap (one_more p (k + j) n) (same_loop j n t)

  loop_behind : (j : ℕ) (w : List ℕ) (x : Loop KernelFault) → after_loop (k + j) (o ++ w) x ≡ behind k o (after_loop j w x)
  loop_behind j w (Broke e f t) = refl
  loop_behind j w (Ran_through t) = refl

  host_behind : (j : ℕ) (t : Store) (w : List ℕ) (x : Hosted KernelFault) → after_host (k + j) t (o ++ w) x ≡ behind k o (after_host j t w x)
  host_behind j t w (Halts f) = refl
  host_behind j t w (Goes v z) = ap (Going (with_variables v t)) (append_assoc o w z)

  item_behind : (j : ℕ) (t : Store) (w : List ℕ) (kind : Kind) → item_from p (k + j) kind t (o ++ w) ≡ behind k o (item_from rest j kind t w)
  item_behind j t w Free = ap (after_loop (k + j) (o ++ w)) (same_loop j (elements rest j) t) ∙ loop_behind j w (loop rest j (elements rest j) t)
  item_behind j t w Reduce = refl
  item_behind j t w Ordered = ap (after_loop (k + j) (o ++ w)) (same_loop j (elements rest j) t) ∙ loop_behind j w (loop rest j (elements rest j) t)
  item_behind j t w Host = host_behind j t w (p.host (k + j) t)

  run_behind : (j : ℕ) (x : Seq KernelFault) → after_item p (k + j) (behind k o x) ≡ behind k o (after_item rest j x)
  run_behind j (Stopped x t w) = refl
  run_behind j (Going t w) = item_behind j t w (p.kind (k + j))

  runs_behind : seq p k ≡ Going s o → (n : ℕ) → seq p (k + n) ≡ behind k o (seq rest n)
  runs_behind at zero =
      let e : k ≡ k + zero = omega arith in
      subst (λ i. seq p i ≡ Going s (o ++ [])) e (at ∙ ap (Going s) (sym (append-nil o)))
  runs_behind at (suc n) =
      let e : suc (k + n) ≡ k + suc n = omega arith in
      subst (λ i. seq p i ≡ behind k o (seq rest (suc n))) e (ap (after_item p (k + n)) (runs_behind at n) ∙ run_behind n (seq rest n))

pub runs_go_on : RunsGoOn
runs_go_on p k s o le at =
    let e : k + (p.items - k) ≡ p.items = omega arith in
    subst (λ i. seq p i ≡ behind k o (sequential (from_item p k s))) e (runs_behind p k s o at (p.items - k))
