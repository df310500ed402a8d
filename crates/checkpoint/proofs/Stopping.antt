-- A head stops where the program does.
use Rattle.std.proofs.Common.{◌≡◌, ◌≤◌, ◌+◌, ◌-◌, ℕ, zero, suc, List, length, ap, ◌∙◌, subst, arith}
use Rattle.kernel_model.specs.declared.types.faults.KernelFault.{KernelFault}
use Rattle.schedule_model.specs.Cells.{Store}
use Rattle.schedule_model.specs.Program.{Program}
use Rattle.schedule_model.specs.Sequential.{Stop, Stopped, after_item, seq}
use Rattle.run_model.specs.Programs.{program_of}
use Rattle.checkpoint.specs.Cut.{head}
use Rattle.checkpoint.specs.Laws.{HeadsStop}
use Rattle.checkpoint.proofs.HeadRuns.{seq_same}
use Rattle.checkpoint.proofs.Long.{head_long}

stays : (p : Program KernelFault) (x : Stop KernelFault) (s : Store) (o : List ℕ) (k n : ℕ) → seq p k ≡ Stopped x s o → seq p (k + n) ≡ Stopped x s o
stays p x s o k zero at = let e : k ≡ k + zero = omega arith in subst (λ i. seq p i ≡ Stopped x s o) e at
stays p x s o k (suc n) at =
    let e : suc (k + n) ≡ k + suc n = omega arith in
    subst (λ i. seq p i ≡ Stopped x s o) e (ap (after_item p (k + n)) (stays p x s o k n at))

pub heads_stop : HeadsStop
heads_stop b k x s o cut at =
    let le : k ≤ length (head b k).trace = head_long b k cut.within in
    let e : k + (length (head b k).trace - k) ≡ length (head b k).trace = omega (arith, le) in
    subst (λ i. seq (program_of (head b k)) i ≡ Stopped x s o) e
    (stays (program_of (head b k)) x s o k (length (head b k).trace - k) (seq_same b k k cut.within (let l : k ≤ k = omega arith in l) ∙ at))
