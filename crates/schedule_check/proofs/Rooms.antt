-- There is room for the counts of a plan, and cells are told by marks.
use Rattle.std.proofs.Common.{◌≡◌, ℕ, ◌*◌, ◌^◌, ◌<◌, ◌≤◌, Bool, true, false, refl, ap, arith, List, [], ◌∷◌, length}
use Rattle.std.specs.Prelude.{◌↔◌, not, slice_index, slice_index_or}
use Rattle.std.proofs.lemmas.Nat.{mul-le}
use Rattle.schedule_steps.specs.Outline.{Outline}
use Rattle.schedule_steps.specs.declared.step.Step.{Step}
use Rattle.schedule_steps.specs.declared.step.Step.TheVariants.{Send, Recv, Begin, End, Join}
use Rattle.schedule_steps.specs.Steps.{IsStep, Accepted}
use Rattle.schedule_steps.specs.Standard.{one_if, standard}
use Rattle.schedule_steps.specs.Judged.{is_step}
use Rattle.schedule_steps.specs.Peaks.{step_count}
use Rattle.schedule_steps.specs.Alike.{AlikeOutlines}
use Rattle.step_judge.specs.declared.marks.load.Load.{Load}
use Rattle.step_judge.specs.Load.{loaded}
use Rattle.step_judge.specs.Item.{place_of}
use Rattle.step_judge.specs.Marked.{Marked, item_at, outline_of, taken}
use Rattle.step_judge.specs.Wanted.{AreMarksOf}
use Rattle.step_judge.specs.Checking.{step_cells, untaken, HasRoom}

one_at_most : (b : Bool) → one_if b ≤ 1
one_at_most true = omega arith
one_at_most false = omega arith

pub untaken_few : (m : Step → Bool) (l : List Step) → untaken m l ≤ length l
untaken_few m [] = omega arith
untaken_few m (s ∷ l) = (let h : untaken m l ≤ length l = untaken_few m l in let b : one_if (not (m s)) ≤ 1 = one_at_most (not (m s)) in omega arith)

pub room : (v : Marked) (o : Outline) (cells : List (List ℕ)) (most steps : ℕ)
    → AreMarksOf o v
    → ((n : Outline) (s : Step) → (is_step n s ≡ true) ↔ IsStep n s)
    → ((n : Outline) (g : ℕ) → Accepted n (standard n g))
    → ((a n : Outline) → AlikeOutlines a n → (l : List Step) → Accepted a l → Accepted n l)
    → ((n : Outline) (l : List Step) → Accepted n l → length l ≡ step_count n)
    → ((k i : ℕ) → slice_index (slice_index_or cells k []) i ≤ most)
    → steps ≡ step_count o
    → steps < 2 ^ 32
    → most * steps < 2 ^ 64
    → HasRoom v cells 0 0
room v o cells most steps marks tests accepted alike counted below count few fits =
    let all : List Step = standard (outline_of v) 1 in
    let acc : Accepted (outline_of v) all = accepted (outline_of v) 1 in
    let n : length all ≡ step_count o = counted o all (alike (outline_of v) o marks.alike all acc) in
    let u : untaken (taken v) all ≤ length all = untaken_few (taken v) all in
    let m : most * untaken (taken v) all ≤ most * steps = mul-le most (untaken (taken v) all) most steps (omega arith) (omega arith) in
    record {
      all = all;
      most = most;
      whole = λ s h. acc.whole s ((tests (outline_of v) s).0 h);
      messages = λ k s r. below k (place_of (item_at v k) s r);
      frames = omega arith;
      mail = omega arith;
    }

-- a count by functions that agree on the step's message
pub same_load : (f g : ℕ → ℕ → ℕ → ℕ) (s : Step) (c : Load) → step_cells f s ≡ step_cells g s → loaded f s c ≡ loaded g s c
same_load f g (Send k a b) c e = ap (λ z. loaded (λ i x y. z) (Send k a b) c) e
same_load f g (Recv k a b) c e = ap (λ z. loaded (λ i x y. z) (Recv k a b) c) e
same_load f g (Begin k a b) c e = refl
same_load f g (End k a b) c e = refl
same_load f g (Join k) c e = refl
