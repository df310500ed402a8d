-- Every value stays in range, whatever steps of the plan are taken.
use Rattle.std.proofs.Common.{true, ap, ◌≡◌, ℕ, ℤ, zero, suc, ◌<◌, Bool, cond, refl, arith, Option, Some, None, List, [], ◌∷◌, ◌++◌, FitsSigned, w32}
use Rattle.std.specs.Prelude.{◌&&◌, ◌==◌, nat_lt}
use Rattle.op_num.specs.Reduction.{Reduction}
use Rattle.schedule_steps.specs.declared.step.Step.{Step}
use Rattle.schedule_steps.specs.declared.step.Step.TheVariants.{Send, Recv, Begin, End, Join}
use Rattle.schedule_steps.specs.Steps.{IsStep, same3}
use Rattle.schedule_model.specs.Cells.{Data, Variable, DatCell, VarCell, InRange}
use Rattle.schedule_model.specs.Effects.{Ran, Faulted, Finished, is_modified}
use Rattle.schedule_model.specs.Program.{Kind, Free, Reduce, Ordered, Host, Hosted, Halts, Goes, elements, is_loop}
use Rattle.schedule_model.specs.Setup.{Setup, owner_of, executes, outline}
use Rattle.schedule_model.specs.Sequential.{Stop, Loop, Broke, Ran_through, loop}
use Rattle.schedule_model.specs.Machine.{Frame, Shut, Broken, Holds, Message, State, unit_at, merge_at, start_state, put1, put3, window_of, view, taken, arrives, opened, closed, least, merged_from, reduced, gathered, looped, hosted, done, joined, step}
use Rattle.schedule_model.specs.Tests.{free_kind}
use Rattle.schedule_model.proofs.Law.{Law, good_unit, good_merge}
use Rattle.schedule_model.proofs.Sequence.{GoodLoop, good_loop}
use Rattle.std.proofs.lemmas.Bool.{cond_both, and_parts, ltb-true}

abbrev pub Good : ℤ → Type 0
Good v = FitsSigned w32 v

abbrev pub GoodMail : List Message → Type 0
GoodMail [] = Unit {0}
GoodMail (x ∷ xs) = ((c : DatCell) → Good (x.values c)) × GoodMail xs

abbrev pub GoodFrame : Frame → Type 0
GoodFrame Shut = Unit {0}
GoodFrame Broken = Unit {0}
GoodFrame (Holds t) = InRange t

good_push : (xs : List Message) (x : Message) → GoodMail xs → ((c : DatCell) → Good (x.values c)) → GoodMail (xs ++ (x ∷ []))
good_push [] x h g = (g, tt)
good_push (y ∷ xs) x h g = (h.0, good_push xs x h.1 g)

pub record Sane {F : Type 0} (st : State F) : Type 0 where
  pub cells : (r : ℕ) (c : DatCell) → Good (st.memories r c)
  pub variables : (v : VarCell) → Good (st.variables v)
  pub parts : (r s : ℕ) (v : VarCell) → Good (st.partials r s v)
  pub post : (s r : ℕ) → GoodMail (st.mail s r)
  pub frames : (k r e : ℕ) → GoodFrame (st.frames k r e)

module _ {F : Type 0} (p : Setup F) (q : Law p) (st : State F) (h : Sane st) where
  good_rank : (r : ℕ) (v : DatCell → ℤ) (f : ℕ → DatCell → ℤ) → ((c : DatCell) → Good (v c)) → ((x : ℕ) (c : DatCell) → Good (f x c)) → (x : ℕ) (c : DatCell) → Good (put1 r v f x c)
  good_rank r v f g all x c = cond_both (x == r) v (f x) (λ m. Good (m c)) (λ t. g c) (λ t. all x c)

  good_cond : (b : Bool) (x y : ℤ) → Good x → Good y → Good (cond b x y)
  good_cond b x y gx gy = cond_both b x y Good (λ t. gx) (λ t. gy)

  good_window : (o : Option Reduction) (v : ℤ) → Good v → Good (window_of o v)
  good_window None v g = g
  good_window (Some o) v g = (q.reductions o).unit_fits

  pub good_view : (k r : ℕ) → InRange (view p k r st)
  good_view k r (Data c) = h.cells r c
  good_view k r (Variable v) = good_window (p.reduces (p.program.site k) v) (st.variables v) (h.variables v)

  good_frames : (k r e : ℕ) (x : Frame) → GoodFrame x → (a b c : ℕ) → GoodFrame (put3 k r e x st.frames a b c)
  good_frames k r e x g a b c = cond_both (same3 a b c k r e) x (st.frames a b c) GoodFrame (λ t. g) (λ t. h.frames a b c)

  good_taken : (r s : ℕ) (xs : List Message) → GoodMail xs → Sane (taken p r s xs st)
  good_taken r s [] g = h
  good_taken r s (x ∷ xs) g = record {
    cells = good_rank r (λ c. cond (arrives p x.about r s c) (x.values c) (st.memories r c)) st.memories
        (λ c. good_cond (arrives p x.about r s c) (x.values c) (st.memories r c) (g.0 c) (h.cells r c)) h.cells;
    variables = h.variables;
    parts = h.parts;
    post = λ a b. cond_both ((a == s) && (b == r)) xs (st.mail a b) GoodMail (λ t. g.1) (λ t. h.post a b);
    frames = h.frames;
  }

  good_opened : (k r e : ℕ) (x : Ran F) → is_loop (p.program.kind k) ≡ true → e < elements p.program k → p.program.run k e (view p k r st) ≡ x → Sane (opened k r e x st)
  good_opened k r e (Faulted f) lp lt i = record { cells = h.cells; variables = h.variables; parts = h.parts; post = h.post; frames = good_frames k r e Broken tt }
  good_opened k r e (Finished t) lp lt i = record {
    cells = h.cells;
    variables = h.variables;
    parts = h.parts;
    post = h.post;
    frames = good_frames k r e (Holds t) (q.lawful.kernels.run_in_range k e (view p k r st) t lp lt (good_view k r) i);
  }

  good_shut : (k r e : ℕ) → Sane (record st { frames = put3 k r e Shut st.frames })
  good_shut k r e = record { cells = h.cells; variables = h.variables; parts = h.parts; post = h.post; frames = good_frames k r e Shut tt }

  good_closed : (k r e : ℕ) (x : Frame) → GoodFrame x → Sane (closed p k r e x st)
  good_closed k r e Shut g = good_shut k r e
  good_closed k r e Broken g = good_shut k r e
  good_closed k r e (Holds t) g = record {
    cells = good_rank r (λ c. cond (is_modified (p.touch k e (Data c))) (t (Data c)) (st.memories r c)) st.memories
        (λ c. good_cond (is_modified (p.touch k e (Data c))) (t (Data c)) (st.memories r c) (g (Data c)) (h.cells r c)) h.cells;
    variables = h.variables;
    parts = λ a b v. cond_both ((a == r) && (b == p.program.site k))
        (λ v. cond (p.owner (p.program.set k) e == r)
        (merge_at (p.reduces (p.program.site k) v) (st.partials r (p.program.site k) v) (t (Variable v)))
        (st.partials r (p.program.site k) v)) (st.partials a b) (λ f. Good (f v))
        (λ i. good_cond (p.owner (p.program.set k) e == r) (merge_at (p.reduces (p.program.site k) v) (st.partials r (p.program.site k) v) (t (Variable v))) (st.partials r (p.program.site k) v)
        (good_merge p q (p.reduces (p.program.site k) v) (st.partials r (p.program.site k) v) (t (Variable v)) (h.parts r (p.program.site k) v) (g (Variable v))) (h.parts r (p.program.site k) v))
        (λ i. h.parts a b v);
    post = h.post;
    frames = good_frames k r e Shut tt;
  }

  pub good_merged : (o : Option Reduction) (s : ℕ) (v : VarCell) (n : ℕ) (x : ℤ) → Good x → Good (merged_from st o s v n x)
  good_merged o s v zero x g = g
  good_merged o s v (suc n) x g = good_merge p q o (merged_from st o s v n x) (st.partials n s v) (good_merged o s v n x g) (h.parts n s v)

  pub good_reduced : (k : ℕ) → Sane (reduced p k st)
  good_reduced k = record {
    cells = h.cells;
    variables = λ v. good_merged (p.reduces (p.program.site k) v) (p.program.site k) v p.ranks (st.variables v) (h.variables v);
    parts = λ r s v. good_cond (s == p.program.site k) (unit_at (p.reduces s v)) (st.partials r s v) (good_unit p q (p.reduces s v)) (h.parts r s v);
    post = h.post;
    frames = h.frames;
  }

  pub good_gathered : InRange (gathered p st)
  good_gathered (Data c) = h.cells (owner_of p c) c
  good_gathered (Variable v) = h.variables v

  pub good_looped : (k : ℕ) (x : Loop F) → GoodLoop x → Sane (looped p k x st)
  good_looped k (Broke e f t) g = record {
    cells = λ r c. good_cond (owner_of p c == r) (t (Data c)) (st.memories r c) (g (Data c)) (h.cells r c);
    variables =
        λ v. g (Variable v);
    parts = h.parts;
    post = h.post;
    frames = h.frames;
  }
  good_looped k (Ran_through t) g = record {
    cells = λ r c. good_cond (owner_of p c == r) (t (Data c)) (st.memories r c) (g (Data c)) (h.cells r c);
    variables =
        λ v. g (Variable v);
    parts = h.parts;
    post = h.post;
    frames = h.frames;
  }

  pub good_hosted : (k : ℕ) (x : Hosted F) → p.program.host k (gathered p st) ≡ x → Sane (hosted k x st)
  good_hosted k (Halts f) i = record { cells = h.cells; variables = h.variables; parts = h.parts; post = h.post; frames = h.frames }
  good_hosted k (Goes v w) i = record { cells = h.cells; variables = q.lawful.kernels.host_in_range k (gathered p st) v w good_gathered i; parts = h.parts; post = h.post; frames = h.frames }

  good_done : (k : ℕ) (x : Kind) → p.program.kind k ≡ x → Sane (done p k x st)
  good_done k Free i = h
  good_done k Reduce i = good_reduced k
  good_done k Ordered i = good_looped k (loop p.program k (elements p.program k) (gathered p st)) (good_loop p q k (gathered p st) (elements p.program k) (ap is_loop i) (omega arith) good_gathered)
  good_done k Host i = good_hosted k (p.program.host k (gathered p st)) refl

  good_joined : (k : ℕ) (x : Option (Stop F)) → Sane (joined p k x st)
  good_joined k (Some x) = record { cells = h.cells; variables = h.variables; parts = h.parts; post = h.post; frames = h.frames }
  good_joined k None = good_done k (p.program.kind k) refl

  pub sane_step : (s : Step) → IsStep (outline p) s → Sane (step p s st)
  sane_step (Send k s r) plan = record {
    cells = h.cells;
    variables = h.variables;
    parts = h.parts;
    frames = h.frames;
    post = λ a b. cond_both ((a == s) && (b == r)) (st.mail s r ++ (record { about = k; values = st.memories s } ∷ [])) (st.mail a b) GoodMail
        (λ t. good_push (st.mail s r) (record { about = k; values = st.memories s }) (h.post s r) (h.cells s)) (λ t. h.post a b);
  }
  sane_step (Recv k r s) plan = good_taken r s (st.mail s r) (h.post s r)
  sane_step (Begin k r e) plan = good_opened k r e (p.program.run k e (view p k r st)) (ap is_loop (free_kind (p.program.kind k) plan.1))
      (ltb-true e (elements p.program k) (and_parts (nat_lt e (elements p.program k)) (executes p k r e) plan.3).0) refl
  sane_step (End k r e) plan = good_closed k r e (st.frames k r e) (h.frames k r e)
  sane_step (Join k) plan = good_joined k (least k st.faults)

pub sane_start : {F : Type 0} (p : Setup F) (q : Law p) → Sane (start_state p)
sane_start p q = record {
  cells = λ r c. q.lawful.kernels.start_in_range (Data c);
  variables =
      λ v. q.lawful.kernels.start_in_range (Variable v);
  parts = λ r s v. good_unit p q (p.reduces s v);
  post = λ s r. tt;
  frames =
      λ k r e. tt;
}
