-- What a step needs of the machine, what it leaves, and the room that a list of steps needs.
use Rattle.std.specs.Prelude.{◌≡◌, ◌≢◌, ◌<◌, ◌≤◌, ◌+◌, ℕ, ℤ, map, List, ◌∷◌, ◌++◌, length, Option, Some, None}
use Rattle.schedule_steps.specs.declared.step.Step.{Step}
use Rattle.schedule_steps.specs.declared.step.Step.TheVariants.{Send, Recv, Begin, End, Join}
use Rattle.schedule_steps.specs.Peaks.{open_step, mail_step, count_after, greatest}
use Rattle.mesh_decl.specs.Mesh.{dat_dim}
use Rattle.bound_program.specs.Values.{BoundValue, Host, Print}
use Rattle.run_model.specs.Programs.{item_at}
use Rattle.run_model.specs.Windows.{numbers}
use Rattle.schedule_model.specs.Cells.{Data, Store}
use Rattle.schedule_model.specs.Setup.{Setup}
use Rattle.schedule_model.specs.Sequential as model
use Rattle.schedule_model.specs.Sequential.{Seq, Going, Stopped}
use Rattle.schedule_model.specs.Layout.{Layout, by_place, message_cells}
use Rattle.schedule_model.specs.Flat.{Flat, Shut_pane, flat_from, StartsFlat}
use Rattle.rank_exec.specs.declared.begins.Begun.{Begun}
use Rattle.rank_exec.specs.declared.begins.Begun.TheVariants.{InPlace, Group}
use Rattle.rank_state.specs.declared.spans.Span.{Span}
use Rattle.rank_state.specs.declared.owned.Owned.{Owned}
use Rattle.rank_state.specs.Spans.{total}
use Rattle.rank_state.specs.Core.{fault_of}
use Rattle.rank_state.specs.Ordered.{AreOwned, run_of, left_in}
use Rattle.rank_state.specs.Frames.{Shut, pane_at}
use Rattle.rank_state.specs.Groups.{begins, Distinct, Planned, AllShut}
use Rattle.rank_state.specs.Mail.{Carries}
use Rattle.rank_state.specs.Machine.{State}
use Rattle.rank_state.specs.Shows.{Tables, AreImports, Shows, pane_in}

module _ {F : Type 0} (p : Setup F) (l : Layout F) (t : Tables) where
  -- the step can be taken
  abbrev pub Ready : Step → State F → Type 0
  Ready (Send k s r) st = message_cells l k s r ≤ st.mail.left
  Ready (Recv k r s) st = (spans : List Span) → AreImports p l t k s r spans → Carries k s r (total spans) st.mail
  Ready (Begin k r x) st = (pane_at st.frames.panes r x ≡ Shut) × (0 < st.frames.left)
  Ready (End k r x) st = pane_in k (pane_at st.frames.panes r x) ≢ Shut_pane
  Ready (Join k) st = Unit {0}

  -- the steps were taken
  pub record Done (done : List Step) (old new : State F) : Type 0 where
    pub shows : (f : Flat F) → Shows p l t old f → Shows p l t new (flat_from p l done f)
    pub mail : (n : ℕ) → new.mail.left + count_after (mail_step (message_cells l)) n done ≡ old.mail.left + n
    pub frames : (n : ℕ) → new.frames.left + count_after open_step n done ≡ old.frames.left + n

  -- begins that come next can be taken, whatever of the steps was taken before them
  abbrev pub ComeReady : List Step → State F → Type 0
  ComeReady come st = (done : List Step) (k r : ℕ) (places : List ℕ) (rest : List Step) → come ≡ done ++ (begins k r places ++ rest)
      → (at : State F) → Done done st at
      → Planned (by_place p l) k r places × AllShut at.frames.panes r places × Distinct places × (length places ≤ at.frames.left)

  -- of all steps those are still to come
  pub record Reached (all come : List Step) (old new : State F) : Type 0 where
    pub front : List Step
    pub split : all ≡ front ++ come
    pub shows : (start : Flat F) → StartsFlat p l start → Shows p l t old start → Shows p l t new (flat_from p l front start)
    pub mail : new.mail.left + count_after (mail_step (message_cells l)) 0 front ≡ old.mail.left
    pub frames : new.frames.left + count_after open_step 0 front ≡ old.frames.left

  -- the lists show the state, or it has stopped and they have its output
  abbrev pub After : Option (model.Stop F) → State F → Flat F → Type 0
  After None st f = Shows p l t st f
  After (Some x) st f = (f.stop ≡ Some x) × (f.output ≡ st.output)

  -- an element of an Ordered loop was run on its owners' cells and the variables
  pub record RanElement (k e : ℕ) (old new : State F) (fault : Option F) : Type 0 where
    pub spans : List Owned
    pub indices : List ℕ
    pub are : AreOwned p l t k e spans indices
    pub fault_is : fault ≡ fault_of (run_of l t k e spans indices old)
    pub state_is : new ≡ left_in spans indices (run_of l t k e spans indices old) old

module _ {F : Type 0} (l : Layout F) where
  -- cells that a step puts into the mail, and that it takes
  abbrev pub posts : Step → ℕ
  posts (Send k s r) = message_cells l k s r
  posts (Recv k r s) = 0
  posts (Begin k r x) = 0
  posts (End k r x) = 0
  posts (Join k) = 0

  abbrev pub takes : Step → ℕ
  takes (Send k s r) = 0
  takes (Recv k r s) = message_cells l k s r
  takes (Begin k r x) = 0
  takes (End k r x) = 0
  takes (Join k) = 0

-- frames that a step opens
abbrev pub opens : Step → ℕ
opens (Send k s r) = 0
opens (Recv k r s) = 0
opens (Begin k r x) = 1
opens (End k r x) = 0
opens (Join k) = 0

-- frames that a step shuts
abbrev pub shuts : Step → ℕ
shuts (Send k s r) = 0
shuts (Recv k r s) = 0
shuts (Begin k r x) = 0
shuts (End k r x) = 1
shuts (Join k) = 0

-- no front of the list has more elements open, or more cells in the mail
pub record FitsPeak {F : Type 0} (l : Layout F) (frames mail : ℕ) (steps : List Step) : Type 0 where
  pub opened : greatest open_step 0 steps ≤ frames
  pub mails : greatest (mail_step (message_cells l)) 0 steps ≤ mail

-- the stop and the output are those of the sequential run
abbrev pub AsSequential : {F : Type 0} → Seq F → Option (model.Stop F) → List ℕ → Type 0
AsSequential (Going s o) stop output = (stop ≡ None) × (output ≡ o)
AsSequential (Stopped x s o) stop output = (stop ≡ Some x) × (output ≡ o)

-- the steps after one that was looked at
abbrev pub to_come : Option Step → List Step → List Step
to_come None rest = rest
to_come (Some s) rest = s ∷ rest

-- the steps after what was begun
abbrev pub behind : Begun → List Step → List Step
behind InPlace rest = rest
behind (Group next) rest = to_come next rest

-- item k prints the dat to the file
abbrev pub IsPrint : BoundValue → ℕ → ℕ → List ℕ → Type 0
IsPrint b k d file = item_at b k ≡ Host (Print d file)

-- the values of the dat's element stand behind the old list
abbrev pub ItsCells : BoundValue → (d e : ℕ) → Store → (old new : List ℤ) → Type 0
ItsCells b d e s old new =
    new ≡ old ++ map s (map (λ i. Data (record { dat = d; element = e; component = i })) (numbers (dat_dim b.mesh d)))
