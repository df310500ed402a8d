-- A run that stops before an item, and one that goes on from the state there, are together the whole run.
use Rattle.std.proofs.Common.{◌≡◌, ◌<◌, ◌≤◌, ◌+◌, ◌-◌, ◌^◌, ◌⊎◌, inl, inr, ℕ, zero, suc, false, List, [], ◌++◌, map, length, Some, Ok, refl, sym, ap, ◌∙◌, subst, arith, append-nil}
use Rattle.std.proofs.lemmas.List.Elements.{All-weaker}
use Rattle.c_tree.specs.Spelling.{IsName}
use Rattle.c_tree.specs.Tree.{ProgramTree}
use Rattle.c_tree.specs.Reads.{Reads}
use Rattle.kernel_model.specs.declared.types.faults.KernelFault.{KernelFault}
use Rattle.kernel_model.specs.declared.types.kernels.RKernel.{RKernel}
use Rattle.kernel_model.specs.View.{rkernel_of}
use Rattle.name_resolution.specs.Programs as names
use Rattle.name_resolution.specs.Programs.{Resolves}
use Rattle.mesh_decl.specs.Reading.{Read, Reads as Spelled}
use Rattle.op_num.specs.CutLines.{HasNoLf}
use Rattle.mesh_decl.specs.declared.decl.SetDecl.{SetDecl}
use Rattle.mesh_decl.specs.declared.decl.DatDecl.{DatDecl}
use Rattle.schedule_model.specs.Cells.{Store, InRange}
use Rattle.schedule_model.specs.Program.{Program, Kind, Free, Reduce, Ordered, Host, Hosted, Halts, Goes, elements}
use Rattle.schedule_model.specs.Sequential.{Loop, Broke, Ran_through, Stop, Seq, Stopped, Going, after_loop, after_host, item_from, after_item, seq, sequential, loop}
use Rattle.bound_program.specs.Values.{BoundValue, no_site}
use Rattle.loop_bind.specs.Constants.{LeavesConstants}
use Rattle.loop_bind.specs.Names.{HasNames, BoundNamesAreNames}
use Rattle.loop_bind.specs.Resolvable.{BoundProgramsLeaveConstants}
use Rattle.loop_bind.specs.ResolvedSources.{IsResolvedSource, ResolvedSourcesAre}
use Rattle.run_model.specs.Programs.{program_of, run_of_program}
use Rattle.run_model.specs.Ranges.{StartsInRange, AllObey, RunInRange, RunsKeepRange}
use Rattle.bound_plan.specs.OneRun.{with_kernels, ProgramsAreOne}
use Rattle.checkpoint.specs.Cut.{StateValue, CanCut, state_at, head, tail}
use Rattle.checkpoint.specs.Laws.{later, behind, HeadsStop, HeadsPrintStates, TailsGoOn, EndAlike}
use Rattle.checkpoint.specs.StateText.{state_text}
use Rattle.checkpoint.specs.Reading.{Says, IsSplit, all}
use Rattle.checkpoint.specs.StateTextLaws.{HasPlainNames, SaysBehind, CutsAreRead, NamesArePlain}
use Rattle.op_outside.specs.Outside.{Files}
use Rattle.command_words.specs.Refusal.{StateBytes}
use Rattle.command_words.specs.Words.{RunsPlan, Whole, Before, From, Options, InFiles}
use Rattle.command_words.specs.Laws.{HeadsAreNotDumped}
use Rattle.command_words.specs.Lines.{Answer, done, faulted}
use Rattle.answers.specs.Judgements.{IsHeld, AccessesAre, Uncut, BeforeItem, FromText, Chosen, ChosenIs}
use Rattle.answers.specs.Restarts.{Printed, StopBefore, ComesTo, GoesOn, CutAt, RestartsAreWhole}
use Rattle.answers.proofs.laws.FirstValues.{bound_programs_start_in_range}
use Rattle.answers.proofs.laws.SameBound.{IsSame}
use Rattle.answers.proofs.laws.Stretches.{StateLaws, can_cut_is, says_is}
use Rattle.answers.specs.OnCells.{RunsAnswerOnCells}
use Rattle.answers.proofs.laws.Stretched.{told, Runs, runs, one_program_of}

-- ---- runs that stop

module _ (p : Program KernelFault) where
  loop_item : (k : ℕ) (o : List ℕ) (l : Loop KernelFault) (x : Stop KernelFault) (s : Store) (w : List ℕ) → after_loop k o l ≡ Stopped x s w → x.item ≡ k
  loop_item k o (Broke e f t) x s w h = cc
  loop_item k o (Ran_through t) x s w h = cc

  host_item : (k : ℕ) (t : Store) (o : List ℕ) (l : Hosted KernelFault) (x : Stop KernelFault) (s : Store) (w : List ℕ) → after_host k t o l ≡ Stopped x s w → x.item ≡ k
  host_item k t o (Halts f) x s w h = cc
  host_item k t o (Goes v n) x s w h = cc

  kind_item : (k : ℕ) (d : Kind) (t : Store) (o : List ℕ) (x : Stop KernelFault) (s : Store) (w : List ℕ) → item_from p k d t o ≡ Stopped x s w → x.item ≡ k
  kind_item k Free t o x s w h = loop_item k o (loop p k (elements p k) t) x s w h
  kind_item k Reduce t o x s w h = cc
  kind_item k Ordered t o x s w h = loop_item k o (loop p k (elements p k) t) x s w h
  kind_item k Host t o x s w h = host_item k t o (p.host k t) x s w h

  -- a run that stopped before an item stopped at an earlier one
  stops_before : (k : ℕ) (x : Stop KernelFault) (s : Store) (o : List ℕ) → seq p k ≡ Stopped x s o → x.item < k
  stops_before zero x s o h = absurd (let bad : ⊥ = cc in bad)
  stops_before (suc k) x s o h = by_front (stops_before k x s o) (seq p k) refl h
    where
      by_front : (seq p k ≡ Stopped x s o → x.item < k) → (r : Seq KernelFault) → seq p k ≡ r → after_item p k r ≡ Stopped x s o → x.item < suc k
      by_front before (Stopped y t w) is e =
          let f : ◌≡◌ {A = Seq KernelFault} (Stopped y t w) (Stopped x s o) = e in
          let lt = before (is ∙ f) in
          omega (arith, lt)
      by_front before (Going t w) is e = let f = kind_item k (p.kind k) t w x s o e in omega (arith, f)

  -- and has stopped there at the end
  stays : (x : Stop KernelFault) (s : Store) (o : List ℕ) (k n : ℕ) → seq p k ≡ Stopped x s o → seq p (k + n) ≡ Stopped x s o
  stays x s o k zero at = let e : k ≡ k + zero = omega arith in subst (λ i. seq p i ≡ Stopped x s o) e at
  stays x s o k (suc n) at =
      let e : suc (k + n) ≡ k + suc n = omega arith in
      subst (λ i. seq p i ≡ Stopped x s o) e (ap (after_item p (k + n)) (stays x s o k n at))

  stopped : (k : ℕ) (x : Stop KernelFault) (s : Store) (o : List ℕ) → k ≤ p.items → seq p k ≡ Stopped x s o → sequential p ≡ Stopped x s o
  stopped k x s o le at =
      let e : k + (p.items - k) ≡ p.items = omega (arith, le) in
      subst (λ i. seq p i ≡ Stopped x s o) e (stays x s o k (p.items - k) at)

from_start : (x : Stop KernelFault) → later 0 x ≡ x
from_start x = let e : 0 + x.item ≡ x.item = omega arith in ap (λ n. record { item = n; element = x.element; fault = x.fault }) e

-- ---- what is known of a bound program

module _ (b : BoundValue) where
  obeys : AccessesAre b (Ok tt) → AllObey b
  obeys h n f lt is = h n no_site lt f is

  plain_names : NamesArePlain → HasNames b.mesh → HasPlainNames b.mesh
  plain_names plain h = record {
    sets = All-weaker (λ (d : SetDecl). IsName d.name) (λ (d : SetDecl). HasNoLf d.name) (λ d n. plain d.name n) b.mesh.sets h.sets;
    dats = All-weaker (λ (d : DatDecl). IsName d.name) (λ (d : DatDecl). HasNoLf d.name) (λ d n. plain d.name n) b.mesh.dats h.dats;
  }

-- ---- the whole run, and the two parts

module _ (o : Options) (whole : Answer) (dump : List ℕ) (undumped : o.dumps ≡ false → dump ≡ []) where
  zero_nine : ◌≡◌ {A = ℕ} 0 9 → ⊥
  zero_nine e = cc

  -- what was printed, where the run has a fault, and where it has none
  printed_faulty : (bytes : List ℕ) (x : Stop KernelFault) → whole ≡ faulted bytes x → Printed o whole bytes
  printed_faulty bytes x e = record { dump = []; out = ap (λ (a : Answer). a.out) e ∙ sym (append-nil bytes); none = λ h. refl }

  printed_well : (bytes : List ℕ) → whole ≡ done (bytes ++ dump) → Printed o whole bytes
  printed_well bytes e = record { dump = dump; out = ap (λ (a : Answer). a.out) e; none = by_cause }
    where
      by_cause : (o.dumps ≡ false) ⊎ (whole.status ≡ 9) → dump ≡ []
      by_cause (inl h) = undumped h
      by_cause (inr h) = absurd (zero_nine (sym (ap (λ (a : Answer). a.status) e) ∙ h))

module _ (k : ℕ) (before : List ℕ) (o p : Options) (whole rest : Answer) (dump more : List ℕ) (undumped : o.dumps ≡ false → dump ≡ []) (undumped_more : p.dumps ≡ false → more ≡ []) where
  goes_on : (r q : Seq KernelFault) → EndAlike r (behind k before q) → whole ≡ told 0 dump r → rest ≡ told k more q → GoesOn before o whole p rest
  goes_on (Stopped x s w) (Stopped y t v) h e f =
      let same : later 0 x ≡ later k y = from_start x ∙ h.0 in
      let whole_is : whole ≡ faulted (before ++ v) (later k y) = e ∙ ap (λ z. faulted z (later 0 x)) h.1 ∙ ap (faulted (before ++ v)) same in
      record {
        after = v;
        printed = printed_faulty o whole dump undumped (before ++ v) (later k y) whole_is;
        printed_after = printed_faulty p rest more undumped_more v (later k y) f;
        status = ap (λ (a : Answer). a.status) f ∙ sym (ap (λ (a : Answer). a.status) whole_is);
        line = ap (λ (a : Answer). a.line) f ∙ sym (ap (λ (a : Answer). a.line) whole_is);
      }
  goes_on (Going s w) (Going t v) h e f =
      let whole_is : whole ≡ done (before ++ v ++ dump) = e ∙ ap (λ z. done (z ++ dump)) h in
      record {
        after = v;
        printed = printed_well o whole dump undumped (before ++ v) whole_is;
        printed_after = printed_well p rest more undumped_more v f;
        status = ap (λ (a : Answer). a.status) f ∙ sym (ap (λ (a : Answer). a.status) whole_is);
        line = ap (λ (a : Answer). a.line) f ∙ sym (ap (λ (a : Answer). a.line) whole_is);
      }
  goes_on (Stopped x s w) (Going t v) h e f = absurd h
  goes_on (Going s w) (Stopped y t v) h e f = absurd h

comes_to : (k : ℕ) (before : List ℕ) (whole : Answer) (dump : List ℕ) (r q : Seq KernelFault) → EndAlike r (behind k before q) → whole ≡ told 0 dump r → ComesTo k whole
comes_to k before whole dump (Stopped x s w) (Stopped y t v) h e =
    let same : later 0 x ≡ later k y = from_start x ∙ h.0 in
    inr (w, later k y, let le : k ≤ k + y.item = omega arith in le, e ∙ ap (faulted w) same)
comes_to k before whole dump (Going s w) (Going t v) h e = inl (ap (λ (a : Answer). a.status) e)
comes_to k before whole dump (Stopped x s w) (Going t v) h e = absurd h
comes_to k before whole dump (Going s w) (Stopped y t v) h e = absurd h

-- what the law takes
pub record RestartLaws : Type 0 where
  pub one_tree : (bytes : List ℕ) (a b : ProgramTree) → Reads bytes a → Reads bytes b → a ≡ b
  pub one_resolved : (p : ProgramTree) (a b : names.Outcome) → Resolves p a → Resolves p b → a ≡ b
  pub one_read : (bytes : List ℕ) (a b : Read) → Spelled bytes a → Spelled bytes b → a ≡ b
  pub on_cells : RunsAnswerOnCells
  pub programs_are_one : ProgramsAreOne
  pub states : StateLaws
  pub cuts_are_read : CutsAreRead
  pub heads_stop : HeadsStop
  pub heads_print : HeadsPrintStates
  pub tails_go_on : TailsGoOn
  pub keep_range : RunsKeepRange
  pub leave_constants : BoundProgramsLeaveConstants
  pub resolved_sources : ResolvedSourcesAre
  pub are_names : BoundNamesAreNames
  pub plain : NamesArePlain
  pub undumped : HeadsAreNotDumped

module _ (laws : RestartLaws) where
  -- kernels' addresses change no run
  same_run : (b : BoundValue) (ks : List RKernel) → map rkernel_of b.kernels ≡ map rkernel_of ks → run_of_program (with_kernels b ks) ≡ run_of_program b
  same_run b ks e = ap sequential (sym (laws.programs_are_one b ks e))

  head_run : (b c : BoundValue) (k : ℕ) → IsSame b c → run_of_program (head c k) ≡ run_of_program (head b k)
  head_run b c k same = ap (λ (d : BoundValue). run_of_program (head d k)) same.0 ∙ same_run (head b k) c.kernels same.1

  tail_run : (b c : BoundValue) (s : StateValue) → IsSame b c → run_of_program (tail c s) ≡ run_of_program (tail b s)
  tail_run b c s same = ap (λ (d : BoundValue). run_of_program (tail d s)) same.0 ∙ same_run (tail b s) c.kernels same.1

  module _ (k : ℕ) (source mesh : List ℕ) (files : Files) (whole head_answer : Answer)
      (run stop : Options) (no_dump : stop.dumps ≡ false) (w : Runs source mesh Whole files run whole) (h : Runs source mesh (Before k) files stop head_answer) where
    abbrev b : BoundValue
    b = w.program

    same : IsSame b h.program
    same = one_program_of laws.one_tree laws.one_resolved laws.one_read source mesh files files b h.program w.is_of h.is_of refl refl

    -- ---- what the two answer

    whole_is : whole ≡ told 0 w.dump (run_of_program b)
    whole_is =
        let cut : w.cut ≡ Uncut = (let e : Ok w.cut ≡ Ok Uncut = w.cut_of in cc) in
        let chosen : Ok w.chosen ≡ Ok (record { program = b; first = 0 }) = subst (λ c. ChosenIs c b (Ok w.chosen)) cut w.chosen_is in
        let is : w.chosen ≡ record { program = b; first = 0 } = cc in
        w.answer ∙ ap (λ (c : Chosen). told c.first w.dump (run_of_program c.program)) is

    -- the head of the other's program
    head_chosen : CanCut h.program k × (h.chosen ≡ record { program = head h.program k; first = 0 })
    head_chosen =
        let cut : h.cut ≡ BeforeItem k = (let e : Ok h.cut ≡ Ok (BeforeItem k) = h.cut_of in cc) in
        subst (λ c. ChosenIs c h.program (Ok h.chosen)) cut h.chosen_is

    can : CanCut b k
    can = can_cut_is b h.program.kernels k (subst (λ d. CanCut d k) same.0 head_chosen.0)

    head_is : head_answer ≡ told 0 [] (run_of_program (head b k))
    head_is =
        let none : h.dump ≡ [] = h.undumped no_dump in
        h.answer ∙ ap (λ d. told h.chosen.first d (run_of_program h.chosen.program)) none
        ∙ ap (λ (c : Chosen). told c.first [] (run_of_program c.program)) head_chosen.1
        ∙ ap (told 0 []) (head_run b h.program k same)

    -- ---- it stopped before

    stopped_before : (x : Stop KernelFault) (s : Store) (o : List ℕ) → seq (program_of b) k ≡ Stopped x s o → StopBefore k whole head_answer
    stopped_before x s o at =
        let lt = stops_before (program_of b) k x s o at in
        record {
          bytes = o;
          fault = later 0 x;
          before = let l : 0 + x.item < k = omega (arith, lt) in l;
          whole_is = whole_is ∙ ap (told 0 w.dump) (stopped (program_of b) k x s o can.within at);
          head_is = head_is ∙ ap (told 0 []) (laws.heads_stop b k x s o can at);
        }

    -- ---- it came to the cut

    obey : AllObey b
    obey = obeys b w.obeyed

    is_source : IsResolvedSource w.is_of.tree w.is_of.types
    is_source = laws.resolved_sources w.is_of.bytes w.is_of.tree w.is_of.types w.is_of.reads w.is_of.typed

    starts : StartsInRange b
    starts = bound_programs_start_in_range w.is_of.tree w.is_of.types w.is_of.text w.is_of.entries b is_source.tops is_source.body w.is_of.spelled.0 w.is_of.is

    left : LeavesConstants b
    left = laws.leave_constants w.is_of.tree w.is_of.types w.is_of.entries b is_source w.is_of.is

    plain : HasPlainNames b.mesh
    plain = plain_names b laws.plain (laws.are_names w.is_of.bytes w.is_of.tree w.is_of.types w.is_of.entries b w.is_of.reads w.is_of.is)

    module _ (s : Store) (o : List ℕ) (at : seq (program_of b) k ≡ Going s o) where
      abbrev state : StateValue
      state = state_at b k s

      in_range : InRange s
      in_range = subst RunInRange at (laws.keep_range b w.fits obey starts k)

      read : SaysBehind b (o ++ state_text b state) o state
      read = laws.cuts_are_read b o k s w.fits.mesh plain can in_range

      alike : EndAlike (run_of_program b) (behind k o (run_of_program (tail b state)))
      alike = laws.tails_go_on b k s o w.fits obey left can at

      done_is : head_answer ≡ done (o ++ state_text b state)
      done_is = head_is ∙ ap (told 0 []) (laws.heads_print b k s o can at) ∙ ap done (append-nil (o ++ state_text b state))

      out_is : head_answer.out ≡ o ++ state_text b state
      out_is = ap (λ (a : Answer). a.out) done_is

      few : length b.trace < 2 ^ 64
      few = let small = w.fits.few in omega (arith, small)

      module _ (name : List ℕ) (others : Files) (rest : Answer) (source_same : others source ≡ files source) (mesh_same : others mesh ≡ files mesh)
          (holds : others name ≡ Some head_answer.out) (go : Options) (t : Runs source mesh (From name) others go rest) where
        same_rest : IsSame b t.program
        same_rest = one_program_of laws.one_tree laws.one_resolved laws.one_read source mesh files others b t.program w.is_of t.is_of source_same mesh_same

        -- the bytes that it read
        bytes_are : (c : List ℕ) × (t.cut ≡ FromText c) × (c ≡ o ++ state_text b state)
        bytes_are =
            let c = t.cut_of in
            let held : IsHeld StateBytes name (Some head_answer.out) (Ok c.0) = subst (λ f. IsHeld StateBytes name f (Ok c.0)) holds c.1 in
            (c.0, c.2, held.0 ∙ out_is)

        -- and the state that they say
        rest_chosen : t.chosen ≡ record { program = tail t.program state; first = k }
        rest_chosen =
            let chosen : ChosenIs (FromText (o ++ state_text b state)) t.program (Ok t.chosen) = subst (λ c. ChosenIs c t.program (Ok t.chosen)) (bytes_are.1 ∙ ap FromText bytes_are.2) t.chosen_is in
            let says = says_is b t.program.kernels (o ++ state_text b state) chosen.0 (subst (λ d. Says d (o ++ state_text b state) chosen.0) same_rest.0 chosen.1) in
            let one : chosen.0 ≡ state = laws.states.one_state b (o ++ state_text b state) chosen.0 state few says read.says in
            chosen.2 ∙ ap (λ (z : StateValue). record { program = tail t.program z; first = z.item }) one

        rest_is : rest ≡ told k t.dump (run_of_program (tail b state))
        rest_is =
            t.answer ∙ ap (λ (c : Chosen). told c.first t.dump (run_of_program c.program)) rest_chosen
            ∙ ap (told k t.dump) (tail_run b t.program state same_rest)

        follows : GoesOn o run whole go rest
        follows = goes_on k o run go whole rest w.dump t.dump w.undumped t.undumped (run_of_program b) (run_of_program (tail b state)) alike whole_is rest_is

      cut_there : CutAt k source mesh files run whole head_answer
      cut_there = record {
        comes = comes_to k o whole w.dump (run_of_program b) (run_of_program (tail b state)) alike whole_is;
        before = o;
        text = all read.says.lines;
        split = subst (λ z. IsSplit z o (all read.says.lines)) (sym out_is) (subst (λ z. IsSplit (o ++ state_text b state) z (all read.says.lines)) read.there read.says.split);
        head_is = done_is ∙ ap done (sym out_is);
        rest = λ name others a source_same mesh_same holds go. follows name others a source_same mesh_same holds go.options (runs laws.on_cells source mesh (From name) others a go);
      }

    by_run : (r : Seq KernelFault) → seq (program_of b) k ≡ r → StopBefore k whole head_answer ⊎ CutAt k source mesh files run whole head_answer
    by_run (Stopped x s o) at = inl (stopped_before x s o at)
    by_run (Going s o) at = inr (cut_there s o at)

  pub restarts_are_whole : RestartsAreWhole
  restarts_are_whole k source mesh files whole head_answer run stop =
      let w = runs laws.on_cells source mesh Whole files whole run in
      by_run k source mesh files whole head_answer run.options stop.options
      (laws.undumped stop.words RunsPlan stop.options (InFiles source mesh) k stop.asks stop.items)
      w (runs laws.on_cells source mesh (Before k) files head_answer stop) (seq (program_of w.program) k) refl
