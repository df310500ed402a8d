use Rattle.std.proofs.Common.{◌≡◌, ℤ, ◌∙◌, ap, ap₂, sym, subst, length, map, List, All, Option}
use Rattle.std.specs.Vec.{with_items}
use Rattle.std.proofs.lemmas.List.{length-map}
use Rattle.kernel_model.specs.declared.types.faults.KernelFault.{KernelFault}
use Rattle.par_exec.specs.Parts.{TakesEach, MadeEach}
use Rattle.schedule_model.specs.Sequential.{Stop}
use Rattle.rank_state.specs.Machine.{State}
use Rattle.rank_state.specs.Spare.{HasSpare}
use Rattle.rank_state.specs.Stops.{stop_in}
use Rattle.rank_state.proofs.Public.{lists}
use Rattle.rank_program.specs.AloneRuns.{Share}
use Rattle.rank_program.specs.Rooms.{HasRoomOf}
use Rattle.rank_program.specs.Sound.{tables_in}
use Rattle.rank_machine.specs.declared.ranks.RankPart.{RankPart}
use Rattle.rank_machine.specs.OnRanks.{share_in, lent, CanRunOn, RanOn, with_shares}
use Rattle.rank_machine.proofs.OnRanks.{can_all, ran_all, made_many, spare_all, space_all, same_rows, same_partials}
use Rattle.rank_machine.proofs.machine.Machine.on_ranks.Goals as goal
use Rattle.lemmas.proofs.Lists.{refilled}

pub run_lent-kept-requires-clause-can : goal.run_lent-kept-requires-clause-can
run_lent-kept-requires-clause-can g c κs within =
    let inside = c.self.inside in
    let x = c.args.program.now in
    let st = c.args.self.now in
    let ms = inside.memories.items in
    let ps = inside.partials.items in
    let xs = c.args.parts.now in
    let stride : inside.frames.stride ≡ (tables_in x).stride = ap (λ (s : State KernelFault). s.frames.stride) c.self.view_is ∙ c.requires.sized.stride in
    let spare : All (HasSpare (tables_in x).stride) ms = subst (λ n. All (HasSpare n) ms) stride c.self.invariant.spare in
    let all : TakesEach (CanRunOn x c.args.item c.deref.result.now c.args.lists.now) 0 (lent ms ps xs) =
    can_all x c.args.item c.deref.result.now c.args.lists.now ms ps xs st (ap (λ (s : State KernelFault). s.memories) c.self.view_is) (ap (λ (s : State KernelFault). s.partials) c.self.view_is)
    (c.deref.ensures.value ∙ ap (λ (s : State KernelFault). s.variables) c.self.view_is)
    c.requires.ranks c.requires.sized c.requires.few c.requires.listed c.requires.steps spare c.requires.space in
    subst (λ z. TakesEach (CanRunOn x c.args.item c.deref.result.now c.args.lists.now) 0 (lent z c.deref_mut-2.result.now xs)) (sym c.deref_mut.ensures.value)
    (subst (λ z. TakesEach (CanRunOn x c.args.item c.deref.result.now c.args.lists.now) 0 (lent ms z xs)) (sym c.deref_mut-2.ensures.value) all)

abbrev of_parts : State KernelFault → List (List ℤ) → List (List ℤ) → Option (Stop KernelFault) → State KernelFault
of_parts s ms ps x = record s { memories = ms; partials = ps; fault = x }

pub returns-clause-ran : goal.returns-clause-ran
returns-clause-ran g c =
    let inside = c.self.inside in
    let x = c.args.program.now in
    let k = c.args.item in
    let ls = c.args.lists.now in
    let st = c.args.self.now in
    let ms = inside.memories.items in
    let ps = inside.partials.items in
    let xs = c.args.parts.now in
    let vs = c.deref.result.now in
    let ran = c.run_lent-kept.ensures in
    let ys = ran.left in
    let news : List (Share KernelFault) = map share_in ys in
    let made : MadeEach (RanOn x k vs ls) 0 (lent ms ps xs) ys =
    subst (λ z. MadeEach (RanOn x k vs ls) 0 (lent z ps xs) ys) c.deref_mut.ensures.value
    (subst (λ z. MadeEach (RanOn x k vs ls) 0 (lent c.deref_mut.result.now z xs) ys) c.deref_mut-2.ensures.value ran.made) in
    let memories : lists ms ≡ st.memories = ap (λ (s : State KernelFault). s.memories) c.self.view_is in
    let partials : lists ps ≡ st.partials = ap (λ (s : State KernelFault). s.partials) c.self.view_is in
    let variables : vs ≡ st.variables = c.deref.ensures.value ∙ ap (λ (s : State KernelFault). s.variables) c.self.view_is in
    let viewed : State KernelFault = record {
      memories = lists ms;
      variables = inside.variables.items;
      partials = lists ps;
      frames = inside.frames;
      mail = inside.mail;
      fault =
          stop_in inside.fault;
      output = inside.output.items;
    } in
    let cells : lists ((with_items inside.memories c.run_lent-kept.new.memories).items) ≡ map (λ (s : Share KernelFault). s.cells) news =
    ap lists (refilled inside.memories c.run_lent-kept.new.memories (c.run_lent-kept.auto.memories ∙ ap length c.deref_mut.ensures.value) ∙ ran.memories) ∙ same_rows ys in
    let amounts : lists ((with_items inside.partials c.run_lent-kept.new.partials).items) ≡ map (λ (s : Share KernelFault). s.partials) news =
    ap lists (refilled inside.partials c.run_lent-kept.new.partials (c.run_lent-kept.auto.partials ∙ ap length c.deref_mut-2.ensures.value) ∙ ran.partials) ∙ same_partials ys in (
      news,
      length-map ys share_in ∙ made_many x k vs ls ms ps xs st memories partials variables c.requires.ranks c.requires.sized ys made,
      ran_all x k vs ls ms ps xs st memories partials variables c.requires.ranks c.requires.sized ys made c.requires.constants,
      subst (λ (s : State KernelFault). of_parts viewed (lists ((with_items inside.memories c.run_lent-kept.new.memories).items))
          (lists ((with_items inside.partials c.run_lent-kept.new.partials).items)) (stop_in c.run_lent-kept.result) ≡ with_shares news s)
          c.self.view_is
          (ap₂ (λ a b. of_parts viewed a b (stop_in c.run_lent-kept.result)) cells amounts
          ∙ ap (of_parts viewed (map (λ (s : Share KernelFault). s.cells) news) (map (λ (s : Share KernelFault). s.partials) news)) ran.fault_is),
    )

pub returns-clause-space : goal.returns-clause-space
returns-clause-space g c =
    let inside = c.self.inside in
    let x = c.args.program.now in
    let k = c.args.item in
    let ls = c.args.lists.now in
    let st = c.args.self.now in
    let ms = inside.memories.items in
    let ps = inside.partials.items in
    let xs = c.args.parts.now in
    let vs = c.deref.result.now in
    let ran = c.run_lent-kept.ensures in
    let ys = ran.left in
    let made : MadeEach (RanOn x k vs ls) 0 (lent ms ps xs) ys =
    subst (λ z. MadeEach (RanOn x k vs ls) 0 (lent z ps xs) ys) c.deref_mut.ensures.value
    (subst (λ z. MadeEach (RanOn x k vs ls) 0 (lent c.deref_mut.result.now z xs) ys) c.deref_mut-2.ensures.value ran.made) in
    let memories : lists ms ≡ st.memories = ap (λ (s : State KernelFault). s.memories) c.self.view_is in
    let partials : lists ps ≡ st.partials = ap (λ (s : State KernelFault). s.partials) c.self.view_is in
    let variables : vs ≡ st.variables = c.deref.ensures.value ∙ ap (λ (s : State KernelFault). s.variables) c.self.view_is in
    let many : length ys ≡ length xs = made_many x k vs ls ms ps xs st memories partials variables c.requires.ranks c.requires.sized ys made in
    subst (All (λ (z : RankPart). HasRoomOf x z.room)) (sym ran.parts)
    (space_all x k vs ls ms ps xs st memories partials variables c.requires.ranks c.requires.sized ys made
    (map (λ (z : RankPart). z.memory) xs) (map (λ (z : RankPart). z.partials) xs)
    (length-map xs (λ (z : RankPart). z.memory) ∙ sym many) (length-map xs (λ (z : RankPart). z.partials) ∙ sym many))

pub invariant_of-self : goal.invariant_of-self
invariant_of-self g c =
    let inside = c.self.inside in
    let x = c.args.program.now in
    let k = c.args.item in
    let ls = c.args.lists.now in
    let st = c.args.self.now in
    let ms = inside.memories.items in
    let ps = inside.partials.items in
    let xs = c.args.parts.now in
    let vs = c.deref.result.now in
    let ran = c.run_lent-kept.ensures in
    let ys = ran.left in
    let made : MadeEach (RanOn x k vs ls) 0 (lent ms ps xs) ys =
    subst (λ z. MadeEach (RanOn x k vs ls) 0 (lent z ps xs) ys) c.deref_mut.ensures.value
    (subst (λ z. MadeEach (RanOn x k vs ls) 0 (lent c.deref_mut.result.now z xs) ys) c.deref_mut-2.ensures.value ran.made) in
    let memories : lists ms ≡ st.memories = ap (λ (s : State KernelFault). s.memories) c.self.view_is in
    let partials : lists ps ≡ st.partials = ap (λ (s : State KernelFault). s.partials) c.self.view_is in
    let variables : vs ≡ st.variables = c.deref.ensures.value ∙ ap (λ (s : State KernelFault). s.variables) c.self.view_is in
    let stride : inside.frames.stride ≡ (tables_in x).stride = ap (λ (s : State KernelFault). s.frames.stride) c.self.view_is ∙ c.requires.sized.stride in
    record {
      spare = subst (All (HasSpare inside.frames.stride))
          (sym (refilled inside.memories c.run_lent-kept.new.memories (c.run_lent-kept.auto.memories ∙ ap length c.deref_mut.ensures.value)
          ∙ ran.memories))
          (spare_all x k vs ls ms ps xs st memories partials variables c.requires.ranks c.requires.sized ys made inside.frames.stride stride);
      window_fits = c.self.invariant.window_fits;
    }
