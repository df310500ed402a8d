use Rattle.std.proofs.Common.{◌≡◌, ℤ, ◌<◌, ◌∙◌, refl, ap, ap₂, sym, subst, length, set, arith, List, Option, Vec, Global}
use Rattle.std.specs.Vec.{with_items}
use Rattle.std.proofs.lemmas.List.{map-set}
use Rattle.kernel_model.specs.declared.types.faults.KernelFault.{KernelFault}
use Rattle.schedule_model.specs.Sequential.{Stop}
use Rattle.rank_state.specs.Machine.{State, row}
use Rattle.rank_state.specs.Spare.{HasSpare}
use Rattle.rank_state.specs.Stops.{stop_in}
use Rattle.rank_program.specs.AloneRuns.{Share, Reaches, share_of, with_share}
use Rattle.rank_state.proofs.Public.{lists, rank_in, row_is, row_put}
use Rattle.rank_program.specs.Sound.{setup_in, layout_in, tables_in}
use Rattle.rank_machine.proofs.machine.Machine.in_place.Goals as goal

abbrev of_parts : State KernelFault → List (List ℤ) → List (List ℤ) → Option (Stop KernelFault) → State KernelFault
of_parts s ms ps x = record s { memories = ms; partials = ps; fault = x }

pub returns-clause-runs : goal.returns-clause-runs
returns-clause-runs g c =
    let p = setup_in c.args.program.now in
    let l = layout_in c.args.program.now in
    let t = tables_in c.args.program.now in
    let inside = c.self.inside in
    let step = c.requires.steps 0 c.requires.some in
    let rank : c.args.told.now.rank < length inside.memories.items =
    rank_in inside.memories.items c.args.told.now.rank
    (subst (λ (s : State KernelFault). c.args.told.now.rank < length s.memories) (sym c.self.view_is)
    (subst (λ n. c.args.told.now.rank < n) (sym c.requires.sized.ranks) step.2)) in
    let slot : c.args.told.now.rank < length inside.partials.items =
    rank_in inside.partials.items c.args.told.now.rank
    (subst (λ (s : State KernelFault). c.args.told.now.rank < length s.partials) (sym c.self.view_is)
    (subst (λ n. c.args.told.now.rank < n) (sym c.requires.sized.partials) step.2)) in
    let here : c.index_mut.result.now.items ≡ row (lists inside.memories.items) c.args.told.now.rank = row_is inside.memories.items c.args.told.now.rank c.index_mut.result.now rank c.index_mut.ensures.value in
    let there : c.deref_mut.result.now ≡ row (lists inside.partials.items) c.args.told.now.rank = c.deref_mut.ensures.value
    ∙ row_is inside.partials.items c.args.told.now.rank c.index_mut-2.result.now slot c.index_mut-2.ensures.value in
    let stays : length c.run_places-fault.new.partials ≡ length c.index_mut-2.result.now.items = c.run_places-fault.auto.partials ∙ ap length c.deref_mut.ensures.value in
    let new : Share KernelFault = record { cells = c.run_places-fault.new.memory.items; partials = c.run_places-fault.new.partials; fault = stop_in c.run_places-fault.result } in
    let viewed : State KernelFault = record {
      memories = lists inside.memories.items;
      variables = inside.variables.items;
      partials = lists inside.partials.items;
      frames =
          inside.frames;
      mail = inside.mail;
      fault = stop_in inside.fault;
      output = inside.output.items;
    } in
    let memories = map-set (λ (v : Vec ℤ Global). v.items) inside.memories.items c.args.told.now.rank c.run_places-fault.new.memory in
    let partials = row_put inside.partials.items c.args.told.now.rank c.index_mut-2.result.now new.partials new.partials stays refl in
    let from = λ (ms ps vs : List ℤ). Reaches p l t c.args.told.now.item c.args.told.now.rank c.args.room.now.constants.items vs c.args.places.now
    (record { cells = ms; partials = ps; fault = stop_in inside.fault }) (length c.args.places.now) new in
    subst (λ (s : State KernelFault). (z : Share KernelFault)
    × Reaches p l t c.args.told.now.item c.args.told.now.rank c.args.room.now.constants.items s.variables c.args.places.now (share_of c.args.told.now.rank s) (length c.args.places.now) z
    × (of_parts viewed (lists (set inside.memories.items c.args.told.now.rank c.run_places-fault.new.memory))
    (lists (set inside.partials.items c.args.told.now.rank (with_items c.index_mut-2.result.now new.partials))) new.fault ≡ with_share
    c.args.told.now.rank z s)) c.self.view_is (
      new,
      subst (λ vs. from (row (lists inside.memories.items) c.args.told.now.rank) (row (lists inside.partials.items) c.args.told.now.rank) vs) c.deref.ensures.value
          (subst (λ ms. from ms (row (lists inside.partials.items) c.args.told.now.rank) c.deref.result.now) here
          (subst (λ ps. from c.index_mut.result.now.items ps c.deref.result.now) there c.run_places-fault.ensures.runs)),
      ap₂ (λ ms ps. of_parts viewed ms ps new.fault) memories partials,
    )

pub run_places-fault-requires-clause-memory : goal.run_places-fault-requires-clause-memory
run_places-fault-requires-clause-memory g c κs within =
    let inside = c.self.inside in
    let step = c.requires.steps 0 c.requires.some in
    let rank : c.args.told.now.rank < length inside.memories.items =
    rank_in inside.memories.items c.args.told.now.rank
    (subst (λ (s : State KernelFault). c.args.told.now.rank < length s.memories) (sym c.self.view_is)
    (subst (λ n. c.args.told.now.rank < n) (sym c.requires.sized.ranks) step.2)) in
    ap length (row_is inside.memories.items c.args.told.now.rank c.index_mut.result.now rank c.index_mut.ensures.value)
    ∙ ap (λ (s : State KernelFault). length (row s.memories c.args.told.now.rank)) c.self.view_is ∙ c.requires.sized.widths c.args.told.now.rank step.2

pub run_places-fault-requires-clause-partials : goal.run_places-fault-requires-clause-partials
run_places-fault-requires-clause-partials g c κs within =
    let inside = c.self.inside in
    let step = c.requires.steps 0 c.requires.some in
    let slot : c.args.told.now.rank < length inside.partials.items =
    rank_in inside.partials.items c.args.told.now.rank
    (subst (λ (s : State KernelFault). c.args.told.now.rank < length s.partials) (sym c.self.view_is)
    (subst (λ n. c.args.told.now.rank < n) (sym c.requires.sized.partials) step.2)) in
    ap length (c.deref_mut.ensures.value ∙ row_is inside.partials.items c.args.told.now.rank c.index_mut-2.result.now slot c.index_mut-2.ensures.value)
    ∙ ap (λ (s : State KernelFault). length (row s.partials c.args.told.now.rank)) c.self.view_is ∙ c.requires.sized.slots c.args.told.now.rank step.2

pub index_mut-requires : goal.index_mut-requires
index_mut-requires g c =
    let step = c.requires.steps 0 c.requires.some in
    let lt : c.args.told.now.rank < length c.self.inside.memories.items = rank_in c.self.inside.memories.items c.args.told.now.rank
    (subst (λ (s : State KernelFault). c.args.told.now.rank < length s.memories) (sym c.self.view_is) (subst (λ n. c.args.told.now.rank < n) (sym c.requires.sized.ranks) step.2)) in
    omega (arith, lt, c.self.inside.memories.ok.0)

pub index_mut-requires-2 : goal.index_mut-requires-2
index_mut-requires-2 g c =
    let step = c.requires.steps 0 c.requires.some in
    let lt : c.args.told.now.rank < length c.self.inside.partials.items = rank_in c.self.inside.partials.items c.args.told.now.rank
    (subst (λ (s : State KernelFault). c.args.told.now.rank < length s.partials) (sym c.self.view_is) (subst (λ n. c.args.told.now.rank < n) (sym c.requires.sized.partials) step.2)) in
    omega (arith, lt, c.self.inside.partials.ok.0)

pub run_places-fault-requires-clause-spare : goal.run_places-fault-requires-clause-spare
run_places-fault-requires-clause-spare g c κs within =
    let inside = c.self.inside in
    let step = c.requires.steps 0 c.requires.some in
    let rank : c.args.told.now.rank < length inside.memories.items = rank_in inside.memories.items c.args.told.now.rank
    (subst (λ (s : State KernelFault). c.args.told.now.rank < length s.memories) (sym c.self.view_is) (subst (λ n. c.args.told.now.rank < n) (sym c.requires.sized.ranks) step.2)) in
    let stride : inside.frames.stride ≡ (tables_in c.args.program.now).stride = ap (λ (s : State KernelFault). s.frames.stride) c.self.view_is ∙ c.requires.sized.stride in
    subst (λ n. HasSpare n c.index_mut.result.now) stride
    (subst (HasSpare inside.frames.stride) (sym c.index_mut.ensures.value) (c.self.invariant.spare c.args.told.now.rank c.index_mut.result.now rank))
