use Rattle.std.proofs.Common.{◌≡◌, ℤ, ◌<◌, ◌∙◌, ap, ap₂, sym, subst, length, set, List}
use Rattle.std.specs.Vec.{with_items}
use Rattle.kernel_model.specs.declared.types.faults.KernelFault.{KernelFault}
use Rattle.rank_state.specs.Spans.{total}
use Rattle.rank_state.specs.Frames.{Panes, pane_at, closed}
use Rattle.rank_state.specs.Machine.{State, row, merged_pane, ended}
use Rattle.rank_state.specs.Stops.{stop_in}
use Rattle.rank_state.proofs.Public.{lists, rank_in, row_is, row_put}
use Rattle.rank_machine.proofs.machine.Machine.end.Goals as goal

abbrev of_parts : State KernelFault → List (List ℤ) → List (List ℤ) → Panes → State KernelFault
of_parts s ms ps fs = record s { memories = ms; partials = ps; frames = fs }

pub returns : goal.returns
returns c =
    let inside = c.self.inside in
    let pane = pane_at inside.frames.panes c.args.rank c.args.place in
    let rank : c.args.rank < length inside.memories.items =
    rank_in inside.memories.items c.args.rank
    (subst (λ (s : State KernelFault). c.args.rank < length s.memories) (sym c.self.view_is) c.requires.rank) in
    let slot : c.args.rank < length inside.partials.items =
    rank_in inside.partials.items c.args.rank
    (subst (λ (s : State KernelFault). c.args.rank < length s.partials) (sym c.self.view_is) c.requires.partials) in
    let here : c.deref_mut.result.now ≡ row (lists inside.memories.items) c.args.rank = c.deref_mut.ensures.value
    ∙ row_is inside.memories.items c.args.rank c.index_mut.result.now rank c.index_mut.ensures.value in
    let there : c.deref_mut-2.result.now ≡ row (lists inside.partials.items) c.args.rank = c.deref_mut-2.ensures.value
    ∙ row_is inside.partials.items c.args.rank c.index_mut-2.result.now slot c.index_mut-2.ensures.value in
    let kept : length c.end.new.memory ≡ length c.index_mut.result.now.items = c.end.auto.memory ∙ ap length c.deref_mut.ensures.value in
    let stays : length c.end.new.partials ≡ length c.index_mut-2.result.now.items = c.end.auto.partials ∙ ap length c.deref_mut-2.ensures.value in
    let viewed : State KernelFault = record {
      memories = lists inside.memories.items;
      variables = inside.variables.items;
      partials = lists inside.partials.items;
      frames =
          inside.frames;
      mail = inside.mail;
      fault = stop_in inside.fault;
      output = inside.output.items;
    } in
    let memories : lists (set inside.memories.items c.args.rank (with_items c.index_mut.result.now c.end.new.memory)) ≡ set
    (lists inside.memories.items) c.args.rank
    (closed c.args.windows.now.spans.now (pane_at inside.frames.panes c.args.rank c.args.place)
    (row (lists inside.memories.items) c.args.rank)) =
    row_put inside.memories.items c.args.rank c.index_mut.result.now c.end.new.memory
    (closed c.args.windows.now.spans.now (pane_at inside.frames.panes c.args.rank c.args.place)
    (row (lists inside.memories.items) c.args.rank)) kept
    (c.end.ensures.memory ∙ ap (closed c.args.windows.now.spans.now (pane_at inside.frames.panes c.args.rank c.args.place)) here) in
    let partials : lists (set inside.partials.items c.args.rank (with_items c.index_mut-2.result.now c.end.new.partials)) ≡ set
    (lists inside.partials.items) c.args.rank
    (merged_pane c.args.own (total c.args.windows.now.spans.now) c.args.windows.now.scalars.now
    (pane_at inside.frames.panes c.args.rank c.args.place) (row (lists inside.partials.items) c.args.rank)) =
    row_put inside.partials.items c.args.rank c.index_mut-2.result.now c.end.new.partials
    (merged_pane c.args.own (total c.args.windows.now.spans.now) c.args.windows.now.scalars.now
    (pane_at inside.frames.panes c.args.rank c.args.place) (row (lists inside.partials.items) c.args.rank)) stays
    (c.end.ensures.partials ∙ (ap (λ n. merged_pane c.args.own n c.args.windows.now.scalars.now
    (pane_at inside.frames.panes c.args.rank c.args.place) c.deref_mut-2.result.now) c.cells-skip.ensures
    ∙ ap (merged_pane c.args.own (total c.args.windows.now.spans.now) c.args.windows.now.scalars.now
    (pane_at inside.frames.panes c.args.rank c.args.place)) there)) in
    subst (λ (s : State KernelFault). of_parts viewed
    (lists (set inside.memories.items c.args.rank (with_items c.index_mut.result.now c.end.new.memory)))
    (lists (set inside.partials.items c.args.rank (with_items c.index_mut-2.result.now c.end.new.partials))) c.end.new.self ≡ ended
    c.args.own c.args.rank c.args.place c.args.windows.now.spans.now c.args.windows.now.scalars.now s) c.self.view_is
    (ap₂ (λ ms ps. of_parts viewed ms ps c.end.new.self) memories partials
    ∙ ap (of_parts viewed (set (lists inside.memories.items) c.args.rank
    (closed c.args.windows.now.spans.now (pane_at inside.frames.panes c.args.rank c.args.place)
    (row (lists inside.memories.items) c.args.rank)))
    (set (lists inside.partials.items) c.args.rank
    (merged_pane c.args.own (total c.args.windows.now.spans.now) c.args.windows.now.scalars.now
    (pane_at inside.frames.panes c.args.rank c.args.place) (row (lists inside.partials.items) c.args.rank)))) c.end.ensures.shut)
