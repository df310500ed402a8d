use Rattle.std.proofs.Common.{◌≡◌, ℤ, ◌<◌, ◌∙◌, ap, ap₂, sym, subst, length, set, List}
use Rattle.std.specs.Vec.{with_items}
use Rattle.kernel_model.specs.declared.types.faults.KernelFault.{KernelFault}
use Rattle.rank_state.specs.Mail.{Box, arrived, first_post}
use Rattle.rank_state.specs.Machine.{State, row, taken}
use Rattle.rank_state.specs.Stops.{stop_in}
use Rattle.rank_state.proofs.Public.{lists, rank_in, row_is, row_put}
use Rattle.rank_machine.proofs.machine.Machine.recv.Goals as goal

abbrev of_parts : State KernelFault → List (List ℤ) → Box → State KernelFault
of_parts s ms b = record s { memories = ms; mail = b }

pub returns : goal.returns
returns c =
    let inside = c.self.inside in
    let rank : c.args.rank < length inside.memories.items =
    rank_in inside.memories.items c.args.rank
    (subst (λ (s : State KernelFault). c.args.rank < length s.memories) (sym c.self.view_is) c.requires.rank) in
    let here : c.deref_mut.result.now ≡ row (lists inside.memories.items) c.args.rank = c.deref_mut.ensures.value
    ∙ row_is inside.memories.items c.args.rank c.index_mut.result.now rank c.index_mut.ensures.value in
    let kept : length c.recv.new.memory ≡ length c.index_mut.result.now.items = c.recv.auto.memory ∙ ap length c.deref_mut.ensures.value in
    let viewed : State KernelFault = record {
      memories = lists inside.memories.items;
      variables = inside.variables.items;
      partials = lists inside.partials.items;
      frames =
          inside.frames;
      mail = inside.mail;
      fault = stop_in inside.fault;
      output = inside.output.items;
    } in
    let memories : lists (set inside.memories.items c.args.rank (with_items c.index_mut.result.now c.recv.new.memory)) ≡ set
    (lists inside.memories.items) c.args.rank
    (arrived c.args.spans.now (first_post c.args.from c.args.rank inside.mail.posts) (row (lists inside.memories.items) c.args.rank)) =
    row_put inside.memories.items c.args.rank c.index_mut.result.now c.recv.new.memory
    (arrived c.args.spans.now (first_post c.args.from c.args.rank inside.mail.posts) (row (lists inside.memories.items) c.args.rank))
    kept
    (c.recv.ensures.memory ∙ ap (arrived c.args.spans.now (first_post c.args.from c.args.rank inside.mail.posts)) here) in
    subst (λ (s : State KernelFault). of_parts viewed
    (lists (set inside.memories.items c.args.rank (with_items c.index_mut.result.now c.recv.new.memory))) c.recv.new.self ≡ taken
    c.args.rank c.args.from c.args.spans.now s) c.self.view_is
    (ap₂ (λ ms b. of_parts viewed ms b) memories c.recv.ensures.mail)
