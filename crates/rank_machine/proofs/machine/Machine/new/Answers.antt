use Rattle.std.proofs.Common.{◌≡◌, ℕ, ℤ, ◌∙◌, ap₂, List, [], map, None}
use Rattle.kernel_model.specs.declared.types.faults.KernelFault.{KernelFault}
use Rattle.rank_state.specs.Frames.{Panes}
use Rattle.rank_state.specs.Mail.{Box}
use Rattle.rank_state.specs.Machine.{State}
use Rattle.rank_state.specs.Starting.{units}
use Rattle.rank_state.proofs.Public.{lists, same_on_all}
use Rattle.rank_machine.proofs.machine.Machine.new.Goals as goal

abbrev of_parts : List (List ℤ) → List ℤ → List (List ℤ) → List ℕ → Panes → Box → State KernelFault
of_parts ms vs ps o fs b = record { memories = ms; variables = vs; partials = ps; frames = fs; mail = b; fault = None; output = o }

pub returns : goal.returns
returns c =
    let partials : lists c.in_ok-partials.partials.items ≡ map (λ (m : List ℤ). units c.args.slots.now) (lists c.args.memories.items) =
    c.in_ok-partials.ensures ∙ same_on_all (units c.args.slots.now) c.deref.result.now c.args.memories.items c.deref.ensures.value in
    ap₂ (λ ps o. of_parts (lists c.args.memories.items) c.args.variables.items ps o c.in_ok-frames.frames c.in_ok-mail.mail) partials c.new-output.ensures.items
    ∙ ap₂ (of_parts (lists c.args.memories.items) c.args.variables.items (map (λ (m : List ℤ). units c.args.slots.now) (lists c.args.memories.items)) []) c.in_ok-frames.ensures c.in_ok-mail.ensures
