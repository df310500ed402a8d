use Rattle.std.proofs.Common.{ℤ, ◌∙◌, List, All, Vec, Global, length, sym, ap, subst}
use Rattle.rank_state.specs.Spare.{HasSpare}
use Rattle.rank_machine.proofs.machine.Machine.element.Goals as goal
use Rattle.lemmas.proofs.Lists.{refilled}

pub invariant_of-self : goal.invariant_of-self
invariant_of-self c =
    let inside = c.self.inside in
    let Spare : List (Vec ℤ Global) → Type 0 = All (HasSpare inside.frames.stride) in
    let kept = c.run_owned.auto.memories ∙ ap length c.deref_mut.ensures.value in
    record {
      spare = subst Spare (sym (refilled inside.memories c.run_owned.new.memories kept))
          (c.run_owned.ensures.spare inside.frames.stride (subst Spare (sym c.deref_mut.ensures.value) c.self.invariant.spare));
      window_fits = c.self.invariant.window_fits;
    }
