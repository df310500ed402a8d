-- Lists that show one state in which the machine starts show each.
use Rattle.std.proofs.Common.{◌≡◌, ◌<◌, ℕ, pos, None, [], get_or, sym, ap, subst, ◌∙◌, arith}
use Rattle.std.proofs.lemmas.List.{ext_get_or}
use Rattle.schedule_model.specs.Setup.{Setup}
use Rattle.schedule_model.specs.Kept.{kept_of, OfElements}
use Rattle.schedule_model.specs.Layout.{Layout}
use Rattle.schedule_model.specs.Flat.{Flat, StartsFlat}
use Rattle.rank_state.specs.Machine.{State}
use Rattle.rank_state.specs.Shows.{Tables, Shows}

module _ {F : Type 0} (p : Setup F) (l : Layout F) (t : Tables) (f g : Flat F) (a : StartsFlat p l f) (b : StartsFlat p l g) where
  one_memory : (r : ℕ) → r < p.ranks → get_or f.memories r [] ≡ get_or g.memories r []
  one_memory r lr = ext_get_or (pos 0) (get_or f.memories r []) (get_or g.memories r []) (a.widths r lr ∙ sym (b.widths r lr))
      (λ i li.
      let lw : i < l.width r = omega (arith, a.widths r lr) in
      a.values r i lr lw ∙ sym (b.values r i lr lw))

  one_memories : f.memories ≡ g.memories
  one_memories = ext_get_or [] f.memories g.memories (a.ranks ∙ sym b.ranks) (λ r lr. one_memory r (omega (arith, a.ranks)))

  one_variables : f.variables ≡ g.variables
  one_variables = ext_get_or (pos 0) f.variables g.variables (a.count ∙ sym b.count)
      (λ i li.
      let lv : i < l.variables = omega (arith, a.count) in
      a.variables i lv ∙ sym (b.variables i lv))

  pub same_start : (st : State F) → Shows p l t st f → Shows p l t st g
  same_start st s = record {
    sized = s.sized;
    memories = s.memories ∙ one_memories;
    variables = s.variables ∙ one_variables;
    partials = λ r i lr li. s.partials r i lr li ∙ (a.partials r (t.site_at i) (t.reduced_at i) ∙ sym (b.partials r (t.site_at i) (t.reduced_at i)));
    mail = λ x y. s.mail x y ∙ (a.mail x y ∙ sym (b.mail x y));
    whole = s.whole;
    panes = λ k r x. s.panes k r x ∙ (a.panes k r x ∙ sym (b.panes k r x));
    held = s.held;
    elements = subst OfElements (a.faults ∙ sym b.faults) s.elements;
    fault = s.fault ∙ ap (λ z. kept_of None z) (a.faults ∙ sym b.faults);
    output = s.output ∙ (a.output ∙ sym b.output);
    stop = b.stop;
  }
