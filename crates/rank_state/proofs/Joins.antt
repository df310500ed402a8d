-- Joins: by a recorded fault, of a Reduce, of a host statement.
use Rattle.std.proofs.Common.{◌≡◌, ℕ, ℤ, pos, ◌<◌, sym, ap, subst, ◌∙◌, arith, Some, None, List, ◌++◌, length, get_or}
use Rattle.std.proofs.lemmas.List.{ext_get_or}
use Rattle.schedule_steps.specs.declared.step.Step.TheVariants.{Join}
use Rattle.schedule_model.specs.Cells.{VarCell}
use Rattle.schedule_model.specs.Program.{Kind, Reduce, Host, Halts, Goes}
use Rattle.schedule_model.specs.Setup.{Setup}
use Rattle.schedule_model.specs.Sequential.{Stop}
use Rattle.schedule_model.specs.Machine.{least}
use Rattle.schedule_model.specs.Kept.{kept_of, if_before, OfElements}
use Rattle.schedule_model.specs.Layout.{Layout}
use Rattle.schedule_model.specs.Flat.{Flat, updated, owned, host_flat, done_flat, join_flat, flat_step}
use Rattle.rank_state.specs.declared.scalars.Scalar.{Scalar}
use Rattle.rank_state.specs.Machine.{State}
use Rattle.rank_state.specs.Shows.{Tables, Shows}
use Rattle.rank_state.specs.Joins.{reduced, AreReduced}
use Rattle.schedule_model.proofs.Public.{updated_at, updated_length}
use Rattle.rank_state.proofs.Reduces.{reduce_shows}

-- the law that the least fault is enough
abbrev pub Enough : Type 0 → Type 0
Enough F = (k : ℕ) (faults : List (Stop F)) → OfElements faults → least k faults ≡ if_before k (kept_of None faults)

module _ {F : Type 0} (p : Setup F) (l : Layout F) (t : Tables) (st : State F) (f : Flat F) (h : Shows p l t st f) (law : Enough F) (k : ℕ) where
  least_is : least k f.faults ≡ if_before k st.fault
  least_is = law k f.faults h.elements ∙ ap (if_before k) (sym h.fault)

  pub stops : (x : Stop F) → if_before k st.fault ≡ Some x → flat_step p l (Join k) f ≡ record f { stop = Some x }
  stops x e = ap (λ o. join_flat p l k o f) (least_is ∙ e)

  pub goes : if_before k st.fault ≡ None → (kind : Kind) → p.program.kind k ≡ kind → flat_step p l (Join k) f ≡ done_flat p l k kind f
  goes e kind i = ap (λ o. join_flat p l k o f) (least_is ∙ e) ∙ ap (λ z. done_flat p l k z f) i

  pub reduces : if_before k st.fault ≡ None → p.program.kind k ≡ Reduce → (scalars : List Scalar) → AreReduced p l t k scalars → Shows p l t (reduced scalars st) (flat_step p l (Join k) f)
  reduces e i scalars g = subst (Shows p l t (reduced scalars st)) (sym (goes e Reduce i)) (reduce_shows p l t st f h k scalars g)

  pub halts : if_before k st.fault ≡ None → p.program.kind k ≡ Host → (n : F) → p.program.host k (owned p l f) ≡ Halts n
      → flat_step p l (Join k) f ≡ record f { stop = Some (record { item = k; element = None; fault = n }) }
  halts e i n b = goes e Host i ∙ ap (λ z. host_flat p l k z f) b

  pub hosts : if_before k st.fault ≡ None → p.program.kind k ≡ Host → (v : VarCell → ℤ) (w : List ℕ) (vs : List ℤ)
      → p.program.host k (owned p l f) ≡ Goes v w → length vs ≡ l.variables
      → ((i : ℕ) → i < l.variables → get_or vs i (pos 0) ≡ v (l.variable_at i))
      → Shows p l t (record st { variables = vs; output = st.output ++ w }) (flat_step p l (Join k) f)
  hosts e i v w vs b len same =
      let count : length f.variables ≡ l.variables = ap length (sym h.variables) ∙ h.sized.count in
      let new : vs ≡ updated (λ j x. v (l.variable_at j)) 0 f.variables =
      ext_get_or (pos 0) vs (updated (λ j x. v (l.variable_at j)) 0 f.variables) (len ∙ sym (updated_length (λ j x. v (l.variable_at j)) 0 f.variables ∙ count))
      (λ j lt. same j (omega arith) ∙ sym (updated_at (λ j x. v (l.variable_at j)) f.variables j (pos 0) (omega arith))) in
      subst (Shows p l t (record st { variables = vs; output = st.output ++ w })) (sym (goes e Host i ∙ ap (λ z. host_flat p l k z f) b))
      (record {
        sized = record {
          ranks = h.sized.ranks;
          widths = h.sized.widths;
          count = len;
          partials = h.sized.partials;
          slots = h.sized.slots;
          panes = h.sized.panes;
          places = h.sized.places;
          stride = h.sized.stride;
        };
        memories = h.memories;
        variables = new;
        partials = h.partials;
        mail = h.mail;
        whole = h.whole;
        panes = h.panes;
        held = h.held;
        elements = h.elements;
        fault = h.fault;
        output = ap (λ z. z ++ w) h.output;
        stop = h.stop;
      })
