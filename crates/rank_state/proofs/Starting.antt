-- The lists at the start show the start of the flat machine.
use Rattle.std.proofs.Common.{◌≡◌, ◌<◌, ℕ, zero, suc, ℤ, pos, refl, sym, ap, subst, ◌∙◌, arith, List, [], ◌∷◌, length, map, get_or, replicate, None}
use Rattle.std.proofs.lemmas.List.{get_or-map, length-map, length-replicate}
use Rattle.op_num.specs.Reduction.{unit_of}
use Rattle.schedule_model.specs.Setup.{Setup}
use Rattle.schedule_model.specs.Machine.{unit_at}
use Rattle.schedule_model.specs.Layout.{Layout}
use Rattle.schedule_model.specs.Flat.{Flat, StartsFlat, Shut_pane}
use Rattle.rank_state.specs.declared.scalars.Operation.{Operation}
use Rattle.rank_state.specs.declared.scalars.Operation.TheVariants.{Sum}
use Rattle.rank_state.specs.Windows.{operation}
use Rattle.rank_state.specs.Frames.{Shut, Holds, pane_at}
use Rattle.rank_state.specs.Machine.{State}
use Rattle.rank_state.specs.Shows.{Tables, AreWhole, Shows, pane_in, queue}
use Rattle.rank_state.specs.Starting.{Starts, units, started, AreFirst, AreSlots, ArePlaces}

module _ {F : Type 0} (p : Setup F) (l : Layout F) (t : Tables) (st : State F) (h : Starts p l t st) where
  abbrev start : Flat F
  start = record {
    memories = st.memories;
    variables = st.variables;
    partials = λ r s v. unit_at (p.reduces s v);
    mail = λ s r. [];
    panes = λ k r x. Shut_pane;
    faults = [];
    output = [];
    stop = None;
  }

  pub starts : (f : Flat F) × StartsFlat p l f × Shows p l t st f
  starts = (
    start,
    record {
      ranks = h.sized.ranks;
      widths = h.sized.widths;
      values = h.values;
      count = h.sized.count;
      variables = h.variables;
      partials = λ r s v. refl;
      mail = λ s r. refl;
      panes = λ k r x. refl;
      faults = refl;
      output = refl;
      stop = refl;
    },
    record {
      sized = h.sized;
      memories = refl;
      variables = refl;
      partials = h.partials;
      mail = λ s r. ap (queue s r) h.mail;
      whole = subst (AreWhole p l t) (sym h.mail) tt;
      panes = λ k r x. ap (pane_in k) (h.panes r x);
      held = λ r x k ws e. (let i : Shut ≡ Holds k ws = sym (h.panes r x) ∙ e in cc);
      elements = tt;
      fault = h.fault;
      output = h.output;
      stop = refl;
    },
  )

none_in : (n x : ℕ) → get_or (replicate n Shut) x Shut ≡ Shut
none_in zero x = refl
none_in (suc n) zero = refl
none_in (suc n) (suc x) = none_in n x

none_at : (places : List ℕ) (r x : ℕ) → pane_at (map (λ n. replicate n Shut) places) r x ≡ Shut
none_at [] r x = refl
none_at (n ∷ places) zero x = none_in n x
none_at (n ∷ places) (suc r) x = none_at places r x

module _ {F : Type 0} (p : Setup F) (l : Layout F) (t : Tables) where
  pub starts_from : (memories : List (List ℤ)) (variables : List ℤ) (slots : List Operation) (places : List ℕ) (frames mail : ℕ)
      → AreFirst p l t memories variables → AreSlots p l t slots → ArePlaces p l t places
      → Starts p l t (started memories variables slots places frames mail t.stride)
  starts_from memories variables slots places frames mail h o a =
      let row : (r : ℕ) → r < p.ranks → get_or (map (λ (m : List ℤ). units slots) memories) r [] ≡ units slots =
      λ r lt. get_or-map (λ (m : List ℤ). units slots) memories r [] [] (let e = h.ranks in omega arith) in
      record {
        sized = record {
          ranks = h.ranks;
          widths = h.widths;
          count = h.count;
          partials = length-map memories (λ (m : List ℤ). units slots) ∙ h.ranks;
          slots = λ r lt. ap length (row r lt) ∙ (length-map slots (λ how. unit_of (operation how)) ∙ o.count);
          panes = length-map places (λ n. replicate n Shut) ∙ a.ranks;
          places = λ r lt. ap length (get_or-map (λ n. replicate n Shut) places r 0 [] (let e = a.ranks in omega arith)) ∙ (length-replicate (get_or places r 0) Shut ∙ a.each r lt);
          stride = refl;
        };
        values = h.values;
        variables = h.variables_are;
        partials = λ r i lt il.
            ap (λ z. get_or z i (pos 0)) (row r lt)
            ∙ (get_or-map (λ how. unit_of (operation how)) slots i Sum (pos 0) (let e = o.count in omega arith) ∙ sym (ap unit_at (o.operations i il)));
        mail = refl;
        panes = none_at places;
        fault = refl;
        output = refl;
      }
