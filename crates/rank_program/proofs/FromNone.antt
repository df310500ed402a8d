-- Elements that run from no fault on run alike from a kept one.
use Rattle.std.proofs.Common.{◌≡◌, ℕ, zero, suc, ℤ, refl, sym, ap, subst, ◌∙◌, List, get_or, Option, Some, None}
use Rattle.std.proofs.lemmas.Bool.{cond_both}
use Rattle.schedule_model.specs.Sequential.{Stop}
use Rattle.schedule_model.specs.Machine.{is_less}
use Rattle.schedule_model.specs.Kept.{kept}
use Rattle.schedule_model.specs.Setup.{Setup}
use Rattle.schedule_model.specs.Layout.{Layout}
use Rattle.rank_state.specs.Core.{fault_of}
use Rattle.rank_state.specs.Machine.{noted}
use Rattle.rank_state.specs.Shows.{Tables}
use Rattle.rank_program.specs.AloneRuns.{Share, Reaches}
use Rattle.rank_program.specs.FromNone.{kept_both, OfElement, with_fault, FaultsComeTogether}
use Rattle.schedule_model.proofs.Public.{At, least_of_three}

at_of : {F : Type 0} (x : Stop F) → (e : ℕ) × (x.element ≡ Some e) → At x
at_of x h = record { element = h.0; is = h.1 }

-- one fault more, before or after they are put together
both_more : {F : Type 0} (x z : Option (Stop F)) (y : Stop F) → OfElement x → OfElement z → (e : ℕ) × (y.element ≡ Some e) → kept_both x (kept z y) ≡ kept (kept_both x z) y
both_more x None y a b c = refl
both_more None (Some z) y a b c = refl
both_more (Some w) (Some z) y a b c = ap Some (sym (least_of_three y z w (at_of y c) (at_of z b) (at_of w a)))

both_noted : {F : Type 0} (k e : ℕ) (f : Option F) (x z : Option (Stop F)) → OfElement x → OfElement z → kept_both x (noted k e f z) ≡ noted k e f (kept_both x z)
both_noted k e None x z a b = refl
both_noted k e (Some f) x z a b = both_more x z (record { item = k; element = Some e; fault = f }) a b (e, refl)

of_noted : {F : Type 0} (k e : ℕ) (f : Option F) (z : Option (Stop F)) → OfElement z → OfElement (noted k e f z)
of_noted k e None z b = b
of_noted k e (Some f) None b = (e, refl)
of_noted {F = F} k e (Some f) (Some z) b =
    let y : Stop F = record { item = k; element = Some e; fault = f } in
    cond_both (is_less y z) y z (λ (w : Stop F). (i : ℕ) × (w.element ≡ Some i)) (λ t. (e, refl)) (λ t. b)

module _ {F : Type 0} (p : Setup F) (l : Layout F) (t : Tables) (k r : ℕ) (cs vs : List ℤ) (places : List ℕ) (old : Share F) where
  -- their faults are of elements
  pub of_reach : (n : ℕ) (new : Share F) → Reaches p l t k r cs vs places (with_fault None old) n new → OfElement new.fault
  of_reach zero new h = subst (λ (s : Share F). OfElement s.fault) (sym h) tt
  of_reach (suc n) new h =
      subst OfElement (sym h.2.fault) (of_noted k (l.original k r (get_or places n 0)) (fault_of h.2.ran) h.0.fault (of_reach n h.0 h.1))

  pub from_none : (x : Option (Stop F)) → OfElement x → (n : ℕ) (new : Share F) → Reaches p l t k r cs vs places (with_fault None old) n new
      → Reaches p l t k r cs vs places (with_fault x old) n (with_fault (kept_both x new.fault) new)
  from_none x a zero new h = ap (λ (s : Share F). with_fault (kept_both x s.fault) s) h
  from_none x a (suc n) new h = (
    with_fault (kept_both x h.0.fault) h.0,
    from_none x a n h.0 h.1,
    record {
      spans = h.2.spans;
      scalars = h.2.scalars;
      are = h.2.are;
      ran = h.2.ran;
      is = h.2.is;
      cells = h.2.cells;
      partials = h.2.partials;
      fault = ap (kept_both x) h.2.fault ∙ both_noted k (l.original k r (get_or places n 0)) (fault_of h.2.ran) x h.0.fault a (of_reach n h.0 h.1);
    },
  )

pub together : {F : Type 0} (p : Setup F) (l : Layout F) (t : Tables) → FaultsComeTogether p l t
together p l t k r cs vs places old new n x a h = from_none p l t k r cs vs places old x a n new h

pub of_both : {F : Type 0} (x z : Option (Stop F)) → OfElement x → OfElement z → OfElement (kept_both x z)
of_both x None a b = a
of_both None (Some z) a b = b
of_both {F = F} (Some x) (Some z) a b = cond_both (is_less z x) z x (λ (w : Stop F). (i : ℕ) × (w.element ≡ Some i)) (λ t. b) (λ t. a)
