-- What `main` unrolls to leaves the variables that are `const`.
use Rattle.std.proofs.Common.{◌≡◌, ℕ, zero, suc, ℤ, pos, ◌+ℤ◌, List, [], ◌∷◌, ◌++◌, Ok, Err, Bool, true, false, int_lt, refl, sym, inl, inr, ◌∙◌}
use Rattle.std.specs.Prelude.{All, Option, Some, None, slice_index_or, if◌then◌else◌}
use Rattle.std.proofs.lemmas.Bool.{false≢true}
use Rattle.std.proofs.lemmas.List.Elements.{All-nil, All-cons, All-weaker}
use Rattle.c_tree.specs.declared.lexer.tokens.Pos.{Pos}
use Rattle.kernel_model.specs.Numbers.{is_zero}
use Rattle.bound_program.specs.declared.sites.Arg.{Arg}
use Rattle.bound_program.specs.declared.sites.Arg.TheVariants.{Dat, Global}
use Rattle.bound_program.specs.declared.sites.Class.{Class}
use Rattle.bound_program.specs.declared.sites.Class.TheVariants as class
use Rattle.bound_program.specs.Values.{ActValue, Clear, Assign, Line, Print, Exit, closed_act, ItemValue, Free, Reduce, Ordered, Host, SiteValue, VarValue, BoundValue, no_site}
use Rattle.bound_program.specs.Classes.{reduces}
use Rattle.bound_program.specs.Steps.{Step, Do, Loop, Fix, Block, Choose, Repeat, Steps, NoStep, MoreStep}
use Rattle.bound_program.specs.Refusals.{Judged}
use Rattle.bound_program.specs.Trace.{Event, Turn, Does, Tells, Stops, Later, nothing, number, choose, answer, tells, counts, turns, turns_left, after, events, all_events, main_events}
use Rattle.bound_program.specs.Limited.{ToldValue, UnrolledValue, before, item, told, unrolled}
use Rattle.loop_bind.specs.Weights.{started, with_told}
use Rattle.loop_bind.specs.Constants.{ActLeaves, ItemLeaves, ArgLeaves, LeavesConstants}
use Rattle.main_declarations.proofs.Public.{Gives}
use Rattle.loop_bind.proofs.FitsState.{at}
use Rattle.loop_bind.proofs.LeavesState.{ActIsFree, StepIsFree, StepsAreFree, ArgIsFree, SiteIsFree}

module _ (vs : List VarValue) where
  abbrev pub ItemIsFree : ItemValue → Type 0
  ItemIsFree (Host a) = ActIsFree vs a
  ItemIsFree _ = Unit {0}

  abbrev pub EventIsFree : Event → Type 0
  EventIsFree (Does x) = ItemIsFree x
  EventIsFree _ = Unit {0}

  abbrev pub EventsAreFree : List Event → Type 0
  EventsAreFree [] = Unit {0}
  EventsAreFree (e ∷ es) = EventIsFree e × EventsAreFree es

  then-free : (xs ys : List Event) → EventsAreFree xs → EventsAreFree ys → EventsAreFree (xs ++ ys)
  then-free [] ys h i = i
  then-free (x ∷ xs) ys h i = (h.0, then-free xs ys h.1 i)

  closed-free : (ts : List ℤ) (a : ActValue) → ActIsFree vs a → ActIsFree vs (closed_act ts a)
  closed-free ts (Clear v) h = h
  closed-free ts (Assign v i op op_at e p) h = h
  closed-free ts (Line l es) h = tt
  closed-free ts (Print d file) h = tt
  closed-free ts Exit h = tt

  answer-free : (o : Option ℤ) (p : Pos) (go : ℤ → List Event) → ((z : ℤ) → EventsAreFree (go z)) → EventsAreFree (answer o p go)
  answer-free None p go h = (tt, tt)
  answer-free (Some z) p go h = h z

  choose-free : (q : Bool) (f g : Later) → EventsAreFree (f tt) → EventsAreFree (g tt) → EventsAreFree (choose q f g)
  choose-free true f g h i = h
  choose-free false f g h i = i

  turns-free : (bound : ℤ → Option ℤ) (body : ℤ → List Event) (p : Pos) → ((j : ℤ) → EventsAreFree (body j)) → (left : ℕ) (i : ℤ) → EventsAreFree (turns bound body p left i)
  unfolding turns
  turns-free bound body p h zero i = tt
  turns-free bound body p h (suc left) i = pick (turns-free bound body p h left (i +ℤ pos 1)) (bound i)
    where
      pick : EventsAreFree (turns bound body p left (i +ℤ pos 1)) → (o : Option ℤ) → EventsAreFree (counts o i p (λ u. Turn ∷ (body i ++ turns bound body p left (i +ℤ pos 1))))
      pick rest None = (tt, tt)
      pick rest (Some past) = choose-free (int_lt i past) (λ u. Turn ∷ (body i ++ turns bound body p left (i +ℤ pos 1))) nothing
          (tt, then-free (body i) (turns bound body p left (i +ℤ pos 1)) (h i) rest) tt

  tells-free : (v : Option ℕ) (z : ℤ) → EventsAreFree (tells v z)
  tells-free None z = tt
  tells-free (Some v) z = (tt, tt)

  abbrev loop-events : ℕ → List Arg → Class → List Event
  loop-events n args class.Ordered = Does (Ordered n) ∷ []
  loop-events n args class.Free = Does (Free n) ∷ (if reduces args then (Does (Reduce n) ∷ []) else [])

  loop-free : (n : ℕ) (args : List Arg) (c : Class) → EventsAreFree (loop-events n args c)
  loop-free n args class.Ordered = (tt, tt)
  loop-free n args class.Free = (tt, merges (reduces args))
    where
      merges : (r : Bool) → EventsAreFree (if r then (Does (Reduce n) ∷ []) else [])
      merges true = (tt, tt)
      merges false = tt

  module _ (sites : List SiteValue) where
    mutual
      step-free : (ts : List ℤ) (x : Step) → StepIsFree vs x → EventsAreFree (events sites ts x)
      step-free ts (Do a) h = (closed-free ts a h, tt)
      step-free ts (Loop n) h = loop-free n (slice_index_or sites n no_site).args (slice_index_or sites n no_site).class
      step-free ts (Fix e v) h = answer-free (number ts e) e.at (tells v) (λ z. tells-free v z)
      step-free ts (Block ss) h = steps-free ts ss h
      step-free ts (Choose e x y) h =
          answer-free (number ts e) e.at (λ z. choose (is_zero z) (λ u. events sites ts y) (λ u. events sites ts x))
          (λ z. choose-free (is_zero z) (λ u. events sites ts y) (λ u. events sites ts x) (step-free ts y h.1) (step-free ts x h.0))
      step-free ts (Repeat from to x) h =
          answer-free (number ts from) from.at (λ i. turns (λ j. number (ts ++ j ∷ []) to) (λ j. events sites (ts ++ j ∷ []) x) to.at (turns_left i) i)
          (λ i. turns-free (λ j. number (ts ++ j ∷ []) to) (λ j. events sites (ts ++ j ∷ []) x) to.at (λ j. step-free (ts ++ j ∷ []) x h) (turns_left i) i)

      steps-free : (ts : List ℤ) (xs : Steps) → StepsAreFree vs xs → EventsAreFree (all_events sites ts xs)
      steps-free ts NoStep h = tt
      steps-free ts (MoreStep x xs) h = then-free (events sites ts x) (all_events sites (after ts x) xs) (step-free ts x h.0) (steps-free (after ts x) xs h.1)

    pub main-free : (xs : Steps) → StepsAreFree vs xs → EventsAreFree (main_events sites (Block xs))
    main-free xs h = then-free (events sites [] (Block xs)) (Does (Host Exit) ∷ []) (steps-free [] xs h) (tt, tt)

  -- ---- what is unrolled

  pub record IsFreeTrace (u : UnrolledValue) : Type 0 where
    pub items : All ItemIsFree u.items

  item-then : (x : ItemValue) (r : Judged UnrolledValue) → ItemIsFree x → Gives IsFreeTrace r → Gives IsFreeTrace (before (item x) r)
  item-then x (Err e) f h = tt
  item-then x (Ok u) f h = record { items = All-cons ItemIsFree x u.items f h.items }

  told-then : (v : ℕ) (z : ℤ) (r : Judged UnrolledValue) → Gives IsFreeTrace r → Gives IsFreeTrace (before (told v z) r)
  told-then v z (Err e) h = tt
  told-then v z (Ok u) h = record { items = h.items }

  pub unrolls-free : (left : ℕ) (es : List Event) → EventsAreFree es → Gives IsFreeTrace (unrolled left es)
  unrolls-free left [] h = record { items = All-nil ItemIsFree }
  unrolls-free left (Stops p ∷ es) h = tt
  unrolls-free left (Tells v z ∷ es) h = told-then v z (unrolled left es) (unrolls-free left es h.1)
  unrolls-free zero (Turn ∷ es) h = tt
  unrolls-free zero (Does x ∷ es) h = tt
  unrolls-free (suc left) (Turn ∷ es) h = unrolls-free left es h.1
  unrolls-free (suc left) (Does x ∷ es) h = item-then x (unrolled left es) h.0 (unrolls-free left es h.1)

-- ---- the values that are told

started-same : (v : ℕ) (z : ℤ) (vs : List VarValue) (w : ℕ) → (at (started v z vs) w).is_const ≡ (at vs w).is_const
started-same v z [] w = refl
started-same zero z (x ∷ xs) zero = refl
started-same zero z (x ∷ xs) (suc w) = refl
started-same (suc v) z (x ∷ xs) zero = refl
started-same (suc v) z (x ∷ xs) (suc w) = started-same v z xs w

pub told-same : (ts : List ToldValue) (vs : List VarValue) (w : ℕ) → (at (with_told ts vs) w).is_const ≡ (at vs w).is_const
told-same [] vs w = refl
told-same (t ∷ ts) vs w = told-same ts (started t.var t.value vs) w ∙ started-same t.var t.value vs w

-- ---- the program

module _ (vs : List VarValue) (b : BoundValue) (same : (w : ℕ) → (at b.vars w).is_const ≡ (at vs w).is_const) where
  act-leaves : (a : ActValue) → ActIsFree vs a → ActLeaves b a
  act-leaves (Clear v) h = same v ∙ h.free
  act-leaves (Assign v i op op_at e p) h = same v ∙ h.free
  act-leaves (Line l es) h = tt
  act-leaves (Print d file) h = tt
  act-leaves Exit h = tt

  item-leaves : (x : ItemValue) → ItemIsFree vs x → ItemLeaves b x
  item-leaves (Host a) h = act-leaves a h
  item-leaves (Free s) h = tt
  item-leaves (Reduce s) h = tt
  item-leaves (Ordered s) h = tt

  arg-leaves : (x : Arg) → ArgIsFree vs x → ArgLeaves b x
  arg-leaves (Dat d v a) h = tt
  arg-leaves (Global v a) (inl e) = λ c. e
  arg-leaves (Global v a) (inr f) = λ c. absurd (false≢true (sym (same v ∙ f.free) ∙ c))

  pub leaves-all : All (ItemIsFree vs) b.trace → All (SiteIsFree vs) b.sites → LeavesConstants b
  leaves-all h i = record {
    items = All-weaker (ItemIsFree vs) (ItemLeaves b) item-leaves b.trace h;
    args = All-weaker (SiteIsFree vs) (λ (s : SiteValue). All (ArgLeaves b) s.args) (λ s f. All-weaker (ArgIsFree vs) (ArgLeaves b) arg-leaves s.args f) b.sites i;
  }
