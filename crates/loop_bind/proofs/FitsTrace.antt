-- What `main` unrolls to fits what is declared.
use Rattle.std.proofs.Common.{◌≡◌, ℕ, zero, suc, ℤ, pos, ◌+ℤ◌, ◌<◌, ◌≤◌, List, [], ◌∷◌, ◌++◌, length, map, Ok, Err, Bool, true, false, int_lt, refl, sym, ap, subst, arith, ◌∙◌}
use Rattle.std.specs.Prelude.{All, Option, Some, None, IfSome, option_map, if◌then◌else◌}
use Rattle.std.proofs.lemmas.Int.{ints}
use Rattle.std.proofs.lemmas.List.{length-map}
use Rattle.std.proofs.lemmas.List.Elements.{All-nil, All-cons}
use Rattle.c_tree.specs.declared.lexer.tokens.Pos.{Pos}
use Rattle.kernel_model.specs.Numbers.{Value, is_zero}
use Rattle.mesh_decl.specs.Mesh.{dat_count}
use Rattle.bound_program.specs.declared.sites.Arg.{Arg}
use Rattle.bound_program.specs.declared.sites.Class.{Class}
use Rattle.bound_program.specs.declared.sites.Class.TheVariants as class
use Rattle.kernel_model.specs.View.{RExprTree}
use Rattle.bound_program.specs.HostExpr.{value, closed}
use Rattle.bound_program.specs.Values.{ActValue, Clear, Assign, Line, Print, Exit, closed_act, ItemValue, Free, Reduce, Ordered, Host, BoundValue}
use Rattle.bound_program.specs.Steps.{Asked, Step, Do, Loop, Fix, Block, Choose, Repeat, Steps, NoStep, MoreStep}
use Rattle.bound_program.specs.Refusals.{Judged}
use Rattle.bound_program.specs.Trace.{Event, Turn, Does, Tells, Stops, Later, nothing, known, number, choose, answer, tells, counts, turns, turns_left, one_more, after, events, all_events, main_events}
use Rattle.bound_program.specs.Limited.{ToldValue, UnrolledValue, before, item, told, unrolled}
use Rattle.bound_program.specs.Classes.{reduces}
use Rattle.bound_program.specs.Fits.{site_at, all_cells, HostWithin, IndexWithin, ActFits, due, ItemsFit, EndsWithHost}
use Rattle.main_declarations.proofs.Public.{Gives}
use Rattle.kernel_model.specs.Operators.{IsNumber}
use Rattle.loop_bind.proofs.FitsValues.{Num, Nums, no_nums, more_nums, Within, value_num, closed_within}
use Rattle.loop_bind.proofs.FitsMain.{AllWithin, SomeWithin, IsOne, TellsOne, StepActFits, StepFits, StepsFit}

-- ---- counters

next_num : (i past : ℤ) → Num i → Num past → int_lt i past ≡ true → Num (i +ℤ pos 1)
next_num i past f g e = omega (arith, ints, f, g, e)

module _ (b : BoundValue) where
  -- what happens fits: where the merging of a loop is due, it comes next, and nowhere else
  abbrev pub EventsFit : Option ℕ → List Event → Type 0
  EventsFit None [] = Unit {0}
  EventsFit None (Turn ∷ es) = EventsFit None es
  EventsFit None (Does (Free s) ∷ es) = (s < length b.sites) × ((site_at b s).class ≡ class.Free) × EventsFit (due b s) es
  EventsFit None (Does (Ordered s) ∷ es) = (s < length b.sites) × ((site_at b s).class ≡ class.Ordered) × EventsFit None es
  EventsFit None (Does (Host a) ∷ es) = ActFits b a × EventsFit None es
  EventsFit None (Does (Reduce s) ∷ es) = ⊥
  EventsFit None (Tells v z ∷ es) = IsOne b.vars v × EventsFit None es
  EventsFit None (Stops p ∷ es) = EventsFit None es
  EventsFit (Some s) (Does (Reduce n) ∷ es) = (n ≡ s) × EventsFit None es
  EventsFit (Some s) es = ⊥

  pub events_then : (o : Option ℕ) (xs ys : List Event) → EventsFit o xs → EventsFit None ys → EventsFit o (xs ++ ys)
  events_then None [] ys h k = k
  events_then None (Turn ∷ xs) ys h k = events_then None xs ys h k
  events_then None (Does (Free s) ∷ xs) ys h k = (h.0, h.1, events_then (due b s) xs ys h.2 k)
  events_then None (Does (Ordered s) ∷ xs) ys h k = (h.0, h.1, events_then None xs ys h.2 k)
  events_then None (Does (Host a) ∷ xs) ys h k = (h.0, events_then None xs ys h.1 k)
  events_then None (Does (Reduce s) ∷ xs) ys h k = absurd h
  events_then None (Tells v z ∷ xs) ys h k = (h.0, events_then None xs ys h.1 k)
  events_then None (Stops p ∷ xs) ys h k = events_then None xs ys h k
  events_then (Some s) [] ys h k = absurd h
  events_then (Some s) (Turn ∷ xs) ys h k = absurd h
  events_then (Some s) (Does (Free t) ∷ xs) ys h k = absurd h
  events_then (Some s) (Does (Ordered t) ∷ xs) ys h k = absurd h
  events_then (Some s) (Does (Host a) ∷ xs) ys h k = absurd h
  events_then (Some s) (Does (Reduce t) ∷ xs) ys h k = (h.0, events_then None xs ys h.1 k)
  events_then (Some s) (Tells v z ∷ xs) ys h k = absurd h
  events_then (Some s) (Stops p ∷ xs) ys h k = absurd h

  -- ---- a loop's items

  abbrev items_by : ℕ → List Arg → Class → List Event
  items_by n args class.Ordered = Does (Ordered n) ∷ []
  items_by n args class.Free = Does (Free n) ∷ (if reduces args then (Does (Reduce n) ∷ []) else [])

  loop_fits : (n : ℕ) → n < length b.sites → (c : Class) → (site_at b n).class ≡ c → EventsFit None (items_by n (site_at b n).args c)
  loop_fits n l class.Ordered e = (l, e, tt)
  loop_fits n l class.Free e = (l, e, merges (reduces (site_at b n).args))
    where
      merges : (r : Bool) → EventsFit (if r then Some n else None) (if r then (Does (Reduce n) ∷ []) else [])
      merges true = (refl, tt)
      merges false = tt

  -- ---- expressions that must be known

  known_num : (v : Value) → IsNumber v → IfSome (known v) Num
  known_num (Ok z) f = f
  known_num (Err e) f = tt

  number_num : (n : ℕ) (ts : List ℤ) → Nums ts → (e : Asked) → Within n e.value → IfSome (number ts e) Num
  number_num n ts t e w = known_num (value ts [] e.value) (value_num n ts [] t no_nums e.value w)

  answer_fits : (o : Option ℤ) (p : Pos) (go : ℤ → List Event) → IfSome o Num → ((z : ℤ) → Num z → EventsFit None (go z)) → EventsFit None (answer o p go)
  answer_fits None p go f h = tt
  answer_fits (Some z) p go f h = h z f

  choose_fits : (q : Bool) (f g : Later) → EventsFit None (f tt) → EventsFit None (g tt) → EventsFit None (choose q f g)
  choose_fits true f g h k = h
  choose_fits false f g h k = k

  turns_fit : (bound : ℤ → Option ℤ) (body : ℤ → List Event) (p : Pos) → ((j : ℤ) → Num j → IfSome (bound j) Num)
      → ((j : ℤ) → Num j → EventsFit None (body j)) → (left : ℕ) (i : ℤ) → Num i → EventsFit None (turns bound body p left i)
  unfolding turns
  turns_fit bound body p hb he zero i f = tt
  turns_fit bound body p hb he (suc left) i f = pick (λ g. turns_fit bound body p hb he left (i +ℤ pos 1) g) (bound i) (hb i f)
    where
      go : (past : ℤ) → (Num (i +ℤ pos 1) → EventsFit None (turns bound body p left (i +ℤ pos 1))) → Num past → (q : Bool)
          → int_lt i past ≡ q → EventsFit None (choose q (λ u. Turn ∷ (body i ++ turns bound body p left (i +ℤ pos 1))) nothing)
      go past rest g true e = events_then None (body i) (turns bound body p left (i +ℤ pos 1)) (he i f) (rest (next_num i past f g e))
      go past rest g false e = tt

      pick : (Num (i +ℤ pos 1) → EventsFit None (turns bound body p left (i +ℤ pos 1))) → (o : Option ℤ) → IfSome o Num
          → EventsFit None (counts o i p (λ u. Turn ∷ (body i ++ turns bound body p left (i +ℤ pos 1))))
      pick rest None g = tt
      pick rest (Some past) g = go past rest g (int_lt i past) refl

  -- ---- statements

  module _ (n : ℕ) (same : all_cells b ≡ n) where
    closes : (ts : List ℤ) → Nums ts → (e : RExprTree) → Within n e → HostWithin b (closed ts e)
    closes ts t e w = closed_within b ts t e (subst (λ m. Within m e) (sym same) w)

    index_closes : (ts : List ℤ) → Nums ts → (o : Option RExprTree) → SomeWithin n o → IndexWithin b (option_map (closed ts) o)
    index_closes ts t None w = tt
    index_closes ts t (Some e) w = closes ts t e w

    all_close : (ts : List ℤ) → Nums ts → (es : List RExprTree) → AllWithin n es → All (HostWithin b) (map (closed ts) es)
    all_close ts t [] w = All-nil (HostWithin b)
    all_close ts t (e ∷ es) w = All-cons (HostWithin b) (closed ts e) (map (closed ts) es) (closes ts t e w.0) (all_close ts t es w.1)

    act_fits : (ts : List ℤ) → Nums ts → (a : ActValue) → StepActFits b.vars n (dat_count b.mesh) a → ActFits b (closed_act ts a)
    act_fits ts t (Clear v) h = h
    act_fits ts t (Assign v i op op_at e p) h = (h.0.var, h.0.some, index_closes ts t i h.1, closes ts t e h.2)
    act_fits ts t (Line l es) h = (h.0 ∙ ap (λ (j : ℕ). Some j) (sym (length-map es (closed ts))), all_close ts t es h.1)
    act_fits ts t (Print x file) h = h
    act_fits ts t Exit h = tt

    tells_fit : (v : Option ℕ) (z : ℤ) → TellsOne b.vars v → EventsFit None (tells v z)
    tells_fit None z h = tt
    tells_fit (Some v) z h = (h, tt)

    more_told : (ts : List ℤ) (o : Option ℤ) → Nums ts → IfSome o Num → Nums (one_more ts o)
    more_told ts None t f = t
    more_told ts (Some z) t f = more_nums ts z t f

    after_nums : (ts : List ℤ) → Nums ts → (x : Step) → StepFits b.vars n (dat_count b.mesh) (length b.sites) x → Nums (after ts x)
    after_nums ts t (Do a) h = t
    after_nums ts t (Loop s) h = t
    after_nums ts t (Fix e v) h = more_told ts (number ts e) t (number_num n ts t e h.0)
    after_nums ts t (Block ss) h = t
    after_nums ts t (Choose e x y) h = t
    after_nums ts t (Repeat from to x) h = t

    mutual
      pub step_events : (ts : List ℤ) → Nums ts → (x : Step) → StepFits b.vars n (dat_count b.mesh) (length b.sites) x → EventsFit None (events b.sites ts x)
      step_events ts t (Do a) h = (act_fits ts t a h, tt)
      step_events ts t (Loop s) h = loop_fits s h (site_at b s).class refl
      step_events ts t (Fix e v) h = answer_fits (number ts e) e.at (tells v) (number_num n ts t e h.0) (λ z f. tells_fit v z h.1)
      step_events ts t (Block ss) h = all_step_events ts t ss h
      step_events ts t (Choose e x y) h =
          answer_fits (number ts e) e.at (λ z. choose (is_zero z) (λ u. events b.sites ts y) (λ u. events b.sites ts x)) (number_num n ts t e h.0)
          (λ z f. choose_fits (is_zero z) (λ u. events b.sites ts y) (λ u. events b.sites ts x) (step_events ts t y h.2) (step_events ts t x h.1))
      step_events ts t (Repeat from to x) h =
          answer_fits (number ts from) from.at (λ i. turns (λ j. number (ts ++ j ∷ []) to) (λ j. events b.sites (ts ++ j ∷ []) x) to.at (turns_left i) i) (number_num n ts t from h.0)
          (λ i f. turns_fit (λ j. number (ts ++ j ∷ []) to) (λ j. events b.sites (ts ++ j ∷ []) x) to.at
          (λ j g. number_num n (ts ++ j ∷ []) (more_nums ts j t g) to h.1)
          (λ j g. step_events (ts ++ j ∷ []) (more_nums ts j t g) x h.2) (turns_left i) i f)

      pub all_step_events : (ts : List ℤ) → Nums ts → (xs : Steps) → StepsFit b.vars n (dat_count b.mesh) (length b.sites) xs → EventsFit None (all_events b.sites ts xs)
      all_step_events ts t NoStep h = tt
      all_step_events ts t (MoreStep x xs) h =
          events_then None (events b.sites ts x) (all_events b.sites (after ts x) xs) (step_events ts t x h.0) (all_step_events (after ts x) (after_nums ts t x h.0) xs h.1)

    pub main_fits : (xs : Steps) → StepsFit b.vars n (dat_count b.mesh) (length b.sites) xs → EventsFit None (main_events b.sites (Block xs))
    main_fits xs h = events_then None (events b.sites [] (Block xs)) (Does (Host Exit) ∷ []) (all_step_events [] no_nums xs h) (tt, tt)

  -- ---- what is unrolled

  abbrev pub TellsOf : List ToldValue → Type 0
  TellsOf [] = Unit {0}
  TellsOf (t ∷ ts) = IsOne b.vars t.var × TellsOf ts

  -- items and told values fit, and there are not too many
  pub record Unrolls (o : Option ℕ) (left : ℕ) (u : UnrolledValue) : Type 0 where
    pub items : ItemsFit b o u.items
    pub values : TellsOf u.values
    pub few : length u.items ≤ left

  -- behind one item
  item_then : (x : ItemValue) (o p : Option ℕ) (left : ℕ) (r : Judged UnrolledValue)
      → ((xs : List ItemValue) → ItemsFit b p xs → ItemsFit b o (x ∷ xs)) → Gives (Unrolls p left) r
      → Gives (Unrolls o (suc left)) (before (item x) r)
  item_then x o p left (Err e) f h = tt
  item_then x o p left (Ok u) f h = record { items = f u.items h.items; values = h.values; few = omega (arith, h.few) }

  told_then : (v : ℕ) (z : ℤ) (left : ℕ) (r : Judged UnrolledValue) → IsOne b.vars v → Gives (Unrolls None left) r → Gives (Unrolls None left) (before (told v z) r)
  told_then v z left (Err e) f h = tt
  told_then v z left (Ok u) f h = record { items = h.items; values = (f, h.values); few = h.few }

  turn_then : (left : ℕ) (r : Judged UnrolledValue) → Gives (Unrolls None left) r → Gives (Unrolls None (suc left)) r
  turn_then left (Err e) h = tt
  turn_then left (Ok u) h = record { items = h.items; values = h.values; few = omega (arith, h.few) }

  pub unrolls : (left : ℕ) (o : Option ℕ) (es : List Event) → EventsFit o es → Gives (Unrolls o left) (unrolled left es)
  unrolls left None [] h = record { items = tt; values = tt; few = omega arith }
  unrolls left (Some s) [] h = absurd h
  unrolls left None (Stops p ∷ es) h = tt
  unrolls left (Some s) (Stops p ∷ es) h = absurd h
  unrolls left None (Tells v z ∷ es) h = told_then v z left (unrolled left es) h.0 (unrolls left None es h.1)
  unrolls left (Some s) (Tells v z ∷ es) h = absurd h
  unrolls zero None (Turn ∷ es) h = tt
  unrolls (suc left) None (Turn ∷ es) h = turn_then left (unrolled left es) (unrolls left None es h)
  unrolls left (Some s) (Turn ∷ es) h = absurd h
  unrolls zero None (Does x ∷ es) h = tt
  unrolls (suc left) None (Does (Free s) ∷ es) h = item_then (Free s) None (due b s) left (unrolled left es) (λ xs f. (h.0, h.1, f)) (unrolls left (due b s) es h.2)
  unrolls (suc left) None (Does (Ordered s) ∷ es) h = item_then (Ordered s) None None left (unrolled left es) (λ xs f. (h.0, h.1, f)) (unrolls left None es h.2)
  unrolls (suc left) None (Does (Host a) ∷ es) h = item_then (Host a) None None left (unrolled left es) (λ xs f. (h.0, f)) (unrolls left None es h.1)
  unrolls (suc left) None (Does (Reduce s) ∷ es) h = absurd h
  unrolls zero (Some s) (Does x ∷ es) h = tt
  unrolls (suc left) (Some s) (Does (Free t) ∷ es) h = absurd h
  unrolls (suc left) (Some s) (Does (Ordered t) ∷ es) h = absurd h
  unrolls (suc left) (Some s) (Does (Host a) ∷ es) h = absurd h
  unrolls (suc left) (Some s) (Does (Reduce t) ∷ es) h = item_then (Reduce t) (Some s) None left (unrolled left es) (λ xs f. (h.0, f)) (unrolls left None es h.1)

-- ---- the last item

abbrev LastIsHost : List ItemValue → Type 0
LastIsHost [] = ⊥
LastIsHost (Host a ∷ []) = Unit {0}
LastIsHost (x ∷ []) = ⊥
LastIsHost (x ∷ y ∷ xs) = LastIsHost (y ∷ xs)

pub record Last (u : UnrolledValue) : Type 0 where
  pub last : LastIsHost u.items

last_more : (x : ItemValue) (xs : List ItemValue) → LastIsHost xs → LastIsHost (x ∷ xs)
last_more x [] h = absurd h
last_more (Free s) (y ∷ ys) h = h
last_more (Reduce s) (y ∷ ys) h = h
last_more (Ordered s) (y ∷ ys) h = h
last_more (Host a) (y ∷ ys) h = h

pub ends_with_host : (xs : List ItemValue) → LastIsHost xs → EndsWithHost xs
ends_with_host [] h = tt
ends_with_host (Host a ∷ []) h = tt
ends_with_host (Free s ∷ []) h = absurd h
ends_with_host (Reduce s ∷ []) h = absurd h
ends_with_host (Ordered s ∷ []) h = absurd h
ends_with_host (Free s ∷ y ∷ xs) h = ends_with_host (y ∷ xs) h
ends_with_host (Reduce s ∷ y ∷ xs) h = ends_with_host (y ∷ xs) h
ends_with_host (Ordered s ∷ y ∷ xs) h = ends_with_host (y ∷ xs) h
ends_with_host (Host a ∷ y ∷ xs) h = ends_with_host (y ∷ xs) h

last_item : (x : ItemValue) (r : Judged UnrolledValue) → Gives Last r → Gives Last (before (item x) r)
last_item x (Ok u) h = record { last = last_more x u.items h.last }
last_item x (Err e) h = tt

last_told : (v : ℕ) (z : ℤ) (r : Judged UnrolledValue) → Gives Last r → Gives Last (before (told v z) r)
last_told v z (Ok u) h = record { last = h.last }
last_told v z (Err e) h = tt

pub lasts : (left : ℕ) (es : List Event) → Gives Last (unrolled left (es ++ Does (Host Exit) ∷ []))
lasts zero [] = tt
lasts (suc left) [] = record { last = tt }
lasts left (Stops p ∷ es) = tt
lasts left (Tells v z ∷ es) = last_told v z (unrolled left (es ++ Does (Host Exit) ∷ [])) (lasts left es)
lasts zero (Turn ∷ es) = tt
lasts (suc left) (Turn ∷ es) = lasts left es
lasts zero (Does x ∷ es) = tt
lasts (suc left) (Does x ∷ es) = last_item x (unrolled left (es ++ Does (Host Exit) ∷ [])) (lasts left es)
