-- What is told as `main` is unrolled are values of 32 bits.
use Rattle.std.proofs.Common.{◌≡◌, ℕ, zero, suc, ℤ, pos, ◌+ℤ◌, int_lt, Bool, true, false, List, ◌∷◌, ◌++◌, Option, Some, None, Ok, Err, if◌then◌else◌, refl, arith, []}
use Rattle.std.specs.Prelude.{IfSome, slice_index_or}
use Rattle.std.proofs.lemmas.Int.{ints}
use Rattle.c_tree.specs.declared.lexer.tokens.Pos.{Pos}
use Rattle.kernel_model.specs.Numbers.{Value, is_zero}
use Rattle.kernel_model.specs.Operators.{IsNumber}
use Rattle.bound_program.specs.Refusals.{Judged}
use Rattle.bound_program.specs.HostExpr.{value}
use Rattle.bound_program.specs.Values.{ItemValue, SiteValue, Free, Reduce, Ordered, Host, Exit, no_site}
use Rattle.bound_program.specs.declared.sites.Class.{Class}
use Rattle.bound_program.specs.declared.sites.Class.TheVariants as class
use Rattle.bound_program.specs.declared.sites.Arg.{Arg as LoopArgument}
use Rattle.bound_program.specs.Classes.{reduces}
use Rattle.bound_program.specs.Steps.{Asked, Step, Do, Loop, Fix, Block, Choose, Repeat, Steps, NoStep, MoreStep}
use Rattle.bound_program.specs.Trace.{Event, Turn, Does, Tells, Stops, Later, nothing, known as known_later, number, choose, answer, tells, counts, turns, turns_left, one_more, after, events, all_events, main_events}
use Rattle.bound_program.specs.Limited.{ToldValue, UnrolledValue, before, item, told, unrolled}
use Rattle.main_declarations.proofs.Public.{Gives}
use Rattle.answers.proofs.laws.SpelledValues.{Num, AllNum, nums_then}
use Rattle.answers.proofs.laws.ExpressionValues.{Nums, value_in}
use Rattle.answers.proofs.laws.DeclaredValues.{StepNum, StepsNum}

-- ---- what happens as `main` is unrolled

-- the values that are told
abbrev EventsNum : List Event → Type 0
EventsNum [] = Unit {0}
EventsNum (Turn ∷ es) = EventsNum es
EventsNum (Does x ∷ es) = EventsNum es
EventsNum (Tells v z ∷ es) = Num z × EventsNum es
EventsNum (Stops p ∷ es) = EventsNum es

events_then : (xs ys : List Event) → EventsNum xs → EventsNum ys → EventsNum (xs ++ ys)
events_then [] ys h k = k
events_then (Turn ∷ xs) ys h k = events_then xs ys h k
events_then (Does x ∷ xs) ys h k = events_then xs ys h k
events_then (Tells v z ∷ xs) ys h k = (h.0, events_then xs ys h.1 k)
events_then (Stops p ∷ xs) ys h k = events_then xs ys h k

next_num : (i past : ℤ) → Num i → Num past → int_lt i past ≡ true → Num (i +ℤ pos 1)
next_num i past f g e = omega (arith, ints, f, g, e)

later_num : (v : Value) → IsNumber v → IfSome (known_later v) Num
later_num (Ok z) f = f
later_num (Err e) f = tt

number_num : (ts : List ℤ) → AllNum ts → (e : Asked) → Nums e.value → IfSome (number ts e) Num
number_num ts t e w = later_num (value ts [] e.value) (value_in ts t e.value w)

answer_num : (o : Option ℤ) (p : Pos) (go : ℤ → List Event) → IfSome o Num → ((z : ℤ) → Num z → EventsNum (go z)) → EventsNum (answer o p go)
answer_num None p go f h = tt
answer_num (Some z) p go f h = h z f

choose_num : (q : Bool) (f g : Later) → EventsNum (f tt) → EventsNum (g tt) → EventsNum (choose q f g)
choose_num true f g h k = h
choose_num false f g h k = k

turns_num : (limit : ℤ → Option ℤ) (body : ℤ → List Event) (p : Pos) → ((j : ℤ) → Num j → IfSome (limit j) Num)
    → ((j : ℤ) → Num j → EventsNum (body j)) → (left : ℕ) (i : ℤ) → Num i → EventsNum (turns limit body p left i)
unfolding turns
turns_num limit body p hb he zero i f = tt
turns_num limit body p hb he (suc left) i f = pick (λ g. turns_num limit body p hb he left (i +ℤ pos 1) g) (limit i) (hb i f)
  where
    go : (past : ℤ) → (Num (i +ℤ pos 1) → EventsNum (turns limit body p left (i +ℤ pos 1))) → Num past → (q : Bool) → int_lt i past ≡ q
        → EventsNum (choose q (λ u. Turn ∷ (body i ++ turns limit body p left (i +ℤ pos 1))) nothing)
    go past rest g true e = events_then (body i) (turns limit body p left (i +ℤ pos 1)) (he i f) (rest (next_num i past f g e))
    go past rest g false e = tt

    pick : (Num (i +ℤ pos 1) → EventsNum (turns limit body p left (i +ℤ pos 1))) → (o : Option ℤ) → IfSome o Num
        → EventsNum (counts o i p (λ u. Turn ∷ (body i ++ turns limit body p left (i +ℤ pos 1))))
    pick rest None g = tt
    pick rest (Some past) g = go past rest g (int_lt i past) refl

more_told : (ts : List ℤ) (o : Option ℤ) → AllNum ts → IfSome o Num → AllNum (one_more ts o)
more_told ts None t f = t
more_told ts (Some z) t f = nums_then ts (z ∷ []) t (f, tt)

after_nums : (ts : List ℤ) → AllNum ts → (x : Step) → StepNum x → AllNum (after ts x)
after_nums ts t (Do a) h = t
after_nums ts t (Loop s) h = t
after_nums ts t (Fix e v) h = more_told ts (number ts e) t (number_num ts t e h)
after_nums ts t (Block ss) h = t
after_nums ts t (Choose e x y) h = t
after_nums ts t (Repeat from to x) h = t

tells_num : (v : Option ℕ) (z : ℤ) → Num z → EventsNum (tells v z)
tells_num None z f = tt
tells_num (Some v) z f = (f, tt)

module _ (ss : List SiteValue) where
  abbrev items_by : ℕ → List LoopArgument → Class → List Event
  items_by n args class.Ordered = Does (Ordered n) ∷ []
  items_by n args class.Free = Does (Free n) ∷ (if reduces args then (Does (Reduce n) ∷ []) else [])

  loop_num : (n : ℕ) (args : List LoopArgument) (c : Class) → EventsNum (items_by n args c)
  loop_num n args class.Ordered = tt
  loop_num n args class.Free = merges (reduces args)
    where
      merges : (b : Bool) → EventsNum (if b then (Does (Reduce n) ∷ []) else [])
      merges true = tt
      merges false = tt

  mutual
    step_num : (ts : List ℤ) → AllNum ts → (x : Step) → StepNum x → EventsNum (events ss ts x)
    step_num ts t (Do a) h = tt
    step_num ts t (Loop s) h = loop_num s (slice_index_or ss s no_site).args (slice_index_or ss s no_site).class
    step_num ts t (Fix e v) h = answer_num (number ts e) e.at (tells v) (number_num ts t e h) (λ z f. tells_num v z f)
    step_num ts t (Block xs) h = all_steps_num ts t xs h
    step_num ts t (Choose e x y) h =
        answer_num (number ts e) e.at (λ z. choose (is_zero z) (λ u. events ss ts y) (λ u. events ss ts x)) (number_num ts t e h.0)
        (λ z f. choose_num (is_zero z) (λ u. events ss ts y) (λ u. events ss ts x) (step_num ts t y h.2) (step_num ts t x h.1))
    step_num ts t (Repeat from to x) h =
        answer_num (number ts from) from.at (λ i. turns (λ j. number (ts ++ j ∷ []) to) (λ j. events ss (ts ++ j ∷ []) x) to.at (turns_left i) i) (number_num ts t from h.0)
        (λ i f. turns_num (λ j. number (ts ++ j ∷ []) to) (λ j. events ss (ts ++ j ∷ []) x) to.at
        (λ j g. number_num (ts ++ j ∷ []) (nums_then ts (j ∷ []) t (g, tt)) to h.1)
        (λ j g. step_num (ts ++ j ∷ []) (nums_then ts (j ∷ []) t (g, tt)) x h.2) (turns_left i) i f)

    all_steps_num : (ts : List ℤ) → AllNum ts → (xs : Steps) → StepsNum xs → EventsNum (all_events ss ts xs)
    all_steps_num ts t NoStep h = tt
    all_steps_num ts t (MoreStep x xs) h =
        events_then (events ss ts x) (all_events ss (after ts x) xs) (step_num ts t x h.0) (all_steps_num (after ts x) (after_nums ts t x h.0) xs h.1)

  pub main_num : (xs : Steps) → StepsNum xs → EventsNum (main_events ss (Block xs))
  main_num xs h = events_then (events ss [] (Block xs)) (Does (Host Exit) ∷ []) (all_steps_num [] tt xs h) tt

abbrev pub ToldNum : List ToldValue → Type 0
ToldNum [] = Unit {0}
ToldNum (t ∷ ts) = Num t.value × ToldNum ts

abbrev pub UnrolledNum : UnrolledValue → Type 0
UnrolledNum u = ToldNum u.values

item_then : (x : ItemValue) (r : Judged UnrolledValue) → Gives UnrolledNum r → Gives UnrolledNum (before (item x) r)
item_then x (Ok u) h = h
item_then x (Err e) h = tt

told_then : (v : ℕ) (z : ℤ) (r : Judged UnrolledValue) → Num z → Gives UnrolledNum r → Gives UnrolledNum (before (told v z) r)
told_then v z (Ok u) f h = (f, h)
told_then v z (Err e) f h = tt

pub unrolled_num : (left : ℕ) (xs : List Event) → EventsNum xs → Gives UnrolledNum (unrolled left xs)
unrolled_num left [] h = tt
unrolled_num left (Stops p ∷ xs) h = tt
unrolled_num left (Tells v z ∷ xs) h = told_then v z (unrolled left xs) h.0 (unrolled_num left xs h.1)
unrolled_num zero (Turn ∷ xs) h = tt
unrolled_num zero (Does x ∷ xs) h = tt
unrolled_num (suc left) (Turn ∷ xs) h = unrolled_num left xs h
unrolled_num (suc left) (Does x ∷ xs) h = item_then x (unrolled left xs) (unrolled_num left xs h)
