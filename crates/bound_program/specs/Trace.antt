-- What `main` unrolls to, by recursion on its steps with the values that are told.
use Rattle.std.specs.Prelude.{ℕ, zero, suc, ℤ, pos, ◌+ℤ◌, ◌-ℤ◌, int_lt, nat_abs, Bool, true, false, List, [], ◌∷◌, ◌++◌, Option, Some, None, Ok, Err, slice_index_or, if◌then◌else◌}
use Rattle.c_tree.specs.declared.lexer.tokens.Pos.{Pos}
use Rattle.kernel_model.specs.Numbers.{Value, is_zero}
use Rattle.bound_program.specs.declared.sites.Class.{Class}
use Rattle.bound_program.specs.declared.sites.Class.TheVariants as class
use Rattle.bound_program.specs.HostExpr.{value}
use Rattle.bound_program.specs.Values.{Exit, ItemValue, Free, Reduce, Ordered, Host, SiteValue, closed_act, no_site}
use Rattle.bound_program.specs.Steps.{Asked, Step, Do, Loop, Fix, Block, Choose, Repeat, Steps, NoStep, MoreStep}
use Rattle.bound_program.specs.Classes.{reduces}

-- What happens, in order: a turn of a `for`, an item, the value of a `const` variable is told, or an expression that must be known
-- faults.
pub data Event : Type 0 where
  Turn : Event
  Does : ItemValue → Event
  Tells : (var : ℕ) → ℤ → Event
  Stops : (at : Pos) → Event

-- What is not to be unrolled stands under a λ, since a call computes its arguments.
abbrev pub Later : Type 0
Later = Unit {0} → List Event

-- nothing happens
abbrev pub nothing : Later
nothing u = []

-- ---- one expression

-- the value, where there is no fault
abbrev pub known : Value → Option ℤ
known (Ok z) = Some z
known (Err f) = None

-- the value of an expression that must be known; none where it faults
abbrev pub number : List ℤ → Asked → Option ℤ
number told e = known (value told [] e.value)

-- the first where the test holds, else the second
abbrev pub choose : Bool → Later → Later → List Event
choose true f g = f tt
choose false f g = g tt

-- goes on with a value, or stops at that place
abbrev pub answer : Option ℤ → Pos → (ℤ → List Event) → List Event
answer None at go = Stops at ∷ []
answer (Some z) at go = go z

-- ---- one statement

-- a Free loop is followed by the merging of what it reduces
abbrev pub items_of : ℕ → SiteValue → List Event
items_of n s = by_class s.class
  where
    by_class : Class → List Event
    by_class class.Ordered = Does (Ordered n) ∷ []
    by_class class.Free = Does (Free n) ∷ (if reduces s.args then (Does (Reduce n) ∷ []) else [])

-- the value of a `const` variable is told, where the name is one
abbrev pub tells : Option ℕ → ℤ → List Event
tells None z = []
tells (Some v) z = Tells v z ∷ []

-- whether a turn follows, by the bound's value
abbrev pub counts : Option ℤ → ℤ → Pos → Later → List Event
counts None i at f = Stops at ∷ []
counts (Some past) i at f = choose (int_lt i past) f nothing

-- The turns of a `for` from i on: its bound is evaluated before each, where the counter is told. A counter that is below a bound is
-- below 2147483647, so there are never more turns than `left`.
unfoldable pub turns : (ℤ → Option ℤ) → (ℤ → List Event) → Pos → ℕ → ℤ → List Event
turns bound body at zero i = []
turns bound body at (suc left) i =
    counts (bound i) i at (λ u. Turn ∷ (body i ++ turns bound body at left (i +ℤ pos 1)))

-- how many turns a counter can have from i on
abbrev pub turns_left : ℤ → ℕ
turns_left i = nat_abs (pos 2147483648 -ℤ i)

-- the told values behind a `const` name, which is known where nothing stops
abbrev pub one_more : List ℤ → Option ℤ → List ℤ
one_more told None = told
one_more told (Some z) = told ++ z ∷ []

-- the told values behind a step
abbrev pub after : List ℤ → Step → List ℤ
after told (Fix e v) = one_more told (number told e)
after told _ = told

module _ (sites : List SiteValue) where
  abbrev mutual
    -- what a step does where these values are told
    pub events : List ℤ → Step → List Event
    events told (Do a) = Does (Host (closed_act told a)) ∷ []
    events told (Loop n) = items_of n (slice_index_or sites n no_site)
    events told (Fix e v) = answer (number told e) e.at (tells v)
    events told (Block ss) = all_events told ss
    events told (Choose e s t) =
        answer (number told e) e.at (λ z. choose (is_zero z) (λ u. events told t) (λ u. events told s))
    events told (Repeat from to s) =
        answer (number told from) from.at
        (λ i. turns (λ j. number (told ++ j ∷ []) to) (λ j. events (told ++ j ∷ []) s) to.at (turns_left i) i)

    -- what steps do one after another, each with the values that those before it told
    pub all_events : List ℤ → Steps → List Event
    all_events told NoStep = []
    all_events told (MoreStep s ss) = events told s ++ all_events (after told s) ss

  -- `main`, whose body is this block, ends with `op_exit`
  abbrev pub main_events : Step → List Event
  main_events s = events [] s ++ Does (Host Exit) ∷ []
