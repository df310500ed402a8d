-- What the text declares and does leaves the variables that are `const`, from statement to statement.
use Rattle.std.proofs.Common.{◌≡◌, ℕ, ◌<◌, ◌≤◌, List, [], ◌∷◌, ◌++◌, length, false, refl, ap, arith, ◌∙◌, inl, inr}
use Rattle.std.specs.Prelude.{All, ◌⊎◌, Option, Some, None, IfSome}
use Rattle.std.proofs.lemmas.List.{length_push}
use Rattle.std.proofs.lemmas.List.Elements.{All-weaker}
use Rattle.std.proofs.lemmas.Map.Entries.{All-lookup}
use Rattle.op_num.specs.declared.reductions.access.Access.TheVariants as access
use Rattle.main_declarations.specs.declared.names.scopes.Meaning.{Meaning}
use Rattle.main_declarations.specs.declared.names.scopes.Meaning.TheVariants.{Variable}
use Rattle.main_declarations.specs.declared.names.scopes.Meaning.TheVariants as m
use Rattle.bound_program.specs.declared.sites.Arg.{Arg}
use Rattle.bound_program.specs.declared.sites.Arg.TheVariants.{Dat, Global}
use Rattle.bound_program.specs.Values.{ActValue, Clear, Assign, Line, Print, Exit, SiteValue, VarValue}
use Rattle.main_declarations.specs.Names.{Names, named_in, or_else, means}
use Rattle.main_declarations.specs.SoFar.{Declared, Walked, with_var, with_name, with_file_name}
use Rattle.bound_program.specs.Steps.{Step, Do, Loop, Fix, Block, Choose, Repeat, Steps, NoStep, MoreStep, followed}
use Rattle.loop_bind.proofs.FitsState.{at, at_push, at_last, known-fits}

-- ---- variables

-- a variable that isn't `const`
pub record IsFree (vs : List VarValue) (v : ℕ) : Type 0 where
  pub var : v < length vs
  pub free : (at vs v).is_const ≡ false

-- the variables stay what they are
pub record VarsStay (vs ws : List VarValue) : Type 0 where
  pub longer : length vs ≤ length ws
  pub same : (v : ℕ) → v < length vs → (at ws v).is_const ≡ (at vs v).is_const

pub stay-self : (vs : List VarValue) → VarsStay vs vs
stay-self vs = record { longer = omega arith; same = λ v l. refl }

pub stay-trans : (us vs ws : List VarValue) → VarsStay us vs → VarsStay vs ws → VarsStay us ws
stay-trans us vs ws h k = record { longer = omega (arith, h.longer, k.longer); same = λ v l. k.same v (omega (arith, l, h.longer)) ∙ h.same v l }

pub stay-push : (vs : List VarValue) (x : VarValue) → VarsStay vs (vs ++ x ∷ [])
stay-push vs x = record { longer = omega (arith, length_push vs x); same = λ v l. ap (λ (y : VarValue). y.is_const) (at_push vs x v l) }

pub free-more : (vs ws : List VarValue) → VarsStay vs ws → (v : ℕ) → IsFree vs v → IsFree ws v
free-more vs ws s v h = record { var = omega (arith, h.var, s.longer); free = s.same v h.var ∙ h.free }

pub free-last : (vs : List VarValue) (x : VarValue) → x.is_const ≡ false → IsFree (vs ++ x ∷ []) (length vs)
free-last vs x e = record { var = omega (arith, length_push vs x); free = ap (λ (y : VarValue). y.is_const) (at_last vs x) ∙ e }

-- ---- names, loops and steps

-- a variable that a name stands for isn't `const`
abbrev pub MeaningLeaves : List VarValue → Meaning → Type 0
MeaningLeaves vs (Variable c) = IsFree vs c.var
MeaningLeaves vs _ = Unit {0}

abbrev pub NameLeaves : List VarValue → List ℕ × Meaning → Type 0
NameLeaves vs e = MeaningLeaves vs e.1

meaning_more : (vs ws : List VarValue) → VarsStay vs ws → (m : Meaning) → MeaningLeaves vs m → MeaningLeaves ws m
meaning_more vs ws s (Variable c) h = free-more vs ws s c.var h
meaning_more vs ws s (m.Extern z) h = tt
meaning_more vs ws s m.ExternArray h = tt
meaning_more vs ws s (m.Kernel number params) h = tt
meaning_more vs ws s (m.Set n) h = tt
meaning_more vs ws s (m.Map n) h = tt
meaning_more vs ws s (m.Dat n) h = tt
meaning_more vs ws s (m.Fixed z c) h = tt
meaning_more vs ws s (m.FixedLater t c) h = tt
meaning_more vs ws s (m.Turning t) h = tt

-- an argument reads, or its variable isn't `const`
abbrev pub ArgIsFree : List VarValue → Arg → Type 0
ArgIsFree vs (Dat d v a) = Unit {0}
ArgIsFree vs (Global v a) = (a ≡ access.Read) ⊎ IsFree vs v

arg_more : (vs ws : List VarValue) → VarsStay vs ws → (x : Arg) → ArgIsFree vs x → ArgIsFree ws x
arg_more vs ws s (Dat d v a) h = tt
arg_more vs ws s (Global v a) (inl e) = inl e
arg_more vs ws s (Global v a) (inr f) = inr (free-more vs ws s v f)

abbrev pub SiteIsFree : List VarValue → SiteValue → Type 0
SiteIsFree vs s = All (ArgIsFree vs) s.args

abbrev pub ActIsFree : List VarValue → ActValue → Type 0
ActIsFree vs (Clear v) = IsFree vs v
ActIsFree vs (Assign v i op op_at e p) = IsFree vs v
ActIsFree vs _ = Unit {0}

abbrev mutual
  pub StepIsFree : List VarValue → Step → Type 0
  StepIsFree vs (Do a) = ActIsFree vs a
  StepIsFree vs (Loop n) = Unit {0}
  StepIsFree vs (Fix e v) = Unit {0}
  StepIsFree vs (Block ss) = StepsAreFree vs ss
  StepIsFree vs (Choose e x y) = StepIsFree vs x × StepIsFree vs y
  StepIsFree vs (Repeat from to x) = StepIsFree vs x

  pub StepsAreFree : List VarValue → Steps → Type 0
  StepsAreFree vs NoStep = Unit {0}
  StepsAreFree vs (MoreStep x xs) = StepIsFree vs x × StepsAreFree vs xs

module _ (vs ws : List VarValue) (s : VarsStay vs ws) where
  act_more : (a : ActValue) → ActIsFree vs a → ActIsFree ws a
  act_more (Clear v) h = free-more vs ws s v h
  act_more (Assign v i op op_at e p) h = free-more vs ws s v h
  act_more (Line l es) h = tt
  act_more (Print d file) h = tt
  act_more Exit h = tt

  mutual
    pub step_more : (x : Step) → StepIsFree vs x → StepIsFree ws x
    step_more (Do a) h = act_more a h
    step_more (Loop n) h = tt
    step_more (Fix e v) h = tt
    step_more (Block ss) h = steps_more ss h
    step_more (Choose e x y) h = (step_more x h.0, step_more y h.1)
    step_more (Repeat from to x) h = step_more x h

    pub steps_more : (xs : Steps) → StepsAreFree vs xs → StepsAreFree ws xs
    steps_more NoStep h = tt
    steps_more (MoreStep x xs) h = (step_more x h.0, steps_more xs h.1)

pub free_followed : (vs : List VarValue) (xs ys : Steps) → StepsAreFree vs xs → StepsAreFree vs ys → StepsAreFree vs (followed xs ys)
free_followed vs NoStep ys h i = i
free_followed vs (MoreStep x xs) ys h i = (h.0, free_followed vs xs ys h.1 i)

-- ---- all that is declared

-- names of variables that aren't `const` stand for such, and loops set such
pub record Leaves (k : Declared) : Type 0 where
  pub file : All (NameLeaves k.vars) k.names.file
  pub own : All (NameLeaves k.vars) k.names.own
  pub sites : All (SiteIsFree k.vars) k.sites

pub names_more : (vs ws : List VarValue) → VarsStay vs ws → (ns : Names) → All (NameLeaves vs) ns → All (NameLeaves ws) ns
names_more vs ws s ns h = All-weaker (NameLeaves vs) (NameLeaves ws) (λ e f. meaning_more vs ws s e.1 f) ns h

pub sites_more : (vs ws : List VarValue) → VarsStay vs ws → (ss : List SiteValue) → All (SiteIsFree vs) ss → All (SiteIsFree ws) ss
sites_more vs ws s ss h = All-weaker (SiteIsFree vs) (SiteIsFree ws) (λ t f. All-weaker (ArgIsFree vs) (ArgIsFree ws) (arg_more vs ws s) t.args f) ss h

-- what a name stands for
pub means_leaves : (k : Declared) → Leaves k → (x : List ℕ) → IfSome (means k.names x) (MeaningLeaves k.vars)
means_leaves k h x = pick (named_in k.names.own x) (named_in k.names.file x) (All-lookup P _ k.names.own h.own) (All-lookup P _ k.names.file h.file)
  where
    P : Meaning → Type 0
    P = MeaningLeaves k.vars

    pick : (a b : Option Meaning) → IfSome a P → IfSome b P → IfSome (or_else a b) P
    pick (Some m) b f g = f
    pick None b f g = g

-- ---- one more

-- the same names and loops with variables that stay
pub leaves-vars : (k : Declared) (ws : List VarValue) → VarsStay k.vars ws → Leaves k → Leaves (record k { vars = ws })
leaves-vars k ws s h = record {
  file = names_more k.vars ws s k.names.file h.file;
  own = names_more k.vars ws s k.names.own h.own;
  sites = sites_more k.vars ws s k.sites h.sites;
}

pub leaves-var : (k : Declared) (v : VarValue) → Leaves k → Leaves (with_var v k)
leaves-var k v h = let i = leaves-vars k (k.vars ++ v ∷ []) (stay-push k.vars v) h in record { file = i.file; own = i.own; sites = i.sites }

pub leaves-own : (k : Declared) (x : List ℕ) (m : Meaning) → MeaningLeaves k.vars m → Leaves k → Leaves (with_name x m k)
leaves-own k x m f h = record { file = h.file; own = known-fits (NameLeaves k.vars) x m k.names.own f h.own; sites = h.sites }

pub leaves-file : (k : Declared) (x : List ℕ) (m : Meaning) → MeaningLeaves k.vars m → Leaves k → Leaves (with_file_name x m k)
leaves-file k x m f h = record { file = known-fits (NameLeaves k.vars) x m k.names.file f h.file; own = h.own; sites = h.sites }

-- ---- the walk

-- what is declared leaves them, and so do the steps
pub record WalkLeaves (a : Walked) : Type 0 where
  pub declared : Leaves a.declared
  pub steps : StepsAreFree a.declared.vars a.steps

-- and the variables stay
pub record LeavesOn (k l : Declared) : Type 0 where
  pub leaves : Leaves l
  pub stay : VarsStay k.vars l.vars

pub record WalkOn (k : Declared) (b : Walked) : Type 0 where
  pub walk : WalkLeaves b
  pub stay : VarsStay k.vars b.declared.vars
