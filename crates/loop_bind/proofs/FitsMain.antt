-- What is declared stays so behind a declarator of `main`, and its steps fit.
use Rattle.std.proofs.Common.{◌≡◌, ℕ, pos, ◌+◌, ◌<◌, List, [], ◌∷◌, ◌++◌, length, replicate, Ok, Err, Bool, true, false, refl, arith, ◌∙◌}
use Rattle.std.specs.Prelude.{All, Option, Some, None}
use Rattle.std.proofs.lemmas.List.{length-replicate}
use Rattle.std.proofs.lemmas.List.Elements.{All-head, All-tail}
use Rattle.c_tree.specs.declared.lexer.tokens.Pos.{Pos}
use Rattle.c_tree.specs.Tree as tree
use Rattle.c_tree.specs.Tree.{ExprTree, DeclrTree}
use Rattle.kernel_model.specs.declared.types.kernels.RKernel.{RKernel}
use Rattle.mesh_decl.specs.Mesh.{dat_count}
use Rattle.mesh_decl.specs.Printed.{conversions}
use Rattle.mesh_decl.specs.Spelling.{Named}
use Rattle.main_declarations.specs.declared.names.walks.Spot.{Spot}
use Rattle.main_declarations.specs.declared.names.scopes.Meaning.{Meaning}
use Rattle.main_declarations.specs.declared.names.scopes.Meaning.TheVariants.{Variable, Fixed, FixedLater, Turning}
use Rattle.kernel_model.specs.View.{RExprTree}
use Rattle.bound_program.specs.Values.{VarValue, ActValue, Clear, Assign, Line, Print, Exit}
use Rattle.bound_program.specs.Steps.{Asked, Step, Do, Loop, Fix, Block, Choose, Repeat, Steps, NoStep, MoreStep, followed, one_step}
use Rattle.main_declarations.specs.Expressions.{resolved, judged_static, judged_value}
use Rattle.main_declarations.specs.Names.{told_later}
use Rattle.bound_program.specs.Refusals.{Judged}
use Rattle.main_declarations.specs.SoFar.{Declared, Walked, does, behind, with_var, with_name, next_cells, changing, unchanging}
use Rattle.main_declarations.specs.Meanings.{count_of}
use Rattle.main_declarations.specs.Variables.{with_fixed, with_fixed_later, with_turning, const_at, with_changing, initializer, judged_declr, judged_declrs}
use Rattle.loop_bind.specs.Sources.{HasNumbers, IsRead}
use Rattle.main_declarations.proofs.Public.{Gives, gives_then}
use Rattle.loop_bind.proofs.FitsValues.{Num, Within, within_more}
use Rattle.loop_bind.proofs.FitsState.{at, MeaningFits, IsOwn, Grows, grows-self, grows-trans, Lawful}
use Rattle.loop_bind.proofs.FitsVars.{lawful-own, lawful-var, grows-var, next-fits}
use Rattle.loop_bind.proofs.FitsReads.{resolved_within}
use Rattle.loop_bind.proofs.FitsFile.{static_within, value_is_num}
use Rattle.loop_bind.proofs.FitsMeshWalk.{Goes}

-- ---- steps

abbrev pub AllWithin : ℕ → List RExprTree → Type 0
AllWithin n [] = Unit {0}
AllWithin n (e ∷ es) = Within n e × AllWithin n es

abbrev pub SomeWithin : ℕ → Option RExprTree → Type 0
SomeWithin n None = Unit {0}
SomeWithin n (Some e) = Within n e

-- the variable is there and has cells
pub record IsVar (vs : List VarValue) (v : ℕ) : Type 0 where
  pub var : v < length vs
  pub some : 0 < length (at vs v).start

-- a variable of one cell
pub record IsOne (vs : List VarValue) (v : ℕ) : Type 0 where
  pub var : v < length vs
  pub one : length (at vs v).start ≡ 1

abbrev pub TellsOne : List VarValue → Option ℕ → Type 0
TellsOne vs None = Unit {0}
TellsOne vs (Some v) = IsOne vs v

-- what a statement names is there: variables, so many cells and dats
abbrev pub StepActFits : List VarValue → (cells dats : ℕ) → ActValue → Type 0
StepActFits vs n d (Clear v) = v < length vs
StepActFits vs n d (Assign v i op op_at e p) = IsVar vs v × SomeWithin n i × Within n e
StepActFits vs n d (Line l es) = (conversions l ≡ Some (length es)) × AllWithin n es
StepActFits vs n d (Print x file) = x < d
StepActFits vs n d Exit = Unit {0}

-- and so many loops
abbrev mutual
  pub StepFits : List VarValue → (cells dats sites : ℕ) → Step → Type 0
  StepFits vs n d s (Do a) = StepActFits vs n d a
  StepFits vs n d s (Loop l) = l < s
  StepFits vs n d s (Fix e v) = Within n e.value × TellsOne vs v
  StepFits vs n d s (Block ss) = StepsFit vs n d s ss
  StepFits vs n d s (Choose e x y) = Within n e.value × StepFits vs n d s x × StepFits vs n d s y
  StepFits vs n d s (Repeat from to x) = Within n from.value × Within n to.value × StepFits vs n d s x

  pub StepsFit : List VarValue → (cells dats sites : ℕ) → Steps → Type 0
  StepsFit vs n d s NoStep = Unit {0}
  StepsFit vs n d s (MoreStep x xs) = StepFits vs n d s x × StepsFit vs n d s xs

module _ (k l : Declared) (g : Grows k l) where
  some_more : (o : Option RExprTree) → SomeWithin k.cells o → SomeWithin l.cells o
  some_more None h = tt
  some_more (Some e) h = within_more k.cells l.cells g.cells e h

  all_more : (es : List RExprTree) → AllWithin k.cells es → AllWithin l.cells es
  all_more [] h = tt
  all_more (e ∷ es) h = (within_more k.cells l.cells g.cells e h.0, all_more es h.1)

  act_more : (a : ActValue) → StepActFits k.vars k.cells (dat_count k.mesh) a → StepActFits l.vars l.cells (dat_count l.mesh) a
  act_more (Clear v) h = omega (arith, h, g.vars.longer)
  act_more (Assign v i op op_at e p) h =
      let var : v < length k.vars = h.0.var in
      let same : length (at l.vars v).start ≡ length (at k.vars v).start = g.vars.same v var in
      (record { var = omega (arith, var, g.vars.longer); some = omega (arith, same, h.0.some) }, some_more i h.1, within_more k.cells l.cells g.cells e h.2)
  act_more (Line t es) h = (h.0, all_more es h.1)
  act_more (Print x file) h = omega (arith, h, g.dats)
  act_more Exit h = tt

  tells_more : (o : Option ℕ) → TellsOne k.vars o → TellsOne l.vars o
  tells_more None h = tt
  tells_more (Some v) h = record { var = omega (arith, h.var, g.vars.longer); one = g.vars.same v h.var ∙ h.one }

  mutual
    pub step_more : (x : Step) → StepFits k.vars k.cells (dat_count k.mesh) (length k.sites) x → StepFits l.vars l.cells (dat_count l.mesh) (length l.sites) x
    step_more (Do a) h = act_more a h
    step_more (Loop n) h = omega (arith, h, g.sites)
    step_more (Fix e v) h = (within_more k.cells l.cells g.cells e.value h.0, tells_more v h.1)
    step_more (Block ss) h = steps_more ss h
    step_more (Choose e x y) h = (within_more k.cells l.cells g.cells e.value h.0, step_more x h.1, step_more y h.2)
    step_more (Repeat from to x) h = (within_more k.cells l.cells g.cells from.value h.0, within_more k.cells l.cells g.cells to.value h.1, step_more x h.2)

    pub steps_more : (xs : Steps) → StepsFit k.vars k.cells (dat_count k.mesh) (length k.sites) xs → StepsFit l.vars l.cells (dat_count l.mesh) (length l.sites) xs
    steps_more NoStep h = tt
    steps_more (MoreStep x xs) h = (step_more x h.0, steps_more xs h.1)

-- the steps fit what is declared
abbrev pub Fit : Declared → Steps → Type 0
Fit k ss = StepsFit k.vars k.cells (dat_count k.mesh) (length k.sites) ss

abbrev pub FitOne : Declared → Step → Type 0
FitOne k s = StepFits k.vars k.cells (dat_count k.mesh) (length k.sites) s

pub fit_followed : (k : Declared) (xs ys : Steps) → Fit k xs → Fit k ys → Fit k (followed xs ys)
fit_followed k NoStep ys h i = i
fit_followed k (MoreStep x xs) ys h i = (h.0, fit_followed k xs ys h.1 i)

-- ---- the walk

-- lawful, with steps that fit
pub record Walks (ks : List RKernel) (es : List Named) (a : Walked) : Type 0 where
  pub lawful : Lawful ks es a.declared
  pub steps : Fit a.declared a.steps

-- and nothing is lost
pub record WalksOn (ks : List RKernel) (es : List Named) (k : Declared) (b : Walked) : Type 0 where
  pub walks : Walks ks es b
  pub grows : Grows k b.declared
  pub file : b.declared.names.file ≡ k.names.file

module _ (ks : List RKernel) (es : List Named) where
  -- behind something declared
  pub walks_behind : (a : Walked) (l : Declared) → Walks ks es a → Goes ks es a.declared l → WalksOn ks es a.declared (behind a l)
  walks_behind a l w g = record {
    walks = record { lawful = g.lawful; steps = steps_more a.declared l g.grows a.steps w.steps };
    grows = g.grows;
    file = g.file;
  }

  -- and a step
  pub walks_does : (a : Walked) (l : Declared) (s : Step) → Walks ks es a → Goes ks es a.declared l → FitOne l s → WalksOn ks es a.declared (does s (behind a l))
  walks_does a l s w g f = record {
    walks = record { lawful = g.lawful; steps = fit_followed l a.steps (one_step s) (steps_more a.declared l g.grows a.steps w.steps) (f, tt) };
    grows = g.grows;
    file = g.file;
  }

  pub walks_self : (a : Walked) → Walks ks es a → WalksOn ks es a.declared a
  walks_self a w = record { walks = w; grows = grows-self a.declared; file = refl }

  -- a step alone
  pub walks_step : (a : Walked) (s : Step) → Walks ks es a → FitOne a.declared s → WalksOn ks es a.declared (does s a)
  walks_step a s w f = record {
    walks = record { lawful = w.lawful; steps = fit_followed a.declared a.steps (one_step s) w.steps (f, tt) };
    grows = grows-self a.declared;
    file = refl;
  }

  pub walks_trans : (k l : Declared) (b : Walked) → Grows k l → l.names.file ≡ k.names.file → WalksOn ks es l b → WalksOn ks es k b
  walks_trans k l b g e w = record { walks = w.walks; grows = grows-trans k l b.declared g w.grows; file = w.file ∙ e }

  -- a further name loses nothing
  named : (k l : Declared) (x : List ℕ) (m : Meaning) → Grows k l → Grows k (with_name x m l)
  named k l x m g = record { vars = g.vars; cells = g.cells; sets = g.sets; maps = g.maps; dats = g.dats; sites = g.sites }

  -- a name and its variable
  pub goes_var : (k : Declared) (x : List ℕ) (m : Meaning) (v : VarValue) → Lawful ks es k
      → MeaningFits ks k.mesh (k.vars ++ v ∷ []) (k.cells + length v.start) m → IsOwn m → Goes ks es k (with_name x m (with_var v k))
  goes_var k x m v h f o = record { lawful = lawful-own ks es (with_var v k) x m (lawful-var ks es k v h) f o; grows = named k (with_var v k) x m (grows-var ks es k v); file = refl }

  pub goes_name : (k : Declared) (x : List ℕ) (m : Meaning) → Lawful ks es k → MeaningFits ks k.mesh k.vars k.cells m → IsOwn m → Goes ks es k (with_name x m k)
  goes_name k x m h f o = record { lawful = lawful-own ks es k x m h f o; grows = named k k x m (grows-self k); file = refl }

  goes_changing : (places : List Pos) (k : Declared) (x : List ℕ) (is_array : Bool) (n : ℕ) → Lawful ks es k → 0 < n → Goes ks es k (with_changing places k x is_array n)
  goes_changing places k x is_array n h l = goes_var k x (Variable (next_cells k false is_array n)) (changing x (replicate n (pos 0))) h
      (next-fits ks es k (changing x (replicate n (pos 0))) false is_array n (length-replicate n (pos 0)) l) tt

  module _ (places : List Pos) where
    const_is : (in_for is_nested : Bool) (a : Walked) (x : List ℕ) (e : ExprTree) → Walks ks es a → HasNumbers e → Gives (WalksOn ks es a.declared) (const_at places in_for is_nested a x e)
    const_is true is_nested a x e w f =
        gives_then (λ (v : Asked). Within a.declared.cells v.value) (WalksOn ks es a.declared) (judged_static places a.declared.names e)
        (λ v. Ok (does (Fix v None) (behind a (with_turning places a.declared x)))) (static_within ks es places a.declared w.lawful e f)
        (λ v i. walks_does a (with_turning places a.declared x) (Fix v None) w (goes_name a.declared x (Turning (told_later a.declared.names)) w.lawful tt tt) (i, tt))
    const_is false true a x e w f =
        let k = a.declared in
        let var = unchanging x (pos 0) None in
        let later = next-fits ks es k var false false 1 refl (omega arith) in
        gives_then (λ (v : Asked). Within k.cells v.value) (WalksOn ks es k) (judged_static places k.names e)
        (λ v. Ok (does (Fix v (Some (length k.vars))) (behind a (with_fixed_later places k x))))
        (static_within ks es places k w.lawful e f)
        (λ v i. walks_does a (with_fixed_later places k x) (Fix v (Some (length k.vars))) w (goes_var k x (FixedLater (told_later k.names) (next_cells k false false 1)) var w.lawful later tt)
        (within_more k.cells (k.cells + 1) (omega arith) v.value i, record { var = later.var; one = later.start }))
    const_is false false a x e w f =
        let k = a.declared in
        gives_then Num (WalksOn ks es k) (judged_value places k.names e) (λ z. Ok (behind a (with_fixed places k x z))) (value_is_num ks es places k w.lawful e f)
        (λ z i. walks_behind a (with_fixed places k x z) w
        (goes_var k x (Fixed z (next_cells k false false 1)) (unchanging x z None) w.lawful
        (i, next-fits ks es k (unchanging x z None) false false 1 refl (omega arith)) tt))

    cleared : (a : Walked) (x : List ℕ) (is_array : Bool) (n : ℕ) → Walks ks es a → 0 < n
        → WalksOn ks es a.declared (does (Do (Clear (length a.declared.vars))) (behind a (with_changing places a.declared x is_array n)))
    cleared a x is_array n w l =
        walks_does a (with_changing places a.declared x is_array n) (Do (Clear (length a.declared.vars))) w (goes_changing places a.declared x is_array n w.lawful l)
        (next-fits ks es a.declared (changing x (replicate n (pos 0))) false is_array n (length-replicate n (pos 0)) l).var

    declr_is : (a : Walked) (w : Spot) (c : Bool) (d : DeclrTree) → Walks ks es a → IsRead d → Gives (WalksOn ks es a.declared) (judged_declr places a w c d)
    declr_is a w true (tree.Init x e) h f = const_is w.in_for w.is_nested a x.name e h f
    declr_is a w false (tree.Init x e) h f =
        let k = a.declared in
        let next = next-fits ks es k (changing x.name (replicate 1 (pos 0))) false false 1 refl (omega arith) in
        walks_does a (with_changing places k x.name false 1) (Do (initializer places k x e)) h (goes_changing places k x.name false 1 h.lawful (omega arith))
        (record { var = next.var; some = omega (arith, next.start) }, tt, within_more k.cells (k.cells + 1) (omega arith) (resolved places k.names e) (resolved_within ks es places k h.lawful e f))
    declr_is a w true (tree.Plain x) h f = cleared a x.name false 1 h (omega arith)
    declr_is a w false (tree.Plain x) h f = cleared a x.name false 1 h (omega arith)
    declr_is a w true (tree.Array x n) h f = cleared a x.name true (count_of n) h f
    declr_is a w false (tree.Array x n) h f = cleared a x.name true (count_of n) h f

    pub declrs_are : (a : Walked) (w : Spot) (c : Bool) (ds : List DeclrTree) → Walks ks es a → All IsRead ds → Gives (WalksOn ks es a.declared) (judged_declrs places a w c ds)
    declrs_are a w c [] h f = walks_self a h
    declrs_are a w c (d ∷ ds) h f =
        gives_then (WalksOn ks es a.declared) (WalksOn ks es a.declared) (judged_declr places a w c d) (λ b. judged_declrs places b w c ds) (declr_is a w c d h (All-head IsRead d ds f))
        (λ b i. on b i (declrs_are b w c ds i.walks (All-tail IsRead d ds f)))
      where
        on : (b : Walked) → WalksOn ks es a.declared b → Gives (WalksOn ks es b.declared) (judged_declrs places b w c ds) → Gives (WalksOn ks es a.declared) (judged_declrs places b w c ds)
        on b i g = moved (judged_declrs places b w c ds) g
          where
            moved : (r : Judged Walked) → Gives (WalksOn ks es b.declared) r → Gives (WalksOn ks es a.declared) r
            moved (Ok c) g = walks_trans a.declared b.declared c i.grows i.file g
            moved (Err e) g = tt
