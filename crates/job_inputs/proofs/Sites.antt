-- The kernels of a bound program's loops, and the modes of their arguments.
use Rattle.std.proofs.Common.{◌≡◌, ◌<◌, ◌≤◌, ◌+◌, ℕ, zero, suc, List, [], ◌∷◌, ◌++◌, map, length, get_or, take, drop, All, Contains, Some, Err, ◌⊎◌, refl, sym, ap, ◌∙◌, subst, arith}
use Rattle.std.proofs.Math.Seq.{drop-cons}
use Rattle.std.proofs.lemmas.List.{length-map, get_or-map, take-append-drop, take_all, map-append}
use Rattle.std.proofs.lemmas.List.Elements.{All-nil, All-cons}
use Rattle.kernel_model.specs.declared.types.kernels.RKernel.{RKernel}
use Rattle.kernel_model.specs.Resolved.{IsResolved}
use Rattle.kernel_model.specs.Obeys.{Mode, KernelObeys, mode_at}
use Rattle.kernel_model.specs.Refusals.{IsRefusal}
use Rattle.access_check.specs.declared.modes.Mode as code
use Rattle.access_check.specs.Modes.{model_of, AreSmall}
use Rattle.bound_program.specs.declared.sites.Arg.{Arg}
use Rattle.bound_program.specs.declared.sites.Arg.TheVariants.{Dat, Global}
use Rattle.bound_program.specs.declared.sites.Site.{Site}
use Rattle.bound_program.specs.Values.{BoundValue, SiteValue, site_of, no_site}
use Rattle.bound_program.specs.Fits.{Fits, SiteFits, ArgFits, TakesArgs}
use Rattle.run_model.specs.Kernels.{kernel_at}
use Rattle.run_model.specs.Arguments.{mode_of, modes_of, arg_width}
use Rattle.command_words.specs.Refusal as answer
use Rattle.answers.specs.Judgements.{AccessesAre, IsFirstSite, SiteObeys, SiteRefuses}
use Rattle.command_words.specs.declared.answer_lines.refusals.Halt.{Halt}
use Rattle.command_words.specs.Halts.{StopsWhere}
use Rattle.job_inputs.specs.declared.known_uses.ArgUse.{ArgUse}
use Rattle.job_inputs.specs.Inputs.{IsAccessRefusal}
use Rattle.job_inputs.specs.Known.{use_of, AreObeyed}
use Rattle.job_inputs.proofs.Known.{known_obeyed, noted_obeyed}
use Rattle.command_words.proofs.Public.{stops_weaker}

-- ---- the kernel of a loop

pub kernel_there : (xs : List RKernel) (k n : ℕ) → TakesArgs xs k n → k < length xs
kernel_there [] k n h = absurd h
kernel_there (x ∷ xs) zero n h = omega arith
kernel_there (x ∷ xs) (suc k) n h = let l = kernel_there xs k n h in omega (arith, l)

takes_all : (xs : List RKernel) (k n : ℕ) (f : RKernel) → TakesArgs xs k n → n ≡ (get_or xs k f).params
takes_all [] k n f h = absurd h
takes_all (x ∷ xs) zero n f h = sym h
takes_all (x ∷ xs) (suc k) n f h = takes_all xs k n f h

kernel_is : (xs : List RKernel) (k : ℕ) (f : RKernel) → k < length xs → kernel_at xs k ≡ Some (get_or xs k f)
kernel_is [] k f lt = absurd (omega (arith, lt))
kernel_is (x ∷ xs) zero f lt = refl
kernel_is (x ∷ xs) (suc k) f lt = kernel_is xs k f (omega (arith, lt))

module _ (b : BoundValue) (s : SiteValue) (fit : SiteFits b s) (f : RKernel) (is : f ≡ get_or b.kernels s.kernel f) where
  there : s.kernel < length b.kernels
  there = kernel_there b.kernels s.kernel (length s.args) fit.kernel

  found : kernel_at b.kernels s.kernel ≡ Some f
  found = kernel_is b.kernels s.kernel f there ∙ ap Some (sym is)

  pub resolved : Fits b → (consts : ℕ) × IsResolved consts f
  resolved fits = (_, subst (IsResolved _) (sym is) (fits.kernels s.kernel f there).resolved)

  pub takes : (ms : List code.Mode) → map model_of ms ≡ modes_of b s → length ms ≡ f.params
  takes ms same =
      sym (length-map ms model_of)
      ∙ ap (λ (l : List Mode). length l) same
      ∙ length-map s.args (mode_of b)
      ∙ takes_all b.kernels s.kernel (length s.args) f fit.kernel
      ∙ ap (λ (x : RKernel). x.params) (sym is)

  -- what is judged of this kernel is judged of the loop's
  pub obeys : (ms : List code.Mode) → map model_of ms ≡ modes_of b s → KernelObeys f (map model_of ms) → SiteObeys b s
  obeys ms same h k at =
      let one : Some f ≡ Some k = sym found ∙ at in
      let e : f ≡ k = cc in
      subst (λ x. KernelObeys x (modes_of b s)) e (subst (KernelObeys f) same h)

  pub refuses : (ms : List code.Mode) (h : Halt)
      → map model_of ms ≡ modes_of b s
      → StopsWhere (IsAccessRefusal (IsRefusal f (map model_of ms))) h
      → StopsWhere (IsAccessRefusal (SiteRefuses b s)) h
  refuses ms h same stopped =
      stops_weaker
      (IsAccessRefusal (IsRefusal f (map model_of ms)))
      (IsAccessRefusal (SiteRefuses b s))
      h
      (λ r x. let (rule, at, is_refusal, says) = x in (rule, at, (f, found, subst (λ l. IsRefusal f l rule at) same is_refusal), says))
      stopped

  -- its uses are obeyed where the kernel obeys
  pub noted : (ms : List code.Mode) (old new : List ArgUse)
      → map model_of ms ≡ modes_of b s
      → AreObeyed b.kernels old
      → ((u : ArgUse) → Contains new u → Contains old u ⊎ ((a : ℕ) × (u ≡ use_of s.kernel ms a)))
      → KernelObeys f (map model_of ms)
      → AreObeyed b.kernels new
  noted ms old new same all from h = noted_obeyed b.kernels s.kernel f found ms (takes ms same) old new all from h

-- a loop's kernel obeys where all its uses are known
pub known : (b : BoundValue) (s : SiteValue) (uses : List ArgUse) (ms : List code.Mode)
    → SiteFits b s
    → map model_of ms ≡ modes_of b s
    → AreObeyed b.kernels uses
    → ((a : ℕ) → a ≤ length ms → Contains uses (use_of s.kernel ms a))
    → SiteObeys b s
known b s uses ms fit same all each k at =
    let one : Some k ≡ Some (get_or b.kernels s.kernel k) =
    sym at ∙ kernel_is b.kernels s.kernel k (kernel_there b.kernels s.kernel (length s.args) fit.kernel) in
    let is : k ≡ get_or b.kernels s.kernel k = cc in
    subst (KernelObeys k) same (known_obeyed b.kernels s.kernel k at ms (takes b s fit k is ms same) uses all each)

-- ---- the modes of its arguments

width_small : (b : BoundValue) (set : ℕ) (x : Arg) → ArgFits b set x → arg_width b x ≤ 64
width_small b set (Dat d v a) h = h.1
width_small b set (Global v a) h = h.2

dims_small : (b : BoundValue) (set : ℕ) (xs : List Arg) → All (ArgFits b set) xs → (a : ℕ) → (mode_at (map (mode_of b) xs) a).dim ≤ 64
dims_small b set [] h a = omega arith
dims_small b set (x ∷ xs) h zero = width_small b set x (h 0 x (omega arith))
dims_small b set (x ∷ xs) h (suc a) = dims_small b set xs (λ k d lt. h (suc k) d (omega (arith, lt))) a

pub small : (b : BoundValue) (s : SiteValue) (ms : List code.Mode) → SiteFits b s → map model_of ms ≡ modes_of b s → AreSmall ms
small b s ms fit same =
    (few, λ a. subst (λ l. (mode_at l a).dim ≤ 64) (sym same) (dims_small b s.set s.args fit.args a))
  where
    long : length ms ≡ length s.args
    long = sym (length-map ms model_of) ∙ ap (λ (l : List Mode). length l) same ∙ length-map s.args (mode_of b)

    few : length ms ≤ 16
    few = omega (arith, long, fit.few)

-- an argument of the loop
pub arg_fits : (b : BoundValue) (s : SiteValue) (k : ℕ) (x : Arg) → SiteFits b s → k < length s.args → x ≡ get_or s.args k x → (set : ℕ) × ArgFits b set x
arg_fits b s k x fit lt is = (s.set, subst (ArgFits b s.set) (sym is) (fit.args k x lt))

-- ---- loops in order

module _ (b : BoundValue) (xs : List Site) (same : b.sites ≡ map site_of xs) (i : ℕ) (x : Site) (lt : i < length xs) (is : x ≡ get_or xs i x) where
  pub site_fits : Fits b → SiteFits b (site_of x)
  site_fits fits =
      subst (SiteFits b)
      (ap (λ l. get_or l i no_site) same ∙ get_or-map site_of xs i x no_site lt ∙ ap site_of (sym is))
      (fits.sites i no_site (omega (arith, ap (λ (l : List SiteValue). length l) same, length-map xs site_of, lt)))

  -- the first that doesn't obey
  pub first_refused : (h : Halt)
      → All (SiteObeys b) (map site_of (take i xs))
      → StopsWhere (IsAccessRefusal (SiteRefuses b (site_of x))) h
      → StopsWhere (λ r. AccessesAre b (Err r)) h
  first_refused h before stopped = stops_weaker (IsAccessRefusal (SiteRefuses b (site_of x))) (λ r. AccessesAre b (Err r)) h first stopped
    where
      rest : drop i xs ≡ x ∷ drop (suc i) xs
      rest = drop-cons xs i x lt ∙ ap (λ z. z ∷ drop (suc i) xs) (sym is)

      split : b.sites ≡ map site_of (take i xs) ++ site_of x ∷ map site_of (drop (suc i) xs)
      split =
          same
          ∙ ap (map site_of) (sym (take-append-drop i xs) ∙ ap (λ z. take i xs ++ z) rest)
          ∙ map-append site_of (take i xs) (x ∷ drop (suc i) xs)

      first : (r : answer.Refusal) → IsAccessRefusal (SiteRefuses b (site_of x)) r → IsFirstSite b r
      first r y = record {
        earlier = map site_of (take i xs);
        site = site_of x;
        later = map site_of (drop (suc i) xs);
        whole = split;
        before = before;
        rule = y.0;
        at = y.1;
        refuses = y.2;
        says = y.3;
      }

-- all before it obey, and so does it
all_next : {A B : Type 0} (P : B → Type 0) (f : A → B) (xs : List A) (i : ℕ) (x : A)
    → i < length xs
    → x ≡ get_or xs i x
    → All P (map f (take i xs))
    → P (f x)
    → All P (map f (take (suc i) xs))
all_next P f [] i x lt is h p = absurd (omega (arith, lt))
all_next P f (y ∷ ys) zero x lt is h p = All-cons P (f y) [] (subst (λ z. P (f z)) is p) (All-nil P)
all_next P f (y ∷ ys) (suc i) x lt is h p =
    All-cons P (f y) (map f (take (suc i) ys)) (h 0 (f y) (omega arith))
    (all_next P f ys i x (omega (arith, lt)) is (λ k d l. h (suc k) d (omega (arith, l))) p)

pub obey_next : (b : BoundValue) (xs : List Site) (i : ℕ) (x : Site)
    → i < length xs
    → x ≡ get_or xs i x
    → All (SiteObeys b) (map site_of (take i xs))
    → SiteObeys b (site_of x)
    → All (SiteObeys b) (map site_of (take (i + 1) xs))
obey_next b xs i x lt is h p =
    let next : suc i ≡ i + 1 = omega arith in
    subst (λ n. All (SiteObeys b) (map site_of (take n xs))) next (all_next (SiteObeys b) site_of xs i x lt is h p)

-- all obey, where none is left
pub all_obey : (b : BoundValue) (xs : List Site) (i : ℕ) → length xs ≤ i → All (SiteObeys b) (map site_of (take i xs)) → All (SiteObeys b) (map site_of xs)
all_obey b xs i none h = subst (λ l. All (SiteObeys b) (map site_of l)) (take_all i xs none) h
