-- The loops' kernels, by what the walk over each finds.
use Rattle.std.proofs.Common.{◌≡◌, zero, suc, List, [], ◌∷◌, ◌++◌, All, Option, Some, None, Result, Ok, Err, refl, sym, ◌∙◌, subst, arith, append_assoc, append-nil}
use Rattle.c_tree.specs.declared.lexer.tokens.Pos.{Pos}
use Rattle.kernel_model.specs.declared.types.kernels.RKernel.{RKernel}
use Rattle.kernel_model.specs.Obeys.{Mode, KernelObeys}
use Rattle.kernel_model.specs.Refusals.{Rule, number_of, IsRefusal, ObeysUnlessBroken, OneRefusal}
use Rattle.kernel_model.specs.Walk.{Breach, walk, IsFound, WalkFinds}
use Rattle.bound_program.specs.Values.{BoundValue, SiteValue}
use Rattle.run_model.specs.Kernels.{kernel_at}
use Rattle.run_model.specs.Arguments.{modes_of}
use Rattle.command_words.specs.Refusal.{Refusal, BadAccess}
use Rattle.answers.specs.Judgements.{SiteObeys, SiteRefuses, AccessesAre}

-- ---- lists

pub all_none : {X : Type 0} (P : X → Type 0) → All P []
all_none P k d lt = absurd (omega (arith, lt))

pub all_first : {X : Type 0} (P : X → Type 0) (x : X) (xs : List X) → All P (x ∷ xs) → P x
all_first P x xs h = h 0 x (omega arith)

pub all_rest : {X : Type 0} (P : X → Type 0) (x : X) (xs : List X) → All P (x ∷ xs) → All P xs
all_rest P x xs h k d lt = h (suc k) d (omega (arith, lt))

pub all_more : {X : Type 0} (P : X → Type 0) (x : X) (xs : List X) → P x → All P xs → All P (x ∷ xs)
all_more P x xs p h zero d lt = p
all_more P x xs p h (suc k) d lt = h k d (omega (arith, lt))

pub all_end : {X : Type 0} (P : X → Type 0) (xs : List X) (y : X) → All P xs → P y → All P (xs ++ y ∷ [])
all_end P [] y h p = all_more P y [] p (all_none P)
all_end P (x ∷ xs) y h p = all_more P x (xs ++ y ∷ []) (all_first P x xs h) (all_end P xs y (all_rest P x xs h) p)

-- the first that is there
abbrev pub or_first : Option Breach → Option Breach → Option Breach
or_first None o = o
or_first (Some b) o = Some b

-- the first that is found in a list
abbrev pub first_found : (SiteValue → Option Breach) → List SiteValue → Option Breach
first_found f [] = None
first_found f (x ∷ xs) = or_first (f x) (first_found f xs)

pub same_found : (f g : SiteValue → Option Breach) → ((x : SiteValue) → f x ≡ g x) → (xs : List SiteValue) → first_found f xs ≡ first_found g xs
same_found f g e [] = refl
same_found f g e (x ∷ xs) = rw (e x, same_found f g e xs) refl

none_found : (f : SiteValue → Option Breach) (P : SiteValue → Type 0) → ((x : SiteValue) → P x → f x ≡ None) → (xs : List SiteValue) → All P xs → first_found f xs ≡ None
none_found f P e [] h = refl
none_found f P e (x ∷ xs) h = rw (e x (all_first P x xs h)) (none_found f P e xs (all_rest P x xs h))

some_found : (f : SiteValue → Option Breach) (P : SiteValue → Type 0) → ((x : SiteValue) → P x → f x ≡ None)
    → (xs ys : List SiteValue) (y : SiteValue) (b : Breach) → All P xs → f y ≡ Some b → first_found f (xs ++ y ∷ ys) ≡ Some b
some_found f P e [] ys y b h is = rw is refl
some_found f P e (x ∷ xs) ys y b h is = rw (e x (all_first P x xs h)) (some_found f P e xs ys y b (all_rest P x xs h) is)

-- ---- one loop

-- what the walk finds in a kernel that may be missing
abbrev pub found_by : Option RKernel → List Mode → Option Breach
found_by None modes = None
found_by (Some k) modes = walk k modes

-- what it finds in the kernel of a loop
abbrev pub site_found : BoundValue → SiteValue → Option Breach
site_found b site = found_by (kernel_at b.kernels site.kernel) (modes_of b site)

abbrev breach : Rule → Pos → Breach
breach rule at = record { rule = rule; at = at }

module _ (walk_finds : WalkFinds) (obeys : ObeysUnlessBroken) (one : OneRefusal) where
  -- a kernel that obeys is one in which the walk finds nothing
  found_none : (k : RKernel) (modes : List Mode) → KernelObeys k modes → walk k modes ≡ None
  found_none k modes h = by_walk (walk k modes) (walk_finds k modes)
    where
      by_walk : (o : Option Breach) → IsFound o k modes → o ≡ None
      by_walk None f = refl
      by_walk (Some b) f = absurd ((obeys k modes).0 h b.rule b.at f.breaks)

  -- a kernel that is refused is one in which it finds the refusal
  found_some : (k : RKernel) (modes : List Mode) (rule : Rule) (at : Pos) → IsRefusal k modes rule at → walk k modes ≡ Some (breach rule at)
  found_some k modes rule at h = by_walk (walk k modes) (walk_finds k modes)
    where
      by_walk : (o : Option Breach) → IsFound o k modes → o ≡ Some (breach rule at)
      by_walk None f = absurd ((obeys k modes).0 f rule at h.breaks)
      by_walk (Some b) f = let e = one k modes b.rule rule b.at at f h in rw (← e.0, ← e.1) refl

  site_none : (b : BoundValue) (site : SiteValue) → SiteObeys b site → site_found b site ≡ None
  site_none b site h = by_kernel (kernel_at b.kernels site.kernel) refl
    where
      by_kernel : (o : Option RKernel) → kernel_at b.kernels site.kernel ≡ o → found_by o (modes_of b site) ≡ None
      by_kernel None is = refl
      by_kernel (Some k) is = found_none k (modes_of b site) (h k is)

  site_some : (b : BoundValue) (site : SiteValue) (rule : Rule) (at : Pos) → SiteRefuses b site rule at → site_found b site ≡ Some (breach rule at)
  site_some b site rule at h = rw h.1 (found_some h.0 (modes_of b site) rule at h.2)

  -- ---- all loops

  pub accesses_none : (b : BoundValue) (u : Unit {0}) → AccessesAre b (Ok u) → first_found (site_found b) b.sites ≡ None
  accesses_none b u h = none_found (site_found b) (SiteObeys b) (site_none b) b.sites h

  pub accesses_some : (b : BoundValue) (r : Refusal) → AccessesAre b (Err r) → (f : Breach) × (first_found (site_found b) b.sites ≡ Some f) × (r ≡ BadAccess (number_of f.rule) f.at)
  accesses_some b r h = (
    breach h.rule h.at,
    rw h.whole (some_found (site_found b) (SiteObeys b) (site_none b) h.earlier h.later h.site (breach h.rule h.at) h.before (site_some b h.site h.rule h.at h.refuses)),
    h.says,
  )

  -- ---- the first loop that is refused is there, or all are accepted

  site_obeys : (b : BoundValue) (site : SiteValue) → site_found b site ≡ None → SiteObeys b site
  site_obeys b site none k is = subst (λ o. IsFound o k (modes_of b site))
      (let e : found_by (kernel_at b.kernels site.kernel) (modes_of b site) ≡ None = none in rw is at e) (walk_finds k (modes_of b site))

  site_refuses : (b : BoundValue) (site : SiteValue) (f : Breach) → site_found b site ≡ Some f → SiteRefuses b site f.rule f.at
  site_refuses b site f found = by_kernel (kernel_at b.kernels site.kernel) refl
    where
      by_kernel : (o : Option RKernel) → kernel_at b.kernels site.kernel ≡ o → SiteRefuses b site f.rule f.at
      by_kernel None is = absurd (let e : found_by (kernel_at b.kernels site.kernel) (modes_of b site) ≡ Some f = found in let e' : None ≡ Some f = rw is at e in let bad : ⊥ = cc in bad)
      by_kernel (Some k) is = (
        k,
        is,
        subst (λ o. IsFound o k (modes_of b site))
            (let e : found_by (kernel_at b.kernels site.kernel) (modes_of b site) ≡ Some f = found in rw is at e)
            (walk_finds k (modes_of b site)),
      )

  -- among the loops that follow those that are accepted
  accesses_from : (b : BoundValue) (front rest : List SiteValue) → b.sites ≡ front ++ rest → All (SiteObeys b) front → ¬ ((r : Result (Unit {0}) Refusal) → ¬ AccessesAre b r)
  accesses_from b front [] whole h none = none (Ok tt) (rw (whole ∙ append-nil front) h)
  accesses_from b front (x ∷ xs) whole h none = by_found (site_found b x) refl
      (λ obeys_x. accesses_from b (front ++ x ∷ []) xs (whole ∙ sym (append_assoc front (x ∷ []) xs))
      (all_end (SiteObeys b) front x h obeys_x) none)
    where
      by_found : (o : Option Breach) → site_found b x ≡ o → (SiteObeys b x → ⊥) → ⊥
      by_found None is on = on (site_obeys b x is)
      by_found (Some f) is on = none (Err (BadAccess (number_of f.rule) f.at))
          (record {
            earlier = front;
            site = x;
            later = xs;
            whole = whole;
            before = h;
            rule = f.rule;
            at = f.at;
            refuses =
                site_refuses b x f is;
            says = refl;
          })

  pub accesses_exist : (b : BoundValue) → ¬ ((r : Result (Unit {0}) Refusal) → ¬ AccessesAre b r)
  accesses_exist b = accesses_from b [] b.sites refl (all_none (SiteObeys b))
