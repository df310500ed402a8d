-- Plans that loops share, with one more.
use Rattle.std.proofs.Common.{◌≡◌, ◌<◌, ◌∙◌, ℕ, zero, suc, true, false, cond, List, [], ◌∷◌, ◌++◌, refl, sym, ap, ap₂, subst, ⊎_elim, arith, length, get_or, map, nat_eq, Option, Some, None}
use Rattle.std.specs.Prelude.{IfSome}
use Rattle.std.proofs.lemmas.Bool.{cases_Bool}
use Rattle.std.specs.Map.{lookup}
use Rattle.std.specs.Option.{option_map}
use Rattle.std.proofs.lemmas.List.{get_or_append_left, get_or_push, get_or-map, length-map, map-append}
use Rattle.std.proofs.lemmas.List.Elements.{All-append}
use Rattle.std.proofs.lemmas.Map.Made.{lookup-map_values}
use Rattle.loop_plan.specs.declared.types.SitePlan.{SitePlan}
use Rattle.loop_plan.specs.SharedPlans.{SitePlanValue, SharedValue, site_plan_of, no_site_plan, plan_at, entry_at, entries_of, AreSlots}

-- the slots are among more plans too
pub slots_wider : (n m : ℕ) (es : List (ℕ × ℕ)) → n < m → AreSlots n es → AreSlots m es
slots_wider n m es l a k d lk = let h = a k d lk in omega arith

-- and one more slot
pub slots_more : (n : ℕ) (es : List (ℕ × ℕ)) (site slot : ℕ) → slot < n → AreSlots n es → AreSlots n (es ++ (site, slot) ∷ [])
slots_more n es site slot l a = All-append (λ e. e.1 < n) es ((site, slot) ∷ []) a one
  where
    one : AreSlots n ((site, slot) ∷ [])
    one zero d lk = l
    one (suc k) d lk = absurd (omega arith)

-- one loop more
pub entries_shared : (plans : List SitePlanValue) (es : List (ℕ × ℕ)) (site slot : ℕ)
    → map (entry_at plans) (es ++ (site, slot) ∷ []) ≡ map (entry_at plans) es ++ (site, plan_at plans slot) ∷ []
entries_shared plans es site slot = map-append (entry_at plans) es ((site, slot) ∷ [])

-- plans behind the others change no loop's
pub entries_kept : (plans more : List SitePlanValue) (es : List (ℕ × ℕ)) → AreSlots (length plans) es
    → map (entry_at (plans ++ more)) es ≡ map (entry_at plans) es
entries_kept plans more [] a = refl
entries_kept plans more (e ∷ es) a =
    let h : e.1 < length plans = a zero e (omega arith) in
    ap (λ z. (e.0, z) ∷ map (entry_at (plans ++ more)) es) (get_or_append_left plans more no_site_plan e.1 h)
    ∙ ap (λ z. entry_at plans e ∷ z) (entries_kept plans more es (λ k d l. a (suc k) d (omega arith)))

-- one loop more, with a plan of its own
pub entries_added : (plans : List SitePlanValue) (p : SitePlanValue) (es : List (ℕ × ℕ)) (site : ℕ) → AreSlots (length plans) es
    → map (entry_at (plans ++ p ∷ [])) (es ++ (site, length plans) ∷ []) ≡ map (entry_at plans) es ++ (site, p) ∷ []
entries_added plans p es site a =
    entries_shared (plans ++ p ∷ []) es site (length plans)
    ∙ (ap (λ z. z ++ (site, plan_at (plans ++ p ∷ []) (length plans)) ∷ []) (entries_kept plans (p ∷ []) es a)
    ∙ ap (λ z. map (entry_at plans) es ++ (site, z) ∷ []) (get_or_push plans p no_site_plan (length plans) refl))

-- the entries after one more, where the map of slots has it
pub shared_now : (ps : List SitePlan) (es now : List (ℕ × ℕ)) (v : SharedValue) (site slot : ℕ)
    → record { plans = map site_plan_of ps; slots = es } ≡ v
    → now ≡ es ++ (site, slot) ∷ []
    → entries_of (record { plans = map site_plan_of ps; slots = now }) ≡ entries_of v ++ (site, plan_at v.plans slot) ∷ []
shared_now ps es now v site slot is e =
    ap (map (entry_at (map site_plan_of ps))) e
    ∙ (entries_shared (map site_plan_of ps) es site slot
    ∙ ap (λ z. entries_of z ++ (site, plan_at z.plans slot) ∷ []) is)

-- and where it has a plan of its own
pub added_now : (ps more : List SitePlan) (p : SitePlan) (es now : List (ℕ × ℕ)) (v : SharedValue) (site slot : ℕ)
    → record { plans = map site_plan_of ps; slots = es } ≡ v
    → more ≡ ps ++ p ∷ []
    → slot ≡ length ps
    → now ≡ es ++ (site, slot) ∷ []
    → AreSlots (length ps) es
    → entries_of (record { plans = map site_plan_of more; slots = now }) ≡ entries_of v ++ (site, site_plan_of p) ∷ []
added_now ps more p es now v site slot is m s e a =
    let plans : map site_plan_of more ≡ map site_plan_of ps ++ site_plan_of p ∷ [] = ap (map site_plan_of) m ∙ map-append site_plan_of ps (p ∷ []) in
    let many : length (map site_plan_of ps) ≡ length ps = length-map ps site_plan_of in
    ap₂ (λ xs zs. map (entry_at xs) zs) plans (e ∙ ap (λ n. es ++ (site, n) ∷ []) (s ∙ sym many))
    ∙ (entries_added (map site_plan_of ps) (site_plan_of p) es site (subst (λ n. AreSlots n es) (sym many) a)
    ∙ ap (λ z. entries_of z ++ (site, site_plan_of p) ∷ []) is)

-- the slot of a loop that has one
pub slot_within : (n : ℕ) (es : List (ℕ × ℕ)) (site : ℕ) (o : Option ℕ) → o ≡ lookup (nat_eq site) es → AreSlots n es → IfSome o (λ k. k < n)
slot_within n es site o e a = subst (λ z. IfSome z (λ k. k < n)) (sym e) (among es a)
  where
    among : (es : List (ℕ × ℕ)) → AreSlots n es → IfSome (lookup (nat_eq site) es) (λ k. k < n)
    among [] a = tt
    among (x ∷ es) a = ⊎_elim
        (λ (t : nat_eq site x.0 ≡ true). subst (λ b. IfSome (cond b (Some x.1) (lookup (nat_eq site) es)) (λ k. k < n)) (sym t) (a zero x (omega arith)))
        (λ (t : nat_eq site x.0 ≡ false). subst (λ b. IfSome (cond b (Some x.1) (lookup (nat_eq site) es)) (λ k. k < n)) (sym t)
        (among es (λ k d l. a (suc k) d (omega arith))))
        (cases_Bool (nat_eq site x.0))

-- ---- reading

module _ (ps : List SitePlan) (es : List (ℕ × ℕ)) (v : SharedValue) (is : record { plans = map site_plan_of ps; slots = es } ≡ v) (site : ℕ) where
  found : lookup (nat_eq site) (entries_of v) ≡ option_map (plan_at (map site_plan_of ps)) (lookup (nat_eq site) es)
  found = ap (λ z. lookup (nat_eq site) (entries_of z)) (sym is) ∙ lookup-map_values (plan_at (map site_plan_of ps)) (nat_eq site) es

  -- the plan of the loop's slot is the loop's
  pub found_plan : (slot : ℕ) (x : SitePlan) → Some slot ≡ lookup (nat_eq site) es → slot < length ps → x ≡ get_or ps slot x
      → Some (site_plan_of x) ≡ lookup (nat_eq site) (entries_of v)
  found_plan slot x h l e =
      ap (λ z. Some (site_plan_of z)) e ∙ ap Some (sym (get_or-map site_plan_of ps slot x no_site_plan l))
      ∙ ap (option_map (plan_at (map site_plan_of ps))) h ∙ sym found

  pub found_none : None ≡ lookup (nat_eq site) es → None ≡ lookup (nat_eq site) (entries_of v)
  found_none h = ap (option_map (plan_at (map site_plan_of ps))) h ∙ sym found

  -- a loop without a plan has no slot
  pub no_slot : lookup (nat_eq site) (entries_of v) ≡ None → lookup (nat_eq site) es ≡ None
  no_slot h = none (lookup (nat_eq site) es) (sym found ∙ h)
    where
      none : (o : Option ℕ) → option_map (plan_at (map site_plan_of ps)) o ≡ None → o ≡ None
      none None e = refl
      none (Some k) e = cc
