-- Plans of loops, one more.
use Rattle.std.proofs.Common.{◌≡◌, ◌<◌, ◌≤◌, ◌+◌, ℕ, Bool, true, false, cond, refl, sym, ap, subst, ◌∙◌, arith, ⊎_elim, List, [], ◌∷◌, ◌++◌, Vec, length, get_or, map}
use Rattle.std.specs.Prelude.{◌||◌, nat_eq, Some, None}
use Rattle.std.specs.declared.alloc.Global.{Global}
use Rattle.std.specs.Map.{lookup}
use Rattle.std.specs.List.{list_any}
use Rattle.std.proofs.lemmas.Bool.{cases_eq, cases_Bool, eq-eqb, ne_eqb, false≢true, true≢false}
use Rattle.std.proofs.lemmas.List.{get_or_push, get_or_append_left, append-nil, map-append}
use Rattle.std.proofs.lemmas.List.Elements.{All-get_or}
use Rattle.lemmas.specs.Below.{listed}
use Rattle.lemmas.proofs.Below.{listed_more}
use Rattle.mesh_decl.specs.Mesh.{MeshValue, set_count}
use Rattle.local_mesh.specs.declared.types.LocalSet.{LocalSet}
use Rattle.local_mesh.specs.declared.types.RankMesh.{RankMesh}
use Rattle.local_mesh.specs.LocalMesh.{executed_in}
use Rattle.colouring.specs.declared.types.IncArg.{IncArg}
use Rattle.colouring.specs.declared.types.Colours.{Colours}
use Rattle.colouring.specs.Colours.{AreArgs, AreColours}
use Rattle.bound_program.specs.Values.{BoundValue, no_site}
use Rattle.bound_program.specs.Classes.{scatters}
use Rattle.bound_program.specs.Fits.{site_at, SiteFits, Fits}
use Rattle.loop_plan.specs.Values.{SitePlanValue, or_none}
use Rattle.loop_plan.specs.Pairs.{sets_of, own_in}
use Rattle.loop_plan.specs.Places.{reducing, places_of, runs_free}
use Rattle.loop_plan.specs.SitePlans.{ArePlansOf}
use Rattle.loop_plan.proofs.Numbers.{not_listed}
use Rattle.loop_plan.proofs.SetReads.{own_within}
use Rattle.loop_plan.proofs.Running.{reducing_are}

-- what holds of each element of a list, with one more
pub one_each : {X : Type 0} (xs : List X) (x : X) (n : ℕ) (P : ℕ → X → Type 0)
    → length xs ≡ n
    → P n x
    → ((r : ℕ) (d : X) → r < n → P r (get_or xs r d))
    → (r : ℕ) (d : X) → r < n + 1 → P r (get_or (xs ++ x ∷ []) r d)
one_each {X} xs x n P e h before r d l = ⊎_elim
    (λ (q : r ≡ n). subst (λ z. P z (get_or (xs ++ x ∷ []) z d)) (sym q) (subst (P n) (sym (get_or_push xs x d n e)) h))
    (λ (ne : r ≡ n → ⊥). subst (P r) (sym (get_or_append_left xs (x ∷ []) d r (omega arith))) (before r d (omega arith)))
    (cases_eq r n)

-- colours of what is the same
pub colours_moved : (g : MeshValue) (maps maps' : List (Vec ℕ Global)) (args args' : List IncArg) (places places' size : ℕ) (c : Colours)
    → maps ≡ maps' → args ≡ args' → places ≡ places'
    → AreColours g maps args places size c
    → AreColours g maps' args' places' size c
colours_moved g maps maps' args args' places places' size c e f h a =
    subst (λ z. AreColours g maps' args' z size c) h
    (subst (λ z. AreColours g maps' z places size c) f (subst (λ z. AreColours g z args places size c) e a))

module _ (b : BoundValue) (meshes : List RankMesh) where
  site_fits : Fits b → (s : ℕ) → s < length b.sites → SiteFits b (site_at b s)
  site_fits f s l = All-get_or (SiteFits b) b.sites s no_site l f.sites

  pub set_fits : Fits b → (s : ℕ) → s < length b.sites → (site_at b s).set < set_count b.mesh
  set_fits f s l = (site_fits f s l).set

  places_within : (s r : ℕ) (t : Bool)
      → cond t (executed_in (sets_of meshes r) (site_at b s).set) (own_in (sets_of meshes r) (site_at b s).set)
      ≤ executed_in (sets_of meshes r) (site_at b s).set
  places_within s r true = omega arith
  places_within s r false = own_within (sets_of meshes r) (site_at b s).set

  -- the arguments of a loop that merge amounts can be coloured
  pub args_are : Fits b → (s r : ℕ) (sets : List LocalSet) (places : ℕ) (args : List IncArg)
      → s < length b.sites
      → sets ≡ sets_of meshes r
      → places ≡ places_of meshes (site_at b s) r
      → args ≡ reducing (site_at b s).args
      → AreArgs b.mesh sets places args
  args_are f s r sets places args l e h q =
      subst (λ z. AreArgs b.mesh sets places z) (sym q)
      (subst (λ z. AreArgs b.mesh sets z (reducing (site_at b s).args)) (sym h)
      (subst (λ z. AreArgs b.mesh z (places_of meshes (site_at b s) r) (reducing (site_at b s).args)) (sym e)
      (record {
        set = (site_at b s).set;
        each = reducing_are b (site_at b s).set (site_at b s).args (site_fits f s l).args;
        executed = λ some. places_within s r (scatters (site_at b s).args);
      })))

-- ---- entries

lookup_other : {X : Type 0} (test : ℕ → Bool) (es : List (ℕ × X)) (e : ℕ × X) → test e.0 ≡ false → lookup test (es ++ e ∷ []) ≡ lookup test es
lookup_other test [] e h = ap (λ z. cond z (Some e.1) None) h
lookup_other test (d ∷ es) e h = ap (λ z. cond (test d.0) (Some d.1) z) (lookup_other test es e h)

lookup_new : {X : Type 0} (test : ℕ → Bool) (es : List (ℕ × X)) (e : ℕ × X)
    → list_any test (map (λ x. x.0) es) ≡ false
    → test e.0 ≡ true
    → lookup test (es ++ e ∷ []) ≡ Some e.1
lookup_new test [] e n h = ap (λ z. cond z (Some e.1) None) h
lookup_new test (d ∷ es) e n h = ⊎_elim
    (λ (t : test d.0 ≡ true). absurd (true≢false (sym (ap (λ z. z || list_any test (map (λ x. x.0) es)) t) ∙ n)))
    (λ (t : test d.0 ≡ false).
    ap (λ z. cond z (Some d.1) (lookup test (es ++ e ∷ []))) t
    ∙ lookup_new test es e (sym (ap (λ z. z || list_any test (map (λ x. x.0) es)) t) ∙ n) h)
    (cases_Bool (test d.0))

lookup_none : (test : ℕ → Bool) (es : List (ℕ × SitePlanValue)) → list_any test (map (λ x. x.0) es) ≡ false → lookup test es ≡ None
lookup_none test [] h = refl
lookup_none test (d ∷ es) h = ⊎_elim
    (λ (t : test d.0 ≡ true). absurd (true≢false (sym (ap (λ z. z || list_any test (map (λ x. x.0) es)) t) ∙ h)))
    (λ (t : test d.0 ≡ false).
    ap (λ z. cond z (Some d.1) (lookup test es)) t
    ∙ lookup_none test es (sym (ap (λ z. z || list_any test (map (λ x. x.0) es)) t) ∙ h))
    (cases_Bool (test d.0))

module _ (b : BoundValue) (IsPlan : ℕ → SitePlanValue → Type 0) (n : ℕ) where
  no_key : (es : List (ℕ × SitePlanValue)) → ArePlansOf b IsPlan n es → list_any (nat_eq n) (map (λ x. x.0) es) ≡ false
  no_key es a = ap (list_any (nat_eq n)) a.keys ∙ not_listed n n (runs_free b) (omega arith)

  -- loop n has no plan yet
  pub no_plan : (es : List (ℕ × SitePlanValue)) → ArePlansOf b IsPlan n es → lookup (nat_eq n) es ≡ None
  no_plan es a = lookup_none (nat_eq n) es (no_key es a)

  -- loop n doesn't run as a Free one
  pub plans_kept : (es : List (ℕ × SitePlanValue)) → runs_free b n ≡ false → ArePlansOf b IsPlan n es → ArePlansOf b IsPlan (n + 1) es
  plans_kept es idle a = record {
    keys = a.keys ∙ (sym (append-nil (listed n (runs_free b))) ∙ (sym (ap (λ z. listed n (runs_free b) ++ cond z (n ∷ []) []) idle) ∙ sym (listed_more n (runs_free b))));
    plans = λ s l r. a.plans s (below s l r) r;
  }
    where
      below : (s : ℕ) → s < n + 1 → runs_free b s ≡ true → s < n
      below s l r = ⊎_elim
          (λ (e : s ≡ n). absurd (false≢true (sym (ap (runs_free b) e ∙ idle) ∙ r)))
          (λ (ne : s ≡ n → ⊥). omega arith)
          (cases_eq s n)

  -- its plan goes last
  pub plans_added : (es now : List (ℕ × SitePlanValue)) (p : SitePlanValue)
      → runs_free b n ≡ true
      → IsPlan n p
      → now ≡ es ++ (n, p) ∷ []
      → ArePlansOf b IsPlan n es
      → ArePlansOf b IsPlan (n + 1) now
  plans_added es now p runs is e a = subst (ArePlansOf b IsPlan (n + 1)) (sym e) (record { keys = keys; plans = plans })
    where
      keys : map (λ x. x.0) (es ++ (n, p) ∷ []) ≡ listed (n + 1) (runs_free b)
      keys =
          map-append (λ (x : ℕ × SitePlanValue). x.0) es ((n, p) ∷ [])
          ∙ (ap (λ (z : List ℕ). z ++ n ∷ []) a.keys
          ∙ (sym (ap (λ z. listed n (runs_free b) ++ cond z (n ∷ []) []) runs) ∙ sym (listed_more n (runs_free b))))

      here : lookup (nat_eq n) (es ++ (n, p) ∷ []) ≡ Some p
      here = lookup_new (nat_eq n) es (n, p) (no_key es a) (eq-eqb n n refl)

      plans : (s : ℕ) → s < n + 1 → runs_free b s ≡ true → IsPlan s (or_none (lookup (nat_eq s) (es ++ (n, p) ∷ [])))
      plans s l r = ⊎_elim
          (λ (q : s ≡ n). subst (λ z. IsPlan z (or_none (lookup (nat_eq z) (es ++ (n, p) ∷ [])))) (sym q)
          (subst (λ z. IsPlan n (or_none z)) (sym here) is))
          (λ (ne : s ≡ n → ⊥). subst (λ z. IsPlan s (or_none z)) (sym (lookup_other (nat_eq s) es (n, p) (ne_eqb s n ne)))
          (a.plans s (omega arith) r))
          (cases_eq s n)
