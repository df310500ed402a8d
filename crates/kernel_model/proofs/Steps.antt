-- Which rules are broken along the events of a family of paths, one part after another.
use Rattle.std.proofs.Common.{◌≡◌, List, [], ◌∷◌, ◌++◌, Option, Some, None, Bool, true, false, sym, subst, ◌⊎◌, inl, inr, ⊎_elim}
use Rattle.c_tree.specs.declared.lexer.tokens.Pos.{Pos}
use Rattle.kernel_model.specs.Obeys.{Mode, mode_at, Event, Assigned, after_event, assigned_after, PathIf, if_taken, taken_if, on_branch}
use Rattle.kernel_model.specs.Refusals.{Rule, argument_of, place_of, Breaks}
use Rattle.kernel_model.specs.Walk.{Breach, Covered, event_found}
use Rattle.kernel_model.proofs.Firsts.{IsFirst, first_iff}
use Rattle.kernel_model.proofs.Covers.{Covers, rules_first}

module _ (modes : List Mode) where
  -- the event breaks the rule where it stands
  abbrev pub BreaksThere : Assigned → Event → Rule → Pos → Type 0
  BreaksThere before e rule at = (place_of e ≡ at) × Breaks (mode_at modes (argument_of e)).access (mode_at modes (argument_of e)).dim before e rule

  -- one of the events does
  abbrev pub AnyBreaks : Assigned → List Event → Rule → Pos → Type 0
  AnyBreaks before [] rule at = ⊥
  AnyBreaks before (e ∷ es) rule at = BreaksThere before e rule at ⊎ AnyBreaks (after_event e before) es rule at

  any_front : (before : Assigned) (xs ys : List Event) (rule : Rule) (at : Pos) → AnyBreaks before xs rule at → AnyBreaks before (xs ++ ys) rule at
  any_front before [] ys rule at h = absurd h
  any_front before (x ∷ xs) ys rule at (inl h) = inl h
  any_front before (x ∷ xs) ys rule at (inr h) = inr (any_front (after_event x before) xs ys rule at h)

  pub any_back : (before : Assigned) (xs ys : List Event) (rule : Rule) (at : Pos) → AnyBreaks (assigned_after before xs) ys rule at → AnyBreaks before (xs ++ ys) rule at
  any_back before [] ys rule at h = h
  any_back before (x ∷ xs) ys rule at h = inr (any_back (after_event x before) xs ys rule at h)

  any_either : (before : Assigned) (xs ys : List Event) (rule : Rule) (at : Pos) → AnyBreaks before (xs ++ ys) rule at → AnyBreaks before xs rule at ⊎ AnyBreaks (assigned_after before xs) ys rule at
  any_either before [] ys rule at h = inr h
  any_either before (x ∷ xs) ys rule at (inl h) = inl (inl h)
  any_either before (x ∷ xs) ys rule at (inr h) = ⊎_elim (λ l. inl (inr l)) (λ r. inr r) (any_either (after_event x before) xs ys rule at h)

  -- an event does on some path
  abbrev pub SomeBreaks : {I W : Type 0} → (I → Assigned) → (W → List Event) → Rule → Pos → Type 0
  SomeBreaks {I} {W} f x rule at = (p : I) × (w : W) × AnyBreaks (f p) (x w) rule at

  -- a part of the walk finds what the events of a part of the paths break
  abbrev pub Step : {I W : Type 0} → (I → Assigned) → (W → List Event) → (Option Breach → Option Breach) → Type 1
  Step {I} {W} f x go = (found : Option Breach) (P : Rule → Pos → Type 0) → IsFirst found P → IsFirst (go found) (λ rule at. P rule at ⊎ SomeBreaks f x rule at)

  pub s_along : {I J V W : Type 0} → (f : I → Assigned) (x : V → List Event) (g : J → Assigned) (y : W → List Event)
      (go : Option Breach → Option Breach) → ((rule : Rule) (at : Pos) → SomeBreaks f x rule at → SomeBreaks g y rule at)
      → ((rule : Rule) (at : Pos) → SomeBreaks g y rule at → SomeBreaks f x rule at) → Step f x go → Step g y go
  s_along f x g y go to back s found P h =
      first_iff (go found) (λ rule at. P rule at ⊎ SomeBreaks f x rule at) (λ rule at. P rule at ⊎ SomeBreaks g y rule at)
      (λ rule at. ⊎_elim (λ p. inl p) (λ q. inr (to rule at q))) (λ rule at. ⊎_elim (λ p. inl p) (λ q. inr (back rule at q)))
      (s found P h)

  -- no event
  pub s_none : {I : Type 0} → (W : Type 0) (f : I → Assigned) → Step f (λ (w : W). []) (λ found. found)
  s_none W f found P h = first_iff found P (λ rule at. P rule at ⊎ SomeBreaks f (λ (w : W). []) rule at) (λ rule at p. inl p) (λ rule at q. ⊎_elim (λ p. p) (λ b. absurd b.2) q) h

  -- one part after another
  pub s_then : {I V W : Type 0} → W → (f : I → Assigned) (x : V → List Event) (y : W → List Event)
      (go then_go : Option Breach → Option Breach) → Step f x go → Step (λ (k : I × V). assigned_after (f k.0) (x k.1)) y then_go
      → Step f (λ (w : V × W). x w.0 ++ y w.1) (λ found. then_go (go found))
  s_then {I} {V} {W} w0 f x y go then_go s t found P h =
      first_iff (then_go (go found)) (λ rule at. (P rule at ⊎ SomeBreaks f x rule at)
      ⊎ SomeBreaks (λ (k : I × V). assigned_after (f k.0) (x k.1)) y rule at)
      (λ rule at. P rule at ⊎ SomeBreaks f (λ (w : V × W). x w.0 ++ y w.1) rule at) to back
      (t (go found) (λ rule at. P rule at ⊎ SomeBreaks f x rule at) (s found P h))
    where
      to : (rule : Rule) (at : Pos) → (P rule at ⊎ SomeBreaks f x rule at)
          ⊎ SomeBreaks (λ (k : I × V). assigned_after (f k.0) (x k.1)) y rule at → P rule at
          ⊎ SomeBreaks f (λ (w : V × W). x w.0 ++ y w.1) rule at
      to rule at (inl (inl p)) = inl p
      to rule at (inl (inr b)) = inr (b.0, (b.1, w0), any_front (f b.0) (x b.1) (y w0) rule at b.2)
      to rule at (inr b) = inr (b.0.0, (b.0.1, b.1), any_back (f b.0.0) (x b.0.1) (y b.1) rule at b.2)

      back : (rule : Rule) (at : Pos) → P rule at ⊎ SomeBreaks f (λ (w : V × W). x w.0 ++ y w.1) rule at
          → (P rule at ⊎ SomeBreaks f x rule at) ⊎ SomeBreaks (λ (k : I × V). assigned_after (f k.0) (x k.1)) y rule at
      back rule at (inl p) = inl (inl p)
      back rule at (inr b) = ⊎_elim (λ c. inl (inr (b.0, b.1.0, c))) (λ c. inr ((b.0, b.1.0), b.1.1, c)) (any_either (f b.0) (x b.1.0) (y b.1.1) rule at b.2)

  -- families with the same lists
  pub s_family : {I J W : Type 0} → (f : I → Assigned) (g : J → Assigned) (x : W → List Event) (go : Option Breach → Option Breach)
      → ((j : J) → (i : I) × (g j ≡ f i)) → ((i : I) → (j : J) × (g j ≡ f i)) → Step f x go → Step g x go
  s_family f g x go back forth s =
      s_along f x g x go
      (λ rule at b. ((forth b.0).0, b.1, subst (λ l. AnyBreaks l (x b.1) rule at) (sym (forth b.0).1) b.2))
      (λ rule at b. ((back b.0).0, b.1, subst (λ l. AnyBreaks l (x b.1) rule at) (back b.0).1 b.2)) s

  -- one part after another that assigns nothing
  pub s_keep : {I V W : Type 0} → V → W → (f : I → Assigned) (x : V → List Event) (y : W → List Event)
      (go then_go : Option Breach → Option Breach) → ((p : I) (v : V) → assigned_after (f p) (x v) ≡ f p) → Step f x go → Step f y then_go
      → Step f (λ (w : V × W). x w.0 ++ y w.1) (λ found. then_go (go found))
  s_keep v0 w0 f x y go then_go keeps s t =
      s_then w0 f x y go then_go s (s_family f (λ k. assigned_after (f k.0) (x k.1)) y then_go (λ k. (k.0, keeps k.0 k.1)) (λ p. ((p, v0), keeps p v0)) t)

  -- a part that may be skipped
  pub s_taken : {I W : Type 0} → (f : I → Assigned) (x : W → List Event) (go : Option Breach → Option Breach) → Step f x go → Step f (λ (o : Option W). if_taken x o) go
  s_taken {I} {W} f x go s = s_along f x f (λ o. if_taken x o) go (λ rule at b. (b.0, Some b.1, b.2)) (λ rule at b. back rule at b.0 b.1 b.2) s
    where
      back : (rule : Rule) (at : Pos) (p : I) (o : Option W) → AnyBreaks (f p) (if_taken x o) rule at → SomeBreaks f x rule at
      back rule at p None h = absurd h
      back rule at p (Some w) h = (p, w, h)

  -- a part that may or may not be skipped
  pub s_taken_if : {I W : Type 0} → (may_skip : Bool) (f : I → Assigned) (x : W → List Event) (go : Option Breach → Option Breach)
      → Step f x go → Step f (λ (o : PathIf may_skip W). taken_if may_skip x o) go
  s_taken_if true f x go s = s_taken f x go s
  s_taken_if false f x go s = s

  -- either branch of an if
  pub s_branch : {I V W : Type 0} → (f : I → Assigned) (x : V → List Event) (y : W → List Event)
      (go then_go : Option Breach → Option Breach) → Step f x go → Step f y then_go
      → Step f (λ (w : V ⊎ W). on_branch x y w) (λ found. then_go (go found))
  s_branch {I} {V} {W} f x y go then_go s t found P h =
      first_iff (then_go (go found)) (λ rule at. (P rule at ⊎ SomeBreaks f x rule at) ⊎ SomeBreaks f y rule at) (λ rule at. P rule at ⊎ SomeBreaks f (λ (w : V ⊎ W). on_branch x y w) rule at) to back
      (t (go found) (λ rule at. P rule at ⊎ SomeBreaks f x rule at) (s found P h))
    where
      to : (rule : Rule) (at : Pos) → (P rule at ⊎ SomeBreaks f x rule at) ⊎ SomeBreaks f y rule at → P rule at ⊎ SomeBreaks f (λ (w : V ⊎ W). on_branch x y w) rule at
      to rule at (inl (inl p)) = inl p
      to rule at (inl (inr b)) = inr (b.0, inl b.1, b.2)
      to rule at (inr b) = inr (b.0, inr b.1, b.2)

      pick : (rule : Rule) (at : Pos) (p : I) (w : V ⊎ W) → AnyBreaks (f p) (on_branch x y w) rule at → (P rule at ⊎ SomeBreaks f x rule at) ⊎ SomeBreaks f y rule at
      pick rule at p (inl v) b = inl (inr (p, v, b))
      pick rule at p (inr v) b = inr (p, v, b)

      back : (rule : Rule) (at : Pos) → P rule at ⊎ SomeBreaks f (λ (w : V ⊎ W). on_branch x y w) rule at → (P rule at ⊎ SomeBreaks f x rule at) ⊎ SomeBreaks f y rule at
      back rule at (inl p) = inl (inl p)
      back rule at (inr b) = pick rule at b.0 b.1 b.2

  -- one event
  pub s_event : {I : Type 0} → I → (c : Covered) (f : I → Assigned) → Covers c f → (e : Event) → Step f (λ (w : Unit {0}). e ∷ []) (λ found. event_found modes c e found)
  s_event {I} p0 c f cov e found P h =
      first_iff (event_found modes c e found) _ (λ rule at. P rule at ⊎ SomeBreaks f (λ (w : Unit {0}). e ∷ []) rule at)
      (λ rule at. ⊎_elim (λ p. inl p) (λ b. inr (b.0, tt, inl (b.1, b.2))))
      (λ rule at. ⊎_elim (λ p. inl p) (λ b. inr (back rule at b.0 b.2)))
      (rules_first p0 c f cov (mode_at modes (argument_of e)).access (mode_at modes (argument_of e)).dim e found P h)
    where
      back : (rule : Rule) (at : Pos) (p : I) → AnyBreaks (f p) (e ∷ []) rule at → (p : I) × (place_of e ≡ at)
          × Breaks (mode_at modes (argument_of e)).access (mode_at modes (argument_of e)).dim (f p) e rule
      back rule at p (inl h) = (p, h.0, h.1)
      back rule at p (inr h) = absurd h

  -- one event after events that assign nothing
  pub s_last : {I V : Type 0} → I → V → (c : Covered) (f : I → Assigned) (x : V → List Event) (go : Option Breach → Option Breach)
      → Covers c f → ((p : I) (v : V) → assigned_after (f p) (x v) ≡ f p) → Step f x go → (e : Event)
      → Step f (λ (v : V). x v ++ e ∷ []) (λ found. event_found modes c e (go found))
  s_last p0 v0 c f x go cov keeps s e =
      s_along f (λ w. x w.0 ++ e ∷ []) f (λ v. x v ++ e ∷ []) _ (λ rule at b. (b.0, b.1.0, b.2)) (λ rule at b. (b.0, (b.1, tt), b.2))
      (s_keep v0 tt f x (λ w. e ∷ []) go (λ found. event_found modes c e found) keeps s (s_event p0 c f cov e))
