-- What every path has assigned, and which rules an event breaks on some path.
use Rattle.std.proofs.Common.{◌≡◌, ℕ, ℤ, pos, negsuc, ◌<◌, ◌≤◌, [], ◌∷◌, Option, Some, None, Bool, true, false, ◌&&◌, ◌||◌, refl, sym, subst, ◌⊎◌, inl, inr, ⊎_elim, arith}
use Rattle.std.specs.Prelude.{nat_lt, nat_eq}
use Rattle.std.specs.Bool.{Decides}
use Rattle.std.proofs.lemmas.Bool.{eqb-true, eq-eqb, cases_lt}
use Rattle.std.proofs.lemmas.Bool.Decides.{Decides-ltb}
use Rattle.c_tree.specs.declared.lexer.tokens.Pos.{Pos}
use Rattle.op_num.specs.Reduction.{Reduction, Add, Min, Max}
use Rattle.op_num.specs.Access.{Access, OpRead, OpWrite, OpRw, OpReduce}
use Rattle.kernel_model.specs.Obeys.{Event, Assigned, HasAssigned, with_assigned}
use Rattle.kernel_model.specs.Refusals.{Rule, WritesRead, ReadsInc, IncNotSum, ReadsUnwritten, NotAllWritten, WriteIndexNotStatic, LiteralIndexOut, MinMaxForm, argument_of, index_of, place_of, is_target, is_sum, is_extremum, is_read, opposite, IsOut, IsUnwritten, Breaks}
use Rattle.kernel_model.specs.Walk.{Breach, Covered, none_covered, with_covered, both_covered, is_op_read, is_op_write, is_op_reduce, is_op_inc, is_op_extremum, is_unknown, is_out, is_unwritten, breaks, with_rule, with_rules}
use Rattle.kernel_model.proofs.Firsts.{d_iff, d_and, d_three, d_true, d_false, d_fails, d_some, IsFirst, first_iff, OrIf, noted_if_first}
use Rattle.lemmas.proofs.Truth.{decides_itself}

-- ---- what every path has assigned

-- all of a family have it, or one of them hasn't
abbrev pub All_or : {I : Type 0} → Bool → (I → Type 0) → Type 0
All_or {I} true H = (p : I) → H p
All_or {I} false H = (p : I) × (H p → ⊥)

-- the paths so far, each with what it has assigned
abbrev pub Covers : {I : Type 0} → Covered → (I → Assigned) → Type 0
Covers {I} c f = (a i : ℕ) → All_or (c a i) (λ p. HasAssigned (f p) a i)

pub all_or_along : {I J : Type 0} → (b : Bool) (H : I → Type 0) (K : J → Type 0) → ((j : J) → (i : I) × (H i → K j)) → ((i : I) → (j : J) × (K j → H i)) → All_or b H → All_or b K
all_or_along true H K back forth h = λ j. (back j).1 (h (back j).0)
all_or_along false H K back forth h = ((forth h.0).0, λ k. h.1 ((forth h.0).1 k))

-- families with the same lists cover the same
pub covers_along : {I J : Type 0} → (c : Covered) (f : I → Assigned) (g : J → Assigned) → ((j : J) → (i : I) × (g j ≡ f i)) → ((i : I) → (j : J) × (g j ≡ f i)) → Covers c f → Covers c g
covers_along c f g back forth cov a i =
    all_or_along (c a i) (λ p. HasAssigned (f p) a i) (λ p. HasAssigned (g p) a i)
    (λ j. ((back j).0, λ h. subst (λ l. HasAssigned l a i) (sym (back j).1) h))
    (λ k. ((forth k).0, λ h. subst (λ l. HasAssigned l a i) (forth k).1 h)) (cov a i)

pub covers_none : Covers none_covered (λ (p : Unit {0}). [])
covers_none a i = (tt, λ h. h)

-- some path hasn't assigned the component
pub some_lacks : {I : Type 0} → (b : Bool) (H : I → Type 0) → All_or b H → Decides (opposite b) ((p : I) × (H p → ⊥))
some_lacks true H h = d_false (λ k. k.1 (h k.0))
some_lacks false H h = d_true h

-- one more assigned component
pub covers_with : {I : Type 0} → I → (c : Covered) (f : I → Assigned) → Covers c f → (a : ℕ) (ix : Option ℤ) → Covers (with_covered a ix c) (λ p. with_assigned a ix (f p))
covers_with p0 c f cov a None b j = cov b j
covers_with p0 c f cov a (Some (negsuc n)) b j = cov b j
covers_with {I} p0 c f cov a (Some (pos n)) b j = pick (nat_eq a b) (nat_eq n j) refl refl
  where
    other : ((((a ≡ b) × (n ≡ j)) → ⊥)) → All_or (c b j) (λ (p : I). HasAssigned ((a, n) ∷ f p) b j)
    other never = all_or_along (c b j) (λ p. HasAssigned (f p) b j) (λ p. HasAssigned ((a, n) ∷ f p) b j) (λ p. (p, λ h. inr h)) (λ p. (p, λ h. ⊎_elim (λ q. absurd (never q)) (λ q. q) h)) (cov b j)

    pick : (x y : Bool) → nat_eq a b ≡ x → nat_eq n j ≡ y → All_or ((x && y) || c b j) (λ (p : I). HasAssigned ((a, n) ∷ f p) b j)
    pick true true e g = λ p. inl (eqb-true a b e, eqb-true n j g)
    pick true false e g = other (λ q. let k = eq-eqb n j q.1 in let z : ⊥ = cc in z)
    pick false y e g = other (λ q. let k = eq-eqb a b q.0 in let z : ⊥ = cc in z)

-- the families of both branches of an if, as one
pub covers_both : {I J K : Type 0} → (c d : Covered) (f : I → Assigned) (g : J → Assigned) (h : K → Assigned)
    → ((i : I) → (k : K) × (h k ≡ f i)) → ((j : J) → (k : K) × (h k ≡ g j)) → ((k : K) → ((i : I) × (h k ≡ f i)) ⊎ ((j : J) × (h k ≡ g j)))
    → Covers c f → Covers d g → Covers (both_covered c d) h
covers_both {I} {J} {K} c d f g h left right either x y a i = pick (c a i) (d a i) (x a i) (y a i)
  where
    pick : (r s : Bool) → All_or r (λ p. HasAssigned (f p) a i) → All_or s (λ p. HasAssigned (g p) a i) → All_or (r && s) (λ p. HasAssigned (h p) a i)
    pick true true u v = λ k. ⊎_elim (λ q. subst (λ l. HasAssigned l a i) (sym q.1) (u q.0)) (λ q. subst (λ l. HasAssigned l a i) (sym q.1) (v q.0)) (either k)
    pick true false u v = ((right v.0).0, λ k. v.1 (subst (λ l. HasAssigned l a i) (right v.0).1 k))
    pick false s u v = ((left u.0).0, λ k. u.1 (subst (λ l. HasAssigned l a i) (left u.0).1 k))

-- ---- accesses

d_op_read : (acc : Access) → Decides (is_op_read acc) (acc ≡ OpRead)
d_op_read OpRead = d_true refl
d_op_read OpWrite = d_false (λ e. cc)
d_op_read OpRw = d_false (λ e. cc)
d_op_read (OpReduce r) = d_false (λ e. cc)

pub d_op_write : (acc : Access) → Decides (is_op_write acc) (acc ≡ OpWrite)
d_op_write OpRead = d_false (λ e. cc)
d_op_write OpWrite = d_true refl
d_op_write OpRw = d_false (λ e. cc)
d_op_write (OpReduce r) = d_false (λ e. cc)

d_op_reduce : (acc : Access) → Decides (is_op_reduce acc) ((r : Reduction) × (acc ≡ OpReduce r))
d_op_reduce OpRead = d_false (λ e. let f = e.1 in cc)
d_op_reduce OpWrite = d_false (λ e. let f = e.1 in cc)
d_op_reduce OpRw = d_false (λ e. let f = e.1 in cc)
d_op_reduce (OpReduce r) = d_true (r, refl)

d_op_inc : (acc : Access) → Decides (is_op_inc acc) (acc ≡ OpReduce Add)
d_op_inc OpRead = d_false (λ e. cc)
d_op_inc OpWrite = d_false (λ e. cc)
d_op_inc OpRw = d_false (λ e. cc)
d_op_inc (OpReduce Add) = d_true refl
d_op_inc (OpReduce Min) = d_false (λ e. cc)
d_op_inc (OpReduce Max) = d_false (λ e. cc)

neither : (acc : Access) → (acc ≡ OpReduce Min → ⊥) → (acc ≡ OpReduce Max → ⊥) → Decides false ((acc ≡ OpReduce Min) ⊎ (acc ≡ OpReduce Max))
neither acc f g = d_false (λ h. ⊎_elim f g h)

d_op_extremum : (acc : Access) → Decides (is_op_extremum acc) ((acc ≡ OpReduce Min) ⊎ (acc ≡ OpReduce Max))
d_op_extremum OpRead = neither OpRead (λ e. cc) (λ e. cc)
d_op_extremum OpWrite = neither OpWrite (λ e. cc) (λ e. cc)
d_op_extremum OpRw = neither OpRw (λ e. cc) (λ e. cc)
d_op_extremum (OpReduce Add) = neither (OpReduce Add) (λ e. cc) (λ e. cc)
d_op_extremum (OpReduce Min) = d_true (inl refl)
d_op_extremum (OpReduce Max) = d_true (inr refl)

-- ---- indices

d_unknown : (ix : Option ℤ) → Decides (is_unknown ix) (ix ≡ None)
d_unknown None = d_true refl
d_unknown (Some z) = d_false (λ e. cc)

d_out : (dim : ℕ) (ix : Option ℤ) → Decides (is_out dim ix) (IsOut dim ix)
d_out dim None = d_false (λ h. h)
d_out dim (Some (negsuc i)) = d_true tt
d_out dim (Some (pos i)) = pick (nat_lt i dim) (Decides-ltb i dim)
  where
    pick : (r : Bool) → Decides r (i < dim) → Decides (opposite r) (dim ≤ i)
    pick true d = d_false (λ h. let k = d.0 refl in omega (arith, h, k))
    pick false d = d_true (⊎_elim (λ l. absurd (let k = d.1 l in let f : ⊥ = cc in f)) (λ l. l) (cases_lt i dim))

d_unwritten : {I : Type 0} → (c : Covered) (f : I → Assigned) → Covers c f → (dim a : ℕ) (ix : Option ℤ) → Decides (is_unwritten dim (c a) ix) ((p : I) × IsUnwritten dim a ix (f p))
d_unwritten c f cov dim a None = d_false (λ h. h.1)
d_unwritten c f cov dim a (Some (negsuc i)) = d_false (λ h. h.1)
d_unwritten c f cov dim a (Some (pos i)) =
    d_iff _ (λ h. (h.1.0, (h.0, h.1.1))) (λ h. (h.1.0, (h.0, h.1.1))) (d_and _ _ (Decides-ltb i dim) (some_lacks (c a i) (λ p. HasAssigned (f p) a i) (cov a i)))

-- ---- one event

module _ {I : Type 0} (p0 : I) (c : Covered) (f : I → Assigned) (cov : Covers c f) (acc : Access) (dim : ℕ) (e : Event) where
  d_breaks : (rule : Rule) → Decides (breaks c acc dim e rule) ((p : I) × Breaks acc dim (f p) e rule)
  d_breaks WritesRead = d_some _ p0 (d_and _ _ (d_op_read acc) (decides_itself (is_target e)))
  d_breaks ReadsInc = d_some _ p0 (d_and _ _ (d_op_reduce acc) (decides_itself (is_read acc e)))
  d_breaks IncNotSum = d_some _ p0 (d_three _ _ _ (d_op_inc acc) (decides_itself (is_target e)) (d_fails (is_sum e)))
  d_breaks ReadsUnwritten =
      d_iff _ (λ h. (h.1.1.0, (h.0, h.1.0, h.1.1.1))) (λ h. (h.1.0, (h.1.1, (h.0, h.1.2))))
      (d_and _ _ (d_op_write acc) (d_and _ _ (decides_itself (is_read acc e)) (d_unwritten c f cov dim (argument_of e) (index_of e))))
  d_breaks NotAllWritten = d_false (λ h. h.1)
  d_breaks WriteIndexNotStatic = d_some _ p0 (d_and _ _ (d_op_write acc) (d_unknown (index_of e)))
  d_breaks LiteralIndexOut = d_some _ p0 (d_out dim (index_of e))
  d_breaks MinMaxForm = d_some _ p0 (d_three _ _ _ (d_op_extremum acc) (decides_itself (is_target e)) (d_fails (is_extremum acc e)))

  -- a rule that the event breaks on some path
  abbrev pub EventBreach : Rule → Pos → Type 0
  EventBreach rule at = (p : I) × (place_of e ≡ at) × Breaks acc dim (f p) e rule

  abbrev With : (Rule → Pos → Type 0) → Rule → Rule → Pos → Type 0
  With P rule = OrIf P ((p : I) × Breaks acc dim (f p) e rule) rule (place_of e)

  one_rule : (rule : Rule) (found : Option Breach) (P : Rule → Pos → Type 0) → IsFirst found P → IsFirst (with_rule c acc dim e rule found) (With P rule)
  one_rule rule found P h = noted_if_first (breaks c acc dim e rule) ((p : I) × Breaks acc dim (f p) e rule) rule (place_of e) found P (d_breaks rule) h

  abbrev All_rules : (Rule → Pos → Type 0) → Rule → Pos → Type 0
  All_rules P = With (With (With (With (With (With (With P WritesRead) ReadsInc) IncNotSum) ReadsUnwritten) WriteIndexNotStatic) LiteralIndexOut) MinMaxForm

  this_rule : (P : Rule → Pos → Type 0) (rule other : Rule) (there : Pos) → (rule ≡ other) × ((place_of e ≡ there) × ((p : I) × Breaks acc dim (f p) e rule)) → P other there ⊎ EventBreach other there
  this_rule P rule other there q = inr (q.1.1.0, q.1.0, subst (λ r. Breaks acc dim (f q.1.1.0) e r) q.0 q.1.1.1)

  gather : (P : Rule → Pos → Type 0) (other : Rule) (there : Pos) → All_rules P other there → P other there ⊎ EventBreach other there
  gather P other there (inr q) = this_rule P MinMaxForm other there q
  gather P other there (inl (inr q)) = this_rule P LiteralIndexOut other there q
  gather P other there (inl (inl (inr q))) = this_rule P WriteIndexNotStatic other there q
  gather P other there (inl (inl (inl (inr q)))) = this_rule P ReadsUnwritten other there q
  gather P other there (inl (inl (inl (inl (inr q))))) = this_rule P IncNotSum other there q
  gather P other there (inl (inl (inl (inl (inl (inr q)))))) = this_rule P ReadsInc other there q
  gather P other there (inl (inl (inl (inl (inl (inl (inr q))))))) = this_rule P WritesRead other there q
  gather P other there (inl (inl (inl (inl (inl (inl (inl h))))))) = inl h

  scatter : (P : Rule → Pos → Type 0) (other : Rule) (there : Pos) → P other there ⊎ EventBreach other there → All_rules P other there
  scatter P other there (inl h) = inl (inl (inl (inl (inl (inl (inl h))))))
  scatter P WritesRead there (inr q) = inl (inl (inl (inl (inl (inl (inr (refl, (q.1, (q.0, q.2)))))))))
  scatter P ReadsInc there (inr q) = inl (inl (inl (inl (inl (inr (refl, (q.1, (q.0, q.2))))))))
  scatter P IncNotSum there (inr q) = inl (inl (inl (inl (inr (refl, (q.1, (q.0, q.2)))))))
  scatter P ReadsUnwritten there (inr q) = inl (inl (inl (inr (refl, (q.1, (q.0, q.2))))))
  scatter P NotAllWritten there (inr q) = absurd q.2
  scatter P WriteIndexNotStatic there (inr q) = inl (inl (inr (refl, (q.1, (q.0, q.2)))))
  scatter P LiteralIndexOut there (inr q) = inl (inr (refl, (q.1, (q.0, q.2))))
  scatter P MinMaxForm there (inr q) = inr (refl, (q.1, (q.0, q.2)))

  pub rules_first : (found : Option Breach) (P : Rule → Pos → Type 0) → IsFirst found P → IsFirst (with_rules c acc dim e found) (λ rule at. P rule at ⊎ EventBreach rule at)
  rules_first found P h =
      first_iff (with_rules c acc dim e found) (All_rules P) (λ rule at. P rule at ⊎ EventBreach rule at) (gather P) (scatter P)
      (one_rule MinMaxForm _ _ (one_rule LiteralIndexOut _ _
      (one_rule WriteIndexNotStatic _ _
      (one_rule ReadsUnwritten _ _ (one_rule IncNotSum _ _ (one_rule ReadsInc _ _ (one_rule WritesRead found P h)))))))
