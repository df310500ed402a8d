-- An event is allowed, or breaks a rule.
use Rattle.std.proofs.Common.{◌≡◌, ℕ, ℤ, pos, negsuc, ◌<◌, ◌≤◌, [], ◌∷◌, Option, Some, None, Bool, true, false, refl, sym, ◌∙◌, subst, ◌⊎◌, inl, inr, ⊎_elim, arith}
use Rattle.std.specs.Prelude.{nat_eq}
use Rattle.std.proofs.lemmas.Bool.{eqb-true, eq-eqb, cases_lt}
use Rattle.c_tree.specs.declared.expressions.MinMax.TheVariants as min_max
use Rattle.op_num.specs.Reduction.{Reduction, Add, Min, Max}
use Rattle.op_num.specs.Access.{Access, OpRead, OpWrite, OpRw, OpReduce}
use Rattle.kernel_model.specs.Obeys.{Event, Reads, Assigns, Adds, Changes, Owns, Merges, Assigned, HasAssigned, InDim, IsComponent, MayRead, MayAssign, MayChange, MayAdd, MayOwn, MayMerge}
use Rattle.kernel_model.specs.Refusals.{Rule, WritesRead, ReadsInc, IncNotSum, ReadsUnwritten, NotAllWritten, WriteIndexNotStatic, LiteralIndexOut, MinMaxForm, IsOut, IsUnwritten, argument_of, index_of, is_target, is_sum, is_extremum, is_read, Breaks}

-- what is allowed under one access
abbrev pub Fits : Access → ℕ → Assigned → Event → Type 0
Fits acc dim before (Reads a ix at) = MayRead acc dim a ix before
Fits acc dim before (Assigns a ix at) = MayAssign acc dim a ix before
Fits acc dim before (Adds a ix at) = MayAdd acc dim a ix before
Fits acc dim before (Changes a ix at) = MayChange acc dim a ix before
Fits acc dim before (Owns which a ix at) = MayOwn which acc dim a ix before
Fits acc dim before (Merges which a ix at) = MayMerge which acc dim a ix before

-- ---- indices

both_never : (dim : ℕ) (ix : Option ℤ) → InDim dim ix → IsOut dim ix → ⊥
both_never dim None h k = k
both_never dim (Some (pos i)) h k = omega arith
both_never dim (Some (negsuc i)) h k = h

component_in : (dim : ℕ) (ix : Option ℤ) (P : ℕ → Type 0) → IsComponent dim ix P → InDim dim ix
component_in dim None P h = absurd h
component_in dim (Some (pos i)) P h = h.0
component_in dim (Some (negsuc i)) P h = h

component_static : (dim : ℕ) (ix : Option ℤ) (P : ℕ → Type 0) → IsComponent dim ix P → ix ≡ None → ⊥
component_static dim None P h e = h
component_static dim (Some z) P h e = let f : ⊥ = cc in f

component_written : (dim a : ℕ) (ix : Option ℤ) (before : Assigned) → IsComponent dim ix (λ i. HasAssigned before a i) → IsUnwritten dim a ix before → ⊥
component_written dim a None before h k = h
component_written dim a (Some (pos i)) before h k = k.1 h.1
component_written dim a (Some (negsuc i)) before h k = h

pub has_assigned : (before : Assigned) (a i : ℕ) → HasAssigned before a i ⊎ (HasAssigned before a i → ⊥)
has_assigned [] a i = inr (λ h. h)
has_assigned (c ∷ cs) a i = pick (nat_eq c.0 a) (nat_eq c.1 i) refl refl (has_assigned cs a i)
  where
    pick : (s t : Bool) → nat_eq c.0 a ≡ s → nat_eq c.1 i ≡ t → HasAssigned cs a i ⊎ (HasAssigned cs a i → ⊥) → HasAssigned (c ∷ cs) a i ⊎ (HasAssigned (c ∷ cs) a i → ⊥)
    pick s t e f (inl h) = inl (inr h)
    pick true true e f (inr n) = inl (inl (eqb-true c.0 a e, eqb-true c.1 i f))
    pick false t e f (inr n) = inr (λ h. ⊎_elim (λ p. let k : true ≡ false = sym (eq-eqb c.0 a p.0) ∙ e in let g : ⊥ = cc in g) n h)
    pick true false e f (inr n) = inr (λ h. ⊎_elim (λ p. let k : true ≡ false = sym (eq-eqb c.1 i p.1) ∙ f in let g : ⊥ = cc in g) n h)

in_or_out : (dim : ℕ) (ix : Option ℤ) → InDim dim ix ⊎ IsOut dim ix
in_or_out dim None = inl tt
in_or_out dim (Some (pos i)) = cases_lt i dim
in_or_out dim (Some (negsuc i)) = inr tt

-- a component of an OP_WRITE argument, or the rule that its index breaks
abbrev BadIndex : ℕ → Option ℤ → Type 0
BadIndex dim ix = (ix ≡ None) ⊎ IsOut dim ix

component_or : (dim : ℕ) (ix : Option ℤ) → IsComponent dim ix (λ i. Unit {0}) ⊎ BadIndex dim ix
component_or dim None = inr (inl refl)
component_or dim (Some (pos i)) = ⊎_elim (λ h. inl (h, tt)) (λ h. inr (inr h)) (cases_lt i dim)
component_or dim (Some (negsuc i)) = inr (inr tt)

written_or : (dim a : ℕ) (ix : Option ℤ) (before : Assigned) → IsComponent dim ix (λ i. HasAssigned before a i) ⊎ (BadIndex dim ix ⊎ IsUnwritten dim a ix before)
written_or dim a None before = inr (inl (inl refl))
written_or dim a (Some (negsuc i)) before = inr (inl (inr tt))
written_or dim a (Some (pos i)) before = pick (cases_lt i dim) (has_assigned before a i)
  where
    pick : (i < dim) ⊎ (dim ≤ i) → HasAssigned before a i ⊎ (HasAssigned before a i → ⊥) → ((i < dim) × HasAssigned before a i)
        ⊎ (BadIndex dim (Some (pos i)) ⊎ ((i < dim) × (HasAssigned before a i → ⊥)))
    pick (inr h) d = inr (inl (inr h))
    pick (inl h) (inl k) = inl (h, k)
    pick (inl h) (inr n) = inr (inr (h, n))

-- ---- what is allowed breaks no rule

never : {A : Type 0} → false ≡ true → A
never t = absurd (let f : ⊥ = cc in f)

never' : {A : Type 0} → true ≡ false → A
never' t = absurd (let f : ⊥ = cc in f)

read_in : (acc : Access) (dim a : ℕ) (ix : Option ℤ) (before : Assigned) → MayRead acc dim a ix before → InDim dim ix
read_in OpRead dim a ix before h = h
read_in OpRw dim a ix before h = h
read_in OpWrite dim a ix before h = component_in dim ix (λ i. HasAssigned before a i) h
read_in (OpReduce r) dim a ix before h = absurd h

assign_in : (acc : Access) (dim a : ℕ) (ix : Option ℤ) (before : Assigned) → MayAssign acc dim a ix before → InDim dim ix
assign_in OpRead dim a ix before h = absurd h
assign_in OpRw dim a ix before h = h
assign_in OpWrite dim a ix before h = component_in dim ix (λ i. Unit {0}) h
assign_in (OpReduce r) dim a ix before h = absurd h

change_in : (acc : Access) (dim a : ℕ) (ix : Option ℤ) (before : Assigned) → MayChange acc dim a ix before → InDim dim ix
change_in OpRead dim a ix before h = absurd h
change_in OpRw dim a ix before h = h
change_in OpWrite dim a ix before h = component_in dim ix (λ i. HasAssigned before a i) h
change_in (OpReduce r) dim a ix before h = absurd h

fits_in : (acc : Access) (dim : ℕ) (before : Assigned) (e : Event) → Fits acc dim before e → InDim dim (index_of e)
fits_in acc dim before (Reads a ix at) h = read_in acc dim a ix before h
fits_in acc dim before (Assigns a ix at) h = assign_in acc dim a ix before h
fits_in acc dim before (Changes a ix at) h = change_in acc dim a ix before h
fits_in (OpReduce Add) dim before (Adds a ix at) h = h
fits_in (OpReduce Min) dim before (Adds a ix at) h = absurd h
fits_in (OpReduce Max) dim before (Adds a ix at) h = absurd h
fits_in OpRead dim before (Adds a ix at) h = absurd h
fits_in OpRw dim before (Adds a ix at) h = h
fits_in OpWrite dim before (Adds a ix at) h = change_in OpWrite dim a ix before h
fits_in (OpReduce Min) dim before (Owns min_max.Min a ix at) h = h
fits_in (OpReduce Max) dim before (Owns min_max.Max a ix at) h = h
fits_in (OpReduce Add) dim before (Owns min_max.Min a ix at) h = absurd h
fits_in (OpReduce Add) dim before (Owns min_max.Max a ix at) h = absurd h
fits_in (OpReduce Max) dim before (Owns min_max.Min a ix at) h = absurd h
fits_in (OpReduce Min) dim before (Owns min_max.Max a ix at) h = absurd h
fits_in OpRead dim before (Owns min_max.Min a ix at) h = h
fits_in OpRead dim before (Owns min_max.Max a ix at) h = h
fits_in OpRw dim before (Owns min_max.Min a ix at) h = h
fits_in OpRw dim before (Owns min_max.Max a ix at) h = h
fits_in OpWrite dim before (Owns min_max.Min a ix at) h = read_in OpWrite dim a ix before h
fits_in OpWrite dim before (Owns min_max.Max a ix at) h = read_in OpWrite dim a ix before h
fits_in (OpReduce Min) dim before (Merges min_max.Min a ix at) h = h
fits_in (OpReduce Max) dim before (Merges min_max.Max a ix at) h = h
fits_in (OpReduce Add) dim before (Merges min_max.Min a ix at) h = absurd h
fits_in (OpReduce Add) dim before (Merges min_max.Max a ix at) h = absurd h
fits_in (OpReduce Max) dim before (Merges min_max.Min a ix at) h = absurd h
fits_in (OpReduce Min) dim before (Merges min_max.Max a ix at) h = absurd h
fits_in OpRead dim before (Merges min_max.Min a ix at) h = absurd h
fits_in OpRead dim before (Merges min_max.Max a ix at) h = absurd h
fits_in OpRw dim before (Merges min_max.Min a ix at) h = h
fits_in OpRw dim before (Merges min_max.Max a ix at) h = h
fits_in OpWrite dim before (Merges min_max.Min a ix at) h = assign_in OpWrite dim a ix before h
fits_in OpWrite dim before (Merges min_max.Max a ix at) h = assign_in OpWrite dim a ix before h

no_target_read : (dim : ℕ) (before : Assigned) (e : Event) → Fits OpRead dim before e → is_target e ≡ true → ⊥
no_target_read dim before (Reads a ix at) h t = never t
no_target_read dim before (Assigns a ix at) h t = h
no_target_read dim before (Adds a ix at) h t = h
no_target_read dim before (Changes a ix at) h t = h
no_target_read dim before (Owns which a ix at) h t = never t
no_target_read dim before (Merges min_max.Min a ix at) h t = h
no_target_read dim before (Merges min_max.Max a ix at) h t = h

no_reduced_read : (r : Reduction) (dim : ℕ) (before : Assigned) (e : Event) → Fits (OpReduce r) dim before e → is_read (OpReduce r) e ≡ true → ⊥
no_reduced_read r dim before (Reads a ix at) h t = h
no_reduced_read r dim before (Assigns a ix at) h t = h
no_reduced_read Add dim before (Adds a ix at) h t = never t
no_reduced_read Min dim before (Adds a ix at) h t = h
no_reduced_read Max dim before (Adds a ix at) h t = h
no_reduced_read r dim before (Changes a ix at) h t = h
no_reduced_read Add dim before (Owns min_max.Min a ix at) h t = h
no_reduced_read Add dim before (Owns min_max.Max a ix at) h t = h
no_reduced_read Min dim before (Owns min_max.Min a ix at) h t = never t
no_reduced_read Min dim before (Owns min_max.Max a ix at) h t = h
no_reduced_read Max dim before (Owns min_max.Min a ix at) h t = h
no_reduced_read Max dim before (Owns min_max.Max a ix at) h t = never t
no_reduced_read r dim before (Merges which a ix at) h t = never t

only_sums : (dim : ℕ) (before : Assigned) (e : Event) → Fits (OpReduce Add) dim before e → is_target e ≡ true → is_sum e ≡ false → ⊥
only_sums dim before (Reads a ix at) h t s = h
only_sums dim before (Assigns a ix at) h t s = h
only_sums dim before (Adds a ix at) h t s = never' s
only_sums dim before (Changes a ix at) h t s = h
only_sums dim before (Owns which a ix at) h t s = never t
only_sums dim before (Merges min_max.Min a ix at) h t s = h
only_sums dim before (Merges min_max.Max a ix at) h t s = h

only_written : (dim : ℕ) (before : Assigned) (e : Event) → Fits OpWrite dim before e → is_read OpWrite e ≡ true → IsUnwritten dim (argument_of e) (index_of e) before → ⊥
only_written dim before (Reads a ix at) h t u = component_written dim a ix before h u
only_written dim before (Assigns a ix at) h t u = never t
only_written dim before (Adds a ix at) h t u = component_written dim a ix before h u
only_written dim before (Changes a ix at) h t u = component_written dim a ix before h u
only_written dim before (Owns min_max.Min a ix at) h t u = component_written dim a ix before h u
only_written dim before (Owns min_max.Max a ix at) h t u = component_written dim a ix before h u
only_written dim before (Merges which a ix at) h t u = never t

only_static : (dim : ℕ) (before : Assigned) (e : Event) → Fits OpWrite dim before e → index_of e ≡ None → ⊥
only_static dim before (Reads a ix at) h n = component_static dim ix (λ i. HasAssigned before a i) h n
only_static dim before (Assigns a ix at) h n = component_static dim ix (λ i. Unit {0}) h n
only_static dim before (Adds a ix at) h n = component_static dim ix (λ i. HasAssigned before a i) h n
only_static dim before (Changes a ix at) h n = component_static dim ix (λ i. HasAssigned before a i) h n
only_static dim before (Owns min_max.Min a ix at) h n = component_static dim ix (λ i. HasAssigned before a i) h n
only_static dim before (Owns min_max.Max a ix at) h n = component_static dim ix (λ i. HasAssigned before a i) h n
only_static dim before (Merges min_max.Min a ix at) h n = component_static dim ix (λ i. Unit {0}) h n
only_static dim before (Merges min_max.Max a ix at) h n = component_static dim ix (λ i. Unit {0}) h n

only_minima : (dim : ℕ) (before : Assigned) (e : Event) → Fits (OpReduce Min) dim before e → is_target e ≡ true → is_extremum (OpReduce Min) e ≡ false → ⊥
only_minima dim before (Reads a ix at) h t s = h
only_minima dim before (Assigns a ix at) h t s = h
only_minima dim before (Adds a ix at) h t s = h
only_minima dim before (Changes a ix at) h t s = h
only_minima dim before (Owns which a ix at) h t s = never t
only_minima dim before (Merges min_max.Min a ix at) h t s = never' s
only_minima dim before (Merges min_max.Max a ix at) h t s = h

only_maxima : (dim : ℕ) (before : Assigned) (e : Event) → Fits (OpReduce Max) dim before e → is_target e ≡ true → is_extremum (OpReduce Max) e ≡ false → ⊥
only_maxima dim before (Reads a ix at) h t s = h
only_maxima dim before (Assigns a ix at) h t s = h
only_maxima dim before (Adds a ix at) h t s = h
only_maxima dim before (Changes a ix at) h t s = h
only_maxima dim before (Owns which a ix at) h t s = never t
only_maxima dim before (Merges min_max.Min a ix at) h t s = h
only_maxima dim before (Merges min_max.Max a ix at) h t s = never' s

pub breaks_none : (acc : Access) (dim : ℕ) (before : Assigned) (e : Event) (rule : Rule) → Fits acc dim before e → Breaks acc dim before e rule → ⊥
breaks_none acc dim before e WritesRead h b = no_target_read dim before e (subst (λ x. Fits x dim before e) b.0 h) b.1
breaks_none acc dim before e ReadsInc h b =
    no_reduced_read b.0.0 dim before e (subst (λ x. Fits x dim before e) b.0.1 h) (subst (λ x. is_read x e ≡ true) b.0.1 b.1)
breaks_none acc dim before e IncNotSum h b = only_sums dim before e (subst (λ x. Fits x dim before e) b.0 h) b.1 b.2
breaks_none acc dim before e ReadsUnwritten h b = only_written dim before e (subst (λ x. Fits x dim before e) b.0 h) (subst (λ x. is_read x e ≡ true) b.0 b.1) b.2
breaks_none acc dim before e NotAllWritten h b = b
breaks_none acc dim before e WriteIndexNotStatic h b = only_static dim before e (subst (λ x. Fits x dim before e) b.0 h) b.1
breaks_none acc dim before e LiteralIndexOut h b = both_never dim (index_of e) (fits_in acc dim before e h) b
breaks_none acc dim before e MinMaxForm h b =
    ⊎_elim (λ m. only_minima dim before e (subst (λ x. Fits x dim before e) m h) b.1 (subst (λ x. is_extremum x e ≡ false) m b.2))
    (λ m. only_maxima dim before e (subst (λ x. Fits x dim before e) m h) b.1 (subst (λ x. is_extremum x e ≡ false) m b.2)) b.0

-- ---- what isn't allowed breaks a rule

abbrev FitsOr : Access → ℕ → Assigned → Event → Type 0
FitsOr acc dim before e = Fits acc dim before e ⊎ ((rule : Rule) × Breaks acc dim before e rule)

in_dim : (acc : Access) (dim : ℕ) (before : Assigned) (e : Event) → (InDim dim (index_of e) → Fits acc dim before e) → FitsOr acc dim before e
in_dim acc dim before e f = ⊎_elim (λ h. inl (f h)) (λ o. inr (LiteralIndexOut, o)) (in_or_out dim (index_of e))

bad_index : (dim : ℕ) (before : Assigned) (e : Event) → BadIndex dim (index_of e) → (rule : Rule) × Breaks OpWrite dim before e rule
bad_index dim before e b = ⊎_elim (λ n. (WriteIndexNotStatic, (refl, n))) (λ o. (LiteralIndexOut, o)) b

written : (dim : ℕ) (before : Assigned) (e : Event) → is_read OpWrite e ≡ true
    → (IsComponent dim (index_of e) (λ i. HasAssigned before (argument_of e) i) → Fits OpWrite dim before e) → FitsOr OpWrite dim before e
written dim before e r f =
    ⊎_elim (λ h. inl (f h)) (λ k. inr (⊎_elim (bad_index dim before e) (λ u. (ReadsUnwritten, (refl, r, u))) k)) (written_or dim (argument_of e) (index_of e) before)

component : (dim : ℕ) (before : Assigned) (e : Event) → (IsComponent dim (index_of e) (λ i. Unit {0}) → Fits OpWrite dim before e) → FitsOr OpWrite dim before e
component dim before e f = ⊎_elim (λ h. inl (f h)) (λ b. inr (bad_index dim before e b)) (component_or dim (index_of e))

pub fits_or : (acc : Access) (dim : ℕ) (before : Assigned) (e : Event) → FitsOr acc dim before e
fits_or OpRead dim before (Reads a ix at) = in_dim OpRead dim before (Reads a ix at) (λ h. h)
fits_or OpRead dim before (Assigns a ix at) = inr (WritesRead, (refl, refl))
fits_or OpRead dim before (Adds a ix at) = inr (WritesRead, (refl, refl))
fits_or OpRead dim before (Changes a ix at) = inr (WritesRead, (refl, refl))
fits_or OpRead dim before (Owns min_max.Min a ix at) = in_dim OpRead dim before (Owns min_max.Min a ix at) (λ h. h)
fits_or OpRead dim before (Owns min_max.Max a ix at) = in_dim OpRead dim before (Owns min_max.Max a ix at) (λ h. h)
fits_or OpRead dim before (Merges which a ix at) = inr (WritesRead, (refl, refl))
fits_or OpRw dim before (Reads a ix at) = in_dim OpRw dim before (Reads a ix at) (λ h. h)
fits_or OpRw dim before (Assigns a ix at) = in_dim OpRw dim before (Assigns a ix at) (λ h. h)
fits_or OpRw dim before (Adds a ix at) = in_dim OpRw dim before (Adds a ix at) (λ h. h)
fits_or OpRw dim before (Changes a ix at) = in_dim OpRw dim before (Changes a ix at) (λ h. h)
fits_or OpRw dim before (Owns min_max.Min a ix at) = in_dim OpRw dim before (Owns min_max.Min a ix at) (λ h. h)
fits_or OpRw dim before (Owns min_max.Max a ix at) = in_dim OpRw dim before (Owns min_max.Max a ix at) (λ h. h)
fits_or OpRw dim before (Merges min_max.Min a ix at) = in_dim OpRw dim before (Merges min_max.Min a ix at) (λ h. h)
fits_or OpRw dim before (Merges min_max.Max a ix at) = in_dim OpRw dim before (Merges min_max.Max a ix at) (λ h. h)
fits_or OpWrite dim before (Reads a ix at) = written dim before (Reads a ix at) refl (λ h. h)
fits_or OpWrite dim before (Assigns a ix at) = component dim before (Assigns a ix at) (λ h. h)
fits_or OpWrite dim before (Adds a ix at) = written dim before (Adds a ix at) refl (λ h. h)
fits_or OpWrite dim before (Changes a ix at) = written dim before (Changes a ix at) refl (λ h. h)
fits_or OpWrite dim before (Owns min_max.Min a ix at) = written dim before (Owns min_max.Min a ix at) refl (λ h. h)
fits_or OpWrite dim before (Owns min_max.Max a ix at) = written dim before (Owns min_max.Max a ix at) refl (λ h. h)
fits_or OpWrite dim before (Merges min_max.Min a ix at) = component dim before (Merges min_max.Min a ix at) (λ h. h)
fits_or OpWrite dim before (Merges min_max.Max a ix at) = component dim before (Merges min_max.Max a ix at) (λ h. h)
fits_or (OpReduce r) dim before (Reads a ix at) = inr (ReadsInc, ((r, refl), refl))
fits_or (OpReduce r) dim before (Changes a ix at) = inr (ReadsInc, ((r, refl), refl))
fits_or (OpReduce Add) dim before (Assigns a ix at) = inr (IncNotSum, (refl, refl, refl))
fits_or (OpReduce Min) dim before (Assigns a ix at) = inr (MinMaxForm, (inl refl, refl, refl))
fits_or (OpReduce Max) dim before (Assigns a ix at) = inr (MinMaxForm, (inr refl, refl, refl))
fits_or (OpReduce Add) dim before (Adds a ix at) = in_dim (OpReduce Add) dim before (Adds a ix at) (λ h. h)
fits_or (OpReduce Min) dim before (Adds a ix at) = inr (ReadsInc, ((Min, refl), refl))
fits_or (OpReduce Max) dim before (Adds a ix at) = inr (ReadsInc, ((Max, refl), refl))
fits_or (OpReduce Add) dim before (Owns min_max.Min a ix at) = inr (ReadsInc, ((Add, refl), refl))
fits_or (OpReduce Add) dim before (Owns min_max.Max a ix at) = inr (ReadsInc, ((Add, refl), refl))
fits_or (OpReduce Min) dim before (Owns min_max.Min a ix at) = in_dim (OpReduce Min) dim before (Owns min_max.Min a ix at) (λ h. h)
fits_or (OpReduce Min) dim before (Owns min_max.Max a ix at) = inr (ReadsInc, ((Min, refl), refl))
fits_or (OpReduce Max) dim before (Owns min_max.Min a ix at) = inr (ReadsInc, ((Max, refl), refl))
fits_or (OpReduce Max) dim before (Owns min_max.Max a ix at) = in_dim (OpReduce Max) dim before (Owns min_max.Max a ix at) (λ h. h)
fits_or (OpReduce Add) dim before (Merges min_max.Min a ix at) = inr (IncNotSum, (refl, refl, refl))
fits_or (OpReduce Add) dim before (Merges min_max.Max a ix at) = inr (IncNotSum, (refl, refl, refl))
fits_or (OpReduce Min) dim before (Merges min_max.Min a ix at) = in_dim (OpReduce Min) dim before (Merges min_max.Min a ix at) (λ h. h)
fits_or (OpReduce Min) dim before (Merges min_max.Max a ix at) = inr (MinMaxForm, (inl refl, refl, refl))
fits_or (OpReduce Max) dim before (Merges min_max.Min a ix at) = inr (MinMaxForm, (inr refl, refl, refl))
fits_or (OpReduce Max) dim before (Merges min_max.Max a ix at) = in_dim (OpReduce Max) dim before (Merges min_max.Max a ix at) (λ h. h)
