-- Lists that are sorted layer by layer: each layer fixes one more number of the keys.
use Rattle.std.proofs.Common.{◌≡◌, ℕ, zero, suc, ◌<◌, Bool, true, sym, subst, ◌∙◌, arith, ⊎_elim, List, [], ◌∷◌, ◌++◌, append_assoc}
use Rattle.std.proofs.lemmas.Bool.{cases_eq, cond_both, cond-true}
use Rattle.schedule_steps.specs.Outline.{Outline}
use Rattle.schedule_steps.specs.declared.step.Step.{Step}
use Rattle.schedule_steps.specs.Steps.{has}
use Rattle.schedule_steps.specs.Members.{has_left, has_right}
use Rattle.schedule_steps.specs.Standard.{below, where_true}
use Rattle.schedule_steps.proofs.Keys.{Less, less_at, Each, each_append, each_map, key, Sorted}

pub each_below : (P : Step → Type 0) (f : ℕ → List Step) (n : ℕ) → ((i : ℕ) → i < n → Each P (f i)) → Each P (below f n)
each_below P f zero h = tt
each_below P f (suc n) h = each_append P (below f n) (f n) (each_below P f n (λ i lt. h i (omega arith))) (h n (omega arith))

pub each_where : (P : Step → Type 0) (b : Bool) (l : List Step) → (b ≡ true → Each P l) → Each P (where_true b l)
each_where P b l h = cond_both b l [] (Each P) h (λ t. tt)

pub has_below : (f : ℕ → List Step) (n i : ℕ) (t : Step) → i < n → has (f i) t ≡ true → has (below f n) t ≡ true
has_below f zero i t lt h = absurd (omega arith)
has_below f (suc n) i t lt h = ⊎_elim
    (λ (e : i ≡ n). has_right (below f n) (f n) t (subst (λ j. has (f j) t ≡ true) e h))
    (λ (ne : i ≡ n → ⊥). has_left (below f n) (f n) t (has_below f n i t (omega arith) h))
    (cases_eq i n)

pub has_where : (b : Bool) (l : List Step) (t : Step) → b ≡ true → has l t ≡ true → has (where_true b l) t ≡ true
has_where b l t h i = subst (λ z. has z t ≡ true) (sym (cond-true b l [] h)) i

module _ (o : Outline) (g : ℕ) where
  sorted_append : (P Q : Step → Type 0) (a b : List Step) → Sorted o g a → Sorted o g b → Each P a → Each Q b → ((x y : Step) → P x → Q y → Less (key o g x) (key o g y)) → Sorted o g (a ++ b)
  sorted_append P Q [] b sa sb pa qb h = sb
  sorted_append P Q (x ∷ a) b sa sb pa qb h = (
    each_append (λ y. Less (key o g x) (key o g y)) a b sa.0 (each_map Q (λ y. Less (key o g x) (key o g y)) b (λ y. h x y pa.0) qb),
    sorted_append P Q a b sa.1 sb pa.1 qb h,
  )

  -- the step's key begins so
  abbrev pub Begins : List ℕ → Step → Type 0
  Begins pre s = (rest : List ℕ) × (key o g s ≡ pre ++ rest)

  -- a sorted list whose keys all begin so
  pub record Layer (pre : List ℕ) (l : List Step) : Type 0 where
    pub sorted : Sorted o g l
    pub begins : Each (Begins pre) l

  -- a sorted list whose keys begin so and go on with a number above i
  abbrev pub Beyond : List ℕ → ℕ → Step → Type 0
  Beyond pre i s = (j : ℕ) × (i < j) × Begins (pre ++ (j ∷ [])) s

  pub record Rest (pre : List ℕ) (i : ℕ) (l : List Step) : Type 0 where
    pub sorted : Sorted o g l
    pub beyond : Each (Beyond pre i) l

  shorter : (pre : List ℕ) (i : ℕ) (s : Step) → Begins (pre ++ (i ∷ [])) s → Begins pre s
  shorter pre i s h = (i ∷ h.0, h.1 ∙ append_assoc pre (i ∷ []) h.0)

  less_begins : (pre : List ℕ) (i j : ℕ) (x y : Step) → i < j → Begins (pre ++ (i ∷ [])) x → Begins (pre ++ (j ∷ [])) y → Less (key o g x) (key o g y)
  less_begins pre i j x y lt a b =
      subst (λ z. Less z (key o g y)) (sym (a.1 ∙ append_assoc pre (i ∷ []) a.0))
      (subst (Less (pre ++ (i ∷ a.0))) (sym (b.1 ∙ append_assoc pre (j ∷ []) b.0)) (less_at pre i j a.0 b.0 lt))

  pub one : (pre : List ℕ) (s : Step) (rest : List ℕ) → key o g s ≡ pre ++ rest → Layer pre (s ∷ [])
  one pre s rest e = record { sorted = (tt, tt); begins = ((rest, e), tt) }

  pub layer_where : (pre : List ℕ) (b : Bool) (l : List Step) → (b ≡ true → Layer pre l) → Layer pre (where_true b l)
  layer_where pre b l h = cond_both b l [] (Layer pre) h (λ t. record { sorted = tt; begins = tt })

  pub layer_below : (pre : List ℕ) (f : ℕ → List Step) (n : ℕ) → ((i : ℕ) → i < n → Layer (pre ++ (i ∷ [])) (f i)) → Layer pre (below f n)
  layer_below pre f zero h = record { sorted = tt; begins = tt }
  layer_below pre f (suc n) h = record {
    sorted = sorted_append (λ x. (i : ℕ) × (i < n) × Begins (pre ++ (i ∷ [])) x) (Begins (pre ++ (n ∷ []))) (below f n) (f n)
        (layer_below pre f n (λ i lt. h i (omega arith))).sorted (h n (omega arith)).sorted
        (each_below (λ x. (i : ℕ) × (i < n) × Begins (pre ++ (i ∷ [])) x) f n
        (λ i lt. each_map (Begins (pre ++ (i ∷ []))) (λ x. (i : ℕ) × (i < n) × Begins (pre ++ (i ∷ [])) x) (f i) (λ x px. (i, lt, px))
        (h i (omega arith)).begins))
        (h n (omega arith)).begins
        (λ x y px py. less_begins pre px.0 n x y px.1 px.2 py);
    begins = each_append (Begins pre) (below f n) (f n) (layer_below pre f n (λ i lt. h i (omega arith))).begins
        (each_map (Begins (pre ++ (n ∷ []))) (Begins pre) (f n) (shorter pre n) (h n (omega arith)).begins);
  }

  pub rest_of : (pre : List ℕ) (i j : ℕ) (l : List Step) → i < j → Layer (pre ++ (j ∷ [])) l → Rest pre i l
  rest_of pre i j l lt h = record { sorted = h.sorted; beyond = each_map (Begins (pre ++ (j ∷ []))) (Beyond pre i) l (λ x px. (j, lt, px)) h.begins }

  -- one more part in front
  pub rest_append : (pre : List ℕ) (i j : ℕ) (a b : List Step) → i < j → Layer (pre ++ (j ∷ [])) a → Rest pre j b → Rest pre i (a ++ b)
  rest_append pre i j a b lt ha hb = record {
    sorted = sorted_append (Begins (pre ++ (j ∷ []))) (Beyond pre j) a b ha.sorted hb.sorted ha.begins hb.beyond (λ x y px py. less_begins pre j py.0 x y py.1 px py.2);
    beyond = each_append (Beyond pre i) a b (each_map (Begins (pre ++ (j ∷ []))) (Beyond pre i) a (λ x px. (j, lt, px)) ha.begins)
        (each_map (Beyond pre j) (Beyond pre i) b (λ x px. (px.0, (let l : j < px.0 = px.1 in omega arith), px.2)) hb.beyond);
  }

  pub layer_append : (pre : List ℕ) (i : ℕ) (a b : List Step) → Layer (pre ++ (i ∷ [])) a → Rest pre i b → Layer pre (a ++ b)
  layer_append pre i a b ha hb = record {
    sorted = sorted_append (Begins (pre ++ (i ∷ []))) (Beyond pre i) a b ha.sorted hb.sorted ha.begins hb.beyond (λ x y px py. less_begins pre i py.0 x y py.1 px py.2);
    begins = each_append (Begins pre) a b (each_map (Begins (pre ++ (i ∷ []))) (Begins pre) a (shorter pre i) ha.begins)
        (each_map (Beyond pre i) (Begins pre) b (λ x px. shorter pre px.0 x px.2) hb.beyond);
  }

  -- the same keys, of which less is said
  pub layer_shorter : (pre : List ℕ) (i : ℕ) (l : List Step) → Layer (pre ++ (i ∷ [])) l → Layer pre l
  layer_shorter pre i l h = record { sorted = h.sorted; begins = each_map (Begins (pre ++ (i ∷ []))) (Begins pre) l (shorter pre i) h.begins }
