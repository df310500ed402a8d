-- Where the tokens that can stand in front of a state are those that lead to it, reading is exact.
use Rattle.std.proofs.Common.{◌≡◌, ℕ, ◌⊎◌, List, [], ◌∷◌, ◌++◌, Result, Ok, Err, IfOk, IfErr, refl, sym, ap, subst, ◌∙◌, inl, inr, append_assoc, append-nil}
use Rattle.op_num.specs.Cut.{Word, uncut, words}
use Rattle.op_num.specs.Automaton.{after, last_line, run, run_from, RefusesAmong, Answers, IsGiven, IsRefused}

last_push : (line : ℕ) (ws : List Word) (w : Word) → last_line line (ws ++ w ∷ []) ≡ w.line
last_push line [] w = refl
last_push line (x ∷ ws) w = last_push x.line ws w

module _ {S R V : Type 0} (step : S → Word → Result S R) (finish : S → ℕ → Result V R) where
  -- the state behind tokens
  unfoldable pub through : S → List Word → Result S R
  through s [] = Ok s
  through s (w ∷ ws) = after (step s w) (λ q. through q ws)

  pub through-none : (s : S) → through s [] ≡ Ok s
  unfolding through
  through-none s = refl

  pub through-more : (s q : S) (w : Word) (ws : List Word) → step s w ≡ Ok q → through s (w ∷ ws) ≡ through q ws
  unfolding through
  through-more s q w ws h = ap (λ r. after r (λ x. through x ws)) h

  join_by : (r : Result S R) (ws vs : List Word) (q : S) → after r (λ x. through x ws) ≡ Ok q
      → ((x : S) → through x ws ≡ Ok q → through x (ws ++ vs) ≡ through q vs) → after r (λ x. through x (ws ++ vs)) ≡ through q vs
  join_by (Ok x) ws vs q k rec = rec x k
  join_by (Err e) ws vs q k rec = cc

  pub through-join : (ws vs : List Word) (s q : S) → through s ws ≡ Ok q → through s (ws ++ vs) ≡ through q vs
  unfolding through
  through-join [] vs s q h = let e : s ≡ q = cc in ap (λ x. through x vs) e
  through-join (w ∷ ws) vs s q h = join_by (step s w) ws vs q h (λ x k. through-join ws vs x q k)

  -- tokens lead from a state to a state, and others on
  pub through-both : (ws vs : List Word) (s q r : S) → through s ws ≡ Ok q → through q vs ≡ Ok r → through s (ws ++ vs) ≡ Ok r
  through-both ws vs s q r h k = through-join ws vs s q h ∙ k

  run_by : (r : Result S R) (ws vs : List Word) (q : S) (line : ℕ) → after r (λ x. through x ws) ≡ Ok q
      → ((x : S) → through x ws ≡ Ok q → run step finish x line (ws ++ vs) ≡ run step finish q (last_line line ws) vs)
      → after r (λ x. run step finish x line (ws ++ vs)) ≡ run step finish q (last_line line ws) vs
  run_by (Ok x) ws vs q line k rec = rec x k
  run_by (Err e) ws vs q line k rec = cc

  run_through : (ws vs : List Word) (s q : S) (last : ℕ) → through s ws ≡ Ok q → run step finish s last (ws ++ vs) ≡ run step finish q (last_line last ws) vs
  unfolding through run
  run_through [] vs s q last h = let e : s ≡ q = cc in ap (λ x. run step finish x last vs) e
  run_through (w ∷ ws) vs s q last h = run_by (step s w) ws vs q w.line h (λ x k. run_through ws vs x q w.line k)

  run-end : (s : S) (last : ℕ) → run step finish s last [] ≡ finish s last
  unfolding run
  run-end s last = refl

  run-more : (s : S) (last : ℕ) (w : Word) (ws : List Word) → run step finish s last (w ∷ ws) ≡ after (step s w) (λ q. run step finish q w.line ws)
  unfolding run
  run-more s last w ws = refl

  after_ok : (r : Result S R) (k : S → Result V R) (v : V) → after r k ≡ Ok v → (q : S) × (r ≡ Ok q) × (k q ≡ Ok v)
  after_ok (Ok q) k v h = (q, refl, h)
  after_ok (Err e) k v h = cc

  module _ (start : S) (Stands : List Word → S → Type 0) (begins : Stands [] start)
      (stands_on : (s q : S) (ws : List Word) (w : Word) → Stands ws s → step s w ≡ Ok q → Stands (ws ++ w ∷ []) q)
      (leads : (s : S) (ws : List Word) → Stands ws s → through start ws ≡ Ok s) where
    found_from : (ws seen : List Word) (s : S) (last : ℕ) (v : V) → last ≡ last_line 1 seen → Stands seen s
        → run step finish s last ws ≡ Ok v → (q : S) × Stands (seen ++ ws) q × (finish q (last_line 1 (seen ++ ws)) ≡ Ok v)
    unfolding run
    found_from [] seen s last v l k h = subst (λ xs. (q : S) × Stands xs q × (finish q (last_line 1 xs) ≡ Ok v)) (sym (append-nil seen)) (s, k, ap (finish s) (sym l) ∙ h)
    found_from (w ∷ ws) seen s last v l k h =
        let a = after_ok (step s w) (λ q. run step finish q w.line ws) v h in
        subst (λ xs. (q : S) × Stands xs q × (finish q (last_line 1 xs) ≡ Ok v)) (append_assoc seen (w ∷ []) ws)
        (found_from ws (seen ++ w ∷ []) a.0 w.line v (sym (last_push 1 seen w)) (stands_on s a.0 seen w k a.1) a.2)

    -- what is read stood there whole
    pub found_run : (ws : List Word) (v : V) → run step finish start 1 ws ≡ Ok v → (q : S) × Stands ws q × (finish q (last_line 1 ws) ≡ Ok v)
    found_run ws v h = found_from ws [] start 1 v refl begins h

    refused_by : (r : Result S R) (s : S) (w : Word) (seen ws : List Word) (e : R) → step s w ≡ r → Stands seen s
        → after r (λ q. run step finish q w.line ws) ≡ Err e
        → ((q : S) → step s w ≡ Ok q → run step finish q w.line ws ≡ Err e → RefusesAmong step finish Stands (seen ++ w ∷ ws) e)
        → RefusesAmong step finish Stands (seen ++ w ∷ ws) e
    refused_by (Ok q) s w seen ws e t k h rec = rec q t h
    refused_by (Err x) s w seen ws e t k h rec = let same : x ≡ e = cc in inl (seen, w, ws, s, refl, k, t ∙ ap Err same)

    refused_from : (ws seen : List Word) (s : S) (last : ℕ) (e : R) → last ≡ last_line 1 seen → Stands seen s → run step finish s last ws ≡ Err e → RefusesAmong step finish Stands (seen ++ ws) e
    unfolding run
    refused_from [] seen s last e l k h = subst (λ xs. RefusesAmong step finish Stands xs e) (sym (append-nil seen)) (inr (s, k, ap (finish s) (sym l) ∙ h))
    refused_from (w ∷ ws) seen s last e l k h =
        refused_by (step s w) s w seen ws e refl k h
        (λ q t m. subst (λ xs. RefusesAmong step finish Stands xs e) (append_assoc seen (w ∷ []) ws)
        (refused_from ws (seen ++ w ∷ []) q w.line e (sym (last_push 1 seen w)) (stands_on s q seen w k t) m))

    pub refused_run : (ws : List Word) (e : R) → run step finish start 1 ws ≡ Err e → RefusesAmong step finish Stands ws e
    refused_run ws e h = refused_from ws [] start 1 e refl begins h

    -- what stands there whole is read as its state says
    pub whole_run : (ws : List Word) (s : S) → Stands ws s → run step finish start 1 ws ≡ finish s (last_line 1 ws)
    whole_run ws s k = ap (run step finish start 1) (sym (append-nil ws)) ∙ run_through ws [] start s 1 (leads s ws k) ∙ run-end s (last_line 1 ws)

    pub refuses_run : (ws : List Word) (e : R) → RefusesAmong step finish Stands ws e → run step finish start 1 ws ≡ Err e
    refuses_run ws e (inl r) = ap (run step finish start 1) r.4 ∙ run_through r.0 (r.1 ∷ r.2) start r.3 1 (leads r.3 r.0 r.5)
        ∙ run-more r.3 (last_line 1 r.0) r.1 r.2 ∙ ap (λ x. after x (λ q. run step finish q r.1.line r.2)) r.6
    refuses_run ws e (inr r) = whole_run ws r.0 r.1 ∙ r.2

    -- what a reader that answers as the tokens say gives, and what it refuses
    module _ {M : Type 0} (lost : R) (bytes : List ℕ) (result : Result M R) (view : M → V) (answers : Answers lost result view (run_from step finish start (uncut bytes))) where
      pub found : IfOk result (λ m. (q : S) × Stands (words 1 bytes) q × (finish q (last_line 1 (words 1 bytes)) ≡ Ok (view m)))
      found = go result answers
        where
          go : (r : Result M R) → Answers lost r view (run_from step finish start (uncut bytes))
              → IfOk r (λ m. (q : S) × Stands (words 1 bytes) q × (finish q (last_line 1 (words 1 bytes)) ≡ Ok (view m)))
          go (Ok m) h = found_run (words 1 bytes) (view m) h
          go (Err e) h = tt

      pub only : (s : S) (v : V) → Stands (words 1 bytes) s → finish s (last_line 1 (words 1 bytes)) ≡ Ok v → IsGiven lost result (λ m. view m ≡ v)
      only s v k f = go result answers (whole_run (words 1 bytes) s k ∙ f)
        where
          go : (r : Result M R) → Answers lost r view (run_from step finish start (uncut bytes)) → run step finish start 1 (words 1 bytes) ≡ Ok v → IsGiven lost r (λ m. view m ≡ v)
          go (Ok m) h w = cc
          go (Err e) (inl h) w = h
          go (Err e) (inr h) w = cc

      pub refused : IfErr result (λ e. (e ≡ lost) ⊎ RefusesAmong step finish Stands (words 1 bytes) e)
      refused = go result answers
        where
          go : (r : Result M R) → Answers lost r view (run_from step finish start (uncut bytes)) → IfErr r (λ e. (e ≡ lost) ⊎ RefusesAmong step finish Stands (words 1 bytes) e)
          go (Ok m) h = tt
          go (Err e) (inl h) = inl h
          go (Err e) (inr h) = inr (refused_run (words 1 bytes) e h)

      pub refuses : (e : R) → RefusesAmong step finish Stands (words 1 bytes) e → IsRefused lost result e
      refuses e f = go result answers (refuses_run (words 1 bytes) e f)
        where
          go : (r : Result M R) → Answers lost r view (run_from step finish start (uncut bytes)) → run step finish start 1 (words 1 bytes) ≡ Err e → IsRefused lost r e
          go (Ok m) h w = cc
          go (Err x) (inl h) w = inl h
          go (Err x) (inr h) w = inr cc
