-- One turn of a for is enough, where no static index in its body names its counter: it finds all that all turns find, and covers all that
-- they cover.
use Rattle.std.proofs.Common.{◌≡◌, ℕ, zero, suc, pos, inl, inr, ◌-◌, ◌<◌, Bool, false, List, refl, sym, ap, ◌∙◌, arith}
use Rattle.std.proofs.Math.Path.{fun_ext}
use Rattle.kernel_model.specs.declared.types.statements.RStmt.{RStmt}
use Rattle.kernel_model.specs.Obeys.{Mode, Counters, with_counter}
use Rattle.kernel_model.specs.Walk.{Covered, covered_after, turns_covered, stmt_found, turns_found}
use Rattle.access_check.specs.Indices.{stmt_names, Enough}
use Rattle.access_check.proofs.Least.{Found}
use Rattle.access_check.proofs.Assigning.{still_within, covered_twice}
use Rattle.access_check.proofs.Settled.{settled_stmt}
use Rattle.access_check.proofs.Unnamed.{but_itself, covered_free, found_free}

module _ (modes : List Mode) (body : RStmt) (cs : Counters) (k : ℕ) (e : stmt_names body k ≡ false) where
  abbrev find : ℕ → Covered → Found → Found
  find i d f = stmt_found modes body (with_counter cs k (pos i)) d f

  abbrev cover : ℕ → Covered → Covered
  cover i d = covered_after body (with_counter cs k (pos i)) d

  -- a turn after another changes nothing
  covers_again : (i j : ℕ) (c : Covered) → cover j (cover i c) ≡ cover i c
  covers_again i j c =
      covered_free modes k body (with_counter cs k (pos j)) (with_counter cs k (pos i)) (but_itself k (pos j) (pos i) cs) e (cover i c)
      ∙ fun_ext (λ a. fun_ext (λ b. covered_twice body (with_counter cs k (pos i)) c a b))

  finds_again : (i j : ℕ) (c : Covered) (f : Found) → find j (cover i c) (find i c f) ≡ find i c f
  finds_again i j c f =
      found_free modes k body (with_counter cs k (pos j)) (with_counter cs k (pos i)) (but_itself k (pos j) (pos i) cs) e (cover i c) (find i c f)
      ∙ (settled_stmt modes body (with_counter cs k (pos i)) c (cover i c) (still_within body (with_counter cs k (pos i)) c)).0 f (find i c f) (λ r p h. h)

  -- nor do all the turns after it
  rest_covers : (i j n : ℕ) (c : Covered) → turns_covered cover j n (cover i c) ≡ cover i c
  rest_covers i j zero c = refl
  rest_covers i j (suc n) c = ap (turns_covered cover (suc j) n) (covers_again i j c) ∙ rest_covers i (suc j) n c

  rest_finds : (i j n : ℕ) (c : Covered) (f : Found) → turns_found modes find cover j n (cover i c) (find i c f) ≡ find i c f
  rest_finds i j zero c f = refl
  rest_finds i j (suc n) c f =
      ap (λ d. turns_found modes find cover (suc j) n d (find j (cover i c) (find i c f))) (covers_again i j c)
      ∙ ap (turns_found modes find cover (suc j) n (cover i c)) (finds_again i j c f) ∙ rest_finds i (suc j) n c f

  pub one_turn_covers : (first past : ℕ) (c : Covered) → first < past → turns_covered cover first (past - first) c ≡ turns_covered cover first 1 c
  one_turn_covers first past c lt =
      let n : past - first ≡ suc (past - first - 1) = omega arith in
      ap (λ m. turns_covered cover first m c) n ∙ rest_covers first (suc first) (past - first - 1) c

  pub one_turn_finds : (first past : ℕ) (c : Covered) (f : Found) → first < past → turns_found modes find cover first (past - first) c f ≡ turns_found modes find cover first 1 c f
  one_turn_finds first past c f lt =
      let n : past - first ≡ suc (past - first - 1) = omega arith in
      ap (λ m. turns_found modes find cover first m c f) n ∙ rest_finds first (suc first) (past - first - 1) c f

-- turns that are enough find and cover what all turns do
module _ (modes : List Mode) (body : RStmt) (cs : Counters) (k : ℕ) (is_named : Bool) (e : is_named ≡ false → stmt_names body k ≡ false) where
  pub enough_cover : (first past end : ℕ) (c : Covered) → Enough is_named first past end
      → turns_covered (λ i d. covered_after body (with_counter cs k (pos i)) d) first (end - first) c ≡ turns_covered
      (λ i d. covered_after body (with_counter cs k (pos i)) d) first (past - first) c
  enough_cover first past end c (inl h) = ap (λ m. turns_covered (λ i d. covered_after body (with_counter cs k (pos i)) d) first (m - first) c) h
  enough_cover first past end c (inr h) =
      let q = h.2 in
      let one : end - first ≡ 1 = omega (arith, q) in
      ap (λ m. turns_covered (λ i d. covered_after body (with_counter cs k (pos i)) d) first m c) one ∙ sym (one_turn_covers modes body cs k (e h.0) first past c h.1)

  pub enough_find : (first past end : ℕ) (c : Covered) (f : Found) → Enough is_named first past end
      → turns_found modes (λ i d g. stmt_found modes body (with_counter cs k (pos i)) d g)
      (λ i d. covered_after body (with_counter cs k (pos i)) d) first (end - first) c f ≡ turns_found modes
      (λ i d g. stmt_found modes body (with_counter cs k (pos i)) d g) (λ i d. covered_after body (with_counter cs k (pos i)) d) first
      (past - first) c f
  enough_find first past end c f (inl h) = ap
      (λ m. turns_found modes (λ i d g. stmt_found modes body (with_counter cs k (pos i)) d g)
      (λ i d. covered_after body (with_counter cs k (pos i)) d) first (m - first) c f) h
  enough_find first past end c f (inr h) =
      let q = h.2 in
      let one : end - first ≡ 1 = omega (arith, q) in
      ap (λ m. turns_found modes (λ i d g. stmt_found modes body (with_counter cs k (pos i)) d g)
      (λ i d. covered_after body (with_counter cs k (pos i)) d) first m c f) one
      ∙ sym (one_turn_finds modes body cs k (e h.0) first past c f h.1)
