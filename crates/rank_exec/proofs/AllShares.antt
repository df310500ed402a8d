-- Shares that are put into the state rank after rank are those of all ranks.
use Rattle.std.proofs.Common.{◌≡◌, ℕ, zero, suc, ◌<◌, ◌≤◌, refl, sym, ap, ◌∙◌, ⊎_elim, arith, List, [], ◌∷◌, ◌++◌, map, length, take, get_or, set, get_or-set_same, get_or-set_other, Option, None}
use Rattle.std.proofs.lemmas.List.{ext_get_or, get_or-map, length-map, take_all}
use Rattle.std.proofs.lemmas.Bool.{cases_lt}
use Rattle.schedule_model.specs.Sequential.{Stop}
use Rattle.rank_state.specs.Machine.{State, row}
use Rattle.rank_program.specs.AloneRuns.{Share}
use Rattle.rank_program.specs.FromNone.{kept_both}
use Rattle.rank_machine.specs.OnRanks.{share_at, kept_of_all}
use Rattle.rank_exec.specs.Rounds.{after_ranks, SharesAreSet}
use Rattle.rank_exec.proofs.RanksInTurn.{same_memories, same_partials, same_rest}

module _ {F : Type 0} (old : State F) (new : ℕ → Share F) where
  -- each rank below has its share
  cells_set : (n r : ℕ) → n ≤ length old.memories → r < n → row (after_ranks old new n).memories r ≡ (new r).cells
  cells_set zero r le lt = absurd (omega (arith, lt))
  cells_set (suc n) r le lt =
      let wide : length (after_ranks old new n).memories ≡ length old.memories = same_memories old new n in
      ⊎_elim
      (λ (m : r < n). get_or-set_other (after_ranks old new n).memories n r (new n).cells [] (λ (q : r ≡ n). absurd (omega (arith, m, q))) ∙ cells_set n r (omega (arith, le)) m)
      (λ (m : n ≤ r).
      let here : r ≡ n = omega (arith, m, lt) in
      ap (row (set (after_ranks old new n).memories n (new n).cells)) here
      ∙ (get_or-set_same (after_ranks old new n).memories n (new n).cells [] (omega (arith, wide, le)) ∙ ap (λ (i : ℕ). (new i).cells) (sym here)))
      (cases_lt r n)

  partials_set : (n r : ℕ) → n ≤ length old.partials → r < n → row (after_ranks old new n).partials r ≡ (new r).partials
  partials_set zero r le lt = absurd (omega (arith, lt))
  partials_set (suc n) r le lt =
      let wide : length (after_ranks old new n).partials ≡ length old.partials = same_partials old new n in
      ⊎_elim
      (λ (m : r < n). get_or-set_other (after_ranks old new n).partials n r (new n).partials [] (λ (q : r ≡ n). absurd (omega (arith, m, q))) ∙ partials_set n r (omega (arith, le)) m)
      (λ (m : n ≤ r).
      let here : r ≡ n = omega (arith, m, lt) in
      ap (row (set (after_ranks old new n).partials n (new n).partials)) here
      ∙ (get_or-set_same (after_ranks old new n).partials n (new n).partials [] (omega (arith, wide, le)) ∙ ap (λ (i : ℕ). (new i).partials) (sym here)))
      (cases_lt r n)

take_push : {X : Type 0} (l : List X) (i : ℕ) (d : X) → i < length l → take (suc i) l ≡ take i l ++ (get_or l i d ∷ [])
take_push [] i d lt = absurd (omega (arith, lt))
take_push (s ∷ l) zero d lt = refl
take_push (s ∷ l) (suc i) d lt = ap (λ z. s ∷ z) (take_push l i d (omega (arith, lt)))

kept_push : {F : Type 0} (o : Option (Stop F)) (xs : List (Share F)) (x : Share F) → kept_of_all o (xs ++ (x ∷ [])) ≡ kept_both (kept_of_all o xs) x.fault
kept_push o [] x = refl
kept_push o (y ∷ xs) x = kept_push (kept_both o y.fault) xs x

fault_set : {F : Type 0} (old : State F) (news : List (Share F)) (n : ℕ) → n ≤ length news → (after_ranks old (share_at news) n).fault ≡ kept_of_all old.fault (take n news)
fault_set old news zero le = refl
fault_set {F = F} old news (suc n) le =
    let none : Share F = record { cells = []; partials = []; fault = None } in
    ap (λ o. kept_both o (share_at news n).fault) (fault_set old news n (omega (arith, le)))
    ∙ (sym (kept_push old.fault (take n news) (share_at news n))
    ∙ ap (kept_of_all old.fault) (sym (take_push news n none (omega (arith, le)))))

pub shares_set : {F : Type 0} (old : State F) (news : List (Share F)) → SharesAreSet old news
shares_set {F = F} old news em ep =
    let none : Share F = record { cells = []; partials = []; fault = None } in
    let n = length news in
    let st = after_ranks old (share_at news) n in
    let ms : length st.memories ≡ length old.memories = same_memories old (share_at news) n in
    let ps : length st.partials ≡ length old.partials = same_partials old (share_at news) n in
    let mm : length (map (λ (s : Share F). s.cells) news) ≡ n = length-map news (λ (s : Share F). s.cells) in
    let pm : length (map (λ (s : Share F). s.partials) news) ≡ n = length-map news (λ (s : Share F). s.partials) in
    let memories : st.memories ≡ map (λ (s : Share F). s.cells) news =
    ext_get_or [] st.memories (map (λ (s : Share F). s.cells) news) (omega (arith, ms, em, mm))
    (λ i lt. cells_set old (share_at news) n i (omega (arith, em)) (omega (arith, lt, ms, em)) ∙ sym (get_or-map (λ (s : Share F). s.cells) news i none [] (omega (arith, lt, ms, em)))) in
    let partials : st.partials ≡ map (λ (s : Share F). s.partials) news =
    ext_get_or [] st.partials (map (λ (s : Share F). s.partials) news) (omega (arith, ps, ep, pm))
    (λ i lt. partials_set old (share_at news) n i (omega (arith, ep)) (omega (arith, lt, ps, ep)) ∙ sym (get_or-map (λ (s : Share F). s.partials) news i none [] (omega (arith, lt, ps, ep)))) in
    let fault : st.fault ≡ kept_of_all old.fault news = fault_set old news n (omega arith) ∙ ap (kept_of_all old.fault) (take_all n news (omega arith)) in
    same_rest old (share_at news) n (map (λ (s : Share F). s.cells) news) (map (λ (s : Share F). s.partials) news) (kept_of_all old.fault news) memories partials fault
