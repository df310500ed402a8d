-- Values that are put at numbers apart from others leave the values there.
use Rattle.std.proofs.Common.{◌≡◌, ◌≢◌, ◌<◌, ◌∷◌, [], ℕ, zero, suc, ℤ, pos, List, length, drop, get_or, set, get_or-set_other, refl, ap, ap₂, sym, ◌∙◌, arith}
use Rattle.schedule_model.specs.Layout.{Core, Faults, Leaves}
use Rattle.rank_state.specs.Indices.{values_at}
use Rattle.rank_state.specs.Ordered.{put_values, variables_after}
use Rattle.rank_program.specs.Constants.{Apart}

-- one value
put_one : (vs : List ℤ) (i : ℕ) (w : ℤ) (cs : List ℕ) → ((j : ℕ) → j < length cs → i ≢ get_or cs j 0) → values_at (set vs i w) cs ≡ values_at vs cs
put_one vs i w [] apart = refl
put_one vs i w (c ∷ cs) apart =
    ap₂ (λ x xs. x ∷ xs) (get_or-set_other vs i c w (pos 0) (λ e. apart 0 (omega arith) (sym e)))
    (put_one vs i w cs (λ j lt. apart (suc j) (omega (arith, lt))))

-- all of them
pub put_apart : (is : List ℕ) (ws vs : List ℤ) (cs : List ℕ) → Apart is cs → values_at (put_values is ws vs) cs ≡ values_at vs cs
put_apart [] ws vs cs apart = refl
put_apart (i ∷ is) [] vs cs apart = refl
put_apart (i ∷ is) (w ∷ ws) vs cs apart =
    put_apart is ws (set vs i w) cs (λ a j la lj. apart (suc a) j (omega (arith, la)) lj)
    ∙ put_one vs i w cs (λ j lt. apart 0 j (omega arith) lt)

-- the variables after an element's run
pub run_apart : {F : Type 0} (n : ℕ) (is : List ℕ) (ran : Core F) (vs : List ℤ) (cs : List ℕ) → Apart is cs → values_at (variables_after n is ran vs) cs ≡ values_at vs cs
run_apart n is (Faults f) vs cs apart = refl
run_apart n is (Leaves ws) vs cs apart = put_apart is (drop n ws) vs cs apart
