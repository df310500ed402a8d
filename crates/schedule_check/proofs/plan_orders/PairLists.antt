-- The numbers of those pairs that have one key.
use Rattle.std.proofs.Common.{◌≡◌, ℕ, ◌+◌, ◌<◌, Bool, true, false, cond, refl, sym, ap, subst, ◌∙◌, arith, ⊎_elim, List, [], ◌∷◌, ◌++◌, append-nil, length, get_or, set, map, take, Vec, zero-le}
use Rattle.std.specs.Prelude.{◌==◌, filter}
use Rattle.std.specs.declared.alloc.Global.{Global}
use Rattle.std.proofs.lemmas.Bool.{cases_eq, eq-eqb, ne_eqb}
use Rattle.std.proofs.lemmas.List.{take_more, map-append}
use Rattle.std.proofs.lemmas.List.Elements.{filter-append}
use Rattle.lemmas.specs.Below.{row}
use Rattle.lemmas.proofs.Rows.{row_set_same, row_set_other}
use Rattle.loop_plan.specs.declared.types.Pair.{Pair}
use Rattle.schedule_check.specs.Messages.{HasMessages}
use Rattle.schedule_check.proofs.plan_orders.TableReads.{row_past}

module _ (key value : Pair → ℕ) where
  -- the values of the pairs with this key
  abbrev pub chosen : List Pair → ℕ → List ℕ
  chosen pairs r = map value (filter (λ (q : Pair). key q == r) pairs)

  pub chosen_append : (xs ys : List Pair) (r : ℕ) → chosen (xs ++ ys) r ≡ chosen xs r ++ chosen ys r
  chosen_append xs ys r =
      ap (λ z. map value z) (filter-append (λ (q : Pair). key q == r) xs ys)
      ∙ map-append value (filter (λ (q : Pair). key q == r) xs) (filter (λ (q : Pair). key q == r) ys)

  pub chosen_one : (q : Pair) (r : ℕ) → chosen (q ∷ []) r ≡ cond (key q == r) (value q ∷ []) []
  chosen_one q r = by (key q == r)
    where
      by : (b : Bool) → map value (cond b (q ∷ []) []) ≡ cond b (value q ∷ []) []
      by true = refl
      by false = refl

  -- one pair more, pushed to the list of its key
  pub push_pair : (pairs : List Pair) (i : ℕ) (q : Pair) (lists : List (Vec ℕ Global)) (v : Vec ℕ Global) (n : ℕ)
      → ((d : Pair) → i < length pairs → get_or pairs i d ≡ q)
      → i < length pairs
      → length lists ≡ n
      → key q < n
      → v.items ≡ row lists (key q) ++ (value q ∷ [])
      → ((r : ℕ) → r < n → row lists r ≡ chosen (take i pairs) r)
      → (r : ℕ) → r < n → row (set lists (key q) v) r ≡ chosen (take (i + 1) pairs) r
  push_pair pairs i q lists v n read lt count below push h r lr = ⊎_elim own other (cases_eq r (key q))
    where
      more : (s : ℕ) → chosen (take (i + 1) pairs) s ≡ chosen (take i pairs) s ++ cond (key q == s) (value q ∷ []) []
      more s =
          ap (λ z. chosen z s) (take_more pairs i q lt ∙ ap (λ z. take i pairs ++ (z ∷ [])) (read q lt))
          ∙ (chosen_append (take i pairs) (q ∷ []) s ∙ ap (λ z. chosen (take i pairs) s ++ z) (chosen_one q s))

      here : row (set lists (key q) v) (key q) ≡ chosen (take (i + 1) pairs) (key q)
      here =
          row_set_same lists (key q) v (omega arith)
          ∙ (push
          ∙ (ap (λ z. z ++ (value q ∷ [])) (h (key q) below)
          ∙ sym (more (key q) ∙ ap (λ b. chosen (take i pairs) (key q) ++ cond b (value q ∷ []) []) (eq-eqb (key q) (key q) refl))))

      own : r ≡ key q → row (set lists (key q) v) r ≡ chosen (take (i + 1) pairs) r
      own e = subst (λ z. row (set lists (key q) v) z ≡ chosen (take (i + 1) pairs) z) (sym e) here

      other : (r ≡ key q → ⊥) → row (set lists (key q) v) r ≡ chosen (take (i + 1) pairs) r
      other ne =
          row_set_other lists (key q) r v ne
          ∙ (h r lr
          ∙ sym (more r
          ∙ (ap (λ b. chosen (take i pairs) r ++ cond b (value q ∷ []) []) (ne_eqb (key q) r (λ e. ne (sym e)))
          ∙ append-nil (chosen (take i pairs) r))))

-- no pair, no lists
pub no_pairs : (pairs : List Pair) (ranks : ℕ) → length pairs ≡ 0 → HasMessages pairs ranks [] []
no_pairs [] ranks e = record { sent = λ s lt. row_past [] s zero-le; received = λ r lt. row_past [] r zero-le }
no_pairs (q ∷ pairs) ranks e = absurd (omega arith)
