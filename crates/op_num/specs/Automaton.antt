-- Reading tokens one after another, for any text format: a state says what is awaited, a token leads to the next state or is refused.
use Rattle.std.specs.Prelude.{◌≡◌, ℕ, ◌⊎◌, List, [], ◌∷◌, ◌++◌, Some, Result, Ok, Err}
use Rattle.op_num.specs.Cut.{Word, Uncut, first_of, rest_of}

-- the second answer, where the first is a value
abbrev pub after : {A B R : Type 0} → Result A R → (A → Result B R) → Result B R
after (Ok x) k = k x
after (Err e) k = Err e

-- what becomes of the value, where there is one
abbrev pub onto : {A B R : Type 0} → Result A R → (A → B) → Result B R
onto (Ok x) f = Ok (f x)
onto (Err e) f = Err e

-- the line of the last token, or the line before
abbrev pub last_line : ℕ → List Word → ℕ
last_line line [] = line
last_line line (w ∷ ws) = last_line w.line ws

module _ {S R V : Type 0} (step : S → Word → Result S R) (finish : S → ℕ → Result V R) where
  -- what reading the tokens gives from a state on; the line is that of the last token before
  unfoldable pub run : S → ℕ → List Word → Result V R
  run s last [] = finish s last
  run s last (w ∷ ws) = after (step s w) (λ q. run q w.line ws)

  -- what reading the tokens to come gives from a state on
  abbrev pub run_from : S → Uncut → Result V R
  run_from s u = run s u.last u.words

  -- The first token that may not stand where it does, or the end, is refused so. Stands says which tokens can stand in front of a state.
  abbrev pub RefusesAmong : (List Word → S → Type 0) → List Word → R → Type 0
  RefusesAmong Stands ws r =
      ((seen : List Word) × (w : Word) × (later : List Word) × (s : S) × (ws ≡ seen ++ w ∷ later) × Stands seen s × (step s w ≡ Err r))
      ⊎ ((s : S) × Stands ws s × (finish s (last_line 1 ws) ≡ Err r))

  -- Reading on from here, in this state, is reading on from there; or it is refused. Want of memory, which is `lost`, is free.
  abbrev pub Leads : R → S → Uncut → {X : Type 0} → Result X R → (X → S) → Uncut → Type 0
  Leads lost s old (Ok x) q new = run_from s old ≡ run_from (q x) new
  Leads lost s old (Err e) q new = (e ≡ lost) ⊎ (run_from s old ≡ Err e)

-- the next token is taken
pub record IsNext (old new : Uncut) (w : Word) : Type 0 where
  pub first : first_of old ≡ Some w
  pub rest : new ≡ rest_of old

-- unless memory ran out, the answer is this one
abbrev pub Told : {X R : Type 0} → R → Result X R → Result X R → Type 0
Told lost (Ok x) r = r ≡ Ok x
Told lost (Err e) r = (e ≡ lost) ⊎ (r ≡ Err e)

-- unless memory ran out, the answer has this value in its view
abbrev pub Answers : {M V R : Type 0} → R → Result M R → (M → V) → Result V R → Type 0
Answers lost (Ok m) view r = r ≡ Ok (view m)
Answers lost (Err e) view r = (e ≡ lost) ⊎ (r ≡ Err e)

-- unless memory ran out, there is a value, and this is so of it
abbrev pub IsGiven : {M R : Type 0} → R → Result M R → (M → Type 0) → Type 0
IsGiven lost (Ok m) P = P m
IsGiven lost (Err e) P = e ≡ lost

-- unless memory ran out, there is this refusal
abbrev pub IsRefused : {M R : Type 0} → R → Result M R → R → Type 0
IsRefused lost (Ok m) r = ⊥
IsRefused lost (Err e) r = (e ≡ lost) ⊎ (e ≡ r)
