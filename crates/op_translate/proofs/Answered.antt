-- What is answered, and what is not.
use Rattle.std.proofs.Common.{◌≡◌, ℕ, suc, ◌-◌, ◌<◌, Bool, true, false, cond, List, [], ◌∷◌, length, map, get_or, Some, find, Result, Ok, Err, Vec, Global, Bor, refl, ap, ◌∙◌, arith, nat_eq}
use Rattle.std.specs.Prelude.{◌||◌, is_some}
use Rattle.std.specs.List.{list_any}
use Rattle.std.specs.Str.{bytes_eq}
use Rattle.c_tree.specs.declared.lexer.tokens.Word.{Word}
use Rattle.c_tree.specs.Spelling.{word_spelling}
use Rattle.op_translate.specs.declared.refusals.TransRefusal.{TransRefusal}
use Rattle.op_translate.specs.declared.refusals.TransRefusal.TheVariants as refusal
use Rattle.op_translate.specs.Answered.{Answers}
use Rattle.op_translate.specs.Translation.{Outcome, ends_line}

-- of what has one outcome no other is answered
pub only_answer : (P : Outcome → Type 0) → ((a b : Outcome) → P a → P b → a ≡ b) → (r : Result (Vec ℕ Global) TransRefusal) (o : Outcome) → P o → Answers P r → Answers (λ x. x ≡ o) r
only_answer P one (Ok v) o h a = one (Ok v.items) o a h
only_answer P one (Err (refusal.NameTaken p)) o h a = one (Err (refusal.NameTaken p)) o a h
only_answer P one (Err (refusal.NoCall p)) o h a = one (Err (refusal.NoCall p)) o a h
only_answer P one (Err (refusal.LoopLeft p)) o h a = one (Err (refusal.LoopLeft p)) o a h
only_answer P one (Err (refusal.Lex e)) o h a = one (Err (refusal.Lex e)) o a h
only_answer P one (Err refusal.OutOfMemory) o h a = tt

-- the words are those of a list
pub listed : (xs : List (Bor (List ℕ))) (ws : List Word) (bs : List ℕ) → map (λ x. x.now) xs ≡ map word_spelling ws
    → list_any (λ x. bytes_eq bs x.now) xs ≡ is_some (find (λ w. bytes_eq bs (word_spelling w)) ws)
listed [] [] bs e = refl
listed [] (w ∷ ws) bs e = let q : ⊥ = cc in absurd q
listed (x ∷ xs) [] bs e = let q : ⊥ = cc in absurd q
listed (x ∷ xs) (w ∷ ws) bs e =
    let first : x.now ≡ word_spelling w = cc in
    let rest : map (λ x. x.now) xs ≡ map word_spelling ws = cc in
    ap (λ z. bytes_eq bs z || list_any (λ x. bytes_eq bs x.now) xs) first ∙ (ap (λ z. bytes_eq bs (word_spelling w) || z) (listed xs ws bs rest) ∙ by_test (bytes_eq bs (word_spelling w)))
  where
    by_test : (t : Bool) → (t || is_some (find (λ v. bytes_eq bs (word_spelling v)) ws)) ≡ is_some (cond t (Some w) (find (λ v. bytes_eq bs (word_spelling v)) ws))
    by_test true = refl
    by_test false = refl

pub last_byte : (bs : List ℕ) → 0 < length bs → nat_eq (get_or bs (length bs - 1) 0) 10 ≡ ends_line bs
last_byte [] h = absurd (omega (arith, h))
last_byte (b ∷ []) h = refl
last_byte (b ∷ c ∷ bs) h =
    let back : length (b ∷ c ∷ bs) - 1 ≡ suc (length (c ∷ bs) - 1) = omega arith in
    ap (λ z. nat_eq (get_or (b ∷ c ∷ bs) z 0) 10) back ∙ last_byte (c ∷ bs) (omega arith)
