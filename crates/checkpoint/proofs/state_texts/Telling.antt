-- The values of a line, read word by word.
use Rattle.std.proofs.Common.{◌≡◌, ℕ, ℤ, pos, negsuc, ◌+◌, ◌<◌, ◌^◌, if◌then◌else◌, refl, sym, ap, subst, ◌∙◌, arith, List, [], ◌∷◌, ◌++◌, append_assoc, append-nil, length, length-append, Bool, true, false, not, nat_eq, Option, Some, None, MatchOption, Bor, Result, Ok, Err}
use Rattle.std.specs.Prelude.{FitsSigned}
use Rattle.std.specs.Int.{w32}
use Rattle.std.specs.Option.{is_some}
use Rattle.std.proofs.lemmas.Bool.Decides.{nat_tests}
use Rattle.std.proofs.lemmas.Bool.{false≢true}
use Rattle.op_num.specs.Spelling.{fits_i32, integer_of, i32_judged}
use Rattle.op_num.specs.declared.refusals.NumRefusal.{NumRefusal}
use Rattle.op_num.specs.declared.refusals.NumRefusal.TheVariants.{TooLarge}
use Rattle.op_num.specs.CutLines.{words}
use Rattle.op_num.proofs.Public.{joined}
use Rattle.checkpoint.specs.Reading.{Spell, HasValues}
use Rattle.checkpoint.specs.Judged.{ToldIs}
use Rattle.checkpoint.proofs.state_texts.Words.{row, words_row, spell_dark, spell_long, spell_push, dark_spaces}
use Rattle.checkpoint.proofs.state_texts.OneLine.{values_cut, words_cut}
use Rattle.lemmas.proofs.Lists.{empty_from_test, not_empty_from_test}

-- ---- what is pushed

fits : (z : ℤ) → fits_i32 z ≡ true → FitsSigned w32 z
fits (pos n) h = let l : n < 2 ^ 31 = grind (arith, nat_tests) in record { sfits = omega arith }
fits (negsuc n) h = let l : n < 2 ^ 31 = grind (arith, nat_tests) in record { sfits = omega arith }

pub judged_fits : (y : Option ℤ) (z : ℤ) → i32_judged y ≡ Ok z → FitsSigned w32 z
judged_fits None z e = cc
judged_fits (Some y) z e = by (fits_i32 y) refl e
  where
    by : (b : Bool) → fits_i32 y ≡ b → ◌≡◌ {A = Result ℤ NumRefusal} (if b then Ok y else Err TooLarge) (Ok z) → FitsSigned w32 z
    by true q e = let same : y ≡ z = cc in subst (FitsSigned w32) same (fits y q)
    by false q e = cc

-- ---- word by word

-- so many words were read, and their values pushed behind others
pub record Seen (line : List ℕ) (left : List (List ℕ)) (zs ws : List ℤ) (told : ℕ) : Type 0 where
  pub seen : List (List ℕ)
  pub more : List ℤ
  pub cut : words line ≡ seen ++ left
  pub spell : Spell seen more
  pub pushed : ws ≡ zs ++ more
  pub count : length more ≡ told

pub seen_none : (line : List ℕ) (left : List (List ℕ)) (zs : List ℤ) → left ≡ words line → Seen line left zs zs 0
seen_none line left zs e = record { seen = []; more = []; cut = sym e; spell = tt; pushed = sym (append-nil zs); count = refl }

pub seen_more : (line : List ℕ) (left next : List (List ℕ)) (zs ws vs : List ℤ) (told : ℕ) (w : List ℕ) (z : ℤ)
    → Seen line left zs ws told → left ≡ w ∷ next → i32_judged (integer_of w) ≡ Ok z → vs ≡ ws ++ z ∷ [] → Seen line next zs vs (told + 1)
seen_more line left next zs ws vs told w z s l j v = record {
  seen = s.seen ++ w ∷ [];
  more = s.more ++ z ∷ [];
  cut = s.cut ∙ (ap (λ (t : List (List ℕ)). s.seen ++ t) l ∙ sym (append_assoc s.seen (w ∷ []) next));
  spell = spell_push s.seen s.more w z j s.spell;
  pushed = v ∙ (ap (λ (t : List ℤ). t ++ z ∷ []) s.pushed ∙ append_assoc zs s.more (z ∷ []));
  count = (let e : length (s.more ++ z ∷ []) ≡ length s.more + 1 = length-append s.more (z ∷ []) in let n = s.count in omega arith);
}

-- the words of a line that has values
some_words : (line : List ℕ) (ws : List (List ℕ)) (zs : List ℤ) → Spell ws zs → 0 < length zs → line ≡ row ws → words line ≡ ws
some_words line [] [] s l e = absurd (omega arith)
some_words line [] (z ∷ zs) s l e = absurd s
some_words line (w ∷ ws) zs s l e = ap words e ∙ words_cut w ws (dark_spaces (w ∷ ws) (spell_dark (w ∷ ws) zs s))

pub words_are : (n : ℕ) (line : List ℕ) (zs : List ℤ) (h : HasValues n (line ++ 10 ∷ []) zs) → 0 < n → words line ≡ h.words
words_are n line zs h l = some_words line h.words zs h.spell (let e = h.count in omega arith) (values_cut n line zs h)

abbrev IsOk : Result ℤ NumRefusal → Type 0
IsOk (Ok z) = Unit {0}
IsOk (Err e) = ⊥

-- each of the words spells a value
spell_at : (seen : List (List ℕ)) (w : List ℕ) (next : List (List ℕ)) (zs : List ℤ) (e : NumRefusal) → Spell (seen ++ w ∷ next) zs → i32_judged (integer_of w) ≡ Err e → ⊥
spell_at [] w next [] e s j = s
spell_at [] w next (z ∷ zs) e s j = subst IsOk (sym s.0 ∙ j) tt
spell_at (v ∷ seen) w next [] e s j = s
spell_at (v ∷ seen) w next (z ∷ zs) e s j = spell_at seen w next zs e s.1 j

module _ (line : List ℕ) (left : List (List ℕ)) (zs ws : List ℤ) (told count : ℕ) (s : Seen line left zs ws told) where
  seen_long : length s.seen ≡ told
  seen_long = spell_long s.seen s.more s.spell ∙ s.count

  words_long : (more : List ℤ) → 0 < count → HasValues count (line ++ 10 ∷ []) more → told + length left ≡ count
  words_long more l h =
      let all : length (words line) ≡ length s.seen + length left = ap length s.cut ∙ length-append s.seen left in
      let mine : length (words line) ≡ length h.words = ap length (words_are count line more h l) in
      let long : length h.words ≡ length more = spell_long h.words more h.spell in
      let n = h.count in
      let k = seen_long in
      omega arith

  -- a word is missing
  pub told_short : left ≡ [] → told < count → (more : List ℤ) → HasValues count (line ++ 10 ∷ []) more → ⊥
  told_short e l more h =
      let n = words_long more (omega arith) h in
      let z : length left ≡ 0 = ap length e in
      omega arith

  -- a word is no number
  pub told_wrong : (w : List ℕ) (next : List (List ℕ)) (e : NumRefusal) → left ≡ w ∷ next → told < count → i32_judged (integer_of w) ≡ Err e
      → (more : List ℤ) → HasValues count (line ++ 10 ∷ []) more → ⊥
  told_wrong w next e l lt j more h =
      let is : h.words ≡ s.seen ++ w ∷ next = sym (words_are count line more h (omega arith)) ∙ (s.cut ∙ ap (λ (t : List (List ℕ)). s.seen ++ t) l) in
      spell_at s.seen w next more e (subst (λ (t : List (List ℕ)). Spell t more) is h.spell) j

  -- all were read
  pub told_all : left ≡ [] → told ≡ count → ToldIs line count zs ws true
  told_all e n = (
    s.more,
    s.pushed,
    record {
      words = s.seen;
      spell = s.spell;
      is = (
          let cut : words line ≡ s.seen = s.cut ∙ (ap (λ (t : List (List ℕ)). s.seen ++ t) e ∙ append-nil s.seen) in
          ap (λ (t : List ℕ). t ++ 10 ∷ []) (sym (joined line) ∙ ap row cut) ∙ sym (words_row s.seen));
      count = s.count ∙ n;
    },
  )

  -- there are more
  told_long : (w : List ℕ) (next : List (List ℕ)) → left ≡ w ∷ next → told ≡ count → 0 < count → ToldIs line count zs ws false
  told_long w next e n l more h =
      let k = words_long more l h in
      let z : length left ≡ length (w ∷ next) = ap length e in
      omega arith

  pub told_end : (new : List (List ℕ)) (r : Option (Bor (List ℕ))) (t : Bool) → is_some r ≡ not t
      → MatchOption r ((left ≡ []) × (new ≡ [])) (λ w. left ≡ w.now ∷ new) → told ≡ count → 0 < count → ToldIs line count zs ws t
  told_end new None true e m n l = told_all m.0 n
  told_end new None false e m n l = absurd (false≢true e)
  told_end new (Some w) true e m n l = absurd (false≢true (sym e))
  told_end new (Some w) false e m n l = told_long w.now new m n l

-- a line without values
pub told_empty : (line : List ℕ) (zs : List ℤ) (t : Bool) → t ≡ nat_eq (length line) 0 → (count : ℕ) → count ≡ 0 → ToldIs line count zs zs t
told_empty line zs true e count z = (
  [],
  sym (append-nil zs),
  record {
    words = [];
    spell = tt;
    is = ap (λ (l : List ℕ). l ++ 10 ∷ []) (empty_from_test line true e refl);
    count = sym z;
  },
)
told_empty line zs false e count z = λ more h. not_empty_from_test line false e refl (none h.words more h.spell (h.count ∙ z) (values_cut count line more h))
  where
    none : (ws : List (List ℕ)) (more : List ℤ) → Spell ws more → length more ≡ 0 → line ≡ row ws → line ≡ []
    none [] more s n l = l
    none (w ∷ ws) [] s n l = absurd s
    none (w ∷ ws) (y ∷ ys) s n l = absurd (omega arith)
