-- Whether words tell colours, and that they tell one.
use Rattle.std.proofs.Common.{◌≡◌, ℕ, zero, suc, ◌<◌, ◌≤◌, ◌^◌, inl, inr, ⊎_elim, refl, sym, ap, subst, ◌∙◌, arith, List, [], ◌∷◌, ◌++◌, append-nil, length, Option, Some, None}
use Rattle.std.specs.Prelude.{codes}
use Rattle.std.proofs.lemmas.Bool.{cases_lt}
use Rattle.std.proofs.lemmas.List.{append_cancel_left}
use Rattle.op_num.specs.Spelling.{number_of}
use Rattle.plan_cert.specs.Awaited.{AreColours}
use Rattle.plan_cert.proofs.Telling.{colours_long, colours_one}
use Rattle.plan_cert.proofs.Deciding.{Known, Begins, begins_known, bytes_known, longer}
use Rattle.lemmas.proofs.Lists.{fronts_same, head_same, tail_same}
use Rattle.std.proofs.lemmas.Option.{same_Some}

-- ---- so many at the front

-- the first words are so many colours
pub record Told (words : List (List ℕ)) (count : ℕ) : Type 0 where
  pub told : List (List ℕ)
  pub more : List (List ℕ)
  pub colours : List ℕ
  pub is : words ≡ told ++ more
  pub are : AreColours told colours
  pub many : length colours ≡ count

abbrev IsColour : List ℕ → Type 0
IsColour w = (c : ℕ) × (number_of w ≡ Some c) × (c < 2 ^ 32)

colour_by : (w : List ℕ) (o : Option ℕ) → number_of w ≡ o → Known (IsColour w)
colour_by w None e = inr (λ h. (let f : Some h.0 ≡ None = sym h.1 ∙ e in cc))
colour_by w (Some c) e = ⊎_elim
    (λ (l : c < 2 ^ 32). inl (c, e, l))
    (λ (l : 2 ^ 32 ≤ c). inr (λ h. (let same : h.0 ≡ c = same_Some h.0 c (sym h.1 ∙ e) in let m : h.0 < 2 ^ 32 = h.2 in omega arith)))
    (cases_lt c (2 ^ 32))

first_is : (w : List ℕ) (ws : List (List ℕ)) (count : ℕ) → Told (w ∷ ws) (suc count) → IsColour w × Told ws count
first_is w ws count t = go t.told t.colours t.is t.are t.many
  where
    go : (told : List (List ℕ)) (colours : List ℕ) → w ∷ ws ≡ told ++ t.more → AreColours told colours → length colours ≡ suc count → IsColour w × Told ws count
    go [] [] e a m = absurd (omega arith)
    go [] (c ∷ cs) e a m = absurd a
    go (v ∷ vs) [] e a m = absurd a
    go (v ∷ vs) (c ∷ cs) e a m = (
      (c, subst (λ z. number_of z ≡ Some c) (sym (head_same w v ws (vs ++ t.more) e)) a.0, a.1),
      record { told = vs; more = t.more; colours = cs; is = tail_same w v ws (vs ++ t.more) e; are = a.2; many = omega arith },
    )

told_more : (w : List ℕ) (ws : List (List ℕ)) (count : ℕ) → Known (IsColour w) → Known (Told ws count) → Known (Told (w ∷ ws) (suc count))
told_more w ws count (inl c) (inl t) = inl (record {
  told = w ∷ t.told;
  more = t.more;
  colours = c.0 ∷ t.colours;
  is = ap (λ zs. w ∷ zs) t.is;
  are = (c.1, c.2, t.are);
  many = ap suc t.many;
})
told_more w ws count (inl c) (inr h) = inr (λ t. h (first_is w ws count t).1)
told_more w ws count (inr h) k = inr (λ t. h (first_is w ws count t).0)

none_told : (count : ℕ) → Told [] (suc count) → ⊥
none_told count t =
    let a : length t.told ≡ suc count = colours_long t.told t.colours t.are ∙ t.many in
    let l : 0 ≡ length (t.told ++ t.more) = ap length t.is in
    go t.told l a
  where
    go : (told : List (List ℕ)) → 0 ≡ length (told ++ t.more) → length told ≡ suc count → ⊥
    go [] l a = omega arith
    go (v ∷ vs) l a = omega arith

pub told_known : (words : List (List ℕ)) (count : ℕ) → Known (Told words count)
told_known ws zero = inl (record { told = []; more = ws; colours = []; is = refl; are = tt; many = refl })
told_known [] (suc count) = inr (none_told count)
told_known (w ∷ ws) (suc count) = told_more w ws count (colour_by w (number_of w) refl) (told_known ws count)

-- ---- a line

-- behind these words come so many colours, `inner`, and so many more
pub record ToldBehind (fixed words : List (List ℕ)) (blocks places : ℕ) (of_blocks inner : List ℕ) : Type 0 where
  pub block_words : List (List ℕ)
  pub inner_words : List (List ℕ)
  pub are_blocks : AreColours block_words of_blocks
  pub are_inner : AreColours inner_words inner
  pub block_count : length of_blocks ≡ blocks
  pub inner_count : length inner ≡ places
  pub is : words ≡ fixed ++ (block_words ++ codes "inner" ∷ inner_words)

-- they tell one list of each
pub one_told : (fixed words : List (List ℕ)) (blocks places : ℕ) (bs cs ds es : List ℕ) → ToldBehind fixed words blocks places bs cs
    → ToldBehind fixed words blocks places ds es → (bs ≡ ds) × (cs ≡ es)
one_told fixed words blocks places bs cs ds es t u =
    let long : length t.block_words ≡ length u.block_words = colours_long t.block_words bs t.are_blocks ∙ (t.block_count ∙ (sym u.block_count ∙ sym (colours_long u.block_words ds u.are_blocks))) in
    let behind = append_cancel_left fixed (t.block_words ++ codes "inner" ∷ t.inner_words) (u.block_words ++ codes "inner" ∷ u.inner_words) (sym t.is ∙ u.is) in
    let same = fronts_same t.block_words u.block_words (codes "inner" ∷ t.inner_words) (codes "inner" ∷ u.inner_words) long behind in
    let inner = tail_same (codes "inner") (codes "inner") t.inner_words u.inner_words same.1 in (
      colours_one u.block_words bs ds (subst (λ z. AreColours z bs) same.0 t.are_blocks) u.are_blocks,
      colours_one u.inner_words cs es (subst (λ z. AreColours z cs) inner t.are_inner) u.are_inner,
    )

-- some colours
abbrev pub SomeTold : (fixed words : List (List ℕ)) (blocks places : ℕ) → Type 0
SomeTold fixed words blocks places = (bs : List ℕ) × (cs : List ℕ) × ToldBehind fixed words blocks places bs cs

-- words are all of so many colours
abbrev AllTold : List (List ℕ) → ℕ → Type 0
AllTold words count = (colours : List ℕ) × AreColours words colours × (length colours ≡ count)

all_told : (words : List (List ℕ)) (count : ℕ) → Known (Told words count) → Known (AllTold words count)
all_told ws count (inr h) = inr (λ a. h (record { told = ws; more = []; colours = a.0; is = sym (append-nil ws); are = a.1; many = a.2 }))
all_told ws count (inl t) = by_rest t.more refl
  where
    by_rest : (more : List (List ℕ)) → t.more ≡ more → Known (AllTold ws count)
    by_rest [] e = inl (t.colours, subst (λ z. AreColours z t.colours) (sym (t.is ∙ (ap (λ z. t.told ++ z) e ∙ append-nil t.told))) t.are, t.many)
    by_rest (v ∷ vs) e = inr (λ a. (
        let x : length ws ≡ length a.0 = colours_long ws a.0 a.1 in
        let y : length t.told ≡ length t.colours = colours_long t.told t.colours t.are in
        let m = a.2 in
        let n = t.many in
        let s = fronts_same ws t.told [] t.more (omega arith) (append-nil ws ∙ t.is) in
        longer v vs (s.1 ∙ e)))

inner_told : (words : List (List ℕ)) (count : ℕ) → Known ((inner : List (List ℕ)) × (words ≡ codes "inner" ∷ inner) × AllTold inner count)
inner_told [] count = inr (λ h. longer (codes "inner") h.0 h.1)
inner_told (w ∷ ws) count = both (bytes_known w (codes "inner")) (all_told ws count (told_known ws count))
  where
    both : Known (w ≡ codes "inner") → Known (AllTold ws count) → Known ((inner : List (List ℕ)) × (w ∷ ws ≡ codes "inner" ∷ inner) × AllTold inner count)
    both (inl e) (inl a) = inl (ws, ap (λ z. z ∷ ws) e, a)
    both (inl e) (inr h) = inr (λ k. h (subst (λ z. AllTold z count) (sym (tail_same w (codes "inner") ws k.0 k.1)) k.2))
    both (inr h) a = inr (λ k. h (head_same w (codes "inner") ws k.0 k.1))

behind_known : (fixed words rest : List (List ℕ)) (blocks places : ℕ) → words ≡ fixed ++ rest → Known (Told rest blocks) → Known (SomeTold fixed words blocks places)
behind_known fixed words rest blocks places e (inr h) = inr (λ s. (
    let t = s.2 in
    h (record {
      told = t.block_words;
      more = codes "inner" ∷ t.inner_words;
      colours = s.0;
      is = append_cancel_left fixed rest (t.block_words ++ codes "inner" ∷ t.inner_words) (sym e ∙ t.is);
      are = t.are_blocks;
      many = t.block_count;
    })))
behind_known fixed words rest blocks places e (inl b) = go (inner_told b.more places)
  where
    go : Known ((inner : List (List ℕ)) × (b.more ≡ codes "inner" ∷ inner) × AllTold inner places) → Known (SomeTold fixed words blocks places)
    go (inl i) = inl (
      b.colours,
      i.2.0,
      record {
        block_words = b.told;
        inner_words = i.0;
        are_blocks = b.are;
        are_inner = i.2.1;
        block_count = b.many;
        inner_count = i.2.2;
        is = e ∙ ap (λ z. fixed ++ z) (b.is ∙ ap (λ z. b.told ++ z) i.1);
      },
    )
    go (inr h) = inr (λ s. (
        let t = s.2 in
        let x : length t.block_words ≡ length s.0 = colours_long t.block_words s.0 t.are_blocks in
        let y : length b.told ≡ length b.colours = colours_long b.told b.colours b.are in
        let m = t.block_count in
        let n = b.many in
        let k = fronts_same b.told t.block_words b.more (codes "inner" ∷ t.inner_words) (omega arith)
        (sym b.is ∙ append_cancel_left fixed rest (t.block_words ++ codes "inner" ∷ t.inner_words) (sym e ∙ t.is)) in
        h (t.inner_words, k.1, (s.1, t.are_inner, t.inner_count))))

-- whether they tell some
pub told_behind : (fixed words : List (List ℕ)) (blocks places : ℕ) → Known (SomeTold fixed words blocks places)
told_behind fixed words blocks places = go (begins_known bytes_known fixed words)
  where
    go : Known (Begins fixed words) → Known (SomeTold fixed words blocks places)
    go (inl b) = behind_known fixed words b.0 blocks places b.1 (told_known b.0 blocks)
    go (inr h) = inr (λ s. h (s.2.block_words ++ codes "inner" ∷ s.2.inner_words, s.2.is))
