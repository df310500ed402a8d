-- Colours as words: there is one way to read them.
use Rattle.std.proofs.Common.{◌≡◌, ℕ, ◌<◌, ◌^◌, true, false, refl, sym, ap, subst, ◌∙◌, arith, List, [], ◌∷◌, ◌++◌, append-nil, length, length-append, Vec, Bor, MatchOption, Option, Some, None}
use Rattle.std.specs.Prelude.{codes}
use Rattle.std.specs.Option.{is_some}
use Rattle.std.specs.declared.alloc.Global.{Global}
use Rattle.std.specs.List.{join_with_byte}
use Rattle.std.proofs.lemmas.Bool.{false≢true}
use Rattle.std.proofs.lemmas.List.{append_cancel_left}
use Rattle.op_num.specs.Spelling.{number_of}
use Rattle.op_num.specs.CutLines.{words}
use Rattle.op_num.proofs.Public.{joined}
use Rattle.loop_plan.specs.Spaced.{spaced}
use Rattle.plan_cert.specs.Awaited.{AreColours}
use Rattle.plan_cert.specs.Told.{ToldIs, TellsColours}
use Rattle.plan_cert.proofs.Lining.{AreDark, dark_append, number_dark, joined_spaced, content_cut}
use Rattle.lemmas.proofs.Lists.{head_same, tail_same, fronts_same}
use Rattle.std.proofs.lemmas.Option.{same_Some}

-- ---- lists

-- ---- colours

pub colours_long : (ws : List (List ℕ)) (cs : List ℕ) → AreColours ws cs → length ws ≡ length cs
colours_long [] [] h = refl
colours_long [] (c ∷ cs) h = absurd h
colours_long (w ∷ ws) [] h = absurd h
colours_long (w ∷ ws) (c ∷ cs) h = let e = colours_long ws cs h.2 in omega arith

pub colours_push : (ws : List (List ℕ)) (cs : List ℕ) (w : List ℕ) (c : ℕ) → number_of w ≡ Some c → c < 2 ^ 32 → AreColours ws cs → AreColours (ws ++ w ∷ []) (cs ++ c ∷ [])
colours_push [] [] w c e l h = (e, l, tt)
colours_push [] (d ∷ cs) w c e l h = absurd h
colours_push (v ∷ ws) [] w c e l h = absurd h
colours_push (v ∷ ws) (d ∷ cs) w c e l h = (h.0, h.1, colours_push ws cs w c e l h.2)

-- the next word behind some colours, where there are more
colour_next : (ws seen : List (List ℕ)) (cs : List ℕ) (w : List ℕ) (more rest : List (List ℕ)) → AreColours ws cs → length seen < length ws
    → seen ++ w ∷ rest ≡ ws ++ more → (c : ℕ) × (number_of w ≡ Some c) × (c < 2 ^ 32)
colour_next [] seen cs w more rest h l e = absurd (omega arith)
colour_next (v ∷ ws) seen [] w more rest h l e = absurd h
colour_next (v ∷ ws) [] (c ∷ cs) w more rest h l e = (c, subst (λ z. number_of z ≡ Some c) (sym (head_same w v rest (ws ++ more) e)) h.0, h.1)
colour_next (v ∷ ws) (u ∷ seen) (c ∷ cs) w more rest h l e = colour_next ws seen cs w more rest h.2 (omega arith) (tail_same u v (seen ++ w ∷ rest) (ws ++ more) e)

-- where more colours are told than were found, the next word is there, and is a colour
module _ (ws seen more rest : List (List ℕ)) (cs found : List ℕ) (told : AreColours ws cs) (so_far : AreColours seen found) (few : length found < length cs) where
  words_few : length seen < length ws
  words_few = let a = colours_long ws cs told in let b = colours_long seen found so_far in omega arith

  pub word_there : seen ++ rest ≡ ws ++ more → rest ≡ [] → ⊥
  word_there e n =
      let l : length (seen ++ rest) ≡ length (ws ++ more) = ap length e in
      let r : length rest ≡ 0 = ap length n in
      let few_words = words_few in
      omega (arith, length-append seen rest, length-append ws more)

  pub colour_there : (w : List ℕ) → seen ++ w ∷ rest ≡ ws ++ more → ((c : ℕ) → number_of w ≡ Some c → c < 2 ^ 32 → ⊥) → ⊥
  colour_there w e none = let k = colour_next ws seen cs w more rest told words_few e in none k.0 k.1 k.2

pub colours_one : (ws : List (List ℕ)) (cs ds : List ℕ) → AreColours ws cs → AreColours ws ds → cs ≡ ds
colours_one [] [] [] h k = refl
colours_one [] [] (d ∷ ds) h k = absurd k
colours_one [] (c ∷ cs) ds h k = absurd h
colours_one (w ∷ ws) [] ds h k = absurd h
colours_one (w ∷ ws) (c ∷ cs) [] h k = absurd k
colours_one (w ∷ ws) (c ∷ cs) (d ∷ ds) h k =
    let e : Some c ≡ Some d = sym h.0 ∙ k.0 in
    let same : c ≡ d = same_Some c d e in
    rw same (ap (λ zs. d ∷ zs) (colours_one ws cs ds h.2 k.2))

pub colours_dark : (ws : List (List ℕ)) (cs : List ℕ) → AreColours ws cs → AreDark ws
colours_dark [] cs h = tt
colours_dark (w ∷ ws) [] h = absurd h
colours_dark (w ∷ ws) (c ∷ cs) h = (number_dark w c h.0, colours_dark ws cs h.2)

-- ---- words of a line

-- words behind spaces are cut as they were joined
pub spaced_cut : (ws : List (List ℕ)) → AreDark ws → words (spaced ws) ≡ [] ∷ ws
spaced_cut ws h = ap words (sym (joined_spaced [] ws)) ∙ content_cut [] ws (refl, h)

pub spaced_from_cut : (bytes : List ℕ) (ws : List (List ℕ)) → words bytes ≡ [] ∷ ws → bytes ≡ spaced ws
spaced_from_cut bytes ws e = sym (joined bytes) ∙ (ap (join_with_byte 32) e ∙ joined_spaced [] ws)

-- ---- a line

-- what was read word by word is what the line tells
pub line_told : (front line behind : List ℕ) (blocks places : ℕ) (o1 o2 o3 o4 ws vs : List (List ℕ)) (bs cs : List ℕ)
    → line ≡ front ++ behind → words behind ≡ [] ∷ o1
    → o1 ≡ ws ++ o2 → AreColours ws bs → length bs ≡ blocks
    → o2 ≡ codes "inner" ∷ o3
    → o3 ≡ vs ++ o4 → AreColours vs cs → length cs ≡ places
    → o4 ≡ []
    → TellsColours front line blocks places bs cs
line_told front line behind blocks places o1 o2 o3 o4 ws vs bs cs e w a ab lb i c ac lc n = record {
  block_words = ws;
  inner_words = vs;
  are_blocks = ab;
  are_inner = ac;
  block_count = lb;
  inner_count = lc;
  is =
      let last : o3 ≡ vs = c ∙ (ap (λ z. vs ++ z) n ∙ append-nil vs) in
      let all : o1 ≡ ws ++ codes "inner" ∷ vs = a ∙ ap (λ z. ws ++ z) (i ∙ ap (λ z. codes "inner" ∷ z) last) in
      e ∙ ap (λ z. front ++ z) (spaced_from_cut behind (ws ++ codes "inner" ∷ vs) (w ∙ ap (λ z. [] ∷ z) all));
}

-- a line that tells colours is cut into them
pub line_cut : (front line behind : List ℕ) (blocks places : ℕ) (bs cs : List ℕ) → line ≡ front ++ behind
    → (t : TellsColours front line blocks places bs cs) → words behind ≡ [] ∷ (t.block_words ++ codes "inner" ∷ t.inner_words)
line_cut front line behind blocks places bs cs e t =
    let is : behind ≡ spaced (t.block_words ++ codes "inner" ∷ t.inner_words) = append_cancel_left front behind (spaced (t.block_words ++ codes "inner" ∷ t.inner_words)) (sym e ∙ t.is) in
    ap words is ∙ spaced_cut (t.block_words ++ codes "inner" ∷ t.inner_words)
    (dark_append t.block_words (codes "inner" ∷ t.inner_words) (colours_dark t.block_words bs t.are_blocks)
    (refl, colours_dark t.inner_words cs t.are_inner))

-- whether a word is left
abbrev NextIs : List (List ℕ) → List (List ℕ) → Option (Bor (List ℕ)) → Type 0
NextIs old new r = MatchOption r ((old ≡ []) × (new ≡ [])) (λ w. old ≡ w.now ∷ new)

pub word_left : (old new : List (List ℕ)) (r : Option (Bor (List ℕ))) → NextIs old new r → is_some r ≡ true → old ≡ [] → ⊥
word_left old new None h t n = false≢true t
word_left old new (Some w) h t n = let e : w.now ∷ new ≡ [] = sym h ∙ n in cc

pub no_word_left : (old new : List (List ℕ)) (r : Option (Bor (List ℕ))) → NextIs old new r → is_some r ≡ false → old ≡ []
no_word_left old new None h f = h.0
no_word_left old new (Some w) h f = absurd (false≢true (sym f))

-- where a line tells colours, each step of reading it finds them
module _ (front line behind : List ℕ) (blocks places : ℕ) (bs cs : List ℕ) (e : line ≡ front ++ behind) (t : TellsColours front line blocks places bs cs) where
  pub first_there : (o : List (List ℕ)) → o ≡ words behind → ((more : List (List ℕ)) → o ≡ [] ∷ more → ⊥) → ⊥
  first_there o w other = other (t.block_words ++ codes "inner" ∷ t.inner_words) (w ∙ line_cut front line behind blocks places bs cs e t)

  module _ (o o1 : List (List ℕ)) (w : o ≡ words behind) (next : o ≡ [] ∷ o1) where
    left : o1 ≡ t.block_words ++ codes "inner" ∷ t.inner_words
    left = tail_same [] [] o1 (t.block_words ++ codes "inner" ∷ t.inner_words) (sym next ∙ (w ∙ line_cut front line behind blocks places bs cs e t))

    pub blocks_there : (o2 : List (List ℕ)) (r : Option (Vec ℕ Global)) → r ≡ None → ToldIs o1 o2 blocks r → ⊥
    blocks_there o2 r n k = subst (ToldIs o1 o2 blocks) n k t.block_words (codes "inner" ∷ t.inner_words) bs left t.are_blocks t.block_count

    module _ (o2 : List (List ℕ)) (r : Option (Vec ℕ Global)) (v : Vec ℕ Global) (some : r ≡ Some v) (told : ToldIs o1 o2 blocks r) where
      behind_blocks : o2 ≡ codes "inner" ∷ t.inner_words
      behind_blocks =
          let k : ToldIs o1 o2 blocks (Some v) = subst (ToldIs o1 o2 blocks) some told in
          let a = colours_long k.0 v.items k.2 in
          let b = colours_long t.block_words bs t.are_blocks in
          let c = k.3 in
          let d = t.block_count in
          (fronts_same k.0 t.block_words o2 (codes "inner" ∷ t.inner_words) (omega arith) (sym k.1 ∙ left)).1

      pub inner_word_there : ((more : List (List ℕ)) → o2 ≡ codes "inner" ∷ more → ⊥) → ⊥
      inner_word_there other = other t.inner_words behind_blocks

      module _ (o3 : List (List ℕ)) (inner : o2 ≡ codes "inner" ∷ o3) where
        inner_left : o3 ≡ t.inner_words
        inner_left = tail_same (codes "inner") (codes "inner") o3 t.inner_words (sym inner ∙ behind_blocks)

        pub inner_there : (o4 : List (List ℕ)) (q : Option (Vec ℕ Global)) → q ≡ None → ToldIs o3 o4 places q → ⊥
        inner_there o4 q n k = subst (ToldIs o3 o4 places) n k t.inner_words [] cs (inner_left ∙ sym (append-nil t.inner_words)) t.are_inner t.inner_count

        pub none_behind : (o4 : List (List ℕ)) (q : Option (Vec ℕ Global)) (u : Vec ℕ Global) → q ≡ Some u → ToldIs o3 o4 places q → o4 ≡ []
        none_behind o4 q u n k =
            let j : ToldIs o3 o4 places (Some u) = subst (ToldIs o3 o4 places) n k in
            let a = colours_long j.0 u.items j.2 in
            let b = colours_long t.inner_words cs t.are_inner in
            let c = j.3 in
            let d = t.inner_count in
            (fronts_same j.0 t.inner_words o4 [] (omega arith) (sym j.1 ∙ (inner_left ∙ sym (append-nil t.inner_words)))).1
