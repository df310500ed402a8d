-- The first line, and the words of a line.
use Rattle.std.proofs.Common.{◌≡◌, ℕ, suc, zero, ◌+◌, ◌<◌, ◌≤◌, Option, Some, None, MatchOption, ◌≢◌, Bor, Bool, true, false, cond, not, List, [], ◌∷◌, ◌++◌, length, take, drop, get_or, refl, sym, ap, subst, ◌∙◌, arith}
use Rattle.std.proofs.lemmas.Bool.{eqb-true, not-false, eq-eqb}
use Rattle.std.proofs.lemmas.List.{get_or-take, drop-drop}
use Rattle.std.proofs.lemmas.List.Folds.{length-prefix_len}
use Rattle.std.proofs.lemmas.List.Sums.{fails_before_first, split_at_first, prefix_len_stops}
use Rattle.std.proofs.lemmas.List.Splits.{join_with_byte-slice_split, slice_split_none, slice_split_at, slice_split_first}
use Rattle.std.specs.List.{All, onto_first, join_with_byte, position_or_len, before_first, after_first}
use Rattle.op_num.specs.CutLines.{is_lf, is_space, words, words_to_come, HasNoLf, HasNoSpace, Unread, IsTaken, Takes}
use Rattle.lemmas.proofs.Lists.{head_same, tail_same}

-- ---- lines

pub no_line : (bytes : List ℕ) → position_or_len is_lf bytes ≡ length bytes → HasNoLf bytes
no_line bytes e k d lt = fails_before_first is_lf bytes k d (omega arith)

pub line_taken : (old new : Unread) (line : List ℕ) → position_or_len is_lf old.rest < length old.rest → line ≡ before_first is_lf old.rest
    → new.rest ≡ after_first is_lf old.rest → new.taken ≡ old.taken + 1 → Takes old new line
line_taken old new line lt front back n = record {
  whole = (
      let n : ℕ = position_or_len is_lf old.rest in
      let at : is_lf (get_or old.rest n 0) ≡ true = not-false _ (prefix_len_stops (λ b. not (is_lf b)) old.rest 0 lt) in
      let is : get_or old.rest n 0 ≡ 10 = eqb-true _ _ at in
      split_at_first is_lf old.rest 0 lt ∙ ap (λ b. before_first is_lf old.rest ++ b ∷ after_first is_lf old.rest) is
      ∙ ap (λ l. l ++ 10 ∷ after_first is_lf old.rest) (sym front) ∙ ap (λ r. line ++ 10 ∷ r) (sym back));
  no_lf = λ k d h. (
      let e : length line ≡ length (take (position_or_len is_lf old.rest) old.rest) = ap length front in
      let s : length (take (position_or_len is_lf old.rest) old.rest) ≡ position_or_len is_lf old.rest = length-prefix_len (λ b. not (is_lf b)) old.rest in
      let below : k < position_or_len is_lf old.rest = omega arith in
      rw (front, get_or-take (position_or_len is_lf old.rest) old.rest k d below) (fails_before_first is_lf old.rest k d below));
  taken = n;
}

-- the same, by the pieces that the code cuts
pub line_cut : (u : Unread) (taken n : ℕ) (bytes line behind more : List ℕ) → record { taken = taken; rest = bytes } ≡ u
    → n ≡ position_or_len is_lf bytes → n ≤ length bytes → (n ≡ length bytes → ⊥) → line ≡ take n bytes → behind ≡ drop n bytes
    → more ≡ drop 1 behind → Takes u (record { taken = taken + 1; rest = more }) line
line_cut u taken n bytes line behind more is size within some front back next =
    let old : Unread = record { taken = taken; rest = bytes } in
    let new : Unread = record { taken = taken + 1; rest = more } in
    subst (λ v. Takes v new line) is
    (line_taken old new line (omega arith) (front ∙ ap (λ k. take k bytes) size) (next ∙ ap (drop 1) back ∙ drop-drop 1 n bytes ∙ ap (λ k. drop (k + 1) bytes) size) refl)

-- whether bytes begin with these, by the answer
abbrev Front : List ℕ → List ℕ → Option (Bor (List ℕ)) → Type 0
Front s p r = MatchOption r ((rest : List ℕ) → s ≢ p ++ rest) (λ x. s ≡ p ++ x.now)

pub front_there : (s p : List ℕ) (r : Option (Bor (List ℕ))) (x : Bor (List ℕ)) → Front s p r → r ≡ Some x → s ≡ p ++ x.now
front_there s p r x h e = subst (Front s p) e h

pub front_missing : (s p : List ℕ) (r : Option (Bor (List ℕ))) → Front s p r → r ≡ None → (rest : List ℕ) → s ≡ p ++ rest → ⊥
front_missing s p r h e = subst (Front s p) e h

-- bytes that come next
pub front_taken : (u : Unread) (taken : ℕ) (bytes line rest : List ℕ) → record { taken = taken; rest = bytes } ≡ u → bytes ≡ line ++ rest → IsTaken u (record { taken = taken + 1; rest = rest }) line
front_taken u taken bytes line rest is e =
    subst (λ (v : Unread). IsTaken v (record { taken = taken + 1; rest = rest }) line) is (record { whole = e; taken = refl })

-- the front byte of a line isn't LF, and the rest of it has none
front_no_lf : (b : ℕ) (bs : List ℕ) → HasNoLf (b ∷ bs) → is_lf b ≡ false
front_no_lf b bs h = h zero 0 (omega arith)

rest_no_lf : (b : ℕ) (bs : List ℕ) → HasNoLf (b ∷ bs) → HasNoLf bs
rest_no_lf b bs h k d lt = h (suc k) d (omega arith)

no_lf_at : (b : ℕ) → is_lf b ≡ false → b ≡ 10 → ⊥
no_lf_at b h e = let t : is_lf b ≡ true = eq-eqb b 10 e in cc

pub one_line : (line other rest more : List ℕ) → HasNoLf line → HasNoLf other → line ++ 10 ∷ rest ≡ other ++ 10 ∷ more → (line ≡ other) × (rest ≡ more)
one_line [] [] rest more h k e = (refl, tail_same 10 10 rest more e)
one_line [] (b ∷ bs) rest more h k e = absurd (no_lf_at b (front_no_lf b bs k) (sym (head_same 10 b rest (bs ++ 10 ∷ more) e)))
one_line (a ∷ fs) [] rest more h k e = absurd (no_lf_at a (front_no_lf a fs h) (head_same a 10 (fs ++ 10 ∷ rest) more e))
one_line (a ∷ fs) (b ∷ bs) rest more h k e =
    let is : a ≡ b = head_same a b (fs ++ 10 ∷ rest) (bs ++ 10 ∷ more) e in
    let more_same = one_line fs bs rest more (rest_no_lf a fs h) (rest_no_lf b bs k) (tail_same a b (fs ++ 10 ∷ rest) (bs ++ 10 ∷ more) e) in
    (rw is (ap (λ xs. b ∷ xs) more_same.0), more_same.1)

-- ---- words

-- the last word
pub last_word : (line : List ℕ) → position_or_len is_space line ≡ length line → words line ≡ line ∷ []
last_word line e = slice_split_none is_space line (λ k d lt. fails_before_first is_space line k d (omega arith))

-- a word in front of more
pub word_taken : (line word more : List ℕ) → position_or_len is_space line < length line → word ≡ before_first is_space line → more ≡ after_first is_space line → words line ≡ word ∷ words more
word_taken line word more lt front back =
    slice_split_first is_space line 0 lt ∙ ap (λ w. w ∷ words (after_first is_space line)) (sym front) ∙ ap (λ r. word ∷ words r) (sym back)

pub joined : (line : List ℕ) → join_with_byte 32 (words line) ≡ line
joined line = join_with_byte-slice_split 32 line

-- the same, by the pieces that the code cuts
pub word_cut : (ws : List (List ℕ)) (n : ℕ) (line word behind more : List ℕ) → words line ≡ ws → n ≡ position_or_len is_space line
    → n ≤ length line → (n ≡ length line → ⊥) → word ≡ take n line → behind ≡ drop n line → more ≡ drop 1 behind → ws ≡ word ∷ words more
word_cut ws n line word behind more is size within some front back next =
    sym is ∙ word_taken line word more (omega arith) (front ∙ ap (λ k. take k line) size) (next ∙ ap (drop 1) back ∙ drop-drop 1 n line ∙ ap (λ k. drop (k + 1) line) size)

-- what is left is this
pub left_is : (w : Option (Bor (List ℕ))) (line : Bor (List ℕ)) (ws : List (List ℕ)) → w ≡ Some line → words_to_come w ≡ ws → words line.now ≡ ws
left_is w line ws e h = ap words_to_come (sym e) ∙ h

-- a word in front of others
no_space_cons : (w : List ℕ) (ws : List (List ℕ)) → HasNoSpace w → All HasNoSpace ws → All HasNoSpace (w ∷ ws)
no_space_cons w ws h k zero d lt = h
no_space_cons w ws h k (suc i) d lt = k i d (omega arith)

byte_cons : (b : ℕ) (bs : List ℕ) → is_space b ≡ false → HasNoSpace bs → HasNoSpace (b ∷ bs)
byte_cons b bs h k zero d lt = h
byte_cons b bs h k (suc i) d lt = k i d (omega arith)

none_without_space : HasNoSpace []
none_without_space k d lt = absurd (omega arith)

none_of_words : All HasNoSpace []
none_of_words k d lt = absurd (omega arith)

onto_first_no_space : (b : ℕ) (ws : List (List ℕ)) → is_space b ≡ false → All HasNoSpace ws → All HasNoSpace (onto_first b ws)
onto_first_no_space b [] h k = no_space_cons (b ∷ []) [] (byte_cons b [] h none_without_space) none_of_words
onto_first_no_space b (w ∷ ws) h k = no_space_cons (b ∷ w) ws (byte_cons b w h (k zero [] (omega arith))) (λ i d lt. k (suc i) d (omega arith))

word_step : (b : ℕ) (ws : List (List ℕ)) (t : Bool) → is_space b ≡ t → All HasNoSpace ws → All HasNoSpace (cond t ([] ∷ ws) (onto_first b ws))
word_step b ws true e h = no_space_cons [] ws none_without_space h
word_step b ws false e h = onto_first_no_space b ws e h

pub no_spaces : (line : List ℕ) → All HasNoSpace (words line)
no_spaces [] = no_space_cons [] [] none_without_space none_of_words
no_spaces (b ∷ bs) = word_step b (words bs) (is_space b) refl (no_spaces bs)

pub one_cut : (w : List ℕ) (ws : List (List ℕ)) → HasNoSpace w → All HasNoSpace ws → words (join_with_byte 32 (w ∷ ws)) ≡ w ∷ ws
one_cut w [] h k = slice_split_none is_space w h
one_cut w (v ∷ vs) h k =
    slice_split_at is_space w 32 (join_with_byte 32 (v ∷ vs)) h refl
    ∙ ap (λ xs. w ∷ xs) (one_cut v vs (k zero [] (omega arith)) (λ i d lt. k (suc i) d (omega arith)))
