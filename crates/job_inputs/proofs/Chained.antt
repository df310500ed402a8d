-- What parts of the code show, put together: from the parts of the chain of judgements to the whole.
use Rattle.std.proofs.Common.{◌≡◌, ℕ, suc, arith, Bool, true, false, List, [], ◌∷◌, ◌++◌, get_or, Option, None, Some, IfSome, IsSome, Result, Ok, Err, IfOk, IfErr, refl, ap, sym, subst, ◌∙◌}
use Rattle.std.specs.List.{Contains}
use Rattle.std.specs.Str.{bytes_eq}
use Rattle.std.proofs.lemmas.Slice.Eq.{bytes_eq-Decides}
use Rattle.op_outside.specs.Outside.{Files}
use Rattle.job_inputs.specs.Seen.{Seen, nothing_seen, Agree, IsSight}
use Rattle.job_inputs.specs.Readings.{Readings, names_of, readings_of, AreNext, HaveCome, IsSeen, Finds}
use Rattle.job_inputs.proofs.kept_files.Seeing.{agree_before, grows_on}
use Rattle.job_inputs.proofs.kept_files.Finding.{nothing_is_seen, finds_on, finds_weaker, finds_last, finds_always}
use Rattle.command_words.specs.Refusal.{Refusal, CannotRead}
use Rattle.command_words.specs.Lines as lines
use Rattle.command_words.specs.Lines.{refused}
use Rattle.answers.specs.Answers.{without}
use Rattle.command_words.specs.declared.answer_lines.call_answer.Answer.{Answer}
use Rattle.command_words.specs.declared.answer_lines.refusals.Failure.TheVariants.{Unread, OutOfMemory}
use Rattle.command_words.specs.declared.answer_lines.refusals.Halt.{Halt}
use Rattle.command_words.specs.declared.answer_lines.refusals.Halt.TheVariants.{Refused, Failed}
use Rattle.command_words.specs.Halts.{refusal_of, StopsWhere, answer_of}
use Rattle.job_inputs.specs.Chains.{AnswersBy, Misses, HaltsOver, AnswersFrom, Over, AnswersOver}

-- ---- results

-- what is so of a refusal, or of a value, where it follows
pub if_err_weaker : {X E : Type 0} (r : Result X E) (P Q : E → Type 0) → ((e : E) → P e → Q e) → IfErr r P → IfErr r Q
if_err_weaker (Ok x) P Q step h = tt
if_err_weaker (Err e) P Q step h = step e h

pub if_ok_weaker : {X E : Type 0} (r : Result X E) (P Q : X → Type 0) → ((x : X) → P x → Q x) → IfOk r P → IfOk r Q
if_ok_weaker (Ok x) P Q step h = step x h
if_ok_weaker (Err e) P Q step h = tt

-- ---- names of files

contains_later : (m n : List ℕ) (ns : List (List ℕ)) → Contains ns n → Contains (m ∷ ns) n
contains_later m n ns (k, below, is) = (suc k, omega (arith, below), is)

pub contains_behind : (xs ys : List (List ℕ)) (name : List ℕ) → Contains ys name → Contains (xs ++ ys) name
contains_behind [] ys name c = c
contains_behind (x ∷ xs) ys name c = contains_later x name (xs ++ ys) (contains_behind xs ys name c)

-- what is still to come behind these readings was to come before
pub still_named : (names : List (List ℕ)) (old new : Readings) → AreNext names old → HaveCome names old new
    → (name : List ℕ) → Contains (names_of new) name → Contains (names_of old) name
still_named names old new next come name c =
    subst (λ ns. Contains ns name) (sym next.1) (contains_behind names next.0 name (subst (λ ns. Contains ns name) (come next.0 next.1) c))

pub names_are : (names : List (List ℕ)) → names_of (readings_of names) ≡ names
names_are [] = refl
names_are (n ∷ ns) = ap (λ z. n ∷ z) (names_are ns)

-- ---- a file that is missing

-- files without one that was not seen are as they were seen
agree_without : (seen : Seen) (name : List ℕ) (files : Files) → seen name ≡ None → Agree seen files → Agree seen (without name files)
agree_without seen name files unseen agree other = by (bytes_eq other name) refl
  where
    by : (x : Bool) → bytes_eq other name ≡ x → IfSome (seen other) (λ held. without name files other ≡ held)
    by true e = subst (λ o. IfSome o (λ held. without name files other ≡ held)) (sym (ap seen ((bytes_eq-Decides other name).0 e) ∙ unseen)) tt
    by false e = subst (λ z. IfSome (seen other) (λ held. z ≡ held)) (sym (is_there e)) (agree other)
      where
        is_there : bytes_eq other name ≡ false → without name files other ≡ files other
        is_there e = rw e refl

-- ---- parts

-- where no files are told, some are as they were seen, and hold every name
abbrev pub SomeAreSeen : Type 0
SomeAreSeen = (seen : Seen) → IsSight None seen → (files : Files) × Agree seen files × ((name : List ℕ) → IsSome (files name))

module _ (told : Option Files) (rose : Type 0) where
  pub halts_weaker : (rs : Readings) (J K : Files → Refusal → Type 0) (h : Halt) → ((files : Files) (r : Refusal) → J files r → K files r)
      → HaltsOver told rs J rose h
      → HaltsOver told rs K rose h
  halts_weaker rs J K (Refused r) step k = finds_weaker told rs [] (λ files. J files (refusal_of r)) (λ files. K files (refusal_of r)) (λ files. step files (refusal_of r)) k
  halts_weaker rs J K (Failed (Unread n)) step k = (k.0, k.1, misses)
    where
      misses : (before : Seen) → IsSeen told rs before → Misses told before n.now (λ files. K files (CannotRead n.now))
      misses before seen =
          let m = k.2 before seen in
          record {
            after = m.after;
            grows = m.grows;
            sight = m.sight;
            unseen = m.unseen;
            all = λ files agree. step (without n.now files) (CannotRead n.now) (m.all files agree);
          }
  halts_weaker rs J K (Failed OutOfMemory) step k = tt

  module _ (old mid : Readings) (K : Files → Type 0) (found : Finds told old mid K) where
    -- what ends a part behind one that found K
    pub halts_on : (J P : Files → Refusal → Type 0) (h : Halt)
        → ((name : List ℕ) → Contains (names_of mid) name → Contains (names_of old) name)
        → ((files : Files) (r : Refusal) → K files → J files r → P files r)
        → HaltsOver told mid J rose h
        → HaltsOver told old P rose h
    halts_on J P (Refused r) named step k =
        finds_weaker told old [] (λ files. K files × J files (refusal_of r)) (λ files. P files (refusal_of r)) (λ files b. step files (refusal_of r) b.0 b.1)
        (finds_on told old mid [] K (λ files. J files (refusal_of r)) found k)
    halts_on J P (Failed (Unread n)) named step k = (k.0, named n.now k.1, misses)
      where
        misses : (before : Seen) → IsSeen told old before → Misses told before n.now (λ files. P files (CannotRead n.now))
        misses before seen =
            let a = found before seen in
            let m = k.2 a.after a.seen in
            record {
              after = m.after;
              grows = grows_on before a.after m.after a.grows m.grows;
              sight = m.sight;
              unseen = m.unseen;
              all = λ files agree.
                  step (without n.now files) (CannotRead n.now)
                  (a.all (without n.now files) (agree_before a.after m.after (without n.now files) m.grows (agree_without m.after n.now files m.unseen agree)))
                  (m.all files agree);
            }
    halts_on J P (Failed OutOfMemory) named step k = tt

    -- what ends a part that reads no file, behind one that found K
    pub stops_on : (J : Refusal → Type 0) (P : Files → Refusal → Type 0) (h : Halt)
        → ((files : Files) (r : Refusal) → K files → J r → P files r)
        → StopsWhere J h
        → HaltsOver told old P rose h
    stops_on J P (Refused r) step s =
        finds_weaker told old [] K (λ files. P files (refusal_of r)) (λ files k. step files (refusal_of r) k s) (finds_last told old mid K found)
    stops_on J P (Failed (Unread n)) step s = absurd s
    stops_on J P (Failed OutOfMemory) step s = tt

    pub answers_on : (Q P : Files → lines.Answer → Type 0) (r : Result Answer Halt)
        → ((name : List ℕ) → Contains (names_of mid) name → Contains (names_of old) name)
        → ((files : Files) (a : lines.Answer) → K files → Q files a → P files a)
        → AnswersFrom told mid Q rose r
        → AnswersFrom told old P rose r
    answers_on Q P (Ok a) named step k =
        finds_weaker told old [] (λ files. K files × Q files (answer_of a)) (λ files. P files (answer_of a)) (λ files b. step files (answer_of a) b.0 b.1)
        (finds_on told old mid [] K (λ files. Q files (answer_of a)) found k)
    answers_on Q P (Err h) named step k =
        halts_on (λ files r. Q files (refused r)) (λ files r. P files (refused r)) h named (λ files r. step files (refused r)) k

    pub answers_by : (Q : lines.Answer → Type 0) (P : Files → lines.Answer → Type 0) (r : Result Answer Halt)
        → ((files : Files) (a : lines.Answer) → K files → Q a → P files a)
        → AnswersBy Q r
        → AnswersFrom told old P rose r
    answers_by Q P (Ok a) step k = finds_weaker told old [] K (λ files. P files (answer_of a)) (λ files x. step files (answer_of a) x k) (finds_last told old mid K found)
    answers_by Q P (Err h) step k = stops_on (λ r. Q (refused r)) (λ files r. P files (refused r)) h (λ files r. step files (refused r)) k

  -- nothing has to be found before
  abbrev Always : Files → Type 0
  Always files = Unit {0}

  always : (rs : Readings) → Finds told rs rs Always
  always rs = finds_always told rs Always (λ files. tt)

  pub finds_from : (rs : Readings) (K : Files → Type 0) → ((files : Files) → K files) → Finds told rs [] K
  finds_from rs K all = finds_last told rs rs K (finds_always told rs K all)

  pub stops_always : (rs : Readings) (J : Refusal → Type 0) (P : Files → Refusal → Type 0) (h : Halt)
      → ((files : Files) (r : Refusal) → J r → P files r)
      → StopsWhere J h
      → HaltsOver told rs P rose h
  stops_always rs J P h step s = stops_on rs rs Always (always rs) J P h (λ files r u. step files r) s

  pub answers_always : (rs : Readings) (Q : lines.Answer → Type 0) (P : Files → lines.Answer → Type 0) (r : Result Answer Halt)
      → ((files : Files) (a : lines.Answer) → Q a → P files a)
      → AnswersBy Q r
      → AnswersFrom told rs P rose r
  answers_always rs Q P r step k = answers_by rs rs Always (always rs) Q P r (λ files a u. step files a) k

  -- ---- the whole

  module _ (some : SomeAreSeen) (names : List (List ℕ)) (P : Files → lines.Answer → Type 0) where
    over : (t : Option Files) (a : lines.Answer) (after : Seen) → IsSight t after → ((files : Files) → Agree after files → P files a) → Over t names P a
    over (Some files) a after sight all = all files sight.so
    over None a after sight all = (let f = some after sight in (f.0, λ k d lt. f.2 (get_or names k d), all f.0 f.1))

    found_over : (a : lines.Answer) → Finds told (readings_of names) [] (λ files. P files a) → Over told names P a
    found_over a found = (let k = found nothing_seen (nothing_is_seen told names) in over told a k.after k.seen.sight k.all)

    pub to_whole : (r : Result Answer Halt) → AnswersFrom told (readings_of names) P rose r → AnswersOver told names P rose r
    to_whole (Ok a) k = found_over (answer_of a) k
    to_whole (Err (Refused r)) k = found_over (refused (refusal_of r)) k
    to_whole (Err (Failed (Unread n))) k = (k.0, subst (λ ns. Contains ns n.now) (names_are names) k.1, asked)
      where
        over_missing : (t : Option Files) (after : Seen) → IsSight t after → ((files : Files) → Agree after files → P (without n.now files) (refused (CannotRead n.now)))
            → Over t names (λ files a. P (without n.now files) a) (refused (CannotRead n.now))
        over_missing (Some files) after sight all = all files sight.so
        over_missing None after sight all = (let f = some after sight in (f.0, λ k d lt. f.2 (get_or names k d), all f.0 f.1))

        asked : Over told names (λ files a. P (without n.now files) a) (refused (CannotRead n.now))
        asked = (let m = k.2 nothing_seen (nothing_is_seen told names) in over_missing told m.after m.sight m.all)
    to_whole (Err (Failed OutOfMemory)) k = tt
