-- Status 2 comes exactly where the words are refused, unless memory ran out; and status 3 only where a file could not be read, or is
-- missing.
use Rattle.std.proofs.Common.{◌≡◌, ◌⊎◌, inl, inr, ℕ, List, ◌∷◌, Option, Some, None, IsSome, Ok, Err, refl, sym, ap, ◌∙◌, subst, arith, []}
use Rattle.std.specs.Prelude.{codes}
use Rattle.std.specs.List.{Contains}
use Rattle.op_outside.specs.Outside.{Files, Rose}
use Rattle.clap.specs.Walk.{Row, first_of}
use Rattle.clap.specs.Simple.{matches_of}
use Rattle.clap.specs.Kinds.{Kinds}
use Rattle.clap.specs.Faults.{fault_of}
use Rattle.clap.specs.declared.error.kind.ErrorKind.TheVariants as kind
use Rattle.command_words.specs.Refusal.{Refusal, Usage, status_of}
use Rattle.command_words.specs.Lines.{Answer}
use Rattle.command_words.specs.Words.{Command, WordsAre, OptionWords, command, options_in, or_usage, by_job, asked, judged, named_by, names_in}
use Rattle.answers.specs.Answers.{Answers}
use Rattle.answers.specs.Endings.{Ending, Answered, OutOfMemory, Unread, Unwritten, ending_status, unwritten_status, Call, HoldAll, Tells, IsWritten, EndsBy, Ends, IsUsage, IsUnread}
use Rattle.answers.proofs.laws.Complete.{tells_some, unwritten_is}
use Rattle.answers.proofs.laws.OtherRefusals.{Lack}
use Rattle.answers.proofs.laws.SoundAnswers.{zero_two, one_two, three_two, four_two, nine_two, zero_three, four_three, nine_three, command_sound}

-- ---- words

or_usage_alone : (o : Option Command) (r : Refusal) → or_usage o ≡ Err r → r ≡ Usage
or_usage_alone None r e = cc
or_usage_alone (Some c) r e = absurd (let bad : ⊥ = cc in bad)

asked_alone : (job input mesh : Option (List ℕ)) (w : OptionWords) (r : Refusal) → asked job input mesh w ≡ Err r → r ≡ Usage
asked_alone (Some job) (Some input) mesh w r e = or_usage_alone (by_job job input mesh w) r e
asked_alone (Some job) None mesh w r e = cc
asked_alone None (Some input) mesh w r e = cc
asked_alone None None mesh w r e = cc

-- words are refused as words alone
judged_alone : (ks : Kinds) (rows : List Row) (r : Refusal) → judged ks rows ≡ Err r → r ≡ Usage
judged_alone [] rows r e =
    asked_alone (first_of (codes "JOB") rows) (first_of (codes "INPUT") rows) (first_of (codes "MESH") rows) (options_in rows) r e
judged_alone (kind.DisplayHelp ∷ ks) rows r e = absurd (let bad : ⊥ = cc in bad)
judged_alone (kind.DisplayVersion ∷ ks) rows r e = absurd (let bad : ⊥ = cc in bad)
judged_alone (k ∷ ks) rows r e = cc

usage_alone : (words : List (List ℕ)) (r : Refusal) → WordsAre words (Err r) → r ≡ Usage
usage_alone words r w = judged_alone (fault_of command words) (matches_of command words) r w

-- the words of an answer with status 2 are refused
words_refused : (words : List (List ℕ)) (files : Files) (a : Answer) → Answers words files a → a.status ≡ 2 → WordsAre words (Err Usage)
words_refused words files a (inl h) two = subst (λ r. WordsAre words (Err r)) (usage_alone words h.0 h.1) h.1
words_refused words files a (inr h) two = absurd ((command_sound h.0 files a h.2).0 two)

-- an answer with status 3 is of a missing file
words_lack : (words : List (List ℕ)) (files : Files) (a : Answer) → Answers words files a → a.status ≡ 3 → Lack (named_by words) files
words_lack words files a (inl h) three =
    let two : a.status ≡ 2 = ap (λ x. x.status) h.2 ∙ ap status_of (usage_alone words h.0 h.1) in
    absurd (let w : ◌≡◌ {A = ℕ} 3 2 = sym three ∙ two in cc)
words_lack words files a (inr h) three = subst (λ names. Lack names files) (sym (ap names_in h.1)) ((command_sound h.0 files a h.2).1 three)

-- refused words have the answer with status 2 alone
refused_words : (words : List (List ℕ)) (files : Files) (a : Answer) → WordsAre words (Err Usage) → Answers words files a → a.status ≡ 2
refused_words words files a w (inl h) = let e : Err h.0 ≡ Err Usage = sym h.1 ∙ w in let same : h.0 ≡ Usage = cc in ap (λ x. x.status) h.2 ∙ ap status_of same
refused_words words files a w (inr h) = let e : Ok h.0 ≡ Err Usage = sym h.1 ∙ w in let bad : ⊥ = cc in absurd bad

-- ---- calls

no_member : (name : List ℕ) → Contains [] name → ⊥
no_member name m = let lt = m.1 in omega (arith, lt)

told_refused : (words : List (List ℕ)) (told : Option Files) (a : Answer) → Tells words told a → a.status ≡ 2 → WordsAre words (Err Usage)
told_refused words told a h two = (let k = tells_some words told a h in words_refused words k.0 a k.1 two)

not_written : (a : Answer) → IsWritten a → a.status ≡ 2 → ⊥
not_written a (inl e) two = zero_two (sym e ∙ two)
not_written a (inr e) two = nine_two (sym e ∙ two)

unwritten_not : (a : Answer) → IsWritten a → unwritten_status a ≡ 2 → ⊥
unwritten_not a w two = by_status (unwritten_is a w)
  where
    by_status : (unwritten_status a ≡ a.status) ⊎ (unwritten_status a ≡ 4) → ⊥
    by_status (inl e) = not_written a w (sym e ∙ two)
    by_status (inr e) = four_two (sym e ∙ two)

pub usage : (c : Call) (status : ℕ) → Ends c status → IsUsage c status
usage c status ends = record { only = only ends.ending ends.is ends.cause; where_refused = back ends.ending ends.is ends.cause }
  where
    only : (e : Ending) → status ≡ ending_status e → EndsBy c e → status ≡ 2 → WordsAre c.words (Err Usage)
    only (Answered a) is h two = told_refused c.words c.told a h.0 (sym is ∙ two)
    only OutOfMemory is h two = absurd (one_two (sym is ∙ two))
    only (Unread name) is h two = absurd (three_two (sym is ∙ two))
    only (Unwritten a) is h two = absurd (unwritten_not a h.2 (sym is ∙ two))

    nameless : WordsAre c.words (Err Usage) → named_by c.words ≡ []
    nameless w = ap names_in w

    told_two : (a : Answer) → Tells c.words c.told a → WordsAre c.words (Err Usage) → a.status ≡ 2
    told_two a h w = (let k = tells_some c.words c.told a h in refused_words c.words k.0 a w k.1)

    back : (e : Ending) → status ≡ ending_status e → EndsBy c e → WordsAre c.words (Err Usage) → (status ≡ 2) ⊎ (status ≡ 1)
    back (Answered a) is h w = inl (is ∙ told_two a h.0 w)
    back OutOfMemory is h w = inr is
    back (Unread name) is h w = absurd (no_member name (subst (λ ns. Contains ns name) (nameless w) h.1))
    back (Unwritten a) is h w = absurd (not_written a h.2 (told_two a h.1 w))

-- ---- status 3

-- files that hold these names lack none of them
lack_none : (names : List (List ℕ)) (files : Files) → HoldAll names files → Lack names files → ⊥
lack_none names files hold (name, (k, below, is), none) = absent (files name) none (subst (λ n. IsSome (files n)) is (hold k name below))
  where
    absent : (o : Option (List ℕ)) → o ≡ None → IsSome o → ⊥
    absent None e h = (let bad : ⊥ = cc in bad)
    absent (Some v) e h = (let bad : ⊥ = cc in bad)

told_lack : (words : List (List ℕ)) (told : Option Files) (a : Answer) → Tells words told a → a.status ≡ 3
    → (files : Files) × (told ≡ Some files) × (name : List ℕ) × Contains (named_by words) name × (files name ≡ None)
told_lack words (Some files) a h three = (let k = words_lack words files a h three in (files, refl, k.0, k.1, k.2))
told_lack words None a h three = absurd (lack_none (named_by words) h.0 h.1 (words_lack words h.0 a h.2 three))

pub unread : (c : Call) (status : ℕ) → Ends c status → IsUnread c status
unread c status ends three = by ends.ending ends.is ends.cause
  where
    one_three : ◌≡◌ {A = ℕ} 1 3 → ⊥
    one_three e = cc

    Causes : Type 0
    Causes =
        Rose c.reads.0 c.reads.1
        ⊎ ((files : Files) × (c.told ≡ Some files) × (name : List ℕ) × Contains (named_by c.words) name × (files name ≡ None))

    by_unwritten : (a : Answer) → IsWritten a → (unwritten_status a ≡ a.status) ⊎ (unwritten_status a ≡ 4) → unwritten_status a ≡ 3 → ⊥
    by_unwritten a (inl w) (inl e) t = zero_three (sym w ∙ (sym e ∙ t))
    by_unwritten a (inr w) (inl e) t = nine_three (sym w ∙ (sym e ∙ t))
    by_unwritten a w (inr e) t = four_three (sym e ∙ t)

    by : (e : Ending) → status ≡ ending_status e → EndsBy c e → Causes
    by (Answered a) is h = inr (told_lack c.words c.told a h.0 (sym is ∙ three))
    by OutOfMemory is h = absurd (one_three (sym is ∙ three))
    by (Unread name) is h = inl h.0
    by (Unwritten a) is h = absurd (by_unwritten a h.2 (unwritten_is a h.2) (sym is ∙ three))
