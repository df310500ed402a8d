-- What `clap` answers is what the words ask for.
use Rattle.std.proofs.Common.{◌≡◌, ℕ, List, [], ◌∷◌, Result, Ok, Err, IfOk, IfErr, codes, true, inl, inr, ⊎_elim, refl, sym, ap, subst}
use Rattle.clap.specs.Faults.{fault_of, is_simple_and_free}
use Rattle.clap.specs.Kinds.{IsAmong, HasKind, FailsBy}
use Rattle.clap.specs.Matches.{found_of, first_value}
use Rattle.clap.specs.declared.parser.matches.Found.{Found}
use Rattle.clap.specs.Simple.{App, HasMatchesOf, is_simple, matches_of}
use Rattle.clap.proofs.OnLiterals.{clap_on_literals}
use Rattle.clap.specs.Values.{kind_of}
use Rattle.clap.specs.Walk.{Row, rows_of}
use Rattle.clap.proofs.WalkLemmas.{first_value-rows}
use Rattle.clap.specs.declared.error.Error.{Error}
use Rattle.clap.specs.declared.error.kind.ErrorKind.{ErrorKind}
use Rattle.clap.specs.declared.error.kind.ErrorKind.TheVariants as kind
use Rattle.clap.specs.declared.parser.matches.ArgMatches.{ArgMatches}
use Rattle.op_num.specs.Automaton.{IsGiven, IsRefused}
use Rattle.command_words.specs.Refusal.{Refusal}
use Rattle.command_words.specs.Refusal as answer
use Rattle.command_words.specs.Words.{Command, command, options_in, asked, judged, WordsAre}
use Rattle.command_words.specs.Laws.{OptionsAreWithin}
use Rattle.command_words.specs.declared.asked.Asked.{Asked}
use Rattle.command_words.specs.declared.refusals.WordsRefusal.{WordsRefusal}
use Rattle.command_words.specs.declared.refusals.WordsRefusal.TheVariants.{Usage, OutOfMemory}
use Rattle.command_words.specs.Values.{AsksBy, command_of, options_found, IsInRange}

-- ---- from one answer to all that is promised

-- all that is promised of what was read
pub record IsRead (words : List (List ℕ)) (r : Result Asked WordsRefusal) : Type 0 where
  pub ok : IfOk r (λ a. WordsAre words (Ok (command_of a)))
  pub in_range : IfOk r IsInRange
  pub only : (c : Command) → WordsAre words (Ok c) → IsGiven OutOfMemory r (λ a. command_of a ≡ c)
  pub refused : r ≡ Err Usage → WordsAre words (Err answer.Usage)
  pub refuses : WordsAre words (Err answer.Usage) → IsRefused OutOfMemory r Usage

-- what is asked for is in range
in_range : OptionsAreWithin → (words : List (List ℕ)) (a : Asked) → WordsAre words (Ok (command_of a)) → IsInRange a
in_range law words a h = law words (command_of a) h

-- a judgement has one outcome
same_ok : (j : Result Command Refusal) (c d : Command) → j ≡ Ok c → j ≡ Ok d → c ≡ d
same_ok j c d e f = cc

ok_or_err : (j : Result Command Refusal) (c : Command) (r : Refusal) → j ≡ Ok c → j ≡ Err r → ⊥
ok_or_err j c r e f = cc

-- one answer
is_read : OptionsAreWithin → (words : List (List ℕ)) (r : Result Asked WordsRefusal)
    → AsksBy r (judged (fault_of command words) (matches_of command words))
    → IsRead words r
is_read law words (Ok a) h = record {
  ok = h;
  in_range = in_range law words a h;
  only = λ c e. same_ok (judged (fault_of command words) (matches_of command words)) (command_of a) c h e;
  refused = λ e. cc;
  refuses = λ e. ok_or_err (judged (fault_of command words) (matches_of command words)) (command_of a) answer.Usage h e;
}
is_read law words (Err Usage) h = record {
  ok = tt;
  in_range = tt;
  only = λ c e. absurd (ok_or_err (judged (fault_of command words) (matches_of command words)) c answer.Usage e h);
  refused = λ e. h;
  refuses = λ e. inr refl;
}
is_read law words (Err OutOfMemory) h = record {
  ok = tt;
  in_range = tt;
  only = λ c e. refl;
  refused = λ e. cc;
  refuses = λ e. inl refl;
}

-- ---- from `clap`'s answer to that one

options_are : (f : Found) → options_found f ≡ options_in (rows_of f)
options_are f =
    rw (
      first_value-rows f (codes "form"),
      first_value-rows f (codes "ranks"),
      first_value-rows f (codes "parts"),
      first_value-rows f (codes "partition"),
      first_value-rows f (codes "renumber"),
      first_value-rows f (codes "block"),
      first_value-rows f (codes "plan"),
      first_value-rows f (codes "at"),
      first_value-rows f (codes "from"),
      first_value-rows f (codes "schedule"),
      first_value-rows f (codes "seed"),
      first_value-rows f (codes "workers"),
      first_value-rows f (codes "chain"),
      first_value-rows f (codes "dump"),
    ) refl

-- by the matches
pub matched_reads : OptionsAreWithin → (words : List (List ℕ)) (m : ArgMatches) (r : Result Asked WordsRefusal)
    → fault_of command words ≡ []
    → rows_of (found_of m) ≡ matches_of command words
    → AsksBy r (asked (first_value (found_of m) (codes "JOB")) (first_value (found_of m) (codes "INPUT"))
    (first_value (found_of m) (codes "MESH")) (options_found (found_of m)))
    → IsRead words r
matched_reads law words m r none rows h = is_read law words r (subst (AsksBy r) same h)
  where
    same : asked (first_value (found_of m) (codes "JOB")) (first_value (found_of m) (codes "INPUT")) (first_value (found_of m) (codes "MESH")) (options_found (found_of m))
        ≡ judged (fault_of command words) (matches_of command words)
    same =
        rw (none, first_value-rows (found_of m) (codes "JOB"), first_value-rows (found_of m) (codes "INPUT"), first_value-rows (found_of m) (codes "MESH"), options_are (found_of m), rows) refl

-- by the one kind of a refusal
pub refused_reads : OptionsAreWithin → (words : List (List ℕ)) (e : Error) (r : Result Asked WordsRefusal)
    → ((k : ErrorKind) → IsAmong k (fault_of command words) → fault_of command words ≡ k ∷ [])
    → HasKind (fault_of command words) e
    → ((rows : List Row) → AsksBy r (judged (kind_of e ∷ []) rows))
    → (kind_of e ≡ kind.OutOfMemory → r ≡ Err OutOfMemory)
    → IsRead words r
refused_reads law words e r one has asks memory =
    ⊎_elim
    (λ out. subst (IsRead words) (sym (memory out)) (is_read law words (Err OutOfMemory) tt))
    (λ among. is_read law words r (subst (AsksBy r) (sym (ap (λ ks. judged ks (matches_of command words)) (one (kind_of e) among))) (asks (matches_of command words))))
    has

-- ---- the command

is_plain : is_simple command ≡ true
unfolding clap_on_literals
is_plain = refl

is_free : is_simple_and_free command ≡ true
unfolding clap_on_literals
is_free = refl

-- what `clap` shows of the command's words
pub matched_ok : (app : App) (ws words : List (List ℕ)) (r : Result ArgMatches Error)
    → app ≡ command
    → ws ≡ words
    → IfOk r (HasMatchesOf app ws)
    → (is_simple_and_free app ≡ true → FailsBy (fault_of app ws) r)
    → IfOk r (λ m. (fault_of command words ≡ []) × (rows_of (found_of m) ≡ matches_of command words))
matched_ok app ws words (Err e) a w has fails = tt
matched_ok app ws words (Ok m) a w has fails = go (rw (a, w) at has) (rw (a, w) at fails)
  where
    go : HasMatchesOf command words m
        → (is_simple_and_free command ≡ true → FailsBy {T = ArgMatches} (fault_of command words) (Ok m))
        → (fault_of command words ≡ []) × (rows_of (found_of m) ≡ matches_of command words)
    go has fails = (fails is_free, (has is_plain).0)

pub matched_err : (app : App) (ws words : List (List ℕ)) (r : Result ArgMatches Error)
    → app ≡ command
    → ws ≡ words
    → (is_simple_and_free app ≡ true → FailsBy (fault_of app ws) r)
    → IfErr r (HasKind (fault_of command words))
matched_err app ws words (Ok m) a w fails = tt
matched_err app ws words (Err e) a w fails = go (rw (a, w) at fails)
  where
    go : (is_simple_and_free command ≡ true → FailsBy {T = ArgMatches} (fault_of command words) (Err e)) → HasKind (fault_of command words) e
    go fails = fails is_free
