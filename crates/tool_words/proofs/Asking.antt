-- What `clap` answers is what the words ask for.
use Rattle.std.specs.declared.alloc.Global.{Global}
use Rattle.std.proofs.Common.{◌≡◌, ℕ, List, [], Option, Some, None, Vec, String, Result, Ok, Err, IfOk, IfErr, codes, true, inl, inr, ⊎_elim, refl, sym, subst}
use Rattle.clap.specs.Faults.{fault_of, is_simple_and_free}
use Rattle.clap.specs.Kinds.{HasKind, FailsBy}
use Rattle.clap.specs.Matches.{found_of, first_value}
use Rattle.clap.specs.declared.parser.matches.Found.{Found}
use Rattle.clap.specs.Simple.{App, HasMatchesOf, is_simple, matches_of}
use Rattle.clap.proofs.OnLiterals.{clap_on_literals}
use Rattle.clap.specs.Values.{kind_of}
use Rattle.clap.specs.Walk.{rows_of}
use Rattle.clap.proofs.WalkLemmas.{first_value-rows}
use Rattle.clap.specs.declared.error.Error.{Error}
use Rattle.clap.specs.declared.error.kind.ErrorKind.TheVariants as kind
use Rattle.clap.specs.declared.parser.matches.ArgMatches.{ArgMatches}
use Rattle.tool_words.specs.Words.{Command, command, given_in, asked, judged, by_kind, MatchesAre, Explains, call_in}
use Rattle.tool_words.specs.declared.asked.Asked.{Asked}
use Rattle.command_words.specs.declared.refusals.WordsRefusal.{WordsRefusal}
use Rattle.command_words.specs.declared.refusals.WordsRefusal.TheVariants.{Usage, OutOfMemory}
use Rattle.tool_words.specs.Values.{AsksBy, IsRead, IsReadWith, call_of, given_found}

-- what is asked for is so of the words
is_read : (words : List (List ℕ)) (r : Result Asked WordsRefusal) (o : Option Command) → MatchesAre words o → AsksBy r o → IsReadWith None words r
is_read words (Ok a) o are h = subst (MatchesAre words) h are
is_read words (Err Usage) o are h = subst (MatchesAre words) h are
is_read words (Err OutOfMemory) o are h = tt

-- with the call that the words have, or without one
pub with_call : (words : List (List ℕ)) (call : Option (Vec (String Global) Global)) (r : Result Asked WordsRefusal)
    → call_of call ≡ call_in words
    → IsReadWith (call_of call) words r
    → IsRead words r
with_call words call r e h = subst (λ c. IsReadWith c words r) e h

-- by a call in them
pub call_reads : (words call : List (List ℕ)) (r : Result Asked WordsRefusal) → AsksBy r (Some (Explains call)) → IsReadWith (Some call) words r
call_reads words call (Ok a) h = h
call_reads words call (Err Usage) h = h
call_reads words call (Err OutOfMemory) h = tt

given_are : (f : Found) → given_found f ≡ given_in (rows_of f)
given_are f =
    rw (
      first_value-rows f (codes "FIRST"),
      first_value-rows f (codes "SECOND"),
      first_value-rows f (codes "THIRD"),
      first_value-rows f (codes "FOURTH"),
      first_value-rows f (codes "FIFTH"),
      first_value-rows f (codes "ranks"),
      first_value-rows f (codes "parts"),
      first_value-rows f (codes "partition"),
      first_value-rows f (codes "renumber"),
      first_value-rows f (codes "block"),
      first_value-rows f (codes "plan"),
      first_value-rows f (codes "coords"),
      first_value-rows f (codes "cells"),
      first_value-rows f (codes "halos"),
      first_value-rows f (codes "colours"),
      first_value-rows f (codes "output"),
      first_value-rows f (codes "plain"),
      first_value-rows f (codes "metis"),
      first_value-rows f (codes "set"),
      first_value-rows f (codes "scale"),
      first_value-rows f (codes "dim"),
      first_value-rows f (codes "source"),
    ) refl

-- by the matches
pub matched_reads : (words : List (List ℕ)) (m : ArgMatches) (r : Result Asked WordsRefusal)
    → fault_of command words ≡ []
    → rows_of (found_of m) ≡ matches_of command words
    → AsksBy r (asked (first_value (found_of m) (codes "JOB")) (given_found (found_of m)))
    → IsReadWith None words r
matched_reads words m r none rows h = is_read words r (judged (matches_of command words)) (inl (none, refl)) (subst (AsksBy r) same h)
  where
    same : asked (first_value (found_of m) (codes "JOB")) (given_found (found_of m)) ≡ judged (matches_of command words)
    same = rw (first_value-rows (found_of m) (codes "JOB"), given_are (found_of m), rows) refl

-- by the kind of a refusal
pub refused_reads : (words : List (List ℕ)) (e : Error) (r : Result Asked WordsRefusal)
    → HasKind (fault_of command words) e
    → AsksBy r (by_kind (kind_of e))
    → (kind_of e ≡ kind.OutOfMemory → r ≡ Err OutOfMemory)
    → IsReadWith None words r
refused_reads words e r has asks memory =
    ⊎_elim
    (λ out. subst (IsReadWith None words) (sym (memory out)) tt)
    (λ among. is_read words r (by_kind (kind_of e)) (inr (kind_of e, among, refl)) asks)
    has

-- ---- the command
is_plain : is_simple command ≡ true
unfolding clap_on_literals
is_plain = refl

is_free : is_simple_and_free command ≡ true
unfolding clap_on_literals
is_free = refl

-- what `clap` shows of the command's words
pub matched_ok : (app : App) (ws words : List (List ℕ)) (r : Result ArgMatches Error)
    → app ≡ command
    → ws ≡ words
    → IfOk r (HasMatchesOf app ws)
    → (is_simple_and_free app ≡ true → FailsBy (fault_of app ws) r)
    → IfOk r (λ m. (fault_of command words ≡ []) × (rows_of (found_of m) ≡ matches_of command words))
matched_ok app ws words (Err e) a w has fails = tt
matched_ok app ws words (Ok m) a w has fails = go (rw (a, w) at has) (rw (a, w) at fails)
  where
    go : HasMatchesOf command words m
        → (is_simple_and_free command ≡ true → FailsBy {T = ArgMatches} (fault_of command words) (Ok m))
        → (fault_of command words ≡ []) × (rows_of (found_of m) ≡ matches_of command words)
    go has fails = (fails is_free, (has is_plain).0)

pub matched_err : (app : App) (ws words : List (List ℕ)) (r : Result ArgMatches Error)
    → app ≡ command
    → ws ≡ words
    → (is_simple_and_free app ≡ true → FailsBy (fault_of app ws) r)
    → IfErr r (HasKind (fault_of command words))
matched_err app ws words (Ok m) a w fails = tt
matched_err app ws words (Err e) a w fails = go (rw (a, w) at fails)
  where
    go : (is_simple_and_free command ≡ true → FailsBy {T = ArgMatches} (fault_of command words) (Err e)) → HasKind (fault_of command words) e
    go fails = fails is_free
