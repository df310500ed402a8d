-- A text comes to one outcome, its owners or a refusal, and want of memory is none.
use Rattle.std.proofs.Common.{◌≡◌, ℕ, Bool, true, false, if◌then◌else◌, nat_eq, nat_lt, List, [], ◌∷◌, Option, Some, None, Result, Ok, Err, refl, sym, ◌∙◌, subst, inl, inr}
use Rattle.std.specs.Prelude.{slice_get}
use Rattle.op_num.specs.Spelling.{number_of}
use Rattle.op_num.specs.Cut.{Word, words}
use Rattle.op_num.specs.Automaton.{last_line, run, onto}
use Rattle.op_num.proofs.Public as exact
use Rattle.mesh_decl.specs.Mesh.{MeshValue, set_size}
use Rattle.partition.specs.declared.part_text.refusals.PartRefusal.{PartRefusal}
use Rattle.partition.specs.declared.part_text.refusals.PartRefusal.TheVariants.{Header, Syntax, UnknownSet, MissingSet, WrongCount, RankRange, OutOfMemory}
use Rattle.partition.specs.declared.part_text.token.Keyword.{Keyword}
use Rattle.partition.specs.declared.part_text.token.Keyword.TheVariants as keyword
use Rattle.partition.specs.Token.{is_magic, is_version, keyword_of}
use Rattle.partition.specs.Spelling.{Table}
use Rattle.partition.specs.Reading.{State, Magic, Version, Between, SetName, Count, Ranks, End, Read, Reads, Refuses, gathered, began, free_set, named, set_of, sized, ranked, step, finish}
use Rattle.partition.proofs.part_text.Exact.{Fronts, fronts_on, finish_is, spelled-run}
use Rattle.partition.proofs.part_text.Complete.{stands_through}

-- ---- each refusal has a cause

-- a value, or a refusal other than want of memory
abbrev Caused : {A : Type 0} → Result A PartRefusal → Type 0
Caused (Ok x) = Unit {0}
Caused (Err OutOfMemory) = ⊥
Caused (Err e) = Unit {0}

caused_onto : {A B : Type 0} (r : Result A PartRefusal) (f : A → B) → Caused r → Caused (onto r f)
caused_onto (Ok x) f h = tt
caused_onto (Err (Header l)) f h = tt
caused_onto (Err (Syntax l)) f h = tt
caused_onto (Err (UnknownSet l)) f h = tt
caused_onto (Err (MissingSet l)) f h = tt
caused_onto (Err (WrongCount l)) f h = tt
caused_onto (Err (RankRange l)) f h = tt
caused_onto (Err OutOfMemory) f h = absurd h

caused_if : {A : Type 0} (b : Bool) (r s : Result A PartRefusal) → Caused r → Caused s → Caused (if b then r else s)
caused_if true r s h k = h
caused_if false r s h k = k

gathered_caused : (line : ℕ) (t : Table) → Caused (gathered line t)
unfolding gathered
gathered_caused line [] = tt
gathered_caused line (None ∷ t) = tt
gathered_caused line (Some rs ∷ t) = caused_onto (gathered line t) _ (gathered_caused line t)

began_caused : (t : Table) (k : Option Keyword) (number : Option ℕ) (line : ℕ) → Caused (began t k number line)
began_caused t (Some keyword.Set) number line = tt
began_caused t (Some keyword.Done) number line = caused_onto (gathered line t) _ (gathered_caused line t)
began_caused t None None line = tt
began_caused t None (Some n) line = tt

free_caused : (k line : ℕ) (o : Option (Option (List ℕ))) → Caused (free_set k line o)
free_caused k line None = tt
free_caused k line (Some None) = tt
free_caused k line (Some (Some rs)) = tt

named_caused : (t : Table) (o : Option ℕ) (line : ℕ) → Caused (named t o line)
unfolding named
named_caused t None line = tt
named_caused t (Some k) line = free_caused k line (slice_get t k)

sized_caused : (size : ℕ) (o : Option ℕ) (line : ℕ) → Caused (sized size o line)
unfolding sized
sized_caused size None line = tt
sized_caused size (Some n) line = caused_if (nat_eq n size) _ _ tt tt

ranked_caused : (ranks : ℕ) (o : Option ℕ) (line : ℕ) → Caused (ranked ranks o line)
unfolding ranked
ranked_caused ranks None line = tt
ranked_caused ranks (Some r) line = caused_if (nat_lt r ranks) _ _ tt tt

finish_caused : (p : State) (line : ℕ) → Caused (finish p line)
finish_caused Magic line = tt
finish_caused Version line = tt
finish_caused (Between t) line = tt
finish_caused (SetName t) line = tt
finish_caused (Count t k) line = tt
finish_caused (Ranks t k left rs) line = tt
finish_caused (End owners) line = tt

module _ (g : MeshValue) (ranks : ℕ) where
  step_caused : (p : State) (w : Word) → Caused (step g ranks p w)
  unfolding step
  step_caused Magic w = caused_if (is_magic w.text) _ _ tt tt
  step_caused Version w = caused_if (is_version w.text) _ _ tt tt
  step_caused (Between t) w = began_caused t (keyword_of w.text) (number_of w.text) w.line
  step_caused (SetName t) w = caused_onto (named t (set_of g w.text) w.line) _ (named_caused t (set_of g w.text) w.line)
  step_caused (Count t k) w = caused_onto (sized (set_size g k) (number_of w.text) w.line) _ (sized_caused (set_size g k) (number_of w.text) w.line)
  step_caused (Ranks t k left rs) w = caused_onto (ranked ranks (number_of w.text) w.line) _ (ranked_caused ranks (number_of w.text) w.line)
  step_caused (End owners) w = tt

  pub refusals_have_causes : (bytes : List ℕ) → ¬ Refuses g ranks bytes OutOfMemory
  refusals_have_causes bytes (inl r) = subst Caused r.6 (step_caused r.3 r.1)
  refusals_have_causes bytes (inr r) = subst Caused r.2 (finish_caused r.0 (last_line 1 (words 1 bytes)))

  -- ---- one outcome

  run_is : (bytes : List ℕ) (o : Read) → Reads g ranks bytes o → run (step g ranks) finish Magic 1 (words 1 bytes) ≡ o
  run_is bytes (Ok owners) h = spelled-run g ranks bytes owners h
  run_is bytes (Err r) h = exact.refuses_run (step g ranks) finish Magic (Fronts g ranks) refl (fronts_on g ranks) (stands_through g ranks) (words 1 bytes) r h

  pub one_outcome : (bytes : List ℕ) (a b : Read) → Reads g ranks bytes a → Reads g ranks bytes b → a ≡ b
  one_outcome bytes a b h k = sym (run_is bytes a h) ∙ run_is bytes b k

  pub some_outcome : (bytes : List ℕ) → (o : Read) × Reads g ranks bytes o
  some_outcome bytes = by_run (run (step g ranks) finish Magic 1 (words 1 bytes)) refl
    where
      by_run : (o : Read) → run (step g ranks) finish Magic 1 (words 1 bytes) ≡ o → (o : Read) × Reads g ranks bytes o
      by_run (Ok owners) h =
          let f = exact.found_run (step g ranks) finish Magic (Fronts g ranks) refl (fronts_on g ranks) (stands_through g ranks) (words 1 bytes) owners h in
          (Ok owners, finish_is g ranks f.0 (last_line 1 (words 1 bytes)) owners _ f.1 f.2)
      by_run (Err r) h = (Err r, exact.refused_run (step g ranks) finish Magic (Fronts g ranks) refl (fronts_on g ranks) (stands_through g ranks) (words 1 bytes) r h)
