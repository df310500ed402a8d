-- A text comes to one outcome, its entries or a refusal, and want of memory is none.
use Rattle.std.proofs.Common.{◌≡◌, ℕ, ℤ, Bool, true, false, if◌then◌else◌, nat_le, nat_lt, ◌+◌, ◌^◌, List, Option, Some, None, Result, Ok, Err, refl, sym, ◌∙◌, subst, inl, inr}
use Rattle.op_num.specs.declared.refusals.NumRefusal.{NumRefusal}
use Rattle.op_num.specs.declared.refusals.NumRefusal.TheVariants.{NotDigits, TooLarge}
use Rattle.op_num.specs.Cut.{Word, words}
use Rattle.op_num.specs.Automaton.{last_line, run, onto}
use Rattle.op_num.proofs.Public as exact
use Rattle.mesh_decl.specs.declared.text.entry.Form.{Form}
use Rattle.mesh_decl.specs.declared.text.entry.MeshRefusal.{MeshRefusal}
use Rattle.mesh_decl.specs.declared.text.entry.MeshRefusal.TheVariants.{Header, Syntax, DuplicateEntry, WrongCount, NumberRange, Limit, OutOfMemory}
use Rattle.mesh_decl.specs.declared.text.entry.TheConstants.{MESH_VALUES}
use Rattle.mesh_decl.specs.declared.text.token.Keyword.{Keyword}
use Rattle.mesh_decl.specs.declared.text.token.Keyword.TheVariants as keyword
use Rattle.mesh_decl.specs.declared.text.piece.Piece.{Piece}
use Rattle.mesh_decl.specs.declared.text.piece.Piece.TheVariants.{Values, NoPiece, OutOfRange, NoTimes}
use Rattle.mesh_decl.specs.Token.{is_c_name, is_magic, version_of, keyword_of}
use Rattle.mesh_decl.specs.Piece.{piece_of}
use Rattle.mesh_decl.specs.Spelling.{Named, total, has_name}
use Rattle.mesh_decl.specs.Reading.{State, Magic, Version, Between, OneName, ManyName, OneValue, Count, Pieces, End, Read, Reads, Refuses, versioned, stray, began, named, room_for, one_of, count_of, given, step, finish}
use Rattle.mesh_decl.proofs.text.Exact.{Fronts, fronts_on, finish_is, end_spells, spelled-run}
use Rattle.mesh_decl.proofs.text.Complete.{stands_through}

-- ---- each refusal has a cause

-- a value, or a refusal other than want of memory
abbrev Caused : {A : Type 0} → Result A MeshRefusal → Type 0
Caused (Ok x) = Unit {0}
Caused (Err OutOfMemory) = ⊥
Caused (Err e) = Unit {0}

caused_onto : {A B : Type 0} (r : Result A MeshRefusal) (f : A → B) → Caused r → Caused (onto r f)
caused_onto (Ok x) f h = tt
caused_onto (Err (Header l)) f h = tt
caused_onto (Err (Syntax l)) f h = tt
caused_onto (Err (DuplicateEntry l)) f h = tt
caused_onto (Err (WrongCount l)) f h = tt
caused_onto (Err (NumberRange l)) f h = tt
caused_onto (Err (Limit n)) f h = tt
caused_onto (Err OutOfMemory) f h = absurd h

caused_if : {A : Type 0} (b : Bool) (r s : Result A MeshRefusal) → Caused r → Caused s → Caused (if b then r else s)
caused_if true r s h k = h
caused_if false r s h k = k

versioned_caused : (f : Option Form) (line : ℕ) → Caused (versioned f line)
versioned_caused None line = tt
versioned_caused (Some f) line = tt

stray_caused : (p : Piece) (line : ℕ) → Caused {A = State} (Err (stray p line))
stray_caused NoPiece line = tt
stray_caused OutOfRange line = tt
stray_caused NoTimes line = tt
stray_caused (Values n z) line = tt

began_caused : (f : Form) (es : List Named) (k : Option Keyword) (p : Piece) (line : ℕ) → Caused (began f es k p line)
began_caused f es (Some keyword.Int) p line = tt
began_caused f es (Some keyword.Ints) p line = tt
began_caused f es (Some keyword.Done) p line = tt
began_caused f es None p line = stray_caused p line

named_caused : (es : List Named) (w : Word) → Caused (named es w)
unfolding named
named_caused es w = caused_if (is_c_name w.text) _ _ (caused_if (has_name w.text es) _ _ tt tt) tt

room_caused : {A : Type 0} (n k : ℕ) (x : A) → Caused (room_for n k x)
room_caused n k x = caused_if (nat_le (n + k) MESH_VALUES) _ _ tt tt

one_caused : (n line : ℕ) (r : Result ℤ NumRefusal) → Caused (one_of n line r)
unfolding one_of
one_caused n line (Ok z) = room_caused n 1 z
one_caused n line (Err NotDigits) = tt
one_caused n line (Err TooLarge) = tt

count_caused : (n line : ℕ) (r : Option ℕ) → Caused (count_of n line r)
unfolding count_of
count_caused n line None = tt
count_caused n line (Some k) = caused_if (nat_lt k (2 ^ 31)) _ _ (room_caused n k k) tt

given_caused : (left line : ℕ) (p : Piece) → Caused (given left line p)
unfolding given
given_caused left line NoPiece = tt
given_caused left line OutOfRange = tt
given_caused left line NoTimes = tt
given_caused left line (Values n z) = caused_if (nat_le n left) _ _ tt tt

step_caused : (p : State) (w : Word) → Caused (step p w)
unfolding step
step_caused Magic w = caused_if (is_magic w.text) _ _ tt tt
step_caused Version w = versioned_caused (version_of w.text) w.line
step_caused (Between f es) w = began_caused f es (keyword_of w.text) (piece_of f w.text) w.line
step_caused (OneName f es) w = caused_onto (named es w) _ (named_caused es w)
step_caused (ManyName f es) w = caused_onto (named es w) _ (named_caused es w)
step_caused (OneValue f es name) w = caused_onto (one_of (total es) w.line _) _ (one_caused (total es) w.line _)
step_caused (Count f es name) w = caused_onto (count_of (total es) w.line _) _ (count_caused (total es) w.line _)
step_caused (Pieces f es name left zs) w = caused_onto (given left w.line (piece_of f w.text)) _ (given_caused left w.line (piece_of f w.text))
step_caused (End es) w = tt

finish_caused : (p : State) (line : ℕ) → Caused (finish p line)
finish_caused Magic line = tt
finish_caused Version line = tt
finish_caused (Between f es) line = tt
finish_caused (OneName f es) line = tt
finish_caused (ManyName f es) line = tt
finish_caused (OneValue f es name) line = tt
finish_caused (Count f es name) line = tt
finish_caused (Pieces f es name left zs) line = tt
finish_caused (End es) line = tt

pub refusals_have_causes : (bytes : List ℕ) → ¬ Refuses bytes OutOfMemory
refusals_have_causes bytes (inl r) = subst Caused r.6 (step_caused r.3 r.1)
refusals_have_causes bytes (inr r) = subst Caused r.2 (finish_caused r.0 (last_line 1 (words 1 bytes)))

-- ---- one outcome

run_is : (bytes : List ℕ) (o : Read) → Reads bytes o → run step finish Magic 1 (words 1 bytes) ≡ o
run_is bytes (Ok es) h = spelled-run bytes es h.0 h.1
run_is bytes (Err r) h = exact.refuses_run step finish Magic Fronts refl fronts_on stands_through (words 1 bytes) r h

pub one_outcome : (bytes : List ℕ) (a b : Read) → Reads bytes a → Reads bytes b → a ≡ b
one_outcome bytes a b h k = sym (run_is bytes a h) ∙ run_is bytes b k

pub some_outcome : (bytes : List ℕ) → (o : Read) × Reads bytes o
some_outcome bytes = by_run (run step finish Magic 1 (words 1 bytes)) refl
  where
    by_run : (o : Read) → run step finish Magic 1 (words 1 bytes) ≡ o → (o : Read) × Reads bytes o
    by_run (Ok es) h =
        let f = exact.found_run step finish Magic Fronts refl fronts_on stands_through (words 1 bytes) es h in
        (Ok es, end_spells bytes es (finish_is f.0 (last_line 1 (words 1 bytes)) es _ f.1 f.2))
    by_run (Err r) h = (Err r, exact.refused_run step finish Magic Fronts refl fronts_on stands_through (words 1 bytes) r h)
