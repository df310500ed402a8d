-- Values of 32 bits: lists of them, and those that a mesh text spells.
use Rattle.std.proofs.Common.{◌≡◌, ◌<◌, ℕ, zero, suc, ℤ, pos, negsuc, ◌^◌, ◌⊎◌, inl, inr, Bool, true, false, List, ◌∷◌, ◌++◌, replicate, Option, Some, None, Ok, Err, if◌then◌else◌, refl, sym, subst, arith, []}
use Rattle.std.specs.Prelude.{Result, All, IfSome, bytes_eq, slice_index_or, FitsSigned}
use Rattle.std.specs.Int.{w32}
use Rattle.std.specs.Map.{lookup}
use Rattle.std.proofs.lemmas.List.Elements.{All-nil, All-cons}
use Rattle.std.proofs.lemmas.Map.Entries.{All-lookup}
use Rattle.mesh_decl.specs.declared.decl.DatDecl.{DatDecl}
use Rattle.op_num.specs.Spelling.{fits_i32, i32_judged, integer_of}
use Rattle.op_num.specs.declared.refusals.NumRefusal.{NumRefusal}
use Rattle.op_num.specs.declared.refusals.NumRefusal.TheVariants.{TooLarge}
use Rattle.std.proofs.lemmas.Bool.Decides.{nat_tests}
use Rattle.mesh_decl.specs.declared.text.entry.Entry.{Entry}
use Rattle.mesh_decl.specs.declared.text.entry.Entry.TheVariants.{One, Many}
use Rattle.mesh_decl.specs.declared.text.entry.Form.{Form}
use Rattle.mesh_decl.specs.declared.text.entry.Form.TheVariants as form
use Rattle.mesh_decl.specs.Piece.{IsPiece, IsValue, IsRun}
use Rattle.mesh_decl.specs.Spelling.{Named, ArePieces, IsEntry, AreEntries, Spells}
use Rattle.bound_program.specs.Values.{VarValue}
use Rattle.main_declarations.specs.declared.names.scopes.Meaning.{Meaning}
use Rattle.main_declarations.specs.Meanings.{or_none, array_of, array_if, is_extern_array, entry_values, values_named}
use Rattle.bound_program.specs.Limited.{before}

abbrev pub Num : ℤ → Type 0
Num z = FitsSigned w32 z

pub zero_num : Num (pos 0)
zero_num = record { sfits = omega arith }

-- ---- lists of values

abbrev pub AllNum : List ℤ → Type 0
AllNum [] = Unit {0}
AllNum (z ∷ zs) = Num z × AllNum zs

pub num_at : (zs : List ℤ) → AllNum zs → (i : ℕ) → Num (slice_index_or zs i (pos 0))
num_at [] h i = zero_num
num_at (z ∷ zs) h zero = h.0
num_at (z ∷ zs) h (suc i) = num_at zs h.1 i

pub nums_then : (xs ys : List ℤ) → AllNum xs → AllNum ys → AllNum (xs ++ ys)
nums_then [] ys h k = k
nums_then (x ∷ xs) ys h k = (h.0, nums_then xs ys h.1 k)

pub nums_same : (n : ℕ) (z : ℤ) → Num z → AllNum (replicate n z)
nums_same zero z h = tt
nums_same (suc n) z h = (h, nums_same n z h)

abbrev pub VarsNum : List VarValue → Type 0
VarsNum [] = Unit {0}
VarsNum (v ∷ vs) = AllNum v.start × VarsNum vs

pub vars_push : (vs : List VarValue) (v : VarValue) → VarsNum vs → AllNum v.start → VarsNum (vs ++ v ∷ [])
vars_push [] v h k = (k, tt)
vars_push (x ∷ xs) v h k = (h.0, vars_push xs v h.1 k)

abbrev pub DatsNum : List DatDecl → Type 0
DatsNum [] = Unit {0}
DatsNum (d ∷ ds) = AllNum d.values × DatsNum ds

pub dats_push : (ds : List DatDecl) (d : DatDecl) → DatsNum ds → AllNum d.values → DatsNum (ds ++ d ∷ [])
dats_push [] d h k = (k, tt)
dats_push (x ∷ xs) d h k = (h.0, dats_push xs d h.1 k)

-- ---- entries

abbrev pub EntryNum : Entry → Type 0
EntryNum (One z) = Num z
EntryNum (Many zs) = AllNum zs

abbrev pub EntriesNum : List Named → Type 0
EntriesNum es = All (λ (e : Named). EntryNum e.1) es

fits : (z : ℤ) → fits_i32 z ≡ true → Num z
fits (pos n) h = let l : n < 2 ^ 31 = grind (arith, nat_tests) in record { sfits = omega arith }
fits (negsuc n) h = let l : n < 2 ^ 31 = grind (arith, nat_tests) in record { sfits = omega arith }

pub judged : (y : Option ℤ) (z : ℤ) → i32_judged y ≡ Ok z → Num z
judged None z e = cc
judged (Some y) z e = by (fits_i32 y) refl e
  where
    by : (b : Bool) → fits_i32 y ≡ b → ◌≡◌ {A = Result ℤ NumRefusal} (if b then Ok y else Err TooLarge) (Ok z) → Num z
    by true q e = let same : y ≡ z = cc in subst Num same (fits y q)
    by false q e = cc

value_num : (t : List ℕ) (z : ℤ) → IsValue t z → Num z
value_num t z h = judged (integer_of t) z h

piece_num : (f : Form) (t : List ℕ) (zs : List ℤ) → IsPiece f t zs → AllNum zs
piece_num form.One t zs h = subst AllNum (sym h.3) (nums_same h.0 h.1 (value_num t h.1 h.2.1))
piece_num form.Two t zs h = subst AllNum (sym h.3) (nums_same h.0 h.1 (two h.2))
  where
    two : ((h.0 ≡ 1) × IsValue t h.1) ⊎ IsRun t h.0 h.1 → Num h.1
    two (inl x) = value_num t h.1 x.1
    two (inr x) = value_num x.value h.1 x.spells

pieces_num : (f : Form) (ts : List (List ℕ)) (zs : List ℤ) → ArePieces f ts zs → AllNum zs
pieces_num f [] zs h = subst AllNum (sym h) tt
pieces_num f (t ∷ ts) zs h = subst AllNum (sym h.2) (nums_then h.0 h.1 (piece_num f t h.0 h.3) (pieces_num f ts h.1 h.4))

entry_num : (f : Form) (ts : List (List ℕ)) (x : List ℕ) (e : Entry) → IsEntry f ts x e → EntryNum e
entry_num f ts x (One z) h = value_num h.0 z h.2
entry_num f ts x (Many zs) h = pieces_num f h.1 zs h.5

entries_num : (f : Form) (before : List Named) (ts : List (List ℕ)) (es : List Named) → AreEntries f before ts es → EntriesNum es
entries_num f before ts [] h = All-nil (λ (e : Named). EntryNum e.1)
entries_num f before ts (e ∷ es) h = All-cons (λ (e : Named). EntryNum e.1) e es (entry_num f h.0 e.0 e.1 h.3) (entries_num f (before ++ e ∷ []) h.1 es h.5)

pub spelled_num : (bytes : List ℕ) (es : List Named) → Spells bytes es → EntriesNum es
spelled_num bytes es h = entries_num h.0 [] h.3.0 es h.3.2

pub values_num : (es : List Named) (x : List ℕ) → EntriesNum es → AllNum (values_named es x)
values_num es x h = by (lookup (bytes_eq x) es) (All-lookup EntryNum (bytes_eq x) es h)
  where
    by : (o : Option Entry) → IfSome o EntryNum → AllNum (entry_values o)
    by None k = tt
    by (Some (One z)) k = tt
    by (Some (Many zs)) k = k

pub array_num : (es : List Named) (x : List ℕ) (o : Option Meaning) → EntriesNum es → AllNum (or_none (array_of es x o))
array_num es x o h = by (is_extern_array o)
  where
    by : (b : Bool) → AllNum (or_none (array_if b (values_named es x)))
    by true = values_num es x h
    by false = tt
