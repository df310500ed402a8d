-- The items that run begin with values of 32 bits where their program does: those of a state are such, as its text spells them.
use Rattle.std.proofs.Common.{◌≡◌, ℕ, zero, suc, ℤ, pos, List, [], ◌∷◌, ◌++◌, map, drop, Bool, true, false, Ok, if◌then◌else◌, refl, sym, subst}
use Rattle.std.specs.Prelude.{slice_index_or}
use Rattle.std.specs.List.{flat_map}
use Rattle.op_num.specs.Spelling.{integer_of}
use Rattle.mesh_decl.specs.declared.decl.DatDecl.{DatDecl}
use Rattle.mesh_decl.specs.Mesh.{dat_values}
use Rattle.bound_program.specs.Values.{BoundValue, VarValue, no_var}
use Rattle.run_model.specs.Ranges.{StartsInRange}
use Rattle.checkpoint.specs.Cut.{StateValue, with_dats, with_vars, tail}
use Rattle.checkpoint.specs.Reading.{Awaited, Item, Exactly, Values, Done, awaited, Spell, LineFits, AllFit, Says}
use Rattle.answers.specs.Judgements.{Cut, Uncut, BeforeItem, FromText, Chosen, ChosenIs}
use Rattle.answers.proofs.laws.SpelledValues.{Num, AllNum, num_at, nums_then, judged}

-- ---- the text of a state

spell_num : (ws : List (List ℕ)) (zs : List ℤ) → Spell ws zs → AllNum zs
spell_num [] [] h = tt
spell_num (w ∷ ws) (z ∷ zs) h = (judged (integer_of w) z h.0, spell_num ws zs h.1)
spell_num [] (z ∷ zs) h = absurd h
spell_num (w ∷ ws) [] h = absurd h

module _ (b : BoundValue) (k : ℕ) where
  line_num : (x : Awaited) (line : List ℕ) (zs : List ℤ) → LineFits b k x line zs → AllNum zs
  line_num Item line zs h = subst AllNum (sym h.1) tt
  line_num (Exactly l) line zs h = subst AllNum (sym h.2) tt
  line_num (Values n) line zs h = spell_num h.words zs h.spell
  line_num Done line zs h = subst AllNum (sym h.1) tt

  lines_num : (xs : List Awaited) (lines : List (List ℕ)) (zs : List ℤ) → AllFit b k xs lines zs → AllNum zs
  lines_num [] [] zs h = subst AllNum (sym h) tt
  lines_num (x ∷ xs) (l ∷ ls) zs h =
      subst AllNum (sym h.2) (nums_then h.0 h.1 (line_num x l h.0 h.3) (lines_num xs ls h.1 h.4))
  lines_num [] (l ∷ ls) zs h = absurd h
  lines_num (x ∷ xs) [] zs h = absurd h

-- ---- lists of lists

nums_front : (xs ys : List ℤ) → AllNum (xs ++ ys) → AllNum xs
nums_front [] ys h = tt
nums_front (x ∷ xs) ys h = (h.0, nums_front xs ys h.1)

nums_behind : (xs ys : List ℤ) → AllNum (xs ++ ys) → AllNum ys
nums_behind [] ys h = h
nums_behind (x ∷ xs) ys h = nums_behind xs ys h.1

abbrev RowsNum : List (List ℤ) → Type 0
RowsNum [] = Unit {0}
RowsNum (z ∷ zs) = AllNum z × RowsNum zs

rows_num : (zs : List (List ℤ)) → AllNum (flat_map (λ z. z) zs) → RowsNum zs
rows_num [] h = tt
rows_num (z ∷ zs) h = (nums_front z (flat_map (λ y. y) zs) h, rows_num zs (nums_behind z (flat_map (λ y. y) zs) h))

first_num : (zs : List (List ℤ)) → RowsNum zs → AllNum (slice_index_or zs 0 [])
first_num [] h = tt
first_num (z ∷ zs) h = h.0

rest_num : (zs : List (List ℤ)) → RowsNum zs → RowsNum (drop 1 zs)
rest_num [] h = tt
rest_num (z ∷ zs) h = h.1

-- ---- tails

-- the values of variables, and those of dats, by number
abbrev VarsHave : List VarValue → Type 0
VarsHave xs = (v i : ℕ) → Num (slice_index_or (slice_index_or xs v no_var).start i (pos 0))

abbrev DatsHave : List DatDecl → Type 0
DatsHave ds = (d i : ℕ) → Num (slice_index_or (slice_index_or (map (λ (e : DatDecl). e.values) ds) d []) i (pos 0))

-- with one variable more in front
in_front : (x : VarValue) (xs : List VarValue) → ((i : ℕ) → Num (slice_index_or x.start i (pos 0))) → VarsHave xs → VarsHave (x ∷ xs)
in_front x xs h k zero i = h i
in_front x xs h k (suc v) i = k v i

vars_have : (xs : List VarValue) (zs : List (List ℤ)) → VarsHave xs → RowsNum zs → VarsHave (with_vars xs zs)
vars_have [] zs h k = h
vars_have (x ∷ xs) zs h k =
    by x.is_const (vars_have xs zs (λ w. h (suc w)) k) (vars_have xs (drop 1 zs) (λ w. h (suc w)) (rest_num zs k))
  where
    varied : VarValue
    varied = record x { start = slice_index_or zs 0 [] }

    by : (c : Bool) → VarsHave (with_vars xs zs) → VarsHave (with_vars xs (drop 1 zs))
        → VarsHave (if c then x ∷ with_vars xs zs else varied ∷ with_vars xs (drop 1 zs))
    by true m n = in_front x (with_vars xs zs) (h 0) m
    by false m n = in_front varied (with_vars xs (drop 1 zs)) (num_at (slice_index_or zs 0 []) (first_num zs k)) n

dats_have : (ds : List DatDecl) (zs : List (List ℤ)) → DatsHave ds → RowsNum zs → DatsHave (with_dats ds zs)
dats_have [] zs h k d i = h d i
dats_have (x ∷ xs) [] h k d i = h d i
dats_have (x ∷ xs) (z ∷ zs) h k zero i = num_at z k.0 i
dats_have (x ∷ xs) (z ∷ zs) h k (suc d) i = dats_have xs zs (λ e. h (suc e)) k.1 d i

tail_starts : (b : BoundValue) (bytes : List ℕ) (s : StateValue) → StartsInRange b → Says b bytes s → StartsInRange (tail b s)
unfolding dat_values
tail_starts b bytes s h says =
    let all = lines_num b s.item (awaited b) says.lines (flat_map (λ z. z) s.vars ++ flat_map (λ z. z) s.dats) says.fit in
    record {
      dats = dats_have b.mesh.dats s.dats h.dats (rows_num s.dats (nums_behind (flat_map (λ z. z) s.vars) (flat_map (λ z. z) s.dats) all));
      vars = vars_have b.vars s.vars h.vars (rows_num s.vars (nums_front (flat_map (λ z. z) s.vars) (flat_map (λ z. z) s.dats) all));
    }

-- ---- the items that run

pub chosen_starts : (cut : Cut) (b : BoundValue) (c : Chosen) → StartsInRange b → ChosenIs cut b (Ok c) → StartsInRange c.program
chosen_starts Uncut b c h k = let e : c ≡ record { program = b; first = 0 } = (let f : Ok c ≡ Ok (record { program = b; first = 0 }) = k in cc) in rw e h
chosen_starts (BeforeItem item) b c h k = rw k.1 (record { dats = h.dats; vars = h.vars })
chosen_starts (FromText bytes) b c h k = rw k.2 (tail_starts b bytes k.0 h k.1)
