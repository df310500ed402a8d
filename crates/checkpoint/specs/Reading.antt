-- What a state file says: the text behind what was printed, and the state that it spells, or why it spells none.
use Rattle.std.specs.Prelude.{◌≡◌, ◌≢◌, ℕ, suc, ℤ, ◌+◌, ◌≤◌, ◌⊎◌, List, [], ◌∷◌, ◌++◌, map, length, codes, Ok}
use Rattle.std.specs.List.{flat_map, count_by}
use Rattle.std.specs.Fmt.{decimal}
use Rattle.op_num.specs.Spelling.{integer_of, i32_judged}
use Rattle.op_num.specs.Lines.{line_of}
use Rattle.op_num.specs.CutLines.{is_lf, HasNoLf}
use Rattle.mesh_decl.specs.Mesh.{MeshValue, dat_count, set_size, dat_set, dat_dim}
use Rattle.mesh_decl.specs.Printed.{dat_header}
use Rattle.bound_program.specs.Values.{BoundValue}
use Rattle.run_model.specs.Windows.{numbers}
use Rattle.checkpoint.specs.Cut.{StateValue, CanCut, HasShape, starts}
use Rattle.checkpoint.specs.declared.state_texts.refusals.StateRefusal.{StateRefusal}
use Rattle.checkpoint.specs.declared.state_texts.refusals.StateRefusal.TheVariants as refusal

-- ---- where the text begins

-- how a text of a state begins, behind the line before it
abbrev pub mark : List ℕ
mark = codes "\nop2state 1\n"

-- what stands before the last mark, and behind it
pub record IsSplit (bytes before text : List ℕ) : Type 0 where
  pub whole : bytes ≡ before ++ (mark ++ text)
  pub last : (x y : List ℕ) → bytes ≡ x ++ (mark ++ y) → length x ≤ length before

-- there is none
abbrev pub HasNoMark : List ℕ → Type 0
HasNoMark bytes = (x y : List ℕ) → bytes ≢ x ++ (mark ++ y)

-- the number of lines that end in these bytes
abbrev pub lines_in : List ℕ → ℕ
lines_in bytes = count_by is_lf bytes

-- ---- its lines

-- one line: the item of a cut; this one; so many values; the end
pub data Awaited : Type 0 where
  Item : Awaited
  Exactly : (line : List ℕ) → Awaited
  Values : (count : ℕ) → Awaited
  Done : Awaited

-- `var I COUNT` and LF
abbrev pub var_line : ℕ → ℕ → List ℕ
var_line n count = codes "var " ++ (decimal n ++ (codes " " ++ (decimal count ++ codes "\n")))

-- a variable with so many values
abbrev pub awaited_var : ℕ → ℕ → List Awaited
awaited_var n count = Exactly (var_line n count) ∷ Values count ∷ []

-- variables that begin with such values, from this number on
abbrev pub awaited_vars : ℕ → List (List ℤ) → List Awaited
awaited_vars n [] = []
awaited_vars n (z ∷ zs) = awaited_var n (length z) ++ awaited_vars (suc n) zs

-- the first line of a dat
abbrev pub dat_line : MeshValue → ℕ → List ℕ
dat_line g d = flat_map (λ part. part) (dat_header (codes "dat") g d)

-- a dat, a line for each element
abbrev pub awaited_dat : MeshValue → ℕ → List Awaited
awaited_dat g d = Exactly (dat_line g d) ∷ map (λ e. Values (dat_dim g d)) (numbers (set_size g (dat_set g d)))

-- all dats
abbrev pub awaited_dats : MeshValue → List Awaited
awaited_dats g = flat_map (awaited_dat g) (numbers (dat_count g))

-- all lines
abbrev pub awaited : BoundValue → List Awaited
awaited b = Item ∷ (awaited_vars 0 (starts b.vars) ++ (awaited_dats b.mesh ++ Done ∷ []))

-- ---- what a line says

-- the bytes end at their LF, and have no other
abbrev pub IsLine : List ℕ → Type 0
IsLine line = (front : List ℕ) × HasNoLf front × (line ≡ front ++ 10 ∷ [])

-- each word spells this value
abbrev pub Spell : List (List ℕ) → List ℤ → Type 0
Spell [] [] = Unit {0}
Spell (w ∷ ws) (z ∷ zs) = (i32_judged (integer_of w) ≡ Ok z) × Spell ws zs
Spell [] (z ∷ zs) = ⊥
Spell (w ∷ ws) [] = ⊥

-- words between single spaces, and LF
abbrev pub words_line : List (List ℕ) → List ℕ
words_line [] = codes "\n"
words_line (w ∷ ws) = line_of (w ∷ ws)

-- the line has so many values
pub record HasValues (n : ℕ) (line : List ℕ) (zs : List ℤ) : Type 0 where
  pub words : List (List ℕ)
  pub spell : Spell words zs
  pub is : line ≡ words_line words
  pub count : length zs ≡ n

-- `item K` and LF
abbrev pub item_line : ℕ → List ℕ
item_line k = codes "item " ++ (decimal k ++ codes "\n")

-- lines one after another
abbrev pub all : List (List ℕ) → List ℕ
all lines = flat_map (λ line. line) lines

module _ (b : BoundValue) where
  -- the line says that the text is that of a cut before item k
  pub record IsItem (k : ℕ) (line : List ℕ) : Type 0 where
    pub can_cut : CanCut b k
    pub is : line ≡ item_line k

  -- the line is one that is awaited, and these are its values, if it has some
  abbrev pub LineFits : ℕ → Awaited → List ℕ → List ℤ → Type 0
  LineFits k Item line zs = IsItem k line × (zs ≡ [])
  LineFits k (Exactly l) line zs = IsLine line × (line ≡ l) × (zs ≡ [])
  LineFits k (Values n) line zs = HasValues n line zs
  LineFits k Done line zs = (line ≡ codes "done\n") × (zs ≡ [])

  -- each line is, and these are all values in order
  abbrev pub AllFit : ℕ → List Awaited → List (List ℕ) → List ℤ → Type 0
  AllFit k [] [] zs = zs ≡ []
  AllFit k (x ∷ xs) (l ∷ ls) zs =
      (first : List ℤ) × (more : List ℤ) × (zs ≡ first ++ more) × LineFits k x l first × AllFit k xs ls more
  AllFit k [] (l ∷ ls) zs = ⊥
  AllFit k (x ∷ xs) [] zs = ⊥

  -- the bytes say this state
  pub record Says (bytes : List ℕ) (s : StateValue) : Type 0 where
    pub before : List ℕ
    pub lines : List (List ℕ)
    pub split : IsSplit bytes before (all lines)
    pub fit : AllFit s.item (awaited b) lines (flat_map (λ z. z) s.vars ++ flat_map (λ z. z) s.dats)
    pub shape : HasShape b s
    pub can_cut : CanCut b s.item

  -- no line of the right form stands at the front, and the refusal has this number
  abbrev pub Refuses : Awaited → (rest : List ℕ) → (number : ℕ) → Type 0
  Refuses Item rest number = (number ≡ 2) × ((k : ℕ) (line more : List ℕ) → IsItem k line → rest ≢ line ++ more)
  Refuses (Exactly l) rest number = (number ≡ 3) × ((more : List ℕ) → IsLine l → rest ≢ l ++ more)
  Refuses (Values n) rest number = (number ≡ 4) × ((line more : List ℕ) (zs : List ℤ) → HasValues n line zs → rest ≢ line ++ more)
  Refuses Done rest number = (number ≡ 5) × (rest ≢ codes "done\n")

  -- Of these awaited lines, the text has lines that fit up to one, and none that fits it. So many stand before it.
  pub record RefusedAmong (k : ℕ) (xs : List Awaited) (text : List ℕ) (number before : ℕ) : Type 0 where
    pub lines : List (List ℕ)
    pub rest : List ℕ
    pub cut : text ≡ all lines ++ rest
    pub earlier : List Awaited
    pub here : Awaited
    pub later : List Awaited
    pub order : xs ≡ earlier ++ here ∷ later
    pub values : List ℤ
    pub fit : AllFit k earlier lines values
    pub refuses : Refuses here rest number
    pub at : before ≡ length lines

  -- the first line behind the mark that is refused, counted from the start of the file, from 1, and by which number
  pub record IsBadLine (bytes : List ℕ) (number line : ℕ) : Type 0 where
    pub front : List ℕ
    pub text : List ℕ
    pub split : IsSplit bytes front text
    pub item : ℕ
    pub before : ℕ
    pub among : RefusedAmong item (awaited b) text number before
    pub at : line ≡ lines_in front + (before + 3)

  -- the file says no state
  abbrev pub SaysNone : List ℕ → (number line : ℕ) → Type 0
  SaysNone bytes number line = (HasNoMark bytes × (number ≡ 1) × (line ≡ 1)) ⊎ IsBadLine bytes number line

-- what a refusal tells, its number and its line, is so; want of memory tells nothing
abbrev pub Refused : (ℕ → ℕ → Type 0) → StateRefusal → Type 0
Refused P (refusal.Header line) = P 1 line
Refused P (refusal.Item line) = P 2 line
Refused P (refusal.Shape line) = P 3 line
Refused P (refusal.Value line) = P 4 line
Refused P (refusal.End line) = P 5 line
Refused P refusal.OutOfMemory = Unit {0}
