-- A program cut before an item: its head, which ends with what is known there, and its tail, which goes on from there.
use Rattle.std.specs.Prelude.{◌≡◌, ℕ, suc, ℤ, ◌+◌, ◌≤◌, Bool, true, false, List, [], ◌∷◌, ◌++◌, map, length, take, drop, codes, slice_index_or, if◌then◌else◌}
use Rattle.std.specs.Fmt.{decimal}
use Rattle.mesh_decl.specs.declared.decl.DatDecl.{DatDecl}
use Rattle.mesh_decl.specs.Mesh.{dat_count}
use Rattle.schedule_model.specs.Cells.{Variable, Store}
use Rattle.kernel_model.specs.View.{Scalar}
use Rattle.checkpoint.specs.declared.states.State.{State}
use Rattle.bound_program.specs.Values.{Line, Print, ItemValue, Reduce, Host, VarValue, BoundValue}
use Rattle.run_model.specs.Windows.{numbers}
use Rattle.run_model.specs.Hosts.{dat_cells}
use Rattle.run_model.specs.Programs.{item_at}

-- ---- what is known before an item

-- the values of the variables that aren't `const`, in order, and those of the dats, before an item
pub record StateValue : Type 0 where
  pub item : ℕ
  pub vars : List (List ℤ)
  pub dats : List (List ℤ)

-- a state as it lies in memory, as a value
abbrev pub state_of : State → StateValue
state_of s = record { item = s.item; vars = s.vars.items; dats = s.dats.items }

-- by the store, the values of these variables, of which the first has number v
abbrev pub var_values : Store → ℕ → List VarValue → List (List ℤ)
var_values s v [] = []
var_values s v (x ∷ xs) =
    if x.is_const then var_values s (suc v) xs
    else map (λ i. s (Variable (record { variable = v; component = i }))) (numbers (length x.start)) ∷ var_values s (suc v) xs

-- the values that those variables begin with that aren't `const`, in order
abbrev pub starts : List VarValue → List (List ℤ)
starts [] = []
starts (x ∷ xs) = if x.is_const then starts xs else x.start ∷ starts xs

module _ (b : BoundValue) where
  -- the state before item k, where the cells have these values
  abbrev pub state_at : ℕ → Store → StateValue
  state_at k s = record {
    item = k;
    vars = var_values s 0 b.vars;
    dats = map (λ d. map s (dat_cells b d)) (numbers (dat_count b.mesh));
  }

-- ---- where a program can be cut

-- the item merges what the loop before it reduced
abbrev pub is_merging : ItemValue → Bool
is_merging (Reduce s) = true
is_merging i = false

-- the program can be cut before its item k: it has so many items, and no loop is parted from its merging
pub record CanCut (b : BoundValue) (k : ℕ) : Type 0 where
  pub within : k ≤ length b.trace
  pub whole : is_merging (item_at b k) ≡ false

-- the values have the lengths of the program's variables that aren't `const`, and of its dats
pub record HasShape (b : BoundValue) (s : StateValue) : Type 0 where
  pub vars : map length s.vars ≡ map length (starts b.vars)
  pub dats : map length s.dats ≡ map (λ (d : DatDecl). length d.values) b.mesh.dats

-- ---- the head

-- `op_printf` of this text
abbrev pub says : List ℕ → ItemValue
says text = Host (Line text [])

-- ` %d` so many times
abbrev pub more_places : List ℕ → List ℕ
more_places [] = []
more_places (i ∷ is) = codes " %d" ++ more_places is

-- `%d` for each, between single spaces, and LF
abbrev pub places : List ℕ → List ℕ
places [] = codes "\n"
places (i ∷ is) = codes "%d" ++ more_places is ++ codes "\n"

-- `var I COUNT`, and the values of these cells on the next line
abbrev pub says_var : (number : ℕ) → (cells : List ℕ) → ItemValue
says_var n cells =
    Host (Line (codes "var " ++ decimal n ++ codes " " ++ decimal (length cells) ++ codes "\n" ++ places cells) (map Scalar cells))

-- those of these variables that aren't `const`: the first of them gets this number, and the cells of all begin there
abbrev pub says_vars : (number from : ℕ) → List VarValue → List ItemValue
says_vars n from [] = []
says_vars n from (x ∷ xs) =
    if x.is_const then says_vars n (from + length x.start) xs
    else says_var n (map (λ i. from + i) (numbers (length x.start))) ∷ says_vars (suc n) (from + length x.start) xs

-- a dat, as `op_print_dat_to_txtfile` prints it
abbrev pub says_dat : ℕ → ItemValue
says_dat d = Host (Print d (codes "dat"))

-- the statements that print the state before item k
abbrev pub says_state : BoundValue → ℕ → List ItemValue
says_state b k =
    says (codes "\nop2state 1\nitem " ++ decimal k ++ codes "\n")
    ∷ says_vars 0 0 b.vars
    ++ map says_dat (numbers (dat_count b.mesh))
    ++ says (codes "done\n") ∷ []

-- the items before k, and then these
abbrev pub head : BoundValue → ℕ → BoundValue
head b k = record b { trace = take k b.trace ++ says_state b k }

-- ---- the tail

-- the dats with these values, as far as there are some
abbrev pub with_dats : List DatDecl → List (List ℤ) → List DatDecl
with_dats [] zs = []
with_dats (d ∷ ds) [] = d ∷ ds
with_dats (d ∷ ds) (z ∷ zs) = record d { values = z } ∷ with_dats ds zs

-- the variable, which begins with the first of these values where it isn't `const`
abbrev pub begun : VarValue → List (List ℤ) → VarValue
begun x zs = if x.is_const then x else record x { start = slice_index_or zs 0 [] }

-- the values for the variables behind it
abbrev pub left_over : VarValue → List (List ℤ) → List (List ℤ)
left_over x zs = if x.is_const then zs else drop 1 zs

-- the variables where those that aren't `const` have these values, in order
abbrev pub with_vars : List VarValue → List (List ℤ) → List VarValue
with_vars [] zs = []
with_vars (x ∷ xs) zs =
    if x.is_const then x ∷ with_vars xs zs else record x { start = slice_index_or zs 0 [] } ∷ with_vars xs (drop 1 zs)

-- the items from the state's on, begun with its values
abbrev pub tail : BoundValue → StateValue → BoundValue
tail b s = record b {
  mesh = record b.mesh { dats = with_dats b.mesh.dats s.dats };
  vars = with_vars b.vars s.vars;
  trace = drop s.item b.trace;
}
