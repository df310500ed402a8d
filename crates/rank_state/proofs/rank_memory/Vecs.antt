-- A table of vectors as a table of lists.
use Rattle.std.proofs.Common.{◌≡◌, ℕ, ◌<◌, ℤ, List, [], length, map, get_or, set, None, Vec, Global, sym, ap, ◌∙◌, arith}
use Rattle.std.specs.Vec.{with_item}
use Rattle.std.proofs.lemmas.List.{get_or-map, map-set, length-map}
use Rattle.rank_state.specs.declared.rank_memory.slot.Slot.{Slot}
use Rattle.rank_state.specs.Frames.{Panes, Shut, pane_at}
use Rattle.rank_state.specs.Slots.{slot_of, entries, of_entry, pane_of, panes_in, entry}

abbrev pub Rows : Type 0
Rows = List (Vec ℕ Global)

abbrev pub lists : Rows → List (List ℕ)
lists ws = map (λ (v : Vec ℕ Global). v.items) ws

pub in_lists : (ws : Rows) (r : ℕ) → r < length ws → r < length (lists ws)
in_lists ws r h = let n : length (lists ws) ≡ length ws = length-map ws (λ (v : Vec ℕ Global). v.items) in omega arith

pub rows_set : (ws : Rows) (r x n : ℕ) (v : Vec ℕ Global) → r < length ws → lists (set ws r (with_item (get_or ws r v) x n)) ≡ set (lists ws) r (set (get_or (lists ws) r []) x n)
rows_set ws r x n v h =
    map-set (λ (w : Vec ℕ Global). w.items) ws r (with_item (get_or ws r v) x n)
    ∙ ap (λ row. set (lists ws) r (set row x n)) (sym (get_or-map (λ (w : Vec ℕ Global). w.items) ws r v [] h))

-- where an element stands
pub record Stands (stride : ℕ) (table : List (List ℕ)) (slots : List Slot) (staging : List ℤ) (p : Panes) (r x : ℕ) : Type 0 where
  pub rank : r < length table
  pub element : x < length (get_or table r [])
  pub in_entries : r < length (entries table)
  pub in_row : x < length (get_or (entries table) r [])
  pub pane : pane_at p.panes r x ≡ of_entry (pane_of stride slots staging) (entry (entries table) r x)

-- an element of the panes is one of the table
pub stands : (stride : ℕ) (table : List (List ℕ)) (slots : List Slot) (staging : List ℤ) (p : Panes) (r x : ℕ)
    → panes_in stride (entries table) slots staging ≡ p.panes → r < length p.panes → x < length (get_or p.panes r []) → Stands stride table slots staging p r x
stands stride table slots staging p r x e hr hx =
    let f = of_entry (pane_of stride slots staging) in
    let n : length (map (map (of_entry (pane_of stride slots staging))) (entries table)) ≡ length (entries table) = length-map (entries table) (map (of_entry (pane_of stride slots staging))) in
    let m : length (entries table) ≡ length table = length-map table (map slot_of) in
    let all : length (panes_in stride (entries table) slots staging) ≡ length p.panes = ap length e in
    let rank : r < length table = omega (arith, hr) in
    let in_entries : r < length (entries table) = omega arith in
    let row : get_or p.panes r [] ≡ map (of_entry (pane_of stride slots staging)) (get_or (entries table) r []) =
    ap (λ ps. get_or ps r []) (sym e) ∙ get_or-map (map (of_entry (pane_of stride slots staging))) (entries table) r [] [] in_entries in
    let wide : length (get_or p.panes r []) ≡ length (get_or (entries table) r []) = ap length row ∙ length-map (get_or (entries table) r []) (of_entry (pane_of stride slots staging)) in
    let same : length (get_or (entries table) r []) ≡ length (get_or table r []) = ap length (get_or-map (map slot_of) table r [] [] rank) ∙ length-map (get_or table r []) slot_of in
    let in_row : x < length (get_or (entries table) r []) = omega (arith, hx) in
    record {
      rank = rank;
      element = omega arith;
      in_entries = in_entries;
      in_row = in_row;
      pane = ap (λ ps. get_or ps x Shut) row ∙ get_or-map (of_entry (pane_of stride slots staging)) (get_or (entries table) r []) x None Shut in_row;
    }
