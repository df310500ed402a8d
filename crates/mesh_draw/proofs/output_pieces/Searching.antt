-- The items of a program up to a print.
use Rattle.std.proofs.Common.{◌≡◌, ℕ, zero, suc, ◌+◌, ◌<◌, Option, Some, None, option_map, true, false, List, [], ◌∷◌, ◌++◌, map, length, take, get_or, refl, sym, ap, ◌∙◌, subst, add-one, take-suc, sum_by, slice_get, arith}
use Rattle.std.specs.List.{count_by}
use Rattle.std.proofs.lemmas.List.Sums.{sum_by_push, count_by_more_yes, count_by_more_no}
use Rattle.std.proofs.lemmas.Option.{slice_get-map, slice_get_read, slice_get_within, get_or_from_slice_get}
use Rattle.bound_program.specs.declared.acts.Item.{Item}
use Rattle.bound_program.specs.Values.{item_of, BoundValue, ItemValue, Free, Reduce, Ordered, Host, Clear, Assign, Line, Print, Exit}
use Rattle.bound_program.specs.Fits.{ItemsFit}
use Rattle.mesh_draw.specs.Pieces.{item_lines, is_print, lines_before}
use Rattle.mesh_draw.specs.Found.{FitsHere}

-- ---- an item

-- the item at a place of the list
pub item_here : (xs items : List Item) (i : ℕ) (x : Item) → xs ≡ items → i < length xs → x ≡ get_or xs i x → slice_get (map item_of items) i ≡ Some (item_of x)
item_here xs items i x same lt e =
    ap (λ l. slice_get (map item_of l) i) (sym same) ∙ slice_get-map item_of xs i ∙ ap (option_map item_of) (slice_get_read xs (length xs) i x refl lt e)

-- so many LFs are printed with it
pub more_lines : (b : BoundValue) (i : ℕ) (x : ItemValue) → slice_get b.trace i ≡ Some x → lines_before b (i + 1) ≡ lines_before b i + item_lines b.mesh x
more_lines b i x e =
    let lt : i < length b.trace = slice_get_within b.trace i x e in
    let is : get_or b.trace i x ≡ x = get_or_from_slice_get b.trace i x x e in
    let front : take (i + 1) b.trace ≡ take i b.trace ++ get_or b.trace i x ∷ [] = rw add-one (take-suc b.trace i x lt) in
    ap (λ l. sum_by (item_lines b.mesh) l) front ∙ sum_by_push (item_lines b.mesh) (take i b.trace) (get_or b.trace i x)
    ∙ ap (λ y. lines_before b i + item_lines b.mesh y) is

-- and so many prints there are with it
pub more_prints : (file : List ℕ) (trace : List ItemValue) (i : ℕ) (x : ItemValue) → slice_get trace i ≡ Some x → is_print file x ≡ true
    → count_by (is_print file) (take (i + 1) trace) ≡ count_by (is_print file) (take i trace) + 1
more_prints file trace i x e h =
    count_by_more_yes (is_print file) trace i x (slice_get_within trace i x e) (ap (is_print file) (get_or_from_slice_get trace i x x e) ∙ h)

pub same_prints : (file : List ℕ) (trace : List ItemValue) (i : ℕ) (x : ItemValue) → slice_get trace i ≡ Some x → is_print file x ≡ false
    → count_by (is_print file) (take (i + 1) trace) ≡ count_by (is_print file) (take i trace)
same_prints file trace i x e h =
    count_by_more_no (is_print file) trace i x (slice_get_within trace i x e) (ap (is_print file) (get_or_from_slice_get trace i x x e) ∙ h)

-- ---- all items

-- the dat that an item prints is there
pub items_fit : (b : BoundValue) (due : Option ℕ) (xs : List ItemValue) → ItemsFit b due xs → (i : ℕ) (d : ItemValue) → i < length xs → FitsHere b.mesh (get_or xs i d)
items_fit b due [] h i d lt = absurd (omega arith)
items_fit b None (Free s ∷ xs) h zero d lt = tt
items_fit b None (Free s ∷ xs) h (suc i) d lt = items_fit b _ xs h.2 i d (omega arith)
items_fit b None (Ordered s ∷ xs) h zero d lt = tt
items_fit b None (Ordered s ∷ xs) h (suc i) d lt = items_fit b None xs h.2 i d (omega arith)
items_fit b None (Host (Clear v) ∷ xs) h zero d lt = tt
items_fit b None (Host (Assign v x o p e q) ∷ xs) h zero d lt = tt
items_fit b None (Host (Line t es) ∷ xs) h zero d lt = tt
items_fit b None (Host (Print k f) ∷ xs) h zero d lt = h.0
items_fit b None (Host Exit ∷ xs) h zero d lt = tt
items_fit b None (Host a ∷ xs) h (suc i) d lt = items_fit b None xs h.1 i d (omega arith)
items_fit b None (Reduce s ∷ xs) h i d lt = absurd h
items_fit b (Some n) (Reduce s ∷ xs) h zero d lt = tt
items_fit b (Some n) (Reduce s ∷ xs) h (suc i) d lt = items_fit b None xs h.1 i d (omega arith)
items_fit b (Some n) (Free s ∷ xs) h i d lt = absurd h
items_fit b (Some n) (Ordered s ∷ xs) h i d lt = absurd h
items_fit b (Some n) (Host a ∷ xs) h i d lt = absurd h

pub item_fits : (b : BoundValue) (i : ℕ) (x : ItemValue) → ItemsFit b None b.trace → slice_get b.trace i ≡ Some x → FitsHere b.mesh x
item_fits b i x h e =
    subst (FitsHere b.mesh) (get_or_from_slice_get b.trace i x x e) (items_fit b None b.trace h i x (slice_get_within b.trace i x e))
