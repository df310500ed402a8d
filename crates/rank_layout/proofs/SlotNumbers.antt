-- Which slots a program has: loop by loop, argument by argument, cell by cell.
use Rattle.std.proofs.Common.{◌≡◌, ◌<◌, ◌≤◌, ◌+◌, ◌-◌, ℕ, suc, List, [], ◌∷◌, ◌++◌, map, flat_map, length, take, get_or, Option, Some, None, refl, sym, ap, ◌∙◌, subst, ⊎_elim, arith, length-append}
use Rattle.std.proofs.lemmas.Bool.{cases_lt}
use Rattle.std.proofs.lemmas.List.{append-nil, map-id, length-map, get_or-map}
use Rattle.std.proofs.lemmas.List.Concat.{flat_map-append, get_or-flat_map}
use Rattle.std.proofs.lemmas.List.FromFn.{length-range_with_len, get_or-range_with_len, length-map-range_with_len, get_or-map-range_with_len, take-map-range_with_len, map-range_with_len_more}
use Rattle.op_num.specs.Reduction.{Reduction}
use Rattle.op_num.specs.declared.reductions.access.Access.{Access}
use Rattle.schedule_model.specs.Cells.{VarCell}
use Rattle.bound_program.specs.declared.sites.Arg.{Arg}
use Rattle.bound_program.specs.declared.sites.Arg.TheVariants.{Dat, Global}
use Rattle.bound_program.specs.Values.{BoundValue}
use Rattle.bound_program.specs.Fits.{site_at}
use Rattle.run_model.specs.Windows.{numbers}
use Rattle.run_model.specs.Arguments.{no_arg, var_width}
use Rattle.bound_plan.specs.Variables.{reduction_of}
use Rattle.rank_layout.specs.Tables.{Slot, no_slot, slots_by, arg_slots, slots}
use Rattle.rank_layout.specs.Scalars.{site_slots, slots_before}
use Rattle.rank_layout.proofs.FlatMaps.{flat_more, flat_part}

-- ---- the numbers below n

pub numbers_take : (n k : ℕ) → k ≤ n → take k (numbers n) ≡ numbers k
numbers_take n k h = ap (take k) (sym (map-id (numbers n))) ∙ take-map-range_with_len (λ x. x) 0 n k h ∙ map-id (numbers k)

pub numbers_more : (n : ℕ) → numbers (n + 1) ≡ numbers n ++ n ∷ []
numbers_more n = sym (map-id (numbers (n + 1))) ∙ map-range_with_len_more (λ x. x) 0 n n (omega arith) ∙ ap (λ z. z ++ n ∷ []) (map-id (numbers n))

-- ---- where an element of a list of pieces stands

pub record Located {X A : Type 0} (f : X → List A) (xs : List X) (d : X) (k : ℕ) : Type 0 where
  pub outer : ℕ
  pub there : outer < length xs
  pub inner : ℕ
  pub within : inner < length (f (get_or xs outer d))
  pub is : length (flat_map f (take outer xs)) + inner ≡ k

pub located : {X A : Type 0} (f : X → List A) (xs : List X) (d : X) (k : ℕ) → k < length (flat_map f xs) → Located f xs d k
located f [] d k lt = absurd (omega arith)
located f (x ∷ xs) d k lt = ⊎_elim
    (λ (h : k < length (f x)).
    let w : Located f (x ∷ xs) d k = record { outer = 0; there = omega arith; inner = k; within = h; is = omega arith } in
    w)
    (λ (h : length (f x) ≤ k).
    let all = length-append (f x) (flat_map f xs) in
    let rest : k - length (f x) < length (flat_map f xs) = omega (arith, lt, all, h) in
    let u : Located f xs d (k - length (f x)) = located f xs d (k - length (f x)) rest in
    let at : length (flat_map f (take u.outer xs)) + u.inner ≡ k - length (f x) = u.is in
    let front = length-append (f x) (flat_map f (take u.outer xs)) in
    let inside : u.outer < length xs = u.there in
    let w : Located f (x ∷ xs) d k = record { outer = suc u.outer; there = omega arith; inner = u.inner; within = u.within; is = omega (arith, at, front, h) } in
    w)
    (cases_lt k (length (f x)))

pub piece_within : {X A : Type 0} (f : X → List A) (xs : List X) (d : X) (i j : ℕ) → i < length xs → j < length (f (get_or xs i d))
    → length (flat_map f (take i xs)) + j < length (flat_map f xs)
piece_within f xs d i j li lj =
    let part = flat_part f xs (i + 1) in
    let next : length (flat_map f (take (i + 1) xs)) ≡ length (flat_map f (take i xs)) + length (f (get_or xs i d)) =
    ap length (flat_more f xs i d li) ∙ length-append (flat_map f (take i xs)) (f (get_or xs i d)) in
    omega (arith, part, next, lj)

-- ---- the slots of an argument

abbrev pub cell : ℕ → ℕ → VarCell
cell v i = record { variable = v; component = i }

abbrev pub slot : ℕ → Reduction → VarCell → Slot
slot s o c = record { site = s; cell = c; how = o }

-- slot j of a variable's
pub slot_value : (s v width : ℕ) (o : Reduction) (j : ℕ) → j < width → get_or (map (slot s o) (map (cell v) (numbers width))) j no_slot ≡ slot s o (cell v j)
slot_value s v width o j lt =
    let many = length-map-range_with_len (cell v) 0 width in
    get_or-map (slot s o) (map (cell v) (numbers width)) j (cell v j) no_slot (omega (arith, lt, many))
    ∙ ap (slot s o) (get_or-map-range_with_len (cell v) 0 width j j (cell v j) lt (omega arith))

pub slot_count : (s v width : ℕ) (o : Reduction) → length (map (slot s o) (map (cell v) (numbers width))) ≡ width
slot_count s v width o = length-map (map (cell v) (numbers width)) (slot s o) ∙ length-map-range_with_len (cell v) 0 width

module _ (b : BoundValue) (s : ℕ) where
  -- slot j of an argument is of cell j of its variable, into which the argument reduces
  pub record IsArgSlot (x : Arg) (j : ℕ) (it : Slot) : Type 0 where
    pub var : ℕ
    pub access : Access
    pub how : Reduction
    pub is_arg : x ≡ Global var access
    pub reduces : reduction_of access ≡ Some how
    pub below : j < var_width b var
    pub is_slot : it ≡ slot s how (cell var j)

  by_reduction : (v j : ℕ) (a : Access) (r : Option Reduction) → reduction_of a ≡ r → j < length (slots_by r s (map (cell v) (numbers (var_width b v))))
      → IsArgSlot (Global v a) j (get_or (slots_by r s (map (cell v) (numbers (var_width b v)))) j no_slot)
  by_reduction v j a None e lt = absurd (omega arith)
  by_reduction v j a (Some o) e lt =
      let below : j < var_width b v = omega (arith, lt, slot_count s v (var_width b v) o) in
      record { var = v; access = a; how = o; is_arg = refl; reduces = e; below = below; is_slot = slot_value s v (var_width b v) o j below }

  pub arg_slot : (x : Arg) (j : ℕ) → j < length (arg_slots b s x) → IsArgSlot x j (get_or (arg_slots b s x) j no_slot)
  arg_slot (Dat d v a) j lt = absurd (omega arith)
  arg_slot (Global v a) j lt = by_reduction v j a (reduction_of a) refl lt

-- ---- the slots of a program

module _ (b : BoundValue) where
  pub before_more : (s : ℕ) → slots_before b (s + 1) ≡ slots_before b s ++ site_slots b s
  before_more s =
      ap (flat_map (site_slots b)) (numbers_more s) ∙ flat_map-append (site_slots b) (numbers s) (s ∷ [])
      ∙ ap (λ z. slots_before b s ++ z) (append-nil (site_slots b s))

  -- slot j of a loop
  pub site_slot : (s j : ℕ) → s < length b.sites → j < length (site_slots b s)
      → (length (slots_before b s) + j < length (slots b)) × (get_or (slots b) (length (slots_before b s) + j) no_slot ≡ get_or (site_slots b s) j no_slot)
  site_slot s j ls lj =
      let n = length b.sites in
      let number : get_or (numbers n) s 0 ≡ s = get_or-range_with_len 0 n s 0 ls ∙ (let z : 0 + s ≡ s = omega arith in z) in
      let front : length (flat_map (site_slots b) (take s (numbers n))) ≡ length (slots_before b s) =
      ap (λ z. length (flat_map (site_slots b) z)) (numbers_take n s (omega arith)) in
      let long = length-range_with_len 0 n in
      let inner : j < length (site_slots b (get_or (numbers n) s 0)) = subst (λ z. j < length (site_slots b z)) (sym number) lj in
      let inside = piece_within (site_slots b) (numbers n) 0 s j (omega (arith, ls, long)) inner in (
        omega (arith, inside, front),
        ap (λ z. get_or (slots b) (z + j) no_slot) (sym front)
            ∙ get_or-flat_map (site_slots b) (numbers n) s j 0 no_slot (omega (arith, ls, long)) inner
            ∙ ap (λ z. get_or (site_slots b z) j no_slot) number,
      )

  -- slot j of an argument
  pub arg_slot_at : (s i j : ℕ) → s < length b.sites → i < length (site_at b s).args → j < length (arg_slots b s (get_or (site_at b s).args i no_arg))
      → (length (slots_before b s) + (length (flat_map (arg_slots b s) (take i (site_at b s).args)) + j) < length (slots b))
      × (get_or (slots b) (length (slots_before b s) + (length (flat_map (arg_slots b s) (take i (site_at b s).args)) + j)) no_slot
      ≡ get_or (arg_slots b s (get_or (site_at b s).args i no_arg)) j no_slot)
  arg_slot_at s i j ls li lj =
      let args = (site_at b s).args in
      let inside = piece_within (arg_slots b s) args no_arg i j li lj in
      let at = site_slot s (length (flat_map (arg_slots b s) (take i args)) + j) ls inside in
      (at.0, at.1 ∙ get_or-flat_map (arg_slots b s) args i j no_arg no_slot li lj)

  -- a slot by its number
  pub record IsSlot (k : ℕ) : Type 0 where
    pub site : ℕ
    pub there : site < length b.sites
    pub arg : ℕ
    pub arg_there : arg < length (site_at b site).args
    pub component : ℕ
    pub is : IsArgSlot b site (get_or (site_at b site).args arg no_arg) component (get_or (slots b) k no_slot)
    pub behind : length (slots_before b site) ≤ k
    pub ends : k < length (slots_before b site) + length (site_slots b site)

  pub slot_is : (k : ℕ) → k < length (slots b) → IsSlot k
  slot_is k lk =
      let n = length b.sites in
      let long = length-range_with_len 0 n in
      let l : Located (site_slots b) (numbers n) 0 k = located (site_slots b) (numbers n) 0 k lk in
      let ls : l.outer < n = omega (arith, l.there, long) in
      let number : get_or (numbers n) l.outer 0 ≡ l.outer = get_or-range_with_len 0 n l.outer 0 ls ∙ (let z : 0 + l.outer ≡ l.outer = omega arith in z) in
      let front : length (flat_map (site_slots b) (take l.outer (numbers n))) ≡ length (slots_before b l.outer) =
      ap (λ z. length (flat_map (site_slots b) z)) (numbers_take n l.outer (omega (arith, ls))) in
      let inner : l.inner < length (site_slots b l.outer) = subst (λ z. l.inner < length (site_slots b z)) number l.within in
      let place : length (slots_before b l.outer) + l.inner ≡ k = omega (arith, l.is, front) in
      let args = (site_at b l.outer).args in
      let m : Located (arg_slots b l.outer) args no_arg l.inner = located (arg_slots b l.outer) args no_arg l.inner inner in
      let at = arg_slot_at l.outer m.outer m.inner ls m.there m.within in
      let same : get_or (slots b) k no_slot ≡ get_or (arg_slots b l.outer (get_or args m.outer no_arg)) m.inner no_slot =
      ap (λ z. get_or (slots b) z no_slot) (sym place ∙ ap (λ z. length (slots_before b l.outer) + z) (sym m.is)) ∙ at.1 in
      record {
        site = l.outer;
        there = ls;
        arg = m.outer;
        arg_there = m.there;
        component = m.inner;
        is = subst (IsArgSlot b l.outer (get_or args m.outer no_arg) m.inner) (sym same) (arg_slot b l.outer (get_or args m.outer no_arg) m.inner m.within);
        behind = omega (arith, place);
        ends = omega (arith, place, inner);
      }

  -- a loop's slots stand side by side
  pub own_slots : (s k : ℕ) → k < length (slots b) → (get_or (slots b) k no_slot).site ≡ s
      → (length (slots_before b s) ≤ k) × (k < length (slots_before b s) + length (site_slots b s))
  own_slots s k lk e =
      let w = slot_is k lk in
      let same : w.site ≡ s = sym (ap (λ (x : Slot). x.site) w.is.is_slot) ∙ e in
      subst (λ z. (length (slots_before b z) ≤ k) × (k < length (slots_before b z) + length (site_slots b z))) same (w.behind, w.ends)
