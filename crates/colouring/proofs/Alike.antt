-- Blocks and places of one colour with a common target, by rows, and as conflicts.
use Rattle.std.proofs.Common.{◌≡◌, ◌≢◌, ℕ, Bool, true, false, ◌+◌, ◌*◌, ◌^◌, ◌/◌, ◌<◌, ◌≤◌, ◌⊎◌, min, sym, subst, ◌∙◌, arith, ⊎_elim, inl, inr, List, Vec, length, get_or, add-mul, mul-le-mul_left, mul-le-mul_right, div-mul-le_self, lt_of_mul-lt-mul_right}
use Rattle.std.specs.Prelude.{◌↔◌}
use Rattle.std.specs.declared.alloc.Global.{Global}
use Rattle.std.specs.List.{Contains}
use Rattle.std.proofs.lemmas.Bool.{cases_lt, cases_Bool, false≢true}
use Rattle.std.proofs.Math.Nat.{lt-div-mul-add}
use Rattle.mesh_decl.specs.Mesh.{MeshValue}
use Rattle.colouring.specs.declared.types.IncArg.{IncArg}
use Rattle.colouring.specs.Rows.{Conflict, MeetWithin, none}
use Rattle.colouring.specs.Colours.{target_of}
use Rattle.colouring.specs.Table.{AreStarts, IsTable}
use Rattle.colouring.specs.Meeting.{Has, SomeMeet, Marked, BlocksAlike, PlacesAlike}
use Rattle.colouring.specs.Clashes.{BlocksClash, PlacesClash}
use Rattle.colouring.proofs.Blocks.{block_is, place_in, row_in}
use Rattle.colouring.proofs.Translating.{conflict_to, conflict_from}
use Rattle.lemmas.proofs.Lists.{contains_at}

-- ---- blocks

module _ (table : List ℕ) (w size places m : ℕ) (em : m ≡ min size places) (long : length table ≡ places * w) (cs order : List ℕ) (count : (b : ℕ) → (b < length cs) ↔ (b * size < places)) where
  pub blocks_alike : ((a : ℕ) → a < length order → get_or order a 0 < length cs) → SomeMeet table (m * w) cs order → BlocksAlike table w places size cs
  blocks_alike rows s =
      let b : ℕ = get_or order s.0 0 in
      let c : ℕ = get_or order s.1 0 in
      let lb : b < length cs = rows s.0 s.2 in
      let lc : c < length cs = rows s.1 s.3 in
      let k = s.4.2 in
      let x = place_in table w size places m em long b k.0 ((count b).0 lb) k.2 in
      let y = place_in table w size places m em long c k.1 ((count c).0 lc) k.3 in
      (b, c, lb, lc, s.4.0, (x.0, y.0, x.1, y.1, (k.0, k.1, x.2, y.2, k.4)), s.4.1)

  pub blocks_some : ((row : ℕ) → row < length cs → Contains order row) → BlocksAlike table w places size cs → SomeMeet table (m * w) cs order
  blocks_some all h =
      let b : ℕ = h.0 in
      let c : ℕ = h.1 in
      let ob = all b h.2 in
      let oc = all c h.3 in
      let k = h.5 in
      let i = row_in table w size places m em long b k.0 k.4.0 ((count b).0 h.2) k.2 k.4.2 in
      let j = row_in table w size places m em long c k.1 k.4.1 ((count c).0 h.3) k.3 k.4.3 in (
        ob.0,
        oc.0,
        ob.1,
        oc.1,
        subst (λ x. (x ≢ get_or order oc.0 0) × (get_or cs x 0 ≡ get_or cs (get_or order oc.0 0) 0) × Conflict table (m * w) x (get_or order oc.0 0)) (sym (contains_at order b ob))
            (subst (λ y. (b ≢ y) × (get_or cs b 0 ≡ get_or cs y 0) × Conflict table (m * w) b y) (sym (contains_at order c oc))
            (h.4, h.6, (k.4.0, k.4.1, i, j, k.4.4))),
      )

-- contains_at are no more blocks than places
pub few_blocks : (n size places : ℕ) → 0 < size → ((b : ℕ) → (b < n) ↔ (b * size < places)) → n ≤ places
few_blocks n size places some count = ⊎_elim
    (λ (l : places < n). (
    let h : places * size < places = (count places).0 l in
    let k : places * 1 ≤ places * size = mul-le-mul_left places some in
    omega arith))
    (λ (l : n ≤ places). l)
    (cases_lt places n)

-- ---- places

-- the rows of one block
pub places_alike : (table cs order : List ℕ) (w size b first last places : ℕ) → 0 < size → first ≡ b * size → last ≤ b * size + size
    → last ≤ places → ((a : ℕ) → a < length order → (first ≤ get_or order a 0) × (get_or order a 0 < last)) → SomeMeet table w cs order
    → PlacesAlike table w size cs places
places_alike table cs order w size b first last places some ef el lp rows s =
    let q : ℕ = get_or order s.0 0 in
    let p : ℕ = get_or order s.1 0 in
    let rq = rows s.0 s.2 in
    let rp = rows s.1 s.3 in
    let q0 : first ≤ q = rq.0 in
    let q1 : q < last = rq.1 in
    let p0 : first ≤ p = rp.0 in
    let p1 : p < last = rp.1 in
    (q, p, omega arith, omega arith, s.4.0, (block_is size b q (omega arith) (omega arith) ∙ sym (block_is size b p (omega arith) (omega arith)), s.4.2), s.4.1)

-- of the places of the blocks so far no two of one block and one colour have a common target
abbrev pub NoneAlike : List ℕ → ℕ → ℕ → List ℕ → ℕ → Type 0
NoneAlike table w size cs n =
    (q p : ℕ) → q < n → p < n → q < length cs → p < length cs → q ≢ p → MeetWithin table w size q p → get_or cs q 0 ≡ get_or cs p 0 → ⊥

same_block : (size b q p : ℕ) → 0 < size → q < b * size → q / size ≡ p / size → p < b * size
same_block size b q p some l e =
    let a : q / size * size ≤ q = div-mul-le_self q size in
    let f : q / size < b = lt_of_mul-lt-mul_right size (omega arith) in
    let g : p < p / size * size + size = lt-div-mul-add {a = p} {b = size} some in
    let h : (p / size + 1) * size ≡ p / size * size + 1 * size = add-mul (p / size) 1 size in
    let i : (p / size + 1) * size ≤ b * size = mul-le-mul_right size (omega arith) in
    omega arith

pub none_alike_more : (table cs order : List ℕ) (w size b first last : ℕ) → 0 < size → first ≡ b * size
    → last ≡ min (b * size + size) (length cs) → ((row : ℕ) → first ≤ row → row < last → Contains order row)
    → (SomeMeet table w cs order → ⊥) → NoneAlike table w size cs (b * size) → NoneAlike table w size cs ((b + 1) * size)
none_alike_more table cs order w size b first last some ef el all clear before q p lq lp nq np ne k e =
    let next : (b + 1) * size ≡ b * size + 1 * size = add-mul b 1 size in
    ⊎_elim
    (λ (l : q < b * size). before q p l (same_block size b q p some l k.0) nq np ne k e)
    (λ (l : b * size ≤ q). ⊎_elim
    (λ (o : p < b * size). before q p (same_block size b p q some o (sym k.0)) o nq np ne k e)
    (λ (o : b * size ≤ p).
    let oq = all q (omega arith) (omega arith) in
    let op = all p (omega arith) (omega arith) in
    clear (
      oq.0,
      op.0,
      oq.1,
      op.1,
      subst (λ x. (x ≢ get_or order op.0 0) × (get_or cs x 0 ≡ get_or cs (get_or order op.0 0) 0) × Conflict table w x (get_or order op.0 0)) (sym (contains_at order q oq))
          (subst (λ y. (q ≢ y) × (get_or cs q 0 ≡ get_or cs y 0) × Conflict table w q y) (sym (contains_at order p op))
          (ne, e, k.1)),
    ))
    (cases_lt p (b * size)))
    (cases_lt q (b * size))

-- the marks after a block are of places before the next one
pub marks_before : (table order marks : List ℕ) (w size b first last : ℕ) → first ≡ b * size → last ≤ b * size + size
    → ((a : ℕ) → a < length order → (first ≤ get_or order a 0) × (get_or order a 0 < last))
    → Marked table w order first (length order) marks → (t : ℕ) → t < length marks → (get_or marks t 0 ≡ none)
    ⊎ (get_or marks t 0 < (b + 1) * size)
marks_before table order marks w size b first last ef el rows m t l =
    let next : (b + 1) * size ≡ b * size + 1 * size = add-mul b 1 size in
    ⊎_elim
    (λ (e : get_or marks t 0 ≡ none). inl e)
    (λ s. ⊎_elim
    (λ (f : get_or marks t 0 < first). inr (omega arith))
    (λ (y : (e : ℕ) × (e < length order) × (get_or marks t 0 ≡ get_or order e 0) × Has table w (get_or order e 0) t).
    inr (let r = rows y.0 y.1 in let g : get_or order y.0 0 < last = r.1 in let h : get_or marks t 0 ≡ get_or order y.0 0 = y.2 in omega arith))
    s)
    (m.from t l)

pub none_alike_all : (table cs : List ℕ) (w size n places : ℕ) → length cs ≡ places → places ≤ n → NoneAlike table w size cs n → PlacesAlike table w size cs places → ⊥
none_alike_all table cs w size n places count past before h =
    let lq : h.0 < places = h.2 in
    let lp : h.1 < places = h.3 in
    before h.0 h.1 (omega arith) (omega arith) (omega arith) (omega arith) h.4 h.5 h.6

-- ---- as conflicts

module _ (g : MeshValue) (maps : List (Vec ℕ Global)) (args : List IncArg) (places total : ℕ) (width : ℕ → ℕ) (starts table : List ℕ)
    (s : AreStarts width args starts total) (t : IsTable g maps args starts places table)
    (within : (p a : ℕ) (x : IncArg) → p < places → a < length args → target_of g maps p (get_or args a x) < width (get_or args a x).dat)
    (size : ℕ) (cs : List ℕ) where
  pub blocks_clash : BlocksAlike table (length args) places size cs → BlocksClash g maps args places size cs
  blocks_clash h = record {
    one = h.0;
    other = h.1;
    within = h.2;
    other_within = h.3;
    apart = h.4;
    conflict = (h.5.0, h.5.1, h.5.2, h.5.3, conflict_to g maps args places total width starts table s t within h.5.0 h.5.1 h.5.2.2 h.5.3.2 h.5.4);
    same = h.6;
  }

  pub blocks_meet : BlocksClash g maps args places size cs → BlocksAlike table (length args) places size cs
  blocks_meet c =
      let k = c.conflict in
      (c.one, c.other, c.within, c.other_within, c.apart, (k.0, k.1, k.2, k.3, conflict_from g maps args places total width starts table s t within k.0 k.1 k.2.2 k.3.2 k.4), c.same)

  pub places_clash : length cs ≡ places → PlacesAlike table (length args) size cs places → PlacesClash g maps args places size cs
  places_clash count h =
      let lq : h.0 < places = h.2 in
      let lp : h.1 < places = h.3 in
      record {
        one = h.0;
        other = h.1;
        within = omega arith;
        other_within = omega arith;
        apart = h.4;
        conflict = (h.5.0, conflict_to g maps args places total width starts table s t within h.0 h.1 lq lp h.5.1);
        same = h.6;
      }

  pub places_meet : length cs ≡ places → PlacesClash g maps args places size cs → PlacesAlike table (length args) size cs places
  places_meet count c =
      let lq : c.one < places = (let l = c.within in omega arith) in
      let lp : c.other < places = (let l = c.other_within in omega arith) in
      (c.one, c.other, lq, lp, c.apart, (c.conflict.0, conflict_from g maps args places total width starts table s t within c.one c.other lq lp c.conflict.1), c.same)

  -- by a test's answer, where table and colours are read
  module _ (r : Bool) (tb ds : List ℕ) (et : tb ≡ table) (ed : ds ≡ cs) where
    pub found_blocks : ((r ≡ true) ↔ BlocksAlike tb (length args) places size ds) → r ≡ true → BlocksClash g maps args places size cs
    found_blocks k e = blocks_clash (subst (λ z. BlocksAlike table (length args) places size z) ed (subst (λ z. BlocksAlike z (length args) places size ds) et (k.0 e)))

    pub no_blocks : ((r ≡ true) ↔ BlocksAlike tb (length args) places size ds) → r ≡ false → BlocksClash g maps args places size cs → ⊥
    no_blocks k e c = false≢true (sym e ∙ k.1 (subst (λ z. BlocksAlike z (length args) places size ds) (sym et) (subst (λ z. BlocksAlike table (length args) places size z) (sym ed) (blocks_meet c))))

    pub found_places : length cs ≡ places → ((r ≡ true) ↔ PlacesAlike tb (length args) size ds places) → r ≡ true → PlacesClash g maps args places size cs
    found_places count k e = places_clash count (subst (λ z. PlacesAlike table (length args) size z places) ed (subst (λ z. PlacesAlike z (length args) size ds places) et (k.0 e)))

    pub no_places : length cs ≡ places → ((r ≡ true) ↔ PlacesAlike tb (length args) size ds places) → r ≡ false → PlacesClash g maps args places size cs → ⊥
    no_places count k e c = false≢true
        (sym e ∙ k.1 (subst (λ z. PlacesAlike z (length args) size ds places) (sym et)
        (subst (λ z. PlacesAlike table (length args) size z places) (sym ed) (places_meet count c))))

-- ---- answers

-- a test that finds what is so, and finds nothing where it isn't so
pub decided : (r : Bool) (P Q : Type 0) → (r ≡ true → P) → (r ≡ false → P → ⊥) → (P → Q) → (Q → P) → (r ≡ true) ↔ Q
decided r P Q f n to from = (λ e. to (f e), λ q. ⊎_elim (λ (t : r ≡ true). t) (λ (e : r ≡ false). absurd (n e (from q))) (cases_Bool r))

-- rows as they are read
pub order_read : (xs ys : List ℕ) (n m : ℕ) → ys ≡ xs → ((a : ℕ) → a < length xs → (n ≤ get_or xs a 0) × (get_or xs a 0 < m)) → (a : ℕ) → a < length ys → (n ≤ get_or ys a 0) × (get_or ys a 0 < m)
order_read xs ys n m e h = subst (λ (z : List ℕ). (a : ℕ) → a < length z → (n ≤ get_or z a 0) × (get_or z a 0 < m)) (sym e) h

pub order_sorted : (xs ys cs : List ℕ) → ys ≡ xs →
    ((a e : ℕ) → a ≤ e → e < length xs → get_or cs (get_or xs a 0) 0 ≤ get_or cs (get_or xs e 0) 0) → (a e : ℕ) → a ≤ e → e < length ys
    → get_or cs (get_or ys a 0) 0 ≤ get_or cs (get_or ys e 0) 0
order_sorted xs ys cs e h = subst (λ (z : List ℕ). (a i : ℕ) → a ≤ i → i < length z → get_or cs (get_or z a 0) 0 ≤ get_or cs (get_or z i 0) 0) (sym e) h

pub order_all : (xs ys : List ℕ) (n m : ℕ) → ys ≡ xs → ((row : ℕ) → n ≤ row → row < m → Contains xs row) → (row : ℕ) → n ≤ row → row < m → Contains ys row
order_all xs ys n m e h = subst (λ (z : List ℕ). (row : ℕ) → n ≤ row → row < m → Contains z row) (sym e) h

-- rows of one width are few
pub small_rows : (n w long : ℕ) → 0 < n → long ≡ n * w → long < 2 ^ 61 → n * w + w < 2 ^ 64
small_rows n w long some e few = let h : 1 * w ≤ n * w = mul-le-mul_right w some in omega arith
