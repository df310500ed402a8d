-- Rows of the table with a common number are places in conflict.
use Rattle.std.proofs.Common.{◌≡◌, ℕ, ◌+◌, ◌-◌, ◌*◌, ◌<◌, ◌≤◌, sym, ap, ◌∙◌, arith, ⊎_elim, List, Vec, None, length, get_or}
use Rattle.std.specs.Prelude.{◌↔◌, Contains}
use Rattle.std.specs.declared.alloc.Global.{Global}
use Rattle.std.proofs.lemmas.Bool.{cases_eq}
use Rattle.std.proofs.lemmas.Nat.{mul-add-lt}
use Rattle.std.proofs.lemmas.List.{get_or_default}
use Rattle.mesh_decl.specs.Mesh.{MeshValue}
use Rattle.colouring.specs.declared.types.IncArg.{IncArg}
use Rattle.colouring.specs.declared.types.Colours.{Colours}
use Rattle.colouring.specs.Rows.{In, MeetWithin, BlocksMeet, Conflict as Meet}
use Rattle.colouring.specs.Colours.{target_of, Conflict, ConflictWithin, BlocksConflict, IsLeast, AreColours}
use Rattle.colouring.specs.Table.{AreStarts, IsTable}
use Rattle.colouring.proofs.Parts.{least_same}

module _ (g : MeshValue) (maps : List (Vec ℕ Global)) (args : List IncArg) (places total : ℕ) (size : ℕ → ℕ) (starts table : List ℕ)
    (s : AreStarts size args starts total) (t : IsTable g maps args starts places table)
    (within : (p a : ℕ) (x : IncArg) → p < places → a < length args → target_of g maps p (get_or args a x) < size (get_or args a x).dat)
  where
    first : IncArg
    first = record { dat = 0; via = None }

    column : (q j : ℕ) → In table (length args) q j → (a : ℕ) × (a < length args) × (q * length args + a ≡ j)
    column q j i = (j - q * length args, (let x : q * length args ≤ j = i.0 in let y : j < q * length args + length args = i.1 in omega arith), (let x : q * length args ≤ j = i.0 in omega arith))

    found : (a : ℕ) → a < length args → Contains args (get_or args a first)
    found a l = (a, l, get_or_default args a (get_or args a first) first l)

    pub conflict_to : (q p : ℕ) → q < places → p < places → Meet table (length args) q p → Conflict g maps args q p
    conflict_to q p lq lp c =
        let u = column q c.0 c.2 in
        let v = column p c.1 c.3 in
        let a = u.0 in
        let b = v.0 in
        let x = get_or args a first in
        let y = get_or args b first in
        let rx : get_or table c.0 0 ≡ get_or starts a 0 + target_of g maps q x = ap (λ z. get_or table z 0) (sym u.2) ∙ t.at q a first lq u.1 in
        let ry : get_or table c.1 0 ≡ get_or starts b 0 + target_of g maps p y = ap (λ z. get_or table z 0) (sym v.2) ∙ t.at p b first lp v.1 in
        let e : get_or starts a 0 + target_of g maps q x ≡ get_or starts b 0 + target_of g maps p y = sym rx ∙ (c.4 ∙ ry) in
        let wx : target_of g maps q x < size x.dat = within q a first lq u.1 in
        let wy : target_of g maps p y < size y.dat = within p b first lp v.1 in
        ⊎_elim
        (λ (d : x.dat ≡ y.dat). (let f : get_or starts a 0 ≡ get_or starts b 0 = s.same a b first u.1 v.1 d in (x, y, found a u.1, found b v.1, d, omega arith)))
        (λ (d : x.dat ≡ y.dat → ⊥). absurd (⊎_elim
        (λ (l : get_or starts a 0 + size x.dat ≤ get_or starts b 0). omega arith)
        (λ (l : get_or starts b 0 + size y.dat ≤ get_or starts a 0). omega arith)
        (s.apart a b first u.1 v.1 d)))
        (cases_eq x.dat y.dat)

    in_row : (q a : ℕ) → q < places → a < length args → In table (length args) q (q * length args + a)
    in_row q a lq la =
        let h : q * length args + a < length args * places = mul-add-lt q (length args) a places lq la in
        let l : length table ≡ places * length args = t.count in
        (omega arith, omega arith, omega arith)

    pub conflict_from : (q p : ℕ) → q < places → p < places → Conflict g maps args q p → Meet table (length args) q p
    conflict_from q p lq lp k =
        let x = k.0 in
        let y = k.1 in
        let a = k.2.0 in
        let b = k.3.0 in
        let la : a < length args = k.2.1 in
        let lb : b < length args = k.3.1 in
        let ex : get_or args a x ≡ x = k.2.2 in
        let ey : get_or args b y ≡ y = k.3.2 in
        let d : (get_or args a x).dat ≡ (get_or args b x).dat = ap (λ (z : IncArg). z.dat) ex ∙ (k.4 ∙ sym (ap (λ (z : IncArg). z.dat) (get_or_default args b x y lb ∙ ey))) in
        let f : get_or starts a 0 ≡ get_or starts b 0 = s.same a b x la lb d in
        let rx : get_or table (q * length args + a) 0 ≡ get_or starts a 0 + target_of g maps q x = t.at q a x lq la ∙ ap (λ z. get_or starts a 0 + target_of g maps q z) ex in
        let ry : get_or table (p * length args + b) 0 ≡ get_or starts b 0 + target_of g maps p y = t.at p b y lp lb ∙ ap (λ z. get_or starts b 0 + target_of g maps p z) ey in
        let e : target_of g maps q x ≡ target_of g maps p y = k.5 in
        (q * length args + a, p * length args + b, in_row q a lq la, in_row p b lp lb, omega arith)

    pub are_colours : (block : ℕ) (c : Colours) → ((b : ℕ) → (b < length c.blocks.items) ↔ (b * block < places))
        → length c.inner.items ≡ places →
        ((b : ℕ) → b < length c.blocks.items → IsLeast (BlocksMeet table (length args) places block) c.blocks.items b)
        → ((p : ℕ) → p < places → IsLeast (MeetWithin table (length args) block) c.inner.items p) → AreColours g maps args places block c
    are_colours block c count long blocks inner = record {
      blocks_count = count;
      inner_count = long;
      blocks = λ b l. least_same (BlocksMeet table (length args) places block) (BlocksConflict g maps args places block) c.blocks.items b
          (λ a lt k. (k.0, k.1, k.2, k.3, conflict_to k.0 k.1 k.2.2 k.3.2 k.4))
          (λ a lt k. (k.0, k.1, k.2, k.3, conflict_from k.0 k.1 k.2.2 k.3.2 k.4))
          (blocks b l);
      inner = λ p l. least_same (MeetWithin table (length args) block) (ConflictWithin g maps args block) c.inner.items p
          (λ q lt k. (k.0, conflict_to q p (omega arith) l k.1))
          (λ q lt k. (k.0, conflict_from q p (omega arith) l k.1))
          (inner p l);
    }
