-- The flat machine has what the machine on cells has.
use Rattle.std.proofs.Common.{◌≡◌, ℕ, ℤ, pos, ◌<◌, true, refl, sym, ap, subst, ◌∙◌, arith, ⊎_elim, List, [], ◌∷◌, ◌++◌, map, length, get_or, length-set, get_or-set_same, get_or-set_other}
use Rattle.std.specs.Prelude.{◌==◌}
use Rattle.std.proofs.lemmas.Bool.{cases_eq, cond-true, cond-false, eq-eqb, ne_eqb}
use Rattle.schedule_model.specs.Cells.{Cell, Data, Variable, DatCell, VarCell}
use Rattle.schedule_model.specs.Program.{Free}
use Rattle.schedule_model.specs.Setup.{Setup}
use Rattle.schedule_model.specs.Machine.{Frame, Shut, Broken, Holds, Message, State, put1}
use Rattle.schedule_model.specs.Layout.{Layout, IsLayout, lookup, among, is_cell, IsVariable, Has}
use Rattle.schedule_model.specs.Flat.{Pane, Shut_pane, Broken_pane, Windows, Post, Flat, updated, updated_rows, change, read, variable}
use Rattle.schedule_model.proofs.flat_machine.Rows.{updated_at, updated_length, rows_length, rows_at}

abbrev pub PaneSame : {F : Type 0} → Layout F → ℕ → ℕ → Pane → Frame → Type 0
PaneSame l k e Shut_pane Shut = Unit {0}
PaneSame l k e Broken_pane Broken = Unit {0}
PaneSame l k e (Windows ws) (Holds t) = (c : Cell) (d : ℤ) → among (l.cells k e) c ≡ true → t c ≡ lookup (l.cells k e) ws c d
PaneSame l k e Shut_pane Broken = ⊥
PaneSame l k e Shut_pane (Holds t) = ⊥
PaneSame l k e Broken_pane Shut = ⊥
PaneSame l k e Broken_pane (Holds t) = ⊥
PaneSame l k e (Windows ws) Shut = ⊥
PaneSame l k e (Windows ws) Broken = ⊥

-- the values of a message, by cell; a variable is in none
abbrev pub valued : (DatCell → ℤ) → Cell → ℤ
valued h (Data c) = h c
valued h (Variable v) = pos 0

abbrev pub PostSame : {F : Type 0} → Layout F → ℕ → ℕ → Post → Message → Type 0
PostSame l s r x y = (x.about ≡ y.about) × (x.values ≡ map (valued y.values) (l.exports x.about s r))

abbrev pub PostsSame : {F : Type 0} → Layout F → ℕ → ℕ → List Post → List Message → Type 0
PostsSame l s r [] [] = Unit {0}
PostsSame l s r [] (y ∷ ys) = ⊥
PostsSame l s r (x ∷ xs) [] = ⊥
PostsSame l s r (x ∷ xs) (y ∷ ys) = PostSame l s r x y × PostsSame l s r xs ys

pub posts_push : {F : Type 0} (l : Layout F) (s r : ℕ) (xs : List Post) (ys : List Message) (x : Post) (y : Message) → PostsSame l s r xs ys
    → PostSame l s r x y → PostsSame l s r (xs ++ (x ∷ [])) (ys ++ (y ∷ []))
posts_push l s r [] [] x y h new = (new, tt)
posts_push l s r [] (b ∷ ys) x y h new = absurd h
posts_push l s r (a ∷ xs) [] x y h new = absurd h
posts_push l s r (a ∷ xs) (b ∷ ys) x y h new = (h.0, posts_push l s r xs ys x y h.1 new)

-- each copy has its cell's value
pub record Copies {F : Type 0} (p : Setup F) (l : Layout F) (memories : List (List ℤ)) (mem : ℕ → DatCell → ℤ) : Type 0 where
  pub wide : length memories ≡ p.ranks
  pub widths : (r : ℕ) → r < p.ranks → length (get_or memories r []) ≡ l.width r
  pub copies : (r i : ℕ) → r < p.ranks → i < l.width r → get_or (get_or memories r []) i (pos 0) ≡ mem r (l.cell_at r i)

-- each variable has its value
pub record Values {F : Type 0} (l : Layout F) (variables : List ℤ) (vars : VarCell → ℤ) : Type 0 where
  pub wide : length variables ≡ l.variables
  pub values : (i : ℕ) → i < l.variables → get_or variables i (pos 0) ≡ vars (l.variable_at i)

pub record Same {F : Type 0} (p : Setup F) (l : Layout F) (f : Flat F) (a : State F) : Type 0 where
  pub memories : Copies p l f.memories a.memories
  pub variables : Values l f.variables a.variables
  pub partials : (r s : ℕ) (v : VarCell) → f.partials r s v ≡ a.partials r s v
  pub mail : (s r : ℕ) → PostsSame l s r (f.mail s r) (a.mail s r)
  pub panes : (k r x : ℕ) → p.program.kind k ≡ Free → r < p.ranks → x < l.count k r → PaneSame l k (l.original k r x) (f.panes k r x) (a.frames k r (l.original k r x))
  pub faults : f.faults ≡ a.faults
  pub output : f.output ≡ a.output
  pub stop : f.stop ≡ a.stop

-- one rank's copies change by their cells
pub changed : {F : Type 0} (p : Setup F) (l : Layout F) (memories : List (List ℤ)) (mem : ℕ → DatCell → ℤ) (r : ℕ) (g : DatCell → ℤ → ℤ) (new : DatCell → ℤ) → Copies p l memories mem → r < p.ranks
    → ((i : ℕ) → i < l.width r → g (l.cell_at r i) (mem r (l.cell_at r i)) ≡ new (l.cell_at r i)) → Copies p l (change p l r g memories) (put1 r new mem)
changed p l memories mem r g new h lt same =
    let here : get_or (change p l r g memories) r [] ≡ updated (λ i v. g (l.cell_at r i) v) 0 (get_or memories r []) =
    (let fits : r < length memories = (let w : length memories ≡ p.ranks = h.wide in omega arith) in
    get_or-set_same memories r (updated (λ i v. g (l.cell_at r i) v) 0 (get_or memories r [])) [] fits) in
    record {
      wide = length-set memories r (updated (λ i v. g (l.cell_at r i) v) 0 (get_or memories r [])) ∙ h.wide;
      widths = λ x xl. ⊎_elim
          (λ (e : x ≡ r).
          ap (λ z. length (get_or (change p l r g memories) z [])) e
          ∙ (ap length here ∙ (updated_length (λ i v. g (l.cell_at r i) v) 0 (get_or memories r []) ∙ (h.widths r lt ∙ ap l.width (sym e)))))
          (λ (ne : x ≡ r → ⊥). ap length (get_or-set_other memories r x (updated (λ i v. g (l.cell_at r i) v) 0 (get_or memories r [])) [] ne) ∙ h.widths x xl)
          (cases_eq x r);
      copies = λ x i xl il. ⊎_elim
          (λ (e : x ≡ r).
          let ir : i < l.width r = subst (λ z. i < l.width z) e il in
          subst (λ z. get_or (get_or (change p l r g memories) z []) i (pos 0) ≡ put1 r new mem z (l.cell_at z i)) (sym e)
          (ap (λ z. get_or z i (pos 0)) here
          ∙ (updated_at (λ i v. g (l.cell_at r i) v) (get_or memories r []) i (pos 0) (let w : length (get_or memories r []) ≡ l.width r = h.widths r lt in omega arith)
          ∙ (ap (g (l.cell_at r i)) (h.copies r i lt ir)
          ∙ (same i ir ∙ ap (λ m. m (l.cell_at r i)) (sym (cond-true (r == r) new (mem r) (eq-eqb r r refl))))))))
          (λ (ne : x ≡ r → ⊥).
          ap (λ z. get_or z i (pos 0)) (get_or-set_other memories r x (updated (λ i v. g (l.cell_at r i) v) 0 (get_or memories r [])) [] ne)
          ∙ (h.copies x i xl il ∙ ap (λ m. m (l.cell_at x i)) (sym (cond-false (x == r) new (mem x) (ne_eqb x r ne)))))
          (cases_eq x r);
    }

-- all ranks' copies change by their cells
pub all_changed : {F : Type 0} (p : Setup F) (l : Layout F) (memories : List (List ℤ)) (mem : ℕ → DatCell → ℤ) (g : ℕ → DatCell → ℤ → ℤ) (new : ℕ → DatCell → ℤ) → Copies p l memories mem
    → ((r i : ℕ) → g r (l.cell_at r i) (mem r (l.cell_at r i)) ≡ new r (l.cell_at r i)) → Copies p l (updated_rows (λ r i v. g r (l.cell_at r i) v) 0 memories) new
all_changed p l memories mem g new h same = record {
  wide = rows_length (λ r i v. g r (l.cell_at r i) v) 0 memories ∙ h.wide;
  widths = λ r rl. ap length (rows_at (λ r i v. g r (l.cell_at r i) v) memories r) ∙ (updated_length (λ i v. g r (l.cell_at r i) v) 0 (get_or memories r []) ∙ h.widths r rl);
  copies = λ r i rl il.
      ap (λ z. get_or z i (pos 0)) (rows_at (λ r i v. g r (l.cell_at r i) v) memories r)
      ∙ (updated_at (λ i v. g r (l.cell_at r i) v) (get_or memories r []) i (pos 0) (let u : length (get_or memories r []) ≡ l.width r = h.widths r rl in omega arith)
      ∙ (ap (g r (l.cell_at r i)) (h.copies r i rl il) ∙ same r i));
}

-- the variables change by their cells
pub values_changed : {F : Type 0} (l : Layout F) (variables : List ℤ) (vars : VarCell → ℤ) (g : VarCell → ℤ → ℤ) (new : VarCell → ℤ) → Values l variables vars
    → ((v : VarCell) → g v (vars v) ≡ new v) → Values l (updated (λ i x. g (l.variable_at i) x) 0 variables) new
values_changed l variables vars g new h same = record {
  wide = updated_length (λ i x. g (l.variable_at i) x) 0 variables ∙ h.wide;
  values = λ i il.
      updated_at (λ i x. g (l.variable_at i) x) variables i (pos 0) (let u : length variables ≡ l.variables = h.wide in omega arith)
      ∙ (ap (g (l.variable_at i)) (h.values i il) ∙ same (l.variable_at i));
}

module _ {F : Type 0} (p : Setup F) (l : Layout F) (q : IsLayout p l) (f : Flat F) (a : State F) (h : Same p l f a) where
  -- a copy that the rank has
  pub read_is : (r : ℕ) (c : DatCell) → r < p.ranks → is_cell p l c ≡ true → Has p l r c → read p l f r c ≡ a.memories r c
  read_is r c lt real held =
      let i : (l.place r c < l.width r) × (l.cell_at r (l.place r c) ≡ c) = q.placed r c lt real held in
      h.memories.copies r (l.place r c) lt i.0 ∙ ap (a.memories r) i.1

  pub variable_is : (v : VarCell) → IsVariable p l v → variable p l f v ≡ a.variables v
  variable_is v i = h.variables.values (l.index_of v) i.0 ∙ ap a.variables i.1
