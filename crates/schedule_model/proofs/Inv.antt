-- What holds at every moment before a stop.
use Rattle.std.proofs.Common.{◌≡◌, ℕ, ℤ, suc, ◌<◌, ◌≤◌, Bool, true, refl, sym, ap, subst, ◌∙◌, ⊎_elim, Some, None, List, [], ◌∷◌, ◌++◌}
use Rattle.std.specs.Prelude.{◌&&◌, ◌==◌}
use Rattle.std.proofs.lemmas.Bool.{cases_lt, false≢true, and_parts, cond-true, cond-false, eqb-true, eq-eqb, ne_eqb}
use Rattle.schedule_steps.specs.declared.step.Step.{Step}
use Rattle.schedule_steps.specs.declared.step.Step.TheVariants.{Recv, Begin, End, Join}
use Rattle.schedule_steps.specs.Steps.{item, IsOf, by_item}
use Rattle.schedule_model.specs.Cells.{Data, DatCell, VarCell}
use Rattle.schedule_model.specs.Program.{Free, elements}
use Rattle.schedule_model.specs.Setup.{Setup, owner_of, outline}
use Rattle.schedule_model.specs.Sequential.{Stop, seq}
use Rattle.schedule_model.specs.Machine.{Message, State, put1}
use Rattle.schedule_model.proofs.Law.{Law, fault}
use Rattle.schedule_model.proofs.Sequence.{is_going, store_at}
use Rattle.schedule_model.proofs.Marks.{mark, mark_else, Ready, Proper, stands_other, waiting, pending}
use Rattle.schedule_model.proofs.Least.{Each, Member}
use Rattle.schedule_model.proofs.Range.{Sane}
use Rattle.schedule_model.proofs.Facts.{says_other, At, stand_at}

-- the fault is that of an element of a Free item
abbrev pub Recorded : {F : Type 0} → Setup F → Stop F → Type 0
Recorded p x = is_going (seq p.program x.item) ≡ true → (e : ℕ) × (x.element ≡ Some e) × (e < elements p.program x.item)
    × (fault p x.item e (store_at p x.item) ≡ Some x.fault) × (p.program.kind x.item ≡ Free)

-- the message holds its sender's cells as they were before its item
abbrev pub Letter : {F : Type 0} → Setup F → ℕ → Message → Type 0
Letter p s x = is_going (seq p.program x.about) ≡ true → (c : DatCell) → owner_of p c ≡ s → x.values c ≡ store_at p x.about (Data c)

abbrev pub Letters : {F : Type 0} → Setup F → ℕ → List Message → Type 0
Letters p s [] = Unit {0}
Letters p s (x ∷ xs) = Letter p s x × Letters p s xs

abbrev pub abouts : List Message → List ℕ
abouts [] = []
abouts (x ∷ xs) = x.about ∷ abouts xs

pub abouts_push : (xs : List Message) (x : Message) → abouts (xs ++ (x ∷ [])) ≡ abouts xs ++ (x.about ∷ [])
abouts_push [] x = refl
abouts_push (y ∷ xs) x = ap (λ l. y.about ∷ l) (abouts_push xs x)

pub letters_push : {F : Type 0} (p : Setup F) (s : ℕ) (xs : List Message) (x : Message) → Letters p s xs → Letter p s x → Letters p s (xs ++ (x ∷ []))
letters_push p s [] x h hx = (hx, tt)
letters_push p s (y ∷ xs) x h hx = (h.0, letters_push p s xs x h.1 hx)

pub record Inv {F : Type 0} (p : Setup F) (m : Step → Bool) (st : State F) : Type 0 where
  pub running : st.stop ≡ None
  pub sane : Sane st
  pub right : Proper (outline p) m
  pub queues : (s r : ℕ) → abouts (st.mail s r) ≡ pending (waiting m s r) p.program.items
  pub letters : (s r : ℕ) → Letters p s (st.mail s r)
  pub recorded : Each (Recorded p) st.faults
  pub kept : (k r e : ℕ) (f : F) → m (Begin k r e) ≡ true → is_going (seq p.program k) ≡ true → fault p k e (store_at p k) ≡ Some f
      → Member (record { item = k; element = Some e; fault = f }) st.faults
  pub went : (j : ℕ) → m (Join j) ≡ true → is_going (seq p.program (suc j)) ≡ true
  pub ranks : (r : ℕ) → r < p.ranks → (k : ℕ) × At p m st r k

pub at_item : {F : Type 0} (p : Setup F) (q : Law p) (m : Step → Bool) (st : State F) → Inv p m st → (s : Step) → Ready (outline p) m s
    → item s ≤ p.program.items → (r : ℕ) → IsOf s r → r < p.ranks → At p m st r (item s)
at_item p q m st inv s rd le r of lt =
    let h : (k : ℕ) × At p m st r k = inv.ranks r lt in
    stand_at p q m st r lt inv.right (item s) h.0 h.1 le
    (λ t plan oft l. rd.after t plan (by_item r oft of l))
    (⊎_elim (λ (l : item s < h.0). absurd (false≢true (sym rd.untaken ∙ h.1.stands.past s rd.planned of l))) (λ l. l) (cases_lt (item s) h.0))

pub put_same : (r : ℕ) (v : DatCell → ℤ) (f : ℕ → DatCell → ℤ) (c : DatCell) → put1 r v f r c ≡ v c
put_same r v f c = ap (λ g. g c) (cond-true (r == r) v (f r) (eq-eqb r r refl))

pub put_other : (r x : ℕ) (v : DatCell → ℤ) (f : ℕ → DatCell → ℤ) (c : DatCell) → (x ≡ r → ⊥) → put1 r v f x c ≡ f x c
put_other r x v f c ne = ap (λ g. g c) (cond-false (x == r) v (f x) (ne_eqb x r ne))

-- the ranks that don't take the step
pub at_other : {F : Type 0} (p : Setup F) (m : Step → Bool) (a b : State F) (s : Step) (x : ℕ) → (IsOf s x → ⊥) → b.output ≡ a.output
    → ((c : DatCell) → b.memories x c ≡ a.memories x c) → b.variables ≡ a.variables
    → ((i : ℕ) (v : VarCell) → b.partials x i v ≡ a.partials x i v) → ((k e : ℕ) → b.frames k x e ≡ a.frames k x e)
    → ((k : ℕ) × At p m a x k) → (k : ℕ) × At p (mark s m) b x k
at_other p m a b s x ne out mem vars part frame h =
    let same_mark = λ (t : Step) (of : IsOf t x). mark_else s m t (λ e. ne (subst (λ u. IsOf u x) e of)) in (
      h.0,
      record {
        stands = stands_other (outline p) m (mark s m) x h.0 same_mark h.1.stands;
        says = says_other p m (mark s m) a b x h.0 (λ y e. sym (same_mark (Recv h.0 x y) refl) ∙ e) (λ e. same_mark (Begin h.0 x e) refl)
            (λ j e. same_mark (End j x e) refl) out mem (λ v. ap (λ f. f v) vars) part (frame h.0) h.1.says;
      },
    )

pub two_same : (a b x y : ℕ) → ((x == a) && (y == b)) ≡ true → (x ≡ a) × (y ≡ b)
two_same a b x y h = let t : ((x == a) ≡ true) × ((y == b) ≡ true) = and_parts (x == a) (y == b) h in (eqb-true x a t.0, eqb-true y b t.1)
