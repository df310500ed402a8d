-- Places and colours, read one by one.
use Rattle.std.proofs.Common.{◌≡◌, ℕ, zero, suc, ◌+◌, ◌<◌, ◌≤◌, Bool, false, refl, sym, ap, subst, ◌∙◌, arith, ⊎_elim, List, [], ◌∷◌, ◌++◌, length, get_or}
use Rattle.std.proofs.lemmas.Bool.{cases_eq}
use Rattle.std.proofs.lemmas.List.{get_or-map, get_or_push, get_or_append_left, length-replicate}
use Rattle.local_mesh.specs.declared.types.LocalSet.{LocalSet}
use Rattle.colouring.specs.declared.types.Colours.{Colours}
use Rattle.step_judge.specs.NewRun.{IsNewRun}
use Rattle.step_judge.specs.Run.{Run}
use Rattle.loop_plan.specs.Pairs.{core_in}
use Rattle.schedule_check.specs.NewPlaces.{AreNewPlaces, blocks_of, inner_of}
use Rattle.lemmas.proofs.Numbers.{all_false}

pub core_at : (sets : List LocalSet) (t : ℕ) (s : LocalSet) → t < length sets → (get_or sets t s).core.items ≡ core_in sets t
unfolding core_in
core_at sets t s l = sym (get_or-map (λ (x : LocalSet). x.core.items) sets t s [] l)

pub core_past : (sets : List LocalSet) (t : ℕ) → length sets ≤ t → [] ≡ core_in sets t
unfolding core_in
core_past [] t l = refl
core_past (x ∷ xs) zero l = absurd (omega arith)
core_past (x ∷ xs) (suc t) l = core_past xs t (omega arith)

pub blocks_read : (cs : List Colours) (r : ℕ) (c : Colours) → r < length cs → c ≡ get_or cs r c → c.blocks.items ≡ blocks_of cs r
blocks_read cs r c l e = ap (λ (x : Colours). x.blocks.items) e ∙ sym (get_or-map (λ (x : Colours). x.blocks.items) cs r c [] l)

pub inner_read : (cs : List Colours) (r : ℕ) (c : Colours) → r < length cs → c ≡ get_or cs r c → c.inner.items ≡ inner_of cs r
inner_read cs r c l e = ap (λ (x : Colours). x.inner.items) e ∙ sym (get_or-map (λ (x : Colours). x.inner.items) cs r c [] l)

-- one more behind others
pub one_more : {A : Type 0} (P : ℕ → A → Type 0) (d : A) (xs : List A) (v : A) (k : ℕ) → length xs ≡ k → P k v → ((a : ℕ) → a < k → P a (get_or xs a d))
    → (a : ℕ) → a < k + 1 → P a (get_or (xs ++ (v ∷ [])) a d)
one_more P d xs v k n last before a lt = ⊎_elim
    (λ (e : a ≡ k). subst (λ z. P z (get_or (xs ++ (v ∷ [])) z d)) (sym e) (subst (P k) (sym (get_or_push xs v d k n)) last))
    (λ (ne : a ≡ k → ⊥). (let l : a < k = omega arith in subst (P a) (sym (get_or_append_left xs (v ∷ []) d a (omega arith))) (before a l)))
    (cases_eq a k)

-- the places with these colours and these core elements
pub new_are : (size : ℕ) (blocks inner : List ℕ) (cores core : List Bool) (v : Run) → IsNewRun size blocks inner cores v
    → ((x : ℕ) → x < length inner → get_or cores x false ≡ get_or core x false) → AreNewPlaces size blocks inner core v
new_are size blocks inner cores core v h same = record {
  number = ap length h.begun ∙ length-replicate (length inner) false;
  begun = λ x. ap (λ z. get_or z x false) h.begun ∙ all_false (length inner) x;
  ended = h.ended;
  order = h.order;
  cores = λ x l. ap (λ z. get_or z x false) h.cores ∙ same x l;
}
