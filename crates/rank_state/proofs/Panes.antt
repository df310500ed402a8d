-- The pane of a rank and place, as the panes of all items there.
use Rattle.std.proofs.Common.{◌≡◌, ℕ, ◌<◌, true, false, cond, refl, sym, ap, subst, ◌∙◌, ⊎_elim, List, [], length, get_or, set, get_or-set_same, get_or-set_other, length-set}
use Rattle.std.specs.Prelude.{◌==◌}
use Rattle.std.proofs.lemmas.Bool.{cases_Bool, cases_eq, false≢true, cond-true, cond-false, eq-eqb, ne_eqb}
use Rattle.schedule_steps.specs.Steps.{same3}
use Rattle.schedule_steps.specs.Members.{same3_true, same3_refl}
use Rattle.schedule_model.specs.Machine.{put3}
use Rattle.schedule_model.specs.Flat as flat
use Rattle.rank_state.specs.Frames.{Pane, Shut, pane_at, with_pane}
use Rattle.rank_state.specs.Shows.{pane_in}

pub ranks_kept : (r x : ℕ) (v : Pane) (ps : List (List Pane)) → length (with_pane r x v ps) ≡ length ps
ranks_kept r x v ps = length-set ps r (set (get_or ps r []) x v)

pub places_kept : (r x : ℕ) (v : Pane) (ps : List (List Pane)) → r < length ps → (a : ℕ) → length (get_or (with_pane r x v ps) a []) ≡ length (get_or ps a [])
places_kept r x v ps lt a = ⊎_elim
    (λ (e : a ≡ r). subst (λ z. length (get_or (with_pane r x v ps) z []) ≡ length (get_or ps z [])) (sym e)
    (ap length (get_or-set_same ps r (set (get_or ps r []) x v) [] lt) ∙ length-set (get_or ps r []) x v))
    (λ (ne : a ≡ r → ⊥). ap length (get_or-set_other ps r a (set (get_or ps r []) x v) [] ne))
    (cases_eq a r)

pub pane_here : (r x : ℕ) (v : Pane) (ps : List (List Pane)) → r < length ps → x < length (get_or ps r []) → pane_at (with_pane r x v ps) r x ≡ v
pane_here r x v ps h k = ap (λ row. get_or row x Shut) (get_or-set_same ps r (set (get_or ps r []) x v) [] h) ∙ get_or-set_same (get_or ps r []) x v Shut k

pub pane_else : (r x : ℕ) (v : Pane) (ps : List (List Pane)) → r < length ps → (a b : ℕ) → (a ≡ r → b ≡ x → ⊥) → pane_at (with_pane r x v ps) a b ≡ pane_at ps a b
pane_else r x v ps lt a b ne = ⊎_elim
    (λ (e : a ≡ r).
    subst (λ z. pane_at (with_pane r x v ps) z b ≡ pane_at ps z b) (sym e)
    (ap (λ row. get_or row b Shut) (get_or-set_same ps r (set (get_or ps r []) x v) [] lt) ∙ get_or-set_other (get_or ps r []) x b v Shut (ne e)))
    (λ (n : a ≡ r → ⊥). ap (λ row. get_or row b Shut) (get_or-set_other ps r a (set (get_or ps r []) x v) [] n))
    (cases_eq a r)

-- the pane of item k, of what stands open
abbrev pub only_in : ℕ → flat.Pane → ℕ → flat.Pane
only_in k b j = cond (j == k) b flat.Shut_pane

-- one pane changes: no other item has one there
pub panes_put : (ps : List (List Pane)) (panes : ℕ → ℕ → ℕ → flat.Pane) (k r x : ℕ) (v : Pane) (b : flat.Pane) → r < length ps → x < length (get_or ps r [])
    → ((j a c : ℕ) → pane_in j (pane_at ps a c) ≡ panes j a c) → ((j : ℕ) → pane_in j v ≡ only_in k b j) → ((j : ℕ) → (j ≡ k → ⊥) → panes j r x ≡ flat.Shut_pane)
    → (j a c : ℕ) → pane_in j (pane_at (with_pane r x v ps) a c) ≡ put3 k r x b panes j a c
panes_put ps panes k r x v b lr lx h new alone j a c = ⊎_elim
    (λ (e : same3 j a c k r x ≡ true).
    let i : (j ≡ k) × (a ≡ r) × (c ≡ x) = same3_true j a c k r x e in
    subst (λ z. pane_in z (pane_at (with_pane r x v ps) a c) ≡ put3 k r x b panes z a c) (sym i.0)
    (subst (λ z. pane_in k (pane_at (with_pane r x v ps) z c) ≡ put3 k r x b panes k z c) (sym i.1)
    (subst (λ z. pane_in k (pane_at (with_pane r x v ps) r z) ≡ put3 k r x b panes k r z) (sym i.2)
    (ap (pane_in k) (pane_here r x v ps lr lx) ∙ (new k ∙ (cond-true (k == k) b flat.Shut_pane (eq-eqb k k refl) ∙ sym (cond-true (same3 k r x k r x) b (panes k r x) (same3_refl k r x))))))))
    (λ (e : same3 j a c k r x ≡ false).
    (⊎_elim
    (λ (i : a ≡ r). ⊎_elim
    (λ (y : c ≡ x).
    let ne : j ≡ k → ⊥ = (λ z. false≢true (sym e ∙ (ap (λ w. same3 w a c k r x) z ∙ (ap (λ w. same3 k w c k r x) i ∙ (ap (λ w. same3 k r w k r x) y ∙ same3_refl k r x))))) in
    subst (λ z. pane_in j (pane_at (with_pane r x v ps) z c) ≡ panes j z c) (sym i)
    (subst (λ z. pane_in j (pane_at (with_pane r x v ps) r z) ≡ panes j r z) (sym y)
    (ap (pane_in j) (pane_here r x v ps lr lx) ∙ (new j ∙ (cond-false (j == k) b flat.Shut_pane (ne_eqb j k ne) ∙ sym (alone j ne))))))
    (λ (y : c ≡ x → ⊥). ap (pane_in j) (pane_else r x v ps lr a c (λ z. y)) ∙ h j a c)
    (cases_eq c x))
    (λ (i : a ≡ r → ⊥). ap (pane_in j) (pane_else r x v ps lr a c (λ z w. i z)) ∙ h j a c)
    (cases_eq a r))
    ∙ sym (cond-false (same3 j a c k r x) b (panes j a c) e))
    (cases_Bool (same3 j a c k r x))
