use Rattle.std.proofs.Common.{◌≡◌, ℕ, suc, ◌+◌, ◌<◌, true, false, cond, sym, ap, subst, ◌∙◌, arith, ⊎_elim, List, [], ◌∷◌, length, get_or, drop}
use Rattle.std.specs.Prelude.{◌&&◌, ◌==◌, ◌↔◌}
use Rattle.std.proofs.lemmas.Bool.{eqb-true, cases_Bool, and_parts, lt-ltb, ltb-true}
use Rattle.std.proofs.lemmas.List.{drop_more}
use Rattle.step_judge.specs.Marks.{StageDone}
use Rattle.step_judge.specs.Item.{Item, pair_at, place_of, AllSent, AllReceived, Paired}

pub pair_found : (fs ts : List ℕ) (s r : ℕ) → length ts ≡ length fs → pair_at fs ts s r < length fs → (get_or fs (pair_at fs ts s r) 0 ≡ s) × (get_or ts (pair_at fs ts s r) 0 ≡ r)
pair_found [] ts s r n lt = absurd (omega arith)
pair_found (f ∷ fs) [] s r n lt = absurd (omega arith)
pair_found (f ∷ fs) (t ∷ ts) s r n lt = ⊎_elim
    (λ (e : ((f == s) && (t == r)) ≡ true). rw e (let b : ((f == s) ≡ true) × ((t == r) ≡ true) = and_parts _ _ e in (eqb-true f s b.0, eqb-true t r b.1)))
    (λ (e : ((f == s) && (t == r)) ≡ false). (let lt' : suc (pair_at fs ts s r) < suc (length fs) = rw e at lt in rw e (pair_found fs ts s r (omega arith) (omega arith))))
    (cases_Bool ((f == s) && (t == r)))

pub pair_not_here : (fs ts : List ℕ) (s r i : ℕ) → i < length fs → length ts ≡ length fs
    → ((get_or fs i 0 == s) && (get_or ts i 0 == r)) ≡ false → pair_at fs ts s r ≡ i + pair_at (drop i fs) (drop i ts) s r
    → pair_at fs ts s r ≡ (i + 1) + pair_at (drop (i + 1) fs) (drop (i + 1) ts) s r
pair_not_here fs ts s r i lt n ne h =
    let it : i < length ts = omega arith in
    let a : pair_at (drop i fs) (drop i ts) s r ≡ pair_at (get_or fs i 0 ∷ drop (i + 1) fs) (get_or ts i 0 ∷ drop (i + 1) ts) s r =
    ap (λ z. pair_at z (drop i ts) s r) (drop_more fs i 0 lt)
    ∙ ap (λ z. pair_at (get_or fs i 0 ∷ drop (i + 1) fs) z s r) (drop_more ts i 0 it) in
    let b : pair_at (get_or fs i 0 ∷ drop (i + 1) fs) (get_or ts i 0 ∷ drop (i + 1) ts) s r ≡ suc
    (pair_at (drop (i + 1) fs) (drop (i + 1) ts) s r) = ap (λ z. cond z 0 (suc (pair_at (drop (i + 1) fs) (drop (i + 1) ts) s r))) ne in
    omega (arith, h, a ∙ b)

pub sent_iff : (w : Item) (x : ℕ) → Paired w → StageDone w.sends x ↔ AllSent w x
sent_iff w x p = (
  (λ all r l. (let lt : place_of w x r < length w.sends.of = ltb-true _ _ l in all (place_of w x r) lt (pair_found w.sends.of w.receipts.of x r p.both lt).0)),
  (λ all t lt e.
      let at : place_of w x (get_or w.receipts.of t 0) ≡ t = subst (λ z. place_of w z (get_or w.receipts.of t 0) ≡ t) e (p.apart t lt) in
      subst (λ z. get_or w.sends.done z false ≡ true) at (all (get_or w.receipts.of t 0) (lt-ltb _ _ (subst (λ z. z < length w.sends.of) (sym at) lt)))),
)

pub received_iff : (w : Item) (x : ℕ) → Paired w → StageDone w.receipts x ↔ AllReceived w x
received_iff w x p = (
  (λ all s l. (let lt : place_of w s x < length w.sends.of = ltb-true _ _ l in
      all (place_of w s x) (subst (λ z. place_of w s x < z) (sym p.both) lt) (pair_found w.sends.of w.receipts.of s x p.both lt).1)),
  (λ all t tl e.
      let lt : t < length w.sends.of = subst (λ z. t < z) p.both tl in
      let at : place_of w (get_or w.sends.of t 0) x ≡ t = subst (λ z. place_of w (get_or w.sends.of t 0) z ≡ t) e (p.apart t lt) in
      subst (λ z. get_or w.receipts.done z false ≡ true) at (all (get_or w.sends.of t 0) (lt-ltb _ _ (subst (λ z. z < length w.sends.of) (sym at) lt)))),
)
