-- What is left of ranks after a step, and which sends are taken.
use Rattle.std.proofs.Common.{◌≡◌, ℕ, ◌<◌, cond, sym, ap, ◌∙◌, arith, ⊎_elim, List, [], ◌∷◌, length, length-set, get_or, set, map, Vec, Option, Some, None}
use Rattle.std.specs.Prelude.{◌==◌, ◌&&◌, IfSome, IfNone}
use Rattle.std.specs.declared.alloc.Global.{Global}
use Rattle.std.proofs.lemmas.Bool.{cases_eq, eq-eqb, ne_eqb, cond-true, cond-false, and_from, and_right}
use Rattle.std.proofs.lemmas.List.{get_or-map, map-set, get_or-set_same, get_or-set_other, length-map}
use Rattle.schedule_steps.specs.declared.step.Step.{Step}
use Rattle.step_orders.specs.Rests.{rest_of, rests, sent_below}
use Rattle.step_orders.specs.UnderWay.{IsTable}

pub rest_is : (step : Option Step) (a b : List Step) → IfSome step (λ s. a ≡ s ∷ b) → IfNone step ((a ≡ []) × (b ≡ [])) → rest_of step b ≡ a
rest_is None a b h k = sym k.0
rest_is (Some s) a b h k = sym h

pub taken : {A : Type 0} (L : A → List Step) (heads : List (Option Step)) (streams : List A) (rank : ℕ) (d new : A) (step : Option Step)
    → rank < length heads
    → length streams ≡ length heads
    → rest_of step (L new) ≡ L (get_or streams rank d)
    → (r : ℕ) → rests (set heads rank step) (map L (set streams rank new)) r ≡ cond (r == rank) (get_or (map L streams) r []) (rests heads (map L streams) r)
taken {A} L heads streams rank d new step lt count left r = ⊎_elim own other (cases_eq r rank)
  where
    tails : map L (set streams rank new) ≡ set (map L streams) rank (L new)
    tails = map-set L streams rank new

    here : rests (set heads rank step) (map L (set streams rank new)) rank ≡ get_or (map L streams) rank []
    here =
        ap (λ z. rest_of z (get_or (map L (set streams rank new)) rank [])) (get_or-set_same heads rank step None lt)
        ∙ (ap (λ z. rest_of step (get_or z rank [])) tails
        ∙ (ap (λ z. rest_of step z) (get_or-set_same (map L streams) rank (L new) [] (omega (arith, length-map streams L)))
        ∙ (left ∙ sym (get_or-map L streams rank d [] (omega arith)))))

    own : r ≡ rank → rests (set heads rank step) (map L (set streams rank new)) r ≡ cond (r == rank) (get_or (map L streams) r []) (rests heads (map L streams) r)
    own e =
        ap (λ z. rests (set heads rank step) (map L (set streams rank new)) z) e
        ∙ (here
        ∙ (ap (λ z. get_or (map L streams) z []) (sym e) ∙ sym (cond-true (r == rank) (get_or (map L streams) r []) (rests heads (map L streams) r) (eq-eqb r rank e))))

    other : (r ≡ rank → ⊥) → rests (set heads rank step) (map L (set streams rank new)) r ≡ cond (r == rank) (get_or (map L streams) r []) (rests heads (map L streams) r)
    other ne =
        ap (λ z. rest_of z (get_or (map L (set streams rank new)) r [])) (get_or-set_other heads rank r step None ne)
        ∙ (ap (λ z. rest_of (get_or heads r None) (get_or z r [])) tails
        ∙ (ap (λ z. rest_of (get_or heads r None) z) (get_or-set_other (map L streams) rank r (L new) [] ne)
        ∙ sym (cond-false (r == rank) (get_or (map L streams) r []) (rests heads (map L streams) r) (ne_eqb r rank ne))))

abbrev items_of : Vec ℕ Global → List ℕ
items_of v = v.items

pub marks : (rows : List (Vec ℕ Global)) (a b n : ℕ) (d v : Vec ℕ Global)
    → a < length rows
    → b < length (get_or (map (λ (z : Vec ℕ Global). z.items) rows) a [])
    → v.items ≡ set (get_or rows a d).items b n
    → (s r : ℕ) → sent_below (set rows a v) s r ≡ cond ((s == a) && (r == b)) n (sent_below rows s r)
marks rows a b n d v la lb is s r = ap (λ z. get_or (get_or z s []) r 0) (map-set items_of rows a v) ∙ ⊎_elim own other (cases_eq s a)
  where
    row : List ℕ
    row = get_or (map items_of rows) a []

    new : v.items ≡ set row b n
    new = is ∙ ap (λ z. set z b n) (sym (get_or-map items_of rows a d [] la))

    same_row : get_or (set (map items_of rows) a v.items) a [] ≡ set row b n
    same_row = get_or-set_same (map items_of rows) a v.items [] (omega (arith, length-map rows items_of)) ∙ new

    other : (s ≡ a → ⊥) → get_or (get_or (set (map items_of rows) a v.items) s []) r 0 ≡ cond ((s == a) && (r == b)) n (sent_below rows s r)
    other ne =
        ap (λ z. get_or z r 0) (get_or-set_other (map items_of rows) a s v.items [] ne)
        ∙ sym (ap (λ z. cond (z && (r == b)) n (sent_below rows s r)) (ne_eqb s a ne))

    own : s ≡ a → get_or (get_or (set (map items_of rows) a v.items) s []) r 0 ≡ cond ((s == a) && (r == b)) n (sent_below rows s r)
    own e =
        ap (λ z. get_or (get_or (set (map items_of rows) a v.items) z []) r 0) e
        ∙ (ap (λ z. get_or z r 0) same_row
        ∙ ⊎_elim
        (λ (f : r ≡ b).
        ap (λ z. get_or (set row b n) z 0) f
        ∙ (get_or-set_same row b n 0 lb
        ∙ sym (cond-true ((s == a) && (r == b)) n (sent_below rows s r) (and_from (s == a) (r == b) (eq-eqb s a e) (eq-eqb r b f)))))
        (λ (ne : r ≡ b → ⊥).
        get_or-set_other row b r n 0 ne
        ∙ (ap (λ z. get_or (get_or (map items_of rows) z []) r 0) (sym e)
        ∙ sym (cond-false ((s == a) && (r == b)) n (sent_below rows s r) (and_right (s == a) (r == b) (ne_eqb r b ne)))))
        (cases_eq r b))

pub others_kept : {A : Type 0} (L : A → List Step) (streams : List A) (rank : ℕ) (new : A) (r : ℕ) → (r ≡ rank → ⊥)
    → get_or (map L (set streams rank new)) r [] ≡ get_or (map L streams) r []
others_kept L streams rank new r ne = ap (λ z. get_or z r []) (map-set L streams rank new) ∙ get_or-set_other (map L streams) rank r (L new) [] ne

pub table_kept : (n : ℕ) (rows : List (Vec ℕ Global)) (a b x : ℕ) (d v : Vec ℕ Global) → a < length rows → v.items ≡ set (get_or rows a d).items b x
    → IsTable n rows → IsTable n (set rows a v)
table_kept n rows a b x d v la is t = record {
  count = length-set rows a v ∙ t.count;
  wide = λ s lt. ap (λ z. length (get_or z s [])) (map-set items_of rows a v) ∙ ⊎_elim (own s lt) (other s lt) (cases_eq s a);
}
  where
    other : (s : ℕ) → s < n → (s ≡ a → ⊥) → length (get_or (set (map items_of rows) a v.items) s []) ≡ n
    other s lt ne = ap (λ z. length z) (get_or-set_other (map items_of rows) a s v.items [] ne) ∙ t.wide s lt

    own : (s : ℕ) → s < n → s ≡ a → length (get_or (set (map items_of rows) a v.items) s []) ≡ n
    own s lt e =
        ap (λ z. length (get_or (set (map items_of rows) a v.items) z [])) e
        ∙ (ap (λ (z : List ℕ). length z) (get_or-set_same (map items_of rows) a v.items [] (omega (arith, length-map rows items_of)) ∙ is)
        ∙ (length-set (get_or rows a d).items b x
        ∙ (ap (λ (z : List ℕ). length z) (sym (get_or-map items_of rows a d [] la))
        ∙ (ap (λ z. length (get_or (map items_of rows) z [])) (sym e) ∙ t.wide s lt))))
