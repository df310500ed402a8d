-- The first of what is wrong with a statement: it is there, nothing counts before it, and it is the only such one.
use Rattle.std.proofs.Common.{◌≡◌, ◌∙◌, refl, sym, ap, subst, ℕ, ◌++◌, List, [], ◌∷◌, Some, Bool, true, false, ◌&&◌, ◌||◌, nat_lt, nat_eq, arith}
use Rattle.std.specs.Prelude.{All, if◌then◌else◌}
use Rattle.std.proofs.lemmas.List.Elements.{All-nil, All-cons, All-head, All-tail}
use Rattle.bound_program.specs.declared.refusals.founds.Found.{Found}
use Rattle.bound_program.specs.Refusals.{turn_number, number_of, is_before, IsFirst, least_from, AnswersFirst, OneFirst}

-- the order by a number, and where that is the same by what follows
abbrev next : ℕ → ℕ → Bool → Bool
next a d rest = nat_lt a d || (nat_eq a d && rest)

next-trans : (a d g : ℕ) (p q r : Bool) → (p ≡ true → q ≡ true → r ≡ true) → next a d p ≡ true → next d g q ≡ true → next a g r ≡ true
next-trans a d g true true r h x y = let e : r ≡ true = h refl refl in rw e (grind arith)
next-trans a d g true false r h x y = grind arith
next-trans a d g false q r h x y = grind arith

-- what counts before g counts before what does not
next-apart : (a d g : ℕ) (p q r : Bool) → (p ≡ true → q ≡ false → r ≡ true) → next a g p ≡ true → next d g q ≡ false → next a d r ≡ true
next-apart a d g true false r h x y = let e : r ≡ true = h refl refl in rw e (grind arith)
next-apart a d g true true r h x y = grind arith
next-apart a d g false q r h x y = grind arith

-- ---- the order on what is found

before-trans : (f g h : Found) → is_before f g ≡ true → is_before g h ≡ true → is_before f h ≡ true
before-trans f g h p q =
    next-trans (turn_number f.turn) (turn_number g.turn) (turn_number h.turn) _ _ _
    (next-trans f.token g.token h.token _ _ _ (λ x y. last (number_of f.refusal) (number_of g.refusal) (number_of h.refusal) x y)) p q
  where
    last : (a b c : ℕ) → nat_lt a b ≡ true → nat_lt b c ≡ true → nat_lt a c ≡ true
    last a b c x y = grind arith

before-apart : (f g h : Found) → is_before f h ≡ true → is_before g h ≡ false → is_before f g ≡ true
before-apart f g h p q =
    next-apart (turn_number f.turn) (turn_number g.turn) (turn_number h.turn) _ _ _
    (next-apart f.token g.token h.token _ _ _ (λ x y. last (number_of f.refusal) (number_of g.refusal) (number_of h.refusal) x y)) p q
  where
    last : (a b c : ℕ) → nat_lt a c ≡ true → nat_lt b c ≡ false → nat_lt a b ≡ true
    last a b c x y = grind arith

-- ---- lists

head_or : Found → List Found → Found
head_or d [] = d
head_or d (x ∷ xs) = x

tail_of : List Found → List Found
tail_of [] = []
tail_of (x ∷ xs) = xs

same_head : (x y : Found) (xs ys : List Found) → x ∷ xs ≡ y ∷ ys → x ≡ y
unfolding head_or
same_head x y xs ys e = ap (λ l. head_or x l) e

same_tail : (x y : Found) (xs ys : List Found) → x ∷ xs ≡ y ∷ ys → xs ≡ ys
unfolding tail_of
same_tail x y xs ys e = ap (λ l. tail_of l) e

-- ---- the first that is answered

abbrev first_from : Found → List Found → Found
first_from f [] = f
first_from f (g ∷ gs) = first_from (if is_before g f then g else f) gs

-- going through them keeps it
least_some : (f : Found) (gs : List Found) → least_from (Some f) gs ≡ Some (first_from f gs)
least_some f [] = refl
least_some f (g ∷ gs) = by (λ x. least_some x gs) (is_before g f)
  where
    by : ((x : Found) → least_from (Some x) gs ≡ Some (first_from x gs)) → (b : Bool) → least_from (if b then Some g else Some f) gs ≡ Some (first_from (if b then g else f) gs)
    by rest true = rest g
    by rest false = rest f

-- one more that counts later, in front
in_front : (f r : Found) (all : List Found) → is_before r f ≡ true → IsFirst all r → IsFirst (f ∷ all) r
in_front f r all b h = record {
  earlier = f ∷ h.earlier;
  later = h.later;
  whole = ap (λ l. f ∷ l) h.whole;
  before = All-cons (λ g. is_before r g ≡ true) f h.earlier b h.before;
  after = h.after;
}

-- the first counts before what counts later than the head
below_head : (g f r : Found) (gs earlier later : List Found) → is_before g f ≡ true → g ∷ gs ≡ earlier ++ r ∷ later → All (λ x. is_before r x ≡ true) earlier → is_before r f ≡ true
below_head g f r gs [] later b w h = subst (λ x. is_before x f ≡ true) (same_head g r gs later w) b
below_head g f r gs (x ∷ xs) later b w h =
    let e : x ≡ g = sym (same_head g x gs (xs ++ r ∷ later) w) in
    let rx : is_before r x ≡ true = All-head (λ y. is_before r y ≡ true) x xs h in
    let rg : is_before r g ≡ true = subst (λ y. is_before r y ≡ true) e rx in
    before-trans r g f rg b

-- one more that doesn't count before the head, behind the head
behind_head : (f g r : Found) (gs earlier later : List Found) → is_before g f ≡ false → f ∷ gs ≡ earlier ++ r ∷ later
    → All (λ x. is_before r x ≡ true) earlier → All (λ x. is_before x r ≡ false) later → IsFirst (f ∷ g ∷ gs) r
behind_head f g r gs [] later b w h k = record {
  earlier = [];
  later = g ∷ later;
  whole = let a : f ≡ r = same_head f r gs later w in let t : gs ≡ later = same_tail f r gs later w in rw (a, t) refl;
  before = h;
  after = All-cons (λ x. is_before x r ≡ false) g later (subst (λ x. is_before g x ≡ false) (same_head f r gs later w) b) k;
}
behind_head f g r gs (x ∷ xs) later b w h k = record {
  earlier = x ∷ g ∷ xs;
  later = later;
  whole = let a : f ≡ x = same_head f x gs (xs ++ r ∷ later) w in let t : gs ≡ xs ++ r ∷ later = same_tail f x gs (xs ++ r ∷ later) w in rw (a, t) refl;
  before =
      let a : f ≡ x = same_head f x gs (xs ++ r ∷ later) w in
      let rx : is_before r x ≡ true = All-head (λ y. is_before r y ≡ true) x xs h in
      let gx : is_before g x ≡ false = subst (λ y. is_before g y ≡ false) a b in
      All-cons (λ y. is_before r y ≡ true) x (g ∷ xs) rx (All-cons (λ y. is_before r y ≡ true) g xs (before-apart r g x rx gx) (All-tail (λ y. is_before r y ≡ true) x xs h));
  after = k;
}

by_test : (f g : Found) (gs : List Found) (b : Bool) → is_before g f ≡ b → IsFirst (g ∷ gs) (first_from g gs)
    → IsFirst (f ∷ gs) (first_from f gs) → IsFirst (f ∷ g ∷ gs) (first_from (if b then g else f) gs)
by_test f g gs true e hg hf = in_front f (first_from g gs) (g ∷ gs) (below_head g f (first_from g gs) gs hg.earlier hg.later e hg.whole hg.before) hg
by_test f g gs false e hg hf = behind_head f g (first_from f gs) gs hf.earlier hf.later e hf.whole hf.before hf.after

pub first_from-is : (f : Found) (gs : List Found) → IsFirst (f ∷ gs) (first_from f gs)
first_from-is f [] = record { earlier = []; later = []; whole = refl; before = All-nil (λ g. is_before f g ≡ true); after = All-nil (λ g. is_before g f ≡ false) }
first_from-is f (g ∷ gs) = by_test f g gs (is_before g f) refl (first_from-is g gs) (first_from-is f gs)

pub answers : AnswersFirst
answers [] = (tt, refl)
answers (f ∷ fs) = rw (least_some f fs) (first_from-is f fs, tt)

-- ---- one first alone

-- what stands behind some is among the later ones
at_later : (P : Found → Type 0) (ys : List Found) (g : Found) (zs : List Found) → All P (ys ++ g ∷ zs) → P g
at_later P [] g zs h = All-head P g zs h
at_later P (y ∷ ys) g zs h = at_later P ys g zs (All-tail P y (ys ++ g ∷ zs) h)

apart : (f g : Found) → is_before g f ≡ true → is_before g f ≡ false → f ≡ g
apart f g p q = grind arith

split : (f g : Found) (xs as_ ys bs : List Found) → xs ++ f ∷ as_ ≡ ys ++ g ∷ bs → All (λ x. is_before f x ≡ true) xs
    → All (λ x. is_before x f ≡ false) as_ → All (λ x. is_before g x ≡ true) ys → All (λ x. is_before x g ≡ false) bs → f ≡ g
split f g [] as_ [] bs w p q r s = same_head f g as_ bs w
split f g [] as_ (y ∷ ys) bs w p q r s =
    let e : f ≡ y = same_head f y as_ (ys ++ g ∷ bs) w in
    let t : as_ ≡ ys ++ g ∷ bs = same_tail f y as_ (ys ++ g ∷ bs) w in
    apart f g (subst (λ x. is_before g x ≡ true) (sym e) (All-head (λ x. is_before g x ≡ true) y ys r)) (at_later (λ x. is_before x f ≡ false) ys g bs (subst (All (λ x. is_before x f ≡ false)) t q))
split f g (x ∷ xs) as_ [] bs w p q r s =
    let e : x ≡ g = same_head x g (xs ++ f ∷ as_) bs w in
    let t : xs ++ f ∷ as_ ≡ bs = same_tail x g (xs ++ f ∷ as_) bs w in
    sym (apart g f (subst (λ y. is_before f y ≡ true) e (All-head (λ y. is_before f y ≡ true) x xs p))
    (at_later (λ y. is_before y g ≡ false) xs f as_ (subst (All (λ y. is_before y g ≡ false)) (sym t) s)))
split f g (x ∷ xs) as_ (y ∷ ys) bs w p q r s =
    split f g xs as_ ys bs (same_tail x y (xs ++ f ∷ as_) (ys ++ g ∷ bs) w) (All-tail (λ z. is_before f z ≡ true) x xs p) q (All-tail (λ z. is_before g z ≡ true) y ys r) s

pub one : OneFirst
one all f g h k = split f g h.earlier h.later k.earlier k.later (sym h.whole ∙ k.whole) h.before h.after k.before k.after
