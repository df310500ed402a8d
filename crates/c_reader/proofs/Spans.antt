-- Marks that stand in a list of kinds, from one place up to another.
use Rattle.std.proofs.Common.{◌≡◌, ℕ, suc, ◌+◌, ◌≤◌, ◌<◌, Bool, true, false, cond, List, [], ◌∷◌, ◌++◌, length, map, Option, Some, None, Result, Err, refl, sym, ap, subst, ◌∙◌, arith, slice_get, nat_lt, drop, zero, length-drop}
use Rattle.std.proofs.lemmas.List.{drop_all}
use Rattle.std.proofs.lemmas.Option.{slice_get_within}
use Rattle.c_tree.specs.declared.lexer.tokens.Kind.{Kind}
use Rattle.c_tree.specs.Print.{Mark}
use Rattle.c_tree.specs.Reads.{Keeps, AreNumbered, first_deep}
use Rattle.c_reader.specs.declared.faults.Fault.{Fault}
use Rattle.c_reader.specs.declared.faults.Fault.TheVariants.{TooDeep}

-- the marks stand at n and end before the place e
abbrev pub Spans : List Kind → ℕ → List Mark → ℕ → Type 0
Spans ks n [] e = n ≡ e
Spans ks n (m ∷ ms) e = (slice_get ks n ≡ Some m.kind) × Keeps n m.number × Spans ks (suc n) ms e

pub spans_split : (ks : List Kind) (n : ℕ) (a b : List Mark) (e : ℕ) → Spans ks n (a ++ b) e → (k : ℕ) × Spans ks n a k × Spans ks k b e
spans_split ks n [] b e s = (n, refl, s)
spans_split ks n (m ∷ ms) b e s =
    let r = spans_split ks (suc n) ms b e s.2 in (r.0, (s.0, s.1, r.1), r.2)

pub spans_join : (ks : List Kind) (n : ℕ) (a b : List Mark) (k e : ℕ) → Spans ks n a k → Spans ks k b e → Spans ks n (a ++ b) e
spans_join ks n [] b k e s t = subst (λ x. Spans ks x b e) (sym s) t
spans_join ks n (m ∷ ms) b k e s t = (s.0, s.1, spans_join ks (suc n) ms b k e s.2 t)

-- the first of two places, where there are any
abbrev pub or_else : Option ℕ → Option ℕ → Option ℕ
or_else None b = b
or_else (Some p) b = Some p

cond_split : (t : Bool) (n : ℕ) (x y z : Option ℕ) → x ≡ or_else y z → cond t (Some n) x ≡ or_else (cond t (Some n) y) z
cond_split true n x y z h = refl
cond_split false n x y z h = h

pub deep_split : (ks : List Kind) (n : ℕ) (a b : List Mark) (k : ℕ) → Spans ks n a k → first_deep n (a ++ b) ≡ or_else (first_deep n a) (first_deep k b)
deep_split ks n [] b k s = ap (λ x. first_deep x b) s
deep_split ks n (m ∷ ms) b k s = cond_split (nat_lt 64 m.level) n _ _ _ (deep_split ks (suc n) ms b k s.2)

-- a mark that isn't too deep
pub deep_over : (n : ℕ) (m : Mark) (ms : List Mark) → nat_lt 64 m.level ≡ false → first_deep n (m ∷ ms) ≡ first_deep (suc n) ms
deep_over n m ms t = rw t refl

pub deep_here : (n : ℕ) (m : Mark) (ms : List Mark) → nat_lt 64 m.level ≡ true → first_deep n (m ∷ ms) ≡ Some n
deep_here n m ms t = rw t refl

cond_front : (t : Bool) (n p : ℕ) (x y : Option ℕ) → (x ≡ Some p → y ≡ Some p) → cond t (Some n) x ≡ Some p → cond t (Some n) y ≡ Some p
cond_front true n p x y f h = h
cond_front false n p x y f h = f h

pub deep_front : (n p : ℕ) (a b : List Mark) → first_deep n a ≡ Some p → first_deep n (a ++ b) ≡ Some p
deep_front n p [] b s = cc
deep_front n p (m ∷ ms) b s = cond_front (nat_lt 64 m.level) n p _ _ (deep_front (suc n) p ms b) s

or_else_none : (a : Option ℕ) → or_else a None ≡ a
or_else_none None = refl
or_else_none (Some p) = refl

-- marks, a mark that isn't too deep, and marks
pub deep_between : (ks : List Kind) (n : ℕ) (a : List Mark) (m : Mark) (b : List Mark) (j : ℕ) → Spans ks n a j → nat_lt 64 m.level ≡ false
    → first_deep n (a ++ m ∷ b) ≡ or_else (first_deep n a) (first_deep (suc j) b)
deep_between ks n a m b j s t = deep_split ks n a (m ∷ b) j s ∙ ap (or_else (first_deep n a)) (deep_over j m b t)

-- marks and a closing one
pub deep_closed : (ks : List Kind) (n : ℕ) (a : List Mark) (m : Mark) (j : ℕ) → Spans ks n a j → nat_lt 64 m.level ≡ false → first_deep n (a ++ m ∷ []) ≡ first_deep n a
deep_closed ks n a m j s t = deep_between ks n a m [] j s t ∙ or_else_none (first_deep n a)

-- An answer comes after the tokens before it: a token too deep among them comes first.
abbrev pub after : {A : Type 0} → Option ℕ → Result A Fault → Result A Fault
after None r = r
after (Some p) r = Err (TooDeep p)

pub after_or_else : {A : Type 0} (a b : Option ℕ) (r : Result A Fault) → after (or_else a b) r ≡ after a (after b r)
after_or_else None b r = refl
after_or_else (Some p) b r = refl

-- one more of a list from a place on
drop_here : (ks : List Kind) (n : ℕ) (x : Kind) → slice_get ks n ≡ Some x → drop n ks ≡ x ∷ drop (suc n) ks
drop_here [] n x h = cc
drop_here (k ∷ ks) zero x h = let e : k ≡ x = cc in ap (λ y. y ∷ ks) e
drop_here (k ∷ ks) (suc n) x h = drop_here ks n x h

get_here : (ks : List Kind) (n : ℕ) (x : Kind) (xs : List Kind) → x ∷ xs ≡ drop n ks → (slice_get ks n ≡ Some x) × (xs ≡ drop (suc n) ks) × (n < length ks)
get_here [] zero x xs h = cc
get_here [] (suc n) x xs h = cc
get_here (k ∷ ks) zero x xs h = (cc, cc, omega arith)
get_here (k ∷ ks) (suc n) x xs h = let r = get_here ks n x xs h in (r.0, r.1, omega (arith, r.2))

-- the marks of all tokens from a place on
pub spans_whole : (ks : List Kind) (n : ℕ) (ms : List Mark) → map (λ m. m.kind) ms ≡ drop n ks → AreNumbered n ms → n ≤ length ks → Spans ks n ms (length ks)
spans_whole ks n [] s t h = omega (arith, length-drop n ks, ap length s)
spans_whole ks n (m ∷ ms) s t h =
    let r = get_here ks n m.kind (map (λ m. m.kind) ms) s in
    (r.0, t.0, spans_whole ks (suc n) ms r.1 t.1 (omega (arith, r.2)))

pub whole_spans : (ks : List Kind) (n : ℕ) (ms : List Mark) → Spans ks n ms (length ks) → (map (λ m. m.kind) ms ≡ drop n ks) × AreNumbered n ms
whole_spans ks n [] s = (sym (drop_all n ks (omega arith)), tt)
whole_spans ks n (m ∷ ms) s =
    let r = whole_spans ks (suc n) ms s.2 in
    (ap (λ x. m.kind ∷ x) r.0 ∙ sym (drop_here ks n m.kind s.0), (s.1, r.1))

pub spans_end : (ks : List Kind) (n : ℕ) (ms : List Mark) (e : ℕ) → Spans ks n ms e → n + length ms ≡ e
spans_end ks n [] e s = omega arith
spans_end ks n (m ∷ ms) e s = omega (arith, spans_end ks (suc n) ms e s.2)

-- marks stand within the list
pub spans_within : (ks : List Kind) (n : ℕ) (m : Mark) (ms : List Mark) (e : ℕ) → Spans ks n (m ∷ ms) e → e ≤ length ks
spans_within ks n m [] e s = omega (arith, slice_get_within ks n m.kind s.0)
spans_within ks n m (x ∷ xs) e s = spans_within ks (suc n) x xs e s.2
