-- The heads of `if` and of loops with fixed ends are read exactly as they are printed.
use Rattle.std.proofs.Common.{◌≡◌, ℕ, suc, ◌+◌, ◌≤◌, Bool, true, false, cond, List, [], ◌∷◌, Option, Some, None, Result, Ok, Err, refl, sym, ap, subst, ◌∙◌, arith, slice_get, nat_lt}
use Rattle.std.specs.Str.{bytes_eq}
use Rattle.std.proofs.lemmas.Slice.Eq.{bytes_eq-Decides}
use Rattle.c_tree.specs.declared.lexer.tokens.Kind.{Kind}
use Rattle.c_tree.specs.declared.lexer.tokens.Sign.TheVariants as sg
use Rattle.c_tree.specs.declared.lexer.tokens.Word.TheVariants as wd
use Rattle.c_tree.specs.declared.expressions.Ident.{Ident}
use Rattle.c_tree.specs.declared.expressions.NumberLiteral.{NumberLiteral}
use Rattle.c_tree.specs.declared.kernels.ForHeader.{ForHeader}
use Rattle.c_tree.specs.Tree.{ExprTree}
use Rattle.c_tree.specs.Print.{Mark, sign_at as sign_mark, word_at as word_mark, named_word, ident as ident_mark, figure, counter, condition}
use Rattle.c_tree.specs.Grouped.{IsGrouped, IsForHeader}
use Rattle.c_tree.specs.Reads.{first_deep}
use Rattle.c_reader.specs.declared.faults.Fault.{Fault}
use Rattle.c_reader.specs.declared.faults.Fault.TheVariants.{Syntax, TooDeep}
use Rattle.c_reader.specs.Rows.{word_is, ident}
use Rattle.c_reader.specs.Statements.{condition_row, condition_at, same_ident, for_front, for_behind, for_header_at}
use Rattle.c_reader.proofs.Spans.{Spans, spans_split, spans_join, or_else, deep_split, deep_over, after}
use Rattle.c_reader.proofs.Complete.{right_paren, level_fits}
use Rattle.c_reader.proofs.Sound.{bind_ok, ok_one}
use Rattle.c_reader.proofs.Far.{far_bind}
use Rattle.c_reader.proofs.Exactness.{Exact, Found, Any, Free, ident_is, ident_ok, ident_near, both_exact, flat, sign_exact, word_exact, marked_exact, ident_exact, number_exact, expr_exact}
use Rattle.c_reader.proofs.Marks.{made_complete, made_sound, made_far}
use Rattle.c_reader.proofs.CallRows.{then_exact, needy_then}

-- no `else` stands there
abbrev pub NoElse : List Kind → ℕ → Type 0
NoElse ks n = word_is wd.Else (slice_get ks n) ≡ false

-- the head of an `if`
pub condition_exact : (ks : List Kind) (f k d : ℕ) → suc k + d ≡ 65 → k ≤ f + 1 → Exact ks f 4 (λ v. IsGrouped v.1.1.0) (λ v. condition k v.0 v.1.1.0) Free Free (condition_row ks d)
condition_exact ks f k d room before =
    let fits = level_fits k d (omega arith) in
    then_exact ks {from' = f + 1} (omega arith) (marked_exact ks f k wd.If fits)
    (then_exact ks {from' = f + 1} (omega arith) (sign_exact ks (f + 1) k sg.LeftParen fits)
    (needy_then ks (omega arith) (expr_exact ks (f + 1) k d room before) (sign_exact ks (f + 1) k sg.RightParen fits)
    (λ a b j e s. (sg.RightParen, right_paren, s.0))))

pub condition_complete : (ks : List Kind) (f k d : ℕ) → suc k + d ≡ 65 → k ≤ f + 1 → (at : ℕ) (x : ExprTree) (n e : ℕ) → IsGrouped x
    → Spans ks n (condition k at x) e → condition_at ks d n ≡ after (first_deep n (condition k at x)) (Ok (x, e))
condition_complete ks f k d room before at x n e o s =
    made_complete (λ v. v.1.1.0) (condition_row ks d) n e (at, (tt, (x, tt))) (first_deep n (condition k at x)) ((condition_exact ks f k d room before).complete (at, (tt, (x, tt))) n e o s tt)

pub record Condition (ks : List Kind) (k n : ℕ) (x : ExprTree) (e : ℕ) : Type 0 where
  pub grouped : IsGrouped x
  pub spans : Spans ks n (condition k n x) e
  pub shallow : first_deep n (condition k n x) ≡ None

pub condition_sound : (ks : List Kind) (f k d : ℕ) → suc k + d ≡ 65 → k ≤ f + 1 → (n : ℕ) (y : ExprTree × ℕ) → condition_at ks d n ≡ Ok y → Condition ks k n y.0 y.1
condition_sound ks f k d room before n y h =
    let r = made_sound ks (λ v. v.1.1.0) (condition_exact ks f k d room before) n y h in
    let at : r.0.0 ≡ n = r.2.spans.1 in
    let spans : Spans ks n (condition k n r.0.1.1.0) y.1 = subst (λ z. Spans ks n (condition k z r.0.1.1.0) y.1) at r.2.spans in
    let deep : first_deep n (condition k n r.0.1.1.0) ≡ None = subst (λ z. first_deep n (condition k z r.0.1.1.0) ≡ None) at r.2.shallow in
    subst (λ z. Condition ks k n z y.1) r.1 (record { grouped = r.2.valid; spans = spans; shallow = deep })

pub condition_far : (ks : List Kind) (f k d : ℕ) → suc k + d ≡ 65 → k ≤ f + 1 → (n q : ℕ) → f ≤ n → condition_at ks d n ≡ Err (TooDeep q) → 64 ≤ q
condition_far ks f k d room before n q l h = made_far ks (λ v. v.1.1.0) (condition_exact ks f k d room before) n q l h

-- a name that is the same as another
pub same_is : (ks : List Kind) (x y : Ident) (n : ℕ) → ident ks n ≡ Ok (y, suc n) → y.name ≡ x.name → same_ident ks x n ≡ Ok (y, suc n)
unfolding same_ident
same_is ks x y n h e = rw (h, (bytes_eq-Decides y.name x.name).1 e) refl

pub same_ok : (ks : List Kind) (x : Ident) (n : ℕ) (y : Ident × ℕ) → same_ident ks x n ≡ Ok y → (ident ks n ≡ Ok y) × (y.0.name ≡ x.name)
unfolding same_ident
same_ok ks x n y h =
    let r = bind_ok (ident ks n) _ y h in
    by_test r.0 r.1 (bytes_eq r.0.0.name x.name) refl r.2
  where
    by_test : (r : Ident × ℕ) → ident ks n ≡ Ok r → (t : Bool) → bytes_eq r.0.name x.name ≡ t → cond t (Ok r) (Err (Syntax n)) ≡ Ok y → (ident ks n ≡ Ok y) × (y.0.name ≡ x.name)
    by_test r h true t g =
        subst (λ (z : Ident × ℕ). (ident ks n ≡ Ok z) × (z.0.name ≡ x.name)) (ok_one r y g) (h, (bytes_eq-Decides r.0.name x.name).0 t)
    by_test r h false t g = cc

pub same_near : (ks : List Kind) (x : Ident) (n q : ℕ) → same_ident ks x n ≡ Err (TooDeep q) → 64 ≤ q
unfolding same_ident
same_near ks x n q h =
    far_bind (ident ks n) _ q h (λ g. absurd (ident_near ks n q g)) (λ y r g. by_test y (bytes_eq y.0.name x.name) g)
  where
    by_test : (y : Ident × ℕ) (t : Bool) → ◌≡◌ {A = Result (Ident × ℕ) Fault} (cond t (Ok y) (Err (Syntax n))) (Err (TooDeep q)) → 64 ≤ q
    by_test y true g = cc
    by_test y false g = cc

pub same_exact : (ks : List Kind) (from k : ℕ) (x : Ident) → nat_lt 64 k ≡ false → Exact ks from 1 (λ y. y.name ≡ x.name) (λ y. ident_mark k y ∷ []) Free Free (same_ident ks x)
same_exact ks from k x fits = record {
  complete = λ y n e o s h. same_is ks x y n (ident_is ks y n s.0 s.1) o ∙ ap (λ (z : ℕ). Ok (y, z)) s.2 ∙ ap (λ z. after z (Ok (y, e))) (sym (deep_over n (ident_mark k y) [] fits));
  sound = λ n y h.
      (let r = same_ok ks x n y h in
      let q = ident_ok ks n y r.0 in
      record { valid = r.1; spans = (q.0, q.1, q.2); shallow = deep_over n (ident_mark k y.0) [] fits; behind = tt });
  moves = λ n y h. (let q = ident_ok ks n y (same_ok ks x n y h).0 in omega (arith, q.2));
  far = λ n q l h. same_near ks x n q h;
}

-- the head of a `for`
abbrev pub front_marks : ℕ → ℕ → Ident → NumberLiteral → List Mark
front_marks k at x m =
    named_word k wd.For at ∷ sign_mark k sg.LeftParen ∷ word_mark k wd.Int ∷ ident_mark k x ∷ sign_mark k sg.Assign ∷ figure k m ∷ sign_mark k sg.Semicolon ∷ []

abbrev pub behind_marks : ℕ → Ident → NumberLiteral → Ident → List Mark
behind_marks k y m z =
    ident_mark k y ∷ sign_mark k sg.Less ∷ figure k m ∷ sign_mark k sg.Semicolon ∷ ident_mark k z ∷ sign_mark k sg.PlusPlus ∷ sign_mark k sg.RightParen ∷ []

pub front_exact : (ks : List Kind) (f k : ℕ) → nat_lt 64 k ≡ false → Exact ks f 7 Any (λ v. front_marks k v.0 v.1.1.1.0 v.1.1.1.1.1.0) Free Free (for_front ks)
front_exact ks f k l =
    flat ks (marked_exact ks f k wd.For l)
    (flat ks (sign_exact ks f k sg.LeftParen l)
    (flat ks (word_exact ks f k wd.Int l)
    (flat ks (ident_exact ks f k l)
    (flat ks (sign_exact ks f k sg.Assign l) (flat ks (number_exact ks f k l) (sign_exact ks f k sg.Semicolon l))))))

pub behind_exact : (ks : List Kind) (f k : ℕ) (x : Ident) → nat_lt 64 k ≡ false
    → Exact ks f 7 (λ v. (v.0.name ≡ x.name) × (v.1.1.1.1.0.name ≡ x.name)) (λ v. behind_marks k v.0 v.1.1.0 v.1.1.1.1.0) Free Free
    (for_behind ks x)
behind_exact ks f k x l =
    both_exact ks f 1 _ _ _ _ _ _ _ _ _ _ _ (same_exact ks f k x l)
    (then_exact ks {from' = f} (omega arith) (sign_exact ks (f + 1) k sg.Less l)
    (then_exact ks {from' = f} (omega arith) (number_exact ks f k l)
    (then_exact ks {from' = f} (omega arith) (sign_exact ks f k sg.Semicolon l)
    (needy_then ks (omega arith) (same_exact ks f k x l) (flat ks (sign_exact ks f k sg.PlusPlus l) (sign_exact ks f k sg.RightParen l))
    (λ a b j e s. tt))))) (λ a b j e o s. tt)

pub for_is : (ks : List Kind) (n j e at : ℕ) (x y z : Ident) (a b : NumberLiteral) (p q : Option ℕ)
    → for_front ks n ≡ after p (Ok ((at, (tt, (tt, (x, (tt, (a, tt)))))), j))
    → for_behind ks x j ≡ after q (Ok ((y, (tt, (b, (tt, (z, (tt, tt)))))), e))
    → for_header_at ks n ≡ after (or_else p q) (Ok (record { at = at; name = x; from = a; tested = y; to = b; stepped = z }, e))
unfolding for_header_at
for_is ks n j e at x y z a b None None h g = rw (h, g) refl
for_is ks n j e at x y z a b None (Some q) h g = rw (h, g) refl
for_is ks n j e at x y z a b (Some p) q h g = rw h refl

pub header_complete : (ks : List Kind) (f k : ℕ) → nat_lt 64 k ≡ false → (h : ForHeader) (n e : ℕ) → IsForHeader h
    → Spans ks n (counter k h) e → for_header_at ks n ≡ after (first_deep n (counter k h)) (Ok (h, e))
header_complete ks f k l h n e o s =
    let front = front_marks k h.at h.name h.from in
    let back = behind_marks k h.tested h.to h.stepped in
    let r = spans_split ks n front back e s in
    for_is ks n r.0 e h.at h.name h.tested h.stepped h.from h.to (first_deep n front) (first_deep r.0 back)
    ((front_exact ks f k l).complete (h.at, (tt, (tt, (h.name, (tt, (h.from, tt)))))) n r.0 tt r.1 tt)
    ((behind_exact ks f k h.name l).complete (h.tested, (tt, (h.to, (tt, (h.stepped, (tt, tt)))))) r.0 e (o.0, o.1) r.2 tt)
    ∙ ap (λ z. after z (Ok (h, e))) (sym (deep_split ks n front back r.0 r.1))

pub header_sound : (ks : List Kind) (f k : ℕ) → nat_lt 64 k ≡ false → (n : ℕ) (y : ForHeader × ℕ) → for_header_at ks n ≡ Ok y → Found ks IsForHeader (counter k) Free n y.0 y.1
unfolding for_header_at
header_sound ks f k l n y h =
    let a = bind_ok (for_front ks n) _ y h in
    let b = bind_ok (for_behind ks a.0.0.1.1.1.0 a.0.1) _ y a.2 in
    let one = (front_exact ks f k l).sound n a.0 a.1 in
    let two = (behind_exact ks f k a.0.0.1.1.1.0 l).sound a.0.1 b.0 b.1 in
    let front = front_marks k a.0.0.0 a.0.0.1.1.1.0 a.0.0.1.1.1.1.1.0 in
    let back = behind_marks k b.0.0.0 b.0.0.1.1.0 b.0.0.1.1.1.1.0 in
    let made_ : Found ks IsForHeader (counter k) Free n
    (record {
      at = a.0.0.0;
      name = a.0.0.1.1.1.0;
      from = a.0.0.1.1.1.1.1.0;
      tested = b.0.0.0;
      to = b.0.0.1.1.0;
      stepped =
          b.0.0.1.1.1.1.0;
    }) b.0.1 = record {
      valid = (two.valid.0, two.valid.1);
      spans = spans_join ks n front back a.0.1 b.0.1 one.spans two.spans;
      shallow = deep_split ks n front back a.0.1 one.spans ∙ rw (one.shallow, two.shallow) refl;
      behind = tt;
    } in
    subst (λ (w : ForHeader × ℕ). Found ks IsForHeader (counter k) Free n w.0 w.1)
    (ok_one (
      record {
        at = a.0.0.0;
        name = a.0.0.1.1.1.0;
        from = a.0.0.1.1.1.1.1.0;
        tested = b.0.0.0;
        to = b.0.0.1.1.0;
        stepped =
            b.0.0.1.1.1.1.0;
      },
      b.0.1,
    ) y b.2) made_

pub header_far : (ks : List Kind) (f k : ℕ) → nat_lt 64 k ≡ false → (n q : ℕ) → f ≤ n → for_header_at ks n ≡ Err (TooDeep q) → 64 ≤ q
unfolding for_header_at
header_far ks f k l n q m h =
    far_bind (for_front ks n) _ q h ((front_exact ks f k l).far n q m) (λ a r g.
    (let moved = (front_exact ks f k l).moves n a r in
    far_bind (for_behind ks a.0.1.1.1.0 a.1) _ q g ((behind_exact ks f k a.0.1.1.1.0 l).far a.1 q (omega arith)) (λ b r g. cc)))
