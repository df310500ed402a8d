-- The heads of the loops of `main` are read exactly as they are printed.
use Rattle.std.proofs.Common.{◌≡◌, ℕ, suc, ◌+◌, ◌≤◌, List, [], ◌∷◌, ◌++◌, Option, Some, None, Ok, Err, refl, sym, ap, subst, ◌∙◌, arith, append_assoc}
use Rattle.c_tree.specs.declared.lexer.tokens.Kind.{Kind}
use Rattle.c_tree.specs.declared.lexer.tokens.Sign.TheVariants as sg
use Rattle.c_tree.specs.declared.lexer.tokens.Word.TheVariants as wd
use Rattle.c_tree.specs.declared.expressions.Ident.{Ident}
use Rattle.c_tree.specs.Tree.{ExprTree, HostForHeaderTree}
use Rattle.c_tree.specs.Print.{Mark, sign_at as sign_mark, word_at as word_mark, named_word, ident as ident_mark, expr, host_counter}
use Rattle.c_tree.specs.Grouped.{IsGrouped, IsHostForHeader}
use Rattle.c_tree.specs.Reads.{first_deep}
use Rattle.c_reader.specs.declared.faults.Fault.TheVariants.{TooDeep}
use Rattle.c_reader.specs.Hosts.{for_front, for_behind, for_header_at}
use Rattle.c_reader.proofs.Spans.{Spans, spans_split, spans_join, or_else, deep_split, after}
use Rattle.c_reader.proofs.Complete.{level_fits}
use Rattle.c_reader.proofs.Sound.{bind_ok, ok_one}
use Rattle.c_reader.proofs.Far.{far_bind}
use Rattle.c_reader.proofs.Exactness.{Exact, Found, Free, both_exact, flat, sign_exact, word_exact, marked_exact, ident_exact, expr_exact}
use Rattle.c_reader.proofs.CallRows.{then_exact, needy_then}
use Rattle.c_reader.proofs.StmtHeads.{same_exact}
use Rattle.c_reader.proofs.Assigned.{semicolon}

-- the head of a `for`
abbrev pub front_marks : ℕ → ℕ → Ident → ExprTree → List Mark
front_marks k at x m =
    named_word k wd.For at ∷ sign_mark k sg.LeftParen ∷ word_mark k wd.Int ∷ ident_mark k x ∷ sign_mark k sg.Assign ∷ (expr (suc k) m ++ sign_mark k sg.Semicolon ∷ [])

abbrev pub behind_marks : ℕ → Ident → ExprTree → Ident → List Mark
behind_marks k y m z =
    ident_mark k y ∷ sign_mark k sg.Less ∷ (expr (suc k) m ++ (sign_mark k sg.Semicolon ∷ ident_mark k z ∷ sign_mark k sg.PlusPlus ∷ sign_mark k sg.RightParen ∷ []))

pub front_exact : (ks : List Kind) (f k d : ℕ) → suc k + d ≡ 65 → k ≤ f + 1 → Exact ks f 7 (λ v. IsGrouped v.1.1.1.1.1.0) (λ v. front_marks k v.0 v.1.1.1.0 v.1.1.1.1.1.0) Free Free (for_front ks d)
front_exact ks f k d room before =
    let l = level_fits k d (omega arith) in
    then_exact ks {from' = f + 1} (omega arith) (marked_exact ks f k wd.For l)
    (then_exact ks {from' = f + 1} (omega arith) (sign_exact ks (f + 1) k sg.LeftParen l)
    (then_exact ks {from' = f + 1} (omega arith) (word_exact ks (f + 1) k wd.Int l)
    (then_exact ks {from' = f + 1} (omega arith) (ident_exact ks (f + 1) k l)
    (then_exact ks {from' = f + 1} (omega arith) (sign_exact ks (f + 1) k sg.Assign l)
    (needy_then ks (omega arith) (expr_exact ks (f + 1) k d room before) (sign_exact ks (f + 1) k sg.Semicolon l)
    (λ a b j e s. (sg.Semicolon, semicolon, s.0)))))))

pub behind_exact : (ks : List Kind) (f k d : ℕ) (x : Ident) → suc k + d ≡ 65 → k ≤ f + 1
    → Exact ks f 7 (λ v. (v.0.name ≡ x.name) × ((IsGrouped v.1.1.0) × (v.1.1.1.1.0.name ≡ x.name)))
    (λ v. behind_marks k v.0 v.1.1.0 v.1.1.1.1.0) Free Free (for_behind ks d x)
behind_exact ks f k d x room before =
    let l = level_fits k d (omega arith) in
    both_exact ks f 1 _ _ _ _ _ _ _ _ _ _ _ (same_exact ks f k x l)
    (then_exact ks {from' = f + 1} (omega arith) (sign_exact ks (f + 1) k sg.Less l)
    (both_exact ks (f + 1) 1 _ _ _ _ _ _ _ _ _ _ _ (expr_exact ks (f + 1) k d room before)
    (then_exact ks {from' = f + 1} (omega arith) (sign_exact ks (f + 1 + 1) k sg.Semicolon l)
    (needy_then ks (omega arith) (same_exact ks (f + 1) k x l)
    (flat ks (sign_exact ks (f + 1) k sg.PlusPlus l) (sign_exact ks (f + 1) k sg.RightParen l)) (λ a b j e s. tt)))
    (λ a b j e o s. (sg.Semicolon, semicolon, s.0)))) (λ a b j e o s. tt)

pub for_is : (ks : List Kind) (d n j e at : ℕ) (x y z : Ident) (a b : ExprTree) (p q : Option ℕ)
    → for_front ks d n ≡ after p (Ok ((at, (tt, (tt, (x, (tt, (a, tt)))))), j))
    → for_behind ks d x j ≡ after q (Ok ((y, (tt, (b, (tt, (z, (tt, tt)))))), e))
    → for_header_at ks d n ≡ after (or_else p q) (Ok (record { at = at; name = x; from = a; tested = y; to = b; stepped = z }, e))
unfolding for_header_at
for_is ks d n j e at x y z a b None None h g = rw (h, g) refl
for_is ks d n j e at x y z a b None (Some q) h g = rw (h, g) refl
for_is ks d n j e at x y z a b (Some p) q h g = rw h refl

pub header_row : (k : ℕ) (h : HostForHeaderTree) → host_counter k h ≡ front_marks k h.at h.name h.from ++ behind_marks k h.tested h.to h.stepped
header_row k h =
    ap (λ z. named_word k wd.For h.at ∷ sign_mark k sg.LeftParen ∷ word_mark k wd.Int ∷ ident_mark k h.name ∷ sign_mark k sg.Assign ∷ z)
    (sym (append_assoc (expr (suc k) h.from) (sign_mark k sg.Semicolon ∷ []) (behind_marks k h.tested h.to h.stepped)))

pub header_complete : (ks : List Kind) (f k d : ℕ) → suc k + d ≡ 65 → k ≤ f + 1 → (h : HostForHeaderTree) (n e : ℕ) → IsHostForHeader h
    → Spans ks n (host_counter k h) e → for_header_at ks d n ≡ after (first_deep n (host_counter k h)) (Ok (h, e))
header_complete ks f k d room before h n e o s =
    let front = front_marks k h.at h.name h.from in
    let back = behind_marks k h.tested h.to h.stepped in
    let r = spans_split ks n front back e (subst (λ z. Spans ks n z e) (header_row k h) s) in
    for_is ks d n r.0 e h.at h.name h.tested h.stepped h.from h.to (first_deep n front) (first_deep r.0 back)
    ((front_exact ks f k d room before).complete (h.at, (tt, (tt, (h.name, (tt, (h.from, tt)))))) n r.0 o.2 r.1 tt)
    ((behind_exact ks f k d h.name room before).complete (h.tested, (tt, (h.to, (tt, (h.stepped, (tt, tt)))))) r.0 e (o.0, (o.3, o.1))
    r.2 tt) ∙ ap (λ z. after z (Ok (h, e))) (sym (ap (first_deep n) (header_row k h) ∙ deep_split ks n front back r.0 r.1))

pub header_sound : (ks : List Kind) (f k d : ℕ) → suc k + d ≡ 65 → k ≤ f + 1 → (n : ℕ) (y : HostForHeaderTree × ℕ)
    → for_header_at ks d n ≡ Ok y → Found ks IsHostForHeader (host_counter k) Free n y.0 y.1
unfolding for_header_at
header_sound ks f k d room before n y h =
    let a = bind_ok (for_front ks d n) _ y h in
    let b = bind_ok (for_behind ks d a.0.0.1.1.1.0 a.0.1) _ y a.2 in
    let one = (front_exact ks f k d room before).sound n a.0 a.1 in
    let two = (behind_exact ks f k d a.0.0.1.1.1.0 room before).sound a.0.1 b.0 b.1 in
    let front = front_marks k a.0.0.0 a.0.0.1.1.1.0 a.0.0.1.1.1.1.1.0 in
    let back = behind_marks k b.0.0.0 b.0.0.1.1.0 b.0.0.1.1.1.1.0 in
    let tree : HostForHeaderTree = record { at = a.0.0.0; name = a.0.0.1.1.1.0; from = a.0.0.1.1.1.1.1.0; tested = b.0.0.0; to = b.0.0.1.1.0; stepped = b.0.0.1.1.1.1.0 } in
    let made_ : Found ks IsHostForHeader (host_counter k) Free n tree b.0.1 = record {
      valid = (two.valid.0, two.valid.1.1, one.valid, two.valid.1.0);
      spans = subst (λ z. Spans ks n z b.0.1) (sym (header_row k tree)) (spans_join ks n front back a.0.1 b.0.1 one.spans two.spans);
      shallow = ap (first_deep n) (header_row k tree) ∙ deep_split ks n front back a.0.1 one.spans ∙ rw (one.shallow, two.shallow) refl;
      behind = tt;
    } in
    subst (λ (w : HostForHeaderTree × ℕ). Found ks IsHostForHeader (host_counter k) Free n w.0 w.1) (ok_one (tree, b.0.1) y b.2) made_

pub header_far : (ks : List Kind) (f k d : ℕ) → suc k + d ≡ 65 → k ≤ f + 1 → (n q : ℕ) → f ≤ n → for_header_at ks d n ≡ Err (TooDeep q) → 64 ≤ q
unfolding for_header_at
header_far ks f k d room before n q m h =
    far_bind (for_front ks d n) _ q h ((front_exact ks f k d room before).far n q m) (λ a r g.
    (let moved = (front_exact ks f k d room before).moves n a r in
    far_bind (for_behind ks d a.0.1.1.1.0 a.1) _ q g ((behind_exact ks f k d a.0.1.1.1.0 room before).far a.1 q (omega arith)) (λ b r g. cc)))
