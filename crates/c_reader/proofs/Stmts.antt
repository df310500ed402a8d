-- Statements of kernels are read exactly as they are printed.
use Rattle.std.proofs.Common.{◌≡◌, ℕ, zero, suc, ◌+◌, ◌≤◌, Bool, true, false, cond, List, [], ◌∷◌, ◌++◌, length, Option, Some, None, Result, Ok, Err, refl, sym, ap, subst, ◌∙◌, arith, slice_get, nat_lt, length-append}
use Rattle.std.proofs.lemmas.Option.{slice_get_within}
use Rattle.c_tree.specs.declared.lexer.tokens.Kind.{Kind}
use Rattle.c_tree.specs.declared.lexer.tokens.Kind.TheVariants as kind
use Rattle.c_tree.specs.declared.lexer.tokens.Sign.TheVariants as sg
use Rattle.c_tree.specs.declared.lexer.tokens.Word.TheVariants as wd
use Rattle.c_tree.specs.declared.kernels.ForHeader.{ForHeader}
use Rattle.c_tree.specs.Tree.{ExprTree, PlaceTree, Scalar, Element, Target, StmtTree, LocalDeclaration, Block, Empty, Assign, If, IfElse, For, StmtTrees}
use Rattle.c_tree.specs.Print.{Mark, sign_at as sign_mark, word_at as word_mark, named_sign, word_if, expr, place, vars, assignment, counter, condition, stmt, stmts}
use Rattle.c_tree.specs.Grouped.{IsBody, ends_open, IsStmt, AreStmts}
use Rattle.c_tree.specs.Reads.{first_deep}
use Rattle.c_reader.specs.declared.faults.Fault.{Fault}
use Rattle.c_reader.specs.declared.faults.Fault.TheVariants.{Syntax, TooDeep}
use Rattle.c_reader.specs.declared.leads.StmtLead.{StmtLead}
use Rattle.c_reader.specs.declared.leads.StmtLead.TheVariants as lead
use Rattle.c_reader.specs.Descent.{◌>>=◌, sign_is, sign_at}
use Rattle.c_reader.specs.Leads.{stmt_lead_of}
use Rattle.c_reader.specs.Rows.{Reader, word_is}
use Rattle.c_reader.specs.Declarations.{declaration_at, assignment_at}
use Rattle.c_reader.specs.Statements.{condition_at, for_header_at, lead_in, stmt_trees, body_at, stmts_in, if_at, stmt_led, stmt_at}
use Rattle.c_reader.proofs.Spans.{Spans, spans_end, spans_split, spans_join, or_else, deep_split, deep_over, deep_between, deep_closed, after}
use Rattle.c_reader.proofs.Steps.{sign_at_is, sign_at_ok, sign_found}
use Rattle.c_reader.proofs.Complete.{level_fits}
use Rattle.c_reader.proofs.Sound.{bind_ok, ok_one}
use Rattle.c_reader.proofs.Far.{far_bind, sign_far}
use Rattle.c_reader.proofs.Exactness.{Exact, Found, word_found, word_here}
use Rattle.c_reader.proofs.Lists.{AllValid, joined, until_complete, until_sound, until_far}
use Rattle.c_reader.proofs.Marks.{made_complete}
use Rattle.c_reader.proofs.Declared.{tail_of, declaration_complete, declaration_sound, declaration_far}
use Rattle.c_reader.proofs.Assigned.{assignment_complete, assignment_sound, assignment_far}
use Rattle.c_reader.proofs.StmtHeads.{NoElse, condition_complete, Condition, condition_sound, condition_far, header_complete, header_sound, header_far}
use Rattle.c_reader.proofs.StmtLists.{list_of, trees_list, stmts_joined, joined_stmts, valid_list, list_valid, stmt_lead, stmt_begins, stmt_deep}
use Rattle.std.proofs.lemmas.Bool.{true≢false}

-- an `else` does not stand behind what it would belong to
abbrev pub Needs : List Kind → StmtTree → ℕ → Type 0
Needs ks s e = ends_open s ≡ true → NoElse ks e

if_one : (ks : List Kind) (d : ℕ) (rec : Reader StmtTree) (n at j e : ℕ) (x : ExprTree) (a : StmtTree) (p q : Option ℕ)
    → condition_at ks d n ≡ after p (Ok (x, j)) → body_at ks rec j ≡ after q (Ok (a, e)) → NoElse ks e → at ≡ n
    → if_at ks d rec n ≡ after (or_else p q) (Ok (If at x a, e))
unfolding if_at
if_one ks d rec n at j e x a None None c b h i = rw (c, b, h) (ap (λ (z : ℕ). Ok (If z x a, e)) (sym i))
if_one ks d rec n at j e x a None (Some q) c b h i = rw (c, b) refl
if_one ks d rec n at j e x a (Some p) q c b h i = rw c refl

if_both : (ks : List Kind) (d : ℕ) (rec : Reader StmtTree) (n at j l e : ℕ) (x : ExprTree) (a b : StmtTree) (p q r : Option ℕ)
    → condition_at ks d n ≡ after p (Ok (x, j)) → body_at ks rec j ≡ after q (Ok (a, l)) → slice_get ks l ≡ Some (kind.Word wd.Else)
    → body_at ks rec (suc l) ≡ after r (Ok (b, e)) → at ≡ n → if_at ks d rec n ≡ after (or_else p (or_else q r)) (Ok (IfElse at x a b, e))
unfolding if_at
if_both ks d rec n at j l e x a b None None None c f h g i = rw (c, f, word_here wd.Else (slice_get ks l) h, g) (ap (λ (z : ℕ). Ok (IfElse z x a b, e)) (sym i))
if_both ks d rec n at j l e x a b None None (Some r) c f h g i = rw (c, f, word_here wd.Else (slice_get ks l) h, g) refl
if_both ks d rec n at j l e x a b None (Some q) r c f h g i = rw (c, f) refl
if_both ks d rec n at j l e x a b (Some p) q r c f h g i = rw c refl

block_is : (ks : List Kind) (d : ℕ) (rec : Reader StmtTree) (n at j : ℕ) (xs : List StmtTree) (o : Option ℕ)
    → sign_at ks sg.LeftBrace n ≡ Ok (suc n) → stmts_in ks rec (suc n) ≡ after o (Ok (xs, j)) → sign_at ks sg.RightBrace j ≡ Ok (suc j)
    → at ≡ n → stmt_led ks d rec lead.Block n ≡ after o (Ok (Block at (stmt_trees xs), suc j))
block_is ks d rec n at j xs None a b c i = rw (a, b, c) (ap (λ (z : ℕ). Ok (Block z (stmt_trees xs), suc j)) (sym i))
block_is ks d rec n at j xs (Some p) a b c i = rw (a, b) refl

for_led : (ks : List Kind) (d : ℕ) (rec : Reader StmtTree) (n j e : ℕ) (c : ForHeader) (s : StmtTree) (p q : Option ℕ)
    → for_header_at ks n ≡ after p (Ok (c, j)) → body_at ks rec j ≡ after q (Ok (s, e))
    → stmt_led ks d rec lead.For n ≡ after (or_else p q) (Ok (For c s, e))
for_led ks d rec n j e c s None None h b = rw (h, b) refl
for_led ks d rec n j e c s None (Some q) h b = rw (h, b) refl
for_led ks d rec n j e c s (Some p) q h b = rw h refl

-- A statement at level k, with d levels left below it and at least f tokens before it, by what reads those within.
module _ (ks : List Kind) (f k d : ℕ) (room : suc k + d ≡ 65) (before : k ≤ f + 1) (rec : Reader StmtTree) (x : Exact ks (f + 1) 1 IsStmt (stmt (suc k)) (Needs ks) (Needs ks) rec) where
  fits : nat_lt 64 k ≡ false
  fits = level_fits k d (omega arith)

  body_is : (n : ℕ) → word_is wd.Int (slice_get ks n) ≡ false → body_at ks rec n ≡ rec n
  body_is n h = rw h refl

  body_complete : (s : StmtTree) (n e : ℕ) → IsBody s → IsStmt s → Spans ks n (stmt (suc k) s) e → Needs ks s e → body_at ks rec n ≡ after (first_deep n (stmt (suc k) s)) (Ok (s, e))
  body_complete s n e b o p h =
      let r = stmt_begins ks (suc k) n e s [] o (subst (λ z. Spans ks n z e) (sym (nil_right (stmt (suc k) s))) p) in
      body_is n (r.no_int b) ∙ x.complete s n e o p h
    where
      nil_right : (xs : List Mark) → xs ++ [] ≡ xs
      nil_right [] = refl
      nil_right (y ∷ xs) = ap (λ z. y ∷ z) (nil_right xs)

  int_lead : (s : StmtTree) (n e : ℕ) → IsStmt s → Spans ks n (stmt (suc k) s) e → word_is wd.Int (slice_get ks n) ≡ false → IsBody s
  int_lead (LocalDeclaration v) n e o s h =
      let s' : Spans ks n (word_if false (suc k) wd.Const ++ tail_of (suc k) v) e = subst (λ z. Spans ks n (word_if z (suc k) wd.Const ++ tail_of (suc k) v) e) o.0 s in
      true≢false (sym (word_here wd.Int (slice_get ks n) s'.0) ∙ h)
  int_lead (Block at ss) n e o s h = tt
  int_lead (Empty at) n e o s h = tt
  int_lead (Assign a) n e o s h = tt
  int_lead (If at c t) n e o s h = tt
  int_lead (IfElse at c t u) n e o s h = tt
  int_lead (For c t) n e o s h = tt

  body_sound : (n : ℕ) (y : StmtTree × ℕ) → body_at ks rec n ≡ Ok y → IsBody y.0 × Found ks IsStmt (stmt (suc k)) (Needs ks) n y.0 y.1
  body_sound n y h = by_test (word_is wd.Int (slice_get ks n)) refl h
    where
      by_test : (t : Bool) → word_is wd.Int (slice_get ks n) ≡ t → cond t (Err (Syntax n)) (rec n) ≡ Ok y → IsBody y.0 × Found ks IsStmt (stmt (suc k)) (Needs ks) n y.0 y.1
      by_test true t h = cc
      by_test false t h = let r = x.sound n y h in (int_lead y.0 n y.1 r.valid r.spans t, r)

  body_far : (n q : ℕ) → f + 1 ≤ n → body_at ks rec n ≡ Err (TooDeep q) → 64 ≤ q
  body_far n q l h = by_test (word_is wd.Int (slice_get ks n)) h
    where
      by_test : (t : Bool) → ◌≡◌ {A = Result (StmtTree × ℕ) Fault} (cond t (Err (Syntax n)) (rec n)) (Err (TooDeep q)) → 64 ≤ q
      by_test true h = cc
      by_test false h = x.far n q l h

  body_moves : (n : ℕ) (y : StmtTree × ℕ) → body_at ks rec n ≡ Ok y → n + 1 ≤ y.1
  body_moves n y h = by_test (word_is wd.Int (slice_get ks n)) h
    where
      by_test : (t : Bool) → cond t (Err (Syntax n)) (rec n) ≡ Ok y → n + 1 ≤ y.1
      by_test true h = cc
      by_test false h = x.moves n y h

  stmts_long : (xs : List StmtTree) (n e : ℕ) → AllValid IsStmt xs → Spans ks n (joined (stmt (suc k)) xs) e → n + length xs ≤ e
  stmts_long [] n e o s = omega (arith, s)
  stmts_long (y ∷ xs) n e o s =
      let r = spans_split ks n (stmt (suc k) y) (joined (stmt (suc k)) xs) e s in
      let more = stmts_long xs r.0 e o.1 r.2 in
      let some = stmt_some y in
      omega (arith, spans_end ks n (stmt (suc k) y) r.0 r.1)
    where
      place_some : (p : PlaceTree) → 1 ≤ length (place (suc k) p)
      place_some (Scalar z) = omega arith
      place_some (Element z i) = omega arith
      place_some (Target at z) = omega arith

      stmt_some : (s : StmtTree) → 1 ≤ length (stmt (suc k) s)
      stmt_some (LocalDeclaration v) = omega (arith, length-append (word_if v.is_const (suc k) wd.Const) (tail_of (suc k) v))
      stmt_some (Block at ss) = omega arith
      stmt_some (Empty at) = omega arith
      stmt_some (Assign a) =
          omega (
            arith,
            place_some a.place,
            length-append (place (suc k) a.place)
                (named_sign (suc k) (Rattle.c_tree.specs.Signs.assign_sign_of a.op) a.at
                ∷ (expr (suc (suc k)) a.value ++ sign_mark (suc k) sg.Semicolon ∷ [])),
          )
      stmt_some (If at c t) = omega arith
      stmt_some (IfElse at c t u) = omega arith
      stmt_some (For c t) = omega arith

  pub block_complete : (ss : StmtTrees) (n e : ℕ) → AreStmts ss → Spans ks n (stmts (suc k) ss) e
      → slice_get ks e ≡ Some (kind.Sign sg.RightBrace) → stmts_in ks rec n ≡ after (first_deep n (stmts (suc k) ss)) (Ok (list_of ss, e))
  block_complete ss n e o s h =
      let s' = subst (λ z. Spans ks n z e) (stmts_joined (suc k) ss) s in
      let valid = valid_list ss o in
      until_complete ks (f + 1) IsStmt (stmt (suc k)) (Needs ks) (Needs ks) rec x (λ m. sign_is sg.RightBrace (slice_get ks m)) (NoElse ks)
      (λ a n e more o s. (let r = stmt_begins ks (suc k) n e a more o s in (r.no_brace, r.no_else))) (λ n h. brace_else n h)
      (λ a n h u. h) (list_of ss) (length ks) n e
      (omega (arith, stmts_long (list_of ss) n e valid s', slice_get_within ks e (kind.Sign sg.RightBrace) h)) valid s' (rw h refl)
      ∙ ap (λ z. after z (Ok (list_of ss, e))) (ap (first_deep n) (sym (stmts_joined (suc k) ss)))
    where
      brace_else : (n : ℕ) → sign_is sg.RightBrace (slice_get ks n) ≡ true → NoElse ks n
      brace_else n h = rw (sign_found sg.RightBrace (slice_get ks n) h) refl

  pub block_sound : (n : ℕ) (y : List StmtTree × ℕ) → stmts_in ks rec n ≡ Ok y → AreStmts (stmt_trees y.0)
      × (Spans ks n (stmts (suc k) (stmt_trees y.0)) y.1 × (first_deep n (stmts (suc k) (stmt_trees y.0)) ≡ None))
  block_sound n y h =
      let r = (until_sound ks (f + 1) 1 IsStmt (stmt (suc k)) (Needs ks) (Needs ks) rec x (λ m. sign_is sg.RightBrace (slice_get ks m)) (length ks) n y h).0 in
      let same = joined_stmts (suc k) y.0 in
      (list_valid y.0 r.valid, (subst (λ z. Spans ks n z y.1) same r.spans, ap (first_deep n) (sym same) ∙ r.shallow))

  pub block_far : (n q : ℕ) → f + 1 ≤ n → stmts_in ks rec n ≡ Err (TooDeep q) → 64 ≤ q
  block_far n q l h =
      until_far ks (f + 1) 1 IsStmt (stmt (suc k)) (Needs ks) (Needs ks) rec x (λ m. sign_is sg.RightBrace (slice_get ks m)) (length ks) n q l h

  led_complete : (s : StmtTree) (n e : ℕ) → IsStmt s → Spans ks n (stmt k s) e → Needs ks s e → stmt_led ks d rec (stmt_lead s) n ≡ after (first_deep n (stmt k s)) (Ok (s, e))
  led_complete (LocalDeclaration v) n e o s h =
      made_complete LocalDeclaration (declaration_at ks d) n e v (first_deep n (vars k v)) (declaration_complete ks f k d room before v n e o.1 s)
  led_complete (Block at ss) n e o s h =
      let rb = sign_mark k sg.RightBrace in
      let r = spans_split ks (suc n) (stmts (suc k) ss) (rb ∷ []) e s.2 in
      block_is ks d rec n at r.0 (list_of ss) (first_deep (suc n) (stmts (suc k) ss)) (sign_at_is ks sg.LeftBrace n s.0)
      (block_complete ss (suc n) r.0 o r.1 r.2.0) (sign_at_is ks sg.RightBrace r.0 r.2.0) s.1
      ∙ ap (λ z. after (first_deep (suc n) (stmts (suc k) ss)) (Ok (Block at z, suc r.0))) (trees_list ss)
      ∙ ap (λ (z : ℕ). after (first_deep (suc n) (stmts (suc k) ss)) (Ok (Block at ss, z))) r.2.2
      ∙ ap (λ z. after z (Ok (Block at ss, e)))
      (sym (deep_over n (named_sign k sg.LeftBrace at) (stmts (suc k) ss ++ rb ∷ []) fits
      ∙ deep_closed ks (suc n) (stmts (suc k) ss) rb r.0 r.1 fits))
  led_complete (Empty at) n e o s h =
      let deep : first_deep n (stmt k (Empty at)) ≡ None = deep_over n (named_sign k sg.Semicolon at) [] fits in
      rw (sign_at_is ks sg.Semicolon n s.0, deep) (ap (λ (z : ℕ). Ok (Empty z, suc n)) (sym s.1) ∙ ap (λ (z : ℕ). Ok (Empty at, z)) s.2)
  led_complete (Assign a) n e o s h =
      made_complete Assign (assignment_at ks d) n e a (first_deep n (assignment k a)) (assignment_complete ks f k d room before a n e o s)
  led_complete (If at c t) n e o s h =
      let r = spans_split ks n (condition k at c) (stmt (suc k) t) e s in
      let one = condition_complete ks f k d room before at c n r.0 o.0 r.1 in
      let two = body_complete t r.0 e o.1 o.2 r.2 (λ z. h refl) in
      if_one ks d rec n at r.0 e c t (first_deep n (condition k at c)) (first_deep r.0 (stmt (suc k) t)) one two (h refl) s.1
      ∙ ap (λ z. after z (Ok (If at c t, e))) (sym (deep_split ks n (condition k at c) (stmt (suc k) t) r.0 r.1))
  led_complete (IfElse at c t u) n e o s h =
      let tail = stmt (suc k) t ++ (word_mark k wd.Else ∷ stmt (suc k) u) in
      let r = spans_split ks n (condition k at c) tail e s in
      let q = spans_split ks r.0 (stmt (suc k) t) (word_mark k wd.Else ∷ stmt (suc k) u) e r.2 in
      let one = condition_complete ks f k d room before at c n r.0 o.0 r.1 in
      let two = body_complete t r.0 q.0 o.1 o.2 q.1 (λ z. absurd (true≢false (sym z ∙ o.3))) in
      let three = body_complete u (suc q.0) e o.4 o.5 q.2.2 (λ z. h z) in
      if_both ks d rec n at r.0 q.0 e c t u (first_deep n (condition k at c)) (first_deep r.0 (stmt (suc k) t))
      (first_deep (suc q.0) (stmt (suc k) u)) one two q.2.0 three s.1
      ∙ ap (λ z. after z (Ok (IfElse at c t u, e)))
      (sym (deep_split ks n (condition k at c) tail r.0 r.1
      ∙ ap (or_else (first_deep n (condition k at c)))
      (deep_between ks r.0 (stmt (suc k) t) (word_mark k wd.Else) (stmt (suc k) u) q.0 q.1 fits)))
  led_complete (For c t) n e o s h =
      let r = spans_split ks n (counter k c) (stmt (suc k) t) e s in
      for_led ks d rec n r.0 e c t (first_deep n (counter k c)) (first_deep r.0 (stmt (suc k) t))
      (header_complete ks f k fits c n r.0 o.0 r.1) (body_complete t r.0 e o.1 o.2 r.2 (λ z. h z))
      ∙ ap (λ z. after z (Ok (For c t, e))) (sym (deep_split ks n (counter k c) (stmt (suc k) t) r.0 r.1))

  abbrev FoundAt : ℕ → StmtTree × ℕ → Type 0
  FoundAt n y = Found ks IsStmt (stmt k) (Needs ks) n y.0 y.1

  no_open : (n : ℕ) → false ≡ true → NoElse ks n
  no_open n h = absurd (true≢false (sym h))

  if_sound : (n : ℕ) (y : StmtTree × ℕ) → if_at ks d rec n ≡ Ok y → FoundAt n y
  unfolding if_at
  if_sound n y h =
      let c = bind_ok (condition_at ks d n) _ y h in
      let s = bind_ok (body_at ks rec c.0.1) _ y c.2 in
      by_test c.0 s.0 (condition_sound ks f k d room before n c.0 c.1) (body_sound c.0.1 s.0 s.1) (word_is wd.Else (slice_get ks s.0.1)) refl s.2
    where
      by_test : (c : ExprTree × ℕ) (s : StmtTree × ℕ) → Condition ks k n c.0 c.1 → IsBody s.0
          × Found ks IsStmt (stmt (suc k)) (Needs ks) c.1 s.0 s.1 → (t : Bool) → word_is wd.Else (slice_get ks s.1) ≡ t
          → cond t (body_at ks rec (suc s.1) >>= λ t. Ok (IfElse n c.0 s.0 t.0, t.1)) (Ok (If n c.0 s.0, s.1)) ≡ Ok y → FoundAt n y
      by_test c s o b false t h =
          let made_ : FoundAt n (If n c.0 s.0, s.1) = record {
            valid = (o.grouped, b.0, b.1.valid);
            spans = spans_join ks n (condition k n c.0) (stmt (suc k) s.0) c.1 s.1 o.spans b.1.spans;
            shallow = deep_split ks n (condition k n c.0) (stmt (suc k) s.0) c.1 o.spans ∙ rw (o.shallow, b.1.shallow) refl;
            behind = λ z. t;
          } in
          subst (FoundAt n) (ok_one (If n c.0 s.0, s.1) y h) made_
      by_test c s o b true t h =
          let u = bind_ok (body_at ks rec (suc s.1)) _ y h in
          let g = body_sound (suc s.1) u.0 u.1 in
          let tail = stmt (suc k) s.0 ++ (word_mark k wd.Else ∷ stmt (suc k) u.0.0) in
          let here = word_found wd.Else (slice_get ks s.1) t in
          let ends : Spans ks c.1 tail u.0.1 = spans_join ks c.1 (stmt (suc k) s.0) (word_mark k wd.Else ∷ stmt (suc k) u.0.0) s.1 u.0.1 b.1.spans (here, tt, g.1.spans) in
          let deep : first_deep c.1 tail ≡ None = deep_between ks c.1 (stmt (suc k) s.0) (word_mark k wd.Else) (stmt (suc k) u.0.0) s.1 b.1.spans fits ∙ rw (b.1.shallow, g.1.shallow) refl in
          let closed : ends_open s.0 ≡ false = not_open s.0 s.1 (λ z. b.1.behind z) t in
          let made_ : FoundAt n (IfElse n c.0 s.0 u.0.0, u.0.1) = record {
            valid = (o.grouped, b.0, b.1.valid, closed, g.0, g.1.valid);
            spans = spans_join ks n (condition k n c.0) tail c.1 u.0.1 o.spans ends;
            shallow = deep_split ks n (condition k n c.0) tail c.1 o.spans ∙ rw (o.shallow, deep) refl;
            behind = λ z. g.1.behind z;
          } in
          subst (FoundAt n) (ok_one (IfElse n c.0 s.0 u.0.0, u.0.1) y u.2) made_
        where
          not_open : (s : StmtTree) (e : ℕ) → (ends_open s ≡ true → NoElse ks e) → word_is wd.Else (slice_get ks e) ≡ true → ends_open s ≡ false
          not_open s e g t = by_open (ends_open s) refl
            where
              by_open : (b : Bool) → ends_open s ≡ b → b ≡ false
              by_open true i = absurd (true≢false (sym t ∙ g i))
              by_open false i = refl

  pub led_sound : (l : StmtLead) (n : ℕ) (y : StmtTree × ℕ) → lead_in (slice_get ks n) ≡ l → stmt_led ks d rec l n ≡ Ok y → FoundAt n y
  led_sound lead.Declaration n y i h =
      let v = bind_ok (declaration_at ks d n) _ y h in
      let r = declaration_sound ks f k d room before n v.0 v.1 in
      let plain = r.1 (not_const (slice_get ks n) i) in
      let made_ : FoundAt n (LocalDeclaration v.0.0, v.0.1) = record { valid = (plain, r.0.valid); spans = r.0.spans; shallow = r.0.shallow; behind = λ z. no_open v.0.1 z } in
      subst (FoundAt n) (ok_one (LocalDeclaration v.0.0, v.0.1) y v.2) made_
    where
      word_const : (w : _) → stmt_lead_of (kind.Word w) ≡ lead.Declaration → word_is wd.Const (Some (kind.Word w)) ≡ false
      word_const wd.Const i = cc
      word_const wd.Int i = refl
      word_const _ i = refl

      not_const : (o : Option Kind) → lead_in o ≡ lead.Declaration → word_is wd.Const o ≡ false
      not_const None i = refl
      not_const (Some (kind.Word w)) i = word_const w i
      not_const (Some (kind.Name z)) i = refl
      not_const (Some (kind.Number z)) i = refl
      not_const (Some (kind.Text z)) i = refl
      not_const (Some (kind.Sign z)) i = refl
  led_sound lead.Block n y i h =
      let o = bind_ok (sign_at ks sg.LeftBrace n) _ y h in
      let b = bind_ok (stmts_in ks rec o.0) _ y o.2 in
      let c = bind_ok (sign_at ks sg.RightBrace b.0.1) _ y b.2 in
      let g = sign_at_ok ks sg.LeftBrace n o.0 o.1 in
      let u = sign_at_ok ks sg.RightBrace b.0.1 c.0 c.1 in
      let r : AreStmts (stmt_trees b.0.0) ×
      (Spans ks (suc n) (stmts (suc k) (stmt_trees b.0.0)) b.0.1 × (first_deep (suc n) (stmts (suc k) (stmt_trees b.0.0)) ≡ None)) =
      subst (λ z. AreStmts (stmt_trees b.0.0) ×
      (Spans ks z (stmts (suc k) (stmt_trees b.0.0)) b.0.1 × (first_deep z (stmts (suc k) (stmt_trees b.0.0)) ≡ None))) g.1
      (block_sound o.0 b.0 b.1) in
      let rb = sign_mark k sg.RightBrace in
      let made_ : FoundAt n (Block n (stmt_trees b.0.0), c.0) = record {
        valid = r.0;
        spans = (g.0, refl, spans_join ks (suc n) (stmts (suc k) (stmt_trees b.0.0)) (rb ∷ []) b.0.1 c.0 r.1.0 (u.0, tt, sym u.1));
        shallow = deep_over n (named_sign k sg.LeftBrace n) (stmts (suc k) (stmt_trees b.0.0) ++ rb ∷ []) fits ∙ deep_closed ks (suc n) (stmts (suc k) (stmt_trees b.0.0)) rb b.0.1 r.1.0 fits ∙ r.1.1;
        behind = λ z. no_open c.0 z;
      } in
      subst (FoundAt n) (ok_one (Block n (stmt_trees b.0.0), c.0) y c.2) made_
  led_sound lead.Empty n y i h =
      let o = bind_ok (sign_at ks sg.Semicolon n) _ y h in
      let g = sign_at_ok ks sg.Semicolon n o.0 o.1 in
      let made_ : FoundAt n (Empty n, o.0) = record { valid = tt; spans = (g.0, refl, sym g.1); shallow = deep_over n (named_sign k sg.Semicolon n) [] fits; behind = λ z. no_open o.0 z } in
      subst (FoundAt n) (ok_one (Empty n, o.0) y o.2) made_
  led_sound lead.Assignment n y i h =
      let a = bind_ok (assignment_at ks d n) _ y h in
      let r = assignment_sound ks f k d room before n a.0 a.1 in
      let made_ : FoundAt n (Assign a.0.0, a.0.1) = record { valid = r.valid; spans = r.spans; shallow = r.shallow; behind = λ z. no_open a.0.1 z } in
      subst (FoundAt n) (ok_one (Assign a.0.0, a.0.1) y a.2) made_
  led_sound lead.If n y i h = if_sound n y h
  led_sound lead.For n y i h =
      let c = bind_ok (for_header_at ks n) _ y h in
      let s = bind_ok (body_at ks rec c.0.1) _ y c.2 in
      let o = header_sound ks f k fits n c.0 c.1 in
      let b = body_sound c.0.1 s.0 s.1 in
      let made_ : FoundAt n (For c.0.0 s.0.0, s.0.1) = record {
        valid = (o.valid, b.0, b.1.valid);
        spans = spans_join ks n (counter k c.0.0) (stmt (suc k) s.0.0) c.0.1 s.0.1 o.spans b.1.spans;
        shallow = deep_split ks n (counter k c.0.0) (stmt (suc k) s.0.0) c.0.1 o.spans ∙ rw (o.shallow, b.1.shallow) refl;
        behind = λ z. b.1.behind z;
      } in
      subst (FoundAt n) (ok_one (For c.0.0 s.0.0, s.0.1) y s.2) made_
  led_sound lead.Nothing n y i h = cc

  if_far : (n q : ℕ) → f ≤ n → if_at ks d rec n ≡ Err (TooDeep q) → 64 ≤ q
  unfolding if_at
  if_far n q l h =
      far_bind (condition_at ks d n) _ q h (condition_far ks f k d room before n q l) (λ c r g.
      (let o = condition_sound ks f k d room before n c r in
      let moved = spans_end ks n (condition k n c.0) c.1 o.spans in
      far_bind (body_at ks rec c.1) _ q g (body_far c.1 q (omega arith)) (λ s r g. (let m = body_moves c.1 s r in by_test c s (omega arith) (word_is wd.Else (slice_get ks s.1)) g))))
    where
      by_test : (c : ExprTree × ℕ) (s : StmtTree × ℕ) → f + 1 ≤ s.1 → (t : Bool)
          → ◌≡◌ {A = Result (StmtTree × ℕ) Fault}
          (cond t (body_at ks rec (suc s.1) >>= λ t. Ok (IfElse n c.0 s.0 t.0, t.1)) (Ok (If n c.0 s.0, s.1))) (Err (TooDeep q)) → 64 ≤ q
      by_test c s m true g = far_bind (body_at ks rec (suc s.1)) _ q g (body_far (suc s.1) q (omega arith)) (λ u r g. cc)
      by_test c s m false g = cc

  pub led_far : (l : StmtLead) (n q : ℕ) → f ≤ n → stmt_led ks d rec l n ≡ Err (TooDeep q) → 64 ≤ q
  led_far lead.Declaration n q l h = far_bind (declaration_at ks d n) _ q h (declaration_far ks f k d room before n q l) (λ v r g. cc)
  led_far lead.Block n q l h =
      far_bind (sign_at ks sg.LeftBrace n) _ q h (sign_far ks sg.LeftBrace n q) (λ o r g.
      (let i = sign_at_ok ks sg.LeftBrace n o r in
      far_bind (stmts_in ks rec o) _ q g (block_far o q (omega (arith, i.1))) (λ b r g. far_bind (sign_at ks sg.RightBrace b.1) _ q g (sign_far ks sg.RightBrace b.1 q) (λ e r g. cc))))
  led_far lead.Empty n q l h = far_bind (sign_at ks sg.Semicolon n) _ q h (sign_far ks sg.Semicolon n q) (λ e r g. cc)
  led_far lead.Assignment n q l h = far_bind (assignment_at ks d n) _ q h (assignment_far ks f k d room before n q l) (λ v r g. cc)
  led_far lead.If n q l h = if_far n q l h
  led_far lead.For n q l h =
      far_bind (for_header_at ks n) _ q h (header_far ks f k fits n q l) (λ c r g.
      (let o = header_sound ks f k fits n c r in
      let moved = spans_end ks n (counter k c.0) c.1 o.spans in
      far_bind (body_at ks rec c.1) _ q g (body_far c.1 q (omega arith)) (λ s r g. cc)))
  led_far lead.Nothing n q l h = cc

  pub led_moves : (n : ℕ) (y : StmtTree × ℕ) → FoundAt n y → n + 1 ≤ y.1
  led_moves n y r =
      let s' : Spans ks n (stmt k y.0) y.1 = r.spans in
      omega (arith, spans_end ks n (stmt k y.0) y.1 s', stmt_some y.0)
    where
      place_some : (p : PlaceTree) → 1 ≤ length (place k p)
      place_some (Scalar z) = omega arith
      place_some (Element z i) = omega arith
      place_some (Target at z) = omega arith

      stmt_some : (s : StmtTree) → 1 ≤ length (stmt k s)
      stmt_some (LocalDeclaration v) = omega (arith, length-append (word_if v.is_const k wd.Const) (tail_of k v))
      stmt_some (Block at ss) = omega arith
      stmt_some (Empty at) = omega arith
      stmt_some (Assign a) =
          omega (
            arith,
            place_some a.place,
            length-append (place k a.place)
                (named_sign k (Rattle.c_tree.specs.Signs.assign_sign_of a.op) a.at ∷ (expr (suc k) a.value ++ sign_mark k sg.Semicolon ∷ [])),
          )
      stmt_some (If at c t) = omega arith
      stmt_some (IfElse at c t u) = omega arith
      stmt_some (For c t) = omega arith

last_is : (ks : List Kind) (n : ℕ) → stmt_at ks 0 n ≡ Err (TooDeep n)
unfolding stmt_at
last_is ks n = refl

level_is : (ks : List Kind) (d n : ℕ) (l : StmtLead) → lead_in (slice_get ks n) ≡ l → stmt_at ks (suc d) n ≡ stmt_led ks d (stmt_at ks d) l n
unfolding stmt_at
level_is ks d n l h = rw h refl

-- A statement at level k, with d levels left and at least f tokens before it.
pub stmt_exact : (ks : List Kind) (d k f : ℕ) → k + d ≡ 65 → k ≤ f + 1 → Exact ks f 1 IsStmt (stmt k) (Needs ks) (Needs ks) (stmt_at ks d)
stmt_exact ks zero k f l b = record {
  complete = λ s n e o p h. last_is ks n ∙ ap (λ z. after z (Ok (s, e))) (sym (ap (λ z. first_deep n (stmt z s)) (let i : k ≡ 65 = omega arith in i) ∙ stmt_deep n s));
  sound = λ n y h. absurd (never n y (sym (last_is ks n) ∙ h));
  moves = λ n y h. absurd (never n y (sym (last_is ks n) ∙ h));
  far = λ n q m h. (let same = deep_one n q (sym (last_is ks n) ∙ h) in omega arith);
}
  where
    never : (n : ℕ) (y : StmtTree × ℕ) → ◌≡◌ {A = Result (StmtTree × ℕ) Fault} (Err (TooDeep n)) (Ok y) → ⊥
    never n y h = cc

    deep_one : (n q : ℕ) → ◌≡◌ {A = Result (StmtTree × ℕ) Fault} (Err (TooDeep n)) (Err (TooDeep q)) → n ≡ q
    deep_one n q h = cc
stmt_exact ks (suc d) k f l b =
    let inner = stmt_exact ks d (suc k) (f + 1) (omega arith) (omega arith) in
    level_exact inner
  where
    level_exact : Exact ks (f + 1) 1 IsStmt (stmt (suc k)) (Needs ks) (Needs ks) (stmt_at ks d) → Exact ks f 1 IsStmt (stmt k) (Needs ks) (Needs ks) (stmt_at ks (suc d))
    level_exact inner = record {
      complete = λ s n e o p h.
          (let r = stmt_begins ks k n e s [] o (subst (λ z. Spans ks n z e) (sym (nil_right (stmt k s))) p) in
          level_is ks d n (stmt_lead s) r.lead ∙ led_complete ks f k d (omega arith) b (stmt_at ks d) inner s n e o p h);
      sound = λ n y h. led_sound ks f k d (omega arith) b (stmt_at ks d) inner (lead_in (slice_get ks n)) n y refl (sym (level_is ks d n (lead_in (slice_get ks n)) refl) ∙ h);
      moves = λ n y h. led_moves ks f k d (omega arith) b (stmt_at ks d) inner n y
          (led_sound ks f k d (omega arith) b (stmt_at ks d) inner (lead_in (slice_get ks n)) n y refl
          (sym (level_is ks d n (lead_in (slice_get ks n)) refl) ∙ h));
      far = λ n q m h. led_far ks f k d (omega arith) b (stmt_at ks d) inner (lead_in (slice_get ks n)) n q m (sym (level_is ks d n (lead_in (slice_get ks n)) refl) ∙ h);
    }
      where
        nil_right : (xs : List Mark) → xs ++ [] ≡ xs
        nil_right [] = refl
        nil_right (y ∷ xs) = ap (λ z. y ∷ z) (nil_right xs)
