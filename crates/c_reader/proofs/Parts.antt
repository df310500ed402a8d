-- The parts of the file are read exactly as they are printed.
use Rattle.std.proofs.Common.{◌≡◌, ◌≢◌, ℕ, ◌≤◌, Bool, true, false, List, [], ◌∷◌, ◌++◌, length, Option, Some, None, Ok, Err, refl, sym, ap, subst, ◌∙◌, arith, slice_get, append_assoc, length-append, zero-le}
use Rattle.c_tree.specs.declared.lexer.tokens.Kind.{Kind}
use Rattle.c_tree.specs.declared.lexer.tokens.Kind.TheVariants as kind
use Rattle.c_tree.specs.declared.lexer.tokens.Sign.TheVariants as sg
use Rattle.c_tree.specs.declared.lexer.tokens.Word.TheVariants as wd
use Rattle.c_tree.specs.declared.expressions.Ident.{Ident}
use Rattle.c_tree.specs.declared.kernels.Param.{Param}
use Rattle.c_tree.specs.Tree.{DeclrTree, Plain, Init, Array, DeclarationTree, StmtTree, StmtTrees, KernelTree, TopTree, Extern, ExternArray, FileDeclaration, Kernel}
use Rattle.c_tree.specs.Print.{Mark, sign_at as sign_mark, word_at as word_mark, word_if, ident as ident_mark, commas, declrs, vars, stmts, params, kernel, top, tops}
use Rattle.c_tree.specs.Grouped.{AreStmts, IsKernel, IsTop}
use Rattle.c_tree.specs.Reads.{first_deep}
use Rattle.c_reader.specs.declared.faults.Fault.TheVariants.{TooDeep}
use Rattle.c_reader.specs.declared.leads.TopLead.{TopLead}
use Rattle.c_reader.specs.declared.leads.TopLead.TheVariants as lead
use Rattle.c_reader.specs.Rows.{both, word_is, sign}
use Rattle.c_reader.specs.Declarations.{declaration_at}
use Rattle.c_reader.specs.Statements.{stmt_at, stmts_in, stmt_trees}
use Rattle.c_reader.specs.Whole.{skipped, params_at, kernel_row, kernel_behind, kernel_after, kernel_at, lead_in, top_led, top_at, begins_main}
use Rattle.c_reader.proofs.Spans.{Spans, spans_end, spans_split, spans_join, deep_split, after}
use Rattle.c_reader.proofs.Sound.{bind_ok, ok_one}
use Rattle.c_reader.proofs.Far.{far_bind}
use Rattle.c_reader.proofs.Exactness.{Exact, Found, Free, both_exact, sign_exact, word_exact, ident_exact}
use Rattle.c_reader.proofs.CallRows.{then_exact, needy_then}
use Rattle.c_reader.proofs.Declared.{tail_of, declaration_complete, declaration_sound, declaration_far}
use Rattle.c_reader.proofs.StmtLists.{list_of, trees_list}
use Rattle.c_reader.proofs.Stmts.{stmt_exact, block_complete, block_sound, block_far}
use Rattle.c_reader.proofs.TopRows.{extern_complete, extern_array_complete, extern_sound, extern_far, skip_is, skip_spans, word_if_deep, params_row, params_exact}

list_trees : (xs : List StmtTree) → list_of (stmt_trees xs) ≡ xs
list_trees [] = refl
list_trees (x ∷ xs) = ap (λ z. x ∷ z) (list_trees xs)

-- the statements of a kernel's body
body_exact : (ks : List Kind) → Exact ks 1 0 (λ xs. AreStmts (stmt_trees xs)) (λ xs. stmts 1 (stmt_trees xs))
    (λ xs e. slice_get ks e ≡ Some (kind.Sign sg.RightBrace)) Free (stmts_in ks (stmt_at ks 64))
body_exact ks = record {
  complete = λ xs n e o s h.
      block_complete ks 0 0 64 refl zero-le (stmt_at ks 64) (stmt_exact ks 64 1 1 refl (omega arith)) (stmt_trees xs) n e o s h
      ∙ ap (λ (z : List StmtTree). after (first_deep n (stmts 1 (stmt_trees xs))) (Ok (z, e))) (list_trees xs);
  sound = λ n y h.
      (let r = block_sound ks 0 0 64 refl zero-le (stmt_at ks 64) (stmt_exact ks 64 1 1 refl (omega arith)) n y h in
      record { valid = r.0; spans = r.1.0; shallow = r.1.1; behind = tt });
  moves = λ n y h.
      (let r = block_sound ks 0 0 64 refl zero-le (stmt_at ks 64) (stmt_exact ks 64 1 1 refl (omega arith)) n y h in
      omega (arith, spans_end ks n (stmts 1 (stmt_trees y.0)) y.1 r.1.0));
  far = λ n q l h.
      block_far ks 0 0 64 refl zero-le (stmt_at ks 64) (stmt_exact ks 64 1 1 refl (omega arith)) n q l h;
}

-- a kernel from its `void` on
abbrev row_marks : Ident → List Param → StmtTrees → List Mark
row_marks x ps ss = word_mark 0 wd.Void ∷ ident_mark 0 x ∷ sign_mark 0 sg.LeftParen ∷ (params_row ps ++ (sign_mark 0 sg.LeftBrace ∷ (stmts 1 ss ++ sign_mark 0 sg.RightBrace ∷ [])))

braced_exact : (ks : List Kind) → Exact ks 0 2 (λ v. AreStmts (stmt_trees v.1.0))
    (λ v. sign_mark 0 sg.LeftBrace ∷ (stmts 1 (stmt_trees v.1.0) ++ sign_mark 0 sg.RightBrace ∷ [])) Free Free
    (both (sign ks sg.LeftBrace) (both (stmts_in ks (stmt_at ks 64)) (sign ks sg.RightBrace)))
braced_exact ks =
    then_exact ks (omega arith) (sign_exact ks 0 0 sg.LeftBrace refl) (needy_then ks (omega arith) (body_exact ks) (sign_exact ks 0 0 sg.RightBrace refl) (λ a b j e s. s.0))

row_exact : (ks : List Kind) → Exact ks 0 5 (λ v. (v.1.1.1.0 ≢ []) × AreStmts (stmt_trees v.1.1.1.1.1.0)) (λ v. row_marks v.1.0 v.1.1.1.0 (stmt_trees v.1.1.1.1.1.0)) Free Free (kernel_row ks)
row_exact ks =
    then_exact ks (omega arith) (word_exact ks 0 0 wd.Void refl)
    (then_exact ks (omega arith) (ident_exact ks 0 0 refl)
    (then_exact ks (omega arith) (sign_exact ks 0 0 sg.LeftParen refl)
    (both_exact ks 0 0 2 (λ ps. ps ≢ []) (λ v. AreStmts (stmt_trees v.1.0)) params_row
    (λ v. sign_mark 0 sg.LeftBrace ∷ (stmts 1 (stmt_trees v.1.0) ++ sign_mark 0 sg.RightBrace ∷ [])) Free Free Free Free (params_at ks)
    (both (sign ks sg.LeftBrace) (both (stmts_in ks (stmt_at ks 64)) (sign ks sg.RightBrace))) (params_exact ks) (braced_exact ks)
    (λ a b j e o s. tt))))

-- a kernel as its words and its row
abbrev parts_of : Bool → Bool → Ident → List Param → StmtTrees → List Mark
parts_of t i x ps ss = word_if t 0 wd.Static ++ (word_if i 0 wd.Inline ++ row_marks x ps ss)

kernel_parts : (f : KernelTree) → kernel f ≡ parts_of f.is_static f.is_inline f.name f.params f.body
kernel_parts f =
    ap (λ z. word_if f.is_static 0 wd.Static ++
    (word_if f.is_inline 0 wd.Inline ++ word_mark 0 wd.Void ∷ ident_mark 0 f.name ∷ sign_mark 0 sg.LeftParen ∷ z))
    (sym (append_assoc (commas 0 (params f.params)) (sign_mark 0 sg.RightParen ∷ [])
    (sign_mark 0 sg.LeftBrace ∷ (stmts 1 f.body ++ sign_mark 0 sg.RightBrace ∷ []))))

parts_deep : (ks : List Kind) (t i : Bool) (n j m : ℕ) (row : List Mark) → Spans ks n (word_if t 0 wd.Static) j
    → Spans ks j (word_if i 0 wd.Inline) m → first_deep n (word_if t 0 wd.Static ++ (word_if i 0 wd.Inline ++ row)) ≡ first_deep m row
parts_deep ks t i n j m row a b =
    deep_split ks n (word_if t 0 wd.Static) (word_if i 0 wd.Inline ++ row) j a
    ∙ rw (word_if_deep t n wd.Static) (deep_split ks j (word_if i 0 wd.Inline) row m b ∙ rw (word_if_deep i j wd.Inline) refl)

kernel_is : (ks : List Kind) (n j m e : ℕ) (t i : Bool) (x : Ident) (ps : List Param) (ss : List StmtTree) (o : Option ℕ)
    → skipped ks wd.Static n ≡ (t, j) → skipped ks wd.Inline j ≡ (i, m)
    → kernel_row ks m ≡ after o (Ok ((tt, (x, (tt, (ps, (tt, (ss, tt)))))), e))
    → kernel_at ks n ≡ after o (Ok (record { is_static = t; is_inline = i; name = x; params = ps; body = stmt_trees ss }, e))
unfolding kernel_at
kernel_is ks n j m e t i x ps ss None a b r = ap (kernel_after ks) a ∙ ap (kernel_behind ks t) b ∙ rw r refl
kernel_is ks n j m e t i x ps ss (Some p) a b r = ap (kernel_after ks) a ∙ ap (kernel_behind ks t) b ∙ rw r refl

kernel_complete : (ks : List Kind) (f : KernelTree) (n e : ℕ) → IsKernel f → Spans ks n (kernel f) e → kernel_at ks n ≡ after (first_deep n (kernel f)) (Ok (f, e))
kernel_complete ks f n e o s =
    let row = row_marks f.name f.params f.body in
    let s' = subst (λ z. Spans ks n z e) (kernel_parts f) s in
    let a = spans_split ks n (word_if f.is_static 0 wd.Static) (word_if f.is_inline 0 wd.Inline ++ row) e s' in
    let b = spans_split ks a.0 (word_if f.is_inline 0 wd.Inline) row e a.2 in
    let ss = list_of f.body in
    let same : stmt_trees ss ≡ f.body = trees_list f.body in
    let rowed : Spans ks b.0 (row_marks f.name f.params (stmt_trees ss)) e = subst (λ z. Spans ks b.0 (row_marks f.name f.params z) e) (sym same) b.2 in
    let valid : AreStmts (stmt_trees ss) = subst AreStmts (sym same) o.1 in
    let r = (row_exact ks).complete (tt, (f.name, (tt, (f.params, (tt, (ss, tt)))))) b.0 e (o.0, valid) rowed tt in
    kernel_is ks n a.0 b.0 e f.is_static f.is_inline f.name f.params ss (first_deep b.0 (row_marks f.name f.params (stmt_trees ss)))
    (skip_is ks wd.Static f.is_static n a.0 [] e a.1 (λ i. not_static f.is_inline i a.0 a.1 a.2))
    (skip_is ks wd.Inline f.is_inline a.0 b.0 [] e b.1 (λ i. not_inline i a.0 b.0 b.1 b.2)) r
    ∙ ap (λ (z : StmtTrees). after (first_deep b.0 (row_marks f.name f.params z))
    (Ok (record { is_static = f.is_static; is_inline = f.is_inline; name = f.name; params = f.params; body = z }, e))) same
    ∙ ap (λ z. after z (Ok (f, e)))
    (sym (ap (first_deep n) (kernel_parts f) ∙ parts_deep ks f.is_static f.is_inline n a.0 b.0 row a.1 b.1))
  where
    not_static : (i : Bool) → f.is_static ≡ false → (j : ℕ) → Spans ks n (word_if f.is_static 0 wd.Static) j
        → Spans ks j (word_if i 0 wd.Inline ++ row_marks f.name f.params f.body) e → word_is wd.Static (slice_get ks n) ≡ false
    not_static true t j a b =
        let same : n ≡ j = subst (λ z. Spans ks n (word_if z 0 wd.Static) j) t a in
        rw (ap (slice_get ks) same ∙ b.0) refl
    not_static false t j a b =
        let same : n ≡ j = subst (λ z. Spans ks n (word_if z 0 wd.Static) j) t a in
        rw (ap (slice_get ks) same ∙ b.0) refl

    not_inline : f.is_inline ≡ false → (j m : ℕ) → Spans ks j (word_if f.is_inline 0 wd.Inline) m → Spans ks m (row_marks f.name f.params f.body) e → word_is wd.Inline (slice_get ks j) ≡ false
    not_inline t j m a b =
        let same : j ≡ m = subst (λ z. Spans ks j (word_if z 0 wd.Inline) m) t a in
        rw (ap (slice_get ks) same ∙ b.0) refl

kernel_sound : (ks : List Kind) (n : ℕ) (y : KernelTree × ℕ) → kernel_at ks n ≡ Ok y → Found ks IsKernel kernel Free n y.0 y.1
unfolding kernel_at
kernel_sound ks n y h =
    let t = skipped ks wd.Static n in
    let i = skipped ks wd.Inline t.1 in
    let v = bind_ok (kernel_row ks i.1) _ y h in
    let r = (row_exact ks).sound i.1 v.0 v.1 in
    let tree : KernelTree = record { is_static = t.0; is_inline = i.0; name = v.0.0.1.0; params = v.0.0.1.1.1.0; body = stmt_trees v.0.0.1.1.1.1.1.0 } in
    let row = row_marks tree.name tree.params tree.body in
    let made_ : Found ks IsKernel kernel Free n tree v.0.1 = record {
      valid = r.valid;
      spans = subst (λ z. Spans ks n z v.0.1) (sym (kernel_parts tree))
          (spans_join ks n (word_if t.0 0 wd.Static) (word_if i.0 0 wd.Inline ++ row) t.1 v.0.1 (skip_spans ks wd.Static n)
          (spans_join ks t.1 (word_if i.0 0 wd.Inline) row i.1 v.0.1 (skip_spans ks wd.Inline t.1) r.spans));
      shallow = ap (first_deep n) (kernel_parts tree) ∙ parts_deep ks t.0 i.0 n t.1 i.1 row (skip_spans ks wd.Static n) (skip_spans ks wd.Inline t.1) ∙ r.shallow;
      behind = tt;
    } in
    subst (λ (w : KernelTree × ℕ). Found ks IsKernel kernel Free n w.0 w.1) (ok_one (tree, v.0.1) y v.2) made_

kernel_far : (ks : List Kind) (n q : ℕ) → kernel_at ks n ≡ Err (TooDeep q) → 64 ≤ q
unfolding kernel_at
kernel_far ks n q h =
    let m = (skipped ks wd.Inline (skipped ks wd.Static n).1).1 in
    far_bind (kernel_row ks m) _ q h ((row_exact ks).far m q zero-le) (λ v r g. cc)

-- a part of the file
abbrev top_lead : TopTree → TopLead
top_lead (Extern x) = lead.Extern
top_lead (ExternArray x) = lead.Extern
top_lead (FileDeclaration v) = lead.Declaration
top_lead (Kernel f) = lead.Kernel

record TopBegins (ks : List Kind) (n : ℕ) (t : TopTree) : Type 0 where
  lead : lead_in (slice_get ks n) ≡ top_lead t
  no_main : begins_main ks n ≡ false

top_begins : (ks : List Kind) (n e : ℕ) (t : TopTree) (more : List Mark) → IsTop t → Spans ks n (top t ++ more) e → TopBegins ks n t
top_begins ks n e (Extern x) more o s = record { lead = rw s.0 refl; no_main = rw s.0 refl }
top_begins ks n e (ExternArray x) more o s = record { lead = rw s.0 refl; no_main = rw s.0 refl }
top_begins ks n e (FileDeclaration v) more o s = by_const v.is_const v.declrs o.0 s
  where
    by_const : (c : Bool) (ds : List DeclrTree) → ds ≢ []
        → Spans ks n ((word_if c 1 wd.Const ++
        (Rattle.c_tree.specs.Print.named_word 1 wd.Int v.at ∷ (commas 1 (declrs 1 ds) ++ sign_mark 1 sg.Semicolon ∷ []))) ++ more) e
        → TopBegins ks n (FileDeclaration v)
    by_const true ds o s = record { lead = rw s.0 refl; no_main = rw s.0 refl }
    by_const false [] o s = absurd (o refl)
    by_const false (Plain x ∷ []) o s = record { lead = rw s.0 refl; no_main = rw (s.0, s.2.0) refl }
    by_const false (Init x i ∷ []) o s = record { lead = rw s.0 refl; no_main = rw (s.0, s.2.0) refl }
    by_const false (Array x i ∷ []) o s = record { lead = rw s.0 refl; no_main = rw (s.0, s.2.0) refl }
    by_const false (Plain x ∷ b ∷ ds) o s = record { lead = rw s.0 refl; no_main = rw (s.0, s.2.0) refl }
    by_const false (Init x i ∷ b ∷ ds) o s = record { lead = rw s.0 refl; no_main = rw (s.0, s.2.0) refl }
    by_const false (Array x i ∷ b ∷ ds) o s = record { lead = rw s.0 refl; no_main = rw (s.0, s.2.0) refl }
top_begins ks n e (Kernel f) more o s = by_words f.is_static f.is_inline s
  where
    by_words : (t i : Bool) → Spans ks n
        ((word_if t 0 wd.Static ++ (word_if i 0 wd.Inline ++
        (word_mark 0 wd.Void ∷ ident_mark 0 f.name ∷ sign_mark 0 sg.LeftParen
        ∷ (commas 0 (params f.params) ++ (sign_mark 0 sg.RightParen ∷ sign_mark 0 sg.LeftBrace
        ∷ (stmts 1 f.body ++ sign_mark 0 sg.RightBrace ∷ [])))))) ++ more) e → TopBegins ks n (Kernel f)
    by_words true i s = record { lead = rw s.0 refl; no_main = rw s.0 refl }
    by_words false true s = record { lead = rw s.0 refl; no_main = rw s.0 refl }
    by_words false false s = record { lead = rw s.0 refl; no_main = rw s.0 refl }

level_is : (ks : List Kind) (n : ℕ) (l : TopLead) → lead_in (slice_get ks n) ≡ l → top_at ks n ≡ top_led ks l n
unfolding top_at
level_is ks n l h = rw h refl

vars_led : (ks : List Kind) (n e : ℕ) (v : DeclarationTree) (o : Option ℕ) → declaration_at ks 63 n ≡ after o (Ok (v, e)) → top_led ks lead.Declaration n ≡ after o (Ok (FileDeclaration v, e))
vars_led ks n e v None h = rw h refl
vars_led ks n e v (Some p) h = rw h refl

kernel_led : (ks : List Kind) (n e : ℕ) (f : KernelTree) (o : Option ℕ) → kernel_at ks n ≡ after o (Ok (f, e)) → top_led ks lead.Kernel n ≡ after o (Ok (Kernel f, e))
kernel_led ks n e f None h = rw h refl
kernel_led ks n e f (Some p) h = rw h refl

top_complete : (ks : List Kind) (t : TopTree) (n e : ℕ) → IsTop t → Spans ks n (top t) e → top_led ks (top_lead t) n ≡ after (first_deep n (top t)) (Ok (t, e))
top_complete ks (Extern x) n e o s = extern_complete ks x n e s
top_complete ks (ExternArray x) n e o s = extern_array_complete ks x n e s
top_complete ks (FileDeclaration v) n e o s =
    vars_led ks n e v (first_deep n (vars 1 v)) (declaration_complete ks 0 1 63 refl (omega arith) v n e o s)
top_complete ks (Kernel f) n e o s = kernel_led ks n e f (first_deep n (kernel f)) (kernel_complete ks f n e o s)

abbrev FoundTop : List Kind → ℕ → TopTree × ℕ → Type 0
FoundTop ks n y = Found ks IsTop top Free n y.0 y.1

top_sound : (ks : List Kind) (l : TopLead) (n : ℕ) (y : TopTree × ℕ) → top_led ks l n ≡ Ok y → FoundTop ks n y
top_sound ks lead.Extern n y h = extern_sound ks n y h
top_sound ks lead.Declaration n y h =
    let v = bind_ok (declaration_at ks 63 n) _ y h in
    let r = (declaration_sound ks 0 1 63 refl (omega arith) n v.0 v.1).0 in
    let made_ : FoundTop ks n (FileDeclaration v.0.0, v.0.1) = record { valid = r.valid; spans = r.spans; shallow = r.shallow; behind = tt } in
    subst (FoundTop ks n) (ok_one (FileDeclaration v.0.0, v.0.1) y v.2) made_
top_sound ks lead.Kernel n y h =
    let v = bind_ok (kernel_at ks n) _ y h in
    let r = kernel_sound ks n v.0 v.1 in
    let made_ : FoundTop ks n (Kernel v.0.0, v.0.1) = record { valid = r.valid; spans = r.spans; shallow = r.shallow; behind = tt } in
    subst (FoundTop ks n) (ok_one (Kernel v.0.0, v.0.1) y v.2) made_
top_sound ks lead.Nothing n y h = cc

top_far : (ks : List Kind) (l : TopLead) (n q : ℕ) → top_led ks l n ≡ Err (TooDeep q) → 64 ≤ q
top_far ks lead.Extern n q h = extern_far ks n q h
top_far ks lead.Declaration n q h =
    far_bind (declaration_at ks 63 n) _ q h (declaration_far ks 0 1 63 refl (omega arith) n q zero-le) (λ v r g. cc)
top_far ks lead.Kernel n q h = far_bind (kernel_at ks n) _ q h (kernel_far ks n q) (λ v r g. cc)
top_far ks lead.Nothing n q h = cc

vars_some : (v : DeclarationTree) → 1 ≤ length (vars 1 v)
vars_some v = omega (arith, length-append (word_if v.is_const 1 wd.Const) (tail_of 1 v))

kernel_some : (f : KernelTree) → 1 ≤ length (kernel f)
kernel_some f = by_words f.is_static f.is_inline
  where
    by_words : (t i : Bool) → 1 ≤ length
        (word_if t 0 wd.Static ++ (word_if i 0 wd.Inline ++
        (word_mark 0 wd.Void ∷ ident_mark 0 f.name ∷ sign_mark 0 sg.LeftParen
        ∷ (commas 0 (params f.params) ++ (sign_mark 0 sg.RightParen ∷ sign_mark 0 sg.LeftBrace
        ∷ (stmts 1 f.body ++ sign_mark 0 sg.RightBrace ∷ []))))))
    by_words true i = omega arith
    by_words false true = omega arith
    by_words false false = omega arith

pub top_some : (t : TopTree) → 1 ≤ length (top t)
top_some (Extern x) = omega arith
top_some (ExternArray x) = omega arith
top_some (FileDeclaration v) = vars_some v
top_some (Kernel f) = kernel_some f

pub top_exact : (ks : List Kind) → Exact ks 0 1 IsTop top Free Free (top_at ks)
top_exact ks = record {
  complete = λ t n e o s h.
      (let r = top_begins ks n e t [] o (subst (λ z. Spans ks n z e) (sym (nil_right (top t))) s) in
      level_is ks n (top_lead t) r.lead ∙ top_complete ks t n e o s);
  sound = λ n y h. found n y h;
  moves = λ n y h. (let r : Spans ks n (top y.0) y.1 = (found n y h).spans in omega (arith, spans_end ks n (top y.0) y.1 r, top_some y.0));
  far = λ n q l h. top_far ks (lead_in (slice_get ks n)) n q (sym (level_is ks n (lead_in (slice_get ks n)) refl) ∙ h);
}
  where
    nil_right : (xs : List Mark) → xs ++ [] ≡ xs
    nil_right [] = refl
    nil_right (y ∷ xs) = ap (λ z. y ∷ z) (nil_right xs)

    found : (n : ℕ) (y : TopTree × ℕ) → top_at ks n ≡ Ok y → FoundTop ks n y
    found n y h = top_sound ks (lead_in (slice_get ks n)) n y (sym (level_is ks n (lead_in (slice_get ks n)) refl) ∙ h)

pub no_main : (ks : List Kind) (t : TopTree) (n e : ℕ) (more : List Mark) → IsTop t → Spans ks n (top t ++ more) e → begins_main ks n ≡ false
no_main ks t n e more o s = (top_begins ks n e t more o s).no_main
