-- Calls are read exactly as they are printed.
use Rattle.std.proofs.Common.{◌≡◌, ℕ, suc, ◌+◌, ◌≤◌, false, List, [], ◌∷◌, ◌++◌, length, Some, None, Ok, Err, refl, sym, ap, subst, ◌∙◌, arith, slice_get, nat_lt, zero-le, length-append}
use Rattle.c_tree.specs.declared.lexer.tokens.Kind.{Kind}
use Rattle.c_tree.specs.declared.lexer.tokens.Kind.TheVariants as kind
use Rattle.c_tree.specs.declared.lexer.tokens.Sign.TheVariants as sg
use Rattle.c_tree.specs.declared.lexer.tokens.Word.TheVariants as wd
use Rattle.c_tree.specs.Tree.{ExprTree, OpCallTree, CallInit, DeclSet, DeclMap, DeclDat, DeclConst, ParLoop, Printf, PrintDat}
use Rattle.c_tree.specs.Print.{Mark, sign_at as sign_mark, expr, values, call}
use Rattle.c_tree.specs.Grouped.{IsGrouped, AllGrouped, IsCall}
use Rattle.c_tree.specs.Reads.{first_deep}
use Rattle.c_reader.specs.declared.faults.Fault.TheVariants.{TooDeep}
use Rattle.c_reader.specs.declared.leads.CallLead.{CallLead}
use Rattle.c_reader.specs.declared.leads.CallLead.TheVariants as lead
use Rattle.c_reader.specs.declared.leads.HostLead.TheVariants as host_lead
use Rattle.c_reader.specs.Hosts.{lead_in}
use Rattle.c_reader.specs.Descent.{read}
use Rattle.c_reader.specs.Rows.{Reader, both}
use Rattle.c_reader.specs.Calls.{init_row, decl_set_row, decl_map_row, decl_dat_row, decl_const_row, par_loop_row, values_at, printf_row, print_dat_row, call_at}
use Rattle.c_reader.proofs.Spans.{Spans, spans_end, after}
use Rattle.c_reader.proofs.Complete.{right_paren, comma, level_fits}
use Rattle.c_reader.proofs.Exactness.{Exact, Any, Free, ClosedAt, both_exact, turned_exact, flat, sign_exact, word_exact, marked_exact, ident_exact, number_exact, text_exact, expr_exact}
use Rattle.c_reader.proofs.Lists.{AllValid, tails, ParenAt, tails_complete, tails_sound, tails_far}
use Rattle.c_reader.proofs.Marks.{global_exact, made_complete, made_far}
use Rattle.c_reader.proofs.Items.{args_exact, image_sound, paren_within}

-- tokens alone before something else
pub then_exact : (ks : List Kind) {A B : Type 0} {from from' size more : ℕ} {marksA : A → List Mark} {okB : B → Type 0}
    {marksB : B → List Mark} {needsB givesB : B → ℕ → Type 0} {p : Reader A} {q : Reader B} → from' ≤ from + size
    → Exact ks from size Any marksA Free Free p → Exact ks from' more okB marksB needsB givesB q
    → Exact ks from (size + more) (λ v. okB v.1) (λ v. marksA v.0 ++ marksB v.1) (λ v e. needsB v.1 e) (λ v e. givesB v.1 e) (both p q)
then_exact ks {from = from} {size = size} l x y =
    turned_exact ks from (omega arith) (λ v o. (tt, o)) (λ v o. o.1) (λ v e h. h) (λ v e h. h)
    (both_exact ks from size _ _ _ _ _ _ _ _ _ _ _ x (turned_exact ks (from + size) l (λ v o. o) (λ v o. o) (λ v e h. h) (λ v e h. h) y)
    (λ a b j e o s. tt))

-- something that needs what follows it, before tokens alone
pub needy_then : (ks : List Kind) {A B : Type 0} {from from' size more : ℕ} {okA : A → Type 0} {marksA : A → List Mark}
    {needsA : A → ℕ → Type 0} {marksB : B → List Mark} {p : Reader A} {q : Reader B} → from' ≤ from
    → Exact ks from size okA marksA needsA Free p → Exact ks from' more Any marksB Free Free q
    → ((a : A) (b : B) (j e : ℕ) → Spans ks j (marksB b) e → needsA a j)
    → Exact ks from (size + more) (λ v. okA v.0) (λ v. marksA v.0 ++ marksB v.1) Free Free (both p q)
needy_then ks {from = from} {size = size} l x y follow =
    turned_exact ks from (omega arith) (λ v o. (o, tt)) (λ v o. o.0) (λ v e h. tt) (λ v e h. tt)
    (both_exact ks from size _ _ _ _ _ _ _ _ _ _ _ x
    (turned_exact ks (from + size) (omega arith) (λ v o. o) (λ v o. o) (λ v e h. h) (λ v e h. h) y) (λ a b j e o s. follow a b j e s))

values_are : (k : ℕ) (es : List ExprTree) → values k es ≡ tails k (expr (suc k)) es
values_are k [] = refl
values_are k (x ∷ xs) = ap (λ z. sign_mark k sg.Comma ∷ (expr (suc k) x ++ z)) (values_are k xs)

values_long : (k : ℕ) (es : List ExprTree) → length es ≤ length (tails k (expr (suc k)) es)
values_long k [] = zero-le
values_long k (x ∷ xs) =
    omega (arith, values_long k xs, length-append (expr (suc k) x) (tails k (expr (suc k)) xs))

grouped_valid : (es : List ExprTree) → AllGrouped es → AllValid IsGrouped es
grouped_valid [] h = tt
grouped_valid (e ∷ es) h = (h.0, grouped_valid es h.1)

valid_grouped : (es : List ExprTree) → AllValid IsGrouped es → AllGrouped es
valid_grouped [] h = tt
valid_grouped (e ∷ es) h = (h.0, valid_grouped es h.1)

-- the values of a printed line, before `)`
values_exact : (ks : List Kind) (from k d : ℕ) → suc k + d ≡ 65 → k ≤ from → Exact ks from 0 AllGrouped (values k) (λ es e. ParenAt ks e) Free (values_at ks d)
values_exact ks from k d l f =
    let fits = level_fits k d (omega arith) in
    let one = expr_exact ks from k d l f in
    let by_comma : (a : ExprTree) (n : ℕ) → slice_get ks n ≡ Some (kind.Sign sg.Comma) → ClosedAt ks n = λ a n h. (sg.Comma, comma, h) in
    let by_paren : (a : ExprTree) (n : ℕ) → ParenAt ks n → ClosedAt ks n = λ a n h. (sg.RightParen, right_paren, h) in
    record {
      complete = λ es n e o s h.
          (let s' = subst (λ z. Spans ks n z e) (values_are k es) s in
          tails_complete ks from 1 k IsGrouped (expr (suc k)) (λ a j. ClosedAt ks j) Free (read ks d 0) one fits by_comma by_paren es
          (length ks) n e (omega (arith, spans_end ks n (tails k (expr (suc k)) es) e s', values_long k es, paren_within ks e h))
          (grouped_valid es o) s' h ∙ ap (λ z. after (first_deep n z) (Ok (es, e))) (sym (values_are k es)));
      sound = λ n y h.
          (let r = tails_sound ks from 1 k IsGrouped (expr (suc k)) (λ a j. ClosedAt ks j) Free (read ks d 0) one fits by_comma by_paren (length ks) n y h in
          record {
            valid = valid_grouped y.0 r.0;
            spans = subst (λ z. Spans ks n z y.1) (sym (values_are k y.0)) r.1.0;
            shallow = ap (first_deep n) (values_are k y.0) ∙ r.1.1;
            behind = tt;
          });
      moves = λ n y h.
          (let r = tails_sound ks from 1 k IsGrouped (expr (suc k)) (λ a j. ClosedAt ks j) Free (read ks d 0) one fits by_comma by_paren (length ks) n y h in
          omega (arith, spans_end ks n (tails k (expr (suc k)) y.0) y.1 r.1.0));
      far = λ n q m h.
          tails_far ks from 1 k IsGrouped (expr (suc k)) (λ a j. ClosedAt ks j) Free (read ks d 0) one fits by_comma by_paren (length ks) n q m h;
    }

-- what begins a call
abbrev pub call_lead : OpCallTree → CallLead
call_lead (CallInit at x) = lead.Init
call_lead (DeclSet at x v t) = lead.DeclSet
call_lead (DeclMap at x a b m v t) = lead.DeclMap
call_lead (DeclDat at x a m u v t) = lead.DeclDat
call_lead (DeclConst at m t g) = lead.DeclConst
call_lead (ParLoop at x t a xs) = lead.ParLoop
call_lead (Printf at t es) = lead.Printf
call_lead (PrintDat at x t) = lead.PrintDat

pub call_begins : (ks : List Kind) (k : ℕ) (c : OpCallTree) (n e : ℕ) (more : List Mark) → Spans ks n (call k c ++ more) e → lead_in (slice_get ks n) ≡ host_lead.Call (call_lead c)
call_begins ks k (CallInit at x) n e more s = rw s.0 refl
call_begins ks k (DeclSet at x v t) n e more s = rw s.0 refl
call_begins ks k (DeclMap at x a b m v t) n e more s = rw s.0 refl
call_begins ks k (DeclDat at x a m u v t) n e more s = rw s.0 refl
call_begins ks k (DeclConst at m t g) n e more s = rw s.0 refl
call_begins ks k (ParLoop at x t a xs) n e more s = rw s.0 refl
call_begins ks k (Printf at t es) n e more s = rw s.0 refl
call_begins ks k (PrintDat at x t) n e more s = rw s.0 refl

-- A call that stands at level k, with d levels left below it and at least f tokens before it.
module _ (ks : List Kind) (f k d : ℕ) (room : suc k + d ≡ 65) (before : k ≤ f + 1) where
  fits : nat_lt 64 k ≡ false
  fits = level_fits k d (omega arith)

  init_exact : Exact ks f 9 Any (λ v. call k (CallInit v.0 v.1.1.1.1.1.1.0)) Free Free (init_row ks)
  init_exact =
      flat ks (marked_exact ks f k wd.OpInit fits)
      (flat ks (sign_exact ks f k sg.LeftParen fits)
      (flat ks (word_exact ks f k wd.Argc fits)
      (flat ks (sign_exact ks f k sg.Comma fits)
      (flat ks (word_exact ks f k wd.Argv fits)
      (flat ks (sign_exact ks f k sg.Comma fits)
      (flat ks (number_exact ks f k fits) (flat ks (sign_exact ks f k sg.RightParen fits) (sign_exact ks f k sg.Semicolon fits))))))))

  decl_set_exact : Exact ks f 10 (λ v. IsGrouped v.1.1.1.1.1.0) (λ v. call k (DeclSet v.1.1.1.0 v.1.0 v.1.1.1.1.1.0 v.1.1.1.1.1.1.1.0)) Free Free (decl_set_row ks d)
  decl_set_exact =
      then_exact ks {from' = f + 1} (omega arith) (word_exact ks f k wd.OpSet fits)
      (then_exact ks {from' = f + 1} (omega arith) (ident_exact ks (f + 1) k fits)
      (then_exact ks {from' = f + 1} (omega arith) (sign_exact ks (f + 1) k sg.Assign fits)
      (then_exact ks {from' = f + 1} (omega arith) (marked_exact ks (f + 1) k wd.OpDeclSet fits)
      (then_exact ks {from' = f + 1} (omega arith) (sign_exact ks (f + 1) k sg.LeftParen fits)
      (needy_then ks (omega arith) (expr_exact ks (f + 1) k d room before)
      (flat ks (sign_exact ks (f + 1) k sg.Comma fits)
      (flat ks (text_exact ks (f + 1) k fits)
      (flat ks (sign_exact ks (f + 1) k sg.RightParen fits) (sign_exact ks (f + 1) k sg.Semicolon fits))))
      (λ a b j e s. (sg.Comma, comma, s.0)))))))

  decl_map_exact : Exact ks f 16 Any
      (λ v. call k (DeclMap v.1.1.1.0 v.1.0 v.1.1.1.1.1.0 v.1.1.1.1.1.1.1.0 v.1.1.1.1.1.1.1.1.1.0 v.1.1.1.1.1.1.1.1.1.1.1.0
      v.1.1.1.1.1.1.1.1.1.1.1.1.1.0)) Free Free (decl_map_row ks)
  decl_map_exact =
      flat ks (word_exact ks f k wd.OpMap fits)
      (flat ks (ident_exact ks f k fits)
      (flat ks (sign_exact ks f k sg.Assign fits)
      (flat ks (marked_exact ks f k wd.OpDeclMap fits)
      (flat ks (sign_exact ks f k sg.LeftParen fits)
      (flat ks (ident_exact ks f k fits)
      (flat ks (sign_exact ks f k sg.Comma fits)
      (flat ks (ident_exact ks f k fits)
      (flat ks (sign_exact ks f k sg.Comma fits)
      (flat ks (number_exact ks f k fits)
      (flat ks (sign_exact ks f k sg.Comma fits)
      (flat ks (ident_exact ks f k fits)
      (flat ks (sign_exact ks f k sg.Comma fits)
      (flat ks (text_exact ks f k fits)
      (flat ks (sign_exact ks f k sg.RightParen fits) (sign_exact ks f k sg.Semicolon fits)))))))))))))))

  decl_dat_exact : Exact ks f 16 Any
      (λ v. call k (DeclDat v.1.1.1.0 v.1.0 v.1.1.1.1.1.0 v.1.1.1.1.1.1.1.0 v.1.1.1.1.1.1.1.1.1.0 v.1.1.1.1.1.1.1.1.1.1.1.0
      v.1.1.1.1.1.1.1.1.1.1.1.1.1.0)) Free Free (decl_dat_row ks)
  decl_dat_exact =
      flat ks (word_exact ks f k wd.OpDat fits)
      (flat ks (ident_exact ks f k fits)
      (flat ks (sign_exact ks f k sg.Assign fits)
      (flat ks (marked_exact ks f k wd.OpDeclDat fits)
      (flat ks (sign_exact ks f k sg.LeftParen fits)
      (flat ks (ident_exact ks f k fits)
      (flat ks (sign_exact ks f k sg.Comma fits)
      (flat ks (number_exact ks f k fits)
      (flat ks (sign_exact ks f k sg.Comma fits)
      (flat ks (text_exact ks f k fits)
      (flat ks (sign_exact ks f k sg.Comma fits)
      (flat ks (ident_exact ks f k fits)
      (flat ks (sign_exact ks f k sg.Comma fits)
      (flat ks (text_exact ks f k fits)
      (flat ks (sign_exact ks f k sg.RightParen fits) (sign_exact ks f k sg.Semicolon fits)))))))))))))))

  decl_const_exact : Exact ks f 9 Any (λ v. call k (DeclConst v.0 v.1.1.0 v.1.1.1.1.0 v.1.1.1.1.1.1.0)) Free Free (decl_const_row ks)
  decl_const_exact =
      flat ks (marked_exact ks f k wd.OpDeclConst fits)
      (flat ks (sign_exact ks f k sg.LeftParen fits)
      (flat ks (number_exact ks f k fits)
      (flat ks (sign_exact ks f k sg.Comma fits)
      (flat ks (text_exact ks f k fits)
      (flat ks (sign_exact ks f k sg.Comma fits)
      (flat ks (global_exact ks f k fits) (flat ks (sign_exact ks f k sg.RightParen fits) (sign_exact ks f k sg.Semicolon fits))))))))

  par_loop_exact : Exact ks f 9 Any (λ v. call k (ParLoop v.0 v.1.1.0 v.1.1.1.1.0 v.1.1.1.1.1.1.0 v.1.1.1.1.1.1.1.0)) Free Free (par_loop_row ks)
  par_loop_exact =
      flat ks (marked_exact ks f k wd.OpParLoop fits)
      (flat ks (sign_exact ks f k sg.LeftParen fits)
      (flat ks (ident_exact ks f k fits)
      (flat ks (sign_exact ks f k sg.Comma fits)
      (flat ks (text_exact ks f k fits)
      (flat ks (sign_exact ks f k sg.Comma fits)
      (flat ks (ident_exact ks f k fits)
      (needy_then ks (omega arith) (args_exact ks f k fits)
      (flat ks (sign_exact ks f k sg.RightParen fits) (sign_exact ks f k sg.Semicolon fits)) (λ a b j e s. s.0))))))))

  printf_exact : Exact ks f 5 (λ v. AllGrouped v.1.1.1.0) (λ v. call k (Printf v.0 v.1.1.0 v.1.1.1.0)) Free Free (printf_row ks d)
  printf_exact =
      then_exact ks {from' = f + 1} (omega arith) (marked_exact ks f k wd.OpPrintf fits)
      (then_exact ks {from' = f + 1} (omega arith) (sign_exact ks (f + 1) k sg.LeftParen fits)
      (then_exact ks {from' = f + 1} (omega arith) (text_exact ks (f + 1) k fits)
      (needy_then ks (omega arith) (values_exact ks (f + 1) k d room before)
      (flat ks (sign_exact ks (f + 1) k sg.RightParen fits) (sign_exact ks (f + 1) k sg.Semicolon fits)) (λ a b j e s. s.0))))

  print_dat_exact : Exact ks f 7 Any (λ v. call k (PrintDat v.0 v.1.1.0 v.1.1.1.1.0)) Free Free (print_dat_row ks)
  print_dat_exact =
      flat ks (marked_exact ks f k wd.OpPrintDatToTxtfile fits)
      (flat ks (sign_exact ks f k sg.LeftParen fits)
      (flat ks (ident_exact ks f k fits)
      (flat ks (sign_exact ks f k sg.Comma fits)
      (flat ks (text_exact ks f k fits) (flat ks (sign_exact ks f k sg.RightParen fits) (sign_exact ks f k sg.Semicolon fits))))))

  pub call_complete : (c : OpCallTree) (n e : ℕ) → IsCall c → Spans ks n (call k c) e → call_at ks d (call_lead c) n ≡ after (first_deep n (call k c)) (Ok (c, e))
  call_complete (CallInit at x) n e o s =
      made_complete _ (init_row ks) n e (at, (tt, (tt, (tt, (tt, (tt, (x, (tt, tt)))))))) _ (init_exact.complete (at, (tt, (tt, (tt, (tt, (tt, (x, (tt, tt)))))))) n e tt s tt)
  call_complete (DeclSet at x v t) n e o s =
      made_complete _ (decl_set_row ks d) n e (tt, (x, (tt, (at, (tt, (v, (tt, (t, (tt, tt))))))))) _ (decl_set_exact.complete (tt, (x, (tt, (at, (tt, (v, (tt, (t, (tt, tt))))))))) n e o s tt)
  call_complete (DeclMap at x a b m v t) n e o s =
      made_complete _ (decl_map_row ks) n e (tt, (x, (tt, (at, (tt, (a, (tt, (b, (tt, (m, (tt, (v, (tt, (t, (tt, tt))))))))))))))) _
      (decl_map_exact.complete (tt, (x, (tt, (at, (tt, (a, (tt, (b, (tt, (m, (tt, (v, (tt, (t, (tt, tt))))))))))))))) n e tt s tt)
  call_complete (DeclDat at x a m u v t) n e o s =
      made_complete _ (decl_dat_row ks) n e (tt, (x, (tt, (at, (tt, (a, (tt, (m, (tt, (u, (tt, (v, (tt, (t, (tt, tt))))))))))))))) _
      (decl_dat_exact.complete (tt, (x, (tt, (at, (tt, (a, (tt, (m, (tt, (u, (tt, (v, (tt, (t, (tt, tt))))))))))))))) n e tt s tt)
  call_complete (DeclConst at m t g) n e o s =
      made_complete _ (decl_const_row ks) n e (at, (tt, (m, (tt, (t, (tt, (g, (tt, tt)))))))) _ (decl_const_exact.complete (at, (tt, (m, (tt, (t, (tt, (g, (tt, tt)))))))) n e tt s tt)
  call_complete (ParLoop at x t a xs) n e o s =
      made_complete _ (par_loop_row ks) n e (at, (tt, (x, (tt, (t, (tt, (a, (xs, (tt, tt))))))))) _ (par_loop_exact.complete (at, (tt, (x, (tt, (t, (tt, (a, (xs, (tt, tt))))))))) n e tt s tt)
  call_complete (Printf at t es) n e o s =
      made_complete _ (printf_row ks d) n e (at, (tt, (t, (es, (tt, tt))))) _ (printf_exact.complete (at, (tt, (t, (es, (tt, tt))))) n e o s tt)
  call_complete (PrintDat at x t) n e o s =
      made_complete _ (print_dat_row ks) n e (at, (tt, (x, (tt, (t, (tt, tt)))))) _ (print_dat_exact.complete (at, (tt, (x, (tt, (t, (tt, tt)))))) n e tt s tt)

  pub call_sound : (l : CallLead) (n : ℕ) (y : OpCallTree × ℕ) → call_at ks d l n ≡ Ok y → IsCall y.0 × (Spans ks n (call k y.0) y.1 × (first_deep n (call k y.0) ≡ None))
  call_sound lead.Init n y h = let r = image_sound ks (call k) _ init_exact n y h in (subst IsCall r.1 tt, r.2.1)
  call_sound lead.DeclSet n y h = let r = image_sound ks (call k) _ decl_set_exact n y h in (subst IsCall r.1 r.2.0, r.2.1)
  call_sound lead.DeclMap n y h = let r = image_sound ks (call k) _ decl_map_exact n y h in (subst IsCall r.1 tt, r.2.1)
  call_sound lead.DeclDat n y h = let r = image_sound ks (call k) _ decl_dat_exact n y h in (subst IsCall r.1 tt, r.2.1)
  call_sound lead.DeclConst n y h = let r = image_sound ks (call k) _ decl_const_exact n y h in (subst IsCall r.1 tt, r.2.1)
  call_sound lead.ParLoop n y h = let r = image_sound ks (call k) _ par_loop_exact n y h in (subst IsCall r.1 tt, r.2.1)
  call_sound lead.Printf n y h = let r = image_sound ks (call k) _ printf_exact n y h in (subst IsCall r.1 r.2.0, r.2.1)
  call_sound lead.PrintDat n y h = let r = image_sound ks (call k) _ print_dat_exact n y h in (subst IsCall r.1 tt, r.2.1)

  pub call_far : (l : CallLead) (n q : ℕ) → f ≤ n → call_at ks d l n ≡ Err (TooDeep q) → 64 ≤ q
  call_far lead.Init n q m h = made_far ks _ init_exact n q m h
  call_far lead.DeclSet n q m h = made_far ks _ decl_set_exact n q m h
  call_far lead.DeclMap n q m h = made_far ks _ decl_map_exact n q m h
  call_far lead.DeclDat n q m h = made_far ks _ decl_dat_exact n q m h
  call_far lead.DeclConst n q m h = made_far ks _ decl_const_exact n q m h
  call_far lead.ParLoop n q m h = made_far ks _ par_loop_exact n q m h
  call_far lead.Printf n q m h = made_far ks _ printf_exact n q m h
  call_far lead.PrintDat n q m h = made_far ks _ print_dat_exact n q m h
