-- The parts of the file, `main` and the whole source are read exactly as they are printed.
use Rattle.std.proofs.Common.{◌≡◌, ◌≢◌, ℕ, suc, ◌≤◌, Bool, true, false, cond, List, [], ◌∷◌, ◌++◌, length, Some, None, Result, Ok, Err, refl, sym, ap, subst, ◌∙◌, arith, slice_get, length-append, zero-le}
use Rattle.c_tree.specs.declared.lexer.tokens.Kind.{Kind}
use Rattle.c_tree.specs.declared.lexer.tokens.Kind.TheVariants as kind
use Rattle.c_tree.specs.declared.lexer.tokens.Sign.TheVariants as sg
use Rattle.c_tree.specs.declared.lexer.tokens.Word.{Word}
use Rattle.c_tree.specs.declared.lexer.tokens.Word.TheVariants as wd
use Rattle.c_tree.specs.declared.expressions.Ident.{Ident}
use Rattle.c_tree.specs.declared.kernels.Param.{Param}
use Rattle.c_tree.specs.Tree.{TopTree, Extern, ExternArray}
use Rattle.c_tree.specs.Print.{Mark, sign_at as sign_mark, word_at as word_mark, word_if, ident as ident_mark, commas, param, params, top}
use Rattle.c_tree.specs.Grouped.{IsTop}
use Rattle.c_tree.specs.Reads.{first_deep}
use Rattle.c_reader.specs.declared.faults.Fault.{Fault}
use Rattle.c_reader.specs.declared.faults.Fault.TheVariants.{TooDeep}
use Rattle.c_reader.specs.Descent.{◌>>=◌, sign_is, sign_at}
use Rattle.c_reader.specs.Rows.{both, word_is, sign}
use Rattle.c_reader.specs.Whole.{extern_front, extern_at, skipped, param_row, param_behind, param_at, params_at}
use Rattle.c_reader.proofs.Spans.{Spans, spans_end, spans_within, spans_split, spans_join, after}
use Rattle.c_reader.proofs.Steps.{sign_at_is, sign_at_ok, sign_found}
use Rattle.c_reader.proofs.Sound.{bind_ok, ok_one}
use Rattle.c_reader.proofs.Far.{far_bind, sign_far}
use Rattle.c_reader.proofs.Exactness.{Exact, Found, Any, Free, word_found, word_here, flat, sign_exact, word_exact, ident_exact}
use Rattle.c_reader.proofs.Items.{all_any}
use Rattle.c_reader.proofs.Separated.{each, row, separated_complete, separated_sound, separated_far}

-- an extern up to its name
extern_front_exact : (ks : List Kind) → Exact ks 0 3 Any (λ v. word_mark 0 wd.Extern ∷ word_mark 0 wd.Int ∷ ident_mark 0 v.1.1 ∷ []) Free Free (extern_front ks)
extern_front_exact ks = flat ks (word_exact ks 0 0 wd.Extern refl) (flat ks (word_exact ks 0 0 wd.Int refl) (ident_exact ks 0 0 refl))

extern_plain : (ks : List Kind) (n j e : ℕ) (x : Ident) → extern_front ks n ≡ Ok ((tt, (tt, x)), j)
    → sign_is sg.LeftBracket (slice_get ks j) ≡ false → sign_at ks sg.Semicolon j ≡ Ok e → extern_at ks n ≡ Ok (Extern x, e)
unfolding extern_at
extern_plain ks n j e x a b c = rw (a, b, c) refl

extern_array : (ks : List Kind) (n j e : ℕ) (x : Ident) → extern_front ks n ≡ Ok ((tt, (tt, x)), j)
    → slice_get ks j ≡ Some (kind.Sign sg.LeftBracket) → both (sign ks sg.RightBracket) (sign ks sg.Semicolon) (suc j) ≡ Ok ((tt, tt), e)
    → extern_at ks n ≡ Ok (ExternArray x, e)
unfolding extern_at
extern_array ks n j e x a b c = rw (a, b, c) refl

brackets_exact : (ks : List Kind) → Exact ks 0 2 Any (λ v. sign_mark 0 sg.RightBracket ∷ sign_mark 0 sg.Semicolon ∷ []) Free Free (both (sign ks sg.RightBracket) (sign ks sg.Semicolon))
brackets_exact ks = flat ks (sign_exact ks 0 0 sg.RightBracket refl) (sign_exact ks 0 0 sg.Semicolon refl)

pub extern_complete : (ks : List Kind) (x : Ident) (n e : ℕ) → Spans ks n (top (Extern x)) e → extern_at ks n ≡ Ok (Extern x, e)
extern_complete ks x n e s =
    let front = word_mark 0 wd.Extern ∷ word_mark 0 wd.Int ∷ ident_mark 0 x ∷ [] in
    let r = spans_split ks n front (sign_mark 0 sg.Semicolon ∷ []) e s in
    extern_plain ks n r.0 e x ((extern_front_exact ks).complete (tt, (tt, x)) n r.0 tt r.1 tt) (rw r.2.0 refl) (sign_at_is ks sg.Semicolon r.0 r.2.0 ∙ ap Ok r.2.2)

pub extern_array_complete : (ks : List Kind) (x : Ident) (n e : ℕ) → Spans ks n (top (ExternArray x)) e → extern_at ks n ≡ Ok (ExternArray x, e)
extern_array_complete ks x n e s =
    let front = word_mark 0 wd.Extern ∷ word_mark 0 wd.Int ∷ ident_mark 0 x ∷ [] in
    let r = spans_split ks n front (sign_mark 0 sg.LeftBracket ∷ sign_mark 0 sg.RightBracket ∷ sign_mark 0 sg.Semicolon ∷ []) e s in
    extern_array ks n r.0 e x ((extern_front_exact ks).complete (tt, (tt, x)) n r.0 tt r.1 tt) r.2.0 ((brackets_exact ks).complete (tt, tt) (suc r.0) e tt r.2.2 tt)

abbrev FoundTop : List Kind → ℕ → TopTree × ℕ → Type 0
FoundTop ks n y = Found ks IsTop top Free n y.0 y.1

pub extern_sound : (ks : List Kind) (n : ℕ) (y : TopTree × ℕ) → extern_at ks n ≡ Ok y → FoundTop ks n y
unfolding extern_at
extern_sound ks n y h =
    let x = bind_ok (extern_front ks n) _ y h in
    by_test x.0 ((extern_front_exact ks).sound n x.0 x.1) (sign_is sg.LeftBracket (slice_get ks x.0.1)) refl x.2
  where
    by_test : (x : (Unit {0} × (Unit {0} × Ident)) × ℕ)
        → Found ks Any (λ v. word_mark 0 wd.Extern ∷ word_mark 0 wd.Int ∷ ident_mark 0 v.1.1 ∷ []) Free n x.0 x.1 → (t : Bool)
        → sign_is sg.LeftBracket (slice_get ks x.1) ≡ t → cond t
        (both (sign ks sg.RightBracket) (sign ks sg.Semicolon) (suc x.1) >>= λ e. Ok (ExternArray x.0.1.1, e.1))
        (sign_at ks sg.Semicolon x.1 >>= λ e. Ok (Extern x.0.1.1, e)) ≡ Ok y → FoundTop ks n y
    by_test x f true t h =
        let e = bind_ok (both (sign ks sg.RightBracket) (sign ks sg.Semicolon) (suc x.1)) _ y h in
        let g = (brackets_exact ks).sound (suc x.1) e.0 e.1 in
        let front = word_mark 0 wd.Extern ∷ word_mark 0 wd.Int ∷ ident_mark 0 x.0.1.1 ∷ [] in
        let made_ : FoundTop ks n (ExternArray x.0.1.1, e.0.1) = record {
          valid = tt;
          spans = spans_join ks n front (sign_mark 0 sg.LeftBracket ∷ sign_mark 0 sg.RightBracket ∷ sign_mark 0 sg.Semicolon ∷ []) x.1 e.0.1
              f.spans (sign_found sg.LeftBracket (slice_get ks x.1) t, tt, g.spans);
          shallow = refl;
          behind = tt;
        } in
        subst (FoundTop ks n) (ok_one (ExternArray x.0.1.1, e.0.1) y e.2) made_
    by_test x f false t h =
        let e = bind_ok (sign_at ks sg.Semicolon x.1) _ y h in
        let g = sign_at_ok ks sg.Semicolon x.1 e.0 e.1 in
        let front = word_mark 0 wd.Extern ∷ word_mark 0 wd.Int ∷ ident_mark 0 x.0.1.1 ∷ [] in
        let made_ : FoundTop ks n (Extern x.0.1.1, e.0) = record {
          valid = tt;
          spans = spans_join ks n front (sign_mark 0 sg.Semicolon ∷ []) x.1 e.0 f.spans (g.0, tt, sym g.1);
          shallow = refl;
          behind = tt;
        } in
        subst (FoundTop ks n) (ok_one (Extern x.0.1.1, e.0) y e.2) made_

pub extern_far : (ks : List Kind) (n q : ℕ) → extern_at ks n ≡ Err (TooDeep q) → 64 ≤ q
unfolding extern_at
extern_far ks n q h =
    far_bind (extern_front ks n) _ q h ((extern_front_exact ks).far n q zero-le) (λ x r g. by_test x (sign_is sg.LeftBracket (slice_get ks x.1)) g)
  where
    by_test : (x : (Unit {0} × (Unit {0} × Ident)) × ℕ) (t : Bool)
        → ◌≡◌ {A = Result (TopTree × ℕ) Fault}
        (cond t (both (sign ks sg.RightBracket) (sign ks sg.Semicolon) (suc x.1) >>= λ e. Ok (ExternArray x.0.1.1, e.1))
        (sign_at ks sg.Semicolon x.1 >>= λ e. Ok (Extern x.0.1.1, e))) (Err (TooDeep q)) → 64 ≤ q
    by_test x true h = far_bind (both (sign ks sg.RightBracket) (sign ks sg.Semicolon) (suc x.1)) _ q h ((brackets_exact ks).far (suc x.1) q zero-le) (λ e r g. cc)
    by_test x false h = far_bind (sign_at ks sg.Semicolon x.1) _ q h (sign_far ks sg.Semicolon x.1 q) (λ e r g. cc)

-- a word that may stand there
skip_yes : (ks : List Kind) (w : Word) (n : ℕ) → slice_get ks n ≡ Some (kind.Word w) → skipped ks w n ≡ (true, suc n)
skip_yes ks w n h = rw (word_here w (slice_get ks n) h) refl

skip_no : (ks : List Kind) (w : Word) (n : ℕ) → word_is w (slice_get ks n) ≡ false → skipped ks w n ≡ (false, n)
skip_no ks w n h = rw h refl

-- what was skipped are the marks of a word that is there or not
pub skip_spans : (ks : List Kind) (w : Word) (n : ℕ) → Spans ks n (word_if (skipped ks w n).0 0 w) (skipped ks w n).1
skip_spans ks w n = by_test (word_is w (slice_get ks n)) refl
  where
    by_test : (t : Bool) → word_is w (slice_get ks n) ≡ t
        → Spans ks n (word_if (cond t (let x : Bool × ℕ = (true, suc n) in x) (false, n)).0 0 w)
        (cond t (let x : Bool × ℕ = (true, suc n) in x) (false, n)).1
    by_test true t = (word_found w (slice_get ks n) t, tt, refl)
    by_test false t = refl

pub skip_is : (ks : List Kind) (w : Word) (b : Bool) (n e : ℕ) (rest : List Mark) (e' : ℕ) → Spans ks n (word_if b 0 w) e → (b ≡ false → word_is w (slice_get ks n) ≡ false) → skipped ks w n ≡ (b, e)
skip_is ks w true n e rest e' s h = skip_yes ks w n s.0 ∙ ap (λ (z : ℕ). (true, z)) s.2
skip_is ks w false n e rest e' s h = skip_no ks w n (h refl) ∙ ap (λ (z : ℕ). (false, z)) s

pub word_if_deep : (b : Bool) (n : ℕ) (w : Word) → first_deep n (word_if b 0 w) ≡ None
word_if_deep true n w = refl
word_if_deep false n w = refl

-- a parameter
param_row_exact : (ks : List Kind) → Exact ks 0 3 Any (λ v. word_mark 0 wd.Int ∷ sign_mark 0 sg.Star ∷ ident_mark 0 v.1.1 ∷ []) Free Free (param_row ks)
param_row_exact ks = flat ks (word_exact ks 0 0 wd.Int refl) (flat ks (sign_exact ks 0 0 sg.Star refl) (ident_exact ks 0 0 refl))

param_is : (ks : List Kind) (n j e : ℕ) (c : Bool) (x : Ident) → skipped ks wd.Const n ≡ (c, j) → param_row ks j ≡ Ok ((tt, (tt, x)), e) → param_at ks n ≡ Ok (record { is_const = c; name = x }, e)
unfolding param_at
param_is ks n j e c x s r = ap (param_behind ks) s ∙ rw r refl

param_deep : (p : Param) (n : ℕ) → first_deep n (param p) ≡ None
param_deep p n = by_const p.is_const
  where
    by_const : (c : Bool) → first_deep n (word_if c 0 wd.Const ++ (word_mark 0 wd.Int ∷ sign_mark 0 sg.Star ∷ ident_mark 0 p.name ∷ [])) ≡ None
    by_const true = refl
    by_const false = refl

param_complete : (ks : List Kind) (p : Param) (n e : ℕ) → Spans ks n (param p) e → param_at ks n ≡ Ok (p, e)
param_complete ks p n e s =
    let tail = word_mark 0 wd.Int ∷ sign_mark 0 sg.Star ∷ ident_mark 0 p.name ∷ [] in
    let r = spans_split ks n (word_if p.is_const 0 wd.Const) tail e s in
    param_is ks n r.0 e p.is_const p.name (skip_is ks wd.Const p.is_const n r.0 tail e r.1 (λ i. plain i r.1 r.2)) ((param_row_exact ks).complete (tt, (tt, p.name)) r.0 e tt r.2 tt)
  where
    plain : p.is_const ≡ false → {j : ℕ} → Spans ks n (word_if p.is_const 0 wd.Const) j
        → Spans ks j (word_mark 0 wd.Int ∷ sign_mark 0 sg.Star ∷ ident_mark 0 p.name ∷ []) e → word_is wd.Const (slice_get ks n) ≡ false
    plain i {j} a b =
        let same : n ≡ j = subst (λ z. Spans ks n (word_if z 0 wd.Const) j) i a in
        rw (ap (slice_get ks) same ∙ b.0) refl

param_sound : (ks : List Kind) (n : ℕ) (y : Param × ℕ) → param_at ks n ≡ Ok y → Spans ks n (param y.0) y.1
unfolding param_at
param_sound ks n y h =
    let c = skipped ks wd.Const n in
    let v = bind_ok (param_row ks c.1) _ y h in
    let g = (param_row_exact ks).sound c.1 v.0 v.1 in
    subst (λ (w : Param × ℕ). Spans ks n (param w.0) w.1) (ok_one (record { is_const = c.0; name = v.0.0.1.1 }, v.0.1) y v.2)
    (spans_join ks n (word_if c.0 0 wd.Const) (word_mark 0 wd.Int ∷ sign_mark 0 sg.Star ∷ ident_mark 0 v.0.0.1.1 ∷ []) c.1 v.0.1
    (skip_spans ks wd.Const n) g.spans)

param_far : (ks : List Kind) (n q : ℕ) → param_at ks n ≡ Err (TooDeep q) → 64 ≤ q
unfolding param_at
param_far ks n q h =
    far_bind (param_row ks (skipped ks wd.Const n).1) _ q h ((param_row_exact ks).far (skipped ks wd.Const n).1 q zero-le) (λ v r g. cc)

param_some : (p : Param) → 1 ≤ length (param p)
param_some p =
    omega (arith, length-append (word_if p.is_const 0 wd.Const) (word_mark 0 wd.Int ∷ sign_mark 0 sg.Star ∷ ident_mark 0 p.name ∷ []))

param_exact : (ks : List Kind) → Exact ks 0 1 Any param Free Free (param_at ks)
param_exact ks = record {
  complete = λ p n e o s h. param_complete ks p n e s ∙ ap (λ z. after z (Ok (p, e))) (sym (param_deep p n));
  sound = λ n y h. record { valid = tt; spans = param_sound ks n y h; shallow = param_deep y.0 n; behind = tt };
  moves = λ n y h. omega (arith, spans_end ks n (param y.0) y.1 (param_sound ks n y h), param_some y.0);
  far = λ n q l h. param_far ks n q h;
}

params_are : (ps : List Param) → params ps ≡ each param ps
params_are [] = refl
params_are (p ∷ ps) = ap (λ z. param p ∷ z) (params_are ps)

commas_long : (ps : List Param) → length ps ≤ length (commas 0 (each param ps))
commas_long [] = zero-le
commas_long (x ∷ []) = omega (arith, param_some x)
commas_long (x ∷ y ∷ xs) =
    omega (arith, commas_long (y ∷ xs), length-append (param x) (sign_mark 0 sg.Comma ∷ commas 0 (each param (y ∷ xs))))

-- the parameters and their `)`
abbrev pub params_row : List Param → List Mark
params_row ps = commas 0 (params ps) ++ sign_mark 0 sg.RightParen ∷ []

params_row_is : (ps : List Param) → params_row ps ≡ row 0 param sg.RightParen ps
params_row_is ps = ap (λ z. commas 0 z ++ sign_mark 0 sg.RightParen ∷ []) (params_are ps)

pub params_exact : (ks : List Kind) → Exact ks 0 0 (λ ps. ps ≢ []) params_row Free Free (params_at ks)
params_exact ks = record {
  complete = λ ps n e o s h.
      (let s' = subst (λ z. Spans ks n z e) (params_row_is ps) s in
      separated_complete ks 0 1 0 Any param Free Free (param_at ks) sg.RightParen (param_exact ks) refl refl (λ a n h. tt) (λ a n h. tt) ps
      (length ks) n e o (omega (
        arith,
        spans_end ks n (row 0 param sg.RightParen ps) e s',
        length-append (commas 0 (each param ps)) (sign_mark 0 sg.RightParen ∷ []),
        commas_long ps,
        ended ps n e s',
      )) (all_any ps) s'
      ∙ ap (λ z. after z (Ok (ps, e))) (sym (ap (first_deep n) (params_row_is ps))));
  sound = λ n y h.
      (let r = separated_sound ks 0 1 0 Any param Free Free (param_at ks) sg.RightParen (param_exact ks) refl refl (λ a n h. tt) (λ a n h. tt) (length ks) n y h in
      record {
        valid = r.some;
        spans = subst (λ z. Spans ks n z y.1) (sym (params_row_is y.0)) r.spans;
        shallow = ap (first_deep n) (params_row_is y.0) ∙ r.shallow;
        behind = tt;
      });
  moves = λ n y h.
      (let r = separated_sound ks 0 1 0 Any param Free Free (param_at ks) sg.RightParen (param_exact ks) refl refl (λ a n h. tt) (λ a n h. tt) (length ks) n y h in
      omega (arith, spans_end ks n (row 0 param sg.RightParen y.0) y.1 r.spans));
  far = λ n q l h.
      separated_far ks 0 1 0 Any param Free Free (param_at ks) sg.RightParen (param_exact ks) refl refl (λ a n h. tt) (λ a n h. tt) (length ks) n q l h;
}
  where
    ended : (ps : List Param) (n e : ℕ) → Spans ks n (row 0 param sg.RightParen ps) e → e ≤ length ks
    ended ps n e s =
        let r = spans_split ks n (commas 0 (each param ps)) (sign_mark 0 sg.RightParen ∷ []) e s in
        spans_within ks r.0 (sign_mark 0 sg.RightParen) [] e r.2
