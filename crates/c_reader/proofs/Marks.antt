-- Signs, words, maps, indices and variables of arguments and assignments are read exactly as they are printed.
use Rattle.std.proofs.Common.{◌≡◌, ℕ, suc, ◌≤◌, Bool, true, false, cond, List, [], ◌∷◌, length, Option, Some, None, Result, Ok, Err, refl, sym, ap, subst, ◌∙◌, arith, slice_get, nat_lt}
use Rattle.c_tree.specs.declared.lexer.tokens.Kind.{Kind}
use Rattle.c_tree.specs.declared.lexer.tokens.Kind.TheVariants as kind
use Rattle.c_tree.specs.declared.lexer.tokens.Sign.{Sign}
use Rattle.c_tree.specs.declared.lexer.tokens.Sign.TheVariants as sg
use Rattle.c_tree.specs.declared.lexer.tokens.Word.{Word}
use Rattle.c_tree.specs.declared.lexer.tokens.Word.TheVariants as wd
use Rattle.c_tree.specs.declared.expressions.Ident.{Ident}
use Rattle.c_tree.specs.declared.declarations.AssignOp.{AssignOp}
use Rattle.c_tree.specs.declared.declarations.AssignOp.TheVariants as assign
use Rattle.c_tree.specs.declared.hosts.GlobalName.{GlobalName}
use Rattle.c_tree.specs.declared.hosts.AccessWord.{AccessWord}
use Rattle.c_tree.specs.declared.hosts.AccessWord.TheVariants as access
use Rattle.c_tree.specs.declared.hosts.ArgIndex.{ArgIndex}
use Rattle.c_tree.specs.declared.hosts.ArgVia.{ArgVia}
use Rattle.c_tree.specs.declared.hosts.ArgVia.TheVariants as via
use Rattle.c_tree.specs.Signs.{assign_sign_of, access_word_of}
use Rattle.c_tree.specs.Print.{Mark, named_sign, named_word, glob, arg_index, via_mark}
use Rattle.c_tree.specs.Reads.{Keeps, first_deep}
use Rattle.c_reader.specs.declared.faults.Fault.{Fault}
use Rattle.c_reader.specs.declared.faults.Fault.TheVariants.{TooDeep}
use Rattle.c_reader.specs.Descent.{◌>>=◌, sign_is}
use Rattle.c_reader.specs.Leads.{assign_of, access_of}
use Rattle.c_reader.specs.Rows.{Reader, made, word_is, ident, number}
use Rattle.c_reader.specs.Declarations.{assign_or, assign_in, assign_at, placed_assign}
use Rattle.c_reader.specs.Arguments.{global_at, index_at, via_at, access_or, access_in, access_at, placed_access}
use Rattle.c_reader.proofs.Spans.{Spans, spans_end, after}
use Rattle.c_reader.proofs.Steps.{sign_found}
use Rattle.c_reader.proofs.Sound.{bind_ok, ok_one}
use Rattle.c_reader.proofs.Far.{far_bind}
use Rattle.c_reader.proofs.Exactness.{Exact, Found, Any, Free, ident_is, ident_ok, ident_near, number_is, number_ok, number_near, word_found, mark_shallow}

-- a reader of one token
pub one_exact : (ks : List Kind) {A : Type 0} (from : ℕ) (mark_of : A → Mark) (p : Reader A)
    → ((a : A) → nat_lt 64 (mark_of a).level ≡ false) →
    ((a : A) (n : ℕ) → slice_get ks n ≡ Some (mark_of a).kind → Keeps n (mark_of a).number → p n ≡ Ok (a, suc n))
    → ((n : ℕ) (y : A × ℕ) → p n ≡ Ok y → (slice_get ks n ≡ Some (mark_of y.0).kind) × (Keeps n (mark_of y.0).number × (suc n ≡ y.1)))
    → ((n q : ℕ) → p n ≡ Err (TooDeep q) → ⊥) → Exact ks from 1 Any (λ a. mark_of a ∷ []) Free Free p
one_exact ks from mark_of p fits is ok far = record {
  complete = λ a n e o s h. is a n s.0 s.1 ∙ ap (λ (z : ℕ). Ok (a, z)) s.2 ∙ ap (λ z. after z (Ok (a, e))) (sym (mark_shallow n (mark_of a) (fits a)));
  sound = λ n y h.
      (let q = ok n y h in
      record {
        valid = tt;
        spans = (q.0, q.1.0, q.1.1);
        shallow = mark_shallow n (mark_of y.0) (fits y.0);
        behind = tt;
      });
  moves = λ n y h. (let q = ok n y h in omega (arith, q.1.1));
  far = λ n q l h. absurd (far n q h);
}

pub assign_of-sign : (op : AssignOp) → assign_of (assign_sign_of op) ≡ Some op
assign_of-sign assign.Set = refl
assign_of-sign _ = refl

pub sign_of_assign : (s : Sign) (op : AssignOp) → assign_of s ≡ Some op → s ≡ assign_sign_of op
sign_of_assign sg.Assign op h = cc
sign_of_assign _ op h = cc

-- what an assignment's sign and its number are kept as
abbrev pub PlacedOp : Type 0
PlacedOp = AssignOp × ℕ

pub assign_is : (ks : List Kind) (op : AssignOp) (n : ℕ) → slice_get ks n ≡ Some (kind.Sign (assign_sign_of op)) → assign_at ks n ≡ Ok (op, suc n)
unfolding assign_at
assign_is ks op n h = rw (h, assign_of-sign op) refl

pub assign_ok : (ks : List Kind) (n : ℕ) (y : AssignOp × ℕ) → assign_at ks n ≡ Ok y → (slice_get ks n ≡ Some (kind.Sign (assign_sign_of y.0))) × (suc n ≡ y.1)
unfolding assign_at
assign_ok ks n y h = by_kind (slice_get ks n) h
  where
    by_op : (s : Sign) (o : Option AssignOp) → assign_of s ≡ o → assign_or o n ≡ Ok y → (◌≡◌ {A = Option Kind} (Some (kind.Sign s)) (Some (kind.Sign (assign_sign_of y.0)))) × (suc n ≡ y.1)
    by_op s None e h = cc
    by_op s (Some op) e h =
        let same = ok_one (op, suc n) y h in
        (ap (λ z. Some (kind.Sign z)) (sign_of_assign s op e) ∙ ap (λ (z : AssignOp × ℕ). Some (kind.Sign (assign_sign_of z.0))) same, ap (λ (z : AssignOp × ℕ). z.1) same)

    by_kind : (o : Option Kind) → assign_in o n ≡ Ok y → (o ≡ Some (kind.Sign (assign_sign_of y.0))) × (suc n ≡ y.1)
    by_kind None h = cc
    by_kind (Some (kind.Sign s)) h = by_op s (assign_of s) refl h
    by_kind (Some (kind.Word x)) h = cc
    by_kind (Some (kind.Number x)) h = cc
    by_kind (Some (kind.Text x)) h = cc
    by_kind (Some (kind.Name x)) h = cc

pub assign_near : (ks : List Kind) (n q : ℕ) → assign_at ks n ≡ Err (TooDeep q) → ⊥
unfolding assign_at
assign_near ks n q h = by_kind (slice_get ks n) h
  where
    by_op : (o : Option AssignOp) → assign_or o n ≡ Err (TooDeep q) → ⊥
    by_op None h = cc
    by_op (Some op) h = cc

    by_kind : (o : Option Kind) → assign_in o n ≡ Err (TooDeep q) → ⊥
    by_kind None h = cc
    by_kind (Some (kind.Sign s)) h = by_op (assign_of s) h
    by_kind (Some (kind.Word x)) h = cc
    by_kind (Some (kind.Number x)) h = cc
    by_kind (Some (kind.Text x)) h = cc
    by_kind (Some (kind.Name x)) h = cc

pub assign_exact : (ks : List Kind) (from k : ℕ) → nat_lt 64 k ≡ false → Exact ks from 1 Any (λ (v : PlacedOp). named_sign k (assign_sign_of v.0) v.1 ∷ []) Free Free (placed_assign ks)
assign_exact ks from k fits =
    one_exact ks from (λ (v : PlacedOp). named_sign k (assign_sign_of v.0) v.1) (placed_assign ks) (λ v. fits)
    (λ v n h a. rw (assign_is ks v.0 n h) (ap (λ (z : ℕ). Ok ((v.0, z), suc n)) (sym a))) (λ n y h.
    (let r = bind_ok (assign_at ks n) _ y h in
    let q = assign_ok ks n r.0 r.1 in
    let same = ok_one ((r.0.0, n), r.0.1) y r.2 in (
      q.0 ∙ ap (λ (z : PlacedOp × ℕ). Some (kind.Sign (assign_sign_of z.0.0))) same,
      (sym (ap (λ (z : PlacedOp × ℕ). z.0.1) same), q.1 ∙ ap (λ (z : PlacedOp × ℕ). z.1) same),
    )))
    (λ n q h. near n q (assign_at ks n) (assign_near ks n q) h)
  where
    near : (n q : ℕ) (r : Result (AssignOp × ℕ) Fault) → (r ≡ Err (TooDeep q) → ⊥) → ◌≡◌ {A = Result (PlacedOp × ℕ) Fault} (r >>= λ o. Ok ((o.0, n), o.1)) (Err (TooDeep q)) → ⊥
    near n q (Ok x) f h = cc
    near n q (Err e) f h = f (let same : e ≡ TooDeep q = cc in ap Err same)

pub access_of-word : (a : AccessWord) → access_of (access_word_of a) ≡ Some a
access_of-word access.Read = refl
access_of-word _ = refl

pub word_of_access : (w : Word) (a : AccessWord) → access_of w ≡ Some a → w ≡ access_word_of a
word_of_access wd.OpRead a h = cc
word_of_access _ a h = cc

pub access_is : (ks : List Kind) (a : AccessWord) (n : ℕ) → slice_get ks n ≡ Some (kind.Word (access_word_of a)) → access_at ks n ≡ Ok (a, suc n)
unfolding access_at
access_is ks a n h = rw (h, access_of-word a) refl

pub access_ok : (ks : List Kind) (n : ℕ) (y : AccessWord × ℕ) → access_at ks n ≡ Ok y → (slice_get ks n ≡ Some (kind.Word (access_word_of y.0))) × (suc n ≡ y.1)
unfolding access_at
access_ok ks n y h = by_kind (slice_get ks n) h
  where
    by_op : (w : Word) (o : Option AccessWord) → access_of w ≡ o → access_or o n ≡ Ok y → (◌≡◌ {A = Option Kind} (Some (kind.Word w)) (Some (kind.Word (access_word_of y.0)))) × (suc n ≡ y.1)
    by_op w None e h = cc
    by_op w (Some op) e h =
        let same = ok_one (op, suc n) y h in
        (ap (λ z. Some (kind.Word z)) (word_of_access w op e) ∙ ap (λ (z : AccessWord × ℕ). Some (kind.Word (access_word_of z.0))) same, ap (λ (z : AccessWord × ℕ). z.1) same)

    by_kind : (o : Option Kind) → access_in o n ≡ Ok y → (o ≡ Some (kind.Word (access_word_of y.0))) × (suc n ≡ y.1)
    by_kind None h = cc
    by_kind (Some (kind.Word s)) h = by_op s (access_of s) refl h
    by_kind (Some (kind.Sign x)) h = cc
    by_kind (Some (kind.Number x)) h = cc
    by_kind (Some (kind.Text x)) h = cc
    by_kind (Some (kind.Name x)) h = cc

pub access_near : (ks : List Kind) (n q : ℕ) → access_at ks n ≡ Err (TooDeep q) → ⊥
unfolding access_at
access_near ks n q h = by_kind (slice_get ks n) h
  where
    by_op : (o : Option AccessWord) → access_or o n ≡ Err (TooDeep q) → ⊥
    by_op None h = cc
    by_op (Some op) h = cc

    by_kind : (o : Option Kind) → access_in o n ≡ Err (TooDeep q) → ⊥
    by_kind None h = cc
    by_kind (Some (kind.Word s)) h = by_op (access_of s) h
    by_kind (Some (kind.Sign x)) h = cc
    by_kind (Some (kind.Number x)) h = cc
    by_kind (Some (kind.Text x)) h = cc
    by_kind (Some (kind.Name x)) h = cc

pub access_exact : (ks : List Kind) (from k : ℕ) → nat_lt 64 k ≡ false → Exact ks from 1 Any (λ (v : AccessWord × ℕ). named_word k (access_word_of v.0) v.1 ∷ []) Free Free (placed_access ks)
access_exact ks from k fits =
    one_exact ks from (λ (v : AccessWord × ℕ). named_word k (access_word_of v.0) v.1) (placed_access ks) (λ v. fits)
    (λ v n h a. rw (access_is ks v.0 n h) (ap (λ (z : ℕ). Ok ((v.0, z), suc n)) (sym a))) (λ n y h.
    (let r = bind_ok (access_at ks n) _ y h in
    let q = access_ok ks n r.0 r.1 in
    let same = ok_one ((r.0.0, n), r.0.1) y r.2 in (
      q.0 ∙ ap (λ (z : (AccessWord × ℕ) × ℕ). Some (kind.Word (access_word_of z.0.0))) same,
      (sym (ap (λ (z : (AccessWord × ℕ) × ℕ). z.0.1) same), q.1 ∙ ap (λ (z : (AccessWord × ℕ) × ℕ). z.1) same),
    )))
    (λ n q h. near n q (access_at ks n) (access_near ks n q) h)
  where
    near : (n q : ℕ) (r : Result (AccessWord × ℕ) Fault) → (r ≡ Err (TooDeep q) → ⊥) → ◌≡◌ {A = Result ((AccessWord × ℕ) × ℕ) Fault} (r >>= λ o. Ok ((o.0, n), o.1)) (Err (TooDeep q)) → ⊥
    near n q (Ok x) f h = cc
    near n q (Err e) f h = f (let same : e ≡ TooDeep q = cc in ap Err same)

-- what is made of the values of a reader
pub made_complete : {A B : Type 0} (f : A → B) (p : Reader A) (n e : ℕ) (a : A) (o : Option ℕ) → p n ≡ after o (Ok (a, e)) → made f p n ≡ after o (Ok (f a, e))
made_complete f p n e a None h = rw h refl
made_complete f p n e a (Some z) h = rw h refl

pub made_sound : (ks : List Kind) {A B : Type 0} {from size : ℕ} {ok : A → Type 0} {marks : A → List Mark} {needs gives : A → ℕ → Type 0}
    {p : Reader A} (f : A → B) → Exact ks from size ok marks needs gives p → (n : ℕ) (y : B × ℕ) → made f p n ≡ Ok y → (a : A) × (f a ≡ y.0)
    × Found ks ok marks gives n a y.1
made_sound ks {ok = ok} {marks = marks} {gives = gives} {p = p} f x n y h =
    let r = bind_ok (p n) _ y h in
    let same = ok_one (f r.0.0, r.0.1) y r.2 in
    (r.0.0, ap (λ z. z.0) same, subst (λ e. Found ks ok marks gives n r.0.0 e) (ap (λ z. z.1) same) (x.sound n r.0 r.1))

pub made_far : (ks : List Kind) {A B : Type 0} {from size : ℕ} {ok : A → Type 0} {marks : A → List Mark} {needs gives : A → ℕ → Type 0}
    {p : Reader A} (f : A → B) → Exact ks from size ok marks needs gives p → (n q : ℕ) → from ≤ n → made f p n ≡ Err (TooDeep q) → 64 ≤ q
made_far ks {p = p} f x n q l h = far_bind (p n) _ q h (x.far n q l) (λ a r g. cc)

-- a map, or none
pub via_is : (ks : List Kind) (k : ℕ) (a : ArgVia) (n : ℕ) → slice_get ks n ≡ Some (via_mark k a).kind → Keeps n (via_mark k a).number → via_at ks n ≡ Ok (a, suc n)
unfolding via_at
via_is ks k (via.Map x) n h a = rw (h, ident_is ks x n h a) refl
via_is ks k (via.Identity at) n h a = rw h (ap (λ (z : ℕ). Ok (via.Identity z, suc n)) (sym a))

pub via_ok : (ks : List Kind) (k n : ℕ) (y : ArgVia × ℕ) → via_at ks n ≡ Ok y → (slice_get ks n ≡ Some (via_mark k y.0).kind) × (Keeps n (via_mark k y.0).number × (suc n ≡ y.1))
unfolding via_at
via_ok ks k n y h = by_test (word_is wd.OpId (slice_get ks n)) refl h
  where
    by_test : (t : Bool) → word_is wd.OpId (slice_get ks n) ≡ t
        → cond t (Ok (via.Identity n, suc n)) (ident ks n >>= λ x. Ok (via.Map x.0, x.1)) ≡ Ok y
        → (slice_get ks n ≡ Some (via_mark k y.0).kind) × (Keeps n (via_mark k y.0).number × (suc n ≡ y.1))
    by_test true t h =
        subst (λ (w : ArgVia × ℕ). (slice_get ks n ≡ Some (via_mark k w.0).kind) × (Keeps n (via_mark k w.0).number × (suc n ≡ w.1)))
        (ok_one (via.Identity n, suc n) y h) (word_found wd.OpId (slice_get ks n) t, (refl, refl))
    by_test false t h =
        let r = bind_ok (ident ks n) _ y h in
        let q = ident_ok ks n r.0 r.1 in
        subst (λ (w : ArgVia × ℕ). (slice_get ks n ≡ Some (via_mark k w.0).kind) × (Keeps n (via_mark k w.0).number × (suc n ≡ w.1))) (ok_one (via.Map r.0.0, r.0.1) y r.2) (q.0, (q.1, q.2))

pub near_bind : {A B : Type 0} (r : Result A Fault) (f : A → Result B Fault) (q : ℕ) → (r ≡ Err (TooDeep q) → ⊥) → ((a : A) → f a ≡ Err (TooDeep q) → ⊥) → (r >>= f) ≡ Err (TooDeep q) → ⊥
near_bind (Ok a) f q g k h = k a h
near_bind (Err e) f q g k h = g (let same : e ≡ TooDeep q = cc in ap Err same)

pub via_near : (ks : List Kind) (n q : ℕ) → via_at ks n ≡ Err (TooDeep q) → ⊥
unfolding via_at
via_near ks n q h = by_test (word_is wd.OpId (slice_get ks n)) h
  where
    by_test : (t : Bool) → ◌≡◌ {A = Result (ArgVia × ℕ) Fault} (cond t (Ok (via.Identity n, suc n)) (ident ks n >>= λ x. Ok (via.Map x.0, x.1))) (Err (TooDeep q)) → ⊥
    by_test true h = cc
    by_test false h = near_bind (ident ks n) _ q (ident_near ks n q) (λ a g. cc) h

pub via_level : (k : ℕ) (a : ArgVia) → nat_lt 64 k ≡ false → nat_lt 64 (via_mark k a).level ≡ false
via_level k (via.Map x) h = h
via_level k (via.Identity at) h = h

pub via_exact : (ks : List Kind) (from k : ℕ) → nat_lt 64 k ≡ false → Exact ks from 1 Any (λ a. via_mark k a ∷ []) Free Free (via_at ks)
via_exact ks from k fits =
    one_exact ks from (via_mark k) (via_at ks) (λ a. via_level k a fits) (via_is ks k) (via_ok ks k) (via_near ks)

-- an index, behind `-` or not
pub index_is : (ks : List Kind) (k : ℕ) (t : Bool) (at n e : ℕ) (v : _) → nat_lt 64 k ≡ false
    → Spans ks n (arg_index k (record { is_negative = t; at = at; value = v })) e
    → index_at ks n ≡ after (first_deep n (arg_index k (record { is_negative = t; at = at; value = v })))
    (Ok (record { is_negative = t; at = at; value = v }, e))
unfolding index_at
index_is ks k true at n e v fits s =
    rw (s.0, number_is ks (record { value = v; at = suc n }) (suc n) s.2.0 refl, fits)
    (ap (λ (z : ℕ). Ok (record { is_negative = true; at = z; value = v }, suc (suc n))) (sym s.1)
    ∙ ap (λ (z : ℕ). Ok (record { is_negative = true; at = at; value = v }, z)) s.2.2)
index_is ks k false at n e v fits s =
    rw (s.0, number_is ks (record { value = v; at = n }) n s.0 refl, fits)
    (ap (λ (z : ℕ). Ok (record { is_negative = false; at = z; value = v }, suc n)) (sym s.1)
    ∙ ap (λ (z : ℕ). Ok (record { is_negative = false; at = at; value = v }, z)) s.2)

pub index_ok : (ks : List Kind) (k n : ℕ) (y : ArgIndex × ℕ) → nat_lt 64 k ≡ false → index_at ks n ≡ Ok y → Found ks Any (arg_index k) Free n y.0 y.1
unfolding index_at
index_ok ks k n y fits h = by_test (sign_is sg.Minus (slice_get ks n)) refl h
  where
    by_test : (t : Bool) → sign_is sg.Minus (slice_get ks n) ≡ t
        → cond t (number ks (suc n) >>= λ v. Ok (record { is_negative = true; at = n; value = v.0.value }, v.1))
        (number ks n >>= λ v. Ok (record { is_negative = false; at = n; value = v.0.value }, v.1)) ≡ Ok y
        → Found ks Any (arg_index k) Free n y.0 y.1
    by_test true t h =
        let r = bind_ok (number ks (suc n)) _ y h in
        let q = number_ok ks (suc n) r.0 r.1 in
        let made_ : Found ks Any (arg_index k) Free n (record { is_negative = true; at = n; value = r.0.0.value }) r.0.1 = record {
          valid = tt;
          spans = (sign_found sg.Minus (slice_get ks n) t, refl, (q.0, tt, q.2));
          shallow = rw fits refl;
          behind = tt;
        } in
        subst (λ (w : ArgIndex × ℕ). Found ks Any (arg_index k) Free n w.0 w.1) (ok_one (record { is_negative = true; at = n; value = r.0.0.value }, r.0.1) y r.2) made_
    by_test false t h =
        let r = bind_ok (number ks n) _ y h in
        let q = number_ok ks n r.0 r.1 in
        let made_ : Found ks Any (arg_index k) Free n (record { is_negative = false; at = n; value = r.0.0.value }) r.0.1 = record {
          valid = tt;
          spans = (q.0, refl, q.2);
          shallow = rw fits refl;
          behind = tt;
        } in
        subst (λ (w : ArgIndex × ℕ). Found ks Any (arg_index k) Free n w.0 w.1) (ok_one (record { is_negative = false; at = n; value = r.0.0.value }, r.0.1) y r.2) made_

pub index_near : (ks : List Kind) (n q : ℕ) → index_at ks n ≡ Err (TooDeep q) → ⊥
unfolding index_at
index_near ks n q h = by_test (sign_is sg.Minus (slice_get ks n)) h
  where
    by_test : (t : Bool) → ◌≡◌ {A = Result (ArgIndex × ℕ) Fault}
        (cond t (number ks (suc n) >>= λ v. Ok (record { is_negative = true; at = n; value = v.0.value }, v.1))
        (number ks n >>= λ v. Ok (record { is_negative = false; at = n; value = v.0.value }, v.1))) (Err (TooDeep q)) → ⊥
    by_test true h = near_bind (number ks (suc n)) _ q (number_near ks (suc n) q) (λ a g. cc) h
    by_test false h = near_bind (number ks n) _ q (number_near ks n q) (λ a g. cc) h

pub index_some : (k : ℕ) (t : Bool) (at : ℕ) (v : _) → 1 ≤ length (arg_index k (record { is_negative = t; at = at; value = v }))
index_some k true at v = omega arith
index_some k false at v = omega arith

pub index_exact : (ks : List Kind) (from k : ℕ) → nat_lt 64 k ≡ false → Exact ks from 1 Any (arg_index k) Free Free (index_at ks)
index_exact ks from k fits = record {
  complete = λ a n e o s h. index_is ks k a.is_negative a.at n e a.value fits s;
  sound = λ n y h. index_ok ks k n y fits h;
  moves = λ n y h.
      (let r = index_ok ks k n y fits h in
      omega (arith, spans_end ks n (arg_index k y.0) y.1 r.spans, index_some k y.0.is_negative y.0.at y.0.value));
  far = λ n q l h. absurd (index_near ks n q h);
}

-- a variable, behind `&` or not
pub global_is : (ks : List Kind) (k : ℕ) (o : Option ℕ) (x : Ident) (n e : ℕ) → nat_lt 64 k ≡ false
    → Spans ks n (glob k (record { ampersand = o; name = x })) e
    → global_at ks n ≡ after (first_deep n (glob k (record { ampersand = o; name = x }))) (Ok (record { ampersand = o; name = x }, e))
unfolding global_at
global_is ks k None x n e fits s =
    rw (s.0, ident_is ks x n s.0 s.1, fits) (ap (λ (z : ℕ). Ok (record { ampersand = None; name = x }, z)) s.2)
global_is ks k (Some at) x n e fits s =
    rw (s.0, ident_is ks x (suc n) s.2.0 s.2.1, fits) (ap (λ (z : ℕ). Ok (record { ampersand = Some z; name = x }, suc (suc n))) (sym s.1)
    ∙ ap (λ (z : ℕ). Ok (record { ampersand = Some at; name = x }, z)) s.2.2)

pub global_ok : (ks : List Kind) (k n : ℕ) (y : GlobalName × ℕ) → nat_lt 64 k ≡ false → global_at ks n ≡ Ok y → Found ks Any (glob k) Free n y.0 y.1
unfolding global_at
global_ok ks k n y fits h = by_test (sign_is sg.And (slice_get ks n)) refl h
  where
    by_test : (t : Bool) → sign_is sg.And (slice_get ks n) ≡ t
        → cond t (ident ks (suc n) >>= λ x. Ok (record { ampersand = Some n; name = x.0 }, x.1))
        (ident ks n >>= λ x. Ok (record { ampersand = None; name = x.0 }, x.1)) ≡ Ok y → Found ks Any (glob k) Free n y.0 y.1
    by_test true t h =
        let r = bind_ok (ident ks (suc n)) _ y h in
        let q = ident_ok ks (suc n) r.0 r.1 in
        let made_ : Found ks Any (glob k) Free n (record { ampersand = Some n; name = r.0.0 }) r.0.1 = record {
          valid = tt;
          spans = (sign_found sg.And (slice_get ks n) t, refl, (q.0, q.1, q.2));
          shallow = rw fits refl;
          behind = tt;
        } in
        subst (λ (w : GlobalName × ℕ). Found ks Any (glob k) Free n w.0 w.1) (ok_one (record { ampersand = Some n; name = r.0.0 }, r.0.1) y r.2) made_
    by_test false t h =
        let r = bind_ok (ident ks n) _ y h in
        let q = ident_ok ks n r.0 r.1 in
        let made_ : Found ks Any (glob k) Free n (record { ampersand = None; name = r.0.0 }) r.0.1 = record {
          valid = tt;
          spans = (q.0, q.1, q.2);
          shallow = rw fits refl;
          behind = tt;
        } in
        subst (λ (w : GlobalName × ℕ). Found ks Any (glob k) Free n w.0 w.1) (ok_one (record { ampersand = None; name = r.0.0 }, r.0.1) y r.2) made_

pub global_near : (ks : List Kind) (n q : ℕ) → global_at ks n ≡ Err (TooDeep q) → ⊥
unfolding global_at
global_near ks n q h = by_test (sign_is sg.And (slice_get ks n)) h
  where
    by_test : (t : Bool) → ◌≡◌ {A = Result (GlobalName × ℕ) Fault}
        (cond t (ident ks (suc n) >>= λ x. Ok (record { ampersand = Some n; name = x.0 }, x.1))
        (ident ks n >>= λ x. Ok (record { ampersand = None; name = x.0 }, x.1))) (Err (TooDeep q)) → ⊥
    by_test true h = near_bind (ident ks (suc n)) _ q (ident_near ks (suc n) q) (λ a g. cc) h
    by_test false h = near_bind (ident ks n) _ q (ident_near ks n q) (λ a g. cc) h

pub global_some : (k : ℕ) (o : Option ℕ) (x : Ident) → 1 ≤ length (glob k (record { ampersand = o; name = x }))
global_some k None x = omega arith
global_some k (Some at) x = omega arith

pub global_exact : (ks : List Kind) (from k : ℕ) → nat_lt 64 k ≡ false → Exact ks from 1 Any (glob k) Free Free (global_at ks)
global_exact ks from k fits = record {
  complete = λ g n e o s h. global_is ks k g.ampersand g.name n e fits s;
  sound = λ n y h. global_ok ks k n y fits h;
  moves = λ n y h.
      (let r = global_ok ks k n y fits h in
      omega (arith, spans_end ks n (glob k y.0) y.1 r.spans, global_some k y.0.ampersand y.0.name));
  far = λ n q l h. absurd (global_near ks n q h);
}
