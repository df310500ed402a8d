-- The items of arguments and assignments are read exactly as they are printed.
use Rattle.std.proofs.Common.{◌≡◌, ℕ, ◌≤◌, ◌<◌, Bool, true, false, List, [], ◌∷◌, ◌++◌, length, Some, None, Ok, Err, refl, sym, ap, subst, ◌∙◌, arith, slice_get, nat_lt, zero-le, length-append}
use Rattle.std.proofs.lemmas.Option.{slice_get_within}
use Rattle.c_tree.specs.declared.lexer.tokens.Kind.{Kind}
use Rattle.c_tree.specs.declared.lexer.tokens.Kind.TheVariants as kind
use Rattle.c_tree.specs.declared.lexer.tokens.Sign.TheVariants as sg
use Rattle.c_tree.specs.declared.lexer.tokens.Word.TheVariants as wd
use Rattle.c_tree.specs.declared.hosts.LoopArg.{LoopArg}
use Rattle.c_tree.specs.declared.hosts.LoopArg.TheVariants as arg
use Rattle.c_tree.specs.Print.{Mark, sign_at as sign_mark, argument, arguments}
use Rattle.c_tree.specs.Reads.{first_deep}
use Rattle.c_reader.specs.declared.faults.Fault.TheVariants.{TooDeep}
use Rattle.c_reader.specs.Rows.{Reader, made, word_is, text}
use Rattle.c_reader.specs.Arguments.{dat_row, dat_arg, global_row, global_arg, arg_at, args_at}
use Rattle.c_reader.proofs.Spans.{Spans, spans_end, after}
use Rattle.c_reader.proofs.Sound.{bind_ok, ok_one}
use Rattle.c_reader.proofs.Exactness.{Exact, Any, Free, word_found, flat, sign_exact, marked_exact, ident_exact, number_exact, text_exact}
use Rattle.c_reader.proofs.Lists.{AllValid, tails, ParenAt, tails_complete, tails_sound, tails_far}
use Rattle.c_reader.proofs.Marks.{access_exact, made_complete, made_far, via_exact, index_exact, global_exact}

dat_exact : (ks : List Kind) (from k : ℕ) → nat_lt 64 k ≡ false
    → Exact ks from 14 Any (λ v. argument k
    (arg.Dat v.0 v.1.1.0 v.1.1.1.1.0 v.1.1.1.1.1.1.0 v.1.1.1.1.1.1.1.1.0 v.1.1.1.1.1.1.1.1.1.1.0 v.1.1.1.1.1.1.1.1.1.1.1.1.0.0
    v.1.1.1.1.1.1.1.1.1.1.1.1.0.1)) Free Free (dat_row ks)
dat_exact ks f k l =
    flat ks (marked_exact ks f k wd.OpArgDat l)
    (flat ks (sign_exact ks f k sg.LeftParen l)
    (flat ks (ident_exact ks f k l)
    (flat ks (sign_exact ks f k sg.Comma l)
    (flat ks (index_exact ks f k l)
    (flat ks (sign_exact ks f k sg.Comma l)
    (flat ks (via_exact ks f k l) (flat ks (sign_exact ks f k sg.Comma l)
    (flat ks (number_exact ks f k l)
    (flat ks (sign_exact ks f k sg.Comma l)
    (flat ks (text_exact ks f k l) (flat ks (sign_exact ks f k sg.Comma l)
    (flat ks (access_exact ks f k l) (sign_exact ks f k sg.RightParen l)))))))))))))

gbl_exact : (ks : List Kind) (from k : ℕ) → nat_lt 64 k ≡ false
    → Exact ks from 10 Any (λ v. argument k
    (arg.Global v.0 v.1.1.0 v.1.1.1.1.0 v.1.1.1.1.1.1.0 v.1.1.1.1.1.1.1.1.0.0 v.1.1.1.1.1.1.1.1.0.1)) Free Free (global_row ks)
gbl_exact ks f k l =
    flat ks (marked_exact ks f k wd.OpArgGbl l)
    (flat ks (sign_exact ks f k sg.LeftParen l)
    (flat ks (global_exact ks f k l)
    (flat ks (sign_exact ks f k sg.Comma l)
    (flat ks (number_exact ks f k l)
    (flat ks (sign_exact ks f k sg.Comma l)
    (flat ks (text_exact ks f k l) (flat ks (sign_exact ks f k sg.Comma l)
    (flat ks (access_exact ks f k l) (sign_exact ks f k sg.RightParen l)))))))))

-- what was read of what is made of a reader's values
pub image_sound : (ks : List Kind) {A B : Type 0} {from size : ℕ} {ok : A → Type 0} (print : B → List Mark) (f : A → B)
    {needs gives : A → ℕ → Type 0} {p : Reader A} → Exact ks from size ok (λ v. print (f v)) needs gives p → (n : ℕ) (y : B × ℕ)
    → made f p n ≡ Ok y → (a : A) × (f a ≡ y.0) × (ok a × (Spans ks n (print y.0) y.1 × (first_deep n (print y.0) ≡ None)))
image_sound ks {ok = ok} print f {p = p} x n y h =
    let r = bind_ok (p n) _ y h in
    let q = x.sound n r.0 r.1 in
    let same = ok_one (f r.0.0, r.0.1) y r.2 in
    (r.0.0, ap (λ z. z.0) same, (q.valid, subst (λ w. Spans ks n (print w.0) w.1 × (first_deep n (print w.0) ≡ None)) same (q.spans, q.shallow)))

arg_gbl : (ks : List Kind) (n : ℕ) → slice_get ks n ≡ Some (kind.Word wd.OpArgGbl) → arg_at ks n ≡ global_arg ks n
unfolding arg_at
arg_gbl ks n h = rw h refl

arg_dat : (ks : List Kind) (n : ℕ) → word_is wd.OpArgGbl (slice_get ks n) ≡ false → arg_at ks n ≡ dat_arg ks n
unfolding arg_at
arg_dat ks n h = rw h refl

arg_sound : (ks : List Kind) (k n : ℕ) (y : LoopArg × ℕ) → nat_lt 64 k ≡ false → arg_at ks n ≡ Ok y → Spans ks n (argument k y.0) y.1 × (first_deep n (argument k y.0) ≡ None)
arg_sound ks k n y l h = by_test (word_is wd.OpArgGbl (slice_get ks n)) refl
  where
    by_test : (t : Bool) → word_is wd.OpArgGbl (slice_get ks n) ≡ t → Spans ks n (argument k y.0) y.1 × (first_deep n (argument k y.0) ≡ None)
    by_test true t =
        (image_sound ks (argument k) _ (gbl_exact ks 0 k l) n y (sym (arg_gbl ks n (word_found wd.OpArgGbl (slice_get ks n) t)) ∙ h)).2.1
    by_test false t = (image_sound ks (argument k) _ (dat_exact ks 0 k l) n y (sym (arg_dat ks n t) ∙ h)).2.1

arg_far : (ks : List Kind) (n q : ℕ) → arg_at ks n ≡ Err (TooDeep q) → 64 ≤ q
arg_far ks n q h = by_test (word_is wd.OpArgGbl (slice_get ks n)) refl
  where
    by_test : (t : Bool) → word_is wd.OpArgGbl (slice_get ks n) ≡ t → 64 ≤ q
    by_test true t =
        made_far ks _ (gbl_exact ks 0 0 refl) n q zero-le (sym (arg_gbl ks n (word_found wd.OpArgGbl (slice_get ks n) t)) ∙ h)
    by_test false t = made_far ks _ (dat_exact ks 0 0 refl) n q zero-le (sym (arg_dat ks n t) ∙ h)

argument_some : (k : ℕ) (a : LoopArg) → 1 ≤ length (argument k a)
argument_some k (arg.Dat at dat index through dim text a at') = omega arith
argument_some k (arg.Global at g dim text a at') = omega arith

-- an argument
pub arg_exact : (ks : List Kind) (from k : ℕ) → nat_lt 64 k ≡ false → Exact ks from 1 Any (argument k) Free Free (arg_at ks)
arg_exact ks from k l = record {
  complete = λ a n e o s h. arg_complete a n e s;
  sound = λ n y h. (let r = arg_sound ks k n y l h in record { valid = tt; spans = r.0; shallow = r.1; behind = tt });
  moves = λ n y h.
      (let r = arg_sound ks k n y l h in omega (arith, spans_end ks n (argument k y.0) y.1 r.0, argument_some k y.0));
  far = λ n q m h. arg_far ks n q h;
}
  where
    arg_complete : (a : LoopArg) (n e : ℕ) → Spans ks n (argument k a) e → arg_at ks n ≡ after (first_deep n (argument k a)) (Ok (a, e))
    arg_complete (arg.Dat at dat index through dim text a at') n e s =
        arg_dat ks n (rw s.0 refl) ∙ made_complete _ (dat_row ks) n e
        (at, (tt, (dat, (tt, (index, (tt, (through, (tt, (dim, (tt, (text, (tt, ((a, at'), tt))))))))))))) _
        ((dat_exact ks 0 k l).complete (
          at,
          (tt, (dat, (tt, (index, (tt, (through, (tt, (dim, (tt, (text, (tt, ((a, at'), tt)))))))))))),
        ) n e tt s tt)
    arg_complete (arg.Global at g dim text a at') n e s =
        arg_gbl ks n s.0 ∙ made_complete _ (global_row ks) n e (at, (tt, (g, (tt, (dim, (tt, (text, (tt, ((a, at'), tt))))))))) _
        ((gbl_exact ks 0 k l).complete (at, (tt, (g, (tt, (dim, (tt, (text, (tt, ((a, at'), tt))))))))) n e tt s tt)

arguments_are : (k : ℕ) (xs : List LoopArg) → arguments k xs ≡ tails k (argument k) xs
arguments_are k [] = refl
arguments_are k (x ∷ xs) = ap (λ z. sign_mark k sg.Comma ∷ (argument k x ++ z)) (arguments_are k xs)

tails_long : (k : ℕ) (xs : List LoopArg) → length xs ≤ length (tails k (argument k) xs)
tails_long k [] = zero-le
tails_long k (x ∷ xs) =
    omega (arith, tails_long k xs, length-append (argument k x) (tails k (argument k) xs))

pub all_any : {A : Type 0} (xs : List A) → AllValid Any xs
all_any [] = tt
all_any (x ∷ xs) = (tt, all_any xs)

pub paren_within : (ks : List Kind) (n : ℕ) → ParenAt ks n → n < length ks
paren_within ks n h = slice_get_within ks n (kind.Sign sg.RightParen) h

-- the arguments, before `)`
pub args_exact : (ks : List Kind) (from k : ℕ) → nat_lt 64 k ≡ false → Exact ks from 0 Any (arguments k) (λ xs e. ParenAt ks e) Free (args_at ks)
args_exact ks from k l = record {
  complete = λ xs n e o s h.
      (let s' = subst (λ z. Spans ks n z e) (arguments_are k xs) s in
      tails_complete ks from 1 k Any (argument k) Free Free (arg_at ks) (arg_exact ks from k l) l (λ a n h. tt) (λ a n h. tt) xs (length ks)
      n e (omega (arith, spans_end ks n (tails k (argument k) xs) e s', tails_long k xs, paren_within ks e h)) (all_any xs) s' h
      ∙ ap (λ z. after (first_deep n z) (Ok (xs, e))) (sym (arguments_are k xs)));
  sound = λ n y h.
      (let r = tails_sound ks from 1 k Any (argument k) Free Free (arg_at ks) (arg_exact ks from k l) l (λ a n h. tt) (λ a n h. tt) (length ks) n y h in
      record {
        valid = tt;
        spans = subst (λ z. Spans ks n z y.1) (sym (arguments_are k y.0)) r.1.0;
        shallow = ap (first_deep n) (arguments_are k y.0) ∙ r.1.1;
        behind = tt;
      });
  moves = λ n y h.
      (let r = tails_sound ks from 1 k Any (argument k) Free Free (arg_at ks) (arg_exact ks from k l) l (λ a n h. tt) (λ a n h. tt) (length ks) n y h in
      omega (arith, spans_end ks n (tails k (argument k) y.0) y.1 r.1.0));
  far = λ n q m h.
      tails_far ks from 1 k Any (argument k) Free Free (arg_at ks) (arg_exact ks from k l) l (λ a n h. tt) (λ a n h. tt) (length ks) n q m h;
}
