-- `main` and the whole source are read exactly as they are printed.
use Rattle.std.proofs.Common.{◌≡◌, ℕ, suc, ◌≤◌, ◌<◌, Bool, true, false, cond, ◌&&◌, List, [], ◌∷◌, ◌++◌, length, Option, Some, None, Result, Ok, Err, refl, sym, ap, subst, ◌∙◌, arith, slice_get, nat_eq, append_assoc, length-append, zero-le}
use Rattle.std.proofs.lemmas.Bool.{eqb-true, eq-eqb}
use Rattle.c_tree.specs.declared.lexer.tokens.Kind.{Kind}
use Rattle.c_tree.specs.declared.lexer.tokens.Kind.TheVariants as kind
use Rattle.c_tree.specs.declared.lexer.tokens.Pos.{Pos}
use Rattle.c_tree.specs.declared.lexer.tokens.Sign.TheVariants as sg
use Rattle.c_tree.specs.declared.lexer.tokens.Word.TheVariants as wd
use Rattle.c_tree.specs.declared.expressions.NumberLiteral.{NumberLiteral}
use Rattle.c_tree.specs.Tree.{TopTree, HostTree, HostTrees, MainTree, ProgramTree}
use Rattle.c_tree.specs.Print.{Mark, sign_at as sign_mark, word_at as word_mark, named_word, top, tops, hosts, argv_marks, return_marks, main, program}
use Rattle.c_tree.specs.Grouped.{IsTop, AreTops, AreHosts, IsProgram}
use Rattle.c_tree.specs.Reads.{first_deep}
use Rattle.c_reader.specs.declared.faults.Fault.{Fault}
use Rattle.c_reader.specs.declared.faults.Fault.TheVariants.{Syntax, TooDeep}
use Rattle.c_reader.specs.declared.hosts.Closing.TheVariants as closing
use Rattle.c_reader.specs.Descent.{◌>>=◌, sign_is, sign_at}
use Rattle.c_reader.specs.Rows.{both, word_is, word_at, sign, word, number}
use Rattle.c_reader.specs.Hosts.{host_at, hosts_in, host_trees}
use Rattle.c_reader.specs.Whole.{top_at, begins_main, tops_at, argv_at, return_at, main_front, main_end, main_at, whole}
use Rattle.c_reader.proofs.Spans.{Spans, spans_end, spans_split, spans_join, or_else, deep_split, after}
use Rattle.c_reader.proofs.Steps.{sign_at_is, sign_at_ok, sign_found}
use Rattle.c_reader.proofs.Sound.{bind_ok, ok_one}
use Rattle.c_reader.proofs.Far.{far_bind, sign_far}
use Rattle.c_reader.proofs.Exactness.{Exact, Any, Free, word_found, word_here, word_at_is, word_at_ok, word_far, number_is, number_ok, number_near, flat, sign_exact, word_exact, marked_exact}
use Rattle.c_reader.proofs.Lists.{AllValid, joined, until_complete, Listed, until_sound, until_far}
use Rattle.c_reader.proofs.Marks.{made_complete, made_far}
use Rattle.c_reader.proofs.CallRows.{then_exact, needy_then}
use Rattle.c_reader.proofs.HostLists.{list_of, trees_list}
use Rattle.c_reader.proofs.HostRows.{host_exact, block_complete, block_sound, block_far}
use Rattle.c_reader.proofs.Parts.{top_exact, no_main}

-- the parts before `main`
tops_joined : (ts : List TopTree) → tops ts ≡ joined top ts
tops_joined [] = refl
tops_joined (t ∷ ts) = ap (λ z. top t ++ z) (tops_joined ts)

all_tops : (ts : List TopTree) → AreTops ts → AllValid IsTop ts
all_tops [] h = tt
all_tops (t ∷ ts) h = (h.0, all_tops ts h.1)

tops_all : (ts : List TopTree) → AllValid IsTop ts → AreTops ts
tops_all [] h = tt
tops_all (t ∷ ts) h = (h.0, tops_all ts h.1)

main_within : (ks : List Kind) (n : ℕ) → begins_main ks n ≡ true → n < length ks
main_within ks n h = by_first (word_is wd.Int (slice_get ks n)) refl h
  where
    by_first : (t : Bool) → word_is wd.Int (slice_get ks n) ≡ t → (t && word_is wd.Main (slice_get ks (suc n))) ≡ true → n < length ks
    by_first true i h = Rattle.std.proofs.lemmas.Option.slice_get_within ks n (kind.Word wd.Int) (word_found wd.Int (slice_get ks n) i)
    by_first false i h = cc

tops_complete : (ks : List Kind) (ts : List TopTree) (n e : ℕ) → AreTops ts → length ts < length ks → Spans ks n (tops ts) e
    → begins_main ks e ≡ true → tops_at ks n ≡ after (first_deep n (tops ts)) (Ok (ts, e))
tops_complete ks ts n e o l s h =
    until_complete ks 0 IsTop top Free Free (top_at ks) (top_exact ks) (begins_main ks) (λ j. Unit {0})
    (λ a n e more o s. (no_main ks a n e more o s, tt)) (λ n h. tt) (λ a n g. tt) ts (length ks) n e l (all_tops ts o)
    (subst (λ z. Spans ks n z e) (tops_joined ts) s) h ∙ ap (λ z. after z (Ok (ts, e))) (sym (ap (first_deep n) (tops_joined ts)))

-- `**argv` or `*argv[]`
starred_exact : (ks : List Kind) → Exact ks 0 3 Any
    (λ v. word_mark 0 wd.Argv ∷ sign_mark 0 sg.LeftBracket ∷ sign_mark 0 sg.RightBracket ∷ []) Free Free
    (both (word ks wd.Argv) (both (sign ks sg.LeftBracket) (sign ks sg.RightBracket)))
starred_exact ks = flat ks (word_exact ks 0 0 wd.Argv refl) (flat ks (sign_exact ks 0 0 sg.LeftBracket refl) (sign_exact ks 0 0 sg.RightBracket refl))

argv_plain : (ks : List Kind) (n m e : ℕ) → sign_at ks sg.Star n ≡ Ok m → slice_get ks m ≡ Some (kind.Sign sg.Star) → word_at ks wd.Argv (suc m) ≡ Ok e → argv_at ks n ≡ Ok (false, e)
unfolding argv_at
argv_plain ks n m e a b c = rw (a, b, c) refl

argv_bracket : (ks : List Kind) (n m e : ℕ) → sign_at ks sg.Star n ≡ Ok m → sign_is sg.Star (slice_get ks m) ≡ false
    → both (word ks wd.Argv) (both (sign ks sg.LeftBracket) (sign ks sg.RightBracket)) m ≡ Ok ((tt, (tt, tt)), e)
    → argv_at ks n ≡ Ok (true, e)
unfolding argv_at
argv_bracket ks n m e a b c = rw (a, b, c) refl

argv_complete : (ks : List Kind) (b : Bool) (n e : ℕ) → Spans ks n (argv_marks b) e → argv_at ks n ≡ Ok (b, e)
argv_complete ks true n e s =
    argv_bracket ks n (suc n) e (sign_at_is ks sg.Star n s.0) (rw s.2.0 refl) ((starred_exact ks).complete (tt, (tt, tt)) (suc n) e tt s.2 tt)
argv_complete ks false n e s =
    argv_plain ks n (suc n) e (sign_at_is ks sg.Star n s.0) s.2.0 (word_at_is ks wd.Argv (suc (suc n)) s.2.2.0 ∙ ap Ok s.2.2.2)

argv_sound : (ks : List Kind) (n : ℕ) (y : Bool × ℕ) → argv_at ks n ≡ Ok y → Spans ks n (argv_marks y.0) y.1
unfolding argv_at
argv_sound ks n y h =
    let m = bind_ok (sign_at ks sg.Star n) _ y h in
    let g = sign_at_ok ks sg.Star n m.0 m.1 in
    by_test m.0 g.0 g.1 (sign_is sg.Star (slice_get ks m.0)) refl m.2
  where
    by_test : (m : ℕ) → slice_get ks n ≡ Some (kind.Sign sg.Star) → m ≡ suc n → (t : Bool) → sign_is sg.Star (slice_get ks m) ≡ t
        → cond t (word_at ks wd.Argv (suc m) >>= λ e. Ok (false, e))
        (both (word ks wd.Argv) (both (sign ks sg.LeftBracket) (sign ks sg.RightBracket)) m >>= λ e. Ok (true, e.1)) ≡ Ok y
        → Spans ks n (argv_marks y.0) y.1
    by_test m a i true t h =
        let e = bind_ok (word_at ks wd.Argv (suc m)) _ y h in
        let g = word_at_ok ks wd.Argv (suc m) e.0 e.1 in
        let behind : Spans ks m (sign_mark 0 sg.Star ∷ word_mark 0 wd.Argv ∷ []) e.0 = (sign_found sg.Star (slice_get ks m) t, tt, (g.0, tt, sym g.1)) in
        let row : Spans ks n (argv_marks false) e.0 = (a, tt, subst (λ z. Spans ks z (sign_mark 0 sg.Star ∷ word_mark 0 wd.Argv ∷ []) e.0) i behind) in
        subst (λ (w : Bool × ℕ). Spans ks n (argv_marks w.0) w.1) (ok_one (false, e.0) y e.2) row
    by_test m a i false t h =
        let e = bind_ok (both (word ks wd.Argv) (both (sign ks sg.LeftBracket) (sign ks sg.RightBracket)) m) _ y h in
        let g = (starred_exact ks).sound m e.0 e.1 in
        let row : Spans ks n (argv_marks true) e.0.1 = (a, tt, subst (λ z. Spans ks z (word_mark 0 wd.Argv ∷ sign_mark 0 sg.LeftBracket ∷ sign_mark 0 sg.RightBracket ∷ []) e.0.1) i g.spans) in
        subst (λ (w : Bool × ℕ). Spans ks n (argv_marks w.0) w.1) (ok_one (true, e.0.1) y e.2) row

argv_far : (ks : List Kind) (n q : ℕ) → argv_at ks n ≡ Err (TooDeep q) → 64 ≤ q
unfolding argv_at
argv_far ks n q h =
    far_bind (sign_at ks sg.Star n) _ q h (sign_far ks sg.Star n q) (λ m r g. by_test m (sign_is sg.Star (slice_get ks m)) g)
  where
    by_test : (m : ℕ) (t : Bool) → ◌≡◌ {A = Result (Bool × ℕ) Fault}
        (cond t (word_at ks wd.Argv (suc m) >>= λ e. Ok (false, e))
        (both (word ks wd.Argv) (both (sign ks sg.LeftBracket) (sign ks sg.RightBracket)) m >>= λ e. Ok (true, e.1))) (Err (TooDeep q))
        → 64 ≤ q
    by_test m true h = far_bind (word_at ks wd.Argv (suc m)) _ q h (word_far ks wd.Argv (suc m) q) (λ e r g. cc)
    by_test m false h = far_bind (both (word ks wd.Argv) (both (sign ks sg.LeftBracket) (sign ks sg.RightBracket)) m) _ q h ((starred_exact ks).far m q zero-le) (λ e r g. cc)

argv_deep : (b : Bool) (n : ℕ) → first_deep n (argv_marks b) ≡ None
argv_deep true n = refl
argv_deep false n = refl

argv_some : (b : Bool) → 3 ≤ length (argv_marks b)
argv_some true = omega arith
argv_some false = omega arith

argv_exact : (ks : List Kind) → Exact ks 0 3 Any argv_marks Free Free (argv_at ks)
argv_exact ks = record {
  complete = λ b n e o s h. argv_complete ks b n e s ∙ ap (λ z. after z (Ok (b, e))) (sym (argv_deep b n));
  sound = λ n y h. record { valid = tt; spans = argv_sound ks n y h; shallow = argv_deep y.0 n; behind = tt };
  moves = λ n y h. omega (arith, spans_end ks n (argv_marks y.0) y.1 (argv_sound ks n y h), argv_some y.0);
  far = λ n q l h. argv_far ks n q h;
}

-- `return` and its number, where they are there
return_yes : (ks : List Kind) (n e : ℕ) (v : NumberLiteral) → slice_get ks n ≡ Some (kind.Word wd.Return)
    → number ks (suc n) ≡ Ok (v, suc (suc n)) → sign_at ks sg.Semicolon (suc (suc n)) ≡ Ok e → return_at ks n ≡ Ok (Some v, e)
unfolding return_at
return_yes ks n e v a b c = rw (word_here wd.Return (slice_get ks n) a, b, c) refl

return_no : (ks : List Kind) (n : ℕ) → word_is wd.Return (slice_get ks n) ≡ false → return_at ks n ≡ Ok (None, n)
unfolding return_at
return_no ks n h = rw h refl

-- `}` stands there
abbrev BraceAt : List Kind → ℕ → Type 0
BraceAt ks n = slice_get ks n ≡ Some (kind.Sign sg.RightBrace)

return_complete : (ks : List Kind) (v : Option NumberLiteral) (n e : ℕ) → Spans ks n (return_marks v) e → BraceAt ks e → return_at ks n ≡ Ok (v, e)
return_complete ks None n e s h =
    return_no ks n (rw (ap (slice_get ks) s ∙ h) refl) ∙ ap (λ (z : ℕ). Ok (None, z)) s
return_complete ks (Some v) n e s h =
    return_yes ks n e v s.0 (number_is ks v (suc n) s.2.0 s.2.1) (sign_at_is ks sg.Semicolon (suc (suc n)) s.2.2.0 ∙ ap Ok s.2.2.2)

return_sound : (ks : List Kind) (n : ℕ) (y : Option NumberLiteral × ℕ) → return_at ks n ≡ Ok y → Spans ks n (return_marks y.0) y.1
unfolding return_at
return_sound ks n y h = by_test (word_is wd.Return (slice_get ks n)) refl h
  where
    by_test : (t : Bool) → word_is wd.Return (slice_get ks n) ≡ t
        → cond t (number ks (suc n) >>= λ v. sign_at ks sg.Semicolon v.1 >>= λ e. Ok (Some v.0, e)) (Ok (None, n)) ≡ Ok y
        → Spans ks n (return_marks y.0) y.1
    by_test true t h =
        let v = bind_ok (number ks (suc n)) _ y h in
        let e = bind_ok (sign_at ks sg.Semicolon v.0.1) _ y v.2 in
        let a = number_ok ks (suc n) v.0 v.1 in
        let b = sign_at_ok ks sg.Semicolon v.0.1 e.0 e.1 in
        let last : Spans ks v.0.1 (sign_mark 0 sg.Semicolon ∷ []) e.0 = (b.0, tt, sym b.1) in
        let row : Spans ks n (return_marks (Some v.0.0)) e.0 = (word_found wd.Return (slice_get ks n) t, tt, (a.0, a.1, subst (λ z. Spans ks z (sign_mark 0 sg.Semicolon ∷ []) e.0) (sym a.2) last)) in
        subst (λ (w : Option NumberLiteral × ℕ). Spans ks n (return_marks w.0) w.1) (ok_one (Some v.0.0, e.0) y e.2) row
    by_test false t h =
        let row : Spans ks n (return_marks None) n = refl in
        subst (λ (w : Option NumberLiteral × ℕ). Spans ks n (return_marks w.0) w.1) (ok_one (None, n) y h) row

return_far : (ks : List Kind) (n q : ℕ) → return_at ks n ≡ Err (TooDeep q) → 64 ≤ q
unfolding return_at
return_far ks n q h = by_test (word_is wd.Return (slice_get ks n)) h
  where
    by_test : (t : Bool) → ◌≡◌ {A = Result (Option NumberLiteral × ℕ) Fault}
        (cond t (number ks (suc n) >>= λ v. sign_at ks sg.Semicolon v.1 >>= λ e. Ok (Some v.0, e)) (Ok (None, n))) (Err (TooDeep q))
        → 64 ≤ q
    by_test true h = far_bind (number ks (suc n)) _ q h (λ g. absurd (number_near ks (suc n) q g))
        (λ v r g. far_bind (sign_at ks sg.Semicolon v.1) _ q g (sign_far ks sg.Semicolon v.1 q) (λ e r g. cc))
    by_test false h = cc

return_deep : (v : Option NumberLiteral) (n : ℕ) → first_deep n (return_marks v) ≡ None
return_deep None n = refl
return_deep (Some v) n = refl

return_exact : (ks : List Kind) → Exact ks 0 0 Any return_marks (λ v e. BraceAt ks e) Free (return_at ks)
return_exact ks = record {
  complete = λ v n e o s h. return_complete ks v n e s h ∙ ap (λ z. after z (Ok (v, e))) (sym (return_deep v n));
  sound = λ n y h. record { valid = tt; spans = return_sound ks n y h; shallow = return_deep y.0 n; behind = tt };
  moves = λ n y h. omega (arith, spans_end ks n (return_marks y.0) y.1 (return_sound ks n y h));
  far = λ n q l h. return_far ks n q h;
}

-- the statements of `main`
list_trees : (xs : List HostTree) → list_of (host_trees xs) ≡ xs
list_trees [] = refl
list_trees (x ∷ xs) = ap (λ z. x ∷ z) (list_trees xs)

abbrev ExitAt : List Kind → ℕ → Type 0
ExitAt ks n = slice_get ks n ≡ Some (kind.Word wd.OpExit)

body_exact : (ks : List Kind) → Exact ks 1 0 (λ xs. AreHosts (host_trees xs)) (λ xs. hosts 1 (host_trees xs)) (λ xs e. ExitAt ks e) Free (hosts_in ks closing.Exit (host_at ks 64))
body_exact ks = record {
  complete = λ xs n e o s h.
      block_complete ks 0 0 64 refl zero-le (host_at ks 64) (host_exact ks 64 1 1 refl (omega arith)) closing.Exit (kind.Word wd.OpExit)
      (host_trees xs) n e o s h (word_here wd.OpExit (slice_get ks e) h)
      ∙ ap (λ (z : List HostTree). after (first_deep n (hosts 1 (host_trees xs))) (Ok (z, e))) (list_trees xs);
  sound = λ n y h.
      (let r = block_sound ks 0 0 64 refl zero-le (host_at ks 64) (host_exact ks 64 1 1 refl (omega arith)) closing.Exit n y h in
      record { valid = r.0; spans = r.1.0; shallow = r.1.1; behind = tt });
  moves = λ n y h.
      (let r = block_sound ks 0 0 64 refl zero-le (host_at ks 64) (host_exact ks 64 1 1 refl (omega arith)) closing.Exit n y h in
      omega (arith, spans_end ks n (hosts 1 (host_trees y.0)) y.1 r.1.0));
  far = λ n q l h.
      block_far ks 0 0 64 refl zero-le (host_at ks 64) (host_exact ks 64 1 1 refl (omega arith)) closing.Exit n q l h;
}

-- `main` up to its statements, and behind them
abbrev front_marks : ℕ → Bool → List Mark
front_marks at b =
    word_mark 0 wd.Int ∷ named_word 0 wd.Main at ∷ sign_mark 0 sg.LeftParen ∷ word_mark 0 wd.Int ∷ word_mark 0 wd.Argc
    ∷ sign_mark 0 sg.Comma ∷ word_mark 0 wd.Char ∷ (argv_marks b ++ (sign_mark 0 sg.RightParen ∷ sign_mark 0 sg.LeftBrace ∷ []))

abbrev end_marks : ℕ → Option NumberLiteral → List Mark
end_marks at v =
    named_word 0 wd.OpExit at ∷ sign_mark 0 sg.LeftParen ∷ sign_mark 0 sg.RightParen ∷ sign_mark 0 sg.Semicolon ∷ (return_marks v ++ sign_mark 0 sg.RightBrace ∷ [])

front_exact : (ks : List Kind) → Exact ks 0 12 Any (λ v. front_marks v.1.0 v.1.1.1.1.1.1.1.0) Free Free (main_front ks)
front_exact ks =
    flat ks (word_exact ks 0 0 wd.Int refl)
    (flat ks (marked_exact ks 0 0 wd.Main refl)
    (flat ks (sign_exact ks 0 0 sg.LeftParen refl)
    (flat ks (word_exact ks 0 0 wd.Int refl)
    (flat ks (word_exact ks 0 0 wd.Argc refl)
    (flat ks (sign_exact ks 0 0 sg.Comma refl)
    (flat ks (word_exact ks 0 0 wd.Char refl)
    (flat ks (argv_exact ks) (flat ks (sign_exact ks 0 0 sg.RightParen refl) (sign_exact ks 0 0 sg.LeftBrace refl)))))))))

end_exact : (ks : List Kind) → Exact ks 0 5 Any (λ v. end_marks v.0 v.1.1.1.1.0) Free Free (main_end ks)
end_exact ks =
    flat ks (marked_exact ks 0 0 wd.OpExit refl)
    (flat ks (sign_exact ks 0 0 sg.LeftParen refl)
    (flat ks (sign_exact ks 0 0 sg.RightParen refl)
    (flat ks (sign_exact ks 0 0 sg.Semicolon refl)
    (needy_then ks (omega arith) (return_exact ks) (sign_exact ks 0 0 sg.RightBrace refl) (λ a b j e s. s.0)))))

-- what stands behind the front
tail_exact : (ks : List Kind) → Exact ks 1 5 (λ v. AreHosts (host_trees v.0))
    (λ v. hosts 1 (host_trees v.0) ++ end_marks v.1.0 v.1.1.1.1.1.0) Free Free
    (both (hosts_in ks closing.Exit (host_at ks 64)) (main_end ks))
tail_exact ks = needy_then ks (omega arith) (body_exact ks) (end_exact ks) (λ a b j e s. s.0)

abbrev row_marks : ℕ → Bool → HostTrees → ℕ → Option NumberLiteral → List Mark
row_marks at b hs exit v = front_marks at b ++ (hosts 1 hs ++ end_marks exit v)

row_exact : (ks : List Kind) → Exact ks 0 17 (λ v. AreHosts (host_trees v.1.0))
    (λ v. row_marks v.0.1.0 v.0.1.1.1.1.1.1.1.0 (host_trees v.1.0) v.1.1.0 v.1.1.1.1.1.1.0) Free Free
    (both (main_front ks) (both (hosts_in ks closing.Exit (host_at ks 64)) (main_end ks)))
row_exact ks = then_exact ks (omega arith) (front_exact ks) (tail_exact ks)

main_row : (m : MainTree) → main m ≡ row_marks m.at m.argv_has_brackets m.body m.exit_at m.returned
main_row m =
    ap (λ z. word_mark 0 wd.Int ∷ named_word 0 wd.Main m.at ∷ sign_mark 0 sg.LeftParen ∷ word_mark 0 wd.Int ∷ word_mark 0 wd.Argc
    ∷ sign_mark 0 sg.Comma ∷ word_mark 0 wd.Char ∷ z)
    (sym (append_assoc (argv_marks m.argv_has_brackets) (sign_mark 0 sg.RightParen ∷ sign_mark 0 sg.LeftBrace ∷ [])
    (hosts 1 m.body ++ end_marks m.exit_at m.returned)))

main_is : (ks : List Kind) (m : MainTree) (xs : List HostTree) (n e : ℕ) → AreHosts (host_trees xs) → host_trees xs ≡ m.body
    → Spans ks n (row_marks m.at m.argv_has_brackets (host_trees xs) m.exit_at m.returned) e
    → main_at ks n ≡ after (first_deep n (row_marks m.at m.argv_has_brackets (host_trees xs) m.exit_at m.returned))
    (Ok (
      record { at = m.at; argv_has_brackets = m.argv_has_brackets; body = host_trees xs; exit_at = m.exit_at; returned = m.returned },
      e,
    ))
unfolding main_at
main_is ks m xs n e o i s =
    made_complete _ (both (main_front ks) (both (hosts_in ks closing.Exit (host_at ks 64)) (main_end ks))) n e
    ((tt, (m.at, (tt, (tt, (tt, (tt, (tt, (m.argv_has_brackets, (tt, tt))))))))), (xs, (m.exit_at, (tt, (tt, (tt, (m.returned, tt)))))))
    (first_deep n (row_marks m.at m.argv_has_brackets (host_trees xs) m.exit_at m.returned))
    ((row_exact ks).complete (
      (tt, (m.at, (tt, (tt, (tt, (tt, (tt, (m.argv_has_brackets, (tt, tt))))))))),
      (xs, (m.exit_at, (tt, (tt, (tt, (m.returned, tt)))))),
    ) n e o s tt)

main_complete : (ks : List Kind) (m : MainTree) (n e : ℕ) → AreHosts m.body → Spans ks n (main m) e → main_at ks n ≡ after (first_deep n (main m)) (Ok (m, e))
main_complete ks m n e o s =
    let xs = list_of m.body in
    let same : host_trees xs ≡ m.body = trees_list m.body in
    let s' = subst (λ z. Spans ks n z e) (main_row m) s in
    let valid : AreHosts (host_trees xs) = subst AreHosts (sym same) o in
    let rowed : Spans ks n (row_marks m.at m.argv_has_brackets (host_trees xs) m.exit_at m.returned) e =
    subst (λ z. Spans ks n (row_marks m.at m.argv_has_brackets z m.exit_at m.returned) e) (sym same) s' in
    main_is ks m xs n e valid same rowed ∙ ap
    (λ (z : HostTrees). after (first_deep n (row_marks m.at m.argv_has_brackets z m.exit_at m.returned))
    (Ok (record { at = m.at; argv_has_brackets = m.argv_has_brackets; body = z; exit_at = m.exit_at; returned = m.returned }, e))) same
    ∙ ap (λ z. after z (Ok (m, e))) (sym (ap (first_deep n) (main_row m)))

-- a `main` that was read
record FoundMain (ks : List Kind) (n : ℕ) (m : MainTree) (e : ℕ) : Type 0 where
  valid : AreHosts m.body
  spans : Spans ks n (main m) e
  shallow : first_deep n (main m) ≡ None

main_sound : (ks : List Kind) (n : ℕ) (y : MainTree × ℕ) → main_at ks n ≡ Ok y → FoundMain ks n y.0 y.1
unfolding main_at
main_sound ks n y h =
    let v = bind_ok (both (main_front ks) (both (hosts_in ks closing.Exit (host_at ks 64)) (main_end ks)) n) _ y h in
    let r = (row_exact ks).sound n v.0 v.1 in
    let tree : MainTree = record { at = v.0.0.0.1.0; argv_has_brackets = v.0.0.0.1.1.1.1.1.1.1.0; body = host_trees v.0.0.1.0; exit_at = v.0.0.1.1.0; returned = v.0.0.1.1.1.1.1.1.0 } in
    let made_ : FoundMain ks n tree v.0.1 = record {
      valid = r.valid;
      spans = subst (λ z. Spans ks n z v.0.1) (sym (main_row tree)) r.spans;
      shallow = ap (first_deep n) (main_row tree) ∙ r.shallow;
    } in
    subst (λ (w : MainTree × ℕ). FoundMain ks n w.0 w.1) (ok_one (tree, v.0.1) y v.2) made_

main_far : (ks : List Kind) (n q : ℕ) → main_at ks n ≡ Err (TooDeep q) → 64 ≤ q
unfolding main_at
main_far ks n q h = made_far ks _ (row_exact ks) n q zero-le h

-- the whole source
whole_is : (ks : List Kind) (places : List Pos) (ts : List TopTree) (m : MainTree) (j : ℕ) (a b : Option ℕ)
    → tops_at ks 0 ≡ after a (Ok (ts, j)) → main_at ks j ≡ after b (Ok (m, length ks))
    → whole ks places ≡ after (or_else a b) (Ok (record { tops = ts; main = m; places = places }))
unfolding whole
whole_is ks places ts m j None None h g = rw (h, g, eq-eqb (length ks) (length ks) refl) refl
whole_is ks places ts m j None (Some p) h g = rw (h, g) refl
whole_is ks places ts m j (Some p) b h g = rw h refl

tops_long : (ts : List TopTree) → length ts ≤ length (tops ts)
tops_long [] = zero-le
tops_long (t ∷ ts) = omega (arith, tops_long ts, length-append (top t) (tops ts), Rattle.c_reader.proofs.Parts.top_some t)

begins : (ks : List Kind) (m : MainTree) (n e : ℕ) → Spans ks n (main m) e → begins_main ks n ≡ true
begins ks m n e s = rw (s.0, s.2.0) refl

pub whole_complete : (ks : List Kind) (p : ProgramTree) → IsProgram p → Spans ks 0 (program p) (length ks) → whole ks p.places ≡ after (first_deep 0 (program p)) (Ok p)
whole_complete ks p o s =
    let r = spans_split ks 0 (tops p.tops) (main p.main) (length ks) s in
    let long = spans_end ks 0 (tops p.tops) r.0 r.1 in
    let ends = main_within ks r.0 (begins ks p.main r.0 (length ks) r.2) in
    let one = tops_complete ks p.tops 0 r.0 o.0 (omega (arith, long, ends, tops_long p.tops)) r.1 (begins ks p.main r.0 (length ks) r.2) in
    let two = main_complete ks p.main r.0 (length ks) o.1 r.2 in
    whole_is ks p.places p.tops p.main r.0 (first_deep 0 (tops p.tops)) (first_deep r.0 (main p.main)) one two ∙ ap (λ z. after z (Ok p)) (sym (deep_split ks 0 (tops p.tops) (main p.main) r.0 r.1))

-- a tree of the whole source that was read
pub record FoundWhole (ks : List Kind) (places : List Pos) (p : ProgramTree) : Type 0 where
  pub placed : p.places ≡ places
  pub valid : IsProgram p
  pub spans : Spans ks 0 (program p) (length ks)
  pub shallow : first_deep 0 (program p) ≡ None

pub whole_sound : (ks : List Kind) (places : List Pos) (p : ProgramTree) → whole ks places ≡ Ok p → FoundWhole ks places p
unfolding whole
whole_sound ks places p h =
    let t = bind_ok (tops_at ks 0) _ p h in
    let m = bind_ok (main_at ks t.0.1) _ p t.2 in
    let a = (until_sound ks 0 1 IsTop top Free Free (top_at ks) (top_exact ks) (begins_main ks) (length ks) 0 t.0 t.1).0 in
    let b = main_sound ks t.0.1 m.0 m.1 in
    by_end t.0.0 t.0.1 m.0.0 m.0.1 a b (nat_eq m.0.1 (length ks)) refl m.2
  where
    by_end : (ts : List TopTree) (j : ℕ) (m : MainTree) (e : ℕ) → Listed ks IsTop top 0 ts j → FoundMain ks j m e → (t : Bool)
        → nat_eq e (length ks) ≡ t → ◌≡◌ {A = Result ProgramTree Fault}
        (cond t (Ok (record { tops = ts; main = m; places = places })) (Err (Syntax e))) (Ok p) → FoundWhole ks places p
    by_end ts j m e a b true i h =
        let joined_ = tops_joined ts in
        let front : Spans ks 0 (tops ts) j = subst (λ z. Spans ks 0 z j) (sym joined_) a.spans in
        let end : e ≡ length ks = eqb-true e (length ks) i in
        let row : Spans ks 0 (tops ts ++ main m) (length ks) = subst (λ z. Spans ks 0 (tops ts ++ main m) z) end (spans_join ks 0 (tops ts) (main m) j e front b.spans) in
        let made_ : FoundWhole ks places (record { tops = ts; main = m; places = places }) = record {
          placed = refl;
          valid = (tops_all ts a.valid, b.valid);
          spans = row;
          shallow = deep_split ks 0 (tops ts) (main m) j front ∙ rw (ap (first_deep 0) joined_ ∙ a.shallow, b.shallow) refl;
        } in
        subst (FoundWhole ks places) (one _ p h) made_
      where
        one : (a b : ProgramTree) → ◌≡◌ {A = Result ProgramTree Fault} (Ok a) (Ok b) → a ≡ b
        one a b h = cc
    by_end ts j m e a b false i h = cc

pub whole_far : (ks : List Kind) (places : List Pos) (q : ℕ) → whole ks places ≡ Err (TooDeep q) → 64 ≤ q
unfolding whole
whole_far ks places q h =
    far_bind (tops_at ks 0) _ q h (until_far ks 0 1 IsTop top Free Free (top_at ks) (top_exact ks) (begins_main ks) (length ks) 0 q zero-le)
    (λ t r g. far_bind (main_at ks t.1) _ q g (main_far ks t.1 q) (λ m r g. by_end t m (nat_eq m.1 (length ks)) g))
  where
    by_end : (t : List TopTree × ℕ) (m : MainTree × ℕ) (b : Bool)
        → ◌≡◌ {A = Result ProgramTree Fault} (cond b (Ok (record { tops = t.0; main = m.0; places = places })) (Err (Syntax m.1)))
        (Err (TooDeep q)) → 64 ≤ q
    by_end t m true h = cc
    by_end t m false h = cc
