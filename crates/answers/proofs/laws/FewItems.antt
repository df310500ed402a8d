-- 32 bits count the items of the heads of a bound program: each variable and each dat is declared by a token of its source.
use Rattle.std.proofs.Common.{◌≡◌, ◌<◌, ◌≤◌, ◌+◌, ◌^◌, ℕ, zero, suc, ℤ, Bool, true, false, List, ◌∷◌, ◌++◌, length, map, take, Ok, Err, if◌then◌else◌, refl, sym, ap, ◌∙◌, subst, arith, codes, length-append, []}
use Rattle.std.proofs.lemmas.List.{length-take-le, length-map}
use Rattle.std.proofs.lemmas.List.FromFn.{length-map-range_with_len}
use Rattle.c_tree.specs.declared.lexer.tokens.Token.{Token}
use Rattle.c_tree.specs.declared.lexer.tokens.Sign.TheVariants as sign
use Rattle.c_tree.specs.declared.lexer.tokens.Word.TheVariants as word
use Rattle.c_tree.specs.Lexed.{Lexes}
use Rattle.c_tree.specs.Tree.{ProgramTree}
use Rattle.c_tree.specs.Print.{Mark, sign_at, named_word, tops, hosts, argv_marks, return_marks, main, program}
use Rattle.c_tree.specs.Reads.{Reads}
use Rattle.kernel_model.specs.declared.types.kernels.Resolved.{Resolved}
use Rattle.mesh_decl.specs.Mesh.{dat_count}
use Rattle.mesh_decl.specs.Spelling.{Named}
use Rattle.bound_program.specs.Refusals.{Judged}
use Rattle.bound_program.specs.Limits.{max_trace}
use Rattle.bound_program.specs.Values.{BoundValue, VarValue, ItemValue}
use Rattle.main_declarations.specs.SoFar.{Walked, quiet, nothing_declared}
use Rattle.bound_program.specs.Trace.{Event, Turn, Does, Tells, Stops}
use Rattle.bound_program.specs.Limited.{UnrolledValue, before, item, told, unrolled}
use Rattle.main_declarations.specs.File.{judged_tops}
use Rattle.loop_bind.specs.Text.{outermost, judged_hosts}
use Rattle.loop_bind.specs.Weights.{within_weight, weight_of_all, trace}
use Rattle.loop_bind.specs.Bound.{text, happens, finished, unrolled_text, bound}
use Rattle.main_declarations.proofs.Public.{Gives, gives_then, gives_weaker, gives_any}
use Rattle.run_model.specs.Windows.{numbers}
use Rattle.checkpoint.specs.Cut.{CanCut, starts, says, says_var, says_vars, says_dat, says_state, head}
use Rattle.answers.proofs.laws.FewDeclared.{told_same, Few, WalkedFew, gives_more, tops_few, hosts_few}

-- ---- the trace

item_more : (x : ItemValue) (n : ℕ) (r : Judged UnrolledValue) → Gives (λ (u : UnrolledValue). length u.items ≤ n) r → Gives (λ (u : UnrolledValue). length u.items ≤ suc n) (before (item x) r)
item_more x n (Ok u) h = omega (arith, h)
item_more x n (Err e) h = tt

told_more : (v : ℕ) (z : ℤ) (n : ℕ) (r : Judged UnrolledValue) → Gives (λ (u : UnrolledValue). length u.items ≤ n) r → Gives (λ (u : UnrolledValue). length u.items ≤ n) (before (told v z) r)
told_more v z n (Ok u) h = h
told_more v z n (Err e) h = tt

unrolled_few : (n : ℕ) (xs : List Event) → Gives (λ (u : UnrolledValue). length u.items ≤ n) (unrolled n xs)
unrolled_few n [] = omega arith
unrolled_few n (Stops at ∷ xs) = tt
unrolled_few n (Tells v z ∷ xs) = told_more v z n (unrolled n xs) (unrolled_few n xs)
unrolled_few zero (Turn ∷ xs) = tt
unrolled_few zero (Does x ∷ xs) = tt
unrolled_few (suc n) (Turn ∷ xs) =
    gives_weaker (λ (u : UnrolledValue). length u.items ≤ n) (λ (u : UnrolledValue). length u.items ≤ suc n) (unrolled n xs) (unrolled_few n xs) (λ u h. omega (arith, h))
unrolled_few (suc n) (Does x ∷ xs) = item_more x n (unrolled n xs) (unrolled_few n xs)

-- ---- the program

-- so many items, and so many variables that aren't `const` and dats
pub record IsShort (n : ℕ) (b : BoundValue) : Type 0 where
  pub trace : length b.trace ≤ max_trace
  pub declared : length (starts b.vars) + length b.mesh.dats ≤ n

walked_short : (n : ℕ) (r : Resolved) (w : Walked) → WalkedFew n w → Gives (IsShort n) (unrolled_text r w)
walked_short n r w h =
    gives_then (λ (u : UnrolledValue). length u.items ≤ max_trace) (IsShort n) (trace w.declared.mesh (happens w)) (λ u. Ok (finished r w.declared u))
    (gives_then (λ (u : UnrolledValue). length u.items ≤ max_trace) (λ (u : UnrolledValue). length u.items ≤ max_trace) (unrolled max_trace (happens w)) _ (unrolled_few max_trace (happens w))
    (λ u f. gives_then (λ v. Unit {0}) (λ (u : UnrolledValue). length u.items ≤ max_trace)
    (within_weight (weight_of_all w.declared.mesh u.items)) (λ v. Ok u)
    (gives_any (within_weight (weight_of_all w.declared.mesh u.items))) (λ v t. f)))
    (λ u f. let e = told_same u.values w.declared.vars in record { trace = f; declared = omega (arith, h, e) })

text_short : (p : ProgramTree) (r : Resolved) (es : List Named) → Gives (IsShort (length (tops p.tops) + length (hosts 1 p.main.body))) (bound p r es)
text_short p r es =
    let n = length (tops p.tops) in
    gives_then (WalkedFew (n + length (hosts 1 p.main.body))) (IsShort (n + length (hosts 1 p.main.body))) (text p r es) (unrolled_text r)
    (gives_then (Few n) (WalkedFew (n + length (hosts 1 p.main.body))) (judged_tops p.places r.consts.items es nothing_declared p.tops)
    (λ k. judged_hosts p.places r.consts.items es (quiet k) outermost p.main.body)
    (gives_more (0 + n) n (judged_tops p.places r.consts.items es nothing_declared p.tops) (omega arith) (tops_few p.places r.consts.items es 0 nothing_declared p.tops (omega arith)))
    (λ k i. hosts_few p.places r.consts.items es n 1 (quiet k) outermost p.main.body i))
    (λ w i. walked_short (n + length (hosts 1 p.main.body)) r w i)

-- the tokens of the file's declarations and of `main`'s statements are among those of the source
program_long : (p : ProgramTree) → length (tops p.tops) + length (hosts 1 p.main.body) ≤ length (program p)
program_long p =
    let last = named_word 0 word.OpExit p.main.exit_at ∷ sign_at 0 sign.LeftParen ∷ sign_at 0 sign.RightParen ∷ sign_at 0 sign.Semicolon
    ∷ (return_marks p.main.returned ++ sign_at 0 sign.RightBrace ∷ []) in
    let rest = sign_at 0 sign.RightParen ∷ sign_at 0 sign.LeftBrace ∷ (hosts 1 p.main.body ++ last) in
    let a = length-append (tops p.tops) (main p.main) in
    let b = length-append (argv_marks p.main.argv_has_brackets) rest in
    let c = length-append (hosts 1 p.main.body) last in
    omega (arith, a, b, c)

-- ---- heads

flag_vars : (b : Bool) (x : ItemValue) (xs ys : List ItemValue) (s : List ℤ) (zs : List (List ℤ)) → length xs ≡ length zs
    → length ys ≡ length zs → length (if b then xs else x ∷ ys) ≡ length (if b then zs else s ∷ zs)
flag_vars true x xs ys s zs e f = e
flag_vars false x xs ys s zs e f = ap suc f

vars_said : (n from : ℕ) (xs : List VarValue) → length (says_vars n from xs) ≡ length (starts xs)
vars_said n from [] = refl
vars_said n from (x ∷ xs) =
    flag_vars x.is_const (says_var n (map (λ i. from + i) (numbers (length x.start)))) (says_vars n (from + length x.start) xs) (says_vars (suc n) (from + length x.start) xs) x.start (starts xs)
    (vars_said n (from + length x.start) xs) (vars_said (suc n) (from + length x.start) xs)

head_short : (n k : ℕ) (b : BoundValue) → IsShort n b → n < 2 ^ 31 → CanCut b k → length (head b k).trace < 2 ^ 32
head_short n k b h small cut =
    let vs = says_vars 0 0 b.vars in
    let ds = map says_dat (numbers (dat_count b.mesh)) in
    let a = length-append (take k b.trace) (says_state b k) in
    let c = length-append (vs ++ ds) (says (codes "done\n") ∷ []) in
    let d = length-append vs ds in
    let e = vars_said 0 0 b.vars in
    let f : length ds ≡ dat_count b.mesh = length-map-range_with_len says_dat 0 (dat_count b.mesh) in
    let g = length-take-le k b.trace cut.within in
    let le = cut.within in
    let t = h.trace in
    let w = h.declared in
    omega (arith, a, c, d, e, f, g, le, t, w, small)

-- 32 bits count the items of the heads of what is bound of a source of few bytes
pub heads_are_short : ((bytes : List ℕ) (tokens : List Token) → Lexes bytes (Ok tokens) → length tokens ≤ length bytes)
    → (bytes : List ℕ) (p : ProgramTree) (r : Resolved) (es : List Named) (b : BoundValue) → Reads bytes p → length bytes < 2 ^ 31 → bound p r es ≡ Ok b
    → (k : ℕ) → CanCut b k → length (head b k).trace < 2 ^ 32
heads_are_short few bytes p r es b reads small is k cut =
    let n = length (tops p.tops) + length (hosts 1 p.main.body) in
    let short : IsShort n b = subst (Gives (IsShort n)) is (text_short p r es) in
    let a = program_long p in
    let c : length (program p) ≡ length reads.tokens =
    sym (length-map (program p) (λ (z : Mark). z.kind)) ∙ ap length reads.prints.kinds ∙ length-map reads.tokens (λ (t : Token). t.kind) in
    let d = few bytes reads.tokens reads.lexed in
    head_short n k b short (omega (arith, a, c, d, small)) cut
