-- In what a tree prints, `(`, a name and a comma stand behind each `op_par_loop`.
use Rattle.std.proofs.Common.{◌≡◌, ℕ, suc, Bool, true, false, cond, List, [], ◌∷◌, ◌++◌, map, refl, sym, ap, subst}
use Rattle.c_tree.specs.declared.lexer.tokens.Kind.{Kind}
use Rattle.c_tree.specs.declared.lexer.tokens.Kind.TheVariants as kind
use Rattle.c_tree.specs.declared.lexer.tokens.Sign.TheVariants as sign
use Rattle.c_tree.specs.declared.lexer.tokens.Word.TheVariants as word
use Rattle.c_tree.specs.Tree.{OpCallTree, CallInit, DeclSet, DeclMap, DeclDat, DeclConst, ParLoop, Printf, PrintDat, HostTree, HostDeclaration, HostBlock, HostEmpty, HostAssign, HostIf, HostIfElse, HostFor, HostCall, HostTrees, NoHost, MoreHost, MainTree, ProgramTree}
use Rattle.c_tree.specs.Print.{Mark, ident, vars, assignment, condition, tops, host_counter, arguments, close, call, host, hosts, argv_marks, return_marks, main, program}
use Rattle.c_tree.specs.Reads.{shown}
use Rattle.op_translate.proofs.Quiet.{is_loop}
use Rattle.op_translate.proofs.Quietly.{quiet, quiet-append, expr_quiet, vars_quiet, assignment_quiet, condition_quiet, tops_quiet, header_quiet, global_quiet, arguments_quiet, values_quiet, argv_quiet, return_quiet}
use Rattle.std.proofs.lemmas.Bool.{true≢false}

-- the kinds of marks, before others
abbrev pub ahead : List Mark → List Kind → List Kind
ahead [] rest = rest
ahead (m ∷ ms) rest = m.kind ∷ ahead ms rest

pub ahead-append : (xs ys : List Mark) (rest : List Kind) → ahead (xs ++ ys) rest ≡ ahead xs (ahead ys rest)
ahead-append [] ys rest = refl
ahead-append (x ∷ xs) ys rest = ap (λ z. x.kind ∷ z) (ahead-append xs ys rest)

pub ahead_none : (ms : List Mark) → ahead ms [] ≡ map (λ m. m.kind) ms
ahead_none [] = refl
ahead_none (m ∷ ms) = ap (λ z. m.kind ∷ z) (ahead_none ms)

-- ---- what follows `op_par_loop`

abbrev pub Follows : Kind → List Kind → Type 0
Follows (kind.Word word.OpParLoop) ks =
    (x : List ℕ) × (rest : List Kind) × (ks ≡ kind.Sign sign.LeftParen ∷ kind.Name x ∷ kind.Sign sign.Comma ∷ rest)
Follows k ks = Unit {0}

abbrev pub AllFollow : List Kind → Type 0
AllFollow [] = Unit {0}
AllFollow (k ∷ ks) = Follows k ks × AllFollow ks

nothing_follows : (k : Kind) (ks : List Kind) → is_loop k ≡ false → Follows k ks
nothing_follows (kind.Word word.OpParLoop) ks h = absurd (true≢false h)
nothing_follows (kind.Word _) ks h = tt
nothing_follows (kind.Name x) ks h = tt
nothing_follows (kind.Number z) ks h = tt
nothing_follows (kind.Text t) ks h = tt
nothing_follows (kind.Sign s) ks h = tt

pass : (ms : List Mark) (rest : List Kind) → quiet ms true ≡ true → AllFollow rest → AllFollow (ahead ms rest)
pass [] rest q h = h
pass (m ∷ ms) rest q h = by_kind (is_loop m.kind) refl q (λ g. pass ms rest g h)
  where
    by_kind : (t : Bool) → is_loop m.kind ≡ t → cond t false (quiet ms true) ≡ true → (quiet ms true ≡ true → AllFollow (ahead ms rest)) → AllFollow (ahead (m ∷ ms) rest)
    by_kind true e q more = absurd (true≢false (sym q))
    by_kind false e q more = (nothing_follows m.kind (ahead ms rest) e, more q)

call_follows : (k : ℕ) (c : OpCallTree) (rest : List Kind) → AllFollow rest → AllFollow (ahead (call k c) rest)
call_follows k (CallInit at n) rest h = pass (call k (CallInit at n)) rest refl h
call_follows k (DeclSet at x e t) rest h = pass (call k (DeclSet at x e t)) rest (rw (quiet-append, expr_quiet (suc k) e) refl) h
call_follows k (DeclMap at x from to n d t) rest h = pass (call k (DeclMap at x from to n d t)) rest refl h
call_follows k (DeclDat at x s n u d t) rest h = pass (call k (DeclDat at x s n u d t)) rest refl h
call_follows k (DeclConst at n t g) rest h = pass (call k (DeclConst at n t g)) rest (rw (quiet-append, global_quiet k g) refl) h
call_follows k (ParLoop at f t s xs) rest h =
    let tail : List Mark = ident k s ∷ (arguments k xs ++ close k) in
    ((f.name, _, refl), (tt, (tt, (tt, (tt, (tt, pass tail rest (rw (quiet-append, arguments_quiet k xs) refl) h))))))
call_follows k (Printf at t es) rest h = pass (call k (Printf at t es)) rest (rw (quiet-append, values_quiet k es) refl) h
call_follows k (PrintDat at x t) rest h = pass (call k (PrintDat at x t)) rest refl h

both_follow : (xs ys : List Mark) (rest : List Kind) → AllFollow (ahead xs (ahead ys rest)) → AllFollow (ahead (xs ++ ys) rest)
both_follow xs ys rest h = subst AllFollow (sym (ahead-append xs ys rest)) h

mutual
  host_follows : (k : ℕ) (s : HostTree) (rest : List Kind) → AllFollow rest → AllFollow (ahead (host k s) rest)
  host_follows k (HostDeclaration v) rest h = pass (vars k v) rest (vars_quiet k v true) h
  host_follows k (HostBlock at ss) rest h =
      (tt, both_follow (hosts (suc k) ss) _ rest (hosts_follow (suc k) ss _ (tt, h)))
  host_follows k (HostEmpty at) rest h = (tt, h)
  host_follows k (HostAssign a) rest h = pass (assignment k a) rest (assignment_quiet k a true) h
  host_follows k (HostIf at e s) rest h =
      both_follow (condition k at e) (host (suc k) s) rest (pass (condition k at e) _ (condition_quiet k at e true) (host_follows (suc k) s rest h))
  host_follows k (HostIfElse at e s t) rest h =
      both_follow (condition k at e) _ rest
      (pass (condition k at e) _ (condition_quiet k at e true)
      (both_follow (host (suc k) s) _ rest (host_follows (suc k) s _ (tt, host_follows (suc k) t rest h))))
  host_follows k (HostFor c s) rest h =
      both_follow (host_counter k c) (host (suc k) s) rest (pass (host_counter k c) _ (header_quiet k c true) (host_follows (suc k) s rest h))
  host_follows k (HostCall c) rest h = call_follows k c rest h

  hosts_follow : (k : ℕ) (ss : HostTrees) (rest : List Kind) → AllFollow rest → AllFollow (ahead (hosts k ss) rest)
  hosts_follow k NoHost rest h = h
  hosts_follow k (MoreHost s ss) rest h = both_follow (host k s) (hosts k ss) rest (host_follows k s _ (hosts_follow k ss rest h))

-- in the kinds that a tree shows
main_follows : (m : MainTree) → AllFollow (ahead (main m) [])
main_follows m = (
  tt,
  (
    tt,
    (
      tt,
      (
        tt,
        (
          tt,
          (
            tt,
            (
              tt,
              both_follow (argv_marks m.argv_has_brackets) _ []
                  (pass (argv_marks m.argv_has_brackets) _ (argv_quiet m.argv_has_brackets true) (
                    tt,
                    (
                      tt,
                      both_follow (hosts 1 m.body) _ []
                          (hosts_follow 1 m.body _ (
                            tt,
                            (
                              tt,
                              (
                                tt,
                                (
                                  tt,
                                  both_follow (return_marks m.returned) _ []
                                      (pass (return_marks m.returned) _ (return_quiet m.returned true) (tt, tt)),
                                ),
                              ),
                            ),
                          )),
                    ),
                  )),
            ),
          ),
        ),
      ),
    ),
  ),
)

pub shown_follow : (p : ProgramTree) → AllFollow (shown p)
shown_follow p =
    subst AllFollow (ahead_none (program p)) (both_follow (tops p.tops) (main p.main) [] (pass (tops p.tops) _ (tops_quiet p.tops true) (main_follows p.main)))
