-- Chains of binary operators, each the left operand of the one before it: what is found in them, in any order.
use Rattle.std.proofs.Common.{◌≡◌, List, Bool, true, false, ◌&&◌, refl, sym, ap, ◌∙◌}
use Rattle.c_tree.specs.declared.lexer.tokens.Pos.{Pos}
use Rattle.kernel_model.specs.declared.types.expressions.RExpr.{RExpr}
use Rattle.kernel_model.specs.declared.types.expressions.RExpr.TheVariants.{Number, Scalar, Constant, Arg', Local', Const', Unary', Binary', Choice', Paren', Extremum', Absolute'}
use Rattle.kernel_model.specs.Obeys.{Mode, mode_at, Counters, static, Event, Reads}
use Rattle.kernel_model.specs.Refusals.{Rule, WritesRead, ReadsInc, IncNotSum, ReadsUnwritten, WriteIndexNotStatic, LiteralIndexOut, MinMaxForm, argument_of, place_of}
use Rattle.kernel_model.specs.Walk.{Covered, noted_if, breaks, with_rule, event_found, expr_found}
use Rattle.access_check.proofs.Least.{Found, note_swap}

-- both orders are the same
pub same_swap : (a b c : Bool) → (a && (b && c)) ≡ (a && (c && b))
same_swap false b c = refl
same_swap true true true = refl
same_swap true true false = refl
same_swap true false true = refl
same_swap true false false = refl

-- F and G in either order find the same
abbrev pub Swap : (Found → Found) → (Found → Found) → Type 0
Swap F G = (x : Found) → F (G x) ≡ G (F x)

swap_then : (F G H : Found → Found) → Swap F G → Swap F H → Swap F (λ x. H (G x))
swap_then F G H h k x = k (G x) ∙ ap H (h x)

module _ (modes : List Mode) (cs : Counters) (c : Covered) (F : Found → Found) (one : (b : Bool) (r : Rule) (p : Pos) → Swap F (noted_if b r p)) where
  swap_event : (e : Event) → Swap F (event_found modes c e)
  swap_event e =
      let acc = (mode_at modes (argument_of e)).access in
      let dim = (mode_at modes (argument_of e)).dim in
      let p = place_of e in
      swap_then F (λ x. with_rule c acc dim e LiteralIndexOut
      (with_rule c acc dim e WriteIndexNotStatic
      (with_rule c acc dim e ReadsUnwritten
      (with_rule c acc dim e IncNotSum (with_rule c acc dim e ReadsInc (with_rule c acc dim e WritesRead x))))))
      (with_rule c acc dim e MinMaxForm)
      (swap_then F (λ x. with_rule c acc dim e WriteIndexNotStatic
      (with_rule c acc dim e ReadsUnwritten
      (with_rule c acc dim e IncNotSum (with_rule c acc dim e ReadsInc (with_rule c acc dim e WritesRead x)))))
      (with_rule c acc dim e LiteralIndexOut)
      (swap_then F (λ x. with_rule c acc dim e ReadsUnwritten
      (with_rule c acc dim e IncNotSum (with_rule c acc dim e ReadsInc (with_rule c acc dim e WritesRead x))))
      (with_rule c acc dim e WriteIndexNotStatic)
      (swap_then F (λ x. with_rule c acc dim e IncNotSum (with_rule c acc dim e ReadsInc (with_rule c acc dim e WritesRead x))) (with_rule c acc dim e ReadsUnwritten)
      (swap_then F (λ x. with_rule c acc dim e ReadsInc (with_rule c acc dim e WritesRead x)) (with_rule c acc dim e IncNotSum)
      (swap_then F (with_rule c acc dim e WritesRead) (with_rule c acc dim e ReadsInc)
      (one (breaks c acc dim e WritesRead) WritesRead p) (one (breaks c acc dim e ReadsInc) ReadsInc p))
      (one (breaks c acc dim e IncNotSum) IncNotSum p)) (one (breaks c acc dim e ReadsUnwritten) ReadsUnwritten p))
      (one (breaks c acc dim e WriteIndexNotStatic) WriteIndexNotStatic p)) (one (breaks c acc dim e LiteralIndexOut) LiteralIndexOut p))
      (one (breaks c acc dim e MinMaxForm) MinMaxForm p)

  swap_expr : (e : RExpr) → Swap F (expr_found modes e cs c)
  swap_expr (Number n) = λ x. refl
  swap_expr (Scalar k) = λ x. refl
  swap_expr (Constant k) = λ x. refl
  swap_expr (Arg' a form p e at) = swap_then F (expr_found modes e cs c) (event_found modes c (Reads a (static e cs) at)) (swap_expr e) (swap_event (Reads a (static e cs) at))
  swap_expr (Local' from count form p e at) = swap_expr e
  swap_expr (Const' from count form p e at) = swap_expr e
  swap_expr (Unary' op p a) = swap_expr a
  swap_expr (Binary' op p a q b at) = swap_then F (expr_found modes a cs c) (expr_found modes b cs c) (swap_expr a) (swap_expr b)
  swap_expr (Choice' p x q a r b) =
      swap_then F (λ y. expr_found modes a cs c (expr_found modes x cs c y)) (expr_found modes b cs c)
      (swap_then F (expr_found modes x cs c) (expr_found modes a cs c) (swap_expr x) (swap_expr a)) (swap_expr b)
  swap_expr (Paren' p a) = swap_expr a
  swap_expr (Extremum' which p a q b) = swap_then F (expr_found modes a cs c) (expr_found modes b cs c) (swap_expr a) (swap_expr b)
  swap_expr (Absolute' p a) = swap_expr a

-- two expressions in either order
pub found_swap : (modes : List Mode) (cs : Counters) (c : Covered) (a b : RExpr) → Swap (expr_found modes a cs c) (expr_found modes b cs c)
found_swap modes cs c a b =
    swap_expr modes cs c (expr_found modes a cs c) (λ r s p x. sym (swap_expr modes cs c (noted_if r s p) (λ q t o y. note_swap r s p q t o y) a x)) b

-- the right operand of an operator, and then the left
pub found_down : (modes : List Mode) (cs : Counters) (c : Covered) (a b : RExpr) (x : Found) → expr_found modes a cs c (expr_found modes b cs c x) ≡ expr_found modes b cs c (expr_found modes a cs c x)
found_down modes cs c a b x = found_swap modes cs c a b x
