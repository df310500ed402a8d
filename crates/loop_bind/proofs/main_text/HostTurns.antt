-- Statements of `main`, one behind the other: what the judgement of one leaves to the rest.
use Rattle.std.proofs.Common.{◌≡◌, ◌∙◌, ap, refl, sym, ℕ, List, map, length, Option, None, Some, Ok, Err, inl, inr}
use Rattle.std.proofs.lemmas.List.{length-map}
use Rattle.c_tree.specs.declared.lexer.tokens.Pos.{Pos}
use Rattle.c_tree.specs.declared.expressions.Expr.{Expr}
use Rattle.c_tree.specs.declared.expressions.TextLiteral.{TextLiteral}
use Rattle.c_tree.specs.Tree as tree
use Rattle.c_tree.specs.Tree.{HostTrees}
use Rattle.c_tree.specs.View.{expr_of}
use Rattle.kernel_model.specs.declared.types.kernels.ConstDecl.{ConstDecl}
use Rattle.mesh_decl.specs.Printed.{conversions}
use Rattle.mesh_decl.specs.Spelling.{Named}
use Rattle.bound_program.specs.declared.acts.Act.{Act}
use Rattle.bound_program.specs.declared.refusals.founds.Found.{Found}
use Rattle.bound_program.specs.declared.refusals.refusals.BindRefusal.{BindRefusal}
use Rattle.main_declarations.specs.declared.names.walks.Spot.{Spot}
use Rattle.bound_program.specs.Values.{ActValue, act_of, Line}
use Rattle.main_declarations.specs.Expressions.{resolved}
use Rattle.bound_program.specs.Refusals.{◌>>=◌, unless, unless_found, first_of, Judges, JudgesBy}
use Rattle.main_declarations.specs.Names.{Scope, closed}
use Rattle.bound_program.specs.Steps.{Do, Block, Steps, followed, one_step}
use Rattle.main_declarations.specs.SoFar.{Walked, does}
use Rattle.loop_bind.specs.Text.{nested, opened, ended, line_found, judged_call, judged_host, judged_hosts}

-- ---- calls

-- what was found is refused, whatever it was found in
unless_refused : {A B : Type 0} (o : Option Found) (x : A) (y : B) (e : BindRefusal) → unless o x ≡ Err e → unless o y ≡ Err e
unless_refused None x y e h = cc
unless_refused (Some f) x y e h = cc

-- nothing was found
unless_done : {A B : Type 0} (f : A → B) (o : Option Found) (x r : A) → unless o x ≡ Ok r → unless o (f x) ≡ Ok (f r)
unless_done f None x r h = cc
unless_done f (Some g) x r h = cc

module _ (places : List Pos) (consts : List ConstDecl) (entries : List Named) where
  module _ (a : Walked) (w : Spot) (t : ℕ) (l : TextLiteral) (es : List Expr) where
    -- `op_printf` is refused
    pub line_stops : (e : BindRefusal) (x : ActValue) (b : Walked)
        → JudgesBy {X = Act} act_of (Err e) (unless_found (line_found places consts entries t l (length es) (conversions l.text)) x)
        → Judges {X = Unit {0}} (Err e) b (judged_call places consts entries a w (tree.Printf t l (map expr_of es)))
    line_stops e x b (inl h) = inl h
    line_stops e x b (inr h) = inr (rw (length-map es expr_of) (unless_refused (first_of (line_found places consts entries t l (length es) (conversions l.text))) x _ e h))

    -- `op_printf` does this
    pub line_done : (r : ActValue) → unless_found (line_found places consts entries t l (length es) (conversions l.text))
        (Line l.text (map (resolved places a.declared.names) (map expr_of es))) ≡ Ok r
        → judged_call places consts entries a w (tree.Printf t l (map expr_of es)) ≡ Ok (does (Do r) a)
    line_done r h = rw (length-map es expr_of)
        (unless_done (λ x. does (Do x) a) (first_of (line_found places consts entries t l (length es) (conversions l.text)))
        (Line l.text (map (resolved places a.declared.names) (map expr_of es))) r h)

  -- ---- blocks

  module _ (a b : Walked) (w v : Spot) (t : ℕ) (hs : HostTrees) (p : b ≡ opened places consts entries a) (q : v ≡ nested w) where
    same : judged_hosts places consts entries b v hs ≡ judged_hosts places consts entries (opened places consts entries a) (nested w) hs
    same = ap (λ x. judged_hosts places consts entries x v hs) p ∙ ap (λ s. judged_hosts places consts entries (opened places consts entries a) s hs) q

    -- a block is refused where its statements are
    pub block_stops : (e : BindRefusal) (x y : Walked) → Judges {X = Unit {0}} (Err e) x (judged_hosts places consts entries b v hs)
        → Judges {X = Unit {0}} (Err e) y (judged_host places consts entries a w (tree.HostBlock t hs))
    block_stops e x y (inl h) = inl h
    block_stops e x y (inr h) = inr (ap (λ r. r >>= λ d. Ok (ended places consts entries a (Block d.steps) d)) (sym same ∙ h))

    -- a block behind its statements d, with these names and steps
    pub block_done : (d : Walked) (names : Scope) (steps : Steps) → judged_hosts places consts entries b v hs ≡ Ok d
        → closed a.declared.names d.declared.names ≡ names → followed a.steps (one_step (Block d.steps)) ≡ steps
        → judged_host places consts entries a w (tree.HostBlock t hs) ≡ Ok
        (record { declared = record d.declared { names = names }; steps = steps })
    block_done d names steps h n k = ap (λ r. r >>= λ d. Ok (ended places consts entries a (Block d.steps) d)) (sym same ∙ h) ∙ rw (n, k) refl
