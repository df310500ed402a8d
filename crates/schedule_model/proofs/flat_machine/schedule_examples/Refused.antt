-- Lists of the ring that are refused.
use Rattle.std.proofs.Common.{◌≡◌, false, refl, sym, ◌∙◌, arith, List, [], ◌∷◌, ◌++◌}
use Rattle.std.proofs.lemmas.Bool.{false≢true}
use Rattle.schedule_steps.specs.Outline.{Outline}
use Rattle.schedule_steps.specs.declared.step.Step.{Step}
use Rattle.schedule_steps.specs.declared.step.Step.TheVariants.{Send, Recv, Begin, End, Join}
use Rattle.schedule_steps.specs.Steps.{IsStep, Earlier, by_item, sent, received, begun, coloured, has}
use Rattle.schedule_model.specs.Setup.{outline}
use Rattle.schedule_model.specs.Ring.{ring}
use Rattle.schedule_model.specs.Lists.{Accepts, nodes, messages, edges_on_0, edges_on_1, joins, in_order, item_reversed, join_reversed, send_reversed, receive_reversed, end_reversed, colour_reversed, one_missing, one_twice, one_foreign}

abbrev o : Outline
o = outline (ring false)

-- a step of the plan that is earlier doesn't stand before
reversed : (l pre : List Step) (s : Step) (post : List Step) (t : Step) → l ≡ pre ++ (s ∷ post) → IsStep o t → Earlier o t s → has pre t ≡ false → Accepts l → ⊥
reversed l pre s post t e plan early none acc = false≢true (sym none ∙ acc.order pre s post e t plan early)

pub item_refused : Accepts item_reversed → ⊥
item_refused = reversed item_reversed (Begin 0 0 0 ∷ []) (Send 1 0 1)
    ((End 0 0 0 ∷ Begin 0 1 1 ∷ End 0 1 1 ∷ []) ++ ((Send 1 1 0 ∷ Recv 1 0 1 ∷ Recv 1 1 0 ∷ []) ++ (edges_on_0 ++ (edges_on_1 ++ joins))))
    (End 0 0 0) refl
    (omega arith, refl, omega arith, refl) (by_item 0 refl refl (omega arith)) refl

pub join_refused : Accepts join_reversed → ⊥
join_refused = reversed join_reversed (nodes ++ (messages ++ (edges_on_0 ++ (Begin 1 1 1 ∷ End 1 1 1 ∷ Begin 1 1 0 ∷ [])))) (Join 2) (End 1 1 0 ∷ Join 3 ∷ Join 4 ∷ []) (End 1 1 0) refl
    (omega arith, refl, omega arith, refl) (by_item 1 refl tt (omega arith)) refl

pub send_refused : Accepts send_reversed → ⊥
send_refused = reversed send_reversed (nodes ++ (Send 1 0 1 ∷ [])) (Recv 1 0 1) ((Send 1 1 0 ∷ Recv 1 1 0 ∷ []) ++ (edges_on_0 ++ (edges_on_1 ++ joins))) (Send 1 1 0) refl
    (omega arith, refl, omega arith, omega arith, refl) sent refl

pub receive_refused : Accepts receive_reversed → ⊥
receive_refused = reversed receive_reversed (nodes ++ (Send 1 0 1 ∷ Send 1 1 0 ∷ [])) (Begin 1 0 1)
    ((Recv 1 0 1 ∷ Recv 1 1 0 ∷ []) ++ ((End 1 0 1 ∷ Begin 1 0 0 ∷ End 1 0 0 ∷ []) ++ (edges_on_1 ++ joins))) (Recv 1 0 1) refl
    (omega arith, refl, omega arith, omega arith, refl) (received refl) refl

pub end_refused : Accepts end_reversed → ⊥
end_refused = reversed end_reversed (nodes ++ messages) (End 1 0 1) ((Begin 1 0 1 ∷ Begin 1 0 0 ∷ End 1 0 0 ∷ []) ++ (edges_on_1 ++ joins)) (Begin 1 0 1) refl
    (omega arith, refl, omega arith, refl) begun refl

pub colour_refused : Accepts colour_reversed → ⊥
colour_refused = reversed colour_reversed (nodes ++ (messages ++ (Begin 1 0 1 ∷ []))) (Begin 1 0 0) ((End 1 0 1 ∷ End 1 0 0 ∷ []) ++ (edges_on_1 ++ joins)) (End 1 0 1) refl
    (omega arith, refl, omega arith, refl) (coloured refl) refl

pub missing_refused : Accepts one_missing → ⊥
missing_refused acc = false≢true (acc.whole (Join 4) (omega arith, refl))

pub twice_refused : Accepts one_twice → ⊥
twice_refused acc = false≢true (sym (acc.once (Begin 0 0 0 ∷ []) (Begin 0 0 0) ((End 0 0 0 ∷ Begin 0 1 1 ∷ End 0 1 1 ∷ []) ++ (messages ++ (edges_on_0 ++ (edges_on_1 ++ joins)))) refl))

pub foreign_refused : Accepts one_foreign → ⊥
foreign_refused acc = let plan : IsStep o (Begin 0 0 1) = acc.steps [] (Begin 0 0 1) in_order refl in false≢true plan.3
