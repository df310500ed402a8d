-- Schedules of the ring: one that is accepted, and for each rule one that breaks it alone.
use Rattle.std.specs.Prelude.{false, List, [], ◌∷◌, ◌++◌}
use Rattle.schedule_steps.specs.declared.step.Step.{Step}
use Rattle.schedule_steps.specs.declared.step.Step.TheVariants.{Send, Recv, Begin, End, Join}
use Rattle.schedule_steps.specs.Steps.{Accepted}
use Rattle.schedule_model.specs.Setup.{outline}
use Rattle.schedule_model.specs.Ring.{ring}

-- the list is accepted for the ring
abbrev pub Accepts : List Step → Type 0
Accepts l = Accepted (outline (ring false)) l

-- each node on its rank
abbrev pub nodes : List Step
nodes = Begin 0 0 0 ∷ End 0 0 0 ∷ Begin 0 1 1 ∷ End 0 1 1 ∷ []

-- each rank sends its x to the other
abbrev pub messages : List Step
messages = Send 1 0 1 ∷ Send 1 1 0 ∷ Recv 1 0 1 ∷ Recv 1 1 0 ∷ []

-- both edges on a rank, edge 1 first, since it has the lower colour
abbrev pub edges_on_0 : List Step
edges_on_0 = Begin 1 0 1 ∷ End 1 0 1 ∷ Begin 1 0 0 ∷ End 1 0 0 ∷ []

-- both edges on rank 1, edge 1 first, since it has the lower colour
abbrev pub edges_on_1 : List Step
edges_on_1 = Begin 1 1 1 ∷ End 1 1 1 ∷ Begin 1 1 0 ∷ End 1 1 0 ∷ []

-- Reduce, Ordered, Host
abbrev pub joins : List Step
joins = Join 2 ∷ Join 3 ∷ Join 4 ∷ []

-- the standard order
abbrev pub in_order : List Step
in_order = nodes ++ (messages ++ (edges_on_0 ++ (edges_on_1 ++ joins)))

-- rank 0 sends and receives before rank 1 has begun, and the ranks take turns
abbrev pub interleaved : List Step
interleaved =
    Begin 0 0 0 ∷ End 0 0 0 ∷ Send 1 0 1 ∷ Begin 0 1 1 ∷ End 0 1 1 ∷ Send 1 1 0 ∷ Recv 1 1 0 ∷ Begin 1 1 1 ∷ Recv 1 0 1 ∷ Begin 1 0 1
    ∷ End 1 1 1 ∷ Begin 1 1 0 ∷ End 1 0 1 ∷ Begin 1 0 0 ∷ End 1 0 0 ∷ End 1 1 0 ∷ joins

-- rule 1: rank 0 sends for item 1 before its node of item 0 has ended
abbrev pub item_reversed : List Step
item_reversed =
    (Begin 0 0 0 ∷ Send 1 0 1 ∷ End 0 0 0 ∷ Begin 0 1 1 ∷ End 0 1 1 ∷ [])
    ++ ((Send 1 1 0 ∷ Recv 1 0 1 ∷ Recv 1 1 0 ∷ []) ++ (edges_on_0 ++ (edges_on_1 ++ joins)))

-- rule 2: a join before the last step of an earlier item
abbrev pub join_reversed : List Step
join_reversed = nodes ++ (messages ++ (edges_on_0 ++ (Begin 1 1 1 ∷ End 1 1 1 ∷ Begin 1 1 0 ∷ Join 2 ∷ End 1 1 0 ∷ Join 3 ∷ Join 4 ∷ [])))

-- rule 3: a receive before its send
abbrev pub send_reversed : List Step
send_reversed = nodes ++ ((Send 1 0 1 ∷ Recv 1 0 1 ∷ Send 1 1 0 ∷ Recv 1 1 0 ∷ []) ++ (edges_on_0 ++ (edges_on_1 ++ joins)))

-- rule 4: an element that isn't core begins before its rank's receive
abbrev pub receive_reversed : List Step
receive_reversed =
    nodes
    ++ ((Send 1 0 1 ∷ Send 1 1 0 ∷ Begin 1 0 1 ∷ Recv 1 0 1 ∷ Recv 1 1 0 ∷ [])
    ++ ((End 1 0 1 ∷ Begin 1 0 0 ∷ End 1 0 0 ∷ []) ++ (edges_on_1 ++ joins)))

-- rule 5: an end before its begin
abbrev pub end_reversed : List Step
end_reversed = nodes ++ (messages ++ ((End 1 0 1 ∷ Begin 1 0 1 ∷ Begin 1 0 0 ∷ End 1 0 0 ∷ []) ++ (edges_on_1 ++ joins)))

-- rule 6: an element begins before the end of one of a lower colour
abbrev pub colour_reversed : List Step
colour_reversed = nodes ++ (messages ++ ((Begin 1 0 1 ∷ Begin 1 0 0 ∷ End 1 0 1 ∷ End 1 0 0 ∷ []) ++ (edges_on_1 ++ joins)))

-- a step is missing
abbrev pub one_missing : List Step
one_missing = nodes ++ (messages ++ (edges_on_0 ++ (edges_on_1 ++ (Join 2 ∷ Join 3 ∷ []))))

-- a step stands twice
abbrev pub one_twice : List Step
one_twice = Begin 0 0 0 ∷ in_order

-- a step that is none of the plan's: node 1 isn't rank 0's
abbrev pub one_foreign : List Step
one_foreign = Begin 0 0 1 ∷ in_order
