-- The names that a job on a plan reads are lent, where all of its words are.
use Rattle.std.proofs.Common.{List, ◌++◌, All}
use Rattle.job_inputs.proofs.Public.{all_left, all_right}

-- of five lists, one behind the other, each
module _ {X : Type 0} (P : X → Type 0) (input state parting plan schedule : List X) (h : All P (input ++ state ++ parting ++ plan ++ schedule)) where
  to_plan : All P (input ++ state ++ parting ++ plan)
  to_plan = all_left P (input ++ state ++ parting ++ plan) schedule h

  to_parting : All P (input ++ state ++ parting)
  to_parting = all_left P (input ++ state ++ parting) plan to_plan

  to_state : All P (input ++ state)
  to_state = all_left P (input ++ state) parting to_parting

  pub state_lent : All P state
  state_lent = all_right P input state to_state

  pub parting_lent : All P parting
  parting_lent = all_right P (input ++ state) parting to_parting

  pub plan_lent : All P plan
  plan_lent = all_right P (input ++ state ++ parting) plan to_plan

  pub schedule_lent : All P schedule
  schedule_lent = all_right P (input ++ state ++ parting ++ plan) schedule h
