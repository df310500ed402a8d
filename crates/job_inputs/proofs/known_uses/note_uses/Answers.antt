use Rattle.std.proofs.Common.{rules, ◌≡◌, ◌⊎◌, ◌∙◌, ℕ, List, Contains, subst, inl, inr}
use Rattle.job_inputs.specs.declared.known_uses.ArgUse.{ArgUse}
use Rattle.job_inputs.specs.Known.{use_of}
use Rattle.job_inputs.proofs.Known.{inserted}
use Rattle.job_inputs.proofs.known_uses.note_uses.Goals as goal

pub loop-param-preserved : goal.loop-param-preserved
loop-param-preserved c u there =
    elim (inserted c.loop-param.known.keys c.use_at.result u (subst (λ (l : List ArgUse). Contains l u) (search rules) there))
    as (λ _. Contains c.args.known.now.keys u ⊎ ((a : ℕ) × (u ≡ use_of c.args.kernel c.args.modes.now a)))
    [ inl old ↦ c.loop-param.invariant u old | inr new ↦ inr (c.loop-param.param, new ∙ c.use_at.ensures) ]
