use Rattle.std.proofs.Common.{option_map, ap, sym, subst, ◌∙◌}
use Rattle.std.specs.Str.{bytes_eq}
use Rattle.kernel_model.specs.Resolved.{AreResolved}
use Rattle.explanations.proofs.error_loops.Judging.{resolved_among}
use Rattle.explanations.proofs.error_loops.first.giving.Goals as goal

pub gives_by-requires : goal.gives_by-requires
gives_by-requires c = (
  _,
  resolved_among (λ k. bytes_eq k.name c.bytes.result.now) _ c.as_slice-kernels.result.now c.in-Some.kernel.now
      (subst (AreResolved _) (sym c.as_slice-kernels.ensures.value) c.requires.kernels)
      (sym c.kernel_named.ensures ∙ ap (option_map (λ k. k.now)) c.in-Some.is),
)
