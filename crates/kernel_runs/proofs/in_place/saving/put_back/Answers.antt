use Rattle.std.proofs.Common.{◌≡◌, refl, arith, ◌∙◌}
use Rattle.std.proofs.lemmas.Grind.{common_steps}
use Rattle.rank_state.specs.Spans.{scattered}
use Rattle.kernel_runs.specs.Saving.{place_spans}
use Rattle.kernel_runs.proofs.in_place.Scattering.{put_back_is}
use Rattle.kernel_runs.proofs.in_place.Savings.{spans_within, spans_total}
use Rattle.kernel_runs.proofs.in_place.saving.put_back.Goals as goal

pub loop-i-init : goal.loop-i-init
loop-i-init c = record {
  inside = spans_within _ c.args.places.now c.args.marks.now c.requires.inside;
  room = omega (arith, spans_total c.args.places.now c.args.marks.now c.requires.marks);
  left = refl;
}

pub returns : goal.returns
returns c first saved kept =
    let done : c.loop-i.memory ≡ scattered 0 c.args.saved.now (place_spans c.args.places.now c.args.marks.now) c.args.memory.now = grind (arith, common_steps) in
    done ∙ put_back_is (place_spans c.args.places.now c.args.marks.now) c.args.saved.now first c.args.memory.now
    (spans_within _ c.args.places.now c.args.marks.now c.requires.inside)
    (omega (arith, spans_total c.args.places.now c.args.marks.now c.requires.marks)) saved kept
