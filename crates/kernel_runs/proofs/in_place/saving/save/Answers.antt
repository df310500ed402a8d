use Rattle.std.proofs.Common.{◌≡◌, refl, sym, subst, arith}
use Rattle.std.proofs.lemmas.Grind.{common_steps}
use Rattle.kernel_runs.specs.Saving.{place_spans, AreSaved}
use Rattle.kernel_runs.proofs.in_place.Scattering.{saved_from, are_saved}
use Rattle.kernel_runs.proofs.in_place.Savings.{spans_within, spans_total}
use Rattle.kernel_runs.proofs.in_place.saving.save.Goals as goal

pub loop-i-init : goal.loop-i-init
loop-i-init c = record {
  inside = spans_within _ c.args.places.now c.args.marks.now c.requires.inside;
  room = omega (arith, spans_total c.args.places.now c.args.marks.now c.requires.marks);
  left = refl;
}

pub returns : goal.returns
returns c =
    let done : c.loop-i.saved ≡ saved_from 0 c.args.memory.now (place_spans c.args.places.now c.args.marks.now) c.args.saved.now = grind (arith, common_steps) in
    subst (AreSaved (place_spans c.args.places.now c.args.marks.now) c.args.memory.now) (sym done)
    (are_saved (place_spans c.args.places.now c.args.marks.now) c.args.memory.now c.args.saved.now
    (spans_within _ c.args.places.now c.args.marks.now c.requires.inside)
    (omega (arith, spans_total c.args.places.now c.args.marks.now c.requires.marks)))
