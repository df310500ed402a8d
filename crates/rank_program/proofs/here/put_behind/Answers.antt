use Rattle.std.proofs.Common.{refl, ◌≡◌, ◌-◌, length, sym, ap, ap₂, map, ◌∙◌, arith}
use Rattle.std.proofs.lemmas.List.{length-map}
use Rattle.run_model.specs.Laws as the
use Rattle.rank_program.specs.Here.{behind, moved, scalars_in}
use Rattle.rank_program.specs.LocalArgs.{places_in}
use Rattle.rank_program.specs.Sound.{program_in, layout_in}
use Rattle.rank_program.proofs.Behind.{put_is}
use Rattle.rank_program.proofs.HereParts.{dat_spans, windows_here, stand_behind, scalars_fit, args_read, few_read, room_read, there_read, frame_read}
use Rattle.smallvec.proofs.SmallVecLemmas.{items-with_items}
use Rattle.rank_program.proofs.here.put_behind.Goals as goal

pub put_windows-end-requires-clause-there : goal.put_windows-end-requires-clause-there
put_windows-end-requires-clause-there c =
    let l = c.args.local.now in
    there_read l.program.now c.requires.is.sound c.steps_stand.ensures l.item l.rank c.args.place c.requires.step
    c.site_of-site.result.now c.site_of-site.ensures c.deref.result.now c.deref.ensures.value c.original_in-element.result c.original_in-element.ensures

pub put_windows-end-requires-clause-few : goal.put_windows-end-requires-clause-few
put_windows-end-requires-clause-few c =
    let l = c.args.local.now in
    few_read l.program.now c.requires.is.sound c.steps_stand.ensures l.item l.rank c.args.place c.requires.step
    c.site_of-site.result.now c.site_of-site.ensures c.deref.result.now c.deref.ensures.value

pub open_places-requires : goal.open_places-requires
open_places-requires c =
    let l = c.args.local.now in
    let few = few_read l.program.now c.requires.is.sound c.steps_stand.ensures l.item l.rank c.args.place c.requires.step
    c.site_of-site.result.now c.site_of-site.ensures c.site_of-site.result.now.args.items refl in
    omega (arith, few, c.len.ensures, c.requires.room)

pub put_windows-end-requires-clause-count : goal.put_windows-end-requires-clause-count
put_windows-end-requires-clause-count c =
    ap length c.as_mut_slice-windows.ensures.value ∙ c.open_places.ensures.count ∙ c.len.ensures ∙ sym c.deref.ensures.len

pub overflow_sub-end : goal.overflow_sub-end
overflow_sub-end c =
    let l = c.args.local.now in
    let fit = scalars_fit l.program.now c.requires.is.sound c.steps_stand.ensures l.item l.rank c.args.place c.requires.step c.element_windows_stand.ensures in
    let same = frame_read l.program.now c.requires.is.sound c.steps_stand.ensures l.item l.rank c.args.place c.requires.step
    c.site_of-site.result.now c.site_of-site.ensures c.deref.result.now c.deref.ensures.value c.original_in-element.result c.original_in-element.ensures in
    let count : length l.scalars.now ≡ length (scalars_in l.program.now l.item) = ap length c.requires.is.scalars in
    omega (arith, fit, same, count, c.put_windows-end.ensures.count)

pub returns-clause-stand : goal.returns-clause-stand
returns-clause-stand c =
    let l = c.args.local.now in
    let p = l.program.now in
    let b = program_in p in
    let sound = c.requires.is.sound in
    let stand = c.steps_stand.ensures in
    let x = c.args.place in
    let is = c.requires.is in
    let site = the.site_of b l.item in
    let e = (layout_in p).original l.item l.rank x in
    let spans = dat_spans p sound stand l.item l.rank x c.requires.step l.part.now in
    let put = put_is b site.args c.deref.result.now
    (args_read p sound stand l.item l.rank x c.requires.step c.site_of-site.result.now c.site_of-site.ensures c.deref.result.now c.deref.ensures.value)
    e c.original_in-element.result c.original_in-element.ensures (length l.scalars.now) l.part.now.cells c.put_windows-end.result
    c.put_windows-end.new.places c.move_behind.new.windows c.put_windows-end.ensures.places c.put_windows-end.ensures.count c.move_behind.ensures in
    let long : length c.move_behind.new.windows ≡ length c.open_places.new.places.items =
    ap length c.move_behind.ensures ∙ length-map c.put_windows-end.new.places (moved l.part.now.cells (c.put_windows-end.result - length l.scalars.now))
    ∙ c.put_windows-end.auto.places ∙ ap length c.as_mut_slice-windows.ensures.value in
    let left = items-with_items c.open_places.new.places c.move_behind.new.windows long in
    record {
      at = behind b site.args e (length (scalars_in p l.item)) ((layout_in p).width l.rank);
      behind = stand_behind p sound stand l.item l.rank x c.requires.step c.frames_are_reached.ensures spans
          (windows_here p sound stand l.item l.rank x c.requires.step c.element_windows_stand.ensures l.part.now is.part);
      are = λ y. ap (places_in y l.args.now) (left ∙ put ∙ ap₂ (λ n w. map (behind b site.args e n w) site.args) (ap length is.scalars) is.width);
      count = ap length left ∙ long ∙ c.open_places.ensures.count ∙ c.len.ensures ∙ sym c.deref.ensures.len
          ∙ ap length (args_read p sound stand l.item l.rank x c.requires.step c.site_of-site.result.now c.site_of-site.ensures c.deref.result.now c.deref.ensures.value)
          ∙ sym is.args.0;
    }
