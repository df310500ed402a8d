use Rattle.std.proofs.Common.{◌≡◌, ◌≤◌, true, List, None, take, length, get_or, refl, sym, ap, ◌∙◌, subst, arith}
use Rattle.std.proofs.lemmas.Grind.{common_steps}
use Rattle.std.proofs.lemmas.List.{length-take-le, get_or-take}
use Rattle.bound_program.specs.declared.sites.Arg.{Arg}
use Rattle.bound_program.specs.Values.{SiteValue}
use Rattle.run_model.specs.Laws as the
use Rattle.kernel_runs.specs.RowLoops.{no_column}
use Rattle.kernel_runs.specs.Tables.{no_pair, place_at, scalar_place, AreWays, AreColumns, ArePairs}
use Rattle.rank_program.specs.Sound.{program_in}
use Rattle.rank_program.proofs.TableFronts.{columns_front, pairs_front}
use Rattle.rank_program.proofs.LoopArgs.{cells_count, dats_are}
use Rattle.rank_program.proofs.LoopVariables.{scalars_count_fits}
use Rattle.rank_program.proofs.RowLoopsMade.{made}
use Rattle.rank_program.proofs.row_loops.row_loop.Goals as goal

pub put_columns-requires-clause-cells : goal.put_columns-requires-clause-cells
put_columns-requires-clause-cells c =
    cells_count c.args.local.now c.requires.is.sound c.requires.is c.steps_stand.ensures c.windows_stand.ensures.here c.windows_stand.ensures.cells
    c.element_windows_stand.ensures c.frames_are_reached.ensures c.requires.step.0 c.requires.step.1
    c.deref-2.result.now (c.deref-2.ensures.value ∙ ap (λ (s : SiteValue). s.args) c.site_of-site.ensures) (omega arith)

pub put_columns-requires-clause-dats : goal.put_columns-requires-clause-dats
put_columns-requires-clause-dats c =
    dats_are c.args.local.now c.requires.is.sound c.requires.is c.steps_stand.ensures c.windows_stand.ensures.here c.windows_stand.ensures.cells
    c.element_windows_stand.ensures c.frames_are_reached.ensures c.requires.step.0 c.requires.step.1
    c.deref-2.result.now (c.deref-2.ensures.value ∙ ap (λ (s : SiteValue). s.args) c.site_of-site.ensures)

pub put_scalars-requires-clause-fits : goal.put_scalars-requires-clause-fits
put_scalars-requires-clause-fits c =
    scalars_count_fits c.args.local.now c.requires.is.sound c.requires.is c.steps_stand.ensures c.windows_stand.ensures.here c.windows_stand.ensures.cells
    c.element_windows_stand.ensures c.frames_are_reached.ensures c.requires.step.0 c.requires.step.1
    c.args.cells.now c.requires.stand c.in_ok-count.count (let few = c.if-count-local-gt-MOST_COLUMNS.false in omega (arith, few))

pub returns : goal.returns
returns c =
    let l = c.args.local.now in
    let args : List Arg = (the.site_of (program_in l.program.now) l.item).args in
    let is : c.site_of-site.result.now.args.items ≡ args = ap (λ (s : SiteValue). s.args) c.site_of-site.ensures in
    let one : c.deref.result.now ≡ args = c.deref.ensures.value ∙ is in
    let two : c.deref-2.result.now ≡ args = c.deref-2.ensures.value ∙ is in
    let three : c.deref-3.result.now ≡ args = c.deref-3.ensures.value ∙ is in
    let numbers = c.put_ways.new.numbers in
    let count = c.in_ok-count.count in
    let found = c.in_ok-found.found in
    let table = c.put_columns.new.columns in
    let columns : AreColumns args l.args.now numbers table c.put_columns.new.places (length args) count =
    subst (λ xs. AreColumns xs l.args.now numbers table c.put_columns.new.places (length xs) count) two c.in_ok-count.ensures in
    let pairs : ArePairs args numbers c.put_pairs.new.pairs (length args) 0 found =
    subst (λ xs. ArePairs xs numbers c.put_pairs.new.pairs (length xs) 0 found) three c.in_ok-found.ensures in
    let long : length (take count table) ≡ count = length-take-le count table columns.few in
    let same_few : length l.args.now ≡ length args = c.requires.is.args.0 in
    let at_most = c.requires.is.few in
    let few : length args ≤ 16 = omega (arith, same_few, at_most) in
    let way_count : c.len-2.result ≡ length args = c.len-2.ensures ∙ sym c.deref.ensures.len ∙ ap length one in
    let ways : length c.put_ways.new.ways ≡ length args =
    c.put_ways.auto.ways ∙ length-take-le c.len-2.result c.args.ways.now (omega (arith, way_count, few, c.requires.ways)) ∙ way_count in
    let places_long : length c.put_scalars.new.places ≡ length args =
    c.put_scalars.auto.places ∙ c.put_columns.auto.places ∙ c.requires.places ∙ same_few in
    let below = c.if-count-local-gt-MOST_COLUMNS.false in
    made l c.requires.is.sound c.requires.is c.steps_stand.ensures c.windows_stand.ensures.here c.windows_stand.ensures.cells
    c.element_windows_stand.ensures c.frames_are_reached.ensures c.requires.step.0 c.requires.step.1 c.args.cells.now c.requires.stand
    _ numbers c.put_columns.new.places
    (record {
      ways = subst (λ xs. AreWays xs l.args.now numbers c.put_ways.new.ways (length xs)) one c.put_ways.ensures;
      way_count = ways;
      columns = columns_front args l.args.now numbers table (take count table) c.put_columns.new.places (length args) count columns long
          (λ k lt. get_or-take count table k no_column lt);
      pairs = pairs_front args numbers c.put_pairs.new.pairs (take found c.put_pairs.new.pairs) (length args) found pairs
          (length-take-le found c.put_pairs.new.pairs pairs.few) (λ i lt. get_or-take found c.put_pairs.new.pairs i no_pair lt);
      differ = c.stores.ensures;
    })
    refl refl places_long (λ a lt. subst
    (λ k. place_at c.put_scalars.new.places a ≡ scalar_place k l.part.now.cells (get_or l.args.now a None) (place_at c.args.cells.now a)
    (place_at c.put_columns.new.places a)) (sym long) (c.put_scalars.ensures a (omega (arith, lt, same_few)))) refl refl
    (omega (arith, ways, few)) (omega (arith, long, below))
