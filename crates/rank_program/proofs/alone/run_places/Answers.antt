use Rattle.std.proofs.Common.{◌≡◌, ◌<◌, ◌≤◌, ◌++◌, List, ℕ, ℤ, take, drop, length, vec_len, get_or, sym, ap, subst, ◌∙◌, arith}
use Rattle.std.proofs.Math.Seq.{take-append_seam}
use Rattle.rank_state.specs.Stops.{stop_in}
use Rattle.rank_program.specs.AloneRuns.{AllBegin, Reaches}
use Rattle.rank_program.specs.Rooms.{HasKernelRoom}
use Rattle.rank_program.specs.Sound.{setup_in, layout_in, tables_in}
use Rattle.rank_program.proofs.LocalLoops.{of_loop, to_loop}
use Rattle.rank_program.proofs.alone.run_places.Goals as goal

first_part : (n : ℕ) (xs ys : List ℤ) → n ≡ length xs → take n (xs ++ ys) ≡ xs
first_part n xs ys e = ap (λ k. take k (xs ++ ys)) e ∙ take-append_seam xs ys

all_same : (P : (cs old new : List ℤ) → Type 0) (cs ds : List ℤ) → cs ≡ ds → (old before : List ℤ) → old ≡ before → (new after : List ℤ) → new ≡ after
    → P cs old new → P ds before after
all_same P cs ds constants old before first new after last h =
    subst (λ m. P ds before m) last (subst (λ m. P ds m new) first (subst (λ k. P k old new) constants h))

pub local_loop-local-requires-clause-step : goal.local_loop-local-requires-clause-step
local_loop-local-requires-clause-step g c = (get_or c.args.elements.now.places.now 0 0, c.requires.steps 0 c.requires.some)

pub lengthen-requires : goal.lengthen-requires
lengthen-requires g c =
    let l = c.local_loop-local.result in
    let few = of_loop c.args.elements.now c.deref.result.now l c.local_loop-local.ensures.of
    (λ d j q xs cs vs. length l.scalars.now ≤ (tables_in d).stride) c.local_loop-local.ensures.is.stride in
    record { spare = omega (arith, few, c.requires.spare) }

pub run_here-kept-requires-clause-some : goal.run_here-kept-requires-clause-some
run_here-kept-requires-clause-some g c κs within =
    to_loop c.args.elements.now c.deref.result.now c.local_loop-local.result c.local_loop-local.ensures.of (λ d j q xs cs vs. 0 < length xs) c.requires.some

pub run_here-kept-requires-clause-steps : goal.run_here-kept-requires-clause-steps
run_here-kept-requires-clause-steps g c κs within =
    to_loop c.args.elements.now c.deref.result.now c.local_loop-local.result c.local_loop-local.ensures.of
    (λ d j q xs cs vs. AllBegin (setup_in d) (layout_in d) (tables_in d) j q xs) c.requires.steps

pub run_here-kept-requires-clause-partials : goal.run_here-kept-requires-clause-partials
run_here-kept-requires-clause-partials g c κs within =
    to_loop c.args.elements.now c.deref.result.now c.local_loop-local.result c.local_loop-local.ensures.of
    (λ d j q xs cs vs. length c.args.partials.now ≡ (tables_in d).slots) c.requires.partials

pub run_here-kept-requires-clause-room : goal.run_here-kept-requires-clause-room
run_here-kept-requires-clause-room g c κs within =
    to_loop c.args.elements.now c.deref.result.now c.local_loop-local.result c.local_loop-local.ensures.of
    (λ d j q xs cs vs. HasKernelRoom d.locals c.args.room.now.kernels) c.requires.space.kernels_fit

pub returns-clause-runs : goal.returns-clause-runs
returns-clause-runs g c =
    let e = c.args.elements.now in
    let p = e.program.now in
    let l = c.local_loop-local.result in
    let of = c.local_loop-local.ensures.of in
    let w = l.part.now.cells in
    let new = c.run_here-kept.new.memory in
    let width : w ≡ (layout_in p).width e.rank =
    of_loop e c.deref.result.now l of (λ d j q xs cs vs. w ≡ (layout_in d).width q) c.local_loop-local.ensures.is.width in
    let before : take w c.deref_mut.result.now ≡ c.args.memory.now.items =
    ap (take w) c.deref_mut.ensures.value ∙ ap (λ n. take n c.lengthen.new.memory.items) (width ∙ sym c.requires.memory) ∙ c.lengthen.ensures.front in
    let after : take w new ≡ c.truncate.new.self.items =
    (let long = c.args.memory.now.ok.0 in
    let count : w ≡ c.len-width.result = omega (arith, long, width, c.len-width.ensures, c.requires.memory) in
    let whole : vec_len c.lengthen.new.memory ≡ length new =
    (let stands = c.lengthen.new.memory.ok.0 in let same : length c.deref_mut.result.now ≡ length c.lengthen.new.memory.items = ap length c.deref_mut.ensures.value in
    let left = c.run_here-kept.auto.memory in omega (arith, stands, same, left)) in
    ap (λ n. take n new) count
    ∙ ap (take c.len-width.result) (sym (first_part (vec_len c.lengthen.new.memory) new (drop (length new) c.lengthen.new.memory.items) whole))
    ∙ sym c.truncate.ensures.items) in
    all_same (λ cs old new. Reaches (setup_in p) (layout_in p) (tables_in p) e.item e.rank cs e.variables.now e.places.now
    (record { cells = old; partials = c.args.partials.now; fault = stop_in c.args.fault }) (length e.places.now)
    (record { cells = new; partials = c.run_here-kept.new.partials; fault = stop_in c.run_here-kept.result }))
    c.deref.result.now c.args.room.now.constants.items c.deref.ensures.value (take w c.deref_mut.result.now) c.args.memory.now.items before (take w new) c.truncate.new.self.items after
    (of_loop e c.deref.result.now l of
    (λ d j q xs cs vs. Reaches (setup_in d) (layout_in d) (tables_in d) j q cs vs xs
    (record { cells = take w c.deref_mut.result.now; partials = c.args.partials.now; fault = stop_in c.args.fault }) (length xs)
    (record { cells = take w new; partials = c.run_here-kept.new.partials; fault = stop_in c.run_here-kept.result })) c.run_here-kept.ensures.reaches)
