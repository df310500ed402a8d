use Rattle.std.proofs.Common.{ℕ, ◌≡◌, ◌≤◌, ◌<◌, ◌+◌, ◌*◌, ◌∙◌, ap, min, length, get_or, inl, arith}
use Rattle.colouring.proofs.Telling.{row_bounds, most, row_least, row_told, sound_more, added_kept}
use Rattle.colouring.proofs.greedy.colour_row.Goals as goal

pub free_colour-requires-clause-most : goal.free_colour-requires-clause-most
free_colour-requires-clause-most c =
    let ts = c.args.targets.now in
    let first = row_bounds ts c.args.width c.args.row c.min-start.result c.min-end.result c.min-start.ensures c.min-end.ensures in
    most ts c.args.width c.args.colours.now c.args.row c.requires.row c.args.masks.now c.requires.told c.min-start.result c.min-end.result first c.requires.targets

pub returns-clause-least : goal.returns-clause-least
returns-clause-least c =
    let ts = c.args.targets.now in
    let first = row_bounds ts c.args.width c.args.row c.min-start.result c.min-end.result c.min-start.ensures c.min-end.ensures in
    row_least ts c.args.width c.args.colours.now c.args.row c.requires.row c.args.masks.now c.requires.told c.min-start.result
    c.min-end.result first c.requires.targets c.in_ok-colour.colour c.in_ok-colour.ensures.below c.in_ok-colour.ensures.free

pub returns-clause-told : goal.returns-clause-told
returns-clause-told c =
    let ts = c.args.targets.now in
    let m = c.args.masks.now in
    let n = c.free_colour.new.self in
    let k = c.in_ok-colour.ensures.kept in
    let first = row_bounds ts c.args.width c.args.row c.min-start.result c.min-end.result c.min-start.ensures c.min-end.ensures in
    row_told ts c.args.width c.args.colours.now c.args.row c.requires.row m c.requires.told c.min-start.result c.min-end.result first
    c.requires.targets c.in_ok-colour.colour c.in_ok-colour.ensures.below c.in_ok-colour.ensures.free
    c.add.new.self (c.in_ok-add.ensures.length ∙ ap (λ v. length v.items) k.0)
    (added_kept m n c.add.new.self (λ t v b. (32 * v + b ≡ c.in_ok-colour.colour) × ((x : ℕ) × (c.min-start.result ≤ x) × (x < c.min-end.result) × (get_or ts x 0 ≡ t))) k c.in_ok-add.ensures.added)

pub returns-clause-sound : goal.returns-clause-sound
returns-clause-sound c = sound_more c.free_colour.new.self c.add.new.self c.in_ok-add.ensures.passed (λ t v b bl h. (c.in_ok-add.ensures.added t v b bl).1 (inl h)) c.in_ok-colour.ensures.sound

pub returns-clause-touched : goal.returns-clause-touched
returns-clause-touched c t away =
    let e : c.min-end.result ≡ min (c.args.row * c.args.width + c.args.width) (length c.args.targets.now) = c.min-end.ensures in
    c.in_ok-add.ensures.others t (λ k a b. away k (omega arith)) ∙ ap (λ v. get_or v.items t 0) c.in_ok-colour.ensures.kept.0
