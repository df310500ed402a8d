use Rattle.std.proofs.Common.{◌≡◌, ◌<◌, ◌/◌, ◌++◌, ◌∷◌, [], ◌∙◌, ℕ, List, true, sym, ap, ap₂, subst, arith, get_or, length, take, append-nil}
use Rattle.std.specs.Prelude.{◌==◌}
use Rattle.std.specs.List.{All, flat_map}
use Rattle.std.proofs.lemmas.Grind.{flat_map-append}
use Rattle.std.proofs.lemmas.List.{take_more, take_all}
use Rattle.schedule_steps.specs.Drawn.{numbers}
use Rattle.schedule_steps.specs.Standard.{above, blocks}
use Rattle.step_orders.specs.Order.{by_key}
use Rattle.step_orders.proofs.Blocks.{block_by_colour, all_numbers, colour_below, block_colour_below, blocks_are, block_by_block}
use Rattle.step_orders.proofs.order.places_in_order.Goals as goal

pub loop-i-preserved : goal.loop-i-preserved
loop-i-preserved c = λ n all.
    let colours : List ℕ = c.args.colours.now in
    let s : ℕ = c.args.size in
    let xs : List ℕ = c.in_ok-blocks.blocks.items in
    let i : ℕ = c.loop-i.i in
    let b : ℕ = c.index.result.now in
    let f = block_by_colour colours s n in
    let filled : c.fill_block.new.places.items ≡ numbers (λ x. x / s == b) (length colours) = c.in_ok-fill_block.ensures.places in
    let below : All (λ x. get_or colours x 0 < n) (numbers (λ x. x / s == b) (length colours)) =
    all_numbers (λ x. get_or colours x 0 < n) (λ x. x / s == b) (length colours) all in
    let sorted : c.sort_by_keys.new.elements.items ≡ f b =
    c.in_ok-sort_by_keys.ensures n (subst (λ ys. All (λ x. get_or colours x 0 < n) ys) (sym filled) below)
    ∙ ap (by_key (λ x. get_or colours x 0) n) filled in
    c.in_ok-extend_from_slice.ensures.items
    ∙ (ap₂ (λ p q. p ++ q) (c.loop-i.invariant n all) (c.deref.ensures.value ∙ sorted)
    ∙ sym (ap (flat_map f) (take_more xs i b (omega arith) ∙ ap (λ v. take i xs ++ v ∷ []) (sym c.index.ensures))
    ∙ (flat_map-append f (take i xs) (b ∷ [])
    ∙ ap (λ z. flat_map f (take i xs) ++ z) (append-nil (f b)))))

pub returns : goal.returns
returns c = λ o k r h.
    let colours : List ℕ = c.args.colours.now in
    let bc : List ℕ = c.args.block_colours.now in
    let s : ℕ = c.args.size in
    let xs : List ℕ = c.in_ok-blocks.blocks.items in
    let few = above (o.colour k r) (o.count k r) in
    let hs = above (o.block_colour k r) (blocks o k r) in
    let over = c.loop-i-test.false in
    let count : c.blocks_of.result ≡ blocks o k r =
    blocks_are o k r s bc colours h c.requires.size c.blocks_of.result c.blocks_of.ensures.none c.blocks_of.ensures.some in
    let in_order : xs ≡ by_key (λ b. get_or bc b 0) hs (numbers (λ b. true) (blocks o k r)) =
    c.in_ok-blocks.ensures hs (all_numbers (λ b. get_or bc b 0 < hs) (λ b. true) c.blocks_of.result
    (λ b lt. block_colour_below o k r s bc colours h c.requires.size b (omega (arith, lt, count))))
    ∙ ap (λ m. by_key (λ b. get_or bc b 0) hs (numbers (λ b. true) m)) count in
    c.loop-i.invariant few (colour_below o k r s bc colours h c.requires.size)
    ∙ (ap (flat_map (block_by_colour colours s few)) (take_all c.loop-i.i xs (omega (arith, over)) ∙ in_order)
    ∙ block_by_block o k r s bc colours h c.requires.size)
