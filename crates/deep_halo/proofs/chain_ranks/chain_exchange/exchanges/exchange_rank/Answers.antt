use Rattle.std.proofs.Common.{◌≡◌, ◌≢◌, ◌<◌, ◌&&◌, ℕ, List, nat_eq, length, get_or, sym, subst}
use Rattle.mesh_decl.specs.Mesh.{dat_set, set_size}
use Rattle.mesh_decl.specs.Owners.{owner_of}
use Rattle.deep_halo.specs.Sound.{program_in}
use Rattle.deep_halo.specs.Cells.{Hold, cleared, taken}
use Rattle.deep_halo.proofs.chain_memory.chain_stores.Writing.{held_as}
use Rattle.deep_halo.specs.declared.chain_ranks.chain_exchange.exchanges.Exchange.{Exchange}
use Rattle.deep_halo.specs.declared.chain_ranks.chain_exchange.exchanges.Exchange.TheVariants.{Drop, Take}
use Rattle.deep_halo.specs.Exchanged.{exchanged_where}
use Rattle.deep_halo.proofs.chain_ranks.chain_exchange.Exchanging.{copies, copy_within, copy_other, list_dropped, list_taken}
use Rattle.deep_halo.proofs.chain_ranks.chain_exchange.exchanges.exchange_rank.Goals as goal

pub clear_pairs-requires-clause-elements : goal.clear_pairs-requires-clause-elements
clear_pairs-requires-clause-elements c =
    let b = program_in c.args.blocks.now in
    let o = c.args.blocks.now.owners.now in
    let is : c.copies-elements.result.now ≡ copies b o c.args.item c.args.rank c.args.dat =
    c.copies-elements.ensures b o c.requires.slices c.requires.item c.requires.begins c.requires.dat c.requires.rank in
    subst (λ (ys : List ℕ). (k : ℕ) → k < length ys → get_or ys k 0 < set_size b.mesh (dat_set b.mesh c.args.dat)) (sym is) (copy_within b o c.args.item c.args.rank c.args.dat)

pub copy_pairs-requires-clause-elements : goal.copy_pairs-requires-clause-elements
copy_pairs-requires-clause-elements c =
    let b = program_in c.args.blocks.now in
    let o = c.args.blocks.now.owners.now in
    let is : c.copies-elements.result.now ≡ copies b o c.args.item c.args.rank c.args.dat =
    c.copies-elements.ensures b o c.requires.slices c.requires.item c.requires.begins c.requires.dat c.requires.rank in
    subst (λ (ys : List ℕ). (k : ℕ) → k < length ys → get_or ys k 0 < set_size b.mesh (dat_set b.mesh c.args.dat)) (sym is) (copy_within b o c.args.item c.args.rank c.args.dat)

pub copy_pairs-requires-clause-others : goal.copy_pairs-requires-clause-others
copy_pairs-requires-clause-others c =
    let b = program_in c.args.blocks.now in
    let o = c.args.blocks.now.owners.now in
    let is : c.copies-elements.result.now ≡ copies b o c.args.item c.args.rank c.args.dat =
    c.copies-elements.ensures b o c.requires.slices c.requires.item c.requires.begins c.requires.dat c.requires.rank in
    subst (λ (ys : List ℕ). (k : ℕ) → k < length ys → owner_of o (dat_set b.mesh c.args.dat) (get_or ys k 0) ≢ c.args.rank) (sym is) (copy_other b o c.args.item c.args.rank c.args.dat)

pub returns-in-Drop : goal.returns-in-Drop
returns-in-Drop c f holds =
    let b = program_in c.args.blocks.now in
    let o = c.args.blocks.now.owners.now in
    let is : c.copies-elements.result.now ≡ copies b o c.args.item c.args.rank c.args.dat =
    c.copies-elements.ensures b o c.requires.slices c.requires.item c.requires.begins c.requires.dat c.requires.rank in
    subst (λ (w : Exchange). Hold c.args.blocks.now c.clear_pairs.new.memory (exchanged_where b o c.args.item w (λ r d. nat_eq r c.args.rank && nat_eq d c.args.dat) f)) (sym c.in-Drop.is)
    (held_as b o.ranks c.clear_pairs.new.memory (cleared c.args.rank c.args.dat c.copies-elements.result.now f)
    (exchanged_where b o c.args.item Drop (λ r d. nat_eq r c.args.rank && nat_eq d c.args.dat) f)
    (λ m x le h. list_dropped b o c.args.item c.args.rank c.args.dat c.copies-elements.result.now f is m x h) (c.clear_pairs.ensures f holds))

pub returns-in-Take : goal.returns-in-Take
returns-in-Take c f holds =
    let b = program_in c.args.blocks.now in
    let o = c.args.blocks.now.owners.now in
    let is : c.copies-elements.result.now ≡ copies b o c.args.item c.args.rank c.args.dat =
    c.copies-elements.ensures b o c.requires.slices c.requires.item c.requires.begins c.requires.dat c.requires.rank in
    subst (λ (w : Exchange). Hold c.args.blocks.now c.copy_pairs.new.memory (exchanged_where b o c.args.item w (λ r d. nat_eq r c.args.rank && nat_eq d c.args.dat) f)) (sym c.in-Take.is)
    (held_as b o.ranks c.copy_pairs.new.memory (taken b o c.args.rank c.args.dat c.copies-elements.result.now f)
    (exchanged_where b o c.args.item Take (λ r d. nat_eq r c.args.rank && nat_eq d c.args.dat) f)
    (λ m x le h. list_taken b o c.args.item c.args.rank c.args.dat c.copies-elements.result.now f is m x h) (c.copy_pairs.ensures f holds))
