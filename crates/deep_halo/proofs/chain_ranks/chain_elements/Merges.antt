-- Amounts are merged argument by argument.
use Rattle.std.proofs.Common.{◌≡◌, ◌<◌, ◌+◌, ℕ, List, [], take, length, get_or, refl}
use Rattle.schedule_model.specs.Cells.{Cell}
use Rattle.bound_program.specs.declared.sites.Arg.{Arg}
use Rattle.bound_program.specs.Fits.{AllApart}
use Rattle.run_model.specs.Arguments.{no_arg}
use Rattle.deep_halo.specs.Cells.{Values}
use Rattle.deep_halo.specs.Merging.{amounts_of, merged_by, merged_all}
use Rattle.deep_halo.proofs.chain_ranks.chain_elements.Changes.{changed_none, changed_more}

pub merged_none : (r : ℕ) (all : List Arg) (f p : Values) (m : ℕ) (c : Cell) → p m c ≡ merged_all r all [] f p m c
merged_none r all f p m c = changed_none (amounts_of f) (λ z m c. refl) r all p m c

pub merged_more : (r : ℕ) (all : List Arg) (f p : Values) (i : ℕ) → AllApart all → i < length all → (m : ℕ) (c : Cell)
    → merged_by r f (get_or all i no_arg) (merged_all r all (take i all) f p) m c ≡ merged_all r all (take (i + 1) all) f p m c
merged_more r all f p i apart lt m c = changed_more (amounts_of f) (λ z m c. refl) r all p i apart lt m c
