-- The machine of chains, item by item.
use Rattle.std.proofs.Common.{◌≡◌, ◌≤◌, ◌+◌, ◌≢◌, ⊎_elim, ℕ, zero, suc, true, Option, None, cond, is_some, sym, ap, ◌∙◌, arith}
use Rattle.std.proofs.lemmas.Bool.{cases_eq}
use Rattle.schedule_model.specs.Sequential.{Stop}
use Rattle.chain_model.specs.Slicing.{Slicing}
use Rattle.chain_model.specs.Machine.{ChainState, item_run, chain_items}

-- where nothing stopped it, it does the next item
pub one_more : {F : Type 0} → (c : Slicing F) → (k : ℕ) → (chain_items c k).stop ≡ None
    → item_run c k (c.program.kind k) (chain_items c k) ≡ chain_items c (k + 1)
one_more {F} c k going =
    sym (ap (λ (x : Option (Stop F)). cond (is_some x) (chain_items c k) (item_run c k (c.program.kind k) (chain_items c k))) going)
    ∙ ap (chain_items c) (let q : suc k ≡ k + 1 = omega arith in q)

-- where it has stopped, it stays
pub stays : {F : Type 0} → (c : Slicing F) → (k n : ℕ) → k ≤ n → is_some (chain_items c k).stop ≡ true → chain_items c n ≡ chain_items c k
stays {F} c k zero le s = ap (chain_items c) (let q : zero ≡ k = omega (arith, le) in q)
stays {F} c k (suc n) le s = ⊎_elim
    (λ (e : k ≡ suc n). ap (chain_items c) (sym e))
    (λ (e : k ≢ suc n).
    let same = stays c k n (omega (arith, le, e)) s in
    ap (λ (x : ChainState F). cond (is_some x.stop) (chain_items c n) (item_run c n (c.program.kind n) (chain_items c n))) same
    ∙ ap (λ t. cond t (chain_items c n) (item_run c n (c.program.kind n) (chain_items c n))) s ∙ same)
    (cases_eq k (suc n))
