-- At most one message for each chain and two ranks.
use Rattle.std.proofs.Common.{◌≡◌, ℕ, zero, suc, ◌*◌, ◌≤◌, Bool, true, false, cond, sym, subst, arith, ⊎_elim}
use Rattle.std.specs.Prelude.{◌&&◌, not}
use Rattle.std.proofs.lemmas.Bool.{cases_Bool, false≢true, and_left}
use Rattle.lemmas.specs.Below.{count_below}
use Rattle.mesh_decl.specs.declared.owners.Owners.{Owners}
use Rattle.bound_program.specs.Values.{BoundValue}
use Rattle.chain_model.specs.Slices.{owns_pair, needs}
use Rattle.chain_model.specs.Counts.{sum_below, begins_at, some_pair, sends, MessagesAreFew}
use Rattle.lemmas.proofs.Truth.{cond_bit}

none_of : (b : Bool) → b ≡ false → cond b 1 0 ≤ 0
none_of true h = absurd (false≢true (sym h))
none_of false h = omega arith

count_all : (n : ℕ) (p : ℕ → Bool) → count_below n p ≤ n
count_all zero p = omega arith
count_all (suc n) p = let a : count_below n p ≤ n = count_all n p in let b : cond (p n) 1 0 ≤ 1 = cond_bit (p n) in omega arith

count_none : (n : ℕ) (p : ℕ → Bool) → ((k : ℕ) → p k ≡ false) → count_below n p ≤ 0
count_none zero p h = omega arith
count_none (suc n) p h = let a : count_below n p ≤ 0 = count_none n p h in let b : cond (p n) 1 0 ≤ 0 = none_of (p n) (h n) in omega arith

sum_all : (n : ℕ) (f : ℕ → ℕ) (c : ℕ) → ((k : ℕ) → f k ≤ c) → sum_below n f ≤ n * c
sum_all zero f c h = omega arith
sum_all (suc n) f c h = let a : sum_below n f ≤ n * c = sum_all n f c h in let b : f n ≤ c = h n in omega arith

sum_few : (n : ℕ) (p : ℕ → Bool) (f : ℕ → ℕ) (c : ℕ) → ((k : ℕ) → f k ≤ cond (p k) 1 0 * c) → sum_below n f ≤ count_below n p * c
sum_few zero p f c h = omega arith
sum_few (suc n) p f c h = let a : sum_below n f ≤ count_below n p * c = sum_few n p f c h in let b : f n ≤ cond (p n) 1 0 * c = h n in omega arith

module _ (b : BoundValue) (o : Owners) (k : ℕ) where
  abbrev total : ℕ
  total = sum_below o.ranks (λ s. count_below o.ranks (sends b o k s))

  at_chain : begins_at b k ≡ true → total ≤ cond (begins_at b k) 1 0 * (o.ranks * o.ranks)
  at_chain h = subst (λ z. total ≤ cond z 1 0 * (o.ranks * o.ranks)) (sym h)
      (let a : total ≤ o.ranks * o.ranks = sum_all o.ranks (λ s. count_below o.ranks (sends b o k s)) o.ranks (λ s. count_all o.ranks (sends b o k s)) in omega arith)

  elsewhere : begins_at b k ≡ false → total ≤ cond (begins_at b k) 1 0 * (o.ranks * o.ranks)
  elsewhere h =
      let a : total ≤ o.ranks * 0 = sum_all o.ranks (λ s. count_below o.ranks (sends b o k s)) 0
      (λ s. count_none o.ranks (sends b o k s) (λ r. and_left (begins_at b k) (some_pair b (λ d y. needs b o k r d y && (owns_pair b o s d y && not (owns_pair b o r d y)))) h)) in
      omega arith

  at_item : total ≤ cond (begins_at b k) 1 0 * (o.ranks * o.ranks)
  at_item = ⊎_elim (λ h. at_chain h) (λ h. elsewhere h) (cases_Bool (begins_at b k))

pub few : MessagesAreFew
few b o = sum_few _ (begins_at b) (λ k. sum_below o.ranks (λ s. count_below o.ranks (sends b o k s))) (o.ranks * o.ranks) (λ k. at_item b o k)
