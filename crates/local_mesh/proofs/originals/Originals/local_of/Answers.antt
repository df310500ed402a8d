use Rattle.std.proofs.Common.{◌≡◌, ◌≢◌, ◌<◌, ◌⊎◌, ℕ, List, length, get_or, Some, None, ap, sym, ◌∙◌, ⊎_elim, subst}
use Rattle.std.specs.Prelude.{Option, IfSome, IfNone}
use Rattle.std.proofs.lemmas.Bool.{cases_order}
use Rattle.local_mesh.specs.declared.lookup.Lookup.{Lookup}
use Rattle.local_mesh.specs.declared.lookup.Lookup.TheVariants.{Rising, Sorted}
use Rattle.local_mesh.specs.Lookup.{Finds}
use Rattle.local_mesh.proofs.originals.Originals.local_of.Goals as goal

-- what is found among different numbers is where it stands
found_at : (xs : List ℕ) (x : ℕ) (r : Option ℕ) → ((j k : ℕ) → j < k → k < length xs → get_or xs j 0 ≢ get_or xs k 0)
    → IfSome r (λ l. (l < length xs) × (get_or xs l 0 ≡ x)) → IfNone r ((k : ℕ) → k < length xs → get_or xs k 0 ≢ x) → (k : ℕ)
    → k < length xs → get_or xs k 0 ≡ x → r ≡ Some k
found_at xs x (Some l) apart h n k lk e = ap Some (⊎_elim
    (λ (q : l ≡ k). q)
    (λ (o : (l < k) ⊎ (k < l)). ⊎_elim
    (λ (m : l < k). absurd (apart l k m lk (h.1 ∙ sym e)))
    (λ (m : k < l). absurd (apart k l m h.0 (e ∙ sym h.1)))
    o)
    (cases_order l k))
found_at xs x None apart h n k lk e = absurd (n k lk e)

-- the numbers of a look-up are different
apart_in : (xs : List ℕ) (l : Lookup) → Finds xs l → (j k : ℕ) → j < k → k < length xs → get_or xs j 0 ≢ get_or xs k 0
apart_in xs (Rising a b) h = h.apart
apart_in xs (Sorted c l) h = h.apart

pub returns : goal.returns
returns c =
    let xs = c.args.self.now in
    let x = c.args.original in
    let r = c.local_of.result in
    let e : c.deref.result.now ≡ c.args.self.now = c.deref.ensures.value ∙ c.self.view_is in
    let some = subst (λ (z : List ℕ). IfSome r (λ l. (l < length z) × (get_or z l 0 ≡ x))) e c.local_of.ensures.some in
    let none = subst (λ (z : List ℕ). IfNone r ((k : ℕ) → k < length z → get_or z k 0 ≢ x)) e c.local_of.ensures.none in
    let apart = subst (λ (z : List ℕ). (j k : ℕ) → j < k → k < length z → get_or z j 0 ≢ get_or z k 0) c.self.view_is (apart_in c.self.inside.numbers.items c.self.inside.lookup c.self.invariant) in
    record {
      some = some;
      none = none;
      at = found_at xs x r apart some none;
    }
