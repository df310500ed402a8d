-- The elements of a closed group have no common cell of a dat that the item modifies.
use Rattle.std.proofs.Common.{◌≡◌, ℕ, true, false, refl, sym, ap, subst, ◌∙◌, ⊎_elim, List, [], ◌∷◌, ◌++◌, map, append_assoc}
use Rattle.std.proofs.lemmas.Bool.{false≢true, and_from}
use Rattle.schedule_steps.specs.Outline.{by_colour}
use Rattle.schedule_steps.specs.declared.step.Step.{Step}
use Rattle.schedule_steps.specs.declared.step.Step.TheVariants.{Begin, End}
use Rattle.schedule_steps.specs.Steps.{IsStep, coloured, has, Accepted}
use Rattle.schedule_steps.specs.Members.{has_left, has_right, has_parts, has_at}
use Rattle.step_orders.specs.Left.{begins, ends}
use Rattle.schedule_model.specs.Cells.{Data, DatCell}
use Rattle.schedule_model.specs.Program.{Free}
use Rattle.schedule_model.specs.Setup.{Setup}
use Rattle.schedule_model.specs.Laws.{Coloured}
use Rattle.schedule_model.specs.Tests.{free_kind}
use Rattle.schedule_model.specs.Layout.{Layout, IsLayout, among, by_place}
use Rattle.schedule_model.proofs.Public.{place_runs}
use Rattle.rank_exec.specs.Closed.{closed}

module _ {F : Type 0} (p : Setup F) (l : Layout F) where
  -- two elements of the item have no common cell of a dat that it modifies
  abbrev pub NoCommon : ℕ → ℕ → ℕ → Type 0
  NoCommon k d e =
      (c : DatCell) → p.modifies k c.dat ≡ true → among (l.cells k d) (Data c) ≡ true → among (l.cells k e) (Data c) ≡ true → ⊥

  -- the place is none of the others, and its element has no such cell with theirs
  abbrev pub IsApart : ℕ → ℕ → ℕ → List ℕ → Type 0
  IsApart k r x [] = Unit {0}
  IsApart k r x (y ∷ ys) = (x ≡ y → ⊥) × NoCommon k (l.original k r x) (l.original k r y) × IsApart k r x ys

  -- each place is run, and apart from those behind it
  abbrev pub AreApart : ℕ → ℕ → List ℕ → Type 0
  AreApart k r [] = Unit {0}
  AreApart k r (x ∷ xs) = IsStep (by_place p l) (Begin k r x) × IsApart k r x xs × AreApart k r xs

map_at : (g : ℕ → Step) (a : List ℕ) (y : ℕ) (b : List ℕ) → map g (a ++ (y ∷ b)) ≡ map g a ++ (g y ∷ map g b)
map_at g [] y b = refl
map_at g (x ∷ a) y b = ap (λ z. g x ∷ z) (map_at g a y b)

-- no end is among begins
no_end : (k r x : ℕ) (a : List ℕ) → has (begins k r a) (End k r x) ≡ false
no_end k r x [] = refl
no_end k r x (y ∷ a) = no_end k r x a

module _ {F : Type 0} (p : Setup F) (col : Coloured p) (l : Layout F) (q : IsLayout p l) (steps front rest : List Step) (k r : ℕ) (xs : List ℕ)
    (acc : Accepted (by_place p l) steps) (is : steps ≡ front ++ (closed k r xs ++ rest)) where
  -- the list at a begin
  begin_at : (a : List ℕ) (y : ℕ) (b : List ℕ) → xs ≡ a ++ (y ∷ b)
      → steps ≡ (front ++ begins k r a) ++ (Begin k r y ∷ (begins k r b ++ (ends k r xs ++ rest)))
  begin_at a y b e =
      is
      ∙ (ap (λ z. front ++ z)
      (append_assoc (begins k r xs) (ends k r xs) rest
      ∙ (ap (λ z. z ++ (ends k r xs ++ rest)) (ap (begins k r) e ∙ map_at (Begin k r) a y b)
      ∙ append_assoc (begins k r a) (Begin k r y ∷ begins k r b) (ends k r xs ++ rest)))
      ∙ sym (append_assoc front (begins k r a) (Begin k r y ∷ (begins k r b ++ (ends k r xs ++ rest)))))

  -- the list at an end
  end_at : (a : List ℕ) (y : ℕ) (b : List ℕ) → xs ≡ a ++ (y ∷ b)
      → steps ≡ (front ++ (begins k r xs ++ ends k r a)) ++ (End k r y ∷ (ends k r b ++ rest))
  end_at a y b e =
      is
      ∙ (ap (λ z. front ++ z)
      (append_assoc (begins k r xs) (ends k r xs) rest
      ∙ (ap (λ z. begins k r xs ++ z)
      (ap (λ z. z ++ rest) (ap (ends k r) e ∙ map_at (End k r) a y b) ∙ append_assoc (ends k r a) (End k r y ∷ ends k r b) rest)
      ∙ sym (append_assoc (begins k r xs) (ends k r a) (End k r y ∷ (ends k r b ++ rest)))))
      ∙ sym (append_assoc front (begins k r xs ++ ends k r a) (End k r y ∷ (ends k r b ++ rest))))

  step_at : (a : List ℕ) (y : ℕ) (b : List ℕ) → xs ≡ a ++ (y ∷ b) → IsStep (by_place p l) (Begin k r y)
  step_at a y b e = acc.steps (front ++ begins k r a) (Begin k r y) (begins k r b ++ (ends k r xs ++ rest)) (begin_at a y b e)

  -- no colour orders two of the group: else the one would have ended before the other began
  no_order : (a : List ℕ) (x : ℕ) (b : List ℕ) → xs ≡ a ++ (x ∷ b) → (c : List ℕ) (y : ℕ) (d : List ℕ) → xs ≡ c ++ (y ∷ d)
      → by_colour (by_place p l) k r x y ≡ true → ⊥
  no_order a x b e c y d g h =
      let before : has (front ++ begins k r c) (End k r x) ≡ true =
      acc.order (front ++ begins k r c) (Begin k r y) (begins k r d ++ (ends k r xs ++ rest)) (begin_at c y d g) (End k r x) (step_at a x b e) (coloured h) in
      let once = acc.once (front ++ (begins k r xs ++ ends k r a)) (End k r x) (ends k r b ++ rest) (end_at a x b e) in
      ⊎_elim
      (λ (i : has front (End k r x) ≡ true). false≢true (sym once ∙ has_left front (begins k r xs ++ ends k r a) (End k r x) i))
      (λ (i : has (begins k r c) (End k r x) ≡ true). false≢true (sym (no_end k r x c) ∙ i))
      (has_parts front (begins k r c) (End k r x) before)

  differ : (a : List ℕ) (x : ℕ) (b : List ℕ) (y : ℕ) (d : List ℕ) → xs ≡ (a ++ (x ∷ b)) ++ (y ∷ d) → x ≡ y → ⊥
  differ a x b y d e i =
      let once = acc.once (front ++ begins k r (a ++ (x ∷ b))) (Begin k r y) (begins k r d ++ (ends k r xs ++ rest)) (begin_at (a ++ (x ∷ b)) y d e) in
      let there : has (begins k r (a ++ (x ∷ b))) (Begin k r x) ≡ true =
      subst (λ z. has z (Begin k r x) ≡ true) (sym (map_at (Begin k r) a x b)) (has_at (begins k r a) (Begin k r x) (begins k r b)) in
      let also : has (begins k r (a ++ (x ∷ b))) (Begin k r y) ≡ true = subst (λ z. has (begins k r (a ++ (x ∷ b))) (Begin k r z) ≡ true) i there in
      false≢true (sym once ∙ has_right front (begins k r (a ++ (x ∷ b))) (Begin k r y) also)

  no_common : (a : List ℕ) (x : ℕ) (b : List ℕ) → xs ≡ a ++ (x ∷ b) → (c : List ℕ) (y : ℕ) (d : List ℕ) → xs ≡ c ++ (y ∷ d)
      → (x ≡ y → ⊥) → NoCommon p l k (l.original k r x) (l.original k r y)
  no_common a x b e c y d g ne v m i j =
      let planned : IsStep (by_place p l) (Begin k r x) = step_at a x b e in
      let other : IsStep (by_place p l) (Begin k r y) = step_at c y d g in
      let fr : p.program.kind k ≡ Free = free_kind (p.program.kind k) planned.1 in
      let at = place_runs p l q k r x fr planned.2 planned.3 in
      let to = place_runs p l q k r y fr other.2 other.3 in
      let apart : l.original k r x ≡ l.original k r y → ⊥ = λ s. ne (sym at.3 ∙ (ap (l.local k r) s ∙ to.3)) in
      ⊎_elim (no_order a x b e c y d g) (no_order c y d g a x b e)
      (col k r (l.original k r x) (l.original k r y) v fr planned.2 at.1 to.1 at.2 to.2 apart
      (q.modified_is k (l.original k r x) v fr at.1 ∙ and_from (p.modifies k v.dat) (among (l.cells k (l.original k r x)) (Data v)) m i)
      (q.modified_is k (l.original k r y) v fr to.1 ∙ and_from (p.modifies k v.dat) (among (l.cells k (l.original k r y)) (Data v)) m j))

  is_apart : (a : List ℕ) (x : ℕ) (b ys : List ℕ) → xs ≡ a ++ (x ∷ (b ++ ys)) → IsApart p l k r x ys
  is_apart a x b [] e = tt
  is_apart a x b (y ∷ ys) e =
      let g : xs ≡ (a ++ (x ∷ b)) ++ (y ∷ ys) = e ∙ sym (append_assoc a (x ∷ b) (y ∷ ys)) in
      let ne : x ≡ y → ⊥ = differ a x b y ys g in (
        ne,
        no_common a x (b ++ (y ∷ ys)) e (a ++ (x ∷ b)) y ys g ne,
        is_apart a x (b ++ (y ∷ [])) ys (e ∙ ap (λ z. a ++ (x ∷ z)) (sym (append_assoc b (y ∷ []) ys))),
      )

  -- so all of them are apart
  pub are_apart : (a ys : List ℕ) → xs ≡ a ++ ys → AreApart p l k r ys
  are_apart a [] e = tt
  are_apart a (y ∷ ys) e =
      (step_at a y ys e, is_apart a y [] ys e, are_apart (a ++ (y ∷ [])) ys (e ∙ sym (append_assoc a (y ∷ []) ys)))
