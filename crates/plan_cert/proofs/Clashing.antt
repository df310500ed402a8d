-- Whether blocks or places in conflict have one colour can be told.
use Rattle.std.proofs.Common.{◌≡◌, ◌≢◌, ℕ, ◌<◌, Bool, true, false, inl, inr, refl, List, Vec, length, get_or}
use Rattle.std.specs.declared.alloc.Global.{Global}
use Rattle.std.proofs.lemmas.Bool.{cases_eq, false≢true}
use Rattle.mesh_decl.specs.Mesh.{MeshValue}
use Rattle.colouring.specs.declared.types.IncArg.{IncArg}
use Rattle.colouring.specs.Colours.{BlocksConflict, ConflictWithin}
use Rattle.colouring.specs.Clashes.{BlocksClash, PlacesClash}
use Rattle.loop_plan.proofs.Public.{within, within_is, between, between_is}
use Rattle.plan_cert.proofs.Deciding.{Known, SomeBelow, both_known, not_known, known_by, below_known}

passes_known : (t : Bool) → Known (t ≡ true)
passes_known true = inl refl
passes_known false = inr false≢true

-- of numbers that are apart, in conflict, some have one colour
abbrev SomeClash : (ℕ → ℕ → Type 0) → List ℕ → Type 0
SomeClash Conflicts cs = SomeBelow (length cs) (λ a. SomeBelow (length cs) (λ e. (a ≢ e) × (Conflicts a e × (get_or cs a 0 ≡ get_or cs e 0))))

some_clash : (Conflicts : ℕ → ℕ → Type 0) → ((a e : ℕ) → Known (Conflicts a e)) → (cs : List ℕ) → Known (SomeClash Conflicts cs)
some_clash Conflicts known cs =
    below_known (λ a. SomeBelow (length cs) (λ e. (a ≢ e) × (Conflicts a e × (get_or cs a 0 ≡ get_or cs e 0)))) (λ a.
    below_known (λ e. (a ≢ e) × (Conflicts a e × (get_or cs a 0 ≡ get_or cs e 0))) (λ e.
    both_known (not_known (cases_eq a e)) (both_known (known a e) (cases_eq (get_or cs a 0) (get_or cs e 0)))) (length cs)) (length cs)

module _ (g : MeshValue) (maps : List (Vec ℕ Global)) (args : List IncArg) (places size : ℕ) (some : 0 < size) where
  blocks_conflict : (a e : ℕ) → Known (BlocksConflict g maps args places size a e)
  blocks_conflict a e = known_by (between_is g maps args size places some a e).0 (between_is g maps args size places some a e).1 (passes_known (between g maps args size places a e))

  places_conflict : (a e : ℕ) → Known (ConflictWithin g maps args size a e)
  places_conflict a e = known_by (within_is g maps args size a e).0 (within_is g maps args size a e).1 (passes_known (within g maps args size a e))

  pub blocks_known : (cs : List ℕ) → Known (BlocksClash g maps args places size cs)
  blocks_known cs = known_by
      (λ w. record { one = w.0; other = w.2.0; within = w.1; other_within = w.2.1; apart = w.2.2.0; conflict = w.2.2.1.0; same = w.2.2.1.1 })
      (λ c. (c.one, c.within, (c.other, c.other_within, (c.apart, (c.conflict, c.same)))))
      (some_clash (BlocksConflict g maps args places size) blocks_conflict cs)

  pub places_known : (cs : List ℕ) → Known (PlacesClash g maps args places size cs)
  places_known cs = known_by
      (λ w. record { one = w.0; other = w.2.0; within = w.1; other_within = w.2.1; apart = w.2.2.0; conflict = w.2.2.1.0; same = w.2.2.1.1 })
      (λ c. (c.one, c.within, (c.other, c.other_within, (c.apart, (c.conflict, c.same)))))
      (some_clash (ConflictWithin g maps args size) places_conflict cs)
