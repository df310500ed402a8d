-- What the slices of a program say of an item.
use Rattle.std.proofs.Common.{◌≡◌, ℕ, suc, ◌<◌, ◌-◌, true, length, drop, get_or, Option, Some, None, sym, ap, subst, ◌∙◌, arith}
use Rattle.std.proofs.lemmas.List.{get_or_default, length-map}
use Rattle.mesh_decl.specs.declared.owners.Owners.{Owners}
use Rattle.schedule_model.specs.Tests.{free_kind}
use Rattle.bound_program.specs.Values.{BoundValue}
use Rattle.bound_program.specs.Fits.{site_at}
use Rattle.run_model.specs.Programs.{kind_of, item_at}
use Rattle.run_model.specs.Laws.{site_of}
use Rattle.chain_model.specs.Slices.{loops_from}
use Rattle.chain_model.specs.Counts.{begins_at}
use Rattle.chain_model.proofs.Public.{next_loop}
use Rattle.chain_needs.specs.declared.chain_slices.levels.Level.{Level}
use Rattle.chain_needs.specs.declared.chain_slices.shapes.Shape.{Shape}
use Rattle.chain_needs.specs.declared.chain_slices.sliced.LevelAt.{LevelAt}
use Rattle.chain_needs.specs.declared.chain_slices.sliced.Slices.{Slices}
use Rattle.chain_needs.specs.Levels.{IsLevel, IsFirstLevel}
use Rattle.chain_needs.specs.Shapes.{IsShape, loops_of}
use Rattle.chain_needs.specs.Slices.{AreSlices, IsFreeItem, IsPlace, StandsAt}

module _ (b : BoundValue) (o : Owners) (s : Slices) (h : AreSlices b o s) (k : ℕ) (free : IsFreeItem b k) (p : Option LevelAt) (at : LevelAt)
    (read : p ≡ get_or s.places.items k p) (some : p ≡ Some at) where
  pub stands : StandsAt b s.shapes.items k at
  stands =
      let l : k < length s.places.items = subst (λ n. k < n) (sym h.places.count) free.item in
      subst (IsPlace b s.shapes.items k) (get_or_default s.places.items k None p l ∙ (sym read ∙ some)) (h.places.each k free.item)

  module _ (x : Shape) (found : x ≡ get_or s.shapes.items at.shape x) where
    pub is_shape : IsShape b o x
    is_shape = subst (IsShape b o) (sym found) (h.shapes at.shape x stands.shape)

    in_sites : at.level < length x.sites.items
    in_sites = subst (λ (z : Shape). at.level < length z.sites.items) (sym found) (stands.level x)

    loops_there : drop (length x.sites.items - suc at.level) (loops_of b x) ≡ loops_from b k
    loops_there = subst (λ (z : Shape). drop (length z.sites.items - suc at.level) (loops_of b z) ≡ loops_from b k) (sym found) (stands.loops x)

    pub level_there : at.level < length x.levels.items
    level_there = omega (arith, in_sites, is_shape.levels.count, length-map x.sites.items (site_at b))

    pub first_level : (l : Level) → l ≡ get_or x.levels.items at.level l → IsFirstLevel b o (loops_from b k) l
    first_level l is =
        let n : length (loops_of b x) - suc at.level ≡ length x.sites.items - suc at.level = ap (λ m. m - suc at.level) (length-map x.sites.items (site_at b)) in
        subst (IsFirstLevel b o (loops_from b k)) (sym is)
        (subst (λ z. IsFirstLevel b o z (get_or x.levels.items at.level l)) (ap (λ m. drop m (loops_of b x)) n ∙ loops_there) (is_shape.levels.each at.level l level_there))

    pub whole : begins_at b k ≡ true → loops_of b x ≡ loops_from b k
    whole first =
        let e : suc at.level ≡ length x.sites.items = subst (λ (z : Shape). suc at.level ≡ length z.sites.items) (sym found) (stands.first x first) in
        let zero : length x.sites.items - suc at.level ≡ 0 = omega arith in
        sym (ap (λ m. drop m (loops_of b x)) zero) ∙ loops_there

pub level_of : (b : BoundValue) (o : Owners) (k : ℕ) (l : Level) → IsFreeItem b k → IsFirstLevel b o (loops_from b k) l → IsLevel b o (site_of b k) (loops_from b (suc k)) l
level_of b o k l free h = subst (λ z. IsFirstLevel b o z l) (next_loop b k (free_kind (kind_of (item_at b k)) free.free)) h
