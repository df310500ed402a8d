-- A program with other kernels and variables awaits, takes and refuses the same lines.
use Rattle.std.proofs.Common.{◌≡◌, ℕ, inl, inr, refl, sym, ap, subst, ◌∙◌, List, [], ◌∷◌}
use Rattle.mesh_decl.specs.Mesh.{MeshValue}
use Rattle.local_mesh.specs.declared.types.RankMesh.{RankMesh}
use Rattle.bound_program.specs.Values.{BoundValue, SiteValue, ItemValue}
use Rattle.loop_plan.specs.Values.{PlanValue}
use Rattle.loop_plan.specs.Needs.{item_at}
use Rattle.loop_plan.specs.Proper.{Proper}
use Rattle.plan_cert.specs.Awaited.{Awaited, Exactly, Sizes, ColoursOf, Done, awaited, ColourLists, IsSizes, IsSite, FitsLine, FitLines}
use Rattle.plan_cert.specs.Certified.{colours_in, Certified, Refuses, IsRefused}

-- the program with the kernels and variables of another
abbrev with_others : BoundValue → BoundValue → BoundValue
with_others b a = record { mesh = b.mesh; kernels = a.kernels; sites = b.sites; vars = a.vars; trace = b.trace }

module _ (b a : BoundValue) (meshes : List RankMesh) where
  abbrev c : BoundValue
  c = with_others b a

  sizes_to : (n : ℕ) (line : List ℕ) → IsSizes b meshes n line → IsSizes c meshes n line
  sizes_to n line s = record { some = s.some; few = s.few; is = s.is }

  sizes_from : (n : ℕ) (line : List ℕ) → IsSizes c meshes n line → IsSizes b meshes n line
  sizes_from n line s = record { some = s.some; few = s.few; is = s.is }

  site_to : (size s r : ℕ) (k : ColourLists) (line : List ℕ) → IsSite b meshes size s r k line → IsSite c meshes size s r k line
  site_to size s r k line i = record { blocks = i.blocks; inner = i.inner; are_blocks = i.are_blocks; are_inner = i.are_inner; block_count = i.block_count; inner_count = i.inner_count; is = i.is }

  site_from : (size s r : ℕ) (k : ColourLists) (line : List ℕ) → IsSite c meshes size s r k line → IsSite b meshes size s r k line
  site_from size s r k line i = record { blocks = i.blocks; inner = i.inner; are_blocks = i.are_blocks; are_inner = i.are_inner; block_count = i.block_count; inner_count = i.inner_count; is = i.is }

  fits_to : (size : ℕ) (x : Awaited) (line : List ℕ) (cs : List ColourLists) → FitsLine b meshes size x line cs → FitsLine c meshes size x line cs
  fits_to size (Exactly n l) line cs f = f
  fits_to size Sizes line cs f = (sizes_to size line f.0, f.1)
  fits_to size Done line cs f = f
  fits_to size (ColoursOf s r) line cs f = (f.0, f.1, site_to size s r f.0 line f.2, f.3, f.4)

  lines_to : (size : ℕ) (xs : List Awaited) (ls : List (List ℕ)) (cs : List ColourLists) → FitLines b meshes size xs ls cs → FitLines c meshes size xs ls cs
  lines_to size [] [] cs f = f
  lines_to size [] (l ∷ ls) cs f = absurd f
  lines_to size (x ∷ xs) [] cs f = absurd f
  lines_to size (x ∷ xs) (l ∷ ls) cs f = (f.0, f.1, f.2, fits_to size x l f.0 f.3, lines_to size xs ls f.1 f.4)

  refuses_to : (size : ℕ) (x : Awaited) (rest : List ℕ) (n : ℕ) → Refuses b meshes size x rest n → Refuses c meshes size x rest n
  refuses_to size (Exactly m l) rest n k = k
  refuses_to size Sizes rest n k = (k.0, λ i line more s. k.1 i line more (sizes_from i line s))
  refuses_to size Done rest n k = k
  refuses_to size (ColoursOf s r) rest n (inl k) = inl (k.0, λ q line more i. k.1 q line more (site_from size s r q line i))
  refuses_to size (ColoursOf s r) rest n (inr k) = inr (k.0, k.1, k.2, k.3, site_to size s r k.0 k.1 k.4, k.5)

  awaited_same : awaited b meshes ≡ awaited c meshes
  unfolding item_at
  awaited_same = refl

  proper_to : (p : PlanValue) → Proper b meshes p → Proper c meshes p
  unfolding item_at
  proper_to p h = record {
    ranks = h.ranks;
    block = h.block;
    steps = h.steps;
    items = h.items;
    exchanges = record { history = h.exchanges.history; in_order = h.exchanges.in_order };
    pairs = h.pairs;
    sites = h.sites;
    loops = λ s l r. (let k = h.loops s l r in record { places_count = k.places_count; places = k.places; colours_count = k.colours_count; colours = k.colours });
  }

  certified_there : (bytes : List ℕ) (p : PlanValue) → Certified b meshes bytes p → Certified c meshes bytes p
  certified_there bytes p k = record {
    lines = k.lines;
    whole = k.whole;
    fit = subst (λ z. FitLines c meshes p.block z k.lines (colours_in p.sites)) awaited_same (lines_to p.block (awaited b meshes) k.lines (colours_in p.sites) k.fit);
    proper = proper_to p k.proper;
  }

  refused_there : (bytes : List ℕ) (number line : ℕ) → IsRefused b meshes bytes number line → IsRefused c meshes bytes number line
  refused_there bytes number line k =
      let r = k.3 in (
        k.0,
        k.1,
        k.2,
        record {
          lines = r.lines;
          rest = r.rest;
          split = r.split;
          earlier = r.earlier;
          here = r.here;
          later = r.later;
          order = sym awaited_same ∙ r.order;
          colours = r.colours;
          fit = lines_to k.0 r.earlier r.lines r.colours r.fit;
          refuses = refuses_to k.0 r.here r.rest number r.refuses;
          at = r.at;
        },
      )

module _ (b c : BoundValue) (mesh : b.mesh ≡ c.mesh) (sites : b.sites ≡ c.sites) (trace : b.trace ≡ c.trace) where
  others_are : with_others b c ≡ c
  others_are =
      ap (λ (z : MeshValue). record { mesh = z; kernels = c.kernels; sites = b.sites; vars = c.vars; trace = b.trace }) mesh
      ∙ (ap (λ (z : List SiteValue). record { mesh = c.mesh; kernels = c.kernels; sites = z; vars = c.vars; trace = b.trace }) sites
      ∙ ap (λ (z : List ItemValue). record { mesh = c.mesh; kernels = c.kernels; sites = c.sites; vars = c.vars; trace = z }) trace)

pub certified_to : (b c : BoundValue) (meshes : List RankMesh) (bytes : List ℕ) (p : PlanValue) → b.mesh ≡ c.mesh → b.sites ≡ c.sites
    → b.trace ≡ c.trace → Certified b meshes bytes p → Certified c meshes bytes p
certified_to b c meshes bytes p mesh sites trace k = subst (λ z. Certified z meshes bytes p) (others_are b c mesh sites trace) (certified_there b c meshes bytes p k)

pub refused_to : (b c : BoundValue) (meshes : List RankMesh) (bytes : List ℕ) (number line : ℕ) → b.mesh ≡ c.mesh → b.sites ≡ c.sites
    → b.trace ≡ c.trace → IsRefused b meshes bytes number line → IsRefused c meshes bytes number line
refused_to b c meshes bytes number line mesh sites trace k = subst (λ z. IsRefused z meshes bytes number line) (others_are b c mesh sites trace) (refused_there b c meshes bytes number line k)
