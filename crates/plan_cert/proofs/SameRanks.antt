-- On local meshes that are the same as lists the same lines are awaited, fit and are refused.
use Rattle.std.proofs.Common.{◌≡◌, ℕ, zero, suc, ◌+◌, ◌*◌, ◌<◌, refl, sym, ap, subst, ◌∙◌, List, [], ◌∷◌, ◌++◌, Vec, Option, Some, None, length, get_or, map, cond, inl, inr}
use Rattle.std.specs.Prelude.{codes, ◌↔◌}
use Rattle.std.specs.Fmt.{decimal}
use Rattle.std.specs.declared.alloc.Global.{Global}
use Rattle.lemmas.specs.Below.{row}
use Rattle.mesh_decl.specs.declared.access.Via.{Via}
use Rattle.mesh_decl.specs.Mesh.{MeshValue, map_dim, set_count}
use Rattle.op_num.specs.Lines.{line_of}
use Rattle.local_mesh.specs.declared.types.RankMesh.{RankMesh}
use Rattle.local_mesh.specs.Values.{rank_mesh_value}
use Rattle.colouring.specs.declared.types.IncArg.{IncArg}
use Rattle.colouring.specs.Colours.{target_by, Conflict}
use Rattle.colouring.specs.Clashes.{BlocksClash, PlacesClash}
use Rattle.bound_program.specs.Values.{BoundValue}
use Rattle.bound_program.specs.Fits.{site_at}
use Rattle.loop_plan.specs.Pairs.{sets_of}
use Rattle.loop_plan.specs.Places.{reducing, maps_of, runs_free}
use Rattle.loop_plan.proofs.Public.{length_same, sets_same, rows_same, places_same, halo_line_same}
use Rattle.plan_cert.specs.Awaited.{Awaited, Exactly, Sizes, ColoursOf, Done, each_below, awaited_halo, awaited_set, awaited_halos, awaited_ranks, awaited_sites, awaited_items, awaited, header_line, ColourLists, IsSizes, IsSite, places_in, BlocksClashIn, PlacesClashIn, FitsLine, FitLines}
use Rattle.plan_cert.specs.Certified.{Clashes, Refuses, RefusedAmong, IsRefused}

-- ---- the same conflicts

module _ (g : MeshValue) (ms ns : List (Vec ℕ Global)) (rows : (k : ℕ) → row ms k ≡ row ns k) (args : List IncArg) where
  target_by_same : (place : ℕ) (v : Option Via) → target_by g ms place v ≡ target_by g ns place v
  target_by_same place None = refl
  target_by_same place (Some v) = ap (λ (xs : List ℕ). get_or xs (place * map_dim g v.map + v.index) 0) (rows v.map)

  conflict_to : (p q : ℕ) → Conflict g ms args p q → Conflict g ns args p q
  conflict_to p q c = (c.0, c.1, c.2, c.3, c.4, sym (target_by_same p c.0.via) ∙ (c.5 ∙ target_by_same q c.1.via))

  blocks_to : (places size : ℕ) (cs : List ℕ) → BlocksClash g ms args places size cs → BlocksClash g ns args places size cs
  blocks_to places size cs c = record {
    one = c.one;
    other = c.other;
    within = c.within;
    other_within = c.other_within;
    apart = c.apart;
    conflict = (c.conflict.0, c.conflict.1, c.conflict.2, c.conflict.3, conflict_to c.conflict.0 c.conflict.1 c.conflict.4);
    same = c.same;
  }

  places_to : (places size : ℕ) (cs : List ℕ) → PlacesClash g ms args places size cs → PlacesClash g ns args places size cs
  places_to places size cs c = record {
    one = c.one;
    other = c.other;
    within = c.within;
    other_within = c.other_within;
    apart = c.apart;
    conflict = (c.conflict.0, conflict_to c.one c.other c.conflict.1);
    same = c.same;
  }

-- ---- one line

each_same : (f g : ℕ → List Awaited) → ((k : ℕ) → f k ≡ g k) → (n : ℕ) → each_below f n ≡ each_below g n
each_same f g h zero = refl
each_same f g h (suc n) = ap (λ z. z ++ f n) (each_same f g h n) ∙ ap (λ z. each_below g n ++ z) (h n)

module _ (b : BoundValue) (meshes others : List RankMesh) (same : map rank_mesh_value meshes ≡ map rank_mesh_value others) where
  places_are : (s r : ℕ) → places_in b meshes s r ≡ places_in b others s r
  places_are s r = places_same meshes others same (site_at b s) r

  sizes_to : (n : ℕ) (line : List ℕ) → IsSizes b meshes n line → IsSizes b others n line
  sizes_to n line s = record {
    some = s.some;
    few = s.few;
    is = s.is ∙ ap (λ z. line_of (codes "ranks" ∷ decimal z ∷ codes "block" ∷ decimal n ∷ [])) (length_same meshes others same);
  }

  site_to : (size s r : ℕ) (c : ColourLists) (line : List ℕ) → IsSite b meshes size s r c line → IsSite b others size s r c line
  site_to size s r c line i = record {
    blocks = i.blocks;
    inner = i.inner;
    are_blocks = i.are_blocks;
    are_inner = i.are_inner;
    block_count = subst (λ z. (a : ℕ) → (a < length c.blocks) ↔ (a * size < z)) (places_are s r) i.block_count;
    inner_count = i.inner_count ∙ places_are s r;
    is = i.is ∙ ap (λ z. line_of ((codes "site" ∷ decimal s ∷ codes "rank" ∷ decimal r ∷ codes "places" ∷ decimal z
        ∷ codes "blocks" ∷ i.blocks) ++ (codes "inner" ∷ i.inner))) (places_are s r);
  }

  blocks_clash_to : (size s r : ℕ) (c : ColourLists) → BlocksClashIn b meshes size s r c → BlocksClashIn b others size s r c
  blocks_clash_to size s r c k =
      subst (λ z. BlocksClash b.mesh (maps_of others r) (reducing (site_at b s).args) z size c.blocks) (places_are s r)
      (blocks_to b.mesh (maps_of meshes r) (maps_of others r) (rows_same meshes others same r) (reducing (site_at b s).args) (places_in b meshes s r) size c.blocks k)

  places_clash_to : (size s r : ℕ) (c : ColourLists) → PlacesClashIn b meshes size s r c → PlacesClashIn b others size s r c
  places_clash_to size s r c k =
      subst (λ z. PlacesClash b.mesh (maps_of others r) (reducing (site_at b s).args) z size c.inner) (places_are s r)
      (places_to b.mesh (maps_of meshes r) (maps_of others r) (rows_same meshes others same r) (reducing (site_at b s).args) (places_in b meshes s r) size c.inner k)

  halo_is : (s r : ℕ) → awaited_halo b meshes s r ≡ awaited_halo b others s r
  halo_is s r = ap (λ z. Exactly 3 (line_of z)) (halo_line_same (sets_of meshes r) (sets_of others r) (sets_same meshes others same r) b.mesh s r)

  set_is : (s : ℕ) → awaited_set b meshes s ≡ awaited_set b others s
  set_is s =
      each_same (λ r. awaited_halo b meshes s r ∷ []) (λ r. awaited_halo b others s r ∷ []) (λ r. ap (λ z. z ∷ []) (halo_is s r)) (length meshes)
      ∙ ap (each_below (λ r. awaited_halo b others s r ∷ [])) (length_same meshes others same)

  ranks_are : (s : ℕ) → awaited_ranks b meshes s ≡ awaited_ranks b others s
  ranks_are s = ap (each_below (λ r. ColoursOf s r ∷ [])) (length_same meshes others same)

  -- ---- all lines

  pub awaited_same : awaited b meshes ≡ awaited b others
  awaited_same =
      let halos : awaited_halos b meshes ≡ awaited_halos b others = each_same (awaited_set b meshes) (awaited_set b others) set_is (set_count b.mesh) in
      let n : ℕ = length b.sites in
      let sites : awaited_sites b meshes n ≡ awaited_sites b others n =
      each_same (λ s. cond (runs_free b s) (awaited_ranks b meshes s) []) (λ s. cond (runs_free b s) (awaited_ranks b others s) [])
      (λ s. ap (λ z. cond (runs_free b s) z []) (ranks_are s)) n in
      ap (λ z. Exactly 1 header_line ∷ Sizes ∷ (z ++ (awaited_sites b meshes n ++ (awaited_items b meshes ++ Done ∷ [])))) halos
      ∙ ap (λ z. Exactly 1 header_line ∷ Sizes ∷ (awaited_halos b others ++ (z ++ (awaited_items b meshes ++ Done ∷ [])))) sites

-- ---- what fits and what is refused

module _ (b : BoundValue) (meshes others : List RankMesh) (same : map rank_mesh_value meshes ≡ map rank_mesh_value others) (size : ℕ) where
  fits_to : (x : Awaited) (line : List ℕ) (cs : List ColourLists) → FitsLine b meshes size x line cs → FitsLine b others size x line cs
  fits_to (Exactly n l) line cs f = f
  fits_to Sizes line cs f = (sizes_to b meshes others same size line f.0, f.1)
  fits_to Done line cs f = f
  fits_to (ColoursOf s r) line cs f = (
    f.0,
    f.1,
    site_to b meshes others same size s r f.0 line f.2,
    λ k. f.3 (blocks_clash_to b others meshes (sym same) size s r f.0 k),
    λ k. f.4 (places_clash_to b others meshes (sym same) size s r f.0 k),
  )

  pub lines_to : (xs : List Awaited) (ls : List (List ℕ)) (cs : List ColourLists) → FitLines b meshes size xs ls cs → FitLines b others size xs ls cs
  lines_to [] [] cs f = f
  lines_to [] (l ∷ ls) cs f = absurd f
  lines_to (x ∷ xs) [] cs f = absurd f
  lines_to (x ∷ xs) (l ∷ ls) cs f = (f.0, f.1, f.2, fits_to x l f.0 f.3, lines_to xs ls f.1 f.4)

  clashes_to : (s r : ℕ) (c : ColourLists) (n : ℕ) → Clashes b meshes size s r c n → Clashes b others size s r c n
  clashes_to s r c n (inl k) = inl (k.0, blocks_clash_to b meshes others same size s r c k.1)
  clashes_to s r c n (inr k) = inr (k.0, (λ x. k.1 (blocks_clash_to b others meshes (sym same) size s r c x)), places_clash_to b meshes others same size s r c k.2)

  refuses_to : (x : Awaited) (rest : List ℕ) (n : ℕ) → Refuses b meshes size x rest n → Refuses b others size x rest n
  refuses_to (Exactly m l) rest n k = k
  refuses_to Sizes rest n k = (k.0, λ i line more s. k.1 i line more (sizes_to b others meshes (sym same) i line s))
  refuses_to Done rest n k = k
  refuses_to (ColoursOf s r) rest n (inl k) = inl (k.0, λ c line more i. k.1 c line more (site_to b others meshes (sym same) size s r c line i))
  refuses_to (ColoursOf s r) rest n (inr k) = inr (k.0, k.1, k.2, k.3, site_to b meshes others same size s r k.0 k.1 k.4, clashes_to s r k.0 n k.5)

  among_to : (xs ys : List Awaited) (bytes : List ℕ) (n before : ℕ) → xs ≡ ys → RefusedAmong b meshes size xs bytes n before → RefusedAmong b others size ys bytes n before
  among_to xs ys bytes n before e k = record {
    lines = k.lines;
    rest = k.rest;
    split = k.split;
    earlier = k.earlier;
    here = k.here;
    later = k.later;
    order = sym e ∙ k.order;
    colours = k.colours;
    fit = lines_to k.earlier k.lines k.colours k.fit;
    refuses = refuses_to k.here k.rest n k.refuses;
    at = k.at;
  }

pub refused_to : (b : BoundValue) (meshes others : List RankMesh) (bytes : List ℕ) (number line : ℕ)
    → map rank_mesh_value meshes ≡ map rank_mesh_value others → IsRefused b meshes bytes number line → IsRefused b others bytes number line
refused_to b meshes others bytes number line same k =
    (k.0, k.1, k.2, among_to b meshes others same k.0 (awaited b meshes) (awaited b others) bytes number k.1 (awaited_same b meshes others same) k.3)
