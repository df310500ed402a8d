-- The line of a loop on a rank is there, with colours that keep conflicts apart, or it is refused.
use Rattle.std.proofs.Common.{◌≡◌, ℕ, ◌+◌, ◌-◌, ◌*◌, ◌/◌, ◌^◌, ◌<◌, ◌≤◌, ◌⊎◌, inl, inr, refl, sym, ap, subst, ◌∙◌, arith, List, [], ◌∷◌, ◌++◌, append_assoc, length, drop}
use Rattle.std.specs.Prelude.{codes, ◌↔◌}
use Rattle.std.specs.List.{join_with_byte}
use Rattle.std.proofs.Math.Nat.{le-div_iff_mul-le}
use Rattle.op_num.specs.Lines.{line_of}
use Rattle.op_num.specs.CutLines.{words, HasNoLf}
use Rattle.op_num.proofs.Public.{joined}
use Rattle.local_mesh.specs.declared.types.RankMesh.{RankMesh}
use Rattle.colouring.specs.declared.types.Colours.{Colours}
use Rattle.colouring.proofs.Public.{few_blocks}
use Rattle.bound_program.specs.Values.{BoundValue}
use Rattle.bound_program.specs.Fits.{site_at}
use Rattle.loop_plan.specs.Places.{reducing, maps_of}
use Rattle.loop_plan.specs.Proper.{Separate, HasColours}
use Rattle.loop_plan.proofs.Public.{vec_of, items_are}
use Rattle.plan_cert.specs.Awaited.{ColoursOf, ColourLists, IsSite, places_in, BlocksClashIn, PlacesClashIn}
use Rattle.plan_cert.specs.Certified.{lists_of}
use Rattle.plan_cert.proofs.Deciding.{Known, FirstLine, first_line}
use Rattle.plan_cert.proofs.Lining.{lf_there, content, line_content, content_cut, line_front}
use Rattle.plan_cert.proofs.ColourWords.{ToldBehind, SomeTold, told_behind}
use Rattle.plan_cert.proofs.OneLine.{site_words, told_dark}
use Rattle.plan_cert.proofs.Clashing.{blocks_known, places_known}
use Rattle.plan_cert.proofs.Outcomes.{Outcome, line_taken, line_refused}
use Rattle.lemmas.proofs.Numbers.{same_bound}

-- so many blocks there are
count_of : ℕ → ℕ → ℕ
count_of places size = (places + size - 1) / size

counts : (places size : ℕ) → 0 < size → (a : ℕ) → (a < count_of places size) ↔ (a * size < places)
unfolding count_of
counts places size some a = (
  λ l. (let h : (a + 1) * size ≤ places + size - 1 = (le-div_iff_mul-le some).0 (omega arith) in omega arith),
  λ l. (let h : a + 1 ≤ (places + size - 1) / size = (le-div_iff_mul-le some).1 (omega arith) in omega arith),
)

-- lists as vectors
made : ColourLists → Colours
made c = record { blocks = vec_of c.blocks; inner = vec_of c.inner }

made_lists : (c : ColourLists) → length c.blocks < 2 ^ 63 → length c.inner < 2 ^ 63 → lists_of (made c) ≡ c
unfolding made
made_lists c l k = ap (λ (z : List ℕ). record { blocks = z; inner = (vec_of c.inner).items }) (items_are c.blocks l)
    ∙ ap (λ (z : List ℕ). record { blocks = c.blocks; inner = z }) (items_are c.inner k)

module _ (b : BoundValue) (meshes : List RankMesh) (size s r : ℕ) where
  -- colours that keep conflicts apart
  abbrev pub AreApart : List ColourLists → Type 0
  AreApart cs = (c : Colours) × (cs ≡ lists_of c ∷ []) × HasColours b meshes Separate size s r c

  separate : (c : Colours) (line : List ℕ) → IsSite b meshes size s r (lists_of c) line → (BlocksClashIn b meshes size s r (lists_of c) → ⊥)
      → (PlacesClashIn b meshes size s r (lists_of c) → ⊥) → HasColours b meshes Separate size s r c
  separate c line i blocks places = record {
    blocks_count = i.block_count;
    inner_count = i.inner_count;
    blocks = λ a e la le ne k q. blocks (record { one = a; other = e; within = la; other_within = le; apart = ne; conflict = k; same = q });
    inner = λ a e la le ne k q. (
        let n : length c.inner.items ≡ places_in b meshes s r = i.inner_count in
        places (record { one = a; other = e; within = omega arith; other_within = omega arith; apart = ne; conflict = k; same = q }));
  }

  module _ (some : 0 < size) (few : places_in b meshes s r < 2 ^ 63) where
    short : (c : ColourLists) (line : List ℕ) → IsSite b meshes size s r c line → lists_of (made c) ≡ c
    short c line i = made_lists c
        (let h = few_blocks (length c.blocks) size (places_in b meshes s r) some i.block_count in omega arith)
        (let e = i.inner_count in omega arith)

    by_clash : (c : ColourLists) (line more bytes : List ℕ) → IsSite b meshes size s r c line → bytes ≡ line ++ more
        → Known (BlocksClashIn b meshes size s r c) → Known (PlacesClashIn b meshes size s r c)
        → Outcome b meshes size (ColoursOf s r ∷ []) bytes AreApart
    by_clash c line more bytes i e (inl k) q = line_refused b meshes size (ColoursOf s r) bytes 6 AreApart (inr (c, line, more, e, i, inl (refl, k)))
    by_clash c line more bytes i e (inr k) (inl q) = line_refused b meshes size (ColoursOf s r) bytes 7 AreApart (inr (c, line, more, e, i, inr (refl, k, q)))
    by_clash c line more bytes i e (inr k) (inr q) =
        let back : lists_of (made c) ≡ c = short c line i in
        line_taken b meshes size (ColoursOf s r) line more bytes (c ∷ []) AreApart e (c, refl, i, k, q) (
          made c,
          ap (λ z. z ∷ []) (sym back),
          separate (made c) line (subst (λ z. IsSite b meshes size s r z line) (sym back) i)
              (subst (λ z. BlocksClashIn b meshes size s r z → ⊥) (sym back) k)
              (subst (λ z. PlacesClashIn b meshes size s r z → ⊥) (sym back) q),
        )

    -- ---- the first line of the bytes

    abbrev fixed : List (List ℕ)
    fixed = site_words b meshes size s r

    abbrev many : ℕ
    many = count_of (places_in b meshes s r) size

    abbrev told_words : List (List ℕ) → List (List ℕ) → List (List ℕ)
    told_words bs is = drop 1 fixed ++ (bs ++ codes "inner" ∷ is)

    is_site : (line : List ℕ) (bs cs : List ℕ) → ToldBehind fixed (words line) many (places_in b meshes s r) bs cs → IsSite b meshes size s r (record { blocks = bs; inner = cs }) (line ++ 10 ∷ [])
    is_site line bs cs t = record {
      blocks = t.block_words;
      inner = t.inner_words;
      are_blocks = t.are_blocks;
      are_inner = t.are_inner;
      block_count = λ a. subst (λ z. (a < z) ↔ (a * size < places_in b meshes s r)) (sym t.block_count) (counts (places_in b meshes s r) size some a);
      inner_count = t.inner_count;
      is =
          ap (λ z. z ++ 10 ∷ []) (sym (joined line) ∙ ap (join_with_byte 32) t.is)
          ∙ sym (line_content (codes "site") (told_words t.block_words t.inner_words));
    }

    begins : (c : ColourLists) (line more bytes : List ℕ) (i : IsSite b meshes size s r c line) → bytes ≡ line ++ more → bytes ≡ line_of (codes "site" ∷ told_words i.blocks i.inner) ++ more
    begins c line more bytes i e = e ∙ ap (λ z. z ++ more) i.is

    no_line : (bytes : List ℕ) → HasNoLf bytes → (c : ColourLists) (line more : List ℕ) → IsSite b meshes size s r c line → bytes ≡ line ++ more → ⊥
    no_line bytes none c line more i e =
        let w : List ℕ = content (codes "site" ∷ told_words i.blocks i.inner) in
        lf_there w more (subst HasNoLf
        (begins c line more bytes i e ∙ (ap (λ z. z ++ more) (line_content (codes "site") (told_words i.blocks i.inner)) ∙ append_assoc w (10 ∷ []) more)) none)

    none_told : (bytes : List ℕ) (f : FirstLine bytes) → (SomeTold fixed (words f.line) many (places_in b meshes s r) → ⊥)
        → (c : ColourLists) (line more : List ℕ) → IsSite b meshes size s r c line → bytes ≡ line ++ more → ⊥
    none_told bytes f none c line more i e =
        let dark = told_dark b meshes size s r c line i in
        let o = line_front (codes "site") (told_words i.blocks i.inner) f.line f.more more dark f.no_lf (sym f.is ∙ begins c line more bytes i e) in
        none (
          c.blocks,
          c.inner,
          record {
            block_words = i.blocks;
            inner_words = i.inner;
            are_blocks = i.are_blocks;
            are_inner = i.are_inner;
            block_count = same_bound (length c.blocks) many (λ a. a * size < places_in b meshes s r) i.block_count (counts (places_in b meshes s r) size some);
            inner_count = i.inner_count;
            is = ap words o.0 ∙ content_cut (codes "site") (told_words i.blocks i.inner) dark;
          },
        )

    by_words : (bytes : List ℕ) (f : FirstLine bytes) → Known (SomeTold fixed (words f.line) many (places_in b meshes s r)) → Outcome b meshes size (ColoursOf s r ∷ []) bytes AreApart
    by_words bytes f (inr h) = line_refused b meshes size (ColoursOf s r) bytes 4 AreApart (inl (refl, none_told bytes f h))
    by_words bytes f (inl t) =
        by_clash (record { blocks = t.0; inner = t.1 }) (f.line ++ 10 ∷ []) f.more bytes (is_site f.line t.0 t.1 t.2) (f.is ∙ sym (append_assoc f.line (10 ∷ []) f.more))
        (blocks_known b.mesh (maps_of meshes r) (reducing (site_at b s).args) (places_in b meshes s r) size some t.0)
        (places_known b.mesh (maps_of meshes r) (reducing (site_at b s).args) (places_in b meshes s r) size some t.1)

    by_line : (bytes : List ℕ) → HasNoLf bytes ⊎ FirstLine bytes → Outcome b meshes size (ColoursOf s r ∷ []) bytes AreApart
    by_line bytes (inl h) = line_refused b meshes size (ColoursOf s r) bytes 4 AreApart (inl (refl, no_line bytes h))
    by_line bytes (inr f) = by_words bytes f (told_behind fixed (words f.line) many (places_in b meshes s r))

    pub site_taken : (bytes : List ℕ) → Outcome b meshes size (ColoursOf s r ∷ []) bytes AreApart
    site_taken bytes = by_line bytes (first_line bytes)
