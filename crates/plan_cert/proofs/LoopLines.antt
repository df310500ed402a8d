-- The line of a loop on a rank is taken with its colours, or refused.
use Rattle.std.proofs.Common.{◌≡◌, ℕ, ◌*◌, ◌<◌, ◌↔◌, inl, inr, refl, sym, ap, subst, ◌∙◌, arith, List, [], ◌∷◌, ◌++◌, append_assoc, drop, length, Vec, Option, Some, None}
use Rattle.std.specs.Prelude.{codes}
use Rattle.std.specs.Fmt.{decimal}
use Rattle.std.specs.declared.alloc.Global.{Global}
use Rattle.op_num.specs.CutLines.{HasNoLf, Unread, IsTaken, Takes}
use Rattle.mesh_decl.specs.Mesh.{MeshValue}
use Rattle.local_mesh.specs.declared.types.RankMesh.{RankMesh}
use Rattle.colouring.specs.declared.types.IncArg.{IncArg}
use Rattle.colouring.specs.declared.types.Colours.{Colours}
use Rattle.colouring.specs.declared.conflicts.Clash.{Clash}
use Rattle.colouring.specs.declared.conflicts.Clash.TheVariants.{Blocks, Places}
use Rattle.colouring.specs.Clashes.{ClashIs}
use Rattle.bound_program.specs.Values.{BoundValue}
use Rattle.bound_program.specs.Fits.{site_at}
use Rattle.loop_plan.specs.Spaced.{spaced}
use Rattle.loop_plan.specs.Places.{reducing, maps_of}
use Rattle.loop_plan.specs.Proper.{Separate, HasColours}
use Rattle.plan_cert.specs.Awaited.{ColoursOf, ColourLists, IsSite, places_in}
use Rattle.plan_cert.specs.Certified.{lists_of, RefusedAmong}
use Rattle.plan_cert.specs.Judged.{FitsAmong}
use Rattle.plan_cert.specs.Told.{site_front, TellsColours, LineIs}
use Rattle.plan_cert.proofs.Reading.{fits_one, refused_here}
use Rattle.plan_cert.proofs.Lining.{content, joined_spaced, lf_there, line_content, line_front}
use Rattle.plan_cert.proofs.OneLine.{site_words, told_dark}
use Rattle.lemmas.proofs.Numbers.{same_bound}

-- what was written into an empty vector
pub front_written : (s r n : ℕ) (empty text front : List ℕ) → empty ≡ [] → text ≡ empty ++ site_front s r n → front ≡ text → front ≡ site_front s r n
front_written s r n empty text front e w d = d ∙ (w ∙ ap (λ z. z ++ site_front s r n) e)

-- a line is taken with its LF
pub line_taken : (old new : Unread) (line : List ℕ) → Takes old new line → IsTaken old new (line ++ 10 ∷ [])
line_taken old new line t = record { whole = t.whole ∙ sym (append_assoc line (10 ∷ []) new.rest); taken = t.taken }

-- what clashes, by what is the same
pub clash_moved : (g : MeshValue) (maps maps' : List (Vec ℕ Global)) (args args' : List IncArg) (places places' size : ℕ) (blocks inner : List ℕ) (o o' : Option Clash)
    → maps ≡ maps' → args ≡ args' → places ≡ places' → o ≡ o'
    → ClashIs g maps args places size blocks inner o
    → ClashIs g maps' args' places' size blocks inner o'
clash_moved g maps maps' args args' places places' size blocks inner o o' e f h k c =
    subst (ClashIs g maps' args' places' size blocks inner) k
    (subst (λ z. ClashIs g maps' args' z size blocks inner o) h
    (subst (λ z. ClashIs g maps' z places size blocks inner o) f (subst (λ z. ClashIs g z args places size blocks inner o) e c)))

module _ (b : BoundValue) (meshes : List RankMesh) (size s r n : ℕ) (places : n ≡ places_in b meshes s r) where
  abbrev Refused : Unread → ℕ → Type 0
  Refused old number = RefusedAmong b meshes size (ColoursOf s r ∷ []) old.rest number 0

  abbrev words_of : (bs cs : List (List ℕ)) → List (List ℕ)
  words_of bs cs = site_words b meshes size s r ++ (bs ++ codes "inner" ∷ cs)

  -- what stands in front of the colours, by its words
  front_is : (bs cs : List (List ℕ)) → content (words_of bs cs) ≡ site_front s r n ++ spaced (bs ++ codes "inner" ∷ cs)
  front_is bs cs = subst
      (λ z. content ((codes "site" ∷ decimal s ∷ codes "rank" ∷ decimal r ∷ codes "places" ∷ decimal z ∷ codes "blocks" ∷ bs) ++ codes
      "inner" ∷ cs) ≡ site_front s r n ++ spaced (bs ++ codes "inner" ∷ cs))
      places
      (joined_spaced (codes "site") (decimal s ∷ codes "rank" ∷ decimal r ∷ codes "places" ∷ decimal n ∷ codes "blocks" ∷ (bs ++ codes "inner" ∷ cs)) ∙ simp append_assoc)

  -- no line stands there
  pub no_line : (old : Unread) → HasNoLf old.rest → Refused old 4
  no_line old h = refused_here b meshes size (ColoursOf s r) old 4 (inl (refl, λ c line more i e. lf_there (content (words_of i.blocks i.inner)) more (subst HasNoLf (begins c line more i e) h)))
    where
      begins : (c : ColourLists) (line more : List ℕ) (i : IsSite b meshes size s r c line) → old.rest ≡ line ++ more → old.rest ≡ content (words_of i.blocks i.inner) ++ 10 ∷ more
      begins c line more i e =
          e
          ∙ (ap (λ z. z ++ more) (i.is ∙ line_content (codes "site") (drop 1 (words_of i.blocks i.inner)))
          ∙ append_assoc (content (words_of i.blocks i.inner)) (10 ∷ []) more)

  -- the line there tells no colours
  pub none_told : (old new : Unread) (line front : List ℕ) (count : ℕ) → Takes old new line → front ≡ site_front s r n
      → ((a : ℕ) → (a < count) ↔ (a * size < n)) → LineIs front line count n None → Refused old 4
  none_told old new line front count t f counts none = refused_here b meshes size (ColoursOf s r) old 4 (inl (refl, λ c whole more i e. none c.blocks c.inner (tells c whole more i e)))
    where
      tells : (c : ColourLists) (whole more : List ℕ) → IsSite b meshes size s r c whole → old.rest ≡ whole ++ more → TellsColours front line count n c.blocks c.inner
      tells c whole more i e = record {
        block_words = i.blocks;
        inner_words = i.inner;
        are_blocks = i.are_blocks;
        are_inner = i.are_inner;
        block_count = same_bound (length c.blocks) count (λ a. a * size < n) (λ a. subst (λ z. (a < length c.blocks) ↔ (a * size < z)) (sym places) (i.block_count a)) counts;
        inner_count = i.inner_count ∙ sym places;
        is =
            (line_front (codes "site") (drop 1 (words_of i.blocks i.inner)) line new.rest more (told_dark b meshes size s r c whole i) t.no_lf (sym t.whole ∙ (e ∙ ap (λ z. z ++ more) i.is))).0
            ∙ (front_is i.blocks i.inner ∙ ap (λ z. z ++ spaced (i.blocks ++ codes "inner" ∷ i.inner)) (sym f));
      }

  -- a line that tells colours is such a line
  module _ (old new : Unread) (line front : List ℕ) (count : ℕ) (c : Colours) (t : Takes old new line) (f : front ≡ site_front s r n)
      (counts : (a : ℕ) → (a < count) ↔ (a * size < n)) (told : TellsColours front line count n c.blocks.items c.inner.items) where
    block_count_is : (a : ℕ) → (a < length c.blocks.items) ↔ (a * size < places_in b meshes s r)
    block_count_is a = subst (λ z. (a < length c.blocks.items) ↔ (a * size < z)) places (subst (λ z. (a < z) ↔ (a * size < n)) (sym told.block_count) (counts a))

    is_site : IsSite b meshes size s r (lists_of c) (line ++ 10 ∷ [])
    is_site = record {
      blocks = told.block_words;
      inner = told.inner_words;
      are_blocks = told.are_blocks;
      are_inner = told.are_inner;
      block_count = block_count_is;
      inner_count = told.inner_count ∙ places;
      is =
          ap (λ z. z ++ 10 ∷ []) (told.is ∙ (ap (λ z. z ++ spaced (told.block_words ++ codes "inner" ∷ told.inner_words)) f ∙ sym (front_is told.block_words told.inner_words)))
          ∙ sym (line_content (codes "site") (drop 1 (words_of told.block_words told.inner_words)));
    }

    abbrev Clashing : Option Clash → Type 0
    Clashing o = ClashIs b.mesh (maps_of meshes r) (reducing (site_at b s).args) (places_in b meshes s r) size c.blocks.items c.inner.items o

    pub blocks_refused : Clashing (Some Blocks) → Refused old 6
    blocks_refused k = refused_here b meshes size (ColoursOf s r) old 6 (inr (lists_of c, line ++ 10 ∷ [], new.rest, (line_taken old new line t).whole, is_site, inl (refl, k)))

    pub places_refused : Clashing (Some Places) → Refused old 7
    places_refused k = refused_here b meshes size (ColoursOf s r) old 7 (inr (lists_of c, line ++ 10 ∷ [], new.rest, (line_taken old new line t).whole, is_site, inr (refl, k.0, k.1)))

    pub colours_taken : Clashing None → FitsAmong b meshes size (ColoursOf s r ∷ []) old new (lists_of c ∷ [])
    colours_taken k = fits_one b meshes size (ColoursOf s r) old new (line ++ 10 ∷ []) (lists_of c ∷ []) (line_taken old new line t) (lists_of c, refl, is_site, k.0, k.1)

    pub are_separate : Clashing None → HasColours b meshes Separate size s r c
    are_separate k = record {
      blocks_count = block_count_is;
      inner_count = told.inner_count ∙ places;
      blocks = λ a e la le ne conflict same. k.0 (record { one = a; other = e; within = la; other_within = le; apart = ne; conflict = conflict; same = same });
      inner = λ x y lx ly ne conflict same. k.1 (record { one = x; other = y; within = within x lx; other_within = within y ly; apart = ne; conflict = conflict; same = same });
    }
      where
        within : (x : ℕ) → x < places_in b meshes s r → x < length c.inner.items
        within x l = let e : length c.inner.items ≡ places_in b meshes s r = told.inner_count ∙ places in omega arith
