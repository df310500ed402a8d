-- What fits at the front of bytes is one line, with one list of colours; and nothing both fits and is refused.
use Rattle.std.proofs.Common.{◌≡◌, ℕ, ◌*◌, ◌<◌, ◌⊎◌, inl, inr, refl, sym, ap, subst, ◌∙◌, arith, List, [], ◌∷◌, ◌++◌, append-nil, length, get_or, drop}
use Rattle.std.specs.Prelude.{codes}
use Rattle.std.specs.Fmt.{decimal}
use Rattle.std.proofs.lemmas.Fmt.{decimal_injective}
use Rattle.std.proofs.lemmas.List.{append_cancel_left}
use Rattle.op_num.specs.Lines.{line_of}
use Rattle.local_mesh.specs.declared.types.RankMesh.{RankMesh}
use Rattle.bound_program.specs.Values.{BoundValue}
use Rattle.plan_cert.specs.Awaited.{Awaited, Exactly, Sizes, ColoursOf, Done, done_line, ColourLists, IsSizes, IsSite, places_in, FitsLine}
use Rattle.plan_cert.specs.Certified.{Clashes, Refuses}
use Rattle.plan_cert.proofs.Lining.{AreDark, dark_append, decimal_dark, one_front}
use Rattle.plan_cert.proofs.Telling.{colours_dark}
use Rattle.plan_cert.proofs.ColourWords.{ToldBehind, one_told}
use Rattle.lemmas.proofs.Numbers.{same_bound}

-- a line that others may stand behind
abbrev pub IsEarly : Awaited → Type 0
IsEarly (Exactly n l) = Unit {0}
IsEarly Sizes = Unit {0}
IsEarly (ColoursOf s r) = Unit {0}
IsEarly Done = ⊥

module _ (b : BoundValue) (meshes : List RankMesh) where
  -- ---- sizes

  abbrev pub sizes_words : ℕ → List (List ℕ)
  sizes_words n = codes "ranks" ∷ decimal (length meshes) ∷ codes "block" ∷ decimal n ∷ []

  pub sizes_dark : (n : ℕ) → AreDark (sizes_words n)
  sizes_dark n = (refl, (decimal_dark (length meshes), (refl, (decimal_dark n, tt))))

  pub one_size : (m n : ℕ) (line other rest more : List ℕ) → IsSizes b meshes m line → IsSizes b meshes n other → line ++ rest ≡ other ++ more → (m ≡ n) × (rest ≡ more)
  one_size m n line other rest more s t e =
      let lines = sym (ap (λ z. z ++ rest) s.is) ∙ (e ∙ ap (λ z. z ++ more) t.is) in
      let o = one_front (codes "ranks") (codes "ranks") (decimal (length meshes) ∷ codes "block" ∷ decimal m ∷ [])
      (decimal (length meshes) ∷ codes "block" ∷ decimal n ∷ []) rest more (sizes_dark m) (sizes_dark n) lines in
      let d : decimal m ≡ decimal n = ap (λ zs. get_or zs 3 []) o.0 in
      let a = s.few in
      let c = t.few in
      (decimal_injective m n (omega arith) (omega arith) d, o.1)

  module _ (size : ℕ) where
    -- ---- colours

    module _ (s r : ℕ) where
      -- the words in front of the colours
      abbrev pub site_words : List (List ℕ)
      site_words = codes "site" ∷ decimal s ∷ codes "rank" ∷ decimal r ∷ codes "places" ∷ decimal (places_in b meshes s r) ∷ codes "blocks" ∷ []

      pub site_dark : (bs is : List (List ℕ)) → AreDark bs → AreDark is → AreDark (site_words ++ (bs ++ codes "inner" ∷ is))
      site_dark bs is h k = (refl, (decimal_dark s, (refl, (decimal_dark r, (refl, (decimal_dark (places_in b meshes s r), (refl, dark_append bs (codes "inner" ∷ is) h (refl, k))))))))

      pub told_by : (c : ColourLists) (line : List ℕ) (i : IsSite b meshes size s r c line)
          → ToldBehind site_words (site_words ++ (i.blocks ++ codes "inner" ∷ i.inner)) (length c.blocks) (length c.inner) c.blocks c.inner
      told_by c line i = record { block_words = i.blocks; inner_words = i.inner; are_blocks = i.are_blocks; are_inner = i.are_inner; block_count = refl; inner_count = refl; is = refl }

      pub told_dark : (c : ColourLists) (line : List ℕ) (i : IsSite b meshes size s r c line) → AreDark (site_words ++ (i.blocks ++ codes "inner" ∷ i.inner))
      told_dark c line i = site_dark i.blocks i.inner (colours_dark i.blocks c.blocks i.are_blocks) (colours_dark i.inner c.inner i.are_inner)

      one_words : (line other rest more : List ℕ) (bs is cs js : List (List ℕ)) → line ≡ line_of (site_words ++ (bs ++ codes "inner" ∷ is)) → other ≡ line_of (site_words ++ (cs ++ codes "inner" ∷ js))
          → AreDark (site_words ++ (bs ++ codes "inner" ∷ is)) → AreDark (site_words ++ (cs ++ codes "inner" ∷ js)) → line ++ rest ≡ other ++ more
          → (site_words ++ (bs ++ codes "inner" ∷ is) ≡ site_words ++ (cs ++ codes "inner" ∷ js)) × (rest ≡ more)
      one_words line other rest more bs is cs js f g h k e =
          one_front (codes "site") (codes "site") (drop 1 site_words ++ (bs ++ codes "inner" ∷ is)) (drop 1 site_words ++ (cs ++ codes "inner" ∷ js)) rest more h k
          (subst (λ z. z ++ rest ≡ line_of (site_words ++ (cs ++ codes "inner" ∷ js)) ++ more) f (subst (λ z. line ++ rest ≡ z ++ more) g e))

      pub one_site : (c d : ColourLists) (line other rest more : List ℕ) → IsSite b meshes size s r c line → IsSite b meshes size s r d other → line ++ rest ≡ other ++ more → (c ≡ d) × (rest ≡ more)
      one_site c d line other rest more i j e =
          let o = one_words line other rest more i.blocks i.inner j.blocks j.inner i.is j.is (told_dark c line i) (told_dark d other j) e in
          let blocks : length c.blocks ≡ length d.blocks = same_bound (length c.blocks) (length d.blocks) (λ a. a * size < places_in b meshes s r) i.block_count j.block_count in
          let inner : length c.inner ≡ length d.inner = i.inner_count ∙ sym j.inner_count in
          let t = told_by c line i in
          let u = told_by d other j in
          let k = one_told site_words (site_words ++ (j.blocks ++ codes "inner" ∷ j.inner)) (length d.blocks) (length d.inner) c.blocks c.inner d.blocks d.inner
          (record { block_words = i.blocks; inner_words = i.inner; are_blocks = i.are_blocks; are_inner = i.are_inner; block_count = blocks; inner_count = inner; is = sym o.0 }) u in
          (ap (λ (z : List ℕ). record { blocks = z; inner = c.inner }) k.0 ∙ ap (λ (z : List ℕ). record { blocks = d.blocks; inner = z }) k.1, o.1)

    -- ---- any line

    pub one_fit : (x : Awaited) (line other rest more : List ℕ) (cs ds : List ColourLists) → FitsLine b meshes size x line cs
        → FitsLine b meshes size x other ds → line ++ rest ≡ other ++ more → (cs ≡ ds) × (rest ≡ more)
    one_fit (Exactly n l) line other rest more cs ds f g e = (f.1 ∙ sym g.1, append_cancel_left l rest more (sym (ap (λ z. z ++ rest) f.0) ∙ (e ∙ ap (λ z. z ++ more) g.0)))
    one_fit Done line other rest more cs ds f g e = (f.1 ∙ sym g.1, append_cancel_left done_line rest more (sym (ap (λ z. z ++ rest) f.0) ∙ (e ∙ ap (λ z. z ++ more) g.0)))
    one_fit Sizes line other rest more cs ds f g e = (f.1 ∙ sym g.1, (one_size size size line other rest more f.0 g.0 e).1)
    one_fit (ColoursOf s r) line other rest more cs ds f g e =
        let o = one_site s r f.0 g.0 line other rest more f.2 g.2 e in
        (f.1 ∙ (ap (λ z. z ∷ []) o.0 ∙ sym g.1), o.1)

    no_clash : (s r : ℕ) (c d : ColourLists) (n : ℕ) → c ≡ d → Clashes b meshes size s r d n → Clashes b meshes size s r c n
    no_clash s r c d n e k = subst (λ z. Clashes b meshes size s r z n) (sym e) k

    -- what fits isn't refused
    pub not_both : (x : Awaited) (line rest more : List ℕ) (cs : List ColourLists) (n : ℕ) → IsEarly x ⊎ (more ≡ [])
        → FitsLine b meshes size x line cs → rest ≡ line ++ more → Refuses b meshes size x rest n → ⊥
    not_both (Exactly m l) line rest more cs n h f e k = k.1 more (e ∙ ap (λ z. z ++ more) f.0)
    not_both Sizes line rest more cs n h f e k = k.1 size line more f.0 e
    not_both Done line rest more cs n (inl h) f e k = h
    not_both Done line rest more cs n (inr h) f e k = k.1 (e ∙ (ap (λ z. line ++ z) h ∙ (append-nil line ∙ f.0)))
    not_both (ColoursOf s r) line rest more cs n h f e (inl k) = k.1 f.0 line more f.2 e
    not_both (ColoursOf s r) line rest more cs n h f e (inr k) = by_clash (no_clash s r f.0 k.0 n (one_site s r f.0 k.0 line k.1 more k.2 f.2 k.4 (sym e ∙ k.3)).0 k.5)
      where
        by_clash : Clashes b meshes size s r f.0 n → ⊥
        by_clash (inl c) = f.3 c.1
        by_clash (inr c) = f.4 c.2

    -- it is refused by one number
    pub one_number : (x : Awaited) (rest : List ℕ) (m n : ℕ) → Refuses b meshes size x rest m → Refuses b meshes size x rest n → m ≡ n
    one_number (Exactly i l) rest m n h k = h.0 ∙ sym k.0
    one_number Sizes rest m n h k = h.0 ∙ sym k.0
    one_number Done rest m n h k = h.0 ∙ sym k.0
    one_number (ColoursOf s r) rest m n (inl h) (inl k) = h.0 ∙ sym k.0
    one_number (ColoursOf s r) rest m n (inl h) (inr k) = absurd (h.1 k.0 k.1 k.2 k.4 k.3)
    one_number (ColoursOf s r) rest m n (inr h) (inl k) = absurd (k.1 h.0 h.1 h.2 h.4 h.3)
    one_number (ColoursOf s r) rest m n (inr h) (inr k) = by_clash h.5 (no_clash s r h.0 k.0 n (one_site s r h.0 k.0 h.1 k.1 h.2 k.2 h.4 k.4 (sym h.3 ∙ k.3)).0 k.5)
      where
        by_clash : Clashes b meshes size s r h.0 m → Clashes b meshes size s r h.0 n → m ≡ n
        by_clash (inl c) (inl d) = c.0 ∙ sym d.0
        by_clash (inl c) (inr d) = absurd (d.1 c.1)
        by_clash (inr c) (inl d) = absurd (c.1 d.1)
        by_clash (inr c) (inr d) = c.0 ∙ sym d.0
