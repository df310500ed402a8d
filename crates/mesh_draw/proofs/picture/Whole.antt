-- Elements put together from their tags and what stands between them.
use Rattle.std.proofs.Common.{◌≡◌, ℕ, List, ◌∷◌, ◌++◌, codes, sym, ap, ◌∙◌, append_assoc}
use Rattle.std.specs.List.{flat_map}
use Rattle.mesh_draw.specs.Tree.{Node, nodes_of, start_tag, printed, all_printed}
use Rattle.mesh_draw.specs.Picture.{view_attributes}

-- an element behind others: its start, its nodes, its end
pub element_put : (old start end a b c : List ℕ) (ns : List Node)
    → ((ms : List Node) → all_printed (nodes_of ms) ≡ flat_map printed ms)
    → a ≡ old ++ start → b ≡ a ++ flat_map printed ns → c ≡ b ++ end
    → c ≡ old ++ ((start ++ all_printed (nodes_of ns)) ++ end)
element_put old start end a b c ns order ea eb ec =
    let nodes : List ℕ = flat_map printed ns in
    ec ∙ ap (λ (t : List ℕ). t ++ end) (eb ∙ ap (λ (t : List ℕ). t ++ nodes) ea ∙ append_assoc old start nodes)
    ∙ append_assoc old (start ++ nodes) end
    ∙ ap (λ (t : List ℕ). old ++ ((start ++ t) ++ end)) (sym (order ns))

-- an element that begins with two nodes, by itself
pub whole_put : (start end a b c d e : List ℕ) (m n : Node) (ns : List Node)
    → ((ms : List Node) → all_printed (nodes_of ms) ≡ flat_map printed ms)
    → a ≡ start → b ≡ a ++ printed m → c ≡ b ++ printed n → d ≡ c ++ flat_map printed ns → e ≡ d ++ end
    → e ≡ (start ++ all_printed (nodes_of (m ∷ n ∷ ns))) ++ end
whole_put start end a b c d e m n ns order ea eb ec ed ee =
    let nodes : List ℕ = flat_map printed ns in
    let one : c ≡ (start ++ printed m) ++ printed n =
    ec ∙ ap (λ (t : List ℕ). t ++ printed n) (eb ∙ ap (λ (t : List ℕ). t ++ printed m) ea) in
    ee ∙ ap (λ (t : List ℕ). t ++ end)
    (ed ∙ ap (λ (t : List ℕ). t ++ nodes) one
    ∙ append_assoc (start ++ printed m) (printed n) nodes
    ∙ append_assoc start (printed m) (printed n ++ nodes)
    ∙ ap (λ (t : List ℕ). start ++ (printed m ++ (printed n ++ t))) (sym (order ns)))

-- the start of a view whose attributes are known otherwise
pub view_same : (old w x h i v u l k : List ℕ) → w ≡ x → h ≡ i → v ≡ u → l ≡ k
    → old ++ start_tag (codes "svg") (view_attributes w h v l) ≡ old ++ start_tag (codes "svg") (view_attributes x i u k)
view_same old w x h i v u l k ew eh ev el =
    ap (λ (t : List ℕ). old ++ start_tag (codes "svg") (view_attributes t h v l)) ew
    ∙ ap (λ (t : List ℕ). old ++ start_tag (codes "svg") (view_attributes x t v l)) eh
    ∙ ap (λ (t : List ℕ). old ++ start_tag (codes "svg") (view_attributes x i t l)) ev
    ∙ ap (λ (t : List ℕ). old ++ start_tag (codes "svg") (view_attributes x i u t)) el
