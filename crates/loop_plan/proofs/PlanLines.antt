-- Lines of a plan text, one more.
use Rattle.std.proofs.Common.{◌≡◌, ◌<◌, ◌+◌, ℕ, suc, sym, ap, ◌∙◌, arith, List, [], ◌∷◌, ◌++◌, append_assoc, append-nil, length, get_or, take, drop, map}
use Rattle.std.specs.Prelude.{codes}
use Rattle.std.specs.Fmt.{decimal}
use Rattle.std.proofs.lemmas.Grind.{flat_map-append}
use Rattle.std.proofs.lemmas.List.{take_more, length-take-le}
use Rattle.op_num.specs.Lines.{line_of, text_of_lines}
use Rattle.mesh_decl.specs.Mesh.{MeshValue, set_name}
use Rattle.local_mesh.specs.declared.types.LocalSet.{LocalSet}
use Rattle.local_mesh.specs.declared.types.RankMesh.{RankMesh}
use Rattle.local_mesh.specs.LocalMesh.{originals_in, executed_in}
use Rattle.loop_plan.specs.Pairs.{own_in}
use Rattle.colouring.specs.declared.types.Colours.{Colours}
use Rattle.bound_program.specs.Values.{ItemValue, Exit, Host}
use Rattle.loop_plan.specs.Values.{ItemPlanValue, no_item_plan}
use Rattle.loop_plan.specs.PlanText.{Line, halo_line, halo_lines, site_line, site_lines, item_line, item_lines}

-- one line more
pub text_more : (old between now : List ℕ) (ls : List Line) (l : Line)
    → between ≡ old ++ text_of_lines ls
    → now ≡ between ++ line_of l
    → now ≡ old ++ text_of_lines (ls ++ l ∷ [])
text_more old between now ls l b n =
    n
    ∙ (ap (λ (z : List ℕ). z ++ line_of l) b
    ∙ (append_assoc old (text_of_lines ls) (line_of l)
    ∙ ap (λ (z : List ℕ). old ++ z) (ap (λ (z : List ℕ). text_of_lines ls ++ z) (sym (append-nil (line_of l))) ∙ sym (flat_map-append line_of ls (l ∷ [])))))

-- more lines
pub texts_more : (old between now : List ℕ) (ls ms : List Line)
    → between ≡ old ++ text_of_lines ls
    → now ≡ between ++ text_of_lines ms
    → now ≡ old ++ text_of_lines (ls ++ ms)
texts_more old between now ls ms b n =
    n
    ∙ (ap (λ (z : List ℕ). z ++ text_of_lines ms) b
    ∙ (append_assoc old (text_of_lines ls) (text_of_lines ms) ∙ ap (λ (z : List ℕ). old ++ z) (sym (flat_map-append line_of ls ms))))

-- ---- halos

-- a line by what the rank's set has
pub halo_same : (g : MeshValue) (sets : List LocalSet) (s r own executed : ℕ) (name originals : List ℕ)
    → name ≡ set_name g s
    → originals ≡ originals_in sets s
    → own ≡ own_in sets s
    → executed ≡ executed_in sets s
    → (codes "halo" ∷ name ∷ decimal r ∷ codes "owned" ∷ map decimal (take own originals))
    ++ (codes "exec" ∷ map decimal (drop own (take executed originals)))
    ++ (codes "nonexec" ∷ map decimal (drop executed originals))
    ≡ halo_line g sets s r
halo_same g sets s r own executed name originals a b c d =
    let l : List ℕ → List ℕ → ℕ → ℕ → Line = λ n xs o e.
    (codes "halo" ∷ n ∷ decimal r ∷ codes "owned" ∷ map decimal (take o xs))
    ++ (codes "exec" ∷ map decimal (drop o (take e xs)))
    ++ (codes "nonexec" ∷ map decimal (drop e xs)) in
    ap (λ z. l z originals own executed) a
    ∙ (ap (λ z. l (set_name g s) z own executed) b
    ∙ (ap (λ z. l (set_name g s) (originals_in sets s) z executed) c ∙ ap (λ z. l (set_name g s) (originals_in sets s) (own_in sets s) z) d))

halos_push : (g : MeshValue) (s r : ℕ) (xs : List RankMesh) (m : RankMesh)
    → halo_lines g s r (xs ++ m ∷ []) ≡ halo_lines g s r xs ++ halo_line g m.sets.items s (r + length xs) ∷ []
halos_push g s r [] m = let e : r ≡ r + 0 = omega arith in ap (λ z. halo_line g m.sets.items s z ∷ []) e
halos_push g s r (x ∷ xs) m =
    let e : suc r + length xs ≡ r + suc (length xs) = omega arith in
    ap (λ (z : List Line). halo_line g x.sets.items s r ∷ z)
    (halos_push g s (suc r) xs m ∙ ap (λ z. halo_lines g s (suc r) xs ++ halo_line g m.sets.items s z ∷ []) e)

pub halos_more : (g : MeshValue) (s k : ℕ) (meshes : List RankMesh) (m : RankMesh) (sets : List LocalSet) (old between now : List ℕ)
    → k < length meshes
    → (get_or meshes k m).sets.items ≡ sets
    → between ≡ old ++ text_of_lines (halo_lines g s 0 (take k meshes))
    → now ≡ between ++ line_of (halo_line g sets s k)
    → now ≡ old ++ text_of_lines (halo_lines g s 0 (take (k + 1) meshes))
halos_more g s k meshes m sets old between now l e b n =
    let c : 0 + length (take k meshes) ≡ k = omega (arith, length-take-le k meshes (omega arith)) in
    text_more old between now (halo_lines g s 0 (take k meshes)) (halo_line g sets s k) b n
    ∙ ap (λ (z : List Line). old ++ text_of_lines z)
    (ap (λ z. halo_lines g s 0 (take k meshes) ++ halo_line g z s k ∷ []) (sym e)
    ∙ (ap (λ z. halo_lines g s 0 (take k meshes) ++ halo_line g (get_or meshes k m).sets.items s z ∷ []) (sym c)
    ∙ (sym (halos_push g s 0 (take k meshes) (get_or meshes k m)) ∙ sym (ap (halo_lines g s 0) (take_more meshes k m l)))))

-- ---- loops

sites_push : (s r : ℕ) (ns : List ℕ) (cs : List Colours) (n : ℕ) (c : Colours)
    → length ns ≡ length cs
    → site_lines s r (ns ++ n ∷ []) (cs ++ c ∷ []) ≡ site_lines s r ns cs ++ site_line s (r + length ns) n c ∷ []
sites_push s r [] [] n c e = let e : r ≡ r + 0 = omega arith in ap (λ z. site_line s z n c ∷ []) e
sites_push s r [] (d ∷ cs) n c e = absurd (omega arith)
sites_push s r (m ∷ ns) [] n c e = absurd (omega arith)
sites_push s r (m ∷ ns) (d ∷ cs) n c e =
    let q : suc r + length ns ≡ r + suc (length ns) = omega arith in
    ap (λ (z : List Line). site_line s r m d ∷ z)
    (sites_push s (suc r) ns cs n c (omega arith) ∙ ap (λ z. site_lines s (suc r) ns cs ++ site_line s z n c ∷ []) q)

pub sites_more : (s k : ℕ) (ns : List ℕ) (cs : List Colours) (d c : Colours) (old between now : List ℕ)
    → length ns ≡ length cs
    → k < length ns
    → get_or cs k d ≡ c
    → between ≡ old ++ text_of_lines (site_lines s 0 (take k ns) (take k cs))
    → now ≡ between ++ line_of (site_line s k (get_or ns k 0) c)
    → now ≡ old ++ text_of_lines (site_lines s 0 (take (k + 1) ns) (take (k + 1) cs))
sites_more s k ns cs d c old between now same l e b n =
    let ln : 0 + length (take k ns) ≡ k = omega (arith, length-take-le k ns (omega arith)) in
    let lc : length (take k ns) ≡ length (take k cs) = omega (arith, length-take-le k ns (omega arith), length-take-le k cs (omega arith)) in
    text_more old between now (site_lines s 0 (take k ns) (take k cs)) (site_line s k (get_or ns k 0) c) b n
    ∙ ap (λ (z : List Line). old ++ text_of_lines z)
    (ap (λ z. site_lines s 0 (take k ns) (take k cs) ++ site_line s k (get_or ns k 0) z ∷ []) (sym e)
    ∙ (ap (λ z. site_lines s 0 (take k ns) (take k cs) ++ site_line s z (get_or ns k 0) (get_or cs k d) ∷ []) (sym ln)
    ∙ (sym (sites_push s 0 (take k ns) (take k cs) (get_or ns k 0) (get_or cs k d) lc)
    ∙ (ap (λ z. site_lines s 0 z (take k cs ++ get_or cs k d ∷ [])) (sym (take_more ns k 0 l))
    ∙ ap (λ z. site_lines s 0 (take (k + 1) ns) z) (sym (take_more cs k d (omega arith)))))))

-- ---- items

items_push : (g : MeshValue) (k : ℕ) (is : List ItemValue) (ps : List ItemPlanValue) (i : ItemValue) (p : ItemPlanValue)
    → length is ≡ length ps
    → item_lines g k (is ++ i ∷ []) (ps ++ p ∷ []) ≡ item_lines g k is ps ++ item_line g (k + length is) i p.exchange ∷ []
items_push g k [] [] i p e = let e : k ≡ k + 0 = omega arith in ap (λ z. item_line g z i p.exchange ∷ []) e
items_push g k [] (q ∷ ps) i p e = absurd (omega arith)
items_push g k (j ∷ is) [] i p e = absurd (omega arith)
items_push g k (j ∷ is) (q ∷ ps) i p e =
    let t : suc k + length is ≡ k + suc (length is) = omega arith in
    ap (λ (z : List Line). item_line g k j q.exchange ∷ z)
    (items_push g (suc k) is ps i p (omega arith) ∙ ap (λ z. item_lines g (suc k) is ps ++ item_line g z i p.exchange ∷ []) t)

pub items_more : (g : MeshValue) (k : ℕ) (is : List ItemValue) (ps : List ItemPlanValue) (i : ItemValue) (dats : List ℕ) (old between now : List ℕ)
    → length is ≡ length ps
    → k < length is
    → get_or is k (Host Exit) ≡ i
    → (get_or ps k no_item_plan).exchange ≡ dats
    → between ≡ old ++ text_of_lines (item_lines g 0 (take k is) (take k ps))
    → now ≡ between ++ line_of (item_line g k i dats)
    → now ≡ old ++ text_of_lines (item_lines g 0 (take (k + 1) is) (take (k + 1) ps))
items_more g k is ps i dats old between now same l e q b n =
    let x : ItemValue = get_or is k (Host Exit) in
    let y : ItemPlanValue = get_or ps k no_item_plan in
    let li : 0 + length (take k is) ≡ k = omega (arith, length-take-le k is (omega arith)) in
    let lp : length (take k is) ≡ length (take k ps) = omega (arith, length-take-le k is (omega arith), length-take-le k ps (omega arith)) in
    text_more old between now (item_lines g 0 (take k is) (take k ps)) (item_line g k i dats) b n
    ∙ ap (λ (z : List Line). old ++ text_of_lines z)
    (ap (λ z. item_lines g 0 (take k is) (take k ps) ++ item_line g k z dats ∷ []) (sym e)
    ∙ (ap (λ z. item_lines g 0 (take k is) (take k ps) ++ item_line g k x z ∷ []) (sym q)
    ∙ (ap (λ z. item_lines g 0 (take k is) (take k ps) ++ item_line g z x y.exchange ∷ []) (sym li)
    ∙ (sym (items_push g 0 (take k is) (take k ps) x y lp)
    ∙ (ap (λ z. item_lines g 0 z (take k ps ++ y ∷ [])) (sym (take_more is k (Host Exit) l))
    ∙ ap (λ z. item_lines g 0 (take (k + 1) is) z) (sym (take_more ps k no_item_plan (omega arith))))))))
