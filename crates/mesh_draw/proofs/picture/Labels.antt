-- Labels one below another.
use Rattle.std.proofs.Common.{◌≡◌, ℕ, ◌+◌, ◌<◌, List, [], ◌∷◌, ◌++◌, length, take, get_or, sym, ap, ◌∙◌, append_assoc, append-nil, arith}
use Rattle.std.specs.List.{flat_map}
use Rattle.std.proofs.lemmas.List.{take_more}
use Rattle.std.proofs.Math.ListN.{length-take}
use Rattle.std.proofs.lemmas.Grind.{flat_map-append}
use Rattle.mesh_draw.specs.Tree.{Node, printed}
use Rattle.mesh_draw.specs.declared.picture.frame.Frame.{Frame}
use Rattle.mesh_draw.specs.declared.picture.legend.Label.{Label}
use Rattle.mesh_draw.specs.Picture.{square, caption, labels_from}

-- one label more below others
pub labels_more : (f : Frame) (k n : ℕ) (ls : List Label) (l : Label) → k + length ls ≡ n
    → labels_from f k (ls ++ l ∷ []) ≡ labels_from f k ls ++ square f n l ∷ caption f n l ∷ []
labels_more f k n [] l e = let same : k ≡ n = omega (arith, e) in ap (λ (i : ℕ). square f i l ∷ caption f i l ∷ []) same
labels_more f k n (x ∷ ls) l e =
    let rest : (k + 1) + length ls ≡ n = omega (arith, e) in
    ap (λ (ns : List Node). square f k x ∷ caption f k x ∷ ns) (labels_more f (k + 1) n ls l rest)

-- the bytes of one label more
pub label_put : (f : Frame) (n : ℕ) (ls : List Label) (l d : Label) (old between squared now : List ℕ)
    → n < length ls → l ≡ get_or ls n d
    → between ≡ old ++ flat_map printed (labels_from f 0 (take n ls))
    → squared ≡ between ++ printed (square f n l)
    → now ≡ squared ++ printed (caption f n l)
    → now ≡ old ++ flat_map printed (labels_from f 0 (take (n + 1) ls))
label_put f n ls l d old between squared now h is b s e =
    let before : List Node = labels_from f 0 (take n ls) in
    let two : List Node = square f n l ∷ caption f n l ∷ [] in
    let len : 0 + length (take n ls) ≡ n = omega (arith, length-take n ls) in
    let more : labels_from f 0 (take (n + 1) ls) ≡ before ++ two =
    ap (labels_from f 0) (take_more ls n d h) ∙ ap (λ (x : Label). labels_from f 0 (take n ls ++ x ∷ [])) (sym is)
    ∙ labels_more f 0 n (take n ls) l len in
    e ∙ ap (λ (t : List ℕ). t ++ printed (caption f n l)) (s ∙ ap (λ (t : List ℕ). t ++ printed (square f n l)) b)
    ∙ append_assoc (old ++ flat_map printed before) (printed (square f n l)) (printed (caption f n l))
    ∙ append_assoc old (flat_map printed before) (printed (square f n l) ++ printed (caption f n l))
    ∙ sym (ap (λ (t : List ℕ). old ++ t) (ap (flat_map printed) more ∙ flat_map-append printed before two
    ∙ ap (λ (t : List ℕ). flat_map printed before ++ (printed (square f n l) ++ t)) (append-nil (printed (caption f n l)))))
