use Rattle.std.proofs.Common.{◌≢◌, ◌∙◌, ap, sym, inl, inr, ⊎_elim, get_or}
use Rattle.local_mesh.specs.LocalMesh.{originals_in}
use Rattle.colouring.specs.Colours.{reached_by}
use Rattle.colouring.proofs.Ordering.{places_are_ordered, by_outline}
use Rattle.colouring.proofs.Reaching.{reached_conflict}
use Rattle.colouring.proofs.laws.common_targets_are_ordered.Goals as goal

pub returns : goal.returns
returns c = λ o p r m args places size d t k place some perms is a cs shown x y e f cx cy s le lf oe of ne same.
    let g = c.args.mesh.now in
    let apart : place e ≢ place f = λ q. ne (sym oe ∙ (ap (λ z. get_or (originals_in m.sets.items a.set) z 0) q ∙ of)) in
    let meet = ap (λ z. reached_by g z x.via) oe ∙ (same ∙ sym (ap (λ z. reached_by g z y.via) of)) in
    ⊎_elim
    (λ l. inl (by_outline t k r place size d shown e f ∙ l))
    (λ l. inr (by_outline t k r place size d shown f e ∙ l))
    (places_are_ordered g m.maps.items args places size d some cs (place e) (place f) le lf apart
    (reached_conflict c.originals_are_distinct.ensures g o p r m perms c.is_in_range.ensures.dats is args places a x y (place e)
    (place f) cx cy s le lf meet))
