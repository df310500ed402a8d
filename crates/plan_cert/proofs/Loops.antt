-- The lines of the loops that run, one loop more.
use Rattle.std.proofs.Common.{◌≡◌, ℕ, ◌+◌, ◌<◌, Bool, true, false, cond, sym, ap, subst, ◌∙◌, List, [], ◌∷◌, ◌++◌, append-nil, length, get_or, map}
use Rattle.std.proofs.lemmas.Grind.{flat_map-append}
use Rattle.std.proofs.lemmas.List.{get_or_read}
use Rattle.op_num.specs.CutLines.{Unread}
use Rattle.local_mesh.specs.declared.types.RankMesh.{RankMesh}
use Rattle.bound_program.specs.Values.{BoundValue}
use Rattle.loop_plan.specs.Values.{SitePlanValue}
use Rattle.loop_plan.specs.Places.{runs_free}
use Rattle.plan_cert.specs.declared.types.CertRefusal.{CertRefusal}
use Rattle.plan_cert.specs.Awaited.{Awaited, ColourLists, awaited_ranks, awaited_sites}
use Rattle.plan_cert.specs.Certified.{lists_of, colours_in}
use Rattle.plan_cert.specs.Judged.{FitsAmong, RefusesAmong}
use Rattle.plan_cert.proofs.Reading.{fits_none, fits_more, refused_at}

-- what was read by loop
pub runs_read : (runs : List Bool) (f : ℕ → Bool) (s : ℕ) (x t : Bool) → s < length runs → x ≡ get_or runs s x → ((k : ℕ) → get_or runs k false ≡ f k) → x ≡ t → f s ≡ t
runs_read runs f s x t l e h is = sym (h s) ∙ (sym (get_or_read runs s x l e false) ∙ is)

-- the colours of one loop more
colours_push : (es : List (ℕ × SitePlanValue)) (k : ℕ) (p : SitePlanValue) → colours_in (es ++ (k, p) ∷ []) ≡ colours_in es ++ map lists_of p.colours
colours_push es k p =
    flat_map-append (λ (e : ℕ × SitePlanValue). map lists_of e.1.colours) es ((k, p) ∷ [])
    ∙ ap (λ (z : List ColourLists). colours_in es ++ z) (append-nil (map lists_of p.colours))

module _ (b : BoundValue) (meshes : List RankMesh) (size k : ℕ) where
  abbrev lines_at : ℕ → List Awaited
  lines_at s = cond (runs_free b s) (awaited_ranks b meshes s) []

  -- it runs
  pub loop_taken : (u v w : Unread) (es now : List (ℕ × SitePlanValue)) (p : SitePlanValue)
      → runs_free b k ≡ true
      → FitsAmong b meshes size (awaited_sites b meshes k) u v (colours_in es)
      → FitsAmong b meshes size (awaited_ranks b meshes k) v w (map lists_of p.colours)
      → now ≡ es ++ (k, p) ∷ []
      → FitsAmong b meshes size (awaited_sites b meshes (k + 1)) u w (colours_in now)
  loop_taken u v w es now p runs before here e =
      subst (λ (z : List ColourLists). FitsAmong b meshes size (awaited_sites b meshes (k + 1)) u w z) (sym (ap colours_in e ∙ colours_push es k p))
      (fits_more b meshes size lines_at k u v w (colours_in es) (map lists_of p.colours) before
      (subst (λ z. FitsAmong b meshes size (cond z (awaited_ranks b meshes k) []) v w (map lists_of p.colours)) (sym runs) here))

  -- it doesn't, and has no lines
  pub loop_passed : (u v : Unread) (cs : List ColourLists)
      → runs_free b k ≡ false
      → FitsAmong b meshes size (awaited_sites b meshes k) u v cs
      → FitsAmong b meshes size (awaited_sites b meshes (k + 1)) u v cs
  loop_passed u v cs idle before =
      subst (λ (z : List ColourLists). FitsAmong b meshes size (awaited_sites b meshes (k + 1)) u v z) (append-nil cs)
      (fits_more b meshes size lines_at k u v v cs [] before
      (subst (λ z. FitsAmong b meshes size (cond z (awaited_ranks b meshes k) []) v v []) (sym idle) (fits_none b meshes size v)))

  -- one of its lines is refused
  pub loop_refused : (n : ℕ) (u v : Unread) (cs : List ColourLists) (e : CertRefusal)
      → k < n
      → runs_free b k ≡ true
      → FitsAmong b meshes size (awaited_sites b meshes k) u v cs
      → RefusesAmong b meshes size (awaited_ranks b meshes k) v e
      → RefusesAmong b meshes size (awaited_sites b meshes n) u e
  loop_refused n u v cs e l runs before here =
      refused_at b meshes size lines_at k n u v cs e l before
      (subst (λ z. RefusesAmong b meshes size (cond z (awaited_ranks b meshes k) []) v e) (sym runs) here)
