-- The next section.
use Rattle.std.proofs.Common.{◌≡◌, ℕ, List, [], ◌∷◌, Some, None, Ok, Err, refl, sym, ap, ◌∙◌}
use Rattle.op_num.specs.Cut.{Word, Uncut, first, behind, first_of, rest_of}
use Rattle.gmsh_text.specs.declared.refusal.TextRefusal.TheVariants.{Syntax}
use Rattle.gmsh_text.specs.declared.format.Section.{Section}
use Rattle.gmsh_text.specs.Sections.{section, section_of, section_or, section_from}

here : (last : ℕ) (ws : List Word) (w : Word) (s : Section) → first ws ≡ Some w → section_of w.text ≡ Some s → section_from last ws ≡ Ok (s, behind last ws)
unfolding section_from
here last [] w s h k = cc
here last (x ∷ xs) w s h k =
    let e : x ≡ w = cc in
    ap (λ o. section_or o x.line xs (section_from x.line xs)) (ap (λ y. section_of y.text) e ∙ k)

later : (last : ℕ) (ws : List Word) (w : Word) → first ws ≡ Some w → section_of w.text ≡ None → section_from last ws ≡ section (behind last ws)
unfolding section_from
later last [] w h k = cc
later last (x ∷ xs) w h k =
    let e : x ≡ w = cc in
    ap (λ o. section_or o x.line xs (section_from x.line xs)) (ap (λ y. section_of y.text) e ∙ k)

nowhere : (last : ℕ) (ws : List Word) → first ws ≡ None → section_from last ws ≡ Err (Syntax (behind last ws).last)
unfolding section_from
nowhere last [] h = refl
nowhere last (x ∷ xs) h = cc

-- this token begins a section
pub section-here : (u : Uncut) (w : Word) (s : Section) → Some w ≡ first_of u → Some s ≡ section_of w.text → section u ≡ Ok (s, rest_of u)
section-here u w s h k = here u.last u.words w s (sym h) (sym k)

-- it begins none
pub section-later : (u : Uncut) (w : Word) → Some w ≡ first_of u → None ≡ section_of w.text → section u ≡ section (rest_of u)
section-later u w h k = later u.last u.words w (sym h) (sym k)

-- no token is left
pub section-none : (u : Uncut) → None ≡ first_of u → section u ≡ Err (Syntax (rest_of u).last)
section-none u h = nowhere u.last u.words (sym h)
