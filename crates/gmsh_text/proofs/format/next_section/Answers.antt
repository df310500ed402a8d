use Rattle.std.proofs.Common.{Ok, Err, sym, ap, ◌∙◌}
use Rattle.gmsh_text.specs.declared.refusal.TextRefusal.TheVariants.{Syntax}
use Rattle.gmsh_text.specs.Sections.{section, section_of}
use Rattle.gmsh_text.proofs.Seeking.{section-here, section-later, section-none}
use Rattle.gmsh_text.proofs.format.next_section.Goals as goal

pub returns-in-Some-section_of_word : goal.returns-in-Some-section_of_word
returns-in-Some-section_of_word c =
    c.loop-token.invariant
    ∙ section-here c.loop-token.tokens c.in-Some.token c.in-Some-section_of_word.section c.in-Some.ensures.token
    (sym c.in-Some-section_of_word.is ∙ c.section_of_word.ensures ∙ ap section_of c.text.ensures)
    ∙ ap (λ u. Ok (c.in-Some-section_of_word.section, u)) (sym c.in-Some.ensures.rest)

pub loop-token-preserved : goal.loop-token-preserved
loop-token-preserved c =
    c.loop-token.invariant
    ∙ section-later c.loop-token.tokens c.in-Some.token c.in-Some.ensures.token
    (sym c.in_default-section_of_word.is ∙ c.section_of_word.ensures ∙ ap section_of c.text.ensures)
    ∙ ap section (sym c.in-Some.ensures.rest)

pub returns : goal.returns
returns c =
    c.loop-token.invariant ∙ section-none c.loop-token.tokens c.in_default.ensures.token
    ∙ ap (λ u. Err (Syntax u.last)) (sym c.in_default.ensures.rest) ∙ ap (λ n. Err (Syntax n)) (sym c.last.ensures)
