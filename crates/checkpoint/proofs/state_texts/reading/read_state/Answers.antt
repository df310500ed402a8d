use Rattle.std.proofs.Common.{◌≡◌, ◌+◌, ◌∙◌, ℕ, List, refl, sym, ap, subst, take, drop, inl, arith}
use Rattle.std.proofs.lemmas.List.{drop-drop}
use Rattle.bound_program.specs.Values.{bound_of}
use Rattle.checkpoint.specs.Cut.{state_of}
use Rattle.checkpoint.specs.Reading.{IsSplit, lines_in, SaysNone, Refused}
use Rattle.checkpoint.proofs.state_texts.Whole.{refused_small, file_says, file_says_none}
use Rattle.checkpoint.proofs.state_texts.reading.read_state.Goals as goal

pub behind-requires : goal.behind-requires
behind-requires c =
    let small = refused_small (bound_of c.args.bound.now) c.split_at-2.result.1.now c.in-Err.refusal c.in-Err.ensures.refused in
    omega (arith, small, c.count_lines.ensures.few, c.split_at.ensures.front_len, c.split_at.ensures.back_len, c.split_at-2.ensures.back_len, c.requires.bytes, c.in-Some.ensures.0)

pub returns-in_default-clause-refused : goal.returns-in_default-clause-refused
returns-in_default-clause-refused c = inl (c.in_default.ensures, refl, refl)

-- the text behind the mark, cut in two steps
cut : (bytes front marked text : List ℕ) (at : ℕ) → IsSplit bytes (take at bytes) (drop (at + 12) bytes) → front ≡ take at bytes → marked ≡ drop at bytes → text ≡ drop 12 marked
    → IsSplit bytes front text
cut bytes front marked text at s f m t =
    let is : drop (at + 12) bytes ≡ text = sym (drop-drop 12 at bytes) ∙ sym (t ∙ ap (drop 12) m) in
    subst (λ (z : List ℕ). IsSplit bytes z text) (sym f) (subst (IsSplit bytes (take at bytes)) is s)

pub returns-in-Ok-clause-says : goal.returns-in-Ok-clause-says
returns-in-Ok-clause-says c =
    let split = cut c.args.bytes.now c.split_at.result.0.now c.split_at.result.1.now c.split_at-2.result.1.now c.in-Some.at
    c.in-Some.ensures.1 c.split_at.ensures.front c.split_at.ensures.back c.split_at-2.ensures.back in
    file_says (bound_of c.args.bound.now) c.args.bytes.now c.split_at.result.0.now c.split_at-2.result.1.now split (state_of c.in-Ok.state) c.in-Ok.ensures.says

pub returns-in-Err-clause-refused : goal.returns-in-Err-clause-refused
returns-in-Err-clause-refused c =
    let b = bound_of c.args.bound.now in
    let split = cut c.args.bytes.now c.split_at.result.0.now c.split_at.result.1.now c.split_at-2.result.1.now c.in-Some.at
    c.in-Some.ensures.1 c.split_at.ensures.front c.split_at.ensures.back c.split_at-2.ensures.back in
    let lines : c.count_lines.result + 2 ≡ lines_in c.split_at.result.0.now + 2 = ap (λ n. n + 2) c.count_lines.ensures.count in
    subst (Refused (SaysNone b c.args.bytes.now)) (sym c.behind.ensures)
    (file_says_none b c.args.bytes.now c.split_at.result.0.now c.split_at-2.result.1.now split (c.count_lines.result + 2) c.in-Err.refusal lines c.in-Err.ensures.refused)
