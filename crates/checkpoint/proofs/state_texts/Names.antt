-- C names end no line.
use Rattle.std.proofs.Common.{◌≡◌, ℕ, [], ◌∷◌, Bool, true, false, get_or, refl, sym, ap, ◌∙◌}
use Rattle.std.proofs.lemmas.Bool.{eqb-true, false≢true}
use Rattle.std.proofs.lemmas.List.Sums.{AllPass-from_list_all}
use Rattle.c_tree.specs.Spelling.{letter, part}
use Rattle.op_num.specs.CutLines.{is_lf}
use Rattle.checkpoint.specs.StateTextLaws.{NamesArePlain}
use Rattle.checkpoint.proofs.state_texts.Words.{no_lf_cons}

-- a byte that passes a test which LF doesn't pass
no_lf : (p : ℕ → Bool) → p 10 ≡ false → (x : ℕ) (t : Bool) → is_lf x ≡ t → p x ≡ true → t ≡ false
no_lf p n x false e h = refl
no_lf p n x true e h = absurd (false≢true (sym n ∙ (ap p (sym (eqb-true x 10 e)) ∙ h)))

pub names_are_plain : NamesArePlain
names_are_plain [] h = absurd h
names_are_plain (b ∷ bs) h =
    no_lf_cons b bs (no_lf letter refl b (is_lf b) refl h.0)
    (λ k d l. no_lf part refl (get_or bs k d) (is_lf (get_or bs k d)) refl (AllPass-from_list_all part bs h.1 k d l))
