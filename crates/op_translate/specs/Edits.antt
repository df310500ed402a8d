-- Bytes of a source in which some stretches, each from one token to another, are replaced.
use Rattle.std.specs.Prelude.{ℕ, ◌-◌, ◌≤◌, List, [], ◌∷◌, ◌++◌, take, drop, Option, Some, None}
use Rattle.c_tree.specs.declared.lexer.tokens.Token.{Token}

-- the bytes from one place up to another become these
pub record Edit : Type 0 where
  pub from : ℕ
  pub to : ℕ
  pub text : List ℕ

-- The bytes with all edits made, which stand in order; the first of the bytes has the number n.
abbrev pub edited : ℕ → List ℕ → List Edit → List ℕ
edited n bs [] = bs
edited n bs (e ∷ es) = take (e.from - n) bs ++ e.text ++ edited e.to (drop (e.to - n) bs) es

-- one more in front, where there is one
abbrev pub with_edit : Option Edit → List Edit → List Edit
with_edit None es = es
with_edit (Some e) es = e ∷ es

-- the edits of tokens, where this tells the edit that begins with the first of them, if one does
abbrev pub edits : (List Token → Option Edit) → List Token → List Edit
edits begins [] = []
edits begins (t ∷ ts) = with_edit (begins (t ∷ ts)) (edits begins ts)

-- the edits stand in order, between one place and another
abbrev pub LieWithin : ℕ → ℕ → List Edit → Type 0
LieWithin n end [] = n ≤ end
LieWithin n end (e ∷ es) = (n ≤ e.from) × (e.from ≤ e.to) × LieWithin e.to end es
