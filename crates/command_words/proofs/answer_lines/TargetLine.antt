-- The line of a map with an entry that is no element, in three parts.
use Rattle.std.proofs.Common.{◌≡◌, ℕ, List, ◌++◌, codes, Result, Ok, Err, OnOk, refl, ap, ◌∙◌, append_assoc}
use Rattle.std.specs.Fmt.{decimal}
use Rattle.c_tree.specs.declared.lexer.tokens.Pos.{Pos}
use Rattle.command_words.specs.Refusal.{BadTarget}
use Rattle.command_words.specs.Lines.{numbered, said_of}

joined : (old n m e p : List ℕ)
    → ((old ++ n) ++ (codes " map " ++ m)) ++ codes " element " ++ e ++ codes " place " ++ p
    ≡ old ++ (n ++ codes " map " ++ m ++ codes " element " ++ e ++ codes " place " ++ p)
joined old n m e p = simp append_assoc refl

pub target_said : {T E : Type 0} (r : Result T E) (old first then new map : List ℕ) (at : Pos) (element place : ℕ)
    → first ≡ old ++ numbered (codes "source bind") 10 at
    → then ≡ first ++ (codes " map " ++ map)
    → OnOk r (new ≡ then ++ codes " element " ++ decimal element ++ codes " place " ++ decimal place)
    → OnOk r (new ≡ old ++ said_of (BadTarget at map element place))
target_said (Err e) old first then new map at element place a b c = tt
target_said (Ok v) old first then new map at element place a b c =
    let tail = λ (x : List ℕ). x ++ codes " element " ++ decimal element ++ codes " place " ++ decimal place in
    c
    ∙ ap tail b
    ∙ ap (λ x. tail (x ++ (codes " map " ++ map))) a
    ∙ joined old (numbered (codes "source bind") 10 at) map (decimal element) (decimal place)
