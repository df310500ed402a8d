-- The numbers that a tree keeps, and the places of its tokens.
use Rattle.std.proofs.Common.{◌≡◌, ℕ, suc, ◌+◌, ◌≤◌, List, [], ◌∷◌, length, map, Option, Some, None, Ok, sym, ◌∙◌, ap, subst, arith}
use Rattle.std.specs.List.{All}
use Rattle.std.proofs.lemmas.List.{length-map}
use Rattle.std.proofs.lemmas.List.Elements.{All-nil, All-cons}
use Rattle.c_tree.specs.declared.lexer.tokens.Token.{Token}
use Rattle.c_tree.specs.Lexed.{Lexes}
use Rattle.c_tree.specs.Order.{AreInOrder}
use Rattle.c_tree.specs.Places.{IsBelow}
use Rattle.c_tree.specs.Print.{Mark, program}
use Rattle.c_tree.specs.Reads.{Keeps, AreNumbered, Reads}
use Rattle.c_tree.specs.Tree.{ProgramTree}

below : (n total : ℕ) (o : Option ℕ) → Keeps n o → suc n ≤ total → IsBelow total o
below n total None k h = tt
below n total (Some at) k h = omega arith

all_below : (n total : ℕ) (ms : List Mark) → AreNumbered n ms → n + length ms ≤ total → All (λ m. IsBelow total m.number) ms
all_below n total [] a h = All-nil (λ m. IsBelow total m.number)
all_below n total (m ∷ ms) a h =
    All-cons (λ m. IsBelow total m.number) m ms (below n total m.number a.0 (omega arith)) (all_below (suc n) total ms a.1 (omega arith))

pub numbers_have_places : (bytes : List ℕ) (p : ProgramTree) → Reads bytes p → All (λ m. IsBelow (length p.places) m.number) (program p)
numbers_have_places bytes p r =
    let counted : length (program p) ≡ length p.places = sym (length-map (program p) (λ m. m.kind))
    ∙ (ap length r.prints.kinds ∙ (length-map r.tokens (λ t. t.kind)
    ∙ (sym (length-map r.tokens (λ t. t.at)) ∙ ap length (sym r.prints.places)))) in
    all_below 0 (length p.places) (program p) r.prints.numbered (omega arith)

module _ (in_order : (bytes : List ℕ) (tokens : List Token) → Lexes bytes (Ok tokens) → AreInOrder (map (λ t. t.at) tokens)) where
  pub places_grow : (bytes : List ℕ) (p : ProgramTree) → Reads bytes p → AreInOrder p.places
  places_grow bytes p r = subst AreInOrder (sym r.prints.places) (in_order bytes r.tokens r.lexed)
