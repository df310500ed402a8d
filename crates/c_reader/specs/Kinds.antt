-- The kinds of tokens.
use Rattle.std.specs.Prelude.{List, map}
use Rattle.c_tree.specs.declared.lexer.tokens.Token.{Token}
use Rattle.c_tree.specs.declared.lexer.tokens.Kind.{Kind}

-- tokens without where they stand, which is all that the grammar goes by
abbrev pub kinds : List Token → List Kind
kinds ts = map (λ t. t.kind) ts
