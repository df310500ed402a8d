-- What proofs of other crates use of this one: laws of its definitions, and nothing of its code.

-- The view of a block is that of the vector in it.
pub use Rattle.c_tree.proofs.Blocks.{host_block, stmt_block}
-- What can not stand at one place together.
pub use Rattle.c_tree.proofs.lexer.Apart.{letter_bounds, blank_begins}
-- The forms of tokens: what they begin with, and that a spelling is that of one kind.
pub use Rattle.c_tree.proofs.lexer.Forms.{no_word, word_named, begins, not_empty, letter_digit, text_begins, Begins, BeginsSign}
pub use Rattle.c_tree.proofs.lexer.Forms.{name_begins, sign_begins_as}
-- The longest form at the front.
pub use Rattle.c_tree.proofs.lexer.Longest.{text_one}
