-- Statements of kernels as lists, what they begin with, and what stands at level 65.
use Rattle.std.proofs.Common.{◌≡◌, ℕ, suc, Bool, true, false, List, [], ◌∷◌, ◌++◌, Some, refl, ap, subst, slice_get, append_assoc}
use Rattle.c_tree.specs.declared.lexer.tokens.Kind.{Kind}
use Rattle.c_tree.specs.declared.lexer.tokens.Sign.TheVariants as sg
use Rattle.c_tree.specs.declared.lexer.tokens.Word.TheVariants as wd
use Rattle.c_tree.specs.Tree.{DeclarationTree, PlaceTree, Scalar, Element, Target, AssignmentTree, StmtTree, LocalDeclaration, Block, Empty, Assign, If, IfElse, For, StmtTrees, NoStmt, MoreStmt}
use Rattle.c_tree.specs.Print.{Mark, sign_at as sign_mark, named_sign, word_if, expr, place, vars, assignment, stmt, stmts}
use Rattle.c_tree.specs.Grouped.{IsBody, IsStmt, AreStmts}
use Rattle.c_tree.specs.Reads.{first_deep}
use Rattle.c_reader.specs.declared.leads.StmtLead.{StmtLead}
use Rattle.c_reader.specs.declared.leads.StmtLead.TheVariants as lead
use Rattle.c_reader.specs.Descent.{sign_is}
use Rattle.c_reader.specs.Rows.{word_is}
use Rattle.c_reader.specs.Statements.{lead_in, stmt_trees}
use Rattle.c_reader.proofs.Spans.{Spans}
use Rattle.c_reader.proofs.Lists.{AllValid, joined}
use Rattle.c_reader.proofs.Declared.{tail_of}
use Rattle.c_reader.proofs.StmtHeads.{NoElse}

-- the statements of a block as a list
abbrev pub list_of : StmtTrees → List StmtTree
list_of NoStmt = []
list_of (MoreStmt s ss) = s ∷ list_of ss

pub trees_list : (ss : StmtTrees) → stmt_trees (list_of ss) ≡ ss
trees_list NoStmt = refl
trees_list (MoreStmt s ss) = ap (λ z. MoreStmt s z) (trees_list ss)

pub stmts_joined : (k : ℕ) (ss : StmtTrees) → stmts k ss ≡ joined (stmt k) (list_of ss)
stmts_joined k NoStmt = refl
stmts_joined k (MoreStmt s ss) = ap (λ z. stmt k s ++ z) (stmts_joined k ss)

pub joined_stmts : (k : ℕ) (xs : List StmtTree) → joined (stmt k) xs ≡ stmts k (stmt_trees xs)
joined_stmts k [] = refl
joined_stmts k (x ∷ xs) = ap (λ z. stmt k x ++ z) (joined_stmts k xs)

pub valid_list : (ss : StmtTrees) → AreStmts ss → AllValid IsStmt (list_of ss)
valid_list NoStmt h = tt
valid_list (MoreStmt s ss) h = (h.0, valid_list ss h.1)

pub list_valid : (xs : List StmtTree) → AllValid IsStmt xs → AreStmts (stmt_trees xs)
list_valid [] h = tt
list_valid (x ∷ xs) h = (h.0, list_valid xs h.1)

-- what a statement begins with
abbrev pub stmt_lead : StmtTree → StmtLead
stmt_lead (LocalDeclaration v) = lead.Declaration
stmt_lead (Block at ss) = lead.Block
stmt_lead (Empty at) = lead.Empty
stmt_lead (Assign a) = lead.Assignment
stmt_lead (If at e s) = lead.If
stmt_lead (IfElse at e s t) = lead.If
stmt_lead (For c s) = lead.For

pub record StmtBegins (ks : List Kind) (n : ℕ) (s : StmtTree) : Type 0 where
  pub no_brace : sign_is sg.RightBrace (slice_get ks n) ≡ false
  pub no_else : NoElse ks n
  pub no_int : IsBody s → word_is wd.Int (slice_get ks n) ≡ false
  pub lead : lead_in (slice_get ks n) ≡ stmt_lead s

pub assign_begins : (ks : List Kind) (k n e : ℕ) (a : AssignmentTree) (x : PlaceTree) (more : List Mark) → Spans ks n (place k x ++ more) e → StmtBegins ks n (Assign a)
assign_begins ks k n e a (Scalar x) more s = (record { no_brace = rw s.0 refl; no_else = rw s.0 refl; no_int = λ b. rw s.0 refl; lead = rw s.0 refl })
assign_begins ks k n e a (Element x i) more s = record { no_brace = rw s.0 refl; no_else = rw s.0 refl; no_int = λ b. rw s.0 refl; lead = rw s.0 refl }
assign_begins ks k n e a (Target at x) more s = record { no_brace = rw s.0 refl; no_else = rw s.0 refl; no_int = λ b. rw s.0 refl; lead = rw s.0 refl }

pub stmt_begins : (ks : List Kind) (k n e : ℕ) (s : StmtTree) (more : List Mark) → IsStmt s → Spans ks n (stmt k s ++ more) e → StmtBegins ks n s
stmt_begins ks k n e (LocalDeclaration v) more o s =
    let s' : Spans ks n ((word_if false k wd.Const ++ tail_of k v) ++ more) e = subst (λ z. Spans ks n ((word_if z k wd.Const ++ tail_of k v) ++ more) e) o.0 s in
    record { no_brace = rw s'.0 refl; no_else = rw s'.0 refl; no_int = λ b. absurd b; lead = rw s'.0 refl }
stmt_begins ks k n e (Block at ss) more o s = record { no_brace = rw s.0 refl; no_else = rw s.0 refl; no_int = λ b. rw s.0 refl; lead = rw s.0 refl }
stmt_begins ks k n e (Empty at) more o s = record { no_brace = rw s.0 refl; no_else = rw s.0 refl; no_int = λ b. rw s.0 refl; lead = rw s.0 refl }
stmt_begins ks k n e (Assign a) more o s =
    let rest = named_sign k (Rattle.c_tree.specs.Signs.assign_sign_of a.op) a.at ∷ (expr (suc k) a.value ++ sign_mark k sg.Semicolon ∷ []) in
    assign_begins ks k n e a a.place (rest ++ more) (subst (λ z. Spans ks n z e) (append_assoc (place k a.place) rest more) s)
stmt_begins ks k n e (If at x t) more o s = record { no_brace = rw s.0 refl; no_else = rw s.0 refl; no_int = λ b. rw s.0 refl; lead = rw s.0 refl }
stmt_begins ks k n e (IfElse at x t u) more o s = record { no_brace = rw s.0 refl; no_else = rw s.0 refl; no_int = λ b. rw s.0 refl; lead = rw s.0 refl }
stmt_begins ks k n e (For c t) more o s = record { no_brace = rw s.0 refl; no_else = rw s.0 refl; no_int = λ b. rw s.0 refl; lead = rw s.0 refl }

-- at level 65 the first token is too deep
pub place_deep : (n : ℕ) (x : PlaceTree) (more : List Mark) → first_deep n (place 65 x ++ more) ≡ Some n
place_deep n (Scalar x) more = refl
place_deep n (Element x i) more = refl
place_deep n (Target at x) more = refl

pub vars_deep : (n : ℕ) (v : DeclarationTree) → first_deep n (vars 65 v) ≡ Some n
vars_deep n v = by_const v.is_const
  where
    by_const : (c : Bool) → first_deep n (word_if c 65 wd.Const ++ tail_of 65 v) ≡ Some n
    by_const true = refl
    by_const false = refl

pub assignment_deep : (n : ℕ) (a : AssignmentTree) → first_deep n (assignment 65 a) ≡ Some n
assignment_deep n a = place_deep n a.place _

pub stmt_deep : (n : ℕ) (s : StmtTree) → first_deep n (stmt 65 s) ≡ Some n
stmt_deep n (LocalDeclaration v) = vars_deep n v
stmt_deep n (Block at ss) = refl
stmt_deep n (Empty at) = refl
stmt_deep n (Assign a) = assignment_deep n a
stmt_deep n (If at x t) = refl
stmt_deep n (IfElse at x t u) = refl
stmt_deep n (For c t) = refl
