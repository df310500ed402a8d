-- Statements of `main` as lists, what they begin with, and what stands at level 65.
use Rattle.std.proofs.Common.{◌≡◌, ℕ, suc, ◌≤◌, Bool, true, false, List, [], ◌∷◌, ◌++◌, length, Option, Some, None, refl, ap, subst, arith, slice_get, append_assoc}
use Rattle.c_tree.specs.declared.lexer.tokens.Kind.{Kind}
use Rattle.c_tree.specs.declared.lexer.tokens.Kind.TheVariants as kind
use Rattle.c_tree.specs.declared.lexer.tokens.Sign.TheVariants as sg
use Rattle.c_tree.specs.declared.lexer.tokens.Word.TheVariants as wd
use Rattle.c_tree.specs.Tree.{PlaceTree, Scalar, Element, Target, AssignmentTree, OpCallTree, CallInit, DeclSet, DeclMap, DeclDat, DeclConst, ParLoop, Printf, PrintDat, HostTree, HostDeclaration, HostBlock, HostEmpty, HostAssign, HostIf, HostIfElse, HostFor, HostCall, HostTrees, NoHost, MoreHost}
use Rattle.c_tree.specs.Print.{Mark, sign_at as sign_mark, named_sign, word_if, expr, place, call, host, hosts}
use Rattle.c_tree.specs.Grouped.{IsHostBody, IsHost, AreHosts}
use Rattle.c_tree.specs.Reads.{first_deep}
use Rattle.c_reader.specs.declared.leads.HostLead.{HostLead}
use Rattle.c_reader.specs.declared.leads.HostLead.TheVariants as lead
use Rattle.c_reader.specs.Descent.{sign_is}
use Rattle.c_reader.specs.declared.leads.CallLead.{CallLead}
use Rattle.c_reader.specs.declared.hosts.Closing.{Closing}
use Rattle.c_reader.specs.declared.hosts.Closing.TheVariants as closing
use Rattle.c_reader.specs.Leads.{host_word_lead_of}
use Rattle.c_reader.specs.Rows.{word_is}
use Rattle.c_reader.specs.Hosts.{lead_in, host_trees, declares, is_closed}
use Rattle.c_reader.proofs.Spans.{Spans}
use Rattle.c_reader.proofs.Lists.{AllValid, joined}
use Rattle.c_reader.proofs.CallRows.{call_lead, call_begins}
use Rattle.c_reader.proofs.StmtHeads.{NoElse}
use Rattle.c_reader.proofs.StmtLists.{vars_deep, assignment_deep}
use Rattle.c_reader.proofs.Declared.{tail_of}

-- the statements of a block as a list
abbrev pub list_of : HostTrees → List HostTree
list_of NoHost = []
list_of (MoreHost s ss) = s ∷ list_of ss

pub trees_list : (ss : HostTrees) → host_trees (list_of ss) ≡ ss
trees_list NoHost = refl
trees_list (MoreHost s ss) = ap (λ z. MoreHost s z) (trees_list ss)

pub hosts_joined : (k : ℕ) (ss : HostTrees) → hosts k ss ≡ joined (host k) (list_of ss)
hosts_joined k NoHost = refl
hosts_joined k (MoreHost s ss) = ap (λ z. host k s ++ z) (hosts_joined k ss)

pub joined_hosts : (k : ℕ) (xs : List HostTree) → joined (host k) xs ≡ hosts k (host_trees xs)
joined_hosts k [] = refl
joined_hosts k (x ∷ xs) = ap (λ z. host k x ++ z) (joined_hosts k xs)

pub valid_list : (ss : HostTrees) → AreHosts ss → AllValid IsHost (list_of ss)
valid_list NoHost h = tt
valid_list (MoreHost s ss) h = (h.0, valid_list ss h.1)

pub list_valid : (xs : List HostTree) → AllValid IsHost xs → AreHosts (host_trees xs)
list_valid [] h = tt
list_valid (x ∷ xs) h = (h.0, list_valid xs h.1)

-- what a statement begins with
abbrev pub host_lead : HostTree → HostLead
host_lead (HostDeclaration v) = lead.Declaration
host_lead (HostBlock at ss) = lead.Block
host_lead (HostEmpty at) = lead.Empty
host_lead (HostAssign a) = lead.Assignment
host_lead (HostIf at e s) = lead.If
host_lead (HostIfElse at e s t) = lead.If
host_lead (HostFor c s) = lead.For
host_lead (HostCall c) = lead.Call (call_lead c)

pub record HostBegins (ks : List Kind) (n : ℕ) (s : HostTree) : Type 0 where
  pub no_close : (c : Closing) → is_closed ks c n ≡ false
  pub no_else : NoElse ks n
  pub no_int : IsHostBody s → declares (slice_get ks n) ≡ false
  pub lead : lead_in (slice_get ks n) ≡ host_lead s

pub not_closed : (ks : List Kind) (n : ℕ) → sign_is sg.RightBrace (slice_get ks n) ≡ false → word_is wd.OpExit (slice_get ks n) ≡ false → (c : Closing) → is_closed ks c n ≡ false
not_closed ks n a b closing.Brace = a
not_closed ks n a b closing.Exit = b

-- what a call's first token is not
pub record NotCalled (o : Option Kind) : Type 0 where
  brace : sign_is sg.RightBrace o ≡ false
  exit : word_is wd.OpExit o ≡ false
  other : word_is wd.Else o ≡ false
  int : declares o ≡ false

pub called_word : (w : _) (l : CallLead) → host_word_lead_of w ≡ lead.Call l → NotCalled (Some (kind.Word w))
called_word wd.Else l h = cc
called_word wd.OpExit l h = cc
called_word wd.Int l h = cc
called_word wd.Const l h = cc
called_word _ l h = record { brace = refl; exit = refl; other = refl; int = refl }

pub called : (o : Option Kind) (l : CallLead) → lead_in o ≡ lead.Call l → NotCalled o
called None l h = cc
called (Some (kind.Word w)) l h = called_word w l h
called (Some (kind.Name z)) l h = cc
called (Some (kind.Number z)) l h = cc
called (Some (kind.Text z)) l h = cc
called (Some (kind.Sign sg.LeftBrace)) l h = cc
called (Some (kind.Sign sg.Semicolon)) l h = cc
called (Some (kind.Sign sg.Star)) l h = cc
called (Some (kind.Sign _)) l h = cc

pub assign_begins : (ks : List Kind) (k n e : ℕ) (a : AssignmentTree) (x : PlaceTree) (more : List Mark) → Spans ks n (place k x ++ more) e → HostBegins ks n (HostAssign a)
assign_begins ks k n e a (Scalar x) more s = (record { no_close = not_closed ks n (rw s.0 refl) (rw s.0 refl); no_else = rw s.0 refl; no_int = λ b. rw s.0 refl; lead = rw s.0 refl })
assign_begins ks k n e a (Element x i) more s = record { no_close = not_closed ks n (rw s.0 refl) (rw s.0 refl); no_else = rw s.0 refl; no_int = λ b. rw s.0 refl; lead = rw s.0 refl }
assign_begins ks k n e a (Target at x) more s = record { no_close = not_closed ks n (rw s.0 refl) (rw s.0 refl); no_else = rw s.0 refl; no_int = λ b. rw s.0 refl; lead = rw s.0 refl }

pub host_begins : (ks : List Kind) (k n e : ℕ) (s : HostTree) (more : List Mark) → IsHost s → Spans ks n (host k s ++ more) e → HostBegins ks n s
host_begins ks k n e (HostDeclaration v) more o s = by_const v.is_const s
  where
    by_const : (c : Bool) → Spans ks n ((word_if c k wd.Const ++ tail_of k v) ++ more) e → HostBegins ks n (HostDeclaration v)
    by_const true s = record { no_close = not_closed ks n (rw s.0 refl) (rw s.0 refl); no_else = rw s.0 refl; no_int = λ b. absurd b; lead = rw s.0 refl }
    by_const false s = record { no_close = not_closed ks n (rw s.0 refl) (rw s.0 refl); no_else = rw s.0 refl; no_int = λ b. absurd b; lead = rw s.0 refl }
host_begins ks k n e (HostBlock at ss) more o s = record { no_close = not_closed ks n (rw s.0 refl) (rw s.0 refl); no_else = rw s.0 refl; no_int = λ b. rw s.0 refl; lead = rw s.0 refl }
host_begins ks k n e (HostEmpty at) more o s = record { no_close = not_closed ks n (rw s.0 refl) (rw s.0 refl); no_else = rw s.0 refl; no_int = λ b. rw s.0 refl; lead = rw s.0 refl }
host_begins ks k n e (HostAssign a) more o s =
    let rest = named_sign k (Rattle.c_tree.specs.Signs.assign_sign_of a.op) a.at ∷ (expr (suc k) a.value ++ sign_mark k sg.Semicolon ∷ []) in
    assign_begins ks k n e a a.place (rest ++ more) (subst (λ z. Spans ks n z e) (append_assoc (place k a.place) rest more) s)
host_begins ks k n e (HostIf at x t) more o s = record { no_close = not_closed ks n (rw s.0 refl) (rw s.0 refl); no_else = rw s.0 refl; no_int = λ b. rw s.0 refl; lead = rw s.0 refl }
host_begins ks k n e (HostIfElse at x t u) more o s = record { no_close = not_closed ks n (rw s.0 refl) (rw s.0 refl); no_else = rw s.0 refl; no_int = λ b. rw s.0 refl; lead = rw s.0 refl }
host_begins ks k n e (HostFor c t) more o s = record { no_close = not_closed ks n (rw s.0 refl) (rw s.0 refl); no_else = rw s.0 refl; no_int = λ b. rw s.0 refl; lead = rw s.0 refl }
host_begins ks k n e (HostCall c) more o s =
    let l = call_begins ks k c n e more s in
    let r = called (slice_get ks n) (call_lead c) l in
    record { no_close = not_closed ks n r.brace r.exit; no_else = r.other; no_int = λ b. r.int; lead = l }

-- at level 65 the first token is too deep
pub call_deep : (n : ℕ) (c : OpCallTree) → first_deep n (call 65 c) ≡ Some n
call_deep n (CallInit at x) = refl
call_deep n (DeclSet at x v t) = refl
call_deep n (DeclMap at x a b m v t) = refl
call_deep n (DeclDat at x a m u v t) = refl
call_deep n (DeclConst at m t g) = refl
call_deep n (ParLoop at x t a xs) = refl
call_deep n (Printf at t es) = refl
call_deep n (PrintDat at x t) = refl

pub call_some : (k : ℕ) (c : OpCallTree) → 1 ≤ length (call k c)
call_some k (CallInit at x) = omega arith
call_some k (DeclSet at x v t) = omega arith
call_some k (DeclMap at x a b m v t) = omega arith
call_some k (DeclDat at x a m u v t) = omega arith
call_some k (DeclConst at m t g) = omega arith
call_some k (ParLoop at x t a xs) = omega arith
call_some k (Printf at t es) = omega arith
call_some k (PrintDat at x t) = omega arith

pub host_deep : (n : ℕ) (s : HostTree) → first_deep n (host 65 s) ≡ Some n
host_deep n (HostDeclaration v) = vars_deep n v
host_deep n (HostBlock at ss) = refl
host_deep n (HostEmpty at) = refl
host_deep n (HostAssign a) = assignment_deep n a
host_deep n (HostIf at x t) = refl
host_deep n (HostIfElse at x t u) = refl
host_deep n (HostFor c t) = refl
host_deep n (HostCall c) = call_deep n c
