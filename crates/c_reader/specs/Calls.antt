-- What the readers of calls answer, with d levels left for their expressions.
use Rattle.std.specs.Prelude.{ℕ, List, length}
use Rattle.c_tree.specs.declared.lexer.tokens.Kind.{Kind}
use Rattle.c_tree.specs.declared.lexer.tokens.Sign.TheVariants as s
use Rattle.c_tree.specs.declared.lexer.tokens.Word.TheVariants as w
use Rattle.c_tree.specs.declared.expressions.Ident.{Ident}
use Rattle.c_tree.specs.declared.expressions.NumberLiteral.{NumberLiteral}
use Rattle.c_tree.specs.declared.expressions.TextLiteral.{TextLiteral}
use Rattle.c_tree.specs.declared.hosts.GlobalName.{GlobalName}
use Rattle.c_tree.specs.declared.hosts.LoopArg.{LoopArg}
use Rattle.c_tree.specs.Tree.{ExprTree, OpCallTree, CallInit, DeclSet, DeclMap, DeclDat, DeclConst, ParLoop, Printf, PrintDat}
use Rattle.c_reader.specs.declared.leads.CallLead.{CallLead}
use Rattle.c_reader.specs.declared.leads.CallLead.TheVariants as lead
use Rattle.c_reader.specs.Descent.{read}
use Rattle.c_reader.specs.Rows.{Reader, both, made, sign, word, marked, ident, number, text, behind_commas}
use Rattle.c_reader.specs.Arguments.{global_at, args_at}

-- `)` and `;`
abbrev pub close : List Kind → Reader (Unit {0} × Unit {0})
close ks = both (sign ks s.RightParen) (sign ks s.Semicolon)

-- the tokens of `op_init(argc, argv, level);`
abbrev pub init_row : List Kind
    → Reader (ℕ × (Unit {0} × (Unit {0} × (Unit {0} × (Unit {0} × (Unit {0} × (NumberLiteral × (Unit {0} × Unit {0}))))))))
init_row ks =
    both (marked ks w.OpInit)
    (both (sign ks s.LeftParen)
    (both (word ks w.Argc) (both (sign ks s.Comma) (both (word ks w.Argv) (both (sign ks s.Comma) (both (number ks) (close ks)))))))

-- the tokens of `op_set name = op_decl_set(size, "label");`
abbrev pub decl_set_row : List Kind → ℕ
    → Reader (Unit {0} × (Ident × (Unit {0} × (ℕ × (Unit {0} × (ExprTree × (Unit {0} × (TextLiteral × (Unit {0} × Unit {0})))))))))
decl_set_row ks d =
    both (word ks w.OpSet)
    (both (ident ks) (both (sign ks s.Assign)
    (both (marked ks w.OpDeclSet)
    (both (sign ks s.LeftParen) (both (read ks d 0) (both (sign ks s.Comma) (both (text ks) (close ks))))))))

-- the tokens of `op_map name = op_decl_map(from, to, dim, entries, "label");`
abbrev pub decl_map_row : List Kind
    → Reader (Unit {0} × (Ident
    × (Unit {0} × (ℕ × (Unit {0}
    × (Ident × (Unit {0} × (Ident
    × (Unit {0} × (NumberLiteral × (Unit {0} × (Ident × (Unit {0} × (TextLiteral × (Unit {0} × Unit {0})))))))))))))))
decl_map_row ks =
    both (word ks w.OpMap)
    (both (ident ks) (both (sign ks s.Assign)
    (both (marked ks w.OpDeclMap)
    (both (sign ks s.LeftParen)
    (both (ident ks) (both (sign ks s.Comma)
    (both (ident ks) (both (sign ks s.Comma)
    (both (number ks) (both (sign ks s.Comma) (both (ident ks) (both (sign ks s.Comma) (both (text ks) (close ks))))))))))))))

-- the tokens of `op_dat name = op_decl_dat(set, dim, "type", values, "label");`
abbrev pub decl_dat_row : List Kind
    → Reader (Unit {0} × (Ident
    × (Unit {0} × (ℕ × (Unit {0}
    × (Ident × (Unit {0} × (NumberLiteral
    × (Unit {0} × (TextLiteral × (Unit {0} × (Ident × (Unit {0} × (TextLiteral × (Unit {0} × Unit {0})))))))))))))))
decl_dat_row ks =
    both (word ks w.OpDat)
    (both (ident ks) (both (sign ks s.Assign)
    (both (marked ks w.OpDeclDat)
    (both (sign ks s.LeftParen)
    (both (ident ks) (both (sign ks s.Comma)
    (both (number ks) (both (sign ks s.Comma)
    (both (text ks) (both (sign ks s.Comma) (both (ident ks) (both (sign ks s.Comma) (both (text ks) (close ks))))))))))))))

-- the tokens of `op_decl_const(dim, "type", variable);`
abbrev pub decl_const_row : List Kind
    → Reader (ℕ × (Unit {0} × (NumberLiteral × (Unit {0} × (TextLiteral × (Unit {0} × (GlobalName × (Unit {0} × Unit {0}))))))))
decl_const_row ks =
    both (marked ks w.OpDeclConst)
    (both (sign ks s.LeftParen)
    (both (number ks) (both (sign ks s.Comma) (both (text ks) (both (sign ks s.Comma) (both (global_at ks) (close ks)))))))

-- the tokens of `op_par_loop(kernel, "label", set, arguments ..);`
abbrev pub par_loop_row : List Kind
    → Reader (ℕ × (Unit {0} × (Ident × (Unit {0} × (TextLiteral × (Unit {0} × (Ident × (List LoopArg × (Unit {0} × Unit {0})))))))))
par_loop_row ks =
    both (marked ks w.OpParLoop)
    (both (sign ks s.LeftParen)
    (both (ident ks) (both (sign ks s.Comma)
    (both (text ks) (both (sign ks s.Comma) (both (ident ks) (both (args_at ks) (close ks))))))))

-- the values of a printed line
abbrev pub values_at : List Kind → ℕ → Reader (List ExprTree)
values_at ks d n = behind_commas ks (read ks d 0) (length ks) n

-- the tokens of `op_printf("text", values ..);`
abbrev pub printf_row : List Kind → ℕ → Reader (ℕ × (Unit {0} × (TextLiteral × (List ExprTree × (Unit {0} × Unit {0})))))
printf_row ks d =
    both (marked ks w.OpPrintf) (both (sign ks s.LeftParen) (both (text ks) (both (values_at ks d) (close ks))))

-- the tokens of `op_print_dat_to_txtfile(dat, "file");`
abbrev pub print_dat_row : List Kind → Reader (ℕ × (Unit {0} × (Ident × (Unit {0} × (TextLiteral × (Unit {0} × Unit {0}))))))
print_dat_row ks =
    both (marked ks w.OpPrintDatToTxtfile)
    (both (sign ks s.LeftParen) (both (ident ks) (both (sign ks s.Comma) (both (text ks) (close ks)))))

-- a call of the OP2 library, by the call that its first word begins
abbrev pub call_at : List Kind → ℕ → CallLead → Reader OpCallTree
call_at ks d lead.Init = made (λ v. CallInit v.0 v.1.1.1.1.1.1.0) (init_row ks)
call_at ks d lead.DeclSet = made (λ v. DeclSet v.1.1.1.0 v.1.0 v.1.1.1.1.1.0 v.1.1.1.1.1.1.1.0) (decl_set_row ks d)
call_at ks d lead.DeclMap =
    made
    (λ v. DeclMap v.1.1.1.0 v.1.0 v.1.1.1.1.1.0 v.1.1.1.1.1.1.1.0 v.1.1.1.1.1.1.1.1.1.0
    v.1.1.1.1.1.1.1.1.1.1.1.0 v.1.1.1.1.1.1.1.1.1.1.1.1.1.0)
    (decl_map_row ks)
call_at ks d lead.DeclDat =
    made
    (λ v. DeclDat v.1.1.1.0 v.1.0 v.1.1.1.1.1.0 v.1.1.1.1.1.1.1.0 v.1.1.1.1.1.1.1.1.1.0
    v.1.1.1.1.1.1.1.1.1.1.1.0 v.1.1.1.1.1.1.1.1.1.1.1.1.1.0)
    (decl_dat_row ks)
call_at ks d lead.DeclConst = made (λ v. DeclConst v.0 v.1.1.0 v.1.1.1.1.0 v.1.1.1.1.1.1.0) (decl_const_row ks)
call_at ks d lead.ParLoop =
    made (λ v. ParLoop v.0 v.1.1.0 v.1.1.1.1.0 v.1.1.1.1.1.1.0 v.1.1.1.1.1.1.1.0) (par_loop_row ks)
call_at ks d lead.Printf = made (λ v. Printf v.0 v.1.1.0 v.1.1.1.0) (printf_row ks d)
call_at ks d lead.PrintDat = made (λ v. PrintDat v.0 v.1.1.0 v.1.1.1.1.0) (print_dat_row ks)
