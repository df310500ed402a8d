-- What the readers of a loop's arguments answer.
use Rattle.std.specs.Prelude.{ℕ, suc, true, false, List, Option, Some, None, Ok, Err, slice_get, length, if◌then◌else◌}
use Rattle.c_tree.specs.declared.lexer.tokens.Kind.{Kind}
use Rattle.c_tree.specs.declared.lexer.tokens.Kind.TheVariants as kind
use Rattle.c_tree.specs.declared.lexer.tokens.Sign.TheVariants as s
use Rattle.c_tree.specs.declared.lexer.tokens.Word.TheVariants as w
use Rattle.c_tree.specs.declared.expressions.Ident.{Ident}
use Rattle.c_tree.specs.declared.expressions.NumberLiteral.{NumberLiteral}
use Rattle.c_tree.specs.declared.expressions.TextLiteral.{TextLiteral}
use Rattle.c_tree.specs.declared.hosts.GlobalName.{GlobalName}
use Rattle.c_tree.specs.declared.hosts.AccessWord.{AccessWord}
use Rattle.c_tree.specs.declared.hosts.ArgIndex.{ArgIndex}
use Rattle.c_tree.specs.declared.hosts.ArgVia.{ArgVia}
use Rattle.c_tree.specs.declared.hosts.ArgVia.TheVariants as via
use Rattle.c_tree.specs.declared.hosts.LoopArg.{LoopArg}
use Rattle.c_tree.specs.declared.hosts.LoopArg.TheVariants as arg
use Rattle.c_reader.specs.declared.faults.Fault.TheVariants.{Syntax}
use Rattle.c_reader.specs.Descent.{◌>>=◌, sign_is}
use Rattle.c_reader.specs.Leads.{access_of}
use Rattle.c_reader.specs.Rows.{Reader, both, made, word_is, sign, marked, ident, number, text, behind_commas}

-- a global: a name, behind `&` or not
unfoldable pub global_at : List Kind → Reader GlobalName
global_at ks n =
    if sign_is s.And (slice_get ks n)
    then (ident ks (suc n) >>= λ x. Ok (
      record {
        ampersand = Some n;
        name = x.0;
      },
      x.1,
    ))
    else (ident ks n >>= λ x. Ok (record { ampersand = None; name = x.0 }, x.1))

-- the index of an argument: a number, behind `-` or not
unfoldable pub index_at : List Kind → Reader ArgIndex
index_at ks n =
    if sign_is s.Minus (slice_get ks n)
    then (number ks (suc n) >>= λ v. Ok (
      record {
        is_negative = true;
        at = n;
        value = v.0.value;
      },
      v.1,
    ))
    else (number ks n >>= λ v. Ok (record { is_negative = false; at = n; value = v.0.value }, v.1))

-- what the index goes through: `OP_ID` or a map's name
unfoldable pub via_at : List Kind → Reader ArgVia
via_at ks n =
    if word_is w.OpId (slice_get ks n) then Ok (via.Identity n, suc n) else (ident ks n >>= λ x. Ok (via.Map x.0, x.1))

-- the access, where there is one
abbrev pub access_or : Option AccessWord → Reader AccessWord
access_or None n = Err (Syntax n)
access_or (Some a) n = Ok (a, suc n)

-- the access that a token names
abbrev pub access_in : Option Kind → Reader AccessWord
access_in (Some (kind.Word v)) n = access_or (access_of v) n
access_in _ n = Err (Syntax n)

-- the word of an access
unfoldable pub access_at : List Kind → Reader AccessWord
access_at ks n = access_in (slice_get ks n) n

-- the word of an access, and its number
abbrev pub placed_access : List Kind → Reader (AccessWord × ℕ)
placed_access ks n = access_at ks n >>= λ a. Ok ((a.0, n), a.1)

-- the tokens of `op_arg_dat(dat, index, via, dim, "type", access)`, one after another
abbrev pub dat_row : List Kind
    → Reader (ℕ × (Unit {0}
    × (Ident × (Unit {0} × (ArgIndex
    × (Unit {0} × (ArgVia × (Unit {0} × (NumberLiteral × (Unit {0} × (TextLiteral × (Unit {0} × ((AccessWord × ℕ) × Unit {0})))))))))))))
dat_row ks =
    both (marked ks w.OpArgDat)
    (both (sign ks s.LeftParen)
    (both (ident ks) (both (sign ks s.Comma)
    (both (index_at ks) (both (sign ks s.Comma)
    (both (via_at ks) (both (sign ks s.Comma)
    (both (number ks) (both (sign ks s.Comma)
    (both (text ks) (both (sign ks s.Comma) (both (placed_access ks) (sign ks s.RightParen)))))))))))))

-- an argument that is a dat
abbrev pub dat_arg : List Kind → Reader LoopArg
dat_arg ks =
    made
    (λ v. arg.Dat v.0 v.1.1.0 v.1.1.1.1.0 v.1.1.1.1.1.1.0 v.1.1.1.1.1.1.1.1.0 v.1.1.1.1.1.1.1.1.1.1.0
    v.1.1.1.1.1.1.1.1.1.1.1.1.0.0 v.1.1.1.1.1.1.1.1.1.1.1.1.0.1)
    (dat_row ks)

-- the tokens of `op_arg_gbl(global, dim, "type", access)`, one after another
abbrev pub global_row : List Kind
    → Reader (ℕ × (Unit {0}
    × (GlobalName × (Unit {0} × (NumberLiteral × (Unit {0} × (TextLiteral × (Unit {0} × ((AccessWord × ℕ) × Unit {0})))))))))
global_row ks =
    both (marked ks w.OpArgGbl)
    (both (sign ks s.LeftParen)
    (both (global_at ks) (both (sign ks s.Comma)
    (both (number ks) (both (sign ks s.Comma)
    (both (text ks) (both (sign ks s.Comma) (both (placed_access ks) (sign ks s.RightParen)))))))))

-- an argument that is a global
abbrev pub global_arg : List Kind → Reader LoopArg
global_arg ks =
    made (λ v. arg.Global v.0 v.1.1.0 v.1.1.1.1.0 v.1.1.1.1.1.1.0 v.1.1.1.1.1.1.1.1.0.0 v.1.1.1.1.1.1.1.1.0.1) (global_row ks)

-- an argument, whose first word says whether it is a dat or a global
unfoldable pub arg_at : List Kind → Reader LoopArg
arg_at ks n = if word_is w.OpArgGbl (slice_get ks n) then global_arg ks n else dat_arg ks n

-- the arguments of a loop, each behind a comma
abbrev pub args_at : List Kind → Reader (List LoopArg)
args_at ks n = behind_commas ks (arg_at ks) (length ks) n
