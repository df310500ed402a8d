-- `clap` has at most one kind of fault to answer with: a command without subcommands gives no choice.
use Rattle.std.proofs.Common.{◌≡◌, ℕ, zero, suc, ◌+◌, ◌&&◌, ◌||◌, ◌==◌, Bool, true, false, not, if◌then◌else◌, nat_lt, min, length, drop, List, [], ◌∷◌, Option, Some, None, refl, sym, ap, subst, inl, inr}
use Rattle.std.specs.Prelude.{is_some, encode_utf8, slice_get}
use Rattle.std.specs.Option.{option_map_or}
use Rattle.std.specs.Str.{bytes_eq, chars}
use Rattle.clap.specs.Lexer.{long_of, short_of}
use Rattle.clap.specs.Matches.{count_text}
use Rattle.clap.specs.Values.{refused_kind}
use Rattle.clap.specs.ValueTests.{accepts}
use Rattle.clap.specs.Facts.{parser_of_value, unwrap_or_range}
use Rattle.clap.specs.Walk.{Held, Row, Rule, Step, Text, Waiting, Walk, action_of, arg_by_id, arg_by_index, arg_by_long, arg_by_short, attached_value, count_of, has_row, is_empty, is_pending, most_values, nothing_held, reacted, settled, subcommand_met, takes_several, takes_values, value, values_or_missing, walk, walk_from, walked, with_default, word_met}
use Rattle.clap.specs.Walk as step
use Rattle.clap.specs.Simple.{Shape, argument_words, built}
use Rattle.clap.specs.Kinds.{Kinds, IsAmong, check_kinds, or_else, range_kinds, request_kinds, value_kinds, values_kinds}
use Rattle.clap.specs.Faults
use Rattle.command_words.specs.Words.{command}
use Rattle.clap.specs.declared.builder.action.ArgAction.{ArgAction}
use Rattle.clap.specs.declared.builder.action.ArgAction.TheVariants as action
use Rattle.clap.specs.declared.builder.value_parser.ValueParser.{ValueParser}
use Rattle.clap.specs.declared.error.kind.ErrorKind.{ErrorKind}
use Rattle.clap.specs.declared.error.kind.ErrorKind.TheVariants as kind

-- at most one
abbrev Few : Kinds → Type 0
Few [] = Unit {0}
Few (k ∷ []) = Unit {0}
Few (k ∷ l ∷ ks) = ⊥

few_or : (a b : Kinds) → Few a → Few b → Few (or_else a b)
few_or [] b h k = k
few_or (x ∷ []) b h k = tt
few_or (x ∷ y ∷ a) b h k = absurd h

few_if : (b : Bool) (x y : Kinds) → Few x → Few y → Few (if b then x else y)
few_if true x y h k = h
few_if false x y h k = k

few_option : {A : Type 0} (f : A → Kinds) (o : Option A) (d : Kinds) → ((x : A) → Few (f x)) → Few d → Few (option_map_or f o d)
few_option f (Some x) d h k = h x
few_option f None d h k = k

-- ---- one use

few_value : (b : Bool) (p : ValueParser) (t : Text) → Few (value_kinds b p t)
few_value b p t = few_if (accepts b p t) [] (refused_kind p ∷ []) tt tt

few_values : (b : Bool) (p : ValueParser) (ts : List Text) → Few (values_kinds b p ts)
few_values b p [] = tt
few_values b p (t ∷ ts) = few_or (value_kinds b p t) (values_kinds b p ts) (few_value b p t) (few_values b p ts)

few_range : (least most n : ℕ) → Few (range_kinds least most n)
few_range least most n =
    few_if (nat_lt 0 least && n == 0) _ _ tt
    (few_if (least == most) _ _ (few_if (least == n) _ _ tt tt)
    (few_if (nat_lt n least) _ _ tt (few_if (nat_lt most n) _ _ tt tt)))

few_request : (a : ArgAction) → Few (request_kinds a)
few_request action.Help = tt
few_request action.HelpShort = tt
few_request action.HelpLong = tt
few_request action.Version = tt
few_request _ = tt

few_count : (a : Rule) (vs : List Text) (rows : List Row) → Few (Faults.count_fault a vs rows)
few_count a [] rows = few_value a.ignore_case (parser_of_value a.parser) (count_text (min (count_of a.id rows + 1) 255))
few_count a (v ∷ vs) rows = few_values a.ignore_case (parser_of_value a.parser) (v ∷ vs)

few_set : (again : Bool) (a : Rule) (vs : List Text) (rows : List Row) → Few (Faults.set_fault again a vs rows)
few_set again a vs rows =
    few_or (Faults.repeat_fault again a.id rows) (Faults.values_fault a vs)
    (few_if (has_row a.id rows && not again) _ _ tt tt)
    (few_values a.ignore_case (parser_of_value a.parser) vs)

few_action : (x : ArgAction) (again : Bool) (a : Rule) (vs : List Text) (rows : List Row) → Few (Faults.action_fault x again a vs rows)
few_action action.Set again a vs rows = few_set again a vs rows
few_action action.SetTrue again a vs rows = few_set again a vs rows
few_action action.SetFalse again a vs rows = few_set again a vs rows
few_action action.Append again a vs rows = few_values a.ignore_case (parser_of_value a.parser) vs
few_action action.Count again a vs rows = few_count a vs rows
few_action action.Help again a vs rows = tt
few_action action.HelpShort again a vs rows = tt
few_action action.HelpLong again a vs rows = tt
few_action action.Version again a vs rows = tt

few_use : (again : Bool) (a : Rule) (vs : List Text) (rows : List Row) → Few (Faults.use_fault again a vs rows)
few_use again a vs rows =
    few_or (range_kinds (unwrap_or_range a.range).start_inclusive (most_values a) (length vs)) (Faults.action_fault (action_of a) again a (values_or_missing a vs) rows)
    (few_range (unwrap_or_range a.range).start_inclusive (most_values a) (length vs))
    (few_action (action_of a) again a (values_or_missing a vs) rows)

-- ---- the walk

few_settle : (c : List Rule) (again : Bool) (h : Held) → Few (Faults.settle_fault c again h)
few_settle c again h = few_option _ h.pending [] (λ p. few_option _ (arg_by_id c p.0) [] (λ a. few_use again a p.1 h.rows) tt) tt

few_react : (c : List Rule) (again : Bool) (a : Rule) (vs : List Text) (h : Held) → Few (Faults.react_fault c again a vs h)
few_react c again a vs h = few_or (Faults.settle_fault c again h) (Faults.use_fault again a vs (settled c h).rows) (few_settle c again h) (few_use again a vs (settled c h).rows)

few_opt : (c : List Rule) (again : Bool) (a : Rule) (o : Option Text) (h : Held) → Few (Faults.option_fault c again a o h)
few_opt c again a (Some v) h = few_react c again a (v ∷ []) h
few_opt c again a None h = few_settle c again h

few_long : (c : List Rule) (again : Bool) (o : Option Rule) (v : Option Text) (h : Held) → Few (Faults.long_fault c again o v h)
few_long c again None v h = tt
few_long c again (Some a) v h = few_if (takes_values a) _ _ (few_opt c again a v h) (few_if (is_some v) _ _ tt (few_react c again a [] h))

few_short : (c : List Rule) (again : Bool) (o : Option Rule) (rest : Text) (h : Held) (next : Held → Kinds) → ((g : Held) → Few (next g)) → Few (Faults.short_fault c again o rest h next)
few_short c again None rest h next f = tt
few_short c again (Some a) rest h next f =
    few_if (takes_values a) _ _ (few_opt c again a (attached_value rest) h)
    (few_or (Faults.react_fault c again a [] h) (next (reacted c a [] h)) (few_react c again a [] h) (f (reacted c a [] h)))

few_bundle_step : (c : List Rule) (again : Bool) (o : Option ℕ) (flags : Text) (skip : ℕ) (h : Held) (next : Text → ℕ → Held → Kinds)
    → ((t : Text) (k : ℕ) (g : Held) → Few (next t k g)) → Few (Faults.bundle_step_fault c again o flags skip h next)
few_bundle_step c again None flags skip h next f = tt
few_bundle_step c again (Some x) flags zero h next f =
    few_short c again (arg_by_short c x) (drop (length (encode_utf8 x)) flags) h (next (drop (length (encode_utf8 x)) flags) 0) (f (drop (length (encode_utf8 x)) flags) 0)
few_bundle_step c again (Some x) flags (suc skip) h next f = f (drop (length (encode_utf8 x)) flags) skip h

few_flags : (c : List Rule) (again : Bool) (k : ℕ) (flags : Text) (skip : ℕ) (h : Held) → Few (Faults.flags_fault c again k flags skip h)
unfolding Faults.flags_fault
few_flags c again zero flags skip h = tt
few_flags c again (suc k) flags skip h = few_bundle_step c again (slice_get (chars flags) 0) flags skip h (Faults.flags_fault c again k) (few_flags c again k)

few_flag_word : (c : List Rule) (again : Bool) (o : Option (Text × Option Text)) (word : Text) (h : Held) → Few (Faults.flag_word_fault c again o word h)
few_flag_word c again (Some p) word h = few_long c again (arg_by_long c p.0) p.1 h
few_flag_word c again None word h = few_option _ (short_of word) [] (λ flags. few_flags c again (length flags) flags h.skip (record h { skip = 0 })) tt

few_other : (s : Shape) (word : Text) (h : Held) → Few (Faults.other_fault s None word h)
few_other s word h = few_if (bytes_eq word (45 ∷ 45 ∷ [])) _ _ tt (few_flag_word s.rules s.args_override_self (long_of word) word h)

few_word : (s : Shape) (is_trailing : Bool) (waiting : Waiting) (word : Text) (h : Held) → Few (Faults.word_fault s [] is_trailing waiting word h)
few_word s is_trailing waiting word h =
    few_if is_trailing _ _ tt (subst (λ o. Few (Faults.other_fault s o word h)) (sym (none waiting)) (few_other s word h))
  where
    none : (w : Waiting) → subcommand_met [] w word ≡ None
    none step.idle = refl
    none _ = refl

few_positional : (c : List Rule) (again : Bool) (a : Rule) (h : Held) → Few (Faults.positional_fault c again a h)
few_positional c again a h = few_if (is_pending a h.pending && takes_several a) _ _ tt (few_settle c again h)

module _ (s : Shape) (leaf : s.is_leaf ≡ true) where
  few_stray : Few (Faults.stray_fault s)
  few_stray = subst (λ b. Few (if b then kind.UnknownArgument ∷ [] else (kind.UnknownArgument ∷ kind.InvalidSubcommand ∷ []))) (sym leaf) tt

  few_step : (position : ℕ) (h : Held) (x : Step) → Few (Faults.step_fault s position h x)
  few_step position h value = few_option _ (arg_by_index s.rules position) (Faults.stray_fault s) (λ a. few_positional s.rules s.args_override_self a h) few_stray
  few_step position h _ = tt

  few_turn : (w : Walk) (word : Text) → Few (Faults.turn_fault s [] w word)
  few_turn w word =
      let met = word_met s.rules [] w.is_trailing w.waiting w.position word w.held in
      few_if (is_some w.stopped) _ _ tt
      (few_or (Faults.word_fault s [] w.is_trailing w.waiting word w.held) (Faults.step_fault s w.position met.0 met.1)
      (few_word s w.is_trailing w.waiting word w.held) (few_step w.position met.0 met.1))

  few_walk : (words : List Text) (w : Walk) → Few (Faults.walk_fault s [] w words)
  unfolding Faults.walk_fault
  few_walk [] w = tt
  few_walk (word ∷ rest) w =
      few_or (Faults.turn_fault s [] w word) (Faults.walk_fault s [] (walked s.rules [] w word) rest) (few_turn w word) (few_walk rest (walked s.rules [] w word))

-- ---- after the walk

few_given_default : (a : Rule) → Few (Faults.given_default_fault a a.defaults)
few_given_default a =
    few_or (request_kinds (action_of a)) (Faults.values_fault a a.defaults)
    (few_request (action_of a))
    (few_values a.ignore_case (parser_of_value a.parser) a.defaults)

few_defaults : (rows : List Row) (rules : List Rule) → Few (Faults.defaults_fault rows rules)
unfolding Faults.defaults_fault
few_defaults rows [] = tt
few_defaults rows (a ∷ rest) =
    few_or (Faults.default_fault rows a) (Faults.defaults_fault (with_default rows a) rest)
    (few_if (has_row a.id rows || is_empty a.defaults) _ _ tt (few_given_default a))
    (few_defaults (with_default rows a) rest)

few_checks : (a b c : Bool) → Few (check_kinds a b c)
few_checks a b c = few_if a _ _ tt (few_if b _ _ tt (few_if c _ _ tt tt))

few_level : (s : Shape) → s.is_leaf ≡ true → (h : Held) (words : List Text) (b : Bool) (below : Kinds) → Few below → Few (Faults.level_fault s [] h words b below)
few_level s leaf h words b below f =
    few_or (Faults.walk_fault s [] (walk_from h) words) _ (few_walk s leaf words (walk_from h))
    (few_or below _ f
    (few_or (Faults.settle_fault s.rules s.args_override_self end) _ (few_settle s.rules s.args_override_self end)
    (few_or (Faults.defaults_fault (settled s.rules end).rows s.rules) _ (few_defaults (settled s.rules end).rows s.rules)
    (few_checks _ _ _))))
  where
    end : Held
    end = (walk s.rules [] h words).held

few_entered : (stop : Option (Text × List Text)) → Few (Faults.entered_fault (built command) stop)
few_entered None = tt
few_entered (Some p) = tt

few_faults : (words : List Text) → Few (Faults.fault_of command words)
few_faults words = few_level (built command).top refl nothing_held (argument_words command words) _ _ (few_entered _)

pub one_fault : (words : List Text) (k : ErrorKind) → IsAmong k (Faults.fault_of command words) → Faults.fault_of command words ≡ k ∷ []
one_fault words k h = by_kinds (Faults.fault_of command words) (few_faults words) h
  where
    by_kinds : (ks : Kinds) → Few ks → IsAmong k ks → ks ≡ k ∷ []
    by_kinds [] f h = absurd h
    by_kinds (x ∷ []) f (inl e) = ap (λ y. y ∷ []) (sym e)
    by_kinds (x ∷ []) f (inr h) = absurd h
    by_kinds (x ∷ y ∷ ks) f h = absurd f
