-- A head prints the state before the cut.
use Rattle.std.proofs.Common.{◌≤◌, ◌++◌, [], ◌∷◌, map, refl, ◌∙◌, arith}
use Rattle.std.specs.Prelude.{codes}
use Rattle.std.specs.Fmt.{decimal}
use Rattle.mesh_decl.specs.Mesh.{dat_count}
use Rattle.run_model.specs.Windows.{numbers}
use Rattle.checkpoint.specs.Cut.{state_at, var_values, says, says_vars, says_dat, says_state, head}
use Rattle.checkpoint.specs.StateText.{vars_text, dats_text, state_text}
use Rattle.checkpoint.specs.Laws.{HeadsPrintStates}
use Rattle.checkpoint.proofs.HeadRuns.{seq_same}
use Rattle.checkpoint.proofs.Long.{head_long, head_left}
use Rattle.checkpoint.proofs.Saying.{AllSay, say_both, all_said}
use Rattle.checkpoint.proofs.Printing.{text_plain, first_plain, last_plain}
use Rattle.checkpoint.proofs.StateSaid.{text_says, vars_say, dats_say}

pub heads_print_states : HeadsPrintStates
heads_print_states b k s o cut at =
    let c = head b k in
    let first = codes "\nop2state 1\nitem " ++ decimal k ++ codes "\n" in
    let vars = vars_text 0 (var_values s 0 b.vars) in
    let front : AllSay c s (says first ∷ says_vars 0 0 b.vars) (first ++ vars) = (
      first,
      vars,
      text_says c s first (text_plain first (first_plain k)),
      vars_say c s b.vars [] 0 0 refl,
      refl,
    ) in
    let dats = dats_text b.mesh 0 (state_at b k s).dats in
    let more : AllSay c s ((says first ∷ says_vars 0 0 b.vars) ++ map says_dat (numbers (dat_count b.mesh))) ((first ++ vars) ++ dats) =
    say_both c s (says first ∷ says_vars 0 0 b.vars) (map says_dat (numbers (dat_count b.mesh))) (first ++ vars) dats front (dats_say c s 0 (dat_count b.mesh)) in
    let end : AllSay c s (says (codes "done\n") ∷ []) (codes "done\n") =
    (codes "done\n", [], text_says c s (codes "done\n") (text_plain (codes "done\n") last_plain), refl, refl) in
    all_said c s (says_state b k) k o (state_text b (state_at b k s)) (head_long b k cut.within) (head_left b k cut.within)
    (say_both c s ((says first ∷ says_vars 0 0 b.vars) ++ map says_dat (numbers (dat_count b.mesh))) (says (codes "done\n") ∷ []) ((first ++ vars) ++ dats) (codes "done\n") more end)
    (seq_same b k k cut.within (let l : k ≤ k = omega arith in l) ∙ at)
