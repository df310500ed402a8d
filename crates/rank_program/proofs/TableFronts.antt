-- Tables of a loop that runs in rows, as much of them as was put down.
use Rattle.std.proofs.Common.{◌≡◌, ◌<◌, ◌+◌, ℕ, List, length, get_or, Option, sym, ◌∙◌, subst, arith}
use Rattle.kernel_model.specs.declared.types.views.frame.Place.{Place}
use Rattle.bound_program.specs.declared.sites.Arg.{Arg}
use Rattle.kernel_runs.specs.declared.row_batches.rows.RowColumn.{RowColumn}
use Rattle.kernel_runs.specs.RowLoops.{no_column}
use Rattle.kernel_runs.specs.declared.row_batches.batch_tables.args.LocalArg.{LocalArg}
use Rattle.kernel_runs.specs.Tables.{place_at, no_pair, ArePairs, AreColumns}

pub columns_front : (args : List Arg) (locals : List (Option LocalArg)) (numbers : List ℕ) (table front : List RowColumn) (places : List Place) (n count : ℕ)
    → AreColumns args locals numbers table places n count → length front ≡ count → ((c : ℕ) → c < count → get_or front c no_column ≡ get_or table c no_column)
    → AreColumns args locals numbers front places n (length front)
columns_front args locals numbers table front places n count are long same =
    subst (AreColumns args locals numbers front places n) (sym long) (record {
      few = omega (arith, long);
      opened = λ a y lt o.
          let has = are.opened a y lt o in
          record {
            inside = has.inside;
            shared = has.shared;
            is_shared = has.is_shared;
            are = λ j lj. same ((place_at places a).from + j) (let inside = has.inside in omega (arith, inside, lj)) ∙ has.are j lj;
          };
      stands = are.stands;
      counts = are.counts;
      each = are.each;
    })

-- and the pairs
pub pairs_front : (args : List Arg) (numbers : List ℕ) (table front : List (ℕ × ℕ)) (n count : ℕ)
    → ArePairs args numbers table n 0 count → length front ≡ count → ((i : ℕ) → i < count → get_or front i no_pair ≡ get_or table i no_pair)
    → ArePairs args numbers front n 0 (length front)
pairs_front args numbers table front n count are long same =
    subst (ArePairs args numbers front n 0) (sym long) (record {
      few = omega (arith, long);
      whole = λ i lt. let p = are.whole i lt in (p.0, p.1, p.2, p.3, same i lt ∙ p.4);
      all = λ a b at lt meet. let f = are.all a b at lt meet in (f.0, f.1, same f.0 f.1 ∙ f.2);
    })
