use Rattle.std.proofs.Common.{◌≡◌, ◌<◌, ◌^◌, length, map, ap, sym, subst, refl, arith, rules}
use Rattle.std.proofs.lemmas.List.{length-map}
use Rattle.bound_program.specs.Values.{item_of, var_of, bound_of}
use Rattle.bound_program.specs.Fits.{Fits}
use Rattle.checkpoint.specs.Cut.{CanCut}
use Rattle.checkpoint.specs.Cut as cut
use Rattle.checkpoint.proofs.ItemsMade.{head-made}
use Rattle.checkpoint.proofs.heads.head.Goals as goal

pub returns : goal.returns
returns c =
    let b = bound_of c.args.bound in
    let now : map item_of c.say_state.new.trace.items ≡ (cut.head b c.args.item).trace =
    head-made b c.args.item c.args.bound.trace.items c.truncate.new.self.items c.say_state.new.trace.items refl c.truncate.ensures.items
    (c.in_ok-say_state.ensures b refl (ap (map var_of) (sym c.deref.ensures.value))) in
    let is : record b { trace = map item_of c.say_state.new.trace.items } ≡ cut.head b c.args.item = ap (λ t. record b { trace = t }) now in
    let can : CanCut b c.args.item = search rules in
    let few : length c.say_state.new.trace.items < 2 ^ 32 = search rules in
    let small : length (cut.head b c.args.item).trace < 2 ^ 32 = omega (arith, ap length now, length-map c.say_state.new.trace.items item_of, few) in
    record {
      head = is;
      cut = can;
      no_cut = tt;
      fits = λ f. subst Fits (sym is) (c.heads_fit.ensures b c.args.item f can small);
    }
