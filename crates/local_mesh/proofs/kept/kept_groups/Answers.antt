use Rattle.std.proofs.Common.{◌≡◌, ◌∙◌, length, refl}
use Rattle.std.proofs.lemmas.List.{with_items_is}
use Rattle.local_mesh.proofs.Adding.{empty_long, empty_rows}
use Rattle.local_mesh.proofs.kept.kept_groups.Goals as goal

pub push_owned-requires : goal.push_owned-requires
push_owned-requires c =
    let own : length c.deref_mut.result.now ≡ c.args.ranks =
    empty_long c.deref_mut.result.now c.in_ok-own.own.items c.deref.result.now c.in_ok-counts.counts.items c.args.ranks
    c.deref_mut.ensures.value c.in_ok-own.ensures.length c.deref.ensures.value c.in_ok-counts.ensures in
    record {
      few = rw own c.requires.few;
      owners = λ x l. rw own (c.requires.owners x l);
      order = c.requires.order;
      none = λ r l. empty_rows c.deref_mut.result.now c.in_ok-own.own.items c.deref.result.now c.in_ok-counts.counts.items c.args.ranks
          c.deref_mut.ensures.value c.deref.ensures.value c.in_ok-counts.ensures c.in_ok-own.ensures.empty r (rw (← own) l);
    }

pub returns : goal.returns
returns c =
    let own : length c.deref_mut.result.now ≡ c.args.ranks =
    empty_long c.deref_mut.result.now c.in_ok-own.own.items c.deref.result.now c.in_ok-counts.counts.items c.args.ranks
    c.deref_mut.ensures.value c.in_ok-own.ensures.length c.deref.ensures.value c.in_ok-counts.ensures in
    let e = with_items_is c.in_ok-own.own c.push_owned.new.lists (c.push_owned.auto.lists ∙ c.deref_mut.ensures.len) in
    record {
      own_count = rw e (c.push_owned.auto.lists ∙ own);
      own = rw e (λ r l. c.in_ok-push_owned.ensures r (rw own l));
      exec_count = c.in_ok-exec.ensures.length;
      exec = c.in_ok-exec.ensures.same;
      nonexec_count = c.in_ok-nonexec.ensures.length;
      nonexec = c.in_ok-nonexec.ensures.same;
      copies = refl;
    }
