use Rattle.std.proofs.Common.{◌≡◌, drop}
use Rattle.c_tree.specs.View.{hosts_of}
use Rattle.main_declarations.specs.KnownSets.{SetsKnown}
use Rattle.loop_bind.specs.Text.{judged_hosts}
use Rattle.main_declarations.specs.Walks.{declared_of, walked}
use Rattle.loop_bind.proofs.main_text.text_walk.+judged_hosts.Given as goal

-- What the statements so far came to, and the rest, come to what all do; and names of sets stand for those of the mesh.
abbrev pub invariant-judged_hosts-loop-host : goal.invariant-judged_hosts-loop-host
invariant-judged_hosts-loop-host l = record {
  judged : judged_hosts l.source.places.now l.source.consts.now l.source.entries.now.entries (walked l.k l.steps.items) l.spot
      (hosts_of (drop l.host-index l.all)) ≡ judged_hosts l.source.places.now l.source.consts.now l.source.entries.now.entries
      (walked l.initial.k l.initial.steps.items) l.spot (hosts_of l.all);
  sets : SetsKnown (declared_of l.k);
}
