use Rattle.std.proofs.Common.{◌≡◌, ◌+◌, ◌-◌, ◌*◌, length, map}
use Rattle.c_tree.specs.View.{host_of}
use Rattle.c_reader.specs.Rows.{until, with_front}
use Rattle.c_reader.specs.Hosts.{host_at, is_closed}
use Rattle.c_reader.specs.Kinds.{kinds}
use Rattle.c_reader.proofs.hosts.+hosts.Given as goal

abbrev pub decreases-read_host : goal.decreases-read_host
decreases-read_host l = 5 * l.depth

abbrev pub decreases-read_led : goal.decreases-read_led
decreases-read_led l = 5 * l.depth + 3

abbrev pub decreases-read_if : goal.decreases-read_if
decreases-read_if l = 5 * l.depth + 2

abbrev pub decreases-read_block : goal.decreases-read_block
decreases-read_block l = 5 * l.depth + 2

abbrev pub decreases-read_for : goal.decreases-read_for
decreases-read_for l = 5 * l.depth + 2

abbrev pub decreases-read_body : goal.decreases-read_body
decreases-read_body l = 5 * l.depth + 1

abbrev pub decreases-read_hosts : goal.decreases-read_hosts
decreases-read_hosts l = 5 * l.depth + 1

-- The statements so far before those that are still to be read are all.
abbrev pub invariant-read_hosts-loop-count : goal.invariant-read_hosts-loop-count
invariant-read_hosts-loop-count l =
    until (is_closed (kinds l.tokens) l.closing) (host_at (kinds l.tokens) l.depth) (length l.tokens) l.at ≡ with_front
    (map host_of l.all.items) (until (is_closed (kinds l.tokens) l.closing) (host_at (kinds l.tokens) l.depth)
    (length l.tokens - l.count) l.next)
