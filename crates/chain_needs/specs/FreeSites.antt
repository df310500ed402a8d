-- The loop of an item, where it is Free.
use Rattle.std.specs.Prelude.{ℕ, Option, Some, None}
use Rattle.bound_program.specs.Values.{ItemValue, Free, Reduce, Ordered, Host}

-- the loop of an item that runs as a Free one
abbrev pub free_site_of : ItemValue → Option ℕ
free_site_of (Free s) = Some s
free_site_of (Reduce s) = None
free_site_of (Ordered s) = None
free_site_of (Host a) = None
