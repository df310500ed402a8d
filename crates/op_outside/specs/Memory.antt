-- What the implementations over memory hold.
use Rattle.std.specs.Prelude.{ℕ, List, Option, option_map}
use Rattle.std.specs.BTreeMap.{get_by_text}
use Rattle.op_outside.specs.declared.memory.MemoryShelf.{MemoryShelf}
use Rattle.op_outside.specs.declared.memory.MemorySink.{MemorySink}
use Rattle.op_outside.specs.declared.script.Script.{Script}
use Rattle.op_outside.specs.declared.sure.SureShelf.{SureShelf}

-- the bytes that are held under a name
abbrev pub held : MemoryShelf → List ℕ → Option (List ℕ)
held shelf name = option_map (λ bytes. bytes.items) (get_by_text shelf.files name)

-- which calls of the shelf fail, and how many did
abbrev pub shelf_script : MemoryShelf → Script
shelf_script shelf = shelf.script

-- the bytes that are held under a name
abbrev pub sure_held : SureShelf → List ℕ → Option (List ℕ)
sure_held shelf name = option_map (λ bytes. bytes.items) (get_by_text shelf.files name)

-- the bytes written so far
abbrev pub taken : MemorySink → List ℕ
taken sink = sink.bytes.items

-- how many bytes more the sink has room for
abbrev pub room_left : MemorySink → ℕ
room_left sink = sink.room

-- which calls of the sink fail, and how many did
abbrev pub sink_script : MemorySink → Script
sink_script sink = sink.script
