-- The meanings of a sink in memory.
use Rattle.std.specs.Prelude.{ℕ, List, Some}
use Rattle.pi_base.specs.Views.{SinkView}
use Rattle.pi_base.specs.declared.mem_sink.MemSink.{MemSink}

-- the bytes that it took
abbrev pub taken_of : MemSink → List ℕ
taken_of sink = sink.kept.items

-- what it shows: these bytes, and how many calls failed
abbrev pub view_of : MemSink → SinkView
view_of sink = record { bytes = Some (taken_of sink); faults = sink.faults }

-- for how many more bytes it has room
abbrev pub room_of : MemSink → ℕ
room_of sink = sink.room

-- the numbers of the calls that fail
abbrev pub fails_of : MemSink → List ℕ
fails_of sink = sink.plan.fails.items

-- how many calls were made
abbrev pub calls_of : MemSink → ℕ
calls_of sink = sink.plan.calls
