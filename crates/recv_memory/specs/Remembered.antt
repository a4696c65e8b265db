-- A sequence number remembered: request 1, "each channel remembers the highest sequence number it made ready by kind 1".
use Rattle.std.specs.Prelude.{ℕ, ◌+◌, List, set}
use Rattle.base.specs.If.{if_lt}
use Rattle.base.specs.Limits.{numbers24, max_ord_chans}
use Rattle.receiver.specs.declared.Nexts.{Nexts}
use Rattle.receiver.specs.Parts.{with_newest}
use Rattle.recv_parts.specs.Parts.{memory_place}
use Rattle.recv_memory.specs.declared.Memory.{Memory}
use Rattle.recv_memory.specs.declared.Memory.TheVariants.{Of, Own}

-- a memory's number: the channels' come first, the receiver's own is the next
abbrev pub memory_number : Memory → ℕ
memory_number (Of c) = c
memory_number Own = max_ord_chans

-- memory m is the number s; one of 2^24 or more is no sequence number
unfoldable pub remembered : ℕ → ℕ → Nexts → Nexts
remembered m s n = if_lt s numbers24 (with_newest m (s + 1) n) n

-- the same in a list of numbers, each channel's next and memory and the receiver's own memory: past its end nothing is set
unfoldable pub remembered_at : ℕ → ℕ → List ℕ → List ℕ
remembered_at m n ns = if_lt n numbers24 (set ns (memory_place m) (n + 1)) ns
