-- The nexts as numbers: the channels made of them have these.
-- Assumes nothing.
use mathlib.Core.Path.{◌≡◌, ◌∙◌, ap}
use mathlib.Core.Bool.{Bool}
use mathlib.Core.List.{List}
use Prim.Native.Nat.{ℕ}
use Rattle.cells.specs.Cell.{Cell}
use Rattle.cells.specs.Sound.{sound_cells}
use Rattle.receiver.specs.declared.Channel.{Channel}
use Rattle.receiver.specs.Queue.{next_in}
use Rattle.recv_parts.specs.Parts.{channels_of, next_at}
use Rattle.recv_parts.proofs.ByParts.{next-in-numbers}

pub by_list : (cs : List Cell) (ns : List ℕ) (channels : List Channel) (b : Bool) → channels ≡ channels_of ns
    → b ≡ sound_cells cs (next_in channels) → b ≡ sound_cells cs (next_at ns)
by_list cs ns channels b e f = f ∙ ap (λ (l : List Channel). sound_cells cs (next_in l)) e ∙ ap (sound_cells cs) (next-in-numbers ns)
