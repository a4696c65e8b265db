-- What a save answers and leaves; and the image's bytes, as the save writes them.
use Rattle.std.specs.Prelude.{ℕ, List, Result}
use Rattle.base.specs.Put.{and_then}
use Rattle.base.specs.declared.refusal.Refusal.{Refusal}
use Rattle.base.specs.Refusals.{answer}
use Rattle.receiver.specs.declared.RecvQueue.{RecvQueue}
use Rattle.receiver.specs.Save.{Saved}
use Rattle.rows.specs.declared.Row.{Row}
use Rattle.recv_save.specs.Front.{front_bytes}
use Rattle.recv_save.specs.Slots.{cells_bytes}

abbrev pub save_result : Result ℕ Refusal → List ℕ → Saved
save_result r out = record { answer = answer r; out = out }

unfoldable pub saved_bytes : RecvQueue → List Row → List ℕ → List ℕ → List ℕ
saved_bytes q rows store order = and_then (front_bytes q) (cells_bytes rows store order)
