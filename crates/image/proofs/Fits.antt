-- The pieces and messages that sound cells list fit into an image's bytes: numbers below 2^64, counts below 2^32.
-- Assumes nothing.
use Prim.Native.Nat.{ℕ, ◌≤◌, ◌<◌}
use mathlib.Core.Path.{◌≡◌, refl, ap, subst}
use mathlib.Core.List.{List, [], map}
use native.Mathlib.Omega.{arith}
use lib.ListN.{length, get_or, length-map}
use Rattle.base.specs.Lists.{only}
use Rattle.base.specs.Sort.{sort_by}
use Rattle.base.specs.Limits.{max_cells}
use Rattle.base.proofs.Lists.{place-of}
use Rattle.base.proofs.Sorts.{only-few, sort-length}
use Rattle.window.specs.declared.ReliableWindow.{ReliableWindow}
use Rattle.cells.specs.Cell.{Slot, is_open}
use Rattle.cells.specs.Datagram.{is_first}
use Rattle.cells.specs.Room.{is_held_first}
use Rattle.cells.proofs.SoundCore.{Bounds}
use Rattle.image.specs.Image.{PieceEntry, MessageEntry, Image}
use Rattle.image.specs.Windows.{window_entry}
use Rattle.image.specs.Entries.{piece_entry, message_entry, piece_rank, held_rank, turn_of, pieces_in, held_in, ready_in}
use Rattle.image.specs.Slots.{piece_slot, part_slot}
use Rattle.image.proofs.ImageBytes.{Short64, FitsSection, FitsWindow, FitsPiece, FitsMessage}
use Rattle.image.proofs.Members.{no_entry}
use Rattle.image.proofs.Again.{Rises}
use Rattle.image.proofs.Entries.{Entries}
use Rattle.image.proofs.Windows.{packed-length, bytes_packed}

pub window-fits : (w : ReliableWindow) → Short64 w.low → FitsWindow (window_entry w)
unfolding window_entry
window-fits w h = (h, (packed-length _ 256, bytes_packed _ 256))

piece-fits : (e : PieceEntry) → Bounds (piece_slot e) → Short64 e.age → FitsPiece e
unfolding piece_slot
piece-fits e b a =
    let c = b.kind in let d = b.channel in let f = b.sequence in let g = b.order in
    let h = b.count in let j = b.index in let k = b.length in let i = b.id in
    (((omega arith, (omega arith, (omega arith, omega arith))), (omega arith, (omega arith, (omega arith, a)))), (omega arith, refl))

message-fits : (u t : ℕ) (e : MessageEntry) → ((j : ℕ) → j < length e.bodies → Bounds (part_slot u t e j)) → 1 ≤ length e.bodies
    → FitsMessage e
unfolding part_slot
message-fits u t e b le =
    let z = b 0 (omega arith) in
    let c = z.kind in let d = z.channel in let g = z.order in let h = z.count in (
      (omega arith, (omega arith, omega arith)),
      (
        omega arith,
        (
          refl,
          λ x m. let p = place-of [] e.bodies x m in
              let q = (b p.0 p.1).length in
              let r : length (get_or e.bodies p.0 []) ≡ length x = ap length p.2 in (omega arith, refl),
        ),
      ),
    )

-- ---- the lists are no longer than the cells are many
module _ (l : List Slot) where
  pub pieces-few : length (pieces_in l) ≤ length l
  unfolding pieces_in
  pieces-few =
      let a = sort-length piece_rank (map piece_entry (only is_open l)) in
      let b = length-map (only is_open l) piece_entry in
      let c = only-few is_open l in omega arith

  pub held-few : length (held_in l) ≤ length l
  unfolding held_in
  held-few =
      let a = sort-length held_rank (map (message_entry l) (only is_held_first l)) in
      let b = length-map (only is_held_first l) (message_entry l) in
      let c = only-few is_held_first l in omega arith

  pub ready-few : length (ready_in l) ≤ length l
  unfolding ready_in
  ready-few =
      let a = sort-length turn_of (only is_first l) in
      let b = length-map (sort_by turn_of (only is_first l)) (message_entry l) in
      let c = only-few is_first l in omega arith

-- ---- the three sections
module _ (next : ℕ → ℕ) (i : Image) (r : Rises i) (v : Entries next i) where
  pub pieces-fit : length i.pieces ≤ max_cells → FitsSection FitsPiece i.pieces
  pieces-fit le = (omega arith, (refl, λ e m. piece-fits e (v.pieces e m) (let a = v.age e m in omega arith)))

  pub held-fit : length i.held ≤ max_cells → FitsSection FitsMessage i.held
  held-fit le = (omega arith, (refl, λ e m. message-fits 2 0 e (v.held e m) (r.some-held e m)))

  pub ready-fit : length i.ready ≤ max_cells → FitsSection FitsMessage i.ready
  ready-fit le = (
    omega arith,
    (
      refl,
      λ e m. let p = place-of no_entry i.ready e m in
          message-fits 3 p.0 e (subst (λ (f : MessageEntry). (j : ℕ) → j < length f.bodies → Bounds (part_slot 3 p.0 f j)) p.2
          (v.ready p.0 p.1))
          (r.some-ready e m),
    ),
  )
