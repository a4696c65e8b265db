-- What code that counts cells relies on: a message's cells have different indices below its count, so they are all there when they are as
-- many.
-- Assumes nothing.
use Prim.Native.Nat.{ℕ, ◌≤◌, ◌<◌}
use mathlib.Core.Path.{◌≡◌}
use mathlib.Core.Bool.{true}
use mathlib.Core.List.{List, Memᴰ}
use native.Mathlib.Omega.{arith}
use lib.Dec.{eqb}
use Rattle.base.specs.Lists.{count_of}
use Rattle.base.proofs.Indices.{indices-all}
use Rattle.cells.specs.Cell.{Slot, Key, at, of, sits, all_there}
use Rattle.cells.proofs.Keys.{key-used}
use Rattle.cells.proofs.SoundCore.{Core}

-- The cells under a key, of different indices below n, are n exactly when no index below n is lacking.
pub all-there-counted : (k : Key) (l : List Slot) (n : ℕ) → ((i : ℕ) → count_of (sits k i) l ≤ 1)
    → ((s : Slot) → Memᴰ s l → of k s ≡ true → s.cell.index < n) → all_there k l n ≡ eqb (count_of (of k) l) n
unfolding all_there sits at of
all-there-counted k l n once within = indices-all (of k) (λ s. s.cell.index) l once n within

-- The same of any cell's message among sound slots, also while a datagram is worked on.
pub message-counted : (l : List Slot) → Core l → (k : Key) (s : Slot) → Memᴰ s l → of k s ≡ true → all_there k l s.cell.count
    ≡ eqb (count_of (of k) l) s.cell.count
message-counted l v k s m o = all-there-counted k l s.cell.count (v.unique k) (λ x i y.
    let b = (v.bounds x i (key-used k x y)).index in
    let c = (v.alike k x s i m y o).count in
    omega arith)
