-- The test of soundness at its edges, written from document 01's "Sound means no more than this"; and bytes in the store.
-- Assumes nothing.
use Prim.Native.Nat.{ℕ, suc}
use mathlib.Core.Path.{◌≡◌, refl}
use mathlib.Core.Bool.{true, false, cond}
use mathlib.Core.List.{List, [], ◌∷◌, ◌++◌, map}
use lib.Dec.{eqb}
use lib.ListN.{length, take, drop, replicate}
use Rattle.base.specs.Limits.{numbers24, max_age}
use Rattle.base.specs.Lists.{below}
use Rattle.cells.specs.Cell.{Slot, empty_slot}
use Rattle.cells.specs.Ages.{aged}
use Rattle.cells.specs.Sound.{sound_memories, lengths}
use Rattle.cells.specs.Store.{slots_of, cells_of, store_of}
use Rattle.cells.proofs.Shown.{slot, open-cell, held-cell, ready-cell, run, sound_at}

-- "each used cell .. under an index no other cell of it has": index 0 twice, also under two ids where the message is ready (one turn), is
-- not sound.
pub one-cell-an-index : (sound_at 0 (slot 1 7 0 3 0 3 0 4 0 [] ∷ slot 1 7 0 3 0 3 0 4 0 [] ∷ []) ≡ false)
    × (sound_at 0 (slot 3 7 0 0 0 1 0 0 4 [] ∷ slot 3 8 0 0 0 1 0 0 4 [] ∷ []) ≡ false)
    × (sound_at 0 (slot 3 7 0 0 0 1 0 0 4 [] ∷ slot 3 8 0 0 0 1 0 0 5 [] ∷ []) ≡ true)
unfolding run sound_at
one-cell-an-index = (refl, refl, refl)

-- "the pieces of a message agree as in step 3": of a ready message in two cells, the second has another id (which is not looked at), count,
-- kind, sequence number, order number, channel; another turn makes two messages, each lacking an index.
pub pieces-agree : map (λ (s : Slot). sound_at 0 (slot 3 7 0 1 0 2 0 1 4 [] ∷ s ∷ []))
    (slot 3 8 1 1 0 2 0 1 4 [] ∷ slot 3 7 1 1 0 3 0 1 4 [] ∷ slot 3 7 1 3 0 2 0 1 4 [] ∷ slot 3 7 1 1 0 2 1 1 4 [] ∷ slot 3 7 1 1 0 2 0 2 4
    [] ∷ slot 3 7 1 1 1 2 0 1 4 [] ∷ slot 3 7 1 1 0 2 0 1 5 [] ∷ [])
    ≡ true ∷ false ∷ false ∷ false ∷ false ∷ false ∷ false ∷ []
unfolding run sound_at
pieces-agree = refl

-- "held and ready messages lack no index"; "open ids differ, each lacking an index".
pub lacking : (sound_at 0 (slot 3 7 1 0 0 2 0 0 0 [] ∷ []) ≡ false) × (sound_at 0 (slot 2 7 1 3 0 2 0 5 0 [] ∷ []) ≡ false)
    × (sound_at 0 (slot 1 7 1 0 0 2 0 0 0 [] ∷ []) ≡ true) × (sound_at 0 (slot 1 7 0 0 0 1 0 0 0 [] ∷ []) ≡ false)
    × (sound_at 0 (slot 1 7 0 0 0 2 0 0 0 [] ∷ slot 1 7 1 0 0 2 0 0 0 [] ∷ []) ≡ false)
unfolding run sound_at
lacking = (refl, refl, refl, refl, refl)

-- "held order numbers .. exceed [the channel's] next"; next itself is at most 2^24.
pub held-above-next : (sound_at 1 (held-cell 1 0 ∷ []) ≡ false) × (sound_at 1 (held-cell 2 0 ∷ []) ≡ true)
    × (sound_at numbers24 (empty_slot ∷ []) ≡ true) × (sound_at (suc numbers24) (empty_slot ∷ []) ≡ false)
unfolding run sound_at
held-above-next = (refl, refl, refl, refl)

-- A memory, the newest sequence number plus 1, is at most 2^24: 32 is kind 4's, and there is no 33.
pub memories-within : (sound_memories (λ m. numbers24) ≡ true) × (sound_memories (λ m. cond (eqb m 32) (suc numbers24) 0) ≡ false)
    × (sound_memories (λ m. cond (eqb m 33) (suc numbers24) 0) ≡ true)
unfolding below
memories-within = (refl, refl, refl)

-- No more than the text: a ready message of kind 3 above its channel's next, the same number held, an open piece of the same number; held
-- kind 0.
pub no_more : (sound_at 0 (ready-cell 0 3 5 0 ∷ held-cell 5 0 ∷ open-cell 0 0 2 5 0 ∷ []) ≡ true)
    × (sound_at 0 (slot 2 0 0 0 0 1 0 5 0 [] ∷ []) ≡ true)
unfolding run sound_at
no_more = (refl, refl)

-- "values and body lengths obey the limits", one at a time: at their limits; id 2^16; kind 8; channel 32; index 1 of count 1; count 0;
-- sequence and order number 2^24; use 4. Of an unused record nothing but its use is looked at. An open piece of 1,024, of 1,025.
pub values : map (λ (s : Slot). sound_at 0 (s ∷ []))
    (slot 3 65535 0 7 31 1 16777215 16777215 0 [] ∷ slot 3 65536 0 7 31 1 0 0 0 [] ∷ slot 3 0 0 8 0 1 0 0 0 [] ∷ slot 3 0 0 0 32 1 0 0 0 []
    ∷ slot 3 0 1 0 0 1 0 0 0 [] ∷ slot 3 0 0 0 0 0 0 0 0 [] ∷ slot 3 0 0 0 0 1 16777216 0 0 [] ∷ slot 3 0 0 0 0 1 0 16777216 0 []
    ∷ slot 4 0 0 0 0 1 0 0 0 []
    ∷ slot 0 99999 9 8 99 0 99999999 99999999 9 [] ∷ slot 1 0 0 0 0 1024 0 0 0 [] ∷ slot 1 0 0 0 0 1025 0 0 0 [] ∷ [])
    ≡ true ∷ false ∷ false ∷ false ∷ false ∷ false ∷ false ∷ false ∷ false ∷ true ∷ true ∷ false ∷ []
unfolding run sound_at
values = refl

-- "The age kept for an id" (request 4) is one: open records of an id that differ in age are unsound, those of two ids may differ. It "stops
-- at 2^32". No rule looks at the age of a ready, a held or an unused record.
pub ages : (map (λ (s : Slot). sound_at 0 (aged 4 (open-cell 7 0 3 0 0) ∷ s ∷ [])) (aged 4 (open-cell 7 1 3 0 0)
    ∷ aged 5 (open-cell 7 1 3 0 0) ∷ aged 5 (open-cell 8 1 3 0 0) ∷ []) ≡ true ∷ false ∷ true ∷ [])
    × (sound_at 0 (slot 3 7 0 0 0 2 0 0 0 [] ∷ aged 5 (slot 3 7 1 0 0 2 0 0 0 []) ∷ []) ≡ true)
    × (map (λ (s : Slot). sound_at 0 (s ∷ [])) (aged max_age (open-cell 7 0 2 0 0) ∷ aged (suc max_age) (open-cell 7 0 2 0 0)
    ∷ aged (suc max_age) (ready-cell 0 3 0 0) ∷ aged (suc max_age) (held-cell 1 0) ∷ aged (suc max_age) empty_slot ∷ [])
    ≡ true ∷ false ∷ true ∷ true ∷ true ∷ [])
unfolding run sound_at
ages = (refl, refl, refl)

pub body-lengths : (sound_at 0 (slot 3 0 0 0 0 1 0 0 0 (replicate 1500 0) ∷ []) ≡ true)
    × (sound_at 0 (slot 3 0 0 0 0 1 0 0 0 (replicate 1501 0) ∷ []) ≡ false)
unfolding run sound_at
body-lengths = (refl, refl)

-- "1 to 4,096 cells of 1,500 bytes"; "the store is exactly one cell for each record".
pub lengths-are : (lengths 0 0 ≡ false) × (lengths 1 1500 ≡ true) × (lengths 2 1500 ≡ false) × (lengths 4096 6144000 ≡ true)
    × (lengths 4097 6145500 ≡ false)
unfolding run
lengths-are = (refl, refl, refl, refl, refl)

-- Two cells of 1,500 bytes: a body is read off the first bytes of its cell, and laid over them; an unused cell has none; all other bytes
-- keep their value.
unfoldable pub store : List ℕ
store = replicate 1500 9 ++ (7 ∷ 6 ∷ 5 ∷ replicate 1497 4)

pub bytes_read : slots_of (cells_of (slot 0 0 0 0 0 0 0 0 0 (1 ∷ 1 ∷ []) ∷ slot 3 0 0 0 0 1 0 0 0 (1 ∷ 1 ∷ []) ∷ [])) store
    ≡ record { cell = (slot 0 0 0 0 0 0 0 0 0 (1 ∷ 1 ∷ [])).cell; body = [] } ∷ slot 3 0 0 0 0 1 0 0 0 (7 ∷ 6 ∷ []) ∷ []
unfolding run store
bytes_read = refl

unfoldable pub laid-over : List ℕ
laid-over = store_of store (slot 3 0 0 0 0 1 0 0 0 (1 ∷ 2 ∷ []) ∷ empty_slot ∷ [])

pub bytes-laid : (take 4 laid-over ≡ 1 ∷ 2 ∷ 9 ∷ 9 ∷ []) × (take 4 (drop 1499 laid-over) ≡ 9 ∷ 7 ∷ 6 ∷ 5 ∷ []) × (length laid-over ≡ 3000)
unfolding run store laid-over
bytes-laid = (refl, refl, refl)
