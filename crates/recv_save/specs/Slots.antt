-- The last three sections of an image, of the cells, as bytes: one cell after the other, in ascending order of the entries that the save
-- makes of the used rows.
use Rattle.std.specs.Prelude.{ℕ, suc, ◌+◌, ◌*◌, ◌%◌, Bool, ◌&&◌, ◌||◌, List, [], ◌∷◌, eqb, length, take, drop, min}
use Rattle.base.specs.Bytes.{be32_bytes, be64_bytes}
use Rattle.base.specs.If.{if_eq}
use Rattle.base.specs.Limits.{numbers24, max_ord_chans, max_frags, cell_bytes, max_cells}
use Rattle.base.specs.Lists.{count_of}
use Rattle.base.specs.Put.{and_then}
use Rattle.cells.specs.Cell.{Cell, unused_use, open_use, held_use, ready_use}
use Rattle.rows.specs.declared.Row.{Row}
use Rattle.rows.specs.Rows.{cells_in, whole_row}
use Rattle.receiver.specs.Write.{sorted}
use Rattle.recv_save.specs.Each.{each_bytes}

-- ---- a cell's bytes
-- "a body is its length, then its bytes"
unfoldable pub body_bytes : List ℕ → List ℕ
body_bytes b = and_then (be64_bytes (length b)) b

unfoldable pub four_bytes : ℕ → ℕ → ℕ → ℕ → List ℕ
four_bytes a b c d = and_then (be64_bytes a) (and_then (be64_bytes b) (and_then (be64_bytes c) (be64_bytes d)))

-- "id, index, count, kind, sequence number, order number, channel, accepted datagrams since the id's last kept piece, body"
unfoldable pub piece_bytes : Cell → List ℕ → List ℕ
piece_bytes c b =
    and_then (four_bytes c.id c.index c.count c.kind)
    (and_then (be64_bytes c.sequence)
    (and_then (be64_bytes c.order) (and_then (be64_bytes c.channel) (and_then (be64_bytes c.age) (body_bytes b)))))

-- "channel, order number, kind, piece count" before the first of "the bodies by index"
unfoldable pub part_bytes : Cell → List ℕ → List ℕ
part_bytes c b = and_then (if_eq c.index 0 (four_bytes c.channel c.order c.kind c.count) []) (body_bytes b)

-- nothing where the cell has another use than u
unfoldable pub slot_bytes : ℕ → Cell → List ℕ → List ℕ
slot_bytes u c b = if_eq c.used u (if_eq u open_use (piece_bytes c b) (part_bytes c b)) []

-- ---- the order of the cells: open messages by id, held ones by channel and order number, ready ones by turn; each by index
unfoldable pub key_rank : Cell → ℕ
key_rank c =
    if_eq c.used open_use c.id
    (if_eq c.used held_use (4294967296 + (c.channel % max_ord_chans * numbers24 + c.order % numbers24)) (8589934592 + c.turn))

unfoldable pub rank : Cell → ℕ
rank c = key_rank c * max_frags + c.index % max_frags

-- a row's entry: its cell's rank, and the row's number
unfoldable pub entry_of : ℕ → Cell → ℕ
entry_of i c = rank c * max_cells + i % max_cells

unfoldable pub own_entry : ℕ → Cell → List ℕ
own_entry i c = if_eq c.used unused_use [] (entry_of i c ∷ [])

-- of the used rows, the first of which is row i
unfoldable pub entries_from : ℕ → List Row → List ℕ
entries_from i [] = []
entries_from i (r ∷ rs) = and_then (own_entry i r.cell) (entries_from (suc i) rs)

-- an entry's row
abbrev pub row_number : ℕ → ℕ
row_number e = e % max_cells

-- the body of row i, by its record
unfoldable pub body_at : List ℕ → ℕ → Cell → List ℕ
body_at store i c = take (min c.length cell_bytes) (drop (i * cell_bytes) store)

unfoldable pub entry_bytes : ℕ → List Row → List ℕ → ℕ → List ℕ
entry_bytes u rows store e =
    let c = (whole_row rows (row_number e)).cell in
    slot_bytes u c (body_at store (row_number e) c)

-- ---- the sections
-- does an entry of the section of use u begin with this cell?
unfoldable pub begins : ℕ → Cell → Bool
begins u c = eqb c.used u && (eqb u open_use || eqb c.index 0)

unfoldable pub section_bytes : ℕ → List Row → List ℕ → List ℕ → List ℕ
section_bytes u rows store order =
    and_then (be32_bytes (count_of (begins u) (cells_in rows))) (each_bytes (entry_bytes u rows store) order)

unfoldable pub cells_bytes : List Row → List ℕ → List ℕ → List ℕ
cells_bytes rows store order =
    and_then (section_bytes open_use rows store order)
    (and_then (section_bytes held_use rows store order) (section_bytes ready_use rows store order))

-- the entries in ascending order: `sorted`, which puts numbers so
unfoldable pub ordered : List Row → List ℕ
ordered rows = sorted (entries_from 0 rows)
