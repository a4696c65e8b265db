-- "An item is a tag (1 byte), a length (16 bits big-endian) and a payload."
use Rattle.std.specs.Prelude.{ℕ, zero, suc, ◌+◌, ◌-◌, List, [], ◌∷◌, length, slice_index}
use Rattle.std.specs.Prelude.{slice_range, Option, unwrap_or, option_map, nat_le}
use Rattle.std.specs.Borrow.{Bor}
use Rattle.std.specs.Bool.{then_some}
use Rattle.base.specs.If.{if_le}
use Rattle.base.specs.Bytes.{be16}
use Rattle.replay.specs.declared.stored.Item.{Item}
use Rattle.replay.specs.declared.stored.Items.{Items}

-- the elements from start to end; none where s ends before
unfoldable pub part_of : List ℕ → ℕ → ℕ → List ℕ
part_of s start end = if_le end (length s) (slice_range s start end) []

-- where the item at a place ends
abbrev pub item_end : List ℕ → ℕ → ℕ
item_end s at = at + 3 + be16 s (at + 1)

-- the item at a place, if it is whole
unfoldable pub item_in : List ℕ → ℕ → Option Item
item_in s at =
    then_some (nat_le (item_end s at) (length s)) (record { tag = slice_index s at; start = at + 3; end = item_end s at })

-- what stands for a cut item: tag 0 and no payload, at the end of all
abbrev pub no_item : List ℕ → Item
no_item s = record { tag = 0; start = length s; end = length s }

-- the item at a place; of a cut one tag 0 and no payload, at the end of all
unfoldable pub item_of : List ℕ → ℕ → Item
item_of s at =
    if_le (item_end s at) (length s)
    (record { tag = slice_index s at; start = at + 3; end = item_end s at })
    (no_item s)

-- the tags and payloads of the items from a place on, at most n of them
unfoldable pub items_within : ℕ → List ℕ → ℕ → List (ℕ × List ℕ)
items_within zero s at = []
items_within (suc n) s at =
    unwrap_or (option_map (λ i. (i.tag, part_of s i.start i.end) ∷ items_within n s i.end) (item_in s at)) []

-- of all items: each has bytes, so there are no more than bytes
unfoldable pub items_from : List ℕ → ℕ → List (ℕ × List ℕ)
items_from s at = items_within (length s - at) s at

abbrev pub items_of : List ℕ → List (ℕ × List ℕ)
items_of s = items_from s 0

abbrev pub items_left : Items → List (ℕ × List ℕ)
items_left i = items_from i.bytes.now i.at

abbrev pub tag_and_bytes : ℕ × Bor (List ℕ) → ℕ × List ℕ
tag_and_bytes x = (x.0, x.1.now)
