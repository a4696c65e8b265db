-- Document 01's limits ("Limits", and those of single calls), each named once. The code's own are in src/lib.rt.
use Rattle.std.specs.Prelude.{ℕ}

-- "numbers of 24 bits": the first number that is over the limit, 2^24
abbrev pub numbers24 : ℕ
numbers24 = 16777216

-- a piece's id is a number of 16 bits: the first that is over the limit, 2^16
abbrev pub numbers16 : ℕ
numbers16 = 65536

-- "channel 0 to 31": how many channels there are (`MAX_ORD_CHANS`)
abbrev pub max_ord_chans : ℕ
max_ord_chans = 32

-- request 1, "each channel remembers ..", "Kind 4 .. gets one such memory for the whole receiver": how many memories there are
abbrev pub memories : ℕ
memories = 33

-- request 2, "for the console profile of document 01 or for this one": how many profiles there are
abbrev pub profiles : ℕ
profiles = 2

-- "piece count 1 to 1,024 (`MAX_FRAGS`)"
abbrev pub max_frags : ℕ
max_frags = 1024

-- "2,048 places above the lowest missing number": a window's reach
abbrev pub window_places : ℕ
window_places = 2048

-- "number lists up to 2,048"
abbrev pub max_list : ℕ
max_list = 2048

-- "body 8,191": the longest body whose bits fit 16 bits
abbrev pub max_body : ℕ
max_body = 8191

-- "mtu outside 61 to 1,500"
abbrev pub min_mtu : ℕ
min_mtu = 61

abbrev pub max_mtu : ℕ
max_mtu = 1500

-- "chunk mtu - 60" (`RAKNET_HEADER_FRAME_OVERHEAD`)
abbrev pub frame_overhead : ℕ
frame_overhead = 60

-- "1 to 4,096 cells of 1,500 bytes"
abbrev pub max_cells : ℕ
max_cells = 4096

abbrev pub cell_bytes : ℕ
cell_bytes = 1500

-- "datagram 4 to 1,500 bytes"
abbrev pub min_datagram : ℕ
min_datagram = 4

abbrev pub max_datagram : ℕ
max_datagram = 1500

-- "1,024 unsent acknowledgements"
abbrev pub max_unsent : ℕ
max_unsent = 1024

-- request 4, "the age kept for an id stops at 2^32, which no n reaches"; "n has 32 bits": n is below it
abbrev pub max_age : ℕ
max_age = 4294967296
