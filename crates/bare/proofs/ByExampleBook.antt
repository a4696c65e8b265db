-- The test of a sender's book on worked examples: the premise of demand 3 can be met.
-- Assumes nothing.
use Prim.Native.Nat.{ℕ}
use mathlib.Core.Path.{◌≡◌, refl}
use mathlib.Core.Bool.{Bool, true, false}
use mathlib.Core.List.{List, [], ◌∷◌, map, Memᴰ}
use Rattle.base.specs.Lists.{every, pairs, below}
use Rattle.reliability.specs.declared.Profile.{Profile}
use Rattle.bare.specs.Frame.{Frame}
use Rattle.bare.specs.Unfinished.{Event, frames_of}
use Rattle.bare.specs.Order.{Within, InOrder}
use Rattle.bare.proofs.InOrder.{in_order}
use Rattle.bare.proofs.IsBook.{implies, same_message, two_pieces, two_of_id, two_reliable, fit, index_there, stands, is_book, is_book-sound}
use Rattle.bare.proofs.Shown.{whole-frame, piece-frame, run}

-- `unfolding books` opens every definition that the test computes with.
unfoldable pub books : List (List Frame) → List Bool
unfolding run is_book pairs fit implies same_message two_pieces two_of_id two_reliable every stands below index_there
books l = map is_book l

-- A book with a split of three, whole messages of kinds 3 and 7 on two channels, and frames without a reliable number, the same one twice.
unfoldable pub pages : List Frame
pages = whole-frame 7 0 5 2 12 ∷ piece-frame 3 1 5 0 3 9 2 102 ∷ whole-frame 3 2 5 1 11 ∷ piece-frame 3 3 5 0 3 9 0 100
    ∷ piece-frame 3 4 5 0 3 9 1 101 ∷ whole-frame 3 7 6 0 20 ∷ whole-frame 0 0 0 0 1 ∷ whole-frame 0 0 0 0 1 ∷ []

pub pages-pass : is_book pages ≡ true
unfolding pages books
pages-pass = refl

-- So the order theorem speaks of it: in whatever order these frames are read, some of them or all, some of them twice, and whatever calls
-- of request 4 come in between.
pub pages-in-order : (p : Profile) (es : List Event) → Within (λ f. Memᴰ f pages) (frames_of es) → (c : ℕ)
    → InOrder p (λ f. Memᴰ f pages) es c
pages-in-order p es w c = in_order p (λ f. Memᴰ f pages) (is_book-sound pages pages-pass) es w c

-- No books: a reliable number twice; a message that is whole and split; two counts; an index twice; an index lacking; an id of two
-- messages; a whole message twice; an ordered frame over its limits.
pub no-books : books (
    (whole-frame 3 0 0 0 1 ∷ whole-frame 2 0 0 0 2 ∷ []) ∷ (whole-frame 3 0 0 0 1 ∷ piece-frame 3 1 0 0 1 9 0 2 ∷ [])
    ∷ (piece-frame 3 0 0 0 2 9 0 1 ∷ piece-frame 3 1 0 0 3 9 1 2 ∷ []) ∷ (piece-frame 3 0 0 0 2 9 0 1 ∷ piece-frame 3 1 0 0 2 9 0 2
    ∷ []) ∷ (piece-frame 3 0 0 0 2 9 0 1 ∷ [])
    ∷ (piece-frame 3 0 0 0 1 9 0 1 ∷ piece-frame 3 1 0 1 1 9 0 2 ∷ []) ∷ (whole-frame 3 0 0 0 1 ∷ whole-frame 7 1 0 0 1 ∷ [])
    ∷ (whole-frame 3 0 32 0 1 ∷ []) ∷ [])
    ≡ false ∷ false ∷ false ∷ false ∷ false ∷ false ∷ false ∷ false ∷ []
unfolding books
no-books = refl
