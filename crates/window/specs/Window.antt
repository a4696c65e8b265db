-- Document 01, "window.rs" and "Window insert": "`insert` takes index low + 2,048 too. Low is the smallest number never accepted." and "the
-- window is one value with its bits inside it: 2,048 places above the lowest missing number, all clear at first".
use Rattle.std.specs.Prelude.{ℕ, zero, suc, Bool, true, false, List, replicate, Result, Ok, Err}
use Rattle.base.specs.Answer.{Answer, refused, gives}
use Rattle.base.specs.Refusals.{number_of, answer}
use Rattle.base.specs.declared.refusal.Refusal.{Refusal}
use Rattle.base.specs.If.{if_true, if_lt, if_le, if_eq}
use Rattle.base.specs.Limits.{numbers24, window_places}
use Rattle.base.specs.Numbers.{behind, distance, following}
use Rattle.window.specs.Places.{place_set, set_place, clear_place}
use Rattle.window.specs.declared.ReliableWindow.{ReliableWindow}

-- the window of a low number and bits that stand apart
abbrev pub window_of : ℕ → List ℕ → ReliableWindow
window_of low bits = record { low = low; bits = bits }

-- "all clear at first"
unfoldable pub new_window : ReliableWindow
new_window = record { low = 0; bits = replicate 256 0 }

-- "accepted before": below low, or its place set. The places are those of low + 1 to low + 2,048; low itself has none.
unfoldable pub accepted : ReliableWindow → ℕ → Bool
accepted w n =
    if_true (behind w.low n) true
    (if_eq n w.low false
    (if_le (distance w.low n) window_places (place_set w.bits n) false))

-- the place of n is set
abbrev pub with_place : ReliableWindow → ℕ → ReliableWindow
with_place w n = record { low = w.low; bits = set_place w.bits n }

-- low moves past one accepted number, whose place is cleared
abbrev pub passed : ReliableWindow → ReliableWindow
passed w = record { low = following w.low; bits = clear_place w.bits w.low }

-- low moves past the accepted numbers from it on, at most k of them
unfoldable pub advance : ℕ → ReliableWindow → ReliableWindow
advance zero w = w
advance (suc k) w = let rest = advance k (passed w) in if_true (place_set w.bits w.low) rest w

-- the window once n, not accepted before, is accepted. Where n is low, low moves to the next number never accepted: at most 2,048 numbers
-- follow n that have a place.
unfoldable pub accept : ReliableWindow → ℕ → ReliableWindow
accept w n =
    if_eq n w.low (advance window_places (record { low = following n; bits = w.bits })) (with_place w n)

-- what an insert comes to: document 01's answer, and the window afterwards
pub record Insertion : Type 0 where
  pub answer : Answer (Unit {0})
  pub window : ReliableWindow

abbrev pub refuse : ℕ → ReliableWindow → Insertion
refuse number w = record { answer = refused number; window = w }

abbrev pub give : ReliableWindow → Insertion
give w = record { answer = gives tt; window = w }

-- "Window insert. 13 number of 2^24 or more; 4 [number accepted before]; 5 [number above low + 2,048]"
unfoldable pub insert_of : ReliableWindow → ℕ → Insertion
insert_of w n =
    if_le numbers24 n (refuse 13 w)
    (if_true (accepted w n) (refuse 4 w)
    (if_lt window_places (distance w.low n) (refuse 5 w)
    (give (accept w n))))

-- the code's answer and the window that it left
abbrev pub insertion : Result (Unit {0}) Refusal → ReliableWindow → Insertion
insertion r w = record { answer = answer r; window = w }

-- the same, of an insert into lent bits of a window with this low number
abbrev pub inserted_in : ℕ → Result ℕ Refusal → List ℕ → Insertion
inserted_in low (Ok l) bits = give (window_of l bits)
inserted_in low (Err r) bits = refuse (number_of r) (window_of low bits)
