-- Slots read off records and bytes beside which unused ones stand.
-- Assumes nothing.
use Prim.Native.Nat.{ℕ, ◌*◌, ◌≤◌}
use mathlib.Core.Path.{◌≡◌, refl, ◌∙◌, ap}
use mathlib.Core.Bool.{Bool, false, ◌&&◌}
use mathlib.Core.List.{List, [], ◌∷◌, ◌++◌, Memᴰ}
use native.Mathlib.Nat.{suc-mul}
use native.Mathlib.Omega.{arith}
use lib.Dec.{eqb}
use lib.ListN.{length, drop, length-drop}
use lib.Seq.{take-append-le, drop-append-le}
use Rattle.base.specs.Lists.{every}
use Rattle.base.proofs.Choices.{cases}
use Rattle.cells.specs.Cell.{Cell, Slot, is_free}
use Rattle.cells.specs.Store.{cell_size, cell_body, slots_of}
use Rattle.recv_prefix.specs.First.{is_unused}

-- ---- slots read off records and bytes

nil-of : {A : Type 0} (l : List A) → length l ≡ 0 → l ≡ []
nil-of [] e = refl
nil-of (x ∷ l) e = absurd (omega arith)

body-append : (c : Cell) (a b : List ℕ) → (eqb c.used 0 ≡ false → c.length ≤ cell_size) → cell_size ≤ length a → cell_body c (a ++ b)
    ≡ cell_body c a
unfolding cell_body
body-append c a b short room = cases (eqb c.used 0)
    (λ y. rw y)
    (λ y. rw y (let s = short y in take-append-le c.length a b (omega arith)))

-- Records after records, in bytes after bytes.
pub slots-append : (cs es : List Cell) (a b : List ℕ) → ((c : Cell) → Memᴰ c cs → eqb c.used 0 ≡ false → c.length ≤ cell_size)
    → length a ≡ length cs * cell_size
    → slots_of (cs ++ es) (a ++ b) ≡ slots_of cs a ++ slots_of es b
unfolding slots_of
slots-append [] es a b short e = let z : length a ≡ 0 = omega arith in rw (nil-of a z)
slots-append (c ∷ cs) es a b short e =
    let m = suc-mul (length cs) cell_size in
    let room : cell_size ≤ length a = omega arith in
    let left : length (drop cell_size a) ≡ length cs * cell_size = length-drop cell_size a ∙ (omega arith) in
    rw (body-append c a b (short c (Memᴰ.head refl)) room, drop-append-le cell_size a b room)
    (ap (λ (l : List Slot). record { cell = c; body = cell_body c a } ∷ l)
    (slots-append cs es (drop cell_size a) b (λ x i. short x (Memᴰ.tail i)) left))

pub slots-free : (cs : List Cell) (st : List ℕ) → every is_free (slots_of cs st) ≡ every is_unused cs
unfolding slots_of every is_free is_unused
slots-free [] st = refl
slots-free (c ∷ cs) st = ap (λ (b : Bool). eqb c.used 0 && b) (slots-free cs (drop cell_size st))
