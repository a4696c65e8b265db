-- The writers' cases, with the facts as the code finds them.
-- Assumes nothing.
use Prim.Native.Nat.{ℕ, zero, suc, ◌+◌, ◌-◌, ◌*◌, ◌%◌, ◌<◌, ◌≤◌, min}
use mathlib.Core.Path.{◌≡◌, refl, sym, ◌∙◌, ap, subst}
use mathlib.Core.Bool.{Bool, cond}
use mathlib.Core.List.{List, [], ◌∷◌}
use native.Mathlib.Decide.{dec_le}
use native.Mathlib.Omega.{arith}
use native.Mathlib.Numerals.{add-one}
use lib.ListN.{length, get_or, drop, take, length-append, length-drop}
use lib.Seq.{drop-cons, take_all}
use Rattle.base.specs.Bytes.{be16_bytes, be32_bytes, be64_bytes}
use Rattle.base.specs.If.{if_eq}
use Rattle.base.specs.Limits.{max_cells}
use Rattle.base.specs.Lists.{count_of}
use Rattle.base.specs.Put.{and_then, Run}
use Rattle.base.proofs.Ifs.{eq_yes, eq_no}
use Rattle.base.proofs.Puts.{run_none, run-then}
use Rattle.base.proofs.Runs.{Left, left_less, left-none, run-eq-no}
use Rattle.cells.specs.Cell.{Cell}
use Rattle.rows.specs.declared.Row.{Row}
use Rattle.rows.specs.Rows.{cells_in, whole_row}
use Rattle.image.specs.Windows.{eight, packed}
use Rattle.window.specs.declared.ReliableWindow.{ReliableWindow}
use Rattle.window.specs.Places.{place_set}
use Rattle.recv_save.specs.Front.{place_bytes}
use Rattle.recv_save.specs.Each.{each_bytes}
use Rattle.recv_save.specs.Slots.{begins, section_bytes, cells_bytes}
use Rattle.recv_save.specs.Slots.{body_bytes, four_bytes, piece_bytes, part_bytes, slot_bytes, entry_of, own_entry, entries_from, body_at}
use Rattle.recv_save.specs.Slots.{entry_bytes}
use Rattle.recv_save.proofs.Each.{past-end}

-- ---- the places of a window
pub byte-is : (f : ℕ → Bool) (low k a b c d e g h i : ℕ)
    → a ≡ cond (f (low + 1 + 8 * k)) 1 0 → b ≡ cond (f (low + 1 + 8 * k + 1)) 2 0 → c ≡ cond (f (low + 1 + 8 * k + 2)) 4 0
    → d ≡ cond (f (low + 1 + 8 * k + 3)) 8 0 → e ≡ cond (f (low + 1 + 8 * k + 4)) 16 0 → g ≡ cond (f (low + 1 + 8 * k + 5)) 32 0
    → h ≡ cond (f (low + 1 + 8 * k + 6)) 64 0 → i ≡ cond (f (low + 1 + 8 * k + 7)) 128 0
    → a + b + c + d + e + g + h + i ≡ eight (λ j. f (low + 1 + j)) (8 * k)
unfolding eight
byte-is f low k a b c d e g h i p₀ p₁ p₂ p₃ p₄ p₅ p₆ p₇ =
    let q₁ : low + 1 + (8 * k + 1) ≡ low + 1 + 8 * k + 1 = omega arith in
    let q₂ : low + 1 + (8 * k + 2) ≡ low + 1 + 8 * k + 2 = omega arith in
    let q₃ : low + 1 + (8 * k + 3) ≡ low + 1 + 8 * k + 3 = omega arith in
    let q₄ : low + 1 + (8 * k + 4) ≡ low + 1 + 8 * k + 4 = omega arith in
    let q₅ : low + 1 + (8 * k + 5) ≡ low + 1 + 8 * k + 5 = omega arith in
    let q₆ : low + 1 + (8 * k + 6) ≡ low + 1 + 8 * k + 6 = omega arith in
    let q₇ : low + 1 + (8 * k + 7) ≡ low + 1 + 8 * k + 7 = omega arith in
    rw (p₀, p₁, p₂, p₃, p₄, p₅, p₆, p₇, q₁, q₂, q₃, q₄, q₅, q₆, q₇)

pub places-none : (p : ℕ) (w : ReliableWindow) (l : List ℕ) → Run p (place_bytes w 0) l p l
unfolding place_bytes packed
places-none p w l = run_none p [] l refl

pub places-next : (p : ℕ) (w : ReliableWindow) (k : ℕ) (l : List ℕ) (q : ℕ) (L : List ℕ) (x r : ℕ) (M : List ℕ)
    → Run p (place_bytes w k) l q L
    → Run q (x ∷ []) L r M → x ≡ eight (λ j. place_set w.bits (w.low + 1 + j)) (8 * k) → Run p (place_bytes w (k + 1)) l r M
unfolding place_bytes packed and_then
places-next p w k l q L x r M a b e =
    let f : ℕ → Bool = λ j. place_set w.bits (w.low + 1 + j) in
    rw (add-one k) (run-then p (packed f k) (eight f (8 * k) ∷ []) l q L r M a (rw e at b))

-- ---- the entries
pub own-run : (p i : ℕ) (c : Cell) (e : ℕ) (l : List ℕ) (q : ℕ) (m : List ℕ) → (c.used ≡ 0 → ⊥) → e ≡ entry_of i c → Run p (e ∷ []) l q m
    → Run p (own_entry i c) l q m
unfolding own_entry
own-run p i c e l q m n h a = run-eq-no p [] (entry_of i c ∷ []) l q m c.used 0 n (rw h at a)

pub entries-next : (rows : List Row) (d : Row) (l : List ℕ) (i k : ℕ) (m : List ℕ) (r : ℕ) (M : List ℕ) (bs : List ℕ) → i < length rows
    → Left 0 bs l k (entries_from i (drop i rows)) m → Run k (own_entry i (get_or rows i d).cell) m r M
    → Left 0 bs l r (entries_from (i + 1) (drop (i + 1) rows)) M
unfolding entries_from
entries-next rows d l i k m r M bs h a b =
    let a' : Left 0 bs l k (and_then (own_entry i (get_or rows i d).cell) (entries_from (suc i) (drop (suc i) rows))) m = rw
    (drop-cons rows i d h) at a in
    rw (add-one i) (left_less 0 bs l k (own_entry i (get_or rows i d).cell) (entries_from (suc i) (drop (suc i) rows)) m r M b a')

pub entries-end : (rows : List Row) (l : List ℕ) (i k : ℕ) (m bs : List ℕ) → length rows ≤ i
    → Left 0 bs l k (entries_from i (drop i rows)) m
    → Run 0 bs l k m
unfolding entries_from
entries-end rows l i k m bs h a = left-none 0 bs l k (entries_from i (drop i rows)) m (ap (entries_from i) (past-end i rows h)) a

-- ---- a body
take-nil : (n : ℕ) → take {A = ℕ} n [] ≡ []
take-nil zero = refl
take-nil (suc n) = refl

take-least : (n m : ℕ) (l : List ℕ) → m ≡ min n (length l) → take m l ≡ take n l
take-least n m l e = go (dec_le n (length l))
  where
    go : Dec (n ≤ length l) → take m l ≡ take n l
    go (yes h) = let t : m ≡ n = omega arith in rw t
    go (no h) = take_all m l (omega arith) ∙ sym (take_all n l (omega arith))

pub body-is : (s : List ℕ) (i : ℕ) (c : Cell) (at n m : ℕ) → at ≡ min (i * 1500) (length s) → n ≡ min c.length 1500
    → m ≡ min n (length (take (length s - at) (drop at s))) → take m (take (length s - at) (drop at s)) ≡ body_at s i c
unfolding body_at
body-is s i c at n m p q e =
    let a : take (length s - at) (drop at s) ≡ drop at s = take_all (length s - at) (drop at s) (simp length-drop (omega arith)) in
    rw a (part (dec_le (i * 1500) (length s)) (rw a at e))
  where
    part : Dec (i * 1500 ≤ length s) → m ≡ min n (length (drop at s)) → take m (drop at s) ≡ take (min c.length 1500) (drop (i * 1500) s)
    part (yes h) e =
        let t : at ≡ i * 1500 = omega arith in
        rw (← q, ← t) (take-least n m (drop at s) e)
    part (no h) e =
        let t : length s ≤ at = omega arith in
        let k : length s ≤ i * 1500 = omega arith in
        rw (past-end at s t, past-end (i * 1500) s k) (take-nil m ∙ sym (take-nil (min c.length 1500)))

-- ---- lengths
pub length-then : (xs ys : List ℕ) → length (and_then xs ys) ≡ length xs + length ys
unfolding and_then
length-then xs ys = length-append xs ys

pub length-32 : (n : ℕ) → length (be32_bytes n) ≡ 4
unfolding be32_bytes be16_bytes and_then
length-32 n = refl

pub length-64 : (n : ℕ) → length (be64_bytes n) ≡ 8
unfolding be64_bytes be32_bytes be16_bytes and_then
length-64 n = refl

length-body : (b : List ℕ) → length (body_bytes b) ≡ 8 + length b
unfolding body_bytes
length-body b = simp (length-then, length-64)

length-four : (a b c d : ℕ) → length (four_bytes a b c d) ≡ 32
unfolding four_bytes
length-four a b c d = simp (length-then, length-64)

module _ (u : ℕ) (c : Cell) (b : List ℕ) where
  pub len-none : (c.used ≡ u → ⊥) → 0 ≡ length (slot_bytes u c b)
  unfolding slot_bytes
  len-none n = ap (length {A = ℕ}) (eq_no c.used u [] (if_eq u 1 (piece_bytes c b) (part_bytes c b)) [] n refl)

  piece-length : length (piece_bytes c b) ≡ 72 + length b
  unfolding piece_bytes
  piece-length = simp (length-then, length-64, length-four, length-body) (omega arith)

  pub len-piece : c.used ≡ u → u ≡ 1 → 72 + length b ≡ length (slot_bytes u c b)
  unfolding slot_bytes
  len-piece e f = sym piece-length ∙ ap (length {A = ℕ})
      (eq_yes c.used u (piece_bytes c b) (if_eq u 1 (piece_bytes c b) (part_bytes c b)) [] e
      (eq_yes u 1 (piece_bytes c b) (piece_bytes c b) (part_bytes c b) f refl))

  part-slot : c.used ≡ u → (u ≡ 1 → ⊥) → part_bytes c b ≡ slot_bytes u c b
  unfolding slot_bytes
  part-slot e n = eq_yes c.used u (part_bytes c b) (if_eq u 1 (piece_bytes c b) (part_bytes c b)) [] e
      (eq_no u 1 (part_bytes c b) (piece_bytes c b) (part_bytes c b) n refl)

  part-length : length (part_bytes c b) ≡ length (if_eq c.index 0 (four_bytes c.channel c.order c.kind c.count) []) + (8 + length b)
  unfolding part_bytes
  part-length = length-then (if_eq c.index 0 (four_bytes c.channel c.order c.kind c.count) []) (body_bytes b)
      ∙ ap (λ (n : ℕ). length (if_eq c.index 0 (four_bytes c.channel c.order c.kind c.count) []) + n) (length-body b)

  pub len-part : c.used ≡ u → (u ≡ 1 → ⊥) → (c.index ≡ 0 → ⊥) → 8 + length b ≡ length (slot_bytes u c b)
  len-part e n i =
      let z = ap (length {A = ℕ}) (eq_no c.index 0 [] (four_bytes c.channel c.order c.kind c.count) [] i refl) in
      let k = part-length in
      let t = ap (length {A = ℕ}) (part-slot e n) in
      omega arith

  pub len-first : c.used ≡ u → (u ≡ 1 → ⊥) → c.index ≡ 0 → 40 + length b ≡ length (slot_bytes u c b)
  len-first e n i =
      let x = four_bytes c.channel c.order c.kind c.count in
      let z = ap (length {A = ℕ}) (eq_yes c.index 0 x x [] i refl) in
      let f = length-four c.channel c.order c.kind c.count in
      let k = part-length in
      let t = ap (length {A = ℕ}) (part-slot e n) in
      omega arith

-- ---- the three sections
module _ (rows : List Row) (store order : List ℕ) where
  section-length : (u : ℕ) → length (section_bytes u rows store order) ≡ 4 + length (each_bytes (entry_bytes u rows store) order)
  unfolding section_bytes
  section-length u =
      length-then (be32_bytes (count_of (begins u) (cells_in rows))) (each_bytes (entry_bytes u rows store) order)
      ∙ ap (λ (n : ℕ). n + length (each_bytes (entry_bytes u rows store) order)) (length-32 (count_of (begins u) (cells_in rows)))

  pub cells-length : (a b c : ℕ) → a ≡ length (each_bytes (entry_bytes 1 rows store) order)
      → b ≡ length (each_bytes (entry_bytes 2 rows store) order)
      → c ≡ length (each_bytes (entry_bytes 3 rows store) order) → 12 + a + b + c ≡ length (cells_bytes rows store order)
  unfolding cells_bytes
  cells-length a b c p q r =
      let x = section-length 1 in
      let y = section-length 2 in
      let z = section-length 3 in
      let t = length-then (section_bytes 2 rows store order) (section_bytes 3 rows store order) in
      let s = length-then (section_bytes 1 rows store order)
      (and_then (section_bytes 2 rows store order) (section_bytes 3 rows store order)) in
      omega arith

-- ---- an entry's bytes
module _ (u : ℕ) (rows : List Row) (store : List ℕ) (e i : ℕ) (r : Row) (b : List ℕ) where
  entry-is : i ≡ e % max_cells → r ≡ whole_row rows i → b ≡ body_at store i r.cell → slot_bytes u r.cell b ≡ entry_bytes u rows store e
  unfolding entry_bytes
  entry-is p q h = rw (h, q, p)

  pub entry-run : (p : ℕ) (l : List ℕ) (k : ℕ) (m : List ℕ) → i ≡ e % max_cells → r ≡ whole_row rows i → b ≡ body_at store i r.cell
      → Run p (slot_bytes u r.cell b) l k m → Run p (entry_bytes u rows store e) l k m
  entry-run p l k m x q h a = subst (λ (bs : List ℕ). Run p bs l k m) (entry-is x q h) a

  pub entry-len : (n : ℕ) → i ≡ e % max_cells → r ≡ whole_row rows i → b ≡ body_at store i r.cell → n ≡ length (slot_bytes u r.cell b)
      → n ≡ length (entry_bytes u rows store e)
  entry-len n x q h a = a ∙ ap (length {A = ℕ}) (entry-is x q h)
