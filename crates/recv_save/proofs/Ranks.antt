-- A used cell's rank tells its message and index, where the cells are sound; so the cells in the order of their ranks are one list.
-- Assumes nothing.
use Prim.Native.Nat.{ℕ, ◌+◌, ◌*◌, ◌%◌, ◌≤◌}
use mathlib.Core.Path.{◌≡◌, refl, sym, ◌∙◌, ap, subst}
use mathlib.Core.Bool.{Bool, true, false, not, ◌&&◌}
use mathlib.Core.List.{List, Memᴰ}
use native.Mathlib.Omega.{arith}
use lib.Dec.{eqb}
use borrow.Author.Tests.{eqb-true, eqb-false, eq-eqb, ne_eqb}
use Rattle.base.specs.If.{if_eq}
use Rattle.base.specs.Limits.{numbers24, max_ord_chans, max_frags}
use Rattle.base.specs.Lists.{only, count_of}
use Rattle.base.specs.Sort.{sort_by}
use Rattle.base.proofs.Choices.{cases, and_left, and_right, and_both, neither}
use Rattle.base.proofs.Ifs.{eq_yes, eq_no}
use Rattle.base.proofs.Sorts.{Rising, Apart, apart-only, count-le, sort-rising, only-in, in-only, in-sort, sort-in}
use Rattle.cells.specs.Cell.{Slot, Key, open_as, held_as, ready_as, bears, of, sits, is_free}
use Rattle.cells.specs.Sound.{key_of}
use Rattle.cells.proofs.Keys.{of-used, sits-of, ready_of}
use Rattle.cells.proofs.Moves.{of-held}
use Rattle.cells.proofs.Pieces.{open_of}
use Rattle.cells.proofs.SoundCore.{Bounds, Core}
use Rattle.recv_save.specs.Slots.{key_rank, rank}

-- ---- the three uses
pub data Use (s : Slot) : Type 0 where
  is_open : s.cell.used ≡ 1 → Use s
  is_held : s.cell.used ≡ 2 → Use s
  is_ready : s.cell.used ≡ 3 → Use s

pub use-of : (s : Slot) → is_free s ≡ false → s.cell.used ≤ 3 → Use s
unfolding is_free
use-of s f le = cases (eqb s.cell.used 1)
    (λ y. is_open (eqb-true s.cell.used 1 y))
    (λ y. cases (eqb s.cell.used 2)
    (λ z. is_held (eqb-true s.cell.used 2 z))
    (λ z. let a : s.cell.used ≡ 0 → ⊥ = eqb-false s.cell.used 0 f in
    let b : s.cell.used ≡ 1 → ⊥ = eqb-false s.cell.used 1 y in
    let c : s.cell.used ≡ 2 → ⊥ = eqb-false s.cell.used 2 z in
    is_ready (omega arith)))

pub key-open : (s : Slot) → s.cell.used ≡ 1 → key_of s.cell ≡ open_as s.cell.id
unfolding key_of
key-open s u = rw (eq-eqb s.cell.used 1 u)

pub key-held : (s : Slot) → s.cell.used ≡ 2 → key_of s.cell ≡ held_as s.cell.channel s.cell.order
unfolding key_of
key-held s u = rw (ne_eqb s.cell.used 1 (λ q. omega arith), eq-eqb s.cell.used 2 u)

pub key-ready : (s : Slot) → s.cell.used ≡ 3 → key_of s.cell ≡ ready_as s.cell.turn
unfolding key_of
key-ready s u = rw (ne_eqb s.cell.used 1 (λ q. omega arith), ne_eqb s.cell.used 2 (λ q. omega arith))

pub of-key : (s : Slot) → Use s → of (key_of s.cell) s ≡ true
unfolding of bears
of-key s (is_open u) = rw (key-open s u) (and_both _ _ (eq-eqb s.cell.used 1 u) (eq-eqb s.cell.id s.cell.id refl))
of-key s (is_held u) = rw (key-held s u) (and_both _ _ (eq-eqb s.cell.used 2 u)
    (and_both _ _ (eq-eqb s.cell.channel s.cell.channel refl) (eq-eqb s.cell.order s.cell.order refl)))
of-key s (is_ready u) = rw (key-ready s u) (and_both _ _ (eq-eqb s.cell.used 3 u) (eq-eqb s.cell.turn s.cell.turn refl))

pub sits-key : (s : Slot) → Use s → sits (key_of s.cell) s.cell.index s ≡ true
sits-key s u = sits-of (key_of s.cell) s.cell.index s ∙ and_both _ _ (of-key s u) (eq-eqb s.cell.index s.cell.index refl)

pub key-back : (k : Key) (s : Slot) → of k s ≡ true → key_of s.cell ≡ k
key-back (open_as id) s e = key-open s (of-used (open_as id) s e) ∙ ap open_as (open_of id s e).1
key-back (held_as c o) s e = let p = of-held c o s e in key-held s (of-used (held_as c o) s e) ∙ cc (p.0, p.1)
key-back (ready_as t) s e = key-ready s (of-used (ready_as t) s e) ∙ ap ready_as (ready_of t s e).1

-- ---- a key's number
pub number-open : (s : Slot) → s.cell.used ≡ 1 → key_rank s.cell ≡ s.cell.id
unfolding key_rank
number-open s u = sym (eq_yes s.cell.used 1 s.cell.id s.cell.id _ u refl)

number-held-mod : (s : Slot) → s.cell.used ≡ 2 → key_rank s.cell
    ≡ 4294967296 + (s.cell.channel % max_ord_chans * numbers24 + s.cell.order % numbers24)
unfolding key_rank
number-held-mod s u =
    let x = 4294967296 + (s.cell.channel % max_ord_chans * numbers24 + s.cell.order % numbers24) in
    sym (eq_no s.cell.used 1 x s.cell.id (if_eq s.cell.used 2 x (8589934592 + s.cell.turn)) (λ q. omega arith)
    (eq_yes s.cell.used 2 x x (8589934592 + s.cell.turn) u refl))

pub number-ready : (s : Slot) → s.cell.used ≡ 3 → key_rank s.cell ≡ 8589934592 + s.cell.turn
unfolding key_rank
number-ready s u =
    let x = 4294967296 + (s.cell.channel % max_ord_chans * numbers24 + s.cell.order % numbers24) in
    let y = 8589934592 + s.cell.turn in
    sym (eq_no s.cell.used 1 y s.cell.id (if_eq s.cell.used 2 x y) (λ q. omega arith) (eq_no s.cell.used 2 y x y (λ q. omega arith) refl))

pub number-held : (s : Slot) → Bounds s → s.cell.used ≡ 2 → key_rank s.cell ≡ 4294967296 + (s.cell.channel * numbers24 + s.cell.order)
number-held s b u =
    let m = number-held-mod s u in
    let c : s.cell.channel % max_ord_chans ≡ s.cell.channel = let h = b.channel in omega arith in
    let o : s.cell.order % numbers24 ≡ s.cell.order = let h = b.order in omega arith in
    m ∙ rw (c, o)

abbrev pub rank_of : Slot → ℕ
rank_of s = rank s.cell

pub rank-is : (s : Slot) → Bounds s → rank_of s ≡ key_rank s.cell * max_frags + s.cell.index
unfolding rank
rank-is s b = let i : s.cell.index % max_frags ≡ s.cell.index = let h = b.index in let k = b.count in omega arith in rw i

-- the same number, the same key
pub keys-same : (x y : Slot) → Bounds x → Bounds y → Use x → Use y → key_rank x.cell ≡ key_rank y.cell → key_of x.cell ≡ key_of y.cell
keys-same x y a b (is_open u) (is_open w) e =
    let p : x.cell.id ≡ y.cell.id = sym (number-open x u) ∙ (e ∙ number-open y w) in
    key-open x u ∙ (ap open_as p ∙ sym (key-open y w))
keys-same x y a b (is_open u) (is_held w) e = let p = number-open x u in let q = number-held y b w in let h = a.id in absurd (omega arith)
keys-same x y a b (is_open u) (is_ready w) e = let p = number-open x u in let q = number-ready y w in let h = a.id in absurd (omega arith)
keys-same x y a b (is_held u) (is_open w) e = let p = number-held x a u in let q = number-open y w in let h = b.id in absurd (omega arith)
keys-same x y a b (is_held u) (is_held w) e =
    let p = number-held x a u in
    let q = number-held y b w in
    let h = a.order in
    let k = b.order in
    let c : x.cell.channel ≡ y.cell.channel = omega arith in
    let o : x.cell.order ≡ y.cell.order = omega arith in
    let r : held_as x.cell.channel x.cell.order ≡ held_as y.cell.channel y.cell.order = cc (c, o) in
    key-held x u ∙ (r ∙ sym (key-held y w))
keys-same x y a b (is_held u) (is_ready w) e =
    let p = number-held x a u in let q = number-ready y w in let h = a.order in let k = a.channel in absurd (omega arith)
keys-same x y a b (is_ready u) (is_open w) e = let p = number-ready x u in let q = number-open y w in let h = b.id in absurd (omega arith)
keys-same x y a b (is_ready u) (is_held w) e =
    let p = number-ready x u in let q = number-held y b w in let h = b.order in let k = b.channel in absurd (omega arith)
keys-same x y a b (is_ready u) (is_ready w) e =
    let p = number-ready x u in
    let q = number-ready y w in
    let t : x.cell.turn ≡ y.cell.turn = omega arith in
    key-ready x u ∙ (ap ready_as t ∙ sym (key-ready y w))

-- and back
abbrev number_of : Key → ℕ
number_of (open_as id) = id
number_of (held_as c o) = 4294967296 + (c * numbers24 + o)
number_of (ready_as t) = 8589934592 + t

number-is : (s : Slot) → Bounds s → Use s → key_rank s.cell ≡ number_of (key_of s.cell)
number-is s b (is_open u) = rw (key-open s u) (number-open s u)
number-is s b (is_held u) = rw (key-held s u) (number-held s b u)
number-is s b (is_ready u) = rw (key-ready s u) (number-ready s u)

pub numbers-same : (x y : Slot) → Bounds x → Bounds y → Use x → Use y → key_of x.cell ≡ key_of y.cell → key_rank x.cell ≡ key_rank y.cell
numbers-same x y a b u w e = number-is x a u ∙ (ap number_of e ∙ sym (number-is y b w))

-- ---- the used cells in order
abbrev pub is_used : Slot → Bool
is_used s = not (is_free s)

unfoldable pub in_order : List Slot → List Slot
in_order l = sort_by rank_of (only is_used l)

pub used-not-free : (s : Slot) → is_used s ≡ true → is_free s ≡ false
used-not-free s e = cases (is_free s) (λ y. neither (is_used s) e (rw y refl)) (λ y. y)

pub not-free-used : (s : Slot) → is_free s ≡ false → is_used s ≡ true
not-free-used s e = rw e

pub used-some : (s : Slot) → is_used s ≡ true → s.cell.used ≡ 0 → ⊥
unfolding is_free
used-some s e = eqb-false s.cell.used 0 (used-not-free s e)

module _ (l : List Slot) (v : Core l) (few : (s : Slot) → Memᴰ s l → s.cell.used ≤ 3) where
  pub its-bounds : (s : Slot) → Memᴰ s l → is_used s ≡ true → Bounds s
  its-bounds s m e = v.bounds s m (used-not-free s e)

  pub its-use : (s : Slot) → Memᴰ s l → is_used s ≡ true → Use s
  its-use s m e = use-of s (used-not-free s e) (few s m)

  twin-sits : (x y : Slot) → Memᴰ x l → Memᴰ y l → is_used x ≡ true → is_used y ≡ true → rank_of y ≡ rank_of x
      → sits (key_of x.cell) x.cell.index y ≡ true
  twin-sits x y m n e f q =
      let a = its-bounds x m e in
      let b = its-bounds y n f in
      let p = rank-is x a in
      let r = rank-is y b in
      let ai = a.index in
      let ac = a.count in
      let bi = b.index in
      let bc = b.count in
      let k : key_rank y.cell ≡ key_rank x.cell = omega arith in
      let i : y.cell.index ≡ x.cell.index = omega arith in
      let s = keys-same y x b a (its-use y n f) (its-use x m e) k in
      subst (λ (j : ℕ). sits (key_of x.cell) j y ≡ true) i
      (subst (λ (z : Key). sits z y.cell.index y ≡ true) s (sits-key y (its-use y n f)))

  pub ranks-apart : Apart rank_of (only is_used l)
  ranks-apart = apart-only rank_of is_used l (λ x m e. fewer x m e)
    where
      fewer : (x : Slot) → Memᴰ x l → is_used x ≡ true → count_of (λ y. is_used y && eqb (rank_of y) (rank_of x)) l ≤ 1
      fewer x m e =
          let a = v.unique (key_of x.cell) x.cell.index in
          let b = count-le (λ y. is_used y && eqb (rank_of y) (rank_of x)) (sits (key_of x.cell) x.cell.index) l
          (λ y n t. twin-sits x y m n e (and_left (is_used y) _ t) (eqb-true _ _ (and_right (is_used y) _ t))) in
          omega arith

  pub order-rising : Rising rank_of (in_order l)
  unfolding in_order
  order-rising = sort-rising rank_of (only is_used l) ranks-apart

  pub order-in : (x : Slot) → Memᴰ x (in_order l) → Memᴰ x l × (is_used x ≡ true)
  unfolding in_order
  order-in x m = only-in is_used l x (sort-in rank_of (only is_used l) x m)

  pub in-the-order : (x : Slot) → Memᴰ x l → is_used x ≡ true → Memᴰ x (in_order l)
  unfolding in_order
  in-the-order x m e = in-sort rank_of (only is_used l) x (in-only is_used l x m e)
