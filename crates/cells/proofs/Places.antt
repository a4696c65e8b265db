-- For the code: a slot that is put is a record and a body written at a place; a slot that is read is a record and bytes at a place.
-- Assumes nothing.
use Prim.Native.Nat.{ℕ, zero, suc, ◌+◌, ◌*◌, ◌≤◌, ◌<◌}
use mathlib.Core.Path.{◌≡◌, refl, sym, ◌∙◌, ap}
use mathlib.Core.Bool.{Bool, true, false, cond, ◌||◌, false≢true}
use mathlib.Core.List.Memᴰ
use mathlib.Core.List.{List, [], ◌∷◌, ◌++◌, append_assoc}
use native.Mathlib.Nat.{mul-le-mul_right, suc-mul}
use native.Mathlib.Omega.{arith}
use lib.ListN.{length, get_or, set, take, drop}
use lib.Seq.{drop-append-add, drop-append-le, drop-drop, take-append-add}
use Rattle.base.specs.Put.{put}
use Rattle.base.specs.Lists.{any}
use Rattle.base.proofs.Puts.{put-split}
use Rattle.cells.specs.Records.{unused_at}
use Rattle.cells.specs.Cell.{Cell, Slot, is_free, put_slot}
use Rattle.cells.specs.Store.{cell_size, cell_body, slots_of, cells_of, laid, store_of}
use Rattle.cells.proofs.Store.{Sized, AllSized, laid-length, room-one, first-length, store_length}

pub put-set : (x : Slot) (l : List Slot) → put_slot x l ≡ set l (unused_at (cells_of l)) x
unfolding put_slot unused_at cells_of is_free
put-set x [] = refl
put-set x (s ∷ l) = go (is_free s) (put-set x l)
  where
    go : (t : Bool) → put_slot x l ≡ set l (unused_at (cells_of l)) x → cond t (x ∷ l) (s ∷ put_slot x l)
        ≡ set (s ∷ l) (cond t 0 (suc (unused_at (cells_of l)))) x
    go true e = refl
    go false e = ap {B = List Slot} (λ r. s ∷ r) e

unused-below : (l : List Slot) → any is_free l ≡ true → unused_at (cells_of l) < length l
unfolding any unused_at cells_of is_free
unused-below [] r = absurd (false≢true r)
unused-below (s ∷ l) r = go (is_free s) r (λ t. unused-below l t)
  where
    go : (t : Bool) → (t || any is_free l) ≡ true → (any is_free l ≡ true → unused_at (cells_of l) < length l)
        → cond t 0 (suc (unused_at (cells_of l))) < suc (length l)
    go true r k = omega arith
    go false r k = let p = k r in omega arith

-- The bytes with a body laid over them from place a on.
overlay : List ℕ → ℕ → List ℕ → List ℕ
overlay bytes a body = take a bytes ++ (body ++ drop (a + length body) bytes)

overlay-after : (front back body : List ℕ) (a : ℕ) → overlay (front ++ back) (length front + a) body ≡ front ++ overlay back a body
unfolding overlay
overlay-after front back body a = let e : length front + a + length body ≡ length front + (a + length body) = omega arith in
    rw (e, take-append-add, drop-append-add, append_assoc)

overlay-here : (bytes back body : List ℕ) → length body ≤ length bytes → overlay (bytes ++ back) 0 body ≡ (body ++ drop (length body) bytes)
    ++ back
unfolding overlay
overlay-here bytes back body le = let e : 0 + length body ≡ length body = omega arith in rw (e, drop-append-le (length body) bytes back le)
    (sym (append_assoc body (drop (length body) bytes) back))

laid-free : (s : Slot) (bytes : List ℕ) → is_free s ≡ true → laid s bytes ≡ bytes
unfolding laid
laid-free s bytes e = rw e

laid-used : (s : Slot) (bytes : List ℕ) → is_free s ≡ false → laid s bytes ≡ s.body ++ drop (length s.body) bytes
unfolding laid
laid-used s bytes e = rw e

module _ (x : Slot) (used : is_free x ≡ false) (z : Sized x) where
  overlaid : (l : List Slot) (store : List ℕ) → AllSized l → any is_free l ≡ true → length l * cell_size ≤ length store
      → store_of store (put_slot x l) ≡ overlay (store_of store l) (unused_at (cells_of l) * cell_size) x.body
  unfolding put_slot unused_at cells_of store_of any is_free
  overlaid [] store zs r le = absurd (false≢true r)
  overlaid (s ∷ l) store zs r le =
      let w = room-one (length l) cell_size store le in
      go (is_free s) refl r w.0 (λ t. overlaid l (drop cell_size store) (λ y m. zs y (Memᴰ.tail m)) t w.1)
    where
      go : (t : Bool) → is_free s ≡ t → (t || any is_free l) ≡ true → cell_size ≤ length store
          → (any is_free l ≡ true → store_of (drop cell_size store) (put_slot x l) ≡ overlay (store_of (drop cell_size store) l)
          (unused_at (cells_of l) * cell_size) x.body)
          → store_of store (cond t (x ∷ l) (s ∷ put_slot x l))
          ≡ overlay (laid s (take cell_size store) ++ store_of (drop cell_size store) l)
          (cond t 0 (suc (unused_at (cells_of l))) * cell_size) x.body
      go true t r a k =
          let e : 0 * cell_size ≡ 0 = omega arith in
          let q = first-length store a in
          let y = z.fits used in
          rw (e, laid-free s (take cell_size store) t, laid-used x (take cell_size store) used)
          (sym (overlay-here (take cell_size store) (store_of (drop cell_size store) l) x.body (omega arith)))
      go false t r a k =
          let n = laid-length s (take cell_size store) (zs s (Memᴰ.head refl)) (first-length store a) in
          let m = suc-mul (unused_at (cells_of l)) cell_size in
          let e : suc (unused_at (cells_of l)) * cell_size ≡ length (laid s (take cell_size store)) + unused_at (cells_of l) * cell_size =
          omega arith in
          rw (k r, e) (sym (overlay-after (laid s (take cell_size store)) (store_of (drop cell_size store) l) x.body
          (unused_at (cells_of l) * cell_size)))

  -- A slot that is put writes its body at the place of the lowest-numbered unused cell, and no other byte.
  pub put-store : (l : List Slot) (store : List ℕ) → AllSized l → any is_free l ≡ true → length l * cell_size ≤ length store
      → store_of store (put_slot x l) ≡ put (store_of store l) (unused_at (cells_of l) * cell_size) x.body
  unfolding overlay
  put-store l store zs r le =
      let a = z.fits used in
      let b = mul-le-mul_right cell_size (unused-below l r) in
      let m = suc-mul (unused_at (cells_of l)) cell_size in
      let n = store_length l store zs le in
      overlaid l store zs r le ∙ sym (put-split (store_of store l) (unused_at (cells_of l) * cell_size) x.body (omega arith))

-- The slot at a place.
pub slot_at : (cs : List Cell) (store : List ℕ) (i : ℕ) → i < length cs → (d : Slot) (c : Cell) → get_or (slots_of cs store) i d
    ≡ record { cell = get_or cs i c; body = cell_body (get_or cs i c) (drop (i * cell_size) store) }
unfolding slots_of
slot_at [] store i lt d c = absurd (omega arith)
slot_at (k ∷ cs) store zero lt d c = let e : 0 * cell_size ≡ 0 = omega arith in rw e
slot_at (k ∷ cs) store (suc i) lt d c =
    let m = suc-mul i cell_size in
    let e : suc i * cell_size ≡ cell_size + i * cell_size = omega arith in
    slot_at cs (drop cell_size store) i (omega arith) d c ∙ rw (e, drop-drop)
