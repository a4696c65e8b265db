-- An open piece's row.
-- Assumes nothing.
use Prim.Native.Nat.{ℕ, zero, suc, ◌+◌, ◌*◌, ◌≤◌, ◌<◌}
use mathlib.Core.Path.{◌≡◌, refl, sym, ◌∙◌, ap}
use mathlib.Core.Bool.{Bool, true, false, true≢false, false≢true}
use mathlib.Core.List.{List}
use native.Mathlib.Omega.{arith}
use lib.Dec.{ltb, leb}
use lib.ListN.{length, take, drop, length-take, length-drop}
use borrow.Author.Tests.{ltb-true, leb-true, leb-false, lt-ltb}
use Rattle.base.specs.Bytes.{be64}
use Rattle.base.specs.Lists.{below}
use Rattle.base.proofs.Lists.{below_at, below_all}
use Rattle.cells.specs.Store.{cell_size}
use Rattle.image.specs.Slots.{piece_slot}
use Rattle.image.specs.Entries.{piece_rank}
use Rattle.rows.specs.declared.Row.{Row}
use Rattle.image_read.specs.At.{body_at, body_end, piece_at, piece_end}
use Rattle.std.specs.Prelude.{Option}
use Rattle.cells.specs.Cell.{Cell}
use Rattle.recv_restore.specs.Fits.{PieceFits, PieceCan, piece_cells}
use Rattle.recv_restore.specs.Filling.{TestOf, RowOf, PutRow, Fills}
use Rattle.recv_restore.specs.declared.filling.Filled.{Filled}
use Rattle.recv_restore.proofs.Rows.{put-fills}

-- ---- a body that stands whole
pub body-length : (s : List ℕ) (p : ℕ) → body_end s p ≤ length s → length (body_at s p) ≡ be64 s p
unfolding body_at body_end
body-length s p le = simp (length-take, length-drop) (omega arith)

pub body-again : (s : List ℕ) (p q : ℕ) → p + 8 ≡ q → body_end s p ≤ length s → body_at s p ≡ take (length (body_at s p)) (drop q s)
unfolding body_at
body-again s p q e le = ap (λ (n : ℕ). take n (drop (p + 8) s)) (sym (body-length s p le))
    ∙ ap (λ (x : ℕ). take (length (body_at s p)) (drop x s)) e

-- numbers from a place on, all narrow
pub narrow-at : (s : List ℕ) (p n i q : ℕ) → below n (λ j. ltb (be64 s (p + 8 * j)) 4294967296) ≡ true → i < n → p + 8 * i ≡ q
    → be64 s q < 4294967296
narrow-at s p n i q e lt k = rw (← k) (ltb-true _ _ (below_at n (λ j. ltb (be64 s (p + 8 * j)) 4294967296) e i lt))

module _ (s : List ℕ) (p : ℕ) (within : piece_end s p ≤ length s) where
  body-is : length (body_at s (p + 64)) ≡ be64 s (p + 64)
  body-is = body-length s (p + 64) (unfold piece_end in within)

  test : ℕ → Bool
  test j = ltb (be64 s (p + 8 * j)) 4294967296

  number : (q i : ℕ) → p + 8 * i ≡ q → be64 s q < 4294967296 → test i ≡ true
  unfolding test
  number q i e lt = lt-ltb _ _ (rw e lt)

  all-narrow : PieceFits (piece_at s p) → (i : ℕ) → i < 7 → test i ≡ true
  unfolding piece_at
  all-narrow f zero lt = number p 0 (omega arith) f.id
  all-narrow f (suc zero) lt = number (p + 8) 1 (omega arith) f.index
  all-narrow f (suc (suc zero)) lt = number (p + 16) 2 (omega arith) f.count
  all-narrow f (suc (suc (suc zero))) lt = number (p + 24) 3 (omega arith) f.kind
  all-narrow f (suc (suc (suc (suc zero)))) lt = number (p + 32) 4 (omega arith) f.sequence
  all-narrow f (suc (suc (suc (suc (suc zero))))) lt = number (p + 40) 5 (omega arith) f.order
  all-narrow f (suc (suc (suc (suc (suc (suc zero)))))) lt = number (p + 48) 6 (omega arith) f.channel
  all-narrow f (suc (suc (suc (suc (suc (suc (suc i))))))) lt = absurd (omega arith)

  module _ (b : Bool) (is : b ≡ below 7 (λ j. ltb (be64 s (p + 8 * j)) 4294967296)) where
    pub wide-piece : b ≡ false → TestOf b (PieceFits (piece_at s p))
    unfolding TestOf test
    wide-piece e = (λ t. absurd (true≢false (sym t ∙ e)), λ _ f. false≢true (sym e ∙ (is ∙ below_all 7 test (all-narrow f))))

    pub narrow-piece : b ≡ true → (n : ℕ) → n ≡ be64 s (p + 64) → TestOf (leb n 1500) (PieceFits (piece_at s p))
    unfolding TestOf piece_at
    narrow-piece t n e =
        let all = sym is ∙ t in (
          λ le. record {
            id = narrow-at s p 7 0 p all (omega arith) (omega arith);
            index = narrow-at s p 7 1 (p + 8) all (omega arith) (omega arith);
            count = narrow-at s p 7 2 (p + 16) all (omega arith) (omega arith);
            kind = narrow-at s p 7 3 (p + 24) all (omega arith) (omega arith);
            sequence = narrow-at s p 7 4 (p + 32) all (omega arith) (omega arith);
            order = narrow-at s p 7 5 (p + 40) all (omega arith) (omega arith);
            channel = narrow-at s p 7 6 (p + 48) all (omega arith) (omega arith);
            body = let a = leb-true n 1500 le in omega (arith, body-is);
          },
          λ no f. let a = leb-false n 1500 no in let c = f.body in absurd (omega (arith, body-is)),
        )

  -- the row
  module _ (f : PieceFits (piece_at s p)) where
    pub piece-row-is : (kind channel id index count len sequence order age place : ℕ)
        → (be64 s (p + 24) < 4294967296 → kind ≡ be64 s (p + 24)) → (be64 s (p + 48) < 4294967296 → channel ≡ be64 s (p + 48))
        → (be64 s p < 4294967296 → id ≡ be64 s p) → (be64 s (p + 8) < 4294967296 → index ≡ be64 s (p + 8))
        → (be64 s (p + 16) < 4294967296 → count ≡ be64 s (p + 16)) → (be64 s (p + 64) < 4294967296 → len ≡ be64 s (p + 64))
        → (be64 s (p + 32) < 4294967296 → sequence ≡ be64 s (p + 32)) → (be64 s (p + 40) < 4294967296 → order ≡ be64 s (p + 40))
        → age ≡ be64 s (p + 56) → place ≡ p + 73
        → RowOf s (p + 72) (piece_slot (piece_at s p)) (record {
          cell = record {
            used = 1;
            kind = kind;
            channel = channel;
            id = id;
            index = index;
            count = count;
            length = len;
            sequence = sequence;
            order = order;
            turn = 0;
            age = age;
          };
          place = place;
        })
    unfolding piece_slot piece_at
    piece-row-is kind channel id index count len sequence order age place e1 e2 e3 e4 e5 e6 e7 e8 e9 e10 =
        let a1 = e1 f.kind in let a2 = e2 f.channel in let a3 = e3 f.id in let a4 = e4 f.index in let a5 = e5 f.count in
        let a6 : len ≡ length (body_at s (p + 64)) = e6 (let c = f.body in omega (arith, body-is)) ∙ sym body-is in
        let a7 = e7 f.sequence in let a8 = e8 f.order in
        record {
          cell = λ k. record {
            used = 1;
            kind = a1 k;
            channel = a2 k;
            id = a3 k;
            index = a4 k;
            count = a5 k;
            length = a6 k;
            sequence = a7 k;
            order = a8 k;
            turn = 0;
            age = e9 k;
          };
          place = omega arith;
          body = body-again s (p + 64) (p + 72) (omega arith) (unfold piece_end in within);
        }

-- ---- the piece put
module _ (s : List ℕ) (p : ℕ) where
  pub ranked : (r : ℕ) → (be64 s p < 4294967296 → be64 s (p + 8) < 4294967296 → r ≡ be64 s p * 1024 + be64 s (p + 8))
      → PieceFits (piece_at s p)
      → r ≡ piece_rank (piece_at s p)
  unfolding piece_at
  ranked r h f = h f.id f.index

  pub low-rank : (r least : ℕ) → (be64 s p < 4294967296 → be64 s (p + 8) < 4294967296 → r ≡ be64 s p * 1024 + be64 s (p + 8)) → r < least
      → PieceCan least (piece_at s p) → ⊥
  low-rank r least h lt c = let e = ranked r h c.0 in let le = c.1 in omega arith

module _ (least : ℕ) (s : List ℕ) (rows : List Row) (at : Filled) where
  pub piece-put : piece_end s at.place ≤ length s → PieceCan least (piece_at s at.place) → (row : Row)
      → RowOf s (at.place + 72) (piece_slot (piece_at s at.place)) row → (rows' : List Row) (f : Option Filled)
      → PutRow rows at row (at.place + 72 + row.cell.length) rows' f
      → Fills 1600 (PieceCan least (piece_at s at.place)) (piece_cells least (piece_at s at.place)) (piece_end s at.place) s rows at rows' f
  unfolding piece_slot cell_size
  piece-put within c row w rows' f h =
      let n : row.cell.length ≡ length (piece_at s at.place).body = ap (λ (z : Cell). z.length) w.cell in
      let short = c.0.body in
      let len : length (piece_at s at.place).body ≡ be64 s (at.place + 64) = unfold piece_at in body-is s at.place within in
      let end : piece_end s at.place ≡ at.place + 64 + 8 + be64 s (at.place + 64) = unfold piece_end body_end in refl in
      put-fills 1600 (PieceCan least (piece_at s at.place)) (piece_slot (piece_at s at.place)) (at.place + 72)
      (piece_end s at.place) s rows at row rows' f
      c w (λ z. omega arith) short (omega arith) (at.place + 72 + row.cell.length) (omega arith) (omega arith) h
