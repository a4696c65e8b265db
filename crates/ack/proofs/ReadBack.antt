-- Records read back from their bytes, whatever stands before and after them.
-- Assumes nothing.
use mathlib.Core.Path.{◌≡◌, ◌∙◌, sym, ap, refl}
use mathlib.Core.Bool.{Bool, true, false}
use mathlib.Core.List.{List, [], ◌∷◌, ◌++◌, append_assoc}
use mathlib.Core.Logic.{⊎_elim}
use Rattle.std.specs.Prelude.{Option}
use Prim.Native.Nat.{ℕ, suc, ◌+◌, ◌-◌, ◌<◌, ◌≤◌}
use native.Mathlib.Nat.{le_refl}
use native.Mathlib.Omega.{arith}
use lib.ListN.{length, length-append}
use Rattle.base.specs.Answer.{Answer, gives}
use Rattle.base.specs.Bytes.{be16, le24, be16_bytes, le24_bytes}
use Rattle.base.specs.Limits.{numbers24, max_list}
use Rattle.base.specs.If.{if_true}
use Rattle.base.specs.Put.{and_then}
use Rattle.base.proofs.Ifs.{lt_no, le-no, eq_yes, eq_no}
use Rattle.base.proofs.Digits.{digits16, digits24, byte-first, le24-shift}
use Rattle.ack.specs.declared.Record.{Record}
use Rattle.ack.specs.declared.Record.TheVariants.{Single, Range}
use Rattle.ack.specs.declared.AckCursor.{AckCursor}
use Rattle.ack.specs.declared.Step.{Step}
use Rattle.ack.specs.Records.{single, range, single_size, range_size, last_of, record_bytes, records_bytes, runs, ProperRecord, AllProper}
use Rattle.ack.specs.Read.{ack_header_size, cursor, read_header_of, next, none_left, read_single, read_range, read_record_of}
use Rattle.ack.specs.Read.{Reading, read_on, read_all}
use Rattle.ack.specs.Write.{id_of, ack_header_bytes, list_bytes, some_over}
use Rattle.base.proofs.IfCases.{le-cases}
use Rattle.ack.proofs.Grown.{Grown, alone, joins, stands, grown}
use Rattle.ack.proofs.RunLaws.{runs-proper}

-- ---- one record, after u and before t
module _ (u t : List ℕ) (n : ℕ) where
  one_less : suc n - 1 ≡ n
  one_less = omega arith

  read-single : (x : ℕ) → x < numbers24 → read_record_of (u ++ (record_bytes (single x) ++ t)) (cursor (length u) (suc n))
      ≡ gives (next (single x) (cursor (length u + single_size) n))
  unfolding read_record_of read_single record_bytes le24_bytes le24
  read-single x h =
      let s = record_bytes (single x) ++ t in
      let e : le24 (u ++ s) (length u + 1) ≡ x = le24-shift u s 1 ∙ digits24 x h in
      sym
      (eq_no _ _ _ _ _ (omega arith)
      (le-no _ _ _ _ _ (simp length-append (omega arith))
      (eq_yes _ _ _ _ _ (byte-first u s)
      (lt_no _ _ _ _ _ (simp length-append (omega arith)) (rw (e, one_less))))))

  read-range : (x y : ℕ) → x < y → y < numbers24
      → read_record_of (u ++ (record_bytes (range x y) ++ t)) (cursor (length u) (suc n))
      ≡ gives (next (range x y) (cursor (length u + range_size) n))
  unfolding read_record_of read_range record_bytes le24_bytes le24 and_then
  read-range x y h k =
      let s = record_bytes (range x y) ++ t in
      let e : le24 (u ++ s) (length u + 1) ≡ x = le24-shift u s 1 ∙ digits24 x (omega arith) in
      let f : le24 (u ++ s) (length u + 4) ≡ y = le24-shift u s 4 ∙ digits24 y k in
      sym
      (eq_no _ _ _ _ _ (omega arith)
      (le-no _ _ _ _ _ (simp length-append (omega arith))
      (eq_no _ _ _ _ _ (omega (arith, byte-first u s))
      (eq_yes _ _ _ _ _ (byte-first u s)
      (lt_no _ _ _ _ _ (simp length-append (omega arith))
      (lt_no _ _ _ _ _ (omega arith) (rw (e, f, one_less))))))))

  read_one : (r : Record) → ProperRecord r → last_of r < numbers24
      → read_record_of (u ++ (record_bytes r ++ t)) (cursor (length u) (suc n)) ≡ gives (next r (cursor (length (u ++ record_bytes r)) n))
  unfolding ProperRecord last_of record_bytes le24_bytes and_then
  read_one (Single r) p h = rw (length-append u (record_bytes (Single r))) (read-single r.sequence h)
  read_one (Range r) p h = rw (length-append u (record_bytes (Range r))) (read-range r.start r.end p h)

-- ---- all of them
AllBelow : List Record → Type 0
AllBelow [] = Unit
AllBelow (r ∷ rs) = (last_of r < numbers24) × AllBelow rs

read-further : (s : List ℕ) (k : ℕ) (c d : AckCursor) (r : Record) (z : Reading) → read_record_of s c ≡ gives (next r d)
    → read_all k s d ≡ z → read_all (suc k) s c ≡ record { records = r ∷ z.records; stop = z.stop }
unfolding read_all read_on
read-further s k c d r z e f =
    ap (λ (a : Answer (Option Step)). read_on a (λ d. read_all k s d)) e
    ∙ ap (λ (y : Reading). record { records = r ∷ y.records; stop = y.stop }) f

read-records : (rs : List Record) (u t : List ℕ) → AllProper rs → AllBelow rs
    → read_all (length rs) (u ++ (records_bytes rs ++ t)) (cursor (length u) (length rs)) ≡ record { records = rs; stop = gives none_left }
unfolding read_all read_record_of records_bytes AllProper AllBelow and_then
read-records [] u t p b = ap (λ (a : Answer (Option Step)). record { records = []; stop = a }) (sym (eq_yes _ _ _ _ _ refl refl))
read-records (r ∷ rs) u t p b =
    let rest = records_bytes rs ++ t in
    let e : u ++ ((record_bytes r ++ records_bytes rs) ++ t) ≡ u ++ (record_bytes r ++ rest) =
    ap (λ (w : List ℕ). u ++ w) (append_assoc (record_bytes r) (records_bytes rs) t) in
    let f : (u ++ record_bytes r) ++ rest ≡ u ++ (record_bytes r ++ rest) = append_assoc u (record_bytes r) rest in
    rw e
    (read-further (u ++ (record_bytes r ++ rest)) (length rs) _ (cursor (length (u ++ record_bytes r)) (length rs)) r
    (record { records = rs; stop = gives none_left })
    (read_one u rest (length rs) r p.0 b.0)
    (rw f at (read-records rs (u ++ record_bytes r) t p.1 b.1)))

grown-below : {x : ℕ} {rs gs : List Record} → Grown x rs gs → x < numbers24 → AllBelow rs → AllBelow gs
unfolding AllBelow last_of
grown-below alone h b = (h, tt)
grown-below (joins r rs e) h b = b
grown-below (stands r rs n) h b = (h, b)

runs-below : (l : List ℕ) → some_over l ≡ false → AllBelow (runs l)
unfolding runs AllBelow some_over
runs-below [] o = tt
runs-below (x ∷ l) o =
    ⊎_elim
    (λ c. absurd (let z : ◌≡◌ {A = ℕ} 0 1 = cc in omega arith))
    (λ c. grown-below (grown x (runs l)) c.0 (runs-below l (sym c.1 ∙ o)))
    (le-cases numbers24 x true (some_over l))

grown-length : {x : ℕ} {rs gs : List Record} → Grown x rs gs → length gs ≤ suc (length rs)
grown-length alone = omega arith
grown-length (joins r rs e) = omega arith
grown-length (stands r rs n) = omega arith

runs-length : (l : List ℕ) → length (runs l) ≤ length l
unfolding runs
runs-length [] = le_refl 0
runs-length (x ∷ l) = let h = grown-length (grown x (runs l)) in let k = runs-length l in omega arith

-- ---- the header
read-header : (nack : Bool) (n : ℕ) (t : List ℕ) → n < 65536 → read_header_of (ack_header_bytes nack n ++ t)
    ≡ gives (record { nack = nack; records = cursor ack_header_size n })
unfolding read_header_of ack_header_bytes id_of if_true be16_bytes be16
read-header false n t h = sym (lt_no _ _ _ _ _ (omega arith) (eq_yes _ _ _ _ _ refl (rw (digits16 n h))))
read-header true n t h = sym (lt_no _ _ _ _ _ (omega arith) (eq_no _ _ _ _ _ (omega arith) (eq_yes _ _ _ _ _ refl (rw (digits16 n h)))))

-- ---- an ACK or NACK that was written, with any bytes after it
module _ (nack : Bool) (l : List ℕ) (h : length l ≤ max_list) (o : some_over l ≡ false) (t : List ℕ) where
  abbrev start : AckCursor
  start = cursor ack_header_size (length (runs l))

  bytes_apart : list_bytes nack l ++ t ≡ ack_header_bytes nack (length (runs l)) ++ (records_bytes (runs l) ++ t)
  unfolding list_bytes and_then
  bytes_apart = append_assoc (ack_header_bytes nack (length (runs l))) (records_bytes (runs l)) t

  -- its header tells which of the two it is, and as many records as the list has runs
  pub bytes-header : read_header_of (list_bytes nack l ++ t) ≡ gives (record { nack = nack; records = start })
  bytes-header = let k = runs-length l in rw bytes_apart (read-header nack (length (runs l)) (records_bytes (runs l) ++ t) (omega arith))

  -- and step by step its records are the list's runs, in order, and then none is left
  pub bytes-records : read_all (length (runs l)) (list_bytes nack l ++ t) start ≡ record { records = runs l; stop = gives none_left }
  unfolding ack_header_bytes be16_bytes
  bytes-records = rw bytes_apart (read-records (runs l) (ack_header_bytes nack (length (runs l))) t (runs-proper l) (runs-below l o))
