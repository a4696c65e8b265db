-- The laws of writing a list, over the answer and the output of the definitions that `write_list` promises.
-- Assumes nothing.
use mathlib.Core.Path.{◌≡◌, ◌∙◌, sym, ap, refl}
use mathlib.Core.Bool.{Bool, true, false}
use mathlib.Core.List.{List, ◌++◌}
use Prim.Native.Nat.{ℕ, ◌+◌, ◌<◌, ◌≤◌}
use native.Mathlib.Decide.{dec_lt}
use native.Mathlib.Omega.{arith}
use lib.ListN.{length, drop}
use Rattle.base.specs.Answer.{Answer, refused, gives}
use Rattle.base.specs.Put.{put}
use Rattle.base.proofs.Puts.{put-split}
use Rattle.ack.specs.Records.{numbers_of, runs}
use Rattle.ack.specs.Read.{ack_header_size, cursor, read_header_of, none_left, Reading, read_all}
use Rattle.ack.specs.Write.{list_bytes, too_large, ascending, write_list_of, written_of}
use Rattle.ack.proofs.WriteCases.{not-large, too_large_lem, not-ascending, too_short, fits}
use Rattle.ack.proofs.RunLaws.{runs-name}
use Rattle.ack.proofs.ReadBack.{bytes-header, bytes-records}

-- a list that is written: not too large, strictly ascending, and n bytes, for which there is room
pub record Writable (room : ℕ) (nack : Bool) (l : List ℕ) (n : ℕ) : Type 0 where
  pub small : too_large l ≡ false
  pub ordered : ascending l ≡ true
  pub size : n ≡ length (list_bytes nack l)
  pub fitting : n ≤ room

-- whatever holds of each refusal with the output as it was, and of a list written with its bytes in the output, holds of the call
pub write-cases : (P : Answer ℕ → List ℕ → Type 0) (out : List ℕ) (nack : Bool) (l : List ℕ) → P (refused 13) out → P (refused 14) out
    → P (refused 12) out
    → ((n : ℕ) → Writable (length out) nack l n → P (gives n) (put out 0 (list_bytes nack l))) → P (write_list_of (length out) nack l)
    (written_of out nack l)
unfolding write_list_of written_of
write-cases P out nack l large disordered short written = by-large (too_large l) refl
  where
    Goal : Type 0
    Goal = P (write_list_of (length out) nack l) (written_of out nack l)

    n : ℕ
    n = length (list_bytes nack l)

    moved : (a : Answer ℕ) (m : List ℕ) → a ≡ write_list_of (length out) nack l → m ≡ written_of out nack l → P a m → Goal
    moved a m e f p = rw (← e, ← f) p

    by-room : too_large l ≡ false → ascending l ≡ true → Dec (length out < n) → Goal
    by-room o a (yes r) = moved _ _ (too_short _ nack l _ _ _ _ _ refl o _ refl a r) (too_short _ nack l _ _ _ _ _ refl o _ refl a r) short
    by-room o a (no s) =
        let r : length (list_bytes nack l) ≤ length out = omega arith in
        moved _ _ (fits _ nack l _ _ _ _ _ refl o _ refl a r) (fits _ nack l _ _ _ _ _ refl o _ refl a r)
        (written n (record { small = o; ordered = a; size = refl; fitting = r }))

    by_order : too_large l ≡ false → (b : Bool) → ascending l ≡ b → Goal
    by_order o true a = by-room o a (dec_lt (length out) n)
    by_order o false a = moved _ _ (not-ascending _ nack l _ _ _ _ _ refl o _ refl a) (not-ascending _ nack l _ _ _ _ _ refl o _ refl a)
        disordered

    by-large : (b : Bool) → too_large l ≡ b → Goal
    by-large true o = moved _ _ (too_large_lem _ nack l _ _ _ _ _ refl o) (too_large_lem _ nack l _ _ _ _ _ refl o) large
    by-large false o = by_order o (ascending l) refl

told-apart : {A : Type 0} {x : A} {k : ℕ} → gives x ≡ refused k → ⊥
told-apart e = let z : ◌≡◌ {A = ℕ} 0 1 = cc in omega arith

-- a refusal leaves the output as it was
pub refused-writes-nothing : (out : List ℕ) (nack : Bool) (l : List ℕ) (k : ℕ) → write_list_of (length out) nack l ≡ refused k
    → written_of out nack l ≡ out
refused-writes-nothing out nack l k =
    write-cases (λ (a : Answer ℕ) (m : List ℕ). a ≡ refused k → m ≡ out) out nack l (λ e. refl) (λ e. refl) (λ e. refl)
    (λ n w e. absurd (told-apart e))

-- a list that is written is writable, and the answer is how many bytes it takes
pub written-only-if : (out : List ℕ) (nack : Bool) (l : List ℕ) (n : ℕ) → write_list_of (length out) nack l ≡ gives n
    → Writable (length out) nack l n
written-only-if out nack l n =
    write-cases (λ (a : Answer ℕ) (m : List ℕ). a ≡ gives n → Writable (length out) nack l n) out nack l
    (λ e. absurd (told-apart (sym e)))
    (λ e. absurd (told-apart (sym e)))
    (λ e. absurd (told-apart (sym e)))
    (λ k w e. let f : k ≡ n = cc in (rw f at w))

-- the output begins with the list's bytes; those after them keep their values
pub written-bytes : (out : List ℕ) (nack : Bool) (l : List ℕ) (n : ℕ) → write_list_of (length out) nack l ≡ gives n → written_of out nack l
    ≡ list_bytes nack l ++ drop n out
written-bytes out nack l n =
    write-cases (λ (a : Answer ℕ) (m : List ℕ). a ≡ gives n → m ≡ list_bytes nack l ++ drop n out) out nack l
    (λ e. absurd (told-apart (sym e)))
    (λ e. absurd (told-apart (sym e)))
    (λ e. absurd (told-apart (sym e)))
    (λ k w e.
    let f : k ≡ n = cc in
    let size : 0 + length (list_bytes nack l) ≡ n = omega (arith, w.size) in
    put-split out 0 (list_bytes nack l) (omega (arith, w.fitting)) ∙ ap (λ (j : ℕ). list_bytes nack l ++ drop j out) size)

module _ (out : List ℕ) (nack : Bool) (l : List ℕ) (n : ℕ) (e : write_list_of (length out) nack l ≡ gives n) where
  -- reading the output's header tells ACK or NACK as it was written, and as many records as the list has runs
  pub read-back-header : read_header_of (written_of out nack l)
      ≡ gives (record { nack = nack; records = cursor ack_header_size (length (runs l)) })
  read-back-header =
      let (h, o) = not-large l (written-only-if out nack l n e).small in
      rw (written-bytes out nack l n e) (bytes-header nack l h o (drop n out))

  -- reading its records step by step gives the list's runs, in order, and then no record is left
  pub read-back-records : read_all (length (runs l)) (written_of out nack l) (cursor ack_header_size (length (runs l)))
      ≡ record { records = runs l; stop = gives none_left }
  read-back-records =
      let (h, o) = not-large l (written-only-if out nack l n e).small in
      rw (written-bytes out nack l n e) (bytes-records nack l h o (drop n out))

  -- the numbers that the records name are the list
  pub read-back-numbers : numbers_of
      (read_all (length (runs l)) (written_of out nack l) (cursor ack_header_size (length (runs l)))).records ≡ l
  read-back-numbers = ap (λ (r : Reading). numbers_of r.records) read-back-records ∙ runs-name l
