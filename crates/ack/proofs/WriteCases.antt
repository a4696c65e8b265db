-- The cases of `write_list`, each with the facts as the code finds them.
-- Assumes nothing.
use mathlib.Core.Path.{◌≡◌, ◌∙◌, sym, ap, refl}
use mathlib.Core.Bool.{Bool, true, false}
use mathlib.Core.List.{List, [], ◌∷◌}
use mathlib.Core.Logic.{⊎_elim}
use Prim.Native.Nat.{ℕ, ◌+◌, ◌<◌, ◌≤◌}
use native.Mathlib.Omega.{arith}
use lib.ListN.{length, length-append}
use Rattle.base.specs.Answer.{gives}
use Rattle.base.specs.Bytes.{be16_bytes, le24_bytes}
use Rattle.base.specs.Limits.{max_list}
use Rattle.base.specs.Put.{and_then, Run}
use Rattle.base.proofs.Ifs.{lt_yes, lt_no, by-yes, by-no}
use Rattle.base.proofs.Puts.{run-cons, run-then}
use Rattle.ack.specs.declared.Record.{Record}
use Rattle.ack.specs.declared.Record.TheVariants.{Single, Range}
use Rattle.ack.specs.declared.runs.Tally.{Tally}
use Rattle.ack.specs.Records.{record_bytes, records_bytes, record_size, records_size, runs}
use Rattle.ack.specs.Read.{ack_header_size}
use Rattle.ack.specs.Write.{id_of, ack_header_bytes, list_bytes, some_over, too_large, ascending, by_list_case, write_list_of, written_of}
use Rattle.ack.specs.Passes.{tally_of}
use Rattle.base.proofs.IfCases.{lt-cases}

length-record : (r : Record) → length (record_bytes r) ≡ record_size r
unfolding record_bytes record_size le24_bytes and_then
length-record (Single r) = refl
length-record (Range r) = refl

length-records : (rs : List Record) → length (records_bytes rs) ≡ records_size rs
unfolding records_bytes records_size and_then
length-records [] = refl
length-records (r ∷ rs) = length-append (record_bytes r) (records_bytes rs) ∙ rw (length-record r, length-records rs)

-- the exact length: the header's 3 bytes, 4 for each Single and 7 for each Range
pub length-list : (nack : Bool) (l : List ℕ) → length (list_bytes nack l) ≡ ack_header_size + records_size (runs l)
unfolding list_bytes ack_header_bytes be16_bytes and_then
length-list nack l = length-append (ack_header_bytes nack (length (runs l))) (records_bytes (runs l)) ∙ ap (λ (n : ℕ). ack_header_size + n)
    (length-records (runs l))

module _ (nack : Bool) (l : List ℕ) (t : Tally) (e : t ≡ tally_of (runs l)) where
  tally-size : ack_header_size + t.bytes ≡ length (list_bytes nack l)
  unfolding tally_of
  tally-size = rw (e, length-list nack l)

-- a list that is not too large is not too long, and no number is
pub not-large : (l : List ℕ) → too_large l ≡ false → (length l ≤ max_list) × (some_over l ≡ false)
unfolding too_large
not-large l e =
    ⊎_elim (λ c. absurd (let z : ◌≡◌ {A = ℕ} 0 1 = cc in omega arith)) (λ c. (c.0, sym c.1 ∙ e))
    (lt-cases max_list (length l) true (some_over l))

-- so its runs, of which there are no more than numbers, are few
pub few-records : (l : List ℕ) (a : Bool) → a ≡ too_large l → a ≡ false → (n : ℕ) → n ≤ length l → n ≤ max_list
few-records l a f g n h = let k = (not-large l (sym f ∙ g)).0 in omega arith

module _ {A : Type 0} (room : ℕ) (nack : Bool) (l : List ℕ) (x y z w : A) (a : Bool) (f : a ≡ too_large l) where
  abbrev chosen : A
  chosen = by_list_case room nack l x y z w

  pub too_large_lem : a ≡ true → x ≡ chosen
  unfolding by_list_case
  too_large_lem g = by-yes _ a _ _ _ f g refl

  module _ (g : a ≡ false) (b : Bool) (i : b ≡ ascending l) where
    pub not-ascending : b ≡ false → y ≡ chosen
    unfolding by_list_case
    not-ascending k = by-no _ a _ _ _ f g (by-no _ b _ _ _ i k refl)

    pub too_short : b ≡ true → room < length (list_bytes nack l) → z ≡ chosen
    unfolding by_list_case
    too_short k o = by-no _ a _ _ _ f g (by-yes _ b _ _ _ i k (lt_yes _ _ _ _ _ o refl))

    pub fits : b ≡ true → length (list_bytes nack l) ≤ room → w ≡ chosen
    unfolding by_list_case
    fits k o = by-no _ a _ _ _ f g (by-yes _ b _ _ _ i k (lt_no _ _ _ _ _ o refl))

    pub no_room : b ≡ true → (t : Tally) → t ≡ tally_of (runs l) → room < ack_header_size + t.bytes → z ≡ chosen
    no_room k t e o = too_short k (rw (tally-size nack l t e) at o)

-- the answer, and the output, where the list is written
module _ (nack : Bool) (l : List ℕ) (a : Bool) (f : a ≡ too_large l) (g : a ≡ false) (b : Bool) (i : b ≡ ascending l) (k : b ≡ true)
    (t : Tally) (e : t ≡ tally_of (runs l)) where
  pub length-is : (room : ℕ) → ack_header_size + t.bytes ≤ room → gives (ack_header_size + t.bytes) ≡ write_list_of room nack l
  unfolding write_list_of
  length-is room o = ap gives (tally-size nack l t e) ∙ fits room nack l _ _ _ _ a f g b i k (rw (tally-size nack l t e) at o)

  pub written_is : (out : List ℕ) → ack_header_size + t.bytes ≤ length out → (q : ℕ) (m : List ℕ)
      → Run 0 (and_then (ack_header_bytes nack t.records) (records_bytes (runs l))) out q m → m ≡ written_of out nack l
  unfolding written_of list_bytes tally_of
  written_is out o q m r = rw e at r.is ∙ fits (length out) nack l _ _ _ _ a f g b i k (rw (tally-size nack l t e) at o)

pub ruleset writes = (too_large_lem, not-ascending, no_room, length-is)

-- the header's bytes, then others
pub put_all : (nack : Bool) (count : ℕ) (bs l : List ℕ) (id : ℕ) → id ≡ id_of nack → (q : ℕ) (L : List ℕ) → Run 0 (id ∷ []) l q L
    → (r : ℕ) (M : List ℕ) → Run q (be16_bytes count) L r M → (s : ℕ) (N : List ℕ) → Run r bs M s N
    → Run 0 (and_then (ack_header_bytes nack count) bs) l s N
unfolding ack_header_bytes
put_all nack count bs l id e q L a r M b s N c =
    run-then 0 (id_of nack ∷ be16_bytes count) bs l r M s N (run-cons 0 (id_of nack) (be16_bytes count) l q L r M (rw e at a) b) c
