-- What taking the message of a turn does, in the code's three ways.
-- Assumes nothing.
use Prim.Native.Nat.{ℕ, zero, suc, ◌+◌, ◌*◌, ◌≤◌, ◌<◌}
use mathlib.Core.Path.{◌≡◌, refl, sym, ◌∙◌, ap, subst}
use mathlib.Core.Bool.{Bool, true, false, cond, ◌&&◌}
use mathlib.Core.Option.{none, some}
use mathlib.Core.List.{List, [], ◌∷◌}
use native.Mathlib.Omega.{arith}
use native.Mathlib.Nat.{suc-mul}
use lib.Dec.{eqb}
use lib.ListN.{length, take, drop}
use lib.Seq.{drop-drop}
use borrow.Author.Tests.{eqb-true, eq-eqb, ne_eqb}
use Rattle.std.specs.Prelude.{Ok, Err}
use Rattle.base.specs.declared.refusal.Refusal.TheVariants.{NoRoom}
use Rattle.base.specs.Limits.{cell_bytes}
use Rattle.base.specs.Lists.{option, find}
use Rattle.base.specs.Put.{put, and_then}
use Rattle.base.proofs.Choices.{case_option, and_left, and_right, neither}
use Rattle.base.proofs.Ifs.{by-lt-yes, by-lt-no}
use Rattle.base.proofs.Lists.{find-some, find_none, any-true}
use Rattle.bare.specs.Frame.{Message}
use Rattle.cells.specs.Cell.{Cell, Slot, ready_as, bears, at, sits, join, message_of, message_at, empty_cell}
use Rattle.cells.specs.Records.{index_of}
use Rattle.cells.specs.Store.{cell_size, cell_body, slots_of}
use Rattle.rows.specs.declared.Row.{Row}
use Rattle.rows.specs.Rows.{cell_of, cells_in, whole_row}
use Rattle.receiver.specs.Take.{handed}
use Rattle.recv_take.specs.declared.Body.{Body}
use Rattle.recv_take.specs.declared.Body.TheVariants.{InStore, Joined}
use Rattle.recv_take.specs.declared.Taken.{Taken}
use Rattle.recv_take.specs.Outcome.{handed_of, taken_rows, outcome_at}
use Rattle.recv_take.specs.Pieces.{piece_at, piece_bytes, joined_to, Takeable, take_turn}
use Rattle.recv_take.proofs.Pieces.{row_index, piece_row}

-- ---- a record and its slot

-- The slot of the first record that passes.
record SlotOf (p : Cell → Bool) (cs : List Cell) (st : List ℕ) (c : Cell) : Type 0 where
  pub slot : Slot
  pub found : find (λ (s : Slot). p s.cell) (slots_of cs st) ≡ some slot
  pub cell-is : slot.cell ≡ c

slot_of : (p : Cell → Bool) (cs : List Cell) (st : List ℕ) (c : Cell) → find p cs ≡ some c → SlotOf p cs st c
unfolding find slots_of
slot_of p [] st c e = absurd (let z : ◌≡◌ {A = ℕ} 0 1 = cc in omega arith)
slot_of p (r ∷ cs) st c e = go (p r) refl e (λ f. slot_of p cs (drop cell_size st) c f)
  where
    go : (b : Bool) → p r ≡ b → cond b (some r) (find p cs) ≡ some c → (find p cs ≡ some c → SlotOf p cs (drop cell_size st) c)
        → SlotOf p (r ∷ cs) st c
    go true t f k = let q : r ≡ c = cc in record { slot = record { cell = r; body = cell_body r st }; found = rw t; cell-is = q }
    go false t f k = let s = k f in record { slot = s.slot; found = rw t s.found; cell-is = s.cell-is }

empty-body : (bytes : List ℕ) → cell_body empty_cell bytes ≡ []
unfolding cell_body empty_cell
empty-body bytes = refl

-- The body of that slot; none where no record passes.
body-found : (p : Cell → Bool) (cs : List Cell) (st : List ℕ) → option (find (λ (s : Slot). p s.cell) (slots_of cs st)) [] (λ s. s.body)
    ≡ cell_body (option (find p cs) empty_cell (λ c. c)) (drop (index_of p cs * cell_size) st)
unfolding find slots_of index_of
body-found p [] st = sym (empty-body (drop (0 * cell_size) st))
body-found p (r ∷ cs) st = go (p r) refl (body-found p cs (drop cell_size st))
  where
    go : (b : Bool) → p r ≡ b → option (find (λ (s : Slot). p s.cell) (slots_of cs (drop cell_size st))) [] (λ s. s.body)
        ≡ cell_body (option (find p cs) empty_cell (λ c. c)) (drop (index_of p cs * cell_size) (drop cell_size st))
        → option (cond (p r) (some (record { cell = r; body = cell_body r st }))
        (find (λ (s : Slot). p s.cell) (slots_of cs (drop cell_size st)))) [] (λ s. s.body)
        ≡ cell_body (option (cond (p r) (some r) (find p cs)) empty_cell (λ c. c))
        (drop (cond (p r) 0 (suc (index_of p cs)) * cell_size) st)
    go true t e = rw t (let z : 0 * cell_size ≡ 0 = omega arith in rw z)
    go false t e =
        let m = suc-mul (index_of p cs) cell_size in
        let z : suc (index_of p cs) * cell_size ≡ cell_size + index_of p cs * cell_size = omega arith in
        rw (t, z) (e ∙ ap (cell_body (option (find p cs) empty_cell (λ c. c))) (drop-drop (index_of p cs * cell_size) cell_size st))

-- ---- the pieces joined

module _ (t : ℕ) (cs : List Cell) (st : List ℕ) where
  pub ready-used : (i : ℕ) (c : Cell) → at (ready_as t) i c ≡ true → eqb c.used 0 ≡ false
  unfolding at bears
  ready-used i c e =
      let u = eqb-true c.used 3 (and_left (eqb c.used 3) _ (and_left (eqb c.used 3 && eqb c.turn t) _ e)) in
      ne_eqb c.used 0 (λ q. omega arith)

  piece-body : (i : ℕ) → option (find (sits (ready_as t) i) (slots_of cs st)) [] (λ s. s.body) ≡ piece_bytes t cs st i
  unfolding sits piece_bytes piece_at cell_size cell_body
  piece-body i = body-found (at (ready_as t) i) cs st ∙ case_option (find (at (ready_as t) i) cs)
      (λ e. rw e (empty-piece (drop (index_of (at (ready_as t) i) cs * cell_bytes) st)))
      (λ c e. rw (e, ready-used i c (find-some (at (ready_as t) i) cs e).1))
    where
      empty-piece : (bytes : List ℕ) → cell_body empty_cell bytes ≡ take empty_cell.length bytes
      empty-piece bytes = unfold empty_cell in refl

  joined_is : (n : ℕ) → join (ready_as t) (slots_of cs st) n ≡ joined_to t cs st n
  unfolding join joined_to and_then
  joined_is zero = refl
  joined_is (suc n) = rw (joined_is n, piece-body n)

  module _ (v : Takeable t cs st) where
    -- the message, as its first record and its pieces say it
    abbrev message_from : Cell → Message
    message_from c = record { kind = c.kind; channel = c.channel; order = c.order; body = joined_to t cs st c.count }

    none-missing : {X : Type 0} → find (at (ready_as t) 0) cs ≡ none → X
    none-missing e = let a = any-true (at (ready_as t) 0) cs v.first in neither (at (ready_as t) 0 a.0) a.2
        (find_none (at (ready_as t) 0) cs e a.0 a.1)

    pub first_passes : at (ready_as t) 0 (piece_at t cs 0) ≡ true
    unfolding piece_at
    first_passes = case_option (find (at (ready_as t) 0) cs) none-missing (λ c e. rw e (find-some (at (ready_as t) 0) cs e).1)

    -- A take of the turn hands out this message.
    turn-hands : (buffer : List ℕ) → take_turn t cs st buffer ≡ handed cs st buffer t (message_from (piece_at t cs 0)) (piece_at t cs 0)
    unfolding take_turn piece_at message_at sits message_of
    turn-hands buffer = case_option (find (at (ready_as t) 0) cs)
        none-missing
        (λ c e.
        let s = slot_of (at (ready_as t) 0) cs st c e in
        rw (s.found, e) (same s.slot c s.cell-is))
      where
        same : (s : Slot) (c : Cell) → s.cell ≡ c
            → handed cs st buffer t (record {
              kind = s.cell.kind;
              channel = s.cell.channel;
              order = s.cell.order;
              body = join (ready_as t) (slots_of cs st) s.cell.count;
            }) c ≡ handed cs st buffer t (message_from c) c
        same s c q = subst (λ (d : Cell). handed cs st buffer t
            (record {
              kind = s.cell.kind;
              channel = s.cell.channel;
              order = s.cell.order;
              body = join (ready_as t) (slots_of cs st) s.cell.count;
            }) d ≡ handed cs st buffer t (message_from d) d) q
            (ap (λ (bytes : List ℕ). handed cs st buffer t (record {
              kind = s.cell.kind;
              channel = s.cell.channel;
              order = s.cell.order;
              body = bytes;
            }) s.cell) (joined_is s.cell.count))

-- ---- the code's three ways, of the first piece's row

module _ (t : ℕ) (rows : List Row) (st buffer : List ℕ) (v : Takeable t (cells_in rows) st) where
  abbrev first : Cell
  first = cell_of (whole_row rows (row_index t rows 0))

  abbrev body : List ℕ
  body = joined_to t (cells_in rows) st first.count

  abbrev taken_with : Body → Taken
  taken_with b = record { kind = first.kind; channel = first.channel; order = first.order; body = b }

  hands : take_turn t (cells_in rows) st buffer
      ≡ handed (cells_in rows) st buffer t (message_from t (cells_in rows) st v first) first
  hands = turn-hands t (cells_in rows) st v buffer
      ∙ ap (λ (c : Cell). handed (cells_in rows) st buffer t (message_from t (cells_in rows) st v c) c) (piece_row t rows 0)

  -- "handed back as part of the store"
  pub took_store : first.count ≡ 1 → outcome_at t (take_turn t (cells_in rows) st buffer)
      ≡ taken_rows (Ok (record {
        taken = taken_with (InStore (row_index t rows 0 * cell_bytes) first.length);
        turn = t;
      })) buffer
  unfolding taken_rows outcome_at handed_of handed
  took_store one = rw (hands, eq-eqb first.count 1 one)

  module _ (several : first.count ≡ 1 → ⊥) (len : ℕ) (len_is : len ≡ length body) where
    -- "12 joining buffer shorter than a message of several pieces"
    pub took_short : length buffer < len → outcome_at t (take_turn t (cells_in rows) st buffer) ≡ taken_rows (Err NoRoom) buffer
    unfolding taken_rows outcome_at handed_of handed
    took_short l = rw (hands, ne_eqb first.count 1 several)
        (ap (outcome_at t) (sym (by-lt-yes (length buffer) (length body) len _ _ _ len_is l refl)))

    -- "or of the joining buffer"
    pub took_joined : len ≤ length buffer → outcome_at t (take_turn t (cells_in rows) st buffer)
        ≡ taken_rows (Ok (record { taken = taken_with (Joined len); turn = t })) (put buffer 0 body)
    unfolding taken_rows outcome_at handed_of handed
    took_joined l = rw (hands, ne_eqb first.count 1 several)
        (rw len_is (ap (outcome_at t) (sym (by-lt-no (length buffer) (length body) len _ _ _ len_is l refl))))

  -- It is of that turn.
  pub first_turn : first.turn ≡ t
  unfolding at bears
  first_turn =
      let passes = ap (at (ready_as t) 0) (sym (piece_row t rows 0)) ∙ first_passes t (cells_in rows) st v in
      eqb-true first.turn t (and_right (eqb first.used 3) _ (and_left (eqb first.used 3 && eqb first.turn t) _ passes))

pub ruleset ways = (took_store, took_short, took_joined)
