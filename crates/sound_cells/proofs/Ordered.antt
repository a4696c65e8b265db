-- What the rows' order tells: the cells are sound (`ordered-sound`).
-- Assumes nothing.
use Prim.Native.Nat.{ℕ, zero, suc, max, ◌+◌, ◌-◌, ◌<◌, ◌≤◌}
use mathlib.Core.Path.{◌≡◌, refl, sym, ◌∙◌, subst}
use mathlib.Core.Bool.{Bool, true, false, cond, not, ◌&&◌}
use mathlib.Core.List.{List}
use native.Mathlib.Numerals.{add-one}
use native.Mathlib.Omega.{arith}
use lib.ListN.{length}
use lib.Dec.{ltb, leb, eqb}
use borrow.Author.Tests.{ltb-true, ltb-false, eqb-true, eqb-false}
use Rattle.base.specs.Limits.{numbers16, numbers24, max_ord_chans, max_frags, max_age, cell_bytes}
use Rattle.base.proofs.Choices.{cases, and_left, and_right, and_both}
use Rattle.cells.specs.Cell.{Cell, Key, open_as, held_as, ready_as, bears}
use Rattle.cells.specs.Sound.{key_of, age_of, limits, alike, sound_cells}
use Rattle.rows.specs.declared.Row.{Row}
use Rattle.rows.specs.Rows.{cells_in}
use Rattle.sound_cells.specs.Counted.{mate, ahead_of_next}
use Rattle.sound_cells.specs.Sorted.{cell_at, key_part}
use Rattle.sound_cells.specs.Ordered.{is_fresh, noted, message_goes_on}
use Rattle.sound_cells.proofs.Numbered.{climb, count-span}
use Rattle.sound_cells.proofs.Alike.{Alike, alike-told, alike-own, alike-through}
use Rattle.sound_cells.proofs.RowsSound.{mate-key, mate-used, twin-mate, twin-index, same-key-mate}
use Rattle.sound_cells.proofs.RowsSound.{Passing, rows-sound}
use Rattle.sound_cells.proofs.Seen.{Told, fresh-new, noted-room, noted-own, noted-keeps}

-- Rows i to e, without e: each after the first goes on the message of the one before.
pub record MessageRun (rows : List Row) (i e : ℕ) : Type 0 where
  pub after : i < e
  pub within : e ≤ length rows
  pub step : (t : ℕ) → i ≤ t → t + 1 < e → message_goes_on (cell_at rows t) (cell_at rows (t + 1)) ≡ true

-- Is a cell's message of m rows whole or not, as it must be?
abbrev Due : Cell → ℕ → Type 0
Due c m = cond (eqb c.used 1) (not (eqb m c.count)) (eqb m c.count) ≡ true

one-use : (k : Key) (c d : Cell) → bears k c ≡ true → bears k d ≡ true → c.used ≡ d.used
unfolding bears
one-use (open_as id) c d s t = eqb-true _ _ (and_left (eqb c.used 1) _ s) ∙ sym (eqb-true _ _ (and_left (eqb d.used 1) _ t))
one-use (held_as x o) c d s t = eqb-true _ _ (and_left (eqb c.used 2) _ s) ∙ sym (eqb-true _ _ (and_left (eqb d.used 2) _ t))
one-use (ready_as x) c d s t = eqb-true _ _ (and_left (eqb c.used 3) _ s) ∙ sym (eqb-true _ _ (and_left (eqb d.used 3) _ t))

swap : (p q r : Bool) → (p && q) ≡ true → (q ≡ true → r ≡ true) → (p && r) ≡ true
swap p q r e f = and_both p r (and_left p q e) (f (and_right p q e))

-- A mate that is alike is within the limits, as far ahead_of_next, and as due.
module _ (next : ℕ → ℕ) (a d : Cell) (e : mate a d ≡ true) (u : eqb a.used 0 ≡ false) (l : limits a ≡ true) (g : alike d a ≡ true) where
  same-used : d.used ≡ a.used
  unfolding mate
  same-used = one-use (key_of a) d a e (same-key-mate a a u l refl)

  same : Alike d a
  same = alike-told d a g

  like-limits : (ltb d.index d.count && (leb d.length cell_bytes && ltb d.id numbers16)) ≡ true → limits d ≡ true
  unfolding limits
  like-limits f =
      rw (same.age, same-used, same.kind, same.channel, same.sequence, same.order, same.count)
      (swap (leb a.used 3) _ _ l (λ l. swap (leb a.kind 7) _ _ l
      (λ l. swap (ltb a.channel max_ord_chans) _ _ l (λ l. swap (ltb a.sequence numbers24) _ _ l
      (λ l. swap (ltb a.order numbers24) _ _ l
      (λ l. swap (leb 1 a.count) _ _ l (λ l. swap (leb a.count max_frags) _ _ l
      (λ l. own (ltb d.index a.count) _ _ l (rw same.count at f)))))))))
    where
      own : (i n m : Bool) → (ltb a.index a.count && (leb a.length cell_bytes && (ltb a.id numbers16 && leb (age_of a) max_age))) ≡ true
          → (i && (n && m)) ≡ true → (i && (n && (m && leb (age_of a) max_age))) ≡ true
      own i n m l f =
          let g = and_right i _ f in
          let aged = and_right (ltb a.id numbers16) _ (and_right (leb a.length cell_bytes) _ (and_right (ltb a.index a.count) _ l)) in
          and_both i _ (and_left i _ f) (and_both n _ (and_left n _ g) (and_both m _ (and_right n _ g) aged))

  like-ahead : ahead_of_next next a ≡ true → ahead_of_next next d ≡ true
  unfolding ahead_of_next
  like-ahead f = rw (same-used, same.order, same.channel) f

  like-due : (m : ℕ) → Due a m → Due d m
  like-due m f = rw (same-used, same.count) f

module _ (rows : List Row) (next : ℕ → ℕ) where
  abbrev Used : ℕ → Type 0
  Used j = eqb (cell_at rows j).used 0 ≡ false

  -- row k, of the message of m rows that begins with row i
  record Piece (i m k : ℕ) : Type 0 where
    used : Used k
    limit : limits (cell_at rows k) ≡ true
    over : ahead_of_next next (cell_at rows k) ≡ true
    key : key_of (cell_at rows k) ≡ key_of (cell_at rows i)
    like : alike (cell_at rows k) (cell_at rows i) ≡ true
    due : Due (cell_at rows k) m

  module _ (i e : ℕ) (run : MessageRun rows i e) (u : Used i)
      (alone : (limits (cell_at rows i) && ahead_of_next next (cell_at rows i)) ≡ true)
      (due : Due (cell_at rows i) (e - i)) where
    first : Piece i (e - i) i
    first = record {
      used = u;
      limit = and_left (limits (cell_at rows i)) _ alone;
      over = and_right (limits (cell_at rows i)) _ alone;
      key = refl;
      like = alike-own (cell_at rows i);
      due = due;
    }

    later : (t : ℕ) → i ≤ t → t + 1 < e → Piece i (e - i) t → Piece i (e - i) (t + 1)
    unfolding message_goes_on
    later t l h p =
        let a = cell_at rows t in
        let d = cell_at rows (t + 1) in
        let g = and_right (not (eqb a.count 1)) _ (run.step t l h) in
        let m = and_left (mate a d) _ g in
        let g₁ = and_right (mate a d) _ g in
        let like = and_left (alike d a) _ g₁ in
        let g₂ = and_right (not (eqb a.used 0)) _ (and_right (alike d a) _ g₁) in
        record {
          used = mate-used a d m;
          limit = like-limits next a d m p.used p.limit like (and_right (ltb a.index d.index) _ g₂);
          over = like-ahead next a d m p.used p.limit like p.over;
          key = mate-key a d m ∙ p.key;
          like = alike-through d (cell_at rows i) a like
              (alike-through (cell_at rows i) a (cell_at rows i) (alike-own (cell_at rows i)) p.like);
          due = like-due next a d m p.used p.limit like (e - i) p.due;
        }

    piece : (k : ℕ) → i ≤ k → k < e → Piece i (e - i) k
    piece zero l h = subst (Piece i (e - i)) (omega arith) first
    piece (suc k) l h = cases (eqb (suc k) i)
        (λ y. subst (Piece i (e - i)) (sym (eqb-true (suc k) i y)) first)
        (λ y. let ne : suc k ≡ i → ⊥ = eqb-false (suc k) i y in
        subst (Piece i (e - i)) (add-one k) (later k (omega arith) (omega arith) (piece k (omega arith) (omega arith))))

    risen : (t : ℕ) → i ≤ t → t + 1 < e → (cell_at rows t).index < (cell_at rows (t + 1)).index
    unfolding message_goes_on
    risen t l h =
        let a = cell_at rows t in
        let d = cell_at rows (t + 1) in
        let g = and_right (mate a d) _ (and_right (not (eqb a.count 1)) _ (run.step t l h)) in
        ltb-true _ _ (and_left (ltb a.index d.index) _ (and_right (not (eqb a.used 0)) _ (and_right (alike d a) _ g)))

    rise : (p q : ℕ) → i ≤ p → p < q → q < e → (cell_at rows p).index < (cell_at rows q).index
    rise p q l h g = climb (λ t. (cell_at rows t).index) i (e - 1) (λ t a c. risen t a (omega arith)) p q l h (omega arith)

  -- Row j's message is the rows from .. to, and no other row below i is of its key.
  record Led (i j : ℕ) : Type 0 where
    from : ℕ
    to : ℕ
    low : from ≤ j
    high : j < to
    piece : (k : ℕ) → from ≤ k → k < to → Piece from (to - from) k
    rise : (p q : ℕ) → from ≤ p → p < q → q < to → (cell_at rows p).index < (cell_at rows q).index
    within : to ≤ i
    only : (k : ℕ) → k < i → Used k → key_of (cell_at rows k) ≡ key_of (cell_at rows j) → (from ≤ k) × (k < to)

  -- The rows below i have passed.
  pub record Passed (seen : List ℕ) (greatest i : ℕ) : Type 0 where
    room : 4 ≤ length seen
    told : (j : ℕ) → j < i → Used j → Told seen greatest (key_part (cell_at rows j))
    led : (j : ℕ) → j < i → Used j → Led i j

  pub pass-starts : (seen : List ℕ) → 4 ≤ length seen → Passed seen 0 0
  pass-starts seen room = record { room = room; told = λ j l. absurd (omega arith); led = λ j l. absurd (omega arith) }

  same_number : (i j : ℕ) → key_of (cell_at rows i) ≡ key_of (cell_at rows j) → key_part (cell_at rows i) ≡ key_part (cell_at rows j)
  unfolding key_part
  same_number i j e = rw e

  module _ (seen : List ℕ) (greatest i : ℕ) (h : Passed seen greatest i) where
    pub pass-unused : (cell_at rows i).used ≡ 0 → Passed seen greatest (i + 1)
    pass-unused z = record {
      room = h.room;
      told = λ j l u. h.told j (before j l u) u;
      led = λ j l u. let b = h.led j (before j l u) u in
          record {
            from = b.from;
            to = b.to;
            low = b.low;
            high = b.high;
            piece = b.piece;
            rise = b.rise;
            within = omega (arith, b.within);
            only = λ k g v. b.only k (before k g v) v;
          };
    }
      where
        before : (j : ℕ) → j < i + 1 → Used j → j < i
        before j l u = cases (eqb j i)
            (λ y. absurd (eqb-false (cell_at rows j).used 0 u (rw (eqb-true j i y) z)))
            (λ y. let ne : j ≡ i → ⊥ = eqb-false j i y in omega arith)

    module _ (e : ℕ) (run : MessageRun rows i e) (u : Used i)
        (alone : (limits (cell_at rows i) && ahead_of_next next (cell_at rows i)) ≡ true)
        (due : Due (cell_at rows i) (e - i)) (fresh : is_fresh seen greatest (key_part (cell_at rows i)) ≡ true) where
      -- no row before it is of its key
      new : (j : ℕ) → j < i → Used j → key_of (cell_at rows j) ≡ key_of (cell_at rows i) → ⊥
      new j l v q = fresh-new seen greatest (key_part (cell_at rows i)) fresh
          (subst (Told seen greatest) (same_number j i q) (h.told j l v))

      mine : (j : ℕ) → i ≤ j → j < e → Piece i (e - i) j
      mine = piece i e run u alone due

      told-after : (j : ℕ) → j < e → Used j → Told (noted seen (key_part (cell_at rows i))) (max greatest (key_part (cell_at rows i)))
          (key_part (cell_at rows j))
      told-after j l v = cases (ltb j i)
          (λ y. noted-keeps seen greatest (key_part (cell_at rows i)) h.room (key_part (cell_at rows j)) (h.told j (ltb-true j i y) v))
          (λ y. subst (Told (noted seen (key_part (cell_at rows i))) (max greatest (key_part (cell_at rows i))))
          (sym (same_number j i (mine j (ltb-false j i y) l).key)) (noted-own seen greatest (key_part (cell_at rows i)) h.room))

      led-after : (j : ℕ) → j < e → Used j → Led e j
      led-after j l v = cases (ltb j i)
          (λ y. let a = h.led j (ltb-true j i y) v in
          record {
            from = a.from;
            to = a.to;
            low = a.low;
            high = a.high;
            piece = a.piece;
            rise = a.rise;
            within = omega (arith, a.within, run.after);
            only = λ k g w q. cases (ltb k i)
                (λ z. a.only k (ltb-true k i z) w q)
                (λ z. absurd (new j (ltb-true j i y) v (sym q ∙ (mine k (ltb-false k i z) g).key)));
          })
          (λ y. record {
            from = i;
            to = e;
            low = ltb-false j i y;
            high = l;
            piece = mine;
            rise = rise i e run u alone due;
            within = omega arith;
            only = λ k g w q. cases (ltb k i)
                (λ z. absurd (new k (ltb-true k i z) w (q ∙ (mine j (ltb-false j i y) l).key)))
                (λ z. (ltb-false k i z, g));
          })

      pub pass-run : Passed (noted seen (key_part (cell_at rows i))) (max greatest (key_part (cell_at rows i))) e
      pass-run = record { room = noted-room seen greatest (key_part (cell_at rows i)) h.room; told = told-after; led = led-after }

  passing : (i : ℕ) → Led (length rows) i → Passing rows next i
  passing i b =
      let own = b.piece i b.low b.high in
      let mates : (j : ℕ) → j < length rows → mate (cell_at rows i) (cell_at rows j) ≡ true → (b.from ≤ j) × (j < b.to)
      = λ j h e. b.only j h (mate-used (cell_at rows i) (cell_at rows j) e) (mate-key (cell_at rows i) (cell_at rows j) e) in
      record {
        limit = own.limit;
        over = own.over;
        alone = λ j h e.
            let r = mates j h (twin-mate (cell_at rows i) (cell_at rows j) e) in
            let q = twin-index (cell_at rows i) (cell_at rows j) e in
            cases (ltb j i)
            (λ y. absurd (omega (arith, b.rise j i r.0 (ltb-true j i y) b.high, q)))
            (λ y. cases (ltb i j)
            (λ z. absurd (omega (arith, b.rise i j b.low (ltb-true i j z) r.1, q)))
            (λ z. omega (arith, ltb-false j i y, ltb-false i j z)));
        like = λ j h e. let r = mates j h e in alike-through (cell_at rows i) (cell_at rows j) (cell_at rows b.from) own.like
            (b.piece j r.0 r.1).like;
        mates = b.to - b.from;
        counted = count-span (λ j. mate (cell_at rows i) (cell_at rows j)) b.from b.to (length rows) (omega (arith, b.low, b.high))
            b.within
            (λ j l g. let p = b.piece j l g in same-key-mate (cell_at rows i) (cell_at rows j) p.used p.limit (p.key ∙ sym own.key))
            mates;
        due = own.due;
      }

  pub ordered-sound : (seen : List ℕ) (greatest : ℕ) → Passed seen greatest (length rows) → sound_cells (cells_in rows) next ≡ true
  ordered-sound seen greatest h = rows-sound rows next (λ i l u. passing i (h.led i l u))
