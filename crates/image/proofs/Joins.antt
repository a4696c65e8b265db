-- A listed message as the bare receiver has it, its bodies joined; and the list of ready messages is what takes would hand out.
-- Assumes nothing.
use Prim.Native.Nat.{ℕ, zero, suc, ◌+◌, ◌≤◌, ◌<◌}
use mathlib.Core.Path.{◌≡◌, refl, sym, ◌∙◌, ap, subst}
use mathlib.Core.Logic.{◌⊎◌, inl, inr}
use mathlib.Core.Bool.{true}
use mathlib.Core.Option.{Option, none, some}
use mathlib.Core.List.Memᴰ
use mathlib.Core.List.{List, [], ◌∷◌, ◌++◌, map, flatten, append-nil, append_assoc, Memᴰ}
use native.Mathlib.Omega.{arith}
use lib.Dec.{ltb}
use borrow.Author.Tests.{ltb-true, ltb-false, eq-eqb}
use Rattle.std.proofs.lemmas.List.{map-append}
use Rattle.base.specs.Lists.{option, find, only}
use Rattle.base.specs.Sort.{sort_by}
use Rattle.base.proofs.Choices.{cases, case_option, and_both}
use Rattle.base.proofs.Lists.{find-some}
use Rattle.base.proofs.Sorts.{only-in, in-only, find-unique, Rising, rising-append, rising-unique, in-sort, sort-in}
use Rattle.bare.specs.Frame.{Message}
use Rattle.cells.specs.Cell.{Slot, Key, held_as, ready_as, sits, join, message_of, message_at}
use Rattle.cells.specs.Datagram.{is_first}
use Rattle.cells.specs.Sound.{key_of}
use Rattle.cells.proofs.Keys.{sits-is, ready_of}
use Rattle.cells.proofs.Ready.{ready_line, Unique}
use Rattle.image.specs.Image.{MessageEntry}
use Rattle.image.specs.Entries.{bodies_of, message_entry, turn_of, ready_in}
use Rattle.image.specs.Holds.{held_at}
use Rattle.image.proofs.Again.{map_of}
use Rattle.image.proofs.Sections.{first-held, first-ready}
use Rattle.image.proofs.Equal.{sits-held}

-- ---- bodies joined
unfoldable pub message_from : MessageEntry → Message
message_from e = record { kind = e.kind; channel = e.channel; order = e.order; body = flatten e.bodies }

flatten-append : (l r : List (List ℕ)) → flatten (l ++ r) ≡ flatten l ++ flatten r
unfolding flatten
flatten-append [] r = refl
flatten-append (x ∷ l) r = ap (λ (y : List ℕ). x ++ y) (flatten-append l r) ∙ sym (append_assoc x (flatten l) (flatten r))

join-bodies : (k : Key) (l : List Slot) (n : ℕ) → join k l n ≡ flatten (bodies_of k l n)
unfolding join bodies_of flatten
join-bodies k l zero = refl
join-bodies k l (suc n) =
    rw (join-bodies k l n) (sym (flatten-append (bodies_of k l n) (option (find (sits k n) l) [] (λ s. s.body) ∷ [])
    ∙ ap (λ (r : List ℕ). flatten (bodies_of k l n) ++ r) (append-nil (option (find (sits k n) l) [] (λ s. s.body)))))

-- the message of a first cell
message-from : (l : List Slot) (k : Key) (s : Slot) → key_of s.cell ≡ k
    → message_from (message_entry l s) ≡ message_of s (join k l s.cell.count)
unfolding message_from message_entry message_of
message-from l k s q =
    let b : flatten (bodies_of (key_of s.cell) l s.cell.count) ≡ join k l s.cell.count
    = ap (λ (j : Key). flatten (bodies_of j l s.cell.count)) q ∙ sym (join-bodies k l s.cell.count) in
    λ i. record { kind = s.cell.kind; channel = s.cell.channel; order = s.cell.order; body = b i }

held-key : (c o : ℕ) (s : Slot) → sits (held_as c o) 0 s ≡ true → key_of s.cell ≡ held_as c o
held-key c o s e = let a = sits-held c o s e in let b = (first-held s a.0).1 in let p = a.1 in let q = a.2 in cc

ready-first : (t : ℕ) (s : Slot) → sits (ready_as t) 0 s ≡ true → (is_first s ≡ true) × (s.cell.turn ≡ t)
unfolding is_first
ready-first t s e =
    let a = sits-is (ready_as t) 0 s e in
    let b = ready_of t s a.0 in
    (and_both _ _ b.0 (eq-eqb _ _ a.1), b.1)

ready-key : (t : ℕ) (s : Slot) → sits (ready_as t) 0 s ≡ true → key_of s.cell ≡ ready_as t
ready-key t s e = let a = ready-first t s e in let b = (first-ready s a.0).1 in let q = a.1 in cc

pub held-message : (l : List Slot) (c o : ℕ) → message_at (held_as c o) l ≡ option (held_at c o l) none (λ e. some (message_from e))
unfolding message_at held_at
held-message l c o = case_option (find (sits (held_as c o) 0) l)
    (λ e. rw e)
    (λ s e. rw e (ap {B = Option Message} some (sym (message-from l (held_as c o) s (held-key c o s (find-some _ l e).1)))))

-- ---- ready messages whose turns are n from lo on
module _ (l : List Slot) (u : Unique l) (lo : ℕ) where
  -- the cells of index 0 of the turns from lo on
  firsts_from : ℕ → List Slot
  firsts_from zero = []
  firsts_from (suc n) = firsts_from n ++ option (find (sits (ready_as (n + lo)) 0) l) [] (λ s. s ∷ [])

  found_in : (t : ℕ) (s : Slot) → Memᴰ s (option (find (sits (ready_as t) 0) l) [] (λ s. s ∷ []))
      → Memᴰ s l × (is_first s ≡ true) × (s.cell.turn ≡ t)
  found_in t s = case_option (find (sits (ready_as t) 0) l)
      (λ e. rw e (λ m. absurd (Memᴰ.not-nil m)))
      (λ x e. rw e (λ m. let a = find-some (sits (ready_as t) 0) l e in
      let q = Memᴰ.eq_of_singleton m in
      let b = ready-first t x a.1 in
      (subst (λ (y : Slot). Memᴰ y l) (sym q) a.0, ap is_first q ∙ b.0, ap (λ (y : Slot). y.cell.turn) q ∙ b.1)))

  firsts-in : (n : ℕ) (s : Slot) → Memᴰ s (firsts_from n) → Memᴰ s l × (is_first s ≡ true) × (s.cell.turn < n + lo)
  unfolding firsts_from
  firsts-in zero s m = absurd (Memᴰ.not-nil m)
  firsts-in (suc n) s m = go (Memᴰ.append_cases (firsts_from n) m) (λ m'. firsts-in n s m')
    where
      go : Memᴰ s (firsts_from n) ⊎ Memᴰ s (option (find (sits (ready_as (n + lo)) 0) l) [] (λ s. s ∷ []))
          → (Memᴰ s (firsts_from n) → Memᴰ s l × (is_first s ≡ true) × (s.cell.turn < n + lo))
          → Memᴰ s l × (is_first s ≡ true) × (s.cell.turn < suc n + lo)
      go (inl m) rest = let r = rest m in let lt = r.2 in (r.0, r.1, omega arith)
      go (inr m) rest = let r = found_in (n + lo) s m in let q = r.2 in (r.0, r.1, omega arith)

  in-firsts : (n : ℕ) (s : Slot) → Memᴰ s l → is_first s ≡ true → lo ≤ s.cell.turn → s.cell.turn < n + lo → Memᴰ s (firsts_from n)
  unfolding firsts_from
  in-firsts zero s m e a b = absurd (omega arith)
  in-firsts (suc n) s m e a b = cases (ltb s.cell.turn (n + lo))
      (λ y. Memᴰ.append_left _ (in-firsts n s m e a (ltb-true _ _ y)))
      (λ y. Memᴰ.append_right (firsts_from n) (here (let z : n + lo ≤ s.cell.turn = ltb-false s.cell.turn (n + lo) y in omega arith)))
    where
      here : s.cell.turn ≡ n + lo → Memᴰ s (option (find (sits (ready_as (n + lo)) 0) l) [] (λ s. s ∷ []))
      here q = rw (find-unique (sits (ready_as (n + lo)) 0) l s m
          (subst (λ (t : ℕ). sits (ready_as t) 0 s ≡ true) q (first-ready s e).0) (u (ready_as (n + lo)) 0)) (Memᴰ.head refl)

  one-rises : (t : ℕ) → Rising turn_of (option (find (sits (ready_as t) 0) l) [] (λ s. s ∷ []))
  one-rises t = case_option (find (sits (ready_as t) 0) l) (λ e. rw e tt) (λ x e. rw e ((λ y m. absurd (Memᴰ.not-nil m)), tt))

  firsts-rise : (n : ℕ) → Rising turn_of (firsts_from n)
  unfolding firsts_from
  firsts-rise zero = tt
  firsts-rise (suc n) = rising-append turn_of (firsts_from n) _ (firsts-rise n) (one-rises (n + lo))
      (λ x y m k. let a = (firsts-in n x m).2 in let b = (found_in (n + lo) y k).2 in omega arith)

  lines_are : (n : ℕ) → map (λ s. message_from (message_entry l s)) (firsts_from n) ≡ ready_line l lo n
  unfolding firsts_from ready_line
  lines_are zero = refl
  lines_are (suc n) = map-append (λ s. message_from (message_entry l s)) (firsts_from n) _
      ∙ rw (lines_are n) (ap (λ (r : List Message). ready_line l lo n ++ r) one)
    where
      one : map (λ s. message_from (message_entry l s)) (option (find (sits (ready_as (n + lo)) 0) l) [] (λ s. s ∷ []))
          ≡ option (message_at (ready_as (n + lo)) l) [] (λ m. m ∷ [])
      one = unfold message_at in case_option (find (sits (ready_as (n + lo)) 0) l)
          (λ e. rw e)
          (λ s e. rw e (ap {B = List Message} (λ m. m ∷ [])
          (message-from l (ready_as (n + lo)) s (ready-key (n + lo) s (find-some _ l e).1))))

  -- an image's ready list, as messages, is what takes hand out
  pub ready-line : (n : ℕ) → ((s : Slot) → Memᴰ s l → is_first s ≡ true → (lo ≤ s.cell.turn) × (s.cell.turn < n + lo))
      → Rising turn_of (sort_by turn_of (only is_first l)) → map message_from (ready_in l) ≡ ready_line l lo n
  unfolding ready_in
  ready-line n within r =
      map_of message_from (message_entry l) (sort_by turn_of (only is_first l))
      ∙ (ap (map (λ s. message_from (message_entry l s))) same ∙ lines_are n)
    where
      same : sort_by turn_of (only is_first l) ≡ firsts_from n
      same = rising-unique turn_of _ (firsts_from n) r (firsts-rise n)
          (λ s m. let a = only-in is_first l s (sort-in turn_of (only is_first l) s m) in
          let b = within s a.0 a.1 in in-firsts n s a.0 a.1 b.0 b.1)
          (λ s m. let a = firsts-in n s m in in-sort turn_of (only is_first l) s (in-only is_first l s a.0 a.1))
