-- Step 4: the held and the ready messages in the slots are the bare receiver's.
-- Assumes nothing.
use Prim.Native.Nat.{ℕ, zero, suc, ◌+◌, ◌≤◌, ◌<◌}
use mathlib.Core.Path.{◌≡◌, refl, sym, ◌∙◌, ap}
use mathlib.Core.Bool.{Bool, true, false, false≢true}
use mathlib.Core.Option.{Option, none, some}
use mathlib.Core.List.{List, [], ◌∷◌, ◌++◌, map, append_assoc}
use native.Mathlib.Omega.{arith}
use lib.Dec.{eqb}
use borrow.Author.Tests.{eqb-true, eqb-false}
use Rattle.base.specs.Lists.{option, find, any, count_of, without}
use Rattle.base.proofs.Choices.{cases}
use Rattle.base.proofs.Lists.{without-mem, find-without, any-all, find-no}
use Rattle.bare.specs.Frame.{Message}
use Rattle.bare.specs.Bare.{Out, is_at, hold, append, remember}
use Rattle.bare.proofs.Tests.{is_at-true}
use Rattle.cells.specs.Cell.{Slot, Key, held_as, ready_as, of, sits, is_free, message_at, put_slot}
use Rattle.cells.proofs.Keys.{none-sits, Carried, carried-message, carried-any, message-none, put-any-of, put_other}

-- The ready messages of n turns from lo on.
unfoldable pub ready_line : List Slot → ℕ → ℕ → List Message
ready_line l lo zero = []
ready_line l lo (suc n) = ready_line l lo n ++ option (message_at (ready_as (n + lo)) l) [] (λ m. m ∷ [])

abbrev pub has : Option Message → Bool
has o = option o false (λ m. true)

pub has_some : (o : Option Message) → has o ≡ true → (m : Message) × (o ≡ some m)
has_some none e = absurd (false≢true e)
has_some (some m) e = (m, refl)

-- Under one key in l' stands what stood under another in l.
pub record SameUnder (k : Key) (l : List Slot) (k' : Key) (l' : List Slot) : Type 0 where
  pub message : message_at k' l' ≡ message_at k l
  pub present : any (of k') l' ≡ any (of k) l

pub same-carried : {k k' : Key} {h : Slot → Slot} {l : List Slot} → Carried k k' h l → SameUnder k l k' (map h l)
same-carried c = record { message = carried-message c; present = carried-any c }

pub same-put : (x : Slot) (l : List Slot) → any is_free l ≡ true → (k : Key) → of k x ≡ false → SameUnder k l k (put_slot x l)
same-put x l room k e = record { message = put_other x l room k e; present = put-any-of x l room k ∙ rw e }

-- No two slots of one message have the same index.
abbrev pub Unique : List Slot → Type 0
Unique l = (k : Key) (i : ℕ) → count_of (sits k i) l ≤ 1

-- The slots hold what step 4's state o holds: under each channel and number the same held message; and o's line is what was handed out and
-- then the n ready messages, whose turns are those from lo on.
pub record Outs (o : Out) (next : ℕ → ℕ) (l : List Slot) (lo n : ℕ) (handed : List Message) : Type 0 where
  pub next-same : o.next ≡ next
  pub held : (c k : ℕ) → find (is_at c k) o.held ≡ message_at (held_as c k) l
  pub first : (c k : ℕ) → any (of (held_as c k)) l ≡ has (message_at (held_as c k) l)
  pub line : o.line ≡ handed ++ ready_line l lo n
  pub within : (t : ℕ) → any (of (ready_as t)) l ≡ true → (lo ≤ t) × (t < n + lo)
  pub firsts : (t : ℕ) → lo ≤ t → t < n + lo → has (message_at (ready_as t) l) ≡ true
  pub unique : Unique l

pub ready_line-ext : (l l' : List Slot) (lo n : ℕ)
    → ((t : ℕ) → lo ≤ t → t < n + lo → message_at (ready_as t) l' ≡ message_at (ready_as t) l)
    → ready_line l' lo n ≡ ready_line l lo n
unfolding ready_line
ready_line-ext l l' lo zero e = refl
ready_line-ext l l' lo (suc n) e = rw (ready_line-ext l l' lo n (λ t a b. e t a (omega arith)), e (n + lo) (omega arith) (omega arith))

pub outs-keep : {o : Out} {next : ℕ → ℕ} {l : List Slot} {lo n : ℕ} {h : List Message} (l' : List Slot) → Outs o next l lo n h
    → ((c k : ℕ) → SameUnder (held_as c k) l (held_as c k) l') → ((t : ℕ) → SameUnder (ready_as t) l (ready_as t) l') → Unique l'
    → Outs o next l' lo n h
outs-keep {o} {next} {l} {lo} {n} {h} l' v sh sr u = record {
  next-same = v.next-same;
  held = λ c k. v.held c k ∙ sym (sh c k).message;
  first = λ c k. (sh c k).present ∙ (v.first c k ∙ ap has (sym (sh c k).message));
  line = v.line ∙ ap (λ (x : List Message). h ++ x) (sym (ready_line-ext l l' lo n (λ t a b. (sr t).message)));
  within = λ t e. v.within t (sym (sr t).present ∙ e);
  firsts = λ t a b. ap has (sr t).message ∙ v.firsts t a b;
  unique = u;
}

-- A sequence number is remembered: neither the held nor the ready messages change.
pub outs-remember : {o : Out} {next : ℕ → ℕ} {l : List Slot} {lo n : ℕ} {h : List Message} (m k : ℕ) → Outs o next l lo n h
    → Outs (remember m k o) next l lo n h
unfolding remember
outs-remember m k v = record {
  next-same = v.next-same;
  held = v.held;
  first = v.first;
  line = v.line;
  within = v.within;
  firsts = v.firsts;
  unique = v.unique;
}

is_at-same : (x m : Message) (c k : ℕ) → is_at m.channel m.order x ≡ true → is_at c k x ≡ is_at c k m
unfolding is_at
is_at-same x m c k e = let r = is_at-true m.channel m.order x e in cc

-- A message is held.
pub outs-hold : {o : Out} {next : ℕ → ℕ} {l : List Slot} {lo n : ℕ} {h : List Message} (m : Message) (l' : List Slot) → Outs o next l lo n h
    → message_at (held_as m.channel m.order) l' ≡ some m → any (of (held_as m.channel m.order)) l' ≡ true
    → ((c k : ℕ) → is_at c k m ≡ false → SameUnder (held_as c k) l (held_as c k) l') → ((t : ℕ) → SameUnder (ready_as t) l (ready_as t) l')
    → Unique l'
    → Outs (hold m o) next l' lo n h
unfolding hold find
outs-hold {o} {next} {l} {lo} {n} {h} m l' v is here sh sr u = record {
  next-same = v.next-same;
  held = λ c k. cases (is_at c k m) (λ t. let r = is_at-true c k m t in rw (t, ← r.0, ← r.1) (sym is))
      (λ t. rw t (v.held c k ∙ sym (sh c k t).message));
  first = λ c k. cases (is_at c k m) (λ t. let r = is_at-true c k m t in rw (← r.0, ← r.1) (here ∙ sym (ap has is)))
      (λ t. (sh c k t).present ∙ (v.first c k ∙ ap has (sym (sh c k t).message)));
  line = v.line ∙ ap (λ (x : List Message). h ++ x) (sym (ready_line-ext l l' lo n (λ t a b. (sr t).message)));
  within = λ t e. v.within t (sym (sr t).present ∙ e);
  firsts = λ t a b. ap has (sr t).message ∙ v.firsts t a b;
  unique = u;
}

-- A message is made ready.
module _ {o : Out} {next : ℕ → ℕ} {l : List Slot} {lo n : ℕ} {h : List Message} (m : Message) (l' : List Slot) (v : Outs o next l lo n h)
    (T : ℕ) (top : T ≡ n + lo) (is : message_at (ready_as T) l' ≡ some m)
    (sr : (t : ℕ) → (t ≡ T → ⊥) → SameUnder (ready_as t) l (ready_as t)
    l') (u : Unique l') where
  ready-line : o.line ++ (m ∷ []) ≡ h ++ ready_line l' lo (suc n)
  unfolding ready_line
  ready-line = rw (v.line, ready_line-ext l l' lo n (λ t a b. (sr t (λ e. omega arith)).message), ← top, is, append_assoc)

  ready-within : (t : ℕ) → any (of (ready_as t)) l' ≡ true → (lo ≤ t) × (t < suc n + lo)
  ready-within t e = cases (eqb t T) (λ y. let q = eqb-true t T y in (omega arith, omega arith))
      (λ y. let r = v.within t (sym (sr t (eqb-false t T y)).present ∙ e) in (omega arith, omega arith))

  ready-firsts : (t : ℕ) → lo ≤ t → t < suc n + lo → has (message_at (ready_as t) l') ≡ true
  ready-firsts t a b = cases (eqb t T) (λ y. rw (eqb-true t T y, is))
      (λ y. let ne : t ≡ T → ⊥ = eqb-false t T y in ap has (sr t ne).message ∙ v.firsts t a (omega arith))

  pub outs-append : ((c k : ℕ) → SameUnder (held_as c k) l (held_as c k) l') → Outs (append m o) next l' lo (suc n) h
  unfolding append
  outs-append sh = record {
    next-same = v.next-same;
    held = λ c k. v.held c k ∙ sym (sh c k).message;
    first = λ c k. (sh c k).present ∙ (v.first c k ∙ ap has (sym (sh c k).message));
    line = ready-line;
    within = ready-within;
    firsts = ready-firsts;
    unique = u;
  }

  pub outs-emit : (next' next'' : ℕ → ℕ) → next' ≡ next'' → any (of (held_as m.channel m.order)) l' ≡ false
      → ((c k : ℕ) → is_at c k m ≡ false → SameUnder (held_as c k) l (held_as c k) l')
      → Outs (record {
        profile = o.profile;
        next = next';
        newest = o.newest;
        held = without (is_at m.channel m.order) o.held;
        line = o.line ++ (m ∷ []);
      }) next'' l' lo (suc n) h
  outs-emit next' next'' same gone sh = record {
    next-same = same;
    held = λ c k. cases (is_at c k m) (λ t. let r = is_at-true c k m t in rw (← r.0, ← r.1) (away ∙ sym absent))
        (λ t. stays c k t ∙ (v.held c k ∙ sym (sh c k t).message));
    first = λ c k. cases (is_at c k m) (λ t. let r = is_at-true c k m t in rw (← r.0, ← r.1) (gone ∙ sym (ap has absent)))
        (λ t. (sh c k t).present ∙ (v.first c k ∙ ap has (sym (sh c k t).message)));
    line = ready-line;
    within = ready-within;
    firsts = ready-firsts;
    unique = u;
  }
    where
      absent : message_at (held_as m.channel m.order) l' ≡ none
      absent = message-none (held_as m.channel m.order) l' (none-sits _ 0 l' gone)

      away : find (is_at m.channel m.order) (without (is_at m.channel m.order) o.held) ≡ none
      away = find-no _ _ (any-all _ _ (λ x i. (without-mem _ _ x i).1))

      stays : (c k : ℕ) → is_at c k m ≡ false → find (is_at c k) (without (is_at m.channel m.order) o.held)
          ≡ find (is_at c k) o.held
      stays c k t = find-without (is_at c k) (is_at m.channel m.order) o.held (λ x i e. is_at-same x m c k e ∙ t)
