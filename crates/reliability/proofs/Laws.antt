-- Every place of a row is a small number and lies in the header, and a kind's row says whether it has a reliable number.
-- Assumes nothing.
use mathlib.Core.Path.{◌≡◌, refl, sym, ◌∙◌, ap}
use mathlib.Core.Bool.{Bool, true, false, cond, ◌&&◌}
use mathlib.Core.List.{List}
use Prim.Native.Nat.{ℕ, ◌+◌, ◌%◌, ◌≤◌, ◌<◌, zero-le}
use native.Mathlib.Nat.{le_refl, mod-lt}
use native.Mathlib.Decide.{dec_lt}
use native.Mathlib.Omega.{arith}
use lib.Dec.{ltb, lit<}
use lib.ListN.{get_or}
use borrow.Author.Tests.{ltb-true, ltb-false, ne_eqb}
use Rattle.std.specs.Prelude.{Result, Ok, Err, IfSome, is_some}
use Rattle.std.specs.Result.{result_unwrap_or}
use Rattle.base.specs.Answer.{refused, gives}
use Rattle.base.specs.Refusals.{number_of, answer}
use Rattle.base.specs.declared.refusal.Refusal.{Refusal}
use Rattle.base.specs.Limits.{profiles}
use Rattle.base.proofs.Ifs.{lt_yes, lt_no}
use Rattle.reliability.proofs.Table.{tab, at}
use Rattle.reliability.specs.declared.KindFields.{KindFields}
use Rattle.reliability.specs.declared.Profile.{Profile}
use Rattle.reliability.specs.declared.Profile.TheVariants.{Console, Cpp}
use Rattle.reliability.specs.Profiles.{profile_of, profile_number, profile_named}
use Rattle.reliability.specs.Kinds.{when, place_when, has_reliable, has_sequence, has_order}
use Rattle.reliability.specs.Kinds.{after_reliable, after_sequence, row_of, fields_of, Small}

when-le : (b : Bool) (n : ℕ) → when b n ≤ n
when-le true n = le_refl n
when-le false n = zero-le

-- a small place, where the field is there
there : (b : Bool) (n : ℕ) → n ≤ 13 → IfSome (place_when b n) (λ i. i ≤ 13)
there true n h = h
there false n h = tt

pub small : (p : Profile) (k : ℕ) → Small (row_of p k)
small p k =
    let a = when-le (has_reliable k) 3 in
    let b = when-le (has_sequence k) 3 in
    let d = when-le (has_order p k) 4 in
    record {
      reliable = there (has_reliable k) 3 (omega arith);
      sequence = there (has_sequence k) (after_reliable k) (omega arith);
      order = there (has_order p k) (after_sequence k) (omega arith);
      channel = there (has_order p k) (after_sequence k + 3) (omega arith);
      low = omega arith;
      header = omega arith;
    }

-- each field lies in the header: three bytes for a number, and one for the channel
pub record Inside (f : KindFields) : Type 0 where
  pub reliable : IfSome f.reliable (λ n. n + 3 ≤ f.header)
  pub sequence : IfSome f.sequence (λ n. n + 3 ≤ f.header)
  pub order : IfSome f.order (λ n. n + 3 ≤ f.header)
  pub channel : IfSome f.channel (λ n. n < f.header)

-- l and m are the bytes of the fields behind it
reliable-in : (b : Bool) (l m : ℕ) → IfSome (place_when b 3) (λ i. i + 3 ≤ 3 + when b 3 + l + m)
reliable-in true l m = omega arith
reliable-in false l m = tt

sequence-in : (b : Bool) (n m : ℕ) → IfSome (place_when b n) (λ i. i + 3 ≤ n + when b 3 + m)
sequence-in true n m = omega arith
sequence-in false n m = tt

order-in : (b : Bool) (n : ℕ) → IfSome (place_when b n) (λ i. i + 3 ≤ n + when b 4)
order-in true n = omega arith
order-in false n = tt

channel-in : (b : Bool) (n : ℕ) → IfSome (place_when b (n + 3)) (λ i. i < n + when b 4)
channel-in true n = omega arith
channel-in false n = tt

pub inside : (p : Profile) (k : ℕ) → Inside (row_of p k)
inside p k =
    record {
      reliable = reliable-in (has_reliable k) (when (has_sequence k) 3) (when (has_order p k) 4);
      sequence = sequence-in (has_sequence k) (after_reliable k) (when (has_order p k) 4);
      order = order-in (has_order p k) (after_sequence k);
      channel = channel-in (has_order p k) (after_sequence k);
    }

-- A field is there where it has a place; from 8 on there is no kind.
placed : (b : Bool) (n : ℕ) → is_some (place_when b n) ≡ b
placed true n = refl
placed false n = refl

pub none-from-8 : (k : ℕ) → 8 ≤ k → has_reliable k ≡ false
none-from-8 k ge = rw (
  ne_eqb k 2 (λ e. omega arith),
  ne_eqb k 3 (λ e. omega arith),
  ne_eqb k 4 (λ e. omega arith),
  ne_eqb k 7 (λ e. omega arith),
)

pub reliable-there : (p : Profile) (k : ℕ) (f : KindFields) → f ≡ fields_of p k → (ltb k 8 && is_some f.reliable) ≡ has_reliable k
unfolding fields_of
reliable-there p k f e = rw e (go (ltb k 8) refl)
  where
    go : (b : Bool) → ltb k 8 ≡ b → (b && is_some (place_when (has_reliable (k % 8)) 3)) ≡ has_reliable k
    go true t =
        let lt = ltb-true k 8 t in
        let m : k % 8 ≡ k = omega arith in
        placed (has_reliable (k % 8)) 3 ∙ ap has_reliable m
    go false t = sym (none-from-8 k (ltb-false k 8 t))

-- ---- the table's rule, once for both profiles: the row of a kind, by its number
pub row_is : (p : Profile) (k n : ℕ) (r : KindFields) → k % 8 ≡ n → r ≡ row_of p n → (r ≡ fields_of p k) × Small r
unfolding fields_of
row_is p k n r i e = (rw i e, rw e (small p n))

-- the row that a profile's table has at a kind's place
pub row-found : (p q : Profile) (k n : ℕ) (rows : List KindFields) (d : KindFields) → p ≡ q → rows ≡ tab (row_of q) 0 8 → n ≡ k % 8
    → get_or rows n d ≡ fields_of p k
row-found p q k n rows d same e i =
    rw (same, i) (row_is q k (k % 8) _ refl (at (row_of q) 8 rows e (k % 8) d (mod-lt k (lit< tt)))).0

-- ---- profiles as numbers

pub profile-back : (p : Profile) → profile_of (profile_number p) ≡ p
unfolding profile_of
profile-back Console = refl
profile-back Cpp = refl

pub profile-known : (p : Profile) → profile_number p < 2
profile-known Console = lit< tt
profile-known Cpp = lit< tt

-- the three answers of a number that is asked for a profile
pub named_console : (n : ℕ) → n ≡ 0 → gives Console ≡ profile_named n
unfolding profile_named profile_of
named_console n e = rw e (lt_yes 0 profiles _ _ _ (lit< tt) refl)

pub named_cpp : (n : ℕ) → n ≡ 1 → gives Cpp ≡ profile_named n
unfolding profile_named profile_of
named_cpp n e = rw e (lt_yes 1 profiles _ _ _ (lit< tt) refl)

pub named_none : (n : ℕ) → (n ≡ 0 → ⊥) → (n ≡ 1 → ⊥) → refused 9 ≡ profile_named n
unfolding profile_named
named_none n a b = lt_no n profiles _ _ _ (omega arith) refl

-- and what each of them tells of the number
pub named-told : (n : ℕ) (p : Profile) → gives p ≡ profile_named n → (n < profiles) × (p ≡ profile_of n)
unfolding profile_named
named-told n p e = go (dec_lt n profiles)
  where
    go : Dec (n < profiles) → (n < profiles) × (p ≡ profile_of n)
    go (yes h) =
        let same : gives p ≡ gives (profile_of n) = e ∙ sym (lt_yes n profiles _ _ _ h refl) in
        (h, cc)
    go (no h) =
        let other : gives p ≡ refused 9 = e ∙ sym (lt_no n profiles _ _ _ (omega arith) refl) in
        cc

pub refused-told : (n m : ℕ) → refused m ≡ profile_named n → (profiles ≤ n) × (m ≡ 9)
unfolding profile_named
refused-told n m e = go (dec_lt n profiles)
  where
    go : Dec (n < profiles) → (profiles ≤ n) × (m ≡ 9)
    go (yes h) =
        let other : refused m ≡ gives (profile_of n) = e ∙ sym (lt_yes n profiles _ _ _ h refl) in
        cc
    go (no h) =
        let same : refused m ≡ refused 9 = e ∙ sym (lt_no n profiles _ _ _ (omega arith) refl) in
        (omega arith, cc)

pub console-else : (n : ℕ) → (n ≡ 1 → ⊥) → Console ≡ profile_of n
unfolding profile_of
console-else n e = sym (ap (λ b. cond b Cpp Console) (ne_eqb n 1 e))

-- a number is read as the profile that it names, or as the console's
pub read_named : (n : ℕ) (r : Result Profile Refusal) → answer r ≡ profile_named n → result_unwrap_or r Console ≡ profile_of n
read_named n (Ok p) e = (named-told n p e).1
read_named n (Err m) e = let h = refused-told n (number_of m) e in console-else n (λ i. omega arith)
