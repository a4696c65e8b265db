-- Kinds as numbers: the eight kinds have the numbers below 8, and the number that names a kind is the kind's.
-- Assumes nothing.
use mathlib.Core.Path.{◌≡◌, refl, sym, ◌∙◌, ap}
use mathlib.Core.Bool.{false}
use Prim.Native.Nat.{ℕ, zero, suc, ◌≤◌, ◌<◌}
use native.Mathlib.Decide.{dec_lt}
use native.Mathlib.Omega.{arith}
use Rattle.base.specs.Answer.{refused, gives}
use Rattle.base.specs.If.{if_true, if_eq}
use Rattle.base.proofs.Ifs.{eq_no}
use Rattle.reliability.proofs.Laws.{none-from-8}
use Rattle.reliability.specs.declared.Reliability.{Reliability}
use Rattle.reliability.specs.declared.Reliability.TheVariants.{Unreliable, UnreliableSeq, Reliable, ReliableOrd}
use Rattle.reliability.specs.declared.Reliability.TheVariants.{ReliableSeq, UnreliableAck, ReliableAck, ReliableOrdAck}
use Rattle.reliability.specs.Kinds.{kind_number, kind_named, has_reliable}

named-back : (k : Reliability) → gives k ≡ kind_named (kind_number k)
unfolding kind_named if_eq if_true
named-back Unreliable = refl
named-back UnreliableSeq = refl
named-back Reliable = refl
named-back ReliableOrd = refl
named-back ReliableSeq = refl
named-back UnreliableAck = refl
named-back ReliableAck = refl
named-back ReliableOrdAck = refl

-- the answers of a number that is asked for a kind
pub named_kind : (k : Reliability) (n : ℕ) → n ≡ kind_number k → gives k ≡ kind_named n
named_kind k n e = rw e (named-back k)

pub named_none : (n : ℕ) → 8 ≤ n → refused 15 ≡ kind_named n
unfolding kind_named
named_none n h =
    eq_no n 0 _ _ _ (λ e. omega arith)
    (eq_no n 1 _ _ _ (λ e. omega arith)
    (eq_no n 2 _ _ _ (λ e. omega arith)
    (eq_no n 3 _ _ _ (λ e. omega arith)
    (eq_no n 4 _ _ _ (λ e. omega arith)
    (eq_no n 5 _ _ _ (λ e. omega arith)
    (eq_no n 6 _ _ _ (λ e. omega arith)
    (eq_no n 7 _ _ _ (λ e. omega arith) refl)))))))

-- each number below 8 is some kind's
kind-there : (n : ℕ) → n < 8 → (k : Reliability) × (n ≡ kind_number k)
kind-there zero h = (Unreliable, refl)
kind-there (suc zero) h = (UnreliableSeq, refl)
kind-there (suc (suc zero)) h = (Reliable, refl)
kind-there (suc (suc (suc zero))) h = (ReliableOrd, refl)
kind-there (suc (suc (suc (suc zero)))) h = (ReliableSeq, refl)
kind-there (suc (suc (suc (suc (suc zero))))) h = (UnreliableAck, refl)
kind-there (suc (suc (suc (suc (suc (suc zero)))))) h = (ReliableAck, refl)
kind-there (suc (suc (suc (suc (suc (suc (suc zero))))))) h = (ReliableOrdAck, refl)
kind-there (suc (suc (suc (suc (suc (suc (suc (suc n)))))))) h = absurd (omega arith)

-- what each answer tells of the number
pub kind_told : (k : Reliability) (n : ℕ) → gives k ≡ kind_named n → n ≡ kind_number k
kind_told k n e = go (dec_lt n 8)
  where
    go : Dec (n < 8) → n ≡ kind_number k
    go (yes h) =
        let (i, w) = kind-there n h in
        let same : gives k ≡ gives i = e ∙ sym (named_kind i n w) in
        w ∙ ap kind_number cc
    go (no h) =
        let other : gives k ≡ refused 15 = e ∙ sym (named_none n (omega arith)) in
        cc

pub none_told : (n m : ℕ) → refused m ≡ kind_named n → 8 ≤ n
none_told n m e = go (dec_lt n 8)
  where
    go : Dec (n < 8) → 8 ≤ n
    go (yes h) =
        let (i, w) = kind-there n h in
        let other : refused m ≡ gives i = e ∙ sym (named_kind i n w) in
        cc
    go (no h) = omega arith

-- the reliable numbers: a number that is no kind's has none
pub reliable_told : (k : Reliability) (n : ℕ) → gives k ≡ kind_named n → has_reliable (kind_number k) ≡ has_reliable n
reliable_told k n e = ap has_reliable (sym (kind_told k n e))

pub none_reliable : (n m : ℕ) → refused m ≡ kind_named n → false ≡ has_reliable n
none_reliable n m e = sym (none-from-8 n (none_told n m e))
