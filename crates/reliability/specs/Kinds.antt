-- Document 01, "Bytes": "Reliable number: 2, 3, 4, 7. Sequence number: 1, 4. Order number and channel: 1, 3, 7." They stand in this order
-- after flags (1 byte) and length (2); a number takes 3 bytes and the channel 1. Request 2: RakNet's own C++ "puts an order number and
-- channel after kind 4's sequence number".
use Rattle.std.specs.Prelude.{ℕ, ◌+◌, ◌%◌, ◌≤◌, Bool, true, false, ◌||◌, eqb, Option, Some, None, IfSome}
use Rattle.base.specs.Answer.{Answer, refused, gives}
use Rattle.base.specs.If.{if_eq}
use Rattle.reliability.specs.declared.KindFields.{KindFields}
use Rattle.reliability.specs.declared.Profile.{Profile}
use Rattle.reliability.specs.declared.Profile.TheVariants.{Console, Cpp}
use Rattle.reliability.specs.declared.Reliability.{Reliability}
use Rattle.reliability.specs.declared.Reliability.TheVariants as kind

-- "Kinds 0 to 7": those of the Rust's `Reliability`, in its order
abbrev pub kind_number : Reliability → ℕ
kind_number kind.Unreliable = 0
kind_number kind.UnreliableSeq = 1
kind_number kind.Reliable = 2
kind_number kind.ReliableOrd = 3
kind_number kind.ReliableSeq = 4
kind_number kind.UnreliableAck = 5
kind_number kind.ReliableAck = 6
kind_number kind.ReliableOrdAck = 7

-- the kind of a number: 15, the writer's refusal of a kind over its limit, where it is none's
unfoldable pub kind_named : ℕ → Answer Reliability
kind_named n =
    if_eq n 0 (gives kind.Unreliable)
    (if_eq n 1 (gives kind.UnreliableSeq)
    (if_eq n 2 (gives kind.Reliable)
    (if_eq n 3 (gives kind.ReliableOrd)
    (if_eq n 4 (gives kind.ReliableSeq)
    (if_eq n 5 (gives kind.UnreliableAck)
    (if_eq n 6 (gives kind.ReliableAck)
    (if_eq n 7 (gives kind.ReliableOrdAck)
    (refused 15))))))))

abbrev pub has_reliable : ℕ → Bool
has_reliable k = eqb k 2 || eqb k 3 || eqb k 4 || eqb k 7

abbrev pub has_sequence : ℕ → Bool
has_sequence k = eqb k 1 || eqb k 4

abbrev pub has_order : Profile → ℕ → Bool
has_order Console k = eqb k 1 || eqb k 3 || eqb k 7
has_order Cpp k = eqb k 1 || eqb k 3 || eqb k 4 || eqb k 7

-- n where there is the field, else 0
abbrev pub when : Bool → ℕ → ℕ
when true n = n
when false n = 0

-- the place of a field, where there is the field
abbrev pub place_when : Bool → ℕ → Option ℕ
place_when true n = Some n
place_when false n = None

-- x where there is no field, else f of its place
abbrev pub on_place : {A : Type 0} → Option ℕ → A → (ℕ → A) → A
on_place None x f = x
on_place (Some n) x f = f n

-- the place after the reliable number, and after the sequence number
abbrev pub after_reliable : ℕ → ℕ
after_reliable k = 3 + when (has_reliable k) 3

abbrev pub after_sequence : ℕ → ℕ
after_sequence k = after_reliable k + when (has_sequence k) 3

-- the row of kind k in a profile, from the document's three lists
abbrev pub row_of : Profile → ℕ → KindFields
row_of p k =
    record {
      reliable = place_when (has_reliable k) 3;
      sequence = place_when (has_sequence k) (after_reliable k);
      order = place_when (has_order p k) (after_sequence k);
      channel = place_when (has_order p k) (after_sequence k + 3);
      header = after_sequence k + when (has_order p k) 4;
    }

-- the kind is the top three bits of a byte, so there are eight
unfoldable pub fields_of : Profile → ℕ → KindFields
fields_of p k = row_of p (k % 8)

-- every place is a small number, so that no sum with one wraps
pub record Small (f : KindFields) : Type 0 where
  pub reliable : IfSome f.reliable (λ n. n ≤ 13)
  pub sequence : IfSome f.sequence (λ n. n ≤ 13)
  pub order : IfSome f.order (λ n. n ≤ 13)
  pub channel : IfSome f.channel (λ n. n ≤ 13)
  pub low : 3 ≤ f.header
  pub header : f.header ≤ 13
