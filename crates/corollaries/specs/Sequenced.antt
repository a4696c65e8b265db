-- Request 1 over lists of calls: "Late sequenced levers are discarded"; in either profile (request 2).
use Rattle.std.specs.Prelude.{ℕ, ◌≡◌, List, ◌++◌, map}
use Rattle.reliability.specs.declared.Profile.TheVariants.{Console, Cpp}
use Rattle.bare.specs.Sequenced.{NumberedMessage, numbered_line, sequences_of, kind1_on, kind4, sequenced_on, RisesFrom}
use Rattle.receiver.specs.Calls.{Call, outcome, after_all, handed_out, still_out}
use Rattle.receiver.specs.Claim.{Start, begun, told_by}

-- what a list's takes handed out, and would still hand out, each message with the sequence number of the frame that put it into the line
abbrev pub numbered_by : Start → List Call → List NumberedMessage
numbered_by s cs = numbered_line s.profile (told_by outcome s cs)

pub record SequencedRise (s : Start) (cs : List Call) : Type 0 where
  pub messages : map (λ (x : NumberedMessage). x.message) (numbered_by s cs)
      ≡ handed_out outcome (begun s) cs ++ still_out outcome (after_all outcome (begun s) cs)
  -- "each channel remembers the highest sequence number it made ready by kind 1": on one channel their numbers rise, so none comes late
  pub kind_1 : (c : ℕ) → RisesFrom 0 (sequences_of (kind1_on c) (numbered_by s cs))
  -- "Kind 4 .. gets one such memory for the whole receiver": in the console profile
  pub kind_4 : s.profile ≡ Console → RisesFrom 0 (sequences_of kind4 (numbered_by s cs))
  -- "Kind 4 then uses its channel's memory": in the C++ profile kinds 1 and 4 of a channel rise together
  pub kinds_1_and_4 : s.profile ≡ Cpp → (c : ℕ) → RisesFrom 0 (sequences_of (sequenced_on c) (numbered_by s cs))
