-- Document 02, request 2: "A receiver, frame reader or frame writer is made for the console profile of document 01 or for this one, and
-- keeps it." A profile is a value with two cases (`Profile`); where it is kept, or named by another language, it is a number.
use Rattle.std.specs.Prelude.{ℕ, cond, eqb}
use Rattle.base.specs.Answer.{Answer, refused, gives}
use Rattle.base.specs.If.{if_lt}
use Rattle.base.specs.Limits.{profiles}
use Rattle.reliability.specs.declared.Profile.{Profile}
use Rattle.reliability.specs.declared.Profile.TheVariants.{Console, Cpp}

-- "profile (0 console, 1 C++)" (document 02, request 5)
abbrev pub profile_number : Profile → ℕ
profile_number Console = 0
profile_number Cpp = 1

-- the profile of a number; numbers from 2 on are none, and whoever asks them first (base's `profiles`) never comes here with one
unfoldable pub profile_of : ℕ → Profile
profile_of n = cond (eqb n 1) Cpp Console

-- the profile of a number that another language names: 9 where it is none's
unfoldable pub profile_named : ℕ → Answer Profile
profile_named n = if_lt n profiles (gives (profile_of n)) (refused 9)
