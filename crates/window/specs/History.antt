-- Inserts one after another, each into the window that the last one returned.
use Rattle.std.specs.Prelude.{ℕ, Bool, true, false, List, [], ◌∷◌}
use Rattle.base.specs.Answer.{Answer, refused, gives}
use Rattle.base.specs.If.{if_true}
use Rattle.window.specs.Window.{insert_of}
use Rattle.window.specs.declared.ReliableWindow.{ReliableWindow}

-- the window afterwards
unfoldable pub insert_all : ReliableWindow → List ℕ → ReliableWindow
insert_all w [] = w
insert_all w (n ∷ ns) = insert_all (insert_of w n).window ns

abbrev pub is_given : {A : Type 0} → Answer A → Bool
is_given (refused number) = false
is_given (gives x) = true

-- the numbers that were answered with no refusal
unfoldable pub answered_accepted : ReliableWindow → List ℕ → List ℕ
answered_accepted w [] = []
answered_accepted w (n ∷ ns) =
    let rest = answered_accepted (insert_of w n).window ns in
    if_true (is_given (insert_of w n).answer) (n ∷ rest) rest
