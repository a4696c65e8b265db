-- Laws of choices by a test or an option, and of the tests' own connectives.
-- Assumes nothing.
use mathlib.Core.Path.{◌≡◌, refl, ap, subst}
use mathlib.Core.Bool.{Bool, true, false, cond, not, ◌&&◌, ◌||◌, true≢false, false≢true}
use mathlib.Core.Option.{Option, none, some}
use Rattle.base.specs.Lists.{option}

-- A choice by a test: what holds in both cases holds of the choice.
pub by_bool : {A : Type 0} (P : A → Type 0) (t : Bool) {x y : A} → (t ≡ true → P x) → (t ≡ false → P y) → P (cond t x y)
by_bool P true f g = f refl
by_bool P false f g = g refl

-- A statement from both values of a test.
pub cases : {A : Type 0} (t : Bool) → (t ≡ true → A) → (t ≡ false → A) → A
cases true f g = f refl
cases false f g = g refl

pub by_option : {A B : Type 0} (P : B → Type 0) (o : Option A) {b : B} {f : A → B} → (o ≡ none → P b) → ((a : A) → o ≡ some a → P (f a))
    → P (option o b f)
by_option P none g h = g refl
by_option P (some a) g h = h a refl

-- A statement from both forms of an option.
pub case_option : {A X : Type 0} (o : Option A) → (o ≡ none → X) → ((a : A) → o ≡ some a → X) → X
case_option none f g = f refl
case_option (some a) f g = g a refl

-- A function of a choice is the choice of its values.
pub cond-ap : {A B : Type 0} (F : A → B) (t : Bool) (x y : A) → F (cond t x y) ≡ cond t (F x) (F y)
cond-ap F true x y = refl
cond-ap F false x y = refl

-- Equal tests choose the same; equal arms give the same choice.
pub cond-test : {A : Type 0} (t u : Bool) (x y : A) → t ≡ u → cond t x y ≡ cond u x y
cond-test t u x y e = ap (λ (b : Bool). cond b x y) e

pub option-arm : {A B : Type 0} (o : Option A) (b : B) (F G : A → B) → ((a : A) → F a ≡ G a) → option o b F ≡ option o b G
option-arm none b F G h = refl
option-arm (some a) b F G h = h a

-- Choices by equal tests, or from equal options, are related where their arms are.
pub same_cond : {A : Type 0} (R : A → A → Type 0) (t t' : Bool) → t ≡ t' → {x y x' y' : A} → (t ≡ true → R x x') → (t ≡ false → R y y')
    → R (cond t x y) (cond t' x' y')
same_cond R true true e f g = f refl
same_cond R true false e f g = absurd (true≢false e)
same_cond R false true e f g = absurd (false≢true e)
same_cond R false false e f g = g refl

pub same-option : {A B : Type 0} (R : B → B → Type 0) (o o' : Option A) → o ≡ o' → {b b' : B} {f f' : A → B} → (o ≡ none → R b b')
    → ((a : A) → o ≡ some a → R (f a) (f' a)) → R (option o b f) (option o' b' f')
same-option {A} {B} R o o' e {b} {b'} {f} {f'} g h = subst (λ (z : Option A). R (option o b f) (option z b' f')) e (diagonal o g h)
  where
    diagonal : (o : Option A) → (o ≡ none → R b b') → ((a : A) → o ≡ some a → R (f a) (f' a)) → R (option o b f) (option o b' f')
    diagonal none g h = g refl
    diagonal (some a) g h = h a refl

pub and_left : (a b : Bool) → (a && b) ≡ true → a ≡ true
and_left true b e = refl
and_left false b e = e

pub and_right : (a b : Bool) → (a && b) ≡ true → b ≡ true
and_right true b e = e
and_right false b e = absurd (false≢true e)

pub and_both : (a b : Bool) → a ≡ true → b ≡ true → (a && b) ≡ true
and_both true b e f = f
and_both false b e f = e

pub or_left : (a b : Bool) → (a || b) ≡ false → a ≡ false
or_left true b e = e
or_left false b e = refl

pub or_right : (a b : Bool) → (a || b) ≡ false → b ≡ false
or_right true b e = absurd (true≢false e)
or_right false b e = e

pub neither : {X : Type 0} (a : Bool) → a ≡ true → a ≡ false → X
neither true e f = absurd (true≢false f)
neither false e f = absurd (false≢true e)

-- "not a, or b" says: where a, b.
pub or-implied : (a b : Bool) → (not a || b) ≡ true → a ≡ true → b ≡ true
or-implied true b e f = e
or-implied false b e f = absurd (false≢true f)

pub implied-or : (a b : Bool) → (a ≡ true → b ≡ true) → (not a || b) ≡ true
implied-or true b k = k refl
implied-or false b k = refl
