-- A text has one answer.
use Rattle.std.proofs.Common.{◌≡◌, ◌⊎◌, inl, inr, Result, Ok, Err, refl}

pub one_of : {A B : Type 0} (answer : Result A B) → ((value : A) × (answer ≡ Ok value)) ⊎ ((fault : B) × (answer ≡ Err fault))
one_of (Ok value) = inl (value, refl)
one_of (Err fault) = inr (fault, refl)

pub one_value : {A B : Type 0} (answer : Result A B) (a b : A) → answer ≡ Ok a → answer ≡ Ok b → a ≡ b
one_value answer a b first second = cc

pub one_fault : {A B : Type 0} (answer : Result A B) (a b : B) → answer ≡ Err a → answer ≡ Err b → a ≡ b
one_fault answer a b first second = cc

pub not_both : {A B : Type 0} (answer : Result A B) (value : A) (fault : B) → answer ≡ Ok value → answer ≡ Err fault → ⊥
not_both answer value fault good bad = absurd (cc)
