-- What holds of the value that steps give, where there is one.
use Rattle.std.proofs.Common.{◌≡◌, Bool, true, false, if◌then◌else◌, Option, Some, None, option_map, IfSome, Result, Ok, Err, IfOk, refl}
use Rattle.std.specs.Prelude.{⊤}
use Rattle.std.specs.Option.{ok_or, option_and_then}
use Rattle.std.proofs.lemmas.Option.{MatchOption-at_some}
use Rattle.ntuple_text.specs.Steps.{and_then}
use Rattle.ntuple_text.specs.declared.error.Fault.{Fault}

pub some-from : {A : Type 0} (P : A → Type 0) (read : Option A) → ((a : A) → read ≡ Some a → P a) → IfSome read P
some-from P None keep = tt
some-from P (Some a) keep = keep a refl

pub some-at : {A : Type 0} (P : A → Type 0) {read : Option A} (a : A) → read ≡ Some a → IfSome read P → P a
some-at P a is h = MatchOption-at_some ⊤ P a is h

pub some-if : {A : Type 0} (P : A → Type 0) (test : Bool) (x y : Option A) → (test ≡ true → IfSome x P) → (test ≡ false → IfSome y P) → IfSome (if test then x else y) P
some-if P true x y first second = first refl
some-if P false x y first second = second refl

pub some-then : {A B : Type 0} (P : A → Type 0) (Q : B → Type 0) (next : A → Option B) (read : Option A) → IfSome read P → ((a : A) → P a → IfSome (next a) Q) → IfSome (option_and_then next read) Q
some-then P Q next None h keep = tt
some-then P Q next (Some a) h keep = keep a h

pub some-map : {A B : Type 0} (P : A → Type 0) (Q : B → Type 0) (f : A → B) (read : Option A) → IfSome read P → ((a : A) → P a → Q (f a)) → IfSome (option_map f read) Q
some-map P Q f None h keep = tt
some-map P Q f (Some a) h keep = keep a h

pub ok-or : {A : Type 0} (P : A → Type 0) (fault : Fault) (read : Option A) → IfSome read P → IfOk (ok_or read fault) P
ok-or P fault None h = tt
ok-or P fault (Some a) h = h

pub ok-if : {A : Type 0} (P : A → Type 0) (test : Bool) (x y : Result A Fault) → (test ≡ true → IfOk x P) → (test ≡ false → IfOk y P) → IfOk (if test then x else y) P
ok-if P true x y first second = first refl
ok-if P false x y first second = second refl

pub ok-then : {A B : Type 0} (P : A → Type 0) (Q : B → Type 0) (next : A → Result B Fault) (read : Result A Fault) → IfOk read P → ((a : A) → P a → IfOk (next a) Q) → IfOk (and_then next read) Q
ok-then P Q next (Err fault) h keep = tt
ok-then P Q next (Ok a) h keep = keep a h

-- a step after one of which nothing need hold
pub ok-next : {A B : Type 0} (Q : B → Type 0) (next : A → Result B Fault) (read : Result A Fault) → ((a : A) → IfOk (next a) Q) → IfOk (and_then next read) Q
ok-next Q next (Err fault) keep = tt
ok-next Q next (Ok a) keep = keep a
