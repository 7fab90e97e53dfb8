-- What a reading that ended well has passed.
use Rattle.std.proofs.Common.{◌≡◌, ◌≢◌, ℕ, ◌<◌, ◌≤◌, subst, refl, Bool, true, false, cond, not, eqb, ltb, List, [], ◌∷◌, Option, Some, None, Result, Ok, Err, ⊎_elim}
use Rattle.std.specs.List.{find}
use Rattle.std.specs.Option.{ok_or}
use Rattle.std.proofs.lemmas.Bool.{cases_lt, lt-ltb, le-ltb}
use Rattle.std.proofs.lemmas.Bool.Decides.{eqb_tells}
use Rattle.admin_wire.specs.declared.error.WireErr.{WireErr}
use Rattle.admin_wire.specs.Faults.{◌>>=◌}
use Rattle.admin_wire.specs.Fields.{Field, Spells}

pub long_enough : {A : Type 0} (m n : ℕ) (fault : WireErr) (read : Result A WireErr) (x : A)
    → cond (ltb m n) (Err fault) read ≡ Ok x
    → (n ≤ m) × (read ≡ Ok x)
long_enough m n fault read x h = ⊎_elim
    (λ (short : m < n). let bad : Err fault ≡ Ok x = subst (λ b. cond b (Err fault) read ≡ Ok x) (lt-ltb m n short) h in absurd cc)
    (λ (enough : n ≤ m). (enough, subst (λ b. cond b (Err fault) read ≡ Ok x) (le-ltb m n enough) h))
    (cases_lt m n)

pub equal_numbers : {A : Type 0} (m n : ℕ) (fault : WireErr) (read : Result A WireErr) (x : A)
    → cond (not (eqb m n)) (Err fault) read ≡ Ok x
    → (m ≡ n) × (read ≡ Ok x)
equal_numbers m n fault read x h = ⊎_elim
    (λ (same : (eqb m n ≡ true) × (m ≡ n)). (same.1, subst (λ b. cond (not b) (Err fault) read ≡ Ok x) same.0 h))
    (λ (other : (eqb m n ≡ false) × (m ≢ n)).
    let bad : Err fault ≡ Ok x = subst (λ b. cond (not b) (Err fault) read ≡ Ok x) other.0 h in absurd cc)
    (eqb_tells m n)

pub after_step : {A B : Type 0} (read : Result A WireErr) (next : A → Result B WireErr) (y : B) → (read >>= next) ≡ Ok y
    → (x : A) × (read ≡ Ok x) × (next x ≡ Ok y)
after_step (Ok x) next y h = (x, refl, h)
after_step (Err fault) next y h = absurd cc

pub ok_or_ok : {A : Type 0} (found : Option A) (fault : WireErr) (x : A) → ok_or found fault ≡ Ok x → found ≡ Some x
ok_or_ok None fault x h = absurd cc
ok_or_ok (Some y) fault x h = let e : y ≡ x = cc h in cc

found_passes : {A : Type 0} (b : Bool) (y x : A) (rest : Option A) (test : A → Bool) → test y ≡ b
    → (rest ≡ Some x → test x ≡ true)
    → cond b (Some y) rest ≡ Some x → test x ≡ true
found_passes true y x rest test is others h = let e : y ≡ x = cc in subst (λ z. test z ≡ true) e is
found_passes false y x rest test is others h = others h

-- what is found passes the test
pub find_passes : {A : Type 0} (test : A → Bool) (xs : List A) (x : A) → find test xs ≡ Some x → test x ≡ true
find_passes test [] x h = absurd cc
find_passes test (y ∷ ys) x h = found_passes (test y) y x (find test ys) test refl (find_passes test ys x) h

-- the bytes begin with these fields
abbrev pub Begins : List ℕ → List Field → Type 0
Begins bytes fields = (rest : List ℕ) × Spells bytes fields rest
