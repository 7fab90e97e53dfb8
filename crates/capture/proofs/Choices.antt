-- Which way a test went, and which steps were taken, by what came of it.
use Rattle.std.proofs.Common.{◌≡◌, Bool, true, false, cond, Result, Ok, Err, refl, inl, inr, ◌⊎◌}
use Rattle.capture.specs.declared.error.CaptureErr.{CaptureErr}
use Rattle.capture.specs.Records.{◌>>=◌}

pub test-way : {A : Type 0} (b : Bool) (x y z : A) → cond b x y ≡ z → ((b ≡ true) × (x ≡ z)) ⊎ ((b ≡ false) × (y ≡ z))
test-way true x y z same = inl (refl, same)
test-way false x y z same = inr (refl, same)

-- a test that leads to a fault when it holds
pub fault_if-ok : {A : Type 0} (b : Bool) (fault : CaptureErr) (read : Result A CaptureErr) (x : A) → cond b (Err fault) read ≡ Ok x → (b ≡ false) × (read ≡ Ok x)
fault_if-ok true fault read x same = absurd (cc)
fault_if-ok false fault read x same = (refl, same)

-- a test that leads to a fault when it fails
pub fault_unless-ok : {A : Type 0} (b : Bool) (fault : CaptureErr) (read : Result A CaptureErr) (x : A) → cond b read (Err fault) ≡ Ok x → (b ≡ true) × (read ≡ Ok x)
fault_unless-ok true fault read x same = (refl, same)
fault_unless-ok false fault read x same = absurd (cc)

pub bind_ok : {A B : Type 0} (read : Result A CaptureErr) (f : A → Result B CaptureErr) (y : B) → (read >>= f) ≡ Ok y → (x : A) × (read ≡ Ok x) × (f x ≡ Ok y)
bind_ok (Ok x) f y same = (x, refl, same)
bind_ok (Err e) f y same = absurd (cc)

-- one value comes of a step
pub ok_same : {A : Type 0} (read : Result A CaptureErr) (x y : A) → read ≡ Ok x → read ≡ Ok y → x ≡ y
ok_same read x y one other = cc
