-- What a call that writes to an output did to it. All of this is the project's own.
use Rattle.std.specs.Prelude.{◌≡◌, ℕ, ◌≤◌, List, ◌++◌, take, Option, option_map, Result, MatchResult}
use Rattle.vnff_base.specs.Counts.{Rose}

-- What contracts see of an output: the bytes written so far, where it tells them, and how often it failed.
pub record OutputState : Type 0 where
  pub told : Option (List ℕ)
  pub faults : ℕ

-- the bytes that an output tells after a text was appended; one that tells none still tells none
abbrev pub told_after : Option (List ℕ) → List ℕ → Option (List ℕ)
told_after told text = option_map (λ bytes. bytes ++ text) told

-- A text was appended, and nothing failed.
pub record Wrote (old new : OutputState) (text : List ℕ) : Type 0 where
  pub told : new.told ≡ told_after old.told text
  pub faults : new.faults ≡ old.faults

-- Writing a text stopped at a failure of the output: a front of the text was appended.
pub record Stopped (old new : OutputState) (text : List ℕ) : Type 0 where
  pub told : (n : ℕ) × (new.told ≡ told_after old.told (take n text))
  pub rose : Rose old.faults new.faults
  pub grew : old.faults ≤ new.faults

-- What a call answered that was to write a text: it wrote it, or it stopped at a failure.
abbrev pub Writes : {A E : Type 0} → OutputState → OutputState → List ℕ → Result A E → Type 0
Writes old new text result = MatchResult result (λ _. Wrote old new text) (λ _. Stopped old new text)
