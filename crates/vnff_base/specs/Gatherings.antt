-- A text that is gathered before it is put to an output, piece by piece, so that a few of its bytes wait. This
-- project's own.
use Rattle.std.specs.Prelude.{◌≡◌, ℕ, List, ◌++◌, Result, MatchResult}
use Rattle.vnff_base.specs.Outputs.{OutputState, Wrote, Stopped}

-- A text was taken behind the bytes that waited, and nothing failed: a front of both was put, and the rest waits.
pub record Took (old new : OutputState) (waited waits text : List ℕ) : Type 0 where
  pub front : List ℕ
  pub wrote : Wrote old new front
  pub rest : front ++ waits ≡ waited ++ text

-- Taking a text behind the bytes that waited stopped at a failure of the output: a front of both was put.
pub record Lost (old new : OutputState) (waited text : List ℕ) : Type 0 where
  pub stopped : Stopped old new (waited ++ text)

-- What a call answered that was to take a text behind the bytes that waited: it took it, or it stopped at a failure.
abbrev pub Gathers : {A E : Type 0} → OutputState → OutputState → List ℕ → List ℕ → List ℕ → Result A E → Type 0
Gathers old new waited waits text result =
    MatchResult result (λ _. Took old new waited waits text) (λ _. Lost old new waited text)
