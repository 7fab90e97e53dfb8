-- What follows from several calls of a sink, one after another.
use Rattle.std.proofs.Common.{◌≡◌, ℕ, ◌≤◌, List, [], ◌++◌, Option, None, Some, option_map, IfSome, refl, ap, sym, ◌∙◌, subst, append_assoc, append-nil, arith, ⊎_elim}
use Rattle.vnff_base.specs.Counts.{count_with, Rose}
use Rattle.rx_sinks.specs.Sinks.{SinkState, appended, finished, Follows, IsFinished}

-- frames with more behind them, and then more again
option_append : (frames : Option (List (List ℕ))) (xs ys : List (List ℕ)) → option_map (λ fs. fs ++ ys) (option_map (λ fs. fs ++ xs) frames) ≡ option_map (λ fs. fs ++ (xs ++ ys)) frames
option_append None xs ys = refl
option_append (Some frames) xs ys = ap Some (append_assoc frames xs ys)

option_append_none : (frames : Option (List (List ℕ))) → option_map (λ fs. fs ++ []) frames ≡ frames
option_append_none None = refl
option_append_none (Some frames) = ap Some (append-nil frames)

-- a sink with these frames in the place of its own
with_frames : SinkState → Option (List (List ℕ)) → SinkState
with_frames sink frames = record sink { frames = frames }

-- No frame is delivered, and frames behind frames.
pub appended-nil : (sink : SinkState) → appended sink [] ≡ sink
unfolding with_frames
appended-nil sink = ap (with_frames sink) (option_append_none sink.frames)

pub appended-append : (sink : SinkState) (xs ys : List (List ℕ)) → appended (appended sink xs) ys ≡ appended sink (xs ++ ys)
unfolding with_frames
appended-append sink xs ys = ap (with_frames sink) (option_append sink.frames xs ys)

-- A sink follows itself, and what follows one that follows a third.
same_frames : (frames : Option (List (List ℕ))) → IfSome frames (λ fs. frames ≡ Some fs)
same_frames None = tt
same_frames (Some fs) = refl

pub follows-same : (sink : SinkState) → Follows sink sink
follows-same sink = record { frames = same_frames sink.frames; faults = omega arith; ends = refl; gives = refl }

frames-later : (a b c : Option (List (List ℕ))) → IfSome b (λ fs. a ≡ Some fs) → IfSome c (λ fs. b ≡ Some fs) → IfSome c (λ fs. a ≡ Some fs)
frames-later a b None first second = tt
frames-later a b (Some fs) first second = subst (λ o. IfSome o (λ gs. a ≡ Some gs)) second first

pub follows-later : {a b c : SinkState} → Follows a b → Follows b c → Follows a c
follows-later {a = a} {b = b} {c = c} first second = record {
  frames = frames-later a.frames b.frames c.frames first.frames second.frames;
  faults = omega (arith, first.faults, second.faults);
  ends = second.ends ∙ first.ends;
  gives = second.gives ∙ first.gives;
}

-- More frames, or one more finish, of a sink that follows another.
frames-appended : (a b : Option (List (List ℕ))) (more : List (List ℕ)) → IfSome b (λ fs. a ≡ Some fs) → IfSome (option_map (λ fs. fs ++ more) b) (λ fs. option_map (λ gs. gs ++ more) a ≡ Some fs)
frames-appended a None more follows = tt
frames-appended a (Some fs) more follows = ap (option_map (λ gs. gs ++ more)) follows

pub follows-appended : {a b : SinkState} (more : List (List ℕ)) → Follows a b → Follows (appended a more) (appended b more)
follows-appended {a = a} {b = b} more follows =
    record { frames = frames-appended a.frames b.frames more follows.frames; faults = follows.faults; ends = follows.ends; gives = follows.gives }

pub follows-finished : {a b : SinkState} → Follows a b → Follows (finished a) (finished b)
follows-finished follows =
    record { frames = follows.frames; faults = follows.faults; ends = ap (option_map (λ n. count_with n 1)) follows.ends; gives = follows.gives }

-- A sink that was finished follows the one before, finished.
pub finished_follows : (a b : SinkState) → IsFinished a b → Follows (finished a) b
finished_follows a b ended = ⊎_elim (λ same. subst (Follows (finished a)) (sym same) (follows-same (finished a))) (λ failed. failed.follows) ended

-- A count that rose has risen after a later call, and before it.
pub rose_later : (a b c : ℕ) → Rose a b → b ≤ c → Rose a c
rose_later a b c rose later = omega (arith, rose, later)

pub rose_before : (a b c : ℕ) → a ≤ b → Rose b c → Rose a c
rose_before a b c before rose = omega (arith, before, rose)
