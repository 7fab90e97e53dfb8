-- The words of a live run, this project's own: `live WORKERS FIRST SCRIPT CAPTURE`.
use Rattle.std.specs.Prelude.{ℕ, ◌&&◌, if◌then◌else◌, nat_le, List, [], ◌∷◌, codes, Option, Some, None, option_and_then}
use Rattle.std.specs.Str.{bytes_eq}
use Rattle.vnff_base.specs.Numbers.{number_of}
use Rattle.vnff_run.specs.declared.live_words.LiveForm.{LiveForm}

-- the most workers
abbrev pub most_workers : ℕ
most_workers = 16

-- the most commands that words can ask to be carried out before any frame
abbrev pub most_first : ℕ
most_first = 4294967295

-- how many workers classify, how many commands are carried out before any frame, and each file by its name
pub record LiveWords : Type 0 where
  pub workers : ℕ
  pub first : ℕ
  pub script : List ℕ
  pub capture : List ℕ

-- the number of workers that a word spells: 1 to 16
unfoldable pub workers_of : List ℕ → Option ℕ
workers_of word =
    option_and_then (λ n. if nat_le 1 n && nat_le n most_workers then Some n else None) (number_of word)

-- the number of first commands that a word spells
unfoldable pub first_of : List ℕ → Option ℕ
first_of word = option_and_then (λ n. if nat_le n most_first then Some n else None) (number_of word)

-- the words with these two numbers
abbrev pub live_with : Option ℕ → Option ℕ → List ℕ → List ℕ → Option LiveWords
live_with (Some workers) (Some first) script capture =
    Some (record { workers = workers; first = first; script = script; capture = capture })
live_with _ _ script capture = None

-- what the words ask for, where they ask for a live run
unfoldable pub live_of : List (List ℕ) → Option LiveWords
live_of (form ∷ workers ∷ first ∷ script ∷ capture ∷ []) =
    if bytes_eq form (codes "live") then live_with (workers_of workers) (first_of first) script capture else None
live_of _ = None

-- the words as the code keeps them
abbrev pub live_view : LiveForm → LiveWords
live_view form = record {
  workers = form.workers;
  first = form.first;
  script = form.script.now;
  capture = form.capture.now;
}
