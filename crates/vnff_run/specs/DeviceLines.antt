-- The first two lines of a script, the version's and the device's. This project's own.
use Rattle.std.specs.Prelude.{ℕ, Bool, false, not, ◌&&◌, if◌then◌else◌, List, [], ◌∷◌, codes, Result, Ok, Err}
use Rattle.std.specs.Str.{bytes_eq}
use Rattle.cap_table.specs.Caps.{CapsParts, all_selectors, greatest_limits, most_pairs}
use Rattle.cap_table.specs.declared.start.Start.{Start}
use Rattle.cap_table.specs.declared.start.Start.TheVariants.{Ready, Reset}
use Rattle.vnff_run.specs.Results.{◌>>=◌}
use Rattle.vnff_run.specs.Words.{number_within}
use Rattle.vnff_run.specs.declared.script.DeviceLine.{DeviceLine}
use Rattle.vnff_run.specs.declared.error.Reason.{Reason}
use Rattle.vnff_run.specs.declared.error.Reason.TheVariants.{Device, Number}

-- `vnff 1`
unfoldable pub is_version : List (List ℕ) → Bool
is_version (name ∷ version ∷ []) = bytes_eq name (codes "vnff") && bytes_eq version (codes "1")
is_version _ = false

-- the word of a start
abbrev pub start_word : Start → List ℕ
start_word Ready = codes "ready"
start_word Reset = codes "reset"

-- the start that a word names
unfoldable pub start_of : List ℕ → Result Start Reason
start_of word =
    if bytes_eq word (start_word Ready) then Ok Ready
    else if bytes_eq word (start_word Reset) then Ok Reset
    else Err Device

-- the device's queue pairs and limits; it has all five selectors
unfoldable pub caps_of : List ℕ → List ℕ → List ℕ → List ℕ → List ℕ → List ℕ → List ℕ → Result CapsParts Reason
caps_of pairs groups classifiers rules per_group last_priority selectors = do
  p ← number_within Number 1 most_pairs pairs
  g ← number_within Number 0 greatest_limits.groups groups
  c ← number_within Number 0 greatest_limits.classifiers classifiers
  r ← number_within Number 0 greatest_limits.rules rules
  m ← number_within Number 0 greatest_limits.per_group per_group
  l ← number_within Number 0 greatest_limits.last_priority last_priority
  s ← number_within Number 0 greatest_limits.selectors selectors
  Ok (record {
    pairs = p;
    limits = record { groups = g; classifiers = c; rules = r; per_group = m; last_priority = l; selectors = s };
    selectors = all_selectors;
  })

-- `device PAIRS GROUPS CLASSIFIERS RULES PERGROUP LAST SELECTORS START`
unfoldable pub device_of : List (List ℕ) → Result DeviceLine Reason
device_of (name ∷ pairs ∷ groups ∷ classifiers ∷ rules ∷ per_group ∷ last_priority ∷ selectors ∷ start ∷ []) =
    if not (bytes_eq name (codes "device")) then Err Device
    else do
      s ← start_of start
      caps ← caps_of pairs groups classifiers rules per_group last_priority selectors
      Ok (record { caps = caps; start = s })
device_of _ = Err Device
