-- The forms of words that the program takes, this project's own. The words are those behind the program's own name.
use Rattle.std.specs.Prelude.{ℕ, List, [], ◌∷◌, codes, Option, Some, None, option_map, if◌then◌else◌}
use Rattle.std.specs.Str.{bytes_eq}
use Rattle.vnff_base.specs.Numbers.{number_of}
use Rattle.split_queue.specs.declared.queue_place.Place.{Place}
use Rattle.vnff_run.specs.DrainWords.{place_from_words}
use Rattle.vnff_run.specs.LoadWords.{frame_count_of}
use Rattle.vnff_run.specs.declared.form.Form.{Form}
use Rattle.vnff_run.specs.declared.form.Form.TheVariants as forms

-- what the words ask for; each file by its name
pub data WordForm : Type 0 where
  Replay : (script : List ℕ) → WordForm
  Drain : (image : List ℕ) → (place : Place) → WordForm
  Compile : (device table : List ℕ) → WordForm
  Table : (device table capture : List ℕ) → WordForm
  Steer : (script capture : List ℕ) → WordForm
  Gen : (seed frames : ℕ) → WordForm

-- a load of a seed, where both words spell their numbers
abbrev pub load_with : Option ℕ → Option ℕ → Option WordForm
load_with (Some seed) (Some frames) = Some (Gen seed frames)
load_with _ _ = None

-- the load that the words behind `gen` ask for
unfoldable pub load_of : List ℕ → List ℕ → Option WordForm
load_of seed frames = load_with (number_of seed) (frame_count_of frames)

-- the form of the words: `replay SCRIPT`, `gen SEED N`, `compile DEVICE TABLE`, `steer SCRIPT CAPTURE`,
-- `table DEVICE TABLE CAPTURE` or `drain IMAGE SIZE DESC AVAIL USED`
unfoldable pub word_form : List (List ℕ) → Option WordForm
word_form (form ∷ script ∷ []) = if bytes_eq form (codes "replay") then Some (Replay script) else None
word_form (form ∷ first ∷ second ∷ []) =
    if bytes_eq form (codes "gen") then load_of first second
    else if bytes_eq form (codes "compile") then Some (Compile first second)
    else if bytes_eq form (codes "steer") then Some (Steer first second)
    else None
word_form (form ∷ device ∷ table ∷ capture ∷ []) =
    if bytes_eq form (codes "table") then Some (Table device table capture) else None
word_form (form ∷ image ∷ size ∷ desc ∷ avail ∷ used ∷ []) =
    if bytes_eq form (codes "drain") then option_map (Drain image) (place_from_words size desc avail used) else None
word_form _ = None

-- a form as the code keeps it
abbrev pub form_view : Form → WordForm
form_view (forms.Replay script) = Replay script.now
form_view (forms.Drain image place) = Drain image.now place
form_view (forms.Compile device table) = Compile device.now table.now
form_view (forms.Table device table capture) = Table device.now table.now capture.now
form_view (forms.Steer script capture) = Steer script.now capture.now
form_view (forms.Gen seed frames) = Gen seed frames
