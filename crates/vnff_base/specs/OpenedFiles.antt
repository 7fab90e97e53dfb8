-- A file of the system that is read, as the shelf of real files keeps it. This project's own.
use Rattle.std.specs.Prelude.{◌≡◌, ℕ, List, string_bytes}
use Rattle.vnff_base.specs.declared.dir_shelf.OpenedFile.{OpenedFile}

-- The file is that of a path, and its next byte is the one at a place.
abbrev pub IsOpenAt : {F : Type 0} → List ℕ → ℕ → OpenedFile F → Type 0
IsOpenAt path at opened = (string_bytes opened.path ≡ path) × (opened.place ≡ at)
