-- What one entry of the writer's queue does to a copy of the tables. This project's own.
use Rattle.matcher.specs.Tables.{applied}
use Rattle.snapshots.specs.declared.copied.Copied.{Copied}
use Rattle.snapshots.specs.declared.copied.Entry.{Entry}
use Rattle.snapshots.specs.declared.copied.Entry.TheVariants.{Blank, Made}

-- a blank entry leaves the copy; a change is made to the tables, which then stand for the longer list
abbrev pub with_logged : Copied → Entry → Copied
with_logged copied Blank = copied
with_logged copied (Made change trail) = record { tables = applied copied.tables change; trail = trail }

-- the entry is of a change
abbrev pub HasChange : Entry → Type 0
HasChange Blank = ⊥
HasChange (Made change trail) = Unit {0}
