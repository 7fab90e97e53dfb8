-- What commands leave on the side that carries them out. This project's own.
use Rattle.std.specs.Prelude.{ℕ, ◌≡◌, ◌+◌, List, length, take, vec_capacity}
use Rattle.cap_table.specs.States.{DeviceState}
use Rattle.steer.specs.LiveSteps.{HasRun}
use Rattle.steer.specs.Results.{replies_in}
use Rattle.steer.specs.declared.admin_line.AdminLine.{AdminLine}
use Rattle.steer.specs.declared.admin_side.AdminSide.{AdminSide}

-- the first commands, up to a place, were carried out from a state
abbrev pub HasRunTo : DeviceState → List AdminLine → ℕ → AdminSide → Type 0
HasRunTo start lines to side =
    HasRun start (take to lines) (replies_in side.replies.items) side.device side.end.list

-- the commands from one place up to another were carried out: where all before them were, all up to there are
pub record HasCarriedOut (lines : List AdminLine) (first last : ℕ) (before now : AdminSide) : Type 0 where
  pub run : (start : DeviceState) → HasRunTo start lines first before → HasRunTo start lines last now
  pub identity : now.end.identity ≡ before.end.identity
  pub limits : now.end.limits ≡ before.end.limits
  pub kept : take (length before.replies.items) now.replies.items ≡ before.replies.items
  pub longer : length now.replies.items + first ≡ length before.replies.items + last
  pub capacity : vec_capacity now.replies ≡ vec_capacity before.replies
