-- What one read of the published tables gives. This project's own; the first matching rule is that of ff_headers.
use Rattle.std.specs.Prelude.{◌≡◌, List, [], ◌∷◌, All}
use Rattle.ff_headers.specs.Frames.{HeaderBytes}
use Rattle.ff_headers.specs.Objects.{FlowObjects}
use Rattle.ff_headers.specs.Places.{action_of}
use Rattle.ff_headers.specs.Changes.{after, change_count, saturated}
use Rattle.ff_headers.specs.declared.limits.Limits.{Limits}
use Rattle.ff_headers.specs.declared.change.Change.{Change}
use Rattle.matcher.specs.Findings.{found_in}
use Rattle.snapshots.specs.Lists.{Covers}
use Rattle.snapshots.specs.declared.seen.Seen.{Seen}

-- the objects after all changes of the list
abbrev pub objects_after : Limits → List Change → FlowObjects
objects_after limits list = after limits list (change_count list)

-- what tables after these changes give for a frame's headers
abbrev pub seen_after : Limits → List Change → HeaderBytes → Seen
seen_after limits list headers = record {
  after = saturated (change_count list);
  action = action_of (objects_after limits list) headers;
  rule = (found_in (objects_after limits list) headers).rule;
}

-- a read whose floors were `before` and are `now`: they are the one list that was entered, which covers each from
-- before
pub record IsRead (limits : Limits) (before now : List (List Change)) (headers : HeaderBytes) (seen : Seen)
    : Type 0 where
  pub list : List Change
  pub floors : now ≡ list ∷ []
  pub covers : All (Covers list) before
  pub value : seen ≡ seen_after limits list headers
